use Rattle.std.proofs.Common.{◌∙◌, refl, sym}
use Rattle.tide_answer.proofs.ReadyLemmas.{plain_by, zone_none, zone_some}
use Rattle.tide_answer.proofs.events_answer.EventsAnswer.source.Goals as goal

pub new-stream-requires : goal.new-stream-requires
new-stream-requires c =
    let found = c.self.invariant.certifies in
    let zone = zone_some _ c.in-Some.zone c.self.inside.zone.now (sym c.in-Some.is ∙ c.streamed_zone.ensures) in
    rw (c.in_ok-name-in-Some.ensures, zone.1) (record {
      purpose = found.purpose;
      moments = found.moments;
      named = found.named;
      clock = c.self.invariant.clock;
      plain = (plain_by _ c.self.inside.found_station.basis c.self.inside.zone.now zone.0).0;
    })

pub returns-in_ok-name-in-Some : goal.returns-in_ok-name-in-Some
returns-in_ok-name-in-Some c =
    let zone = zone_some _ c.in-Some.zone c.self.inside.zone.now (sym c.in-Some.is ∙ c.streamed_zone.ensures) in
    let plain = (plain_by _ c.self.inside.found_station.basis c.self.inside.zone.now zone.0).1 in
    rw (← c.self.view_is, c.new-stream.ensures, c.in_ok-name-in-Some.ensures, zone.1, zone.0, plain) refl

pub returns-in-None : goal.returns-in-None
returns-in-None c =
    let none = zone_none _ c.self.inside.zone.now (sym c.in-None.is ∙ c.streamed_zone.ensures) in
    rw (← c.self.view_is, none) refl
