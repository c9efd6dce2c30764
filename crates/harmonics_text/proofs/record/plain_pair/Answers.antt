use Rattle.std.proofs.Common.{◌≡◌, pos, Bool, true, cond, sym, ap, ◌∙◌, rules}
use Rattle.std.specs.Prelude.{FitsSigned, ◌||◌}
use Rattle.std.specs.Int.{w64}
use Rattle.std.proofs.lemmas.Int.{to_z-of_z}
use Rattle.harmonics_text.specs.Rules.{is_absent, is_name}
use Rattle.harmonics_text.proofs.Values.{pair_is}
use Rattle.harmonics_text.proofs.record.plain_pair.Goals as goal

pub returns-in-None : goal.returns-in-None
returns-in-None c =
    let first = c.in_ok-first.first.now in
    let a = c.in_ok-amplitude.amplitude in
    let e = c.in_ok-epoch.epoch in
    let fits : FitsSigned w64 a = search rules in
    let fits_epoch : FitsSigned w64 e = search rules in
    let pair : c.pair.result ≡ cond c.is_absent.result (pos 0, pos 0) (a, e) = simp to_z-of_z at c.pair.ensures in
    let same : c.pair.result ≡ cond (is_absent first) (pos 0, pos 0) (a, e) =
    pair ∙ ap (λ (b : Bool). cond b (pos 0, pos 0) (a, e)) c.is_absent.ensures in
    let known : (is_absent first || is_name first c.args.name.now) ≡ true = sym c.is_for.ensures ∙ c.if-not-is_for.false in
    rw same (pair_is c.args.name.now c.args.text.now first c.in_ok-first.rest.now c.without_padding.result.now
    c.in_ok-amplitude.second.now c.in_ok-epoch.third.now a e c.in_ok-first.ensures.exact c.without_padding.ensures known
    c.in_ok-amplitude.ensures c.in_ok-epoch.ensures c.in-None.ensures.exact)
