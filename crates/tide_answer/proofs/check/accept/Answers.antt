use Rattle.tide_answer.proofs.check.accept.Goals as goal

pub push_plain_events-requires-clause-listed : goal.push_plain_events-requires-clause-listed
push_plain_events-requires-clause-listed c = rw c.args.found_station.now.unit c.in_ok-events.ensures.listed

pub returns : goal.returns
returns c =
    rw (
      c.from_vec.ensures,
      c.in_ok-push_plain_events.ensures,
      c.in_ok-text.ensures,
      c.in_ok-events.ensures.exact,
      c.args.found_station.now.unit,
      c.zone.ensures.exact,
    ) at c.text_alone.ensures
