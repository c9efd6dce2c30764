use Rattle.cert_text.proofs.reading.read_slack.Goals as goal

pub returns : goal.returns
returns c = rw (c.is_next.ensures, c.heading.ensures) at c.read_track_if.ensures
