use Rattle.std.proofs.Common.{codes, ◌∙◌}
use Rattle.listing.proofs.AppendLemmas.{four-appended}
use Rattle.listing.proofs.about.names.Goals as goal

pub returns : goal.returns
returns c =
    four-appended _ _ _ _ c.args.name.now (codes "\nreference ") c.args.reference.now (codes "\n")
    (c.in_ok-text.ensures.ok ∙ c.as_str.ensures) c.in_ok-push_str.ensures.bytes
    (rw c.as_str-2.ensures at c.in_ok-push_str-2.ensures.bytes) c.in_ok-push_str-3.ensures.bytes
