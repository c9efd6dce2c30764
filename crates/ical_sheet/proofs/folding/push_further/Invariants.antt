use Rattle.std.proofs.Common.{◌≡◌, ◌++◌, length, codes}
use Rattle.std.specs.List.{flat_map}
use Rattle.std.specs.Str.{IsUtf8}
use Rattle.ical_sheet.specs.Folding.{further_pieces}
use Rattle.ical_sheet.proofs.folding.push_further.Given as goal

abbrev pub invariant-loop-rest : goal.invariant-loop-rest
invariant-loop-rest l = record {
  utf8 : IsUtf8 l.rest;
  left : l.text.items ++ flat_map (λ piece. codes "\r\n " ++ piece) (further_pieces l.rest)
      ≡ l.fn.text.items ++ flat_map (λ piece. codes "\r\n " ++ piece) (further_pieces l.fn.further);
}

abbrev pub decreases-loop-rest : goal.decreases-loop-rest
decreases-loop-rest l = length l.rest
