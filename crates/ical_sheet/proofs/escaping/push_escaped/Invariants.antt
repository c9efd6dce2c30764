use Rattle.std.proofs.Common.{◌≡◌, ◌++◌, string_bytes}
use Rattle.std.proofs.Math.Utf8.{encodes}
use Rattle.ical_sheet.specs.Escaping.{escaped}
use Rattle.ical_sheet.proofs.escaping.push_escaped.Given as goal

abbrev pub invariant-loop-letter : goal.invariant-loop-letter
invariant-loop-letter l = string_bytes l.out ≡ string_bytes l.fn.out ++ escaped (encodes l.yielded)
