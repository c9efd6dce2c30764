use Rattle.std.proofs.Common.{◌≡◌, take}
use Rattle.std.specs.Prelude.{encode_utf8_all, string_bytes}
use Rattle.harmonics_text.proofs.names.utf8_of.Given as goal

abbrev pub invariant-loop-b : goal.invariant-loop-b
invariant-loop-b l = string_bytes l.text ≡ encode_utf8_all (take l.b-index l.latin)
