use Rattle.std.proofs.Common.{◌≡◌, drop, encode_utf8_all}
use Rattle.std.specs.Str.{bytes_eq}
use Rattle.harmonics_text.proofs.names.is_name.Given as goal

abbrev pub invariant-loop-b : goal.invariant-loop-b
invariant-loop-b l = bytes_eq (encode_utf8_all (drop l.b-index l.latin)) l.rest ≡ bytes_eq (encode_utf8_all l.latin) l.name
