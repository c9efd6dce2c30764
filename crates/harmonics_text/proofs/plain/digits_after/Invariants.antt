use Rattle.std.proofs.Common.{◌≡◌, ℕ, ◌%◌, ◌^◌, ◌<◌, true, get_or, take}
use Rattle.std.specs.Char.{is_ascii_digit}
use Rattle.std.specs.Str.Parse.{digits_value_after}
use Rattle.harmonics_text.proofs.plain.digits_after.Given as goal

abbrev pub invariant-loop-count : goal.invariant-loop-count
invariant-loop-count l = record {
  digits : (k : ℕ) → k < l.count → is_ascii_digit (get_or l.text k 0) ≡ true;
  value : l.value ≡ digits_value_after 10 l.before (take l.count l.text) % 2 ^ 64;
}
