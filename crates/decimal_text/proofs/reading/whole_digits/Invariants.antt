use Rattle.std.proofs.Common.{◌≡◌, ℕ, ◌^◌, ◌<◌, ◌≤◌, true, get_or, take, min}
use Rattle.std.specs.Char.{is_ascii_digit}
use Rattle.std.specs.Str.Parse.{digits_value}
use Rattle.decimal_text.proofs.reading.whole_digits.Given as goal

abbrev pub invariant-loop-count : goal.invariant-loop-count
invariant-loop-count l = record {
  digits : (k : ℕ) → k < l.count → is_ascii_digit (get_or l.body k 0) ≡ true;
  value : l.count ≤ 18 → l.value ≡ digits_value 10 (take l.count l.body);
  small : l.value < 10 ^ min l.count 18;
}
