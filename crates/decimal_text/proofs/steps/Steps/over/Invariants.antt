use Rattle.std.proofs.Common.{◌≡◌, true, take}
use Rattle.std.specs.List.{list_all}
use Rattle.std.specs.Char.{is_ascii_digit}
use Rattle.std.specs.Str.Parse.{digits_value}
use Rattle.decimal_text.specs.Workings.Steps.{DigitsInvariant}
use Rattle.decimal_text.proofs.steps.Steps.over.Given as goal

abbrev pub invariant-loop-byte : goal.invariant-loop-byte
invariant-loop-byte l =
    let read = take l.byte-index l.fraction in
    record {
      digits : list_all is_ascii_digit read ≡ true;
      digits_invariant : DigitsInvariant l.places l.byte-index (digits_value 10 read) l.steps;
    }
