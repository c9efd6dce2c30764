-- Texts that are appended one after the other.
use Rattle.std.proofs.Common.{◌≡◌, ℕ, ◌/◌, ◌%◌, ℤ, List, ◌++◌, codes, append_assoc}
use Rattle.zone_time.specs.Dates.{date_of, date_text, two_digits}

pub three-appended : (old a b c x y z : List ℕ) → a ≡ old ++ x → b ≡ a ++ y → c ≡ b ++ z → c ≡ old ++ (x ++ y ++ z)
three-appended old a b c x y z first second third = rw (third, second, first) (simp append_assoc)

six-appended : (old a b c d e f u v w x y z : List ℕ) → a ≡ old ++ u → b ≡ a ++ v → c ≡ b ++ w → d ≡ c ++ x → e ≡ d ++ y
    → f ≡ e ++ z → f ≡ old ++ (u ++ v ++ w ++ x ++ y ++ z)
six-appended old a b c d e f u v w x y z first second third fourth fifth sixth =
    rw (sixth, fifth, fourth, third, second, first) (simp append_assoc)

-- the parts of a date
pub date-appended : (day : ℤ) (year month number : ℕ) (old a b c d e f : List ℕ) → year ≡ (date_of day).year
    → month ≡ (date_of day).month → number ≡ (date_of day).day → a ≡ old ++ two_digits (year / 100)
    → b ≡ a ++ two_digits (year % 100) → c ≡ b ++ codes "-" → d ≡ c ++ two_digits month → e ≡ d ++ codes "-"
    → f ≡ e ++ two_digits number → f ≡ old ++ date_text day
unfolding date_text
date-appended day year month number old a b c d e f is_year is_month is_day first second third fourth fifth sixth =
    rw (← is_year, ← is_month, ← is_day)
    (six-appended old a b c d e f (two_digits (year / 100)) (two_digits (year % 100)) (codes "-") (two_digits month) (codes "-")
    (two_digits number) first second third fourth fifth sixth)
