-- Runs of lines for constituents that a station doesn't have, which the code reads together.
use Rattle.std.specs.Prelude.{◌≡◌, ℕ, zero, suc, pos, ◌+◌, List, [], ◌∷◌, ◌++◌, replicate, codes}
use Rattle.harmonics_text.specs.declared.record.Constants.{Constants}
use Rattle.harmonics_text.specs.declared.book_parser.BookParser.{BookParser}
use Rattle.harmonics_text.specs.Workings.BookParsing.{IsBookParser}
use Rattle.harmonics_text.specs.Workings.Readers.{with_bytes}

-- the bytes of n lines `x 0 0`, each with its LF, as XTide's tools write for constituents that a
-- station doesn't have
unfoldable pub absent_lines : ℕ → List ℕ
absent_lines zero = []
absent_lines (suc n) = absent_lines n ++ (codes "x 0 0" ++ 10 ∷ [])

-- `with_absent n c`: the constants of a station with n more amplitudes and n more epochs, all 0
abbrev pub with_absent : ℕ → Constants → Constants
with_absent n c = record c { amplitude = c.amplitude ++ replicate n (pos 0); epoch = c.epoch ++ replicate n (pos 0) }

-- `HasRead d e count bytes rest`: true if reading the first `count` lines of the bytes leads from
-- the state d to the state e, and `rest` is the bytes after them. That is: e is valid, and reading
-- all the bytes in the state d has the same result as reading `rest` in the state e, if lines are
-- numbered from n in one and from n + `count` in the other.
pub record HasRead (d e : BookParser) (count : ℕ) (bytes rest : List ℕ) : Type 0 where
  pub valid : IsBookParser e
  pub same : (n : ℕ) → with_bytes d n bytes ≡ with_bytes e (n + count) rest
