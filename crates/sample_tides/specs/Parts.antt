-- Texts with numbers drawn from a generator, made of parts (this project).
use Rattle.std.specs.Prelude.{ℕ, zero, suc, ◌+◌, List, ◌++◌, codes}
use Rattle.sample_tides.specs.Generator.{next, scaled_to}

-- the bytes of the text written until now, and the state of the generator
pub record SampleWriter : Type 0 where
  pub text : List ℕ
  pub state : ℕ

-- a part of a text: it appends to the text, and it may advance the generator
abbrev pub Part : Type 0
Part = SampleWriter → SampleWriter

-- `first >> then`: the part `first` and then the part `then`
infixl 10 ◌>>◌
abbrev pub ◌>>◌ : Part → Part → Part
(first >> then) writer = then (first writer)

-- the part that appends this text
unfoldable pub append : List ℕ → Part
append text writer = record { text = writer.text ++ text; state = writer.state }

-- the part that appends this text and an LF
abbrev pub line : List ℕ → Part
line text = append (text ++ codes "\n")

-- the writer after the generator was advanced once
unfoldable pub moved : Part
moved writer = record { text = writer.text; state = next writer.state }

-- `draw bound writer`: a drawn number from 0 to bound - 1, and the writer after the draw, which
-- advances the generator once
abbrev pub draw : ℕ → SampleWriter → ℕ × SampleWriter
draw bound writer = (scaled_to bound (moved writer).state, moved writer)

-- `drawn >>= part`: a draw and then the part that depends on the drawn number
infixl 10 ◌>>=◌
abbrev pub ◌>>=◌ : (SampleWriter → ℕ × SampleWriter) → (ℕ → Part) → Part
(drawn >>= part) writer = part (drawn writer).0 (drawn writer).1

-- `each first count part`: the parts for the `count` numbers from `first` on, in increasing order
unfoldable pub each : ℕ → ℕ → (ℕ → Part) → Part
each first zero part writer = writer
each first (suc more) part writer = part (first + more) (each first more part writer)
