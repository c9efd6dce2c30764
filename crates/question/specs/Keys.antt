-- The table of a question's keys (this project).
use Rattle.std.specs.Prelude.{ℕ, Bool, true, false, ◌&&◌, List, [], ◌∷◌, codes, ℤ, pos, Option, unwrap_or}
use Rattle.std.specs.List.{find}
use Rattle.std.specs.Str.{bytes_eq}
use Rattle.zone_time.specs.Moments.{moment_of}
use Rattle.question.specs.declared.command.Command.{Command}
use Rattle.question.specs.declared.command.Command.TheVariants.{
  Predict,
  Certify,
  Check,
  Heights,
  Calendar,
  Clock,
  Stations,
  Sample,
  Trial,
  Serve,
  Report,
  Highest,
  Peak,
  PeakCheck,
  About,
}
use Rattle.question.specs.declared.key.Key.{Key}
use Rattle.question.specs.declared.key.Key.TheVariants as key
use Rattle.question.specs.declared.origin.Origin.{Origin}
use Rattle.question.specs.declared.origin.Origin.TheVariants.{Line, Query}
use Rattle.question.specs.declared.layout.Layout.{Layout}
use Rattle.question.specs.declared.layout.Layout.TheVariants.{Plain}
use Rattle.question.specs.declared.question.ZoneWord.{ZoneWord}
use Rattle.question.specs.declared.question.ZoneWord.TheVariants.{Utc}
use Rattle.question.specs.Commands.{is_among}
use Rattle.question.specs.Origins.{is_one_of}
use Rattle.question.specs.Forms.{some_text, mark_of, step_of, zone_of, seed_of, port_of, sheets_of}
use Rattle.question.specs.Layouts.{layout_of}

-- All keys, in the order in which a missing one is reported.
abbrev pub all_keys : List Key
all_keys =
    key.File ∷ key.Offsets ∷ key.Certificate ∷ key.Station ∷ key.Begin ∷ key.End ∷ key.Mark ∷ key.Step ∷ key.Zone
    ∷ key.Layout ∷ key.Seed ∷ key.Port ∷ key.Sheets ∷ []

-- The name of each key, as it is written before `=`.
abbrev pub name_of : Key → List ℕ
name_of key.File = codes "file"
name_of key.Offsets = codes "offsets"
name_of key.Certificate = codes "certificate"
name_of key.Station = codes "station"
name_of key.Begin = codes "begin"
name_of key.End = codes "end"
name_of key.Mark = codes "mark"
name_of key.Step = codes "step"
name_of key.Zone = codes "zone"
name_of key.Layout = codes "layout"
name_of key.Seed = codes "seed"
name_of key.Port = codes "port"
name_of key.Sheets = codes "sheets"

-- The type of the value of each key.
abbrev pub Value : Key → Type 0
Value key.File = List ℕ
Value key.Offsets = List ℕ
Value key.Certificate = List ℕ
Value key.Station = List ℕ
Value key.Begin = ℤ
Value key.End = ℤ
Value key.Mark = ℤ
Value key.Step = ℤ
Value key.Zone = ZoneWord
Value key.Layout = Layout
Value key.Seed = ℕ
Value key.Port = ℕ
Value key.Sheets = List (List ℕ)

-- The type of the question's field for each key: the value's type if the key has a default, else an
-- optional value.
abbrev pub Field : Key → Type 0
Field key.Step = ℤ
Field key.Zone = ZoneWord
Field key.Layout = Layout
Field key.Port = ℕ
Field k = Option (Value k)

-- How a command needs a key with values of type V and a question's field of type F. `is_needed`:
-- the key is required; `field`: the question's field for the key's value, or for None if the key
-- isn't given.
pub record Need (V F : Type 0) : Type 0 where
  pub is_needed : Bool
  pub field : Option V → F

-- A key that is required and has no default: the question's field is the value, or None if the key
-- isn't given.
abbrev pub needed : {V : Type 0} → Need V (Option V)
needed = record { is_needed = true; field = λ value. value }

-- A key that isn't required and has no default: the question's field is the value, or None.
abbrev pub optional : {V : Type 0} → Need V (Option V)
optional = record { is_needed = false; field = λ value. value }

-- A key that isn't required: the question's field is the value, or the default if the key isn't
-- given.
abbrev pub otherwise : {V : Type 0} → V → Need V V
otherwise default = record { is_needed = false; field = λ value. unwrap_or value default }

-- A row of the table of keys. `commands` and `origins`: the commands and the origins of questions
-- (command line, web query) that have the key; `form`: the value that a text writes in a question
-- of an origin, or None; `need`: whether the key is required, and the question's field.
pub record KeyRow (V F : Type 0) : Type 0 where
  pub commands : List Command
  pub origins : List Origin
  pub form : Origin → List ℕ → Option V
  pub need : Need V F

-- The row of the table of keys with these commands, origins, form and need.
abbrev pub row : {V F : Type 0} → List Command → List Origin → (Origin → List ℕ → Option V) → Need V F → KeyRow V F
row commands origins form need = record { commands = commands; origins = origins; form = form; need = need }

-- The form of values (the value that a text writes, or None) that is the same for each origin of
-- questions.
abbrev pub always : {V : Type 0} → (List ℕ → Option V) → Origin → List ℕ → Option V
always form origin text = form text

-- The origins of questions that can name files: only a command line.
abbrev pub in_line : List Origin
in_line = Line ∷ []

-- All origins of questions: a command line, and a web query.
abbrev pub anywhere : List Origin
anywhere = Line ∷ Query ∷ []

-- The commands that read a file of harmonic constants.
abbrev pub of_file : List Command
of_file =
    Predict ∷ Certify ∷ Check ∷ Heights ∷ Calendar ∷ Clock ∷ Stations ∷ Serve ∷ Report ∷ Highest ∷ Peak ∷ PeakCheck ∷ About ∷ []

-- The commands that have the key `station`.
abbrev pub of_station : List Command
of_station = Predict ∷ Certify ∷ Heights ∷ Calendar ∷ Clock ∷ Report ∷ Highest ∷ Peak ∷ About ∷ []

-- The commands that have the keys `begin` and `end`.
abbrev pub of_span : List Command
of_span = Predict ∷ Certify ∷ Heights ∷ Calendar ∷ Report ∷ Highest ∷ Peak ∷ []

-- The commands that have the key `certificate`.
abbrev pub of_check : List Command
of_check = Check ∷ PeakCheck ∷ []

-- the commands that have the key `mark`
abbrev pub of_mark : List Command
of_mark = Predict ∷ Certify ∷ Calendar ∷ Report ∷ []

-- the commands that have the key `step`
abbrev pub of_step : List Command
of_step = Heights ∷ []

-- the commands that have the key `zone`
abbrev pub of_zone : List Command
of_zone = Predict ∷ Check ∷ Heights ∷ Calendar ∷ Clock ∷ Highest ∷ []

-- the commands that have the key `layout` (columns or comma-separated values)
abbrev pub of_layout : List Command
of_layout = Predict ∷ Heights ∷ []

-- the commands that have the key `seed`
abbrev pub of_seed : List Command
of_seed = Sample ∷ Trial ∷ []

-- the commands that have the key `port`
abbrev pub of_port : List Command
of_port = Serve ∷ []

-- the commands that have the key `sheets`
abbrev pub of_sheets : List Command
of_sheets = Report ∷ []

-- The table of keys: for each key the commands and the origins that have it, the form of its value,
-- and whether it is required or its default.
abbrev pub row_of : (k : Key) → KeyRow (Value k) (Field k)
row_of key.File = row of_file in_line (always some_text) needed
row_of key.Offsets = row of_file in_line (always some_text) optional
row_of key.Certificate = row of_check in_line (always some_text) needed
row_of key.Station = row of_station anywhere (always some_text) needed
row_of key.Begin = row of_span anywhere (always moment_of) needed
row_of key.End = row of_span anywhere (always moment_of) needed
row_of key.Mark = row of_mark anywhere (always mark_of) optional
row_of key.Step = row of_step anywhere (always step_of) (otherwise (pos 60))
row_of key.Zone = row of_zone anywhere zone_of (otherwise Utc)
row_of key.Layout = row of_layout anywhere (always layout_of) (otherwise Plain)
row_of key.Seed = row of_seed anywhere (always seed_of) needed
row_of key.Port = row of_port anywhere (always port_of) (otherwise 8080)
row_of key.Sheets = row of_sheets anywhere (always sheets_of) needed

-- True if the command has the key in questions of this origin.
abbrev pub has_key : Origin → Command → Key → Bool
has_key origin command k = is_one_of (row_of k).origins origin && is_among (row_of k).commands command

-- True if the command requires the key in questions of this origin. A key that it doesn't have in
-- such questions isn't required.
abbrev pub is_needed : Origin → Command → Key → Bool
is_needed origin command k = (row_of k).need.is_needed && has_key origin command k

-- The key called `name` that the command has in questions of this origin, or None if there isn't
-- one.
abbrev pub key_named : Origin → Command → List ℕ → Option Key
key_named origin command name = find (λ k. bytes_eq (name_of k) name && has_key origin command k) all_keys
