-- The arguments of a command line as a command with items (this project).
use Rattle.std.specs.Prelude.{ℕ, ◌==◌, Bool, false, if◌then◌else◌, List, [], ◌∷◌, drop, map, slice_get, Some, None}
use Rattle.std.specs.List.{before_first, after_first, list_any}
use Rattle.std.specs.Str.{bytes_eq}
use Rattle.question.specs.declared.command.Command.TheVariants.{Serve}
use Rattle.question.specs.declared.origin.Origin.TheVariants.{Line}
use Rattle.question.specs.declared.pairs.Item.{Item}
use Rattle.question.specs.declared.pairs.Pairs.{Pairs}
use Rattle.question.specs.Commands.{word_of}

-- True if the byte is `=` (61).
abbrev pub is_equals_sign : ℕ → Bool
is_equals_sign byte = byte == 61

-- The key and the value of an argument, which is split at its first `=`. An argument without `=` is
-- a key without a value.
abbrev pub item_of : List ℕ → Item
item_of word =
    if list_any is_equals_sign word
    then record { key = before_first is_equals_sign word; value = Some (after_first is_equals_sign word) }
    else record { key = word; value = None }

-- The arguments of a command line as a command, which is the first argument (None if there isn't
-- one), and the items of the other arguments.
abbrev pub pairs_of : List (List ℕ) → Pairs
pairs_of words = record { origin = Line; command = slice_get words 0; items = map item_of (drop 1 words) }

-- True if the first argument is `serve`, the command of the web server.
abbrev pub asks_to_serve : List (List ℕ) → Bool
asks_to_serve [] = false
asks_to_serve (word ∷ words) = bytes_eq word (word_of Serve)
