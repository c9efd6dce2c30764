-- The request of a path and a query (URL Standard, section 5; the commands and the keys are this
-- project's).
use Rattle.std.specs.Prelude.{ℕ, List, map, drop, Some}
use Rattle.std.specs.Str.Lossy.{utf8_lossy}
use Rattle.form_urlencoded.specs.Form.{raw_pairs, decode}
use Rattle.question.specs.declared.origin.Origin.TheVariants.{Query}
use Rattle.question.specs.declared.pairs.Item.{Item}
use Rattle.question.specs.declared.pairs.Pairs.{Pairs}
use Rattle.http_rows.specs.Rows.{Asking}

-- the text of a name or value in the query of a URL, decoded; bytes that aren't UTF-8 become U+FFFD
unfoldable pub decoded_text : List ℕ → List ℕ
decoded_text encoded = utf8_lossy (decode encoded)

-- a decoded pair of a key and its value, which may be empty, from an encoded pair in the query of a URL
abbrev pub item_of : List ℕ × List ℕ → Item
item_of pair = record { key = decoded_text pair.0; value = Some (decoded_text pair.1) }

-- the decoded pairs of keys and values in the query of a URL
abbrev pub items_of : List ℕ → List Item
items_of query = map item_of (raw_pairs query)

-- the command and the arguments that a web request gives: the command is its path without the `/`, and
-- the arguments are the pairs of its query
abbrev pub pairs_of : Asking → Pairs
pairs_of asking = record { origin = Query; command = Some (drop 1 asking.path); items = items_of asking.query }
