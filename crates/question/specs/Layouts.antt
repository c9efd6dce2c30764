-- The layouts of a listing: their names (this project), and the media types of their texts (RFC
-- 2046, section 4.1.3, and RFC 4180, section 3).
use Rattle.std.specs.Prelude.{ℕ, if◌then◌else◌, List, codes, Option, Some, None}
use Rattle.std.specs.Str.{bytes_eq}
use Rattle.question.specs.declared.layout.Layout.{Layout}
use Rattle.question.specs.declared.layout.Layout.TheVariants.{Plain, Csv}

-- The layout called `plain` or `csv`, or None for another text.
unfoldable pub layout_of : List ℕ → Option Layout
layout_of text =
    if bytes_eq text (codes "plain") then Some Plain
    else if bytes_eq text (codes "csv") then Some Csv else None

-- The media type (RFC 6838) of texts in the layout.
abbrev pub media_type_of : Layout → List ℕ
media_type_of Plain = codes "text/plain"
media_type_of Csv = codes "text/csv"
