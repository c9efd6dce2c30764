-- The origins of questions: a command line, and a web query (this project).
use Rattle.std.specs.Prelude.{Bool, true, false, List}
use Rattle.std.specs.List.{list_any}
use Rattle.question.specs.declared.origin.Origin.{Origin}
use Rattle.question.specs.declared.origin.Origin.TheVariants.{Line, Query}

-- True if both origins are the same.
abbrev pub is_same : Origin → Origin → Bool
is_same Line Line = true
is_same Line Query = false
is_same Query Line = false
is_same Query Query = true

-- True if the origin is in the list.
abbrev pub is_one_of : List Origin → Origin → Bool
is_one_of origins origin = list_any (λ o. is_same o origin) origins
