-- The paths of the server, each for GET and HEAD or for POST (this project).
use Rattle.std.specs.Prelude.{ℕ, Bool, true, false, List, [], ◌∷◌, Option, codes}
use Rattle.std.specs.List.{find}
use Rattle.std.specs.Str.{bytes_eq}
use Rattle.http_rows.specs.declared.path.Path.{Path}
use Rattle.http_rows.specs.declared.path.Path.TheVariants.{Predict, Certify, Heights, Calendar, Clock, Stations, Check}

-- the text of each path of the server, such as `/predict`
abbrev pub text_of : Path → List ℕ
text_of Predict = codes "/predict"
text_of Certify = codes "/certify"
text_of Heights = codes "/heights"
text_of Calendar = codes "/calendar"
text_of Clock = codes "/clock"
text_of Stations = codes "/stations"
text_of Check = codes "/check"

-- all paths of the server
abbrev pub all_paths : List Path
all_paths = Predict ∷ Certify ∷ Heights ∷ Calendar ∷ Clock ∷ Stations ∷ Check ∷ []

-- the path with the text `text`, or None if the server has no such path
abbrev pub path_named : List ℕ → Option Path
path_named text = find (λ path. bytes_eq (text_of path) text) all_paths

-- the server serves the path by POST (true) or by GET and HEAD (false)
abbrev pub is_posted : Path → Bool
is_posted Check = true
is_posted Predict = false
is_posted Certify = false
is_posted Heights = false
is_posted Calendar = false
is_posted Clock = false
is_posted Stations = false
