-- The pages about the program itself (this project; the options are the GNU coding standards').
use Rattle.std.specs.Prelude.{◌≡◌, ℕ, Bool, true, false, ◌||◌, if◌then◌else◌, List, [], ◌∷◌, codes, Option, Some, None, Result, Ok}
use Rattle.std.specs.List.{list_any}
use Rattle.std.specs.Str.{bytes_eq}
use Rattle.question.specs.Words.{asks_to_serve}
use Rattle.tide_answer.specs.declared.text.Answer.{Answer}
use Rattle.named_files.specs.declared.run_fault.RunFault.{RunFault}
use Rattle.tide.specs.declared.help.InfoPage.{InfoPage}
use Rattle.tide.specs.declared.help.InfoPage.TheVariants.{Help, Version}
use Rattle.tide.specs.PageTexts.{help_text, version_text}

-- the text of a page about the program itself: its help or its version
abbrev pub page_text : InfoPage → List ℕ
page_text Help = help_text
page_text Version = version_text

-- Bool: whether the argument `word` is an option, in its short or in its long form
abbrev pub is_option : List ℕ → List ℕ → List ℕ → Bool
is_option short long word = bytes_eq word short || bytes_eq word long

-- Bool: whether the argument `word` is the option for help, `-h` or `--help`
abbrev pub asks_for_help : List ℕ → Bool
asks_for_help word = is_option (codes "-h") (codes "--help") word

-- Bool: whether the argument `word` is the option for the version, `-V` or `--version`
abbrev pub asks_for_version : List ℕ → Bool
asks_for_version word = is_option (codes "-V") (codes "--version") word

-- Bool: whether the first argument is the option for the version, `-V` or `--version`
abbrev pub first_asks_for_version : List (List ℕ) → Bool
first_asks_for_version [] = false
first_asks_for_version (word ∷ words) = asks_for_version word

-- the page that the arguments request: the help if any argument is the option for it, else the version
-- if the first argument is the option for it, else None
abbrev pub page_of : List (List ℕ) → Option InfoPage
page_of words =
    if list_any asks_for_help words then Some Help
    else if first_asks_for_version words then Some Version
    else None

-- ---- The three kinds of arguments

-- a page about the program (its help or its version), as the answer of a run
abbrev pub page_answer : InfoPage → Result Answer RunFault
page_answer page = Ok (record { text = page_text page; rejected = false; cells = 0 })

-- the arguments request neither the help nor the version, and their command isn't `serve`
abbrev pub AsksAnswer : List (List ℕ) → Type 0
AsksAnswer words = (page_of words ≡ None) × (asks_to_serve words ≡ false)

-- the arguments request neither the help nor the version, and their command is `serve`
abbrev pub AsksService : List (List ℕ) → Type 0
AsksService words = (page_of words ≡ None) × (asks_to_serve words ≡ true)
