-- The texts of the pages about the program itself (this project).
use Rattle.std.specs.Prelude.{ℕ, List, [], ◌∷◌, ◌++◌, codes}
use Rattle.std.specs.List.{flat_map}

-- the text that `--version` prints
abbrev pub version_text : List ℕ
version_text = codes "tide 1.0.0\n"

-- a line of a page
abbrev line_text : List ℕ → List ℕ
line_text line = line ++ codes "\n"

-- the lines that `--help` prints
abbrev pub help_lines : List (List ℕ)
help_lines =
    codes "Predicts tides and tidal currents at a station, from harmonic constants."
    ∷ codes ""
    ∷ codes "Usage: tide COMMAND file=F [KEY=VALUE..]"
    ∷ codes "       tide --help | --version"
    ∷ codes ""
    ∷ codes "  predict   high and low waters, slacks, and when the level passes a mark"
    ∷ codes "  certify   a certificate that this list of events is complete"
    ∷ codes "  check     checks such a certificate, whoever wrote it"
    ∷ codes "  heights   levels at equal steps"
    ∷ codes "  calendar  the events day by day"
    ∷ codes "  clock     the level now, and the events of the next 24 hours"
    ∷ codes "  stations  the stations of a file"
    ∷ codes "  report    sheets of one list: a tally, the range, the first lines, a calendar"
    ∷ codes "  highest   the highest water of a span"
    ∷ codes "  peak      a certificate of the highest water"
    ∷ codes "  peakcheck checks such a certificate, whoever wrote it"
    ∷ codes "  about     a station's reference, unit, and how exact its turns are"
    ∷ codes "  sample    a made-up file of constants, from a seed; it needs no file"
    ∷ codes "  trial     predicts, certifies and checks with such a file, and prints counts"
    ∷ codes "  serve     a web server at 127.0.0.1, which answers until it is stopped"
    ∷ codes ""
    ∷ codes "  file         harmonic constants, in the form of XTide's text files"
    ∷ codes "  offsets      a table of subordinate stations (CSV)"
    ∷ codes "  station      the name of a station, as `stations` lists it"
    ∷ codes "  begin, end   the first minute, in UTC, as 2025-06-01T00:00Z, and the minute"
    ∷ codes "               before which the list ends"
    ∷ codes "  mark         also list when the level passes this one, in the station's unit"
    ∷ codes "  zone         UTC, an offset as -05:00, or @F for a time zone's file"
    ∷ codes "  layout       plain or csv"
    ∷ codes "  sheets       the sheets of a report, as tally,range,first,ical"
    ∷ codes "  step         minutes between heights; 60 if left out"
    ∷ codes "  certificate  the file to check"
    ∷ codes "  seed         a whole number"
    ∷ codes "  port         the server's port; 8080 if left out"
    ∷ codes ""
    ∷ codes "The pairs can have any order. An event has the time of the last whole minute"
    ∷ codes "before it, and the level of that minute. At a subordinate station mark, heights,"
    ∷ codes "clock, highest, peak need one offset for highs and lows (37 of XTide's 3,387)."
    ∷ codes ""
    ∷ codes "Example, with the package's constants (the sources have them in examples/):"
    ∷ codes "  tide predict file=/usr/share/tide/harbours.txt \\"
    ∷ codes "    station='Boston, Boston Harbor, Massachusetts' \\"
    ∷ codes "    begin=2025-06-01T04:00Z end=2025-06-08T04:00Z zone=-04:00"
    ∷ codes ""
    ∷ codes "Status: 0 done, 1 certificate rejected, 2 bad arguments, 3 bad file,"
    ∷ codes "4 no answer, 5 beyond a limit, 6 can't read, 7 can't write, 8 no memory."
    ∷ codes "For 2 to 8 a line on standard error says why; the manual explains each line."
    ∷ codes ""
    ∷ codes "NOT FOR NAVIGATION."
    ∷ []

-- the text that `--help` prints
abbrev pub help_text : List ℕ
help_text = flat_map line_text help_lines
