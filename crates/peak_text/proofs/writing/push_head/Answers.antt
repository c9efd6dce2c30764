use Rattle.std.proofs.Common.{◌≡◌, ℕ, List, [], ◌++◌, subst, append-nil, append_assoc, w64, FitsSigned, rules}
use Rattle.std.specs.Int.{w128}
use Rattle.std.proofs.lemmas.Int.{to_z-of_z}
use Rattle.std.specs.Prelude.{OnOk}
use Rattle.cert_text.specs.Texts.{ended, joined}
use Rattle.cert_text.specs.Lines.{station_line_of, begin_line_of, end_line_of}
use Rattle.peak_text.specs.PeakTexts.{peak_title, at_line_of, value_line_of, peak_head_lines_of}
use Rattle.peak_text.proofs.writing.push_head.Goals as goal

regroup : (out title station begin end at value : List ℕ) → out ++ title ++ (station ++ (begin ++ (end ++ [])))
    ++ at ++ value ≡ out ++ (title ++ (station ++ (begin ++ (end ++ (at ++ (value ++ []))))))
regroup out title station begin end at value = simp (append_assoc, append-nil)

pub returns : goal.returns
returns c =
    let cert = c.args.cert.now in
    let begin_fits : FitsSigned w64 cert.begin = search rules in
    let end_fits : FitsSigned w64 cert.end = search rules in
    let at_fits : FitsSigned w64 cert.peak.at = search rules in
    let value_fits : FitsSigned w128 cert.peak.value = search rules in
    let station = simp to_z-of_z at c.in_ok-push_station_lines.ensures in
    let at = simp to_z-of_z at c.in_ok-push_at.ensures in
    let value = simp to_z-of_z at c.push_value.ensures in
    let all : c.push_at.new.out.items ++ ended (value_line_of cert.peak.value) ≡ c.args.out.now.items ++ joined (peak_head_lines_of cert) =
    rw (at, station, c.in_ok-push_title.ensures)
    (regroup c.args.out.now.items (ended peak_title) (ended (station_line_of cert.station)) (ended (begin_line_of cert.begin))
    (ended (end_line_of cert.end)) (ended (at_line_of cert.peak.at)) (ended (value_line_of cert.peak.value))) in
    subst (λ bytes. OnOk c.push_value.result (c.push_value.new.out.items ≡ bytes)) all value
