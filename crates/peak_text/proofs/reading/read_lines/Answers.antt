use Rattle.peak_text.specs.PeakTexts.{peak_title}
use Rattle.std.proofs.lemmas.Result.{err_from_is_err_and}
use Rattle.std.proofs.Common.{refl, w64, FitsSigned, rules}
use Rattle.std.specs.Int.{w128}
use Rattle.std.proofs.lemmas.Int.{to_z-of_z}
use Rattle.peak_text.proofs.PeakReadingLemmas.{peak_by}
use Rattle.peak_text.proofs.reading.read_lines.Goals as goal

pub returns-in_err-word : goal.returns-in_err-word
unfolding peak_title
returns-in_err-word c =
    let p = err_from_is_err_and c.from_residual.result c.from_residual.ensures.1 in
    rw (p.1, p.2) (λ m. rw (c.in_err-word.ensures) refl)

pub returns-in_err-station : goal.returns-in_err-station
unfolding peak_title
returns-in_err-station c =
    let p = err_from_is_err_and c.from_residual-in_err-station.result c.from_residual-in_err-station.ensures.1 in
    rw (p.1, p.2) (λ m. rw (c.in_ok-word.ensures, c.in_err-station.ensures) refl)

pub returns-in_err-begin : goal.returns-in_err-begin
unfolding peak_title
returns-in_err-begin c =
    let p = err_from_is_err_and c.from_residual-in_err-begin.result c.from_residual-in_err-begin.ensures.1 in
    rw (p.1, p.2) (λ m. rw (c.in_ok-word.ensures, c.in_ok-station.ensures, c.in_err-begin.ensures) refl)

pub returns-in_err-end : goal.returns-in_err-end
unfolding peak_title
returns-in_err-end c =
    let p = err_from_is_err_and c.from_residual-in_err-end.result c.from_residual-in_err-end.ensures.1 in
    rw (p.1, p.2) (λ m. rw (c.in_ok-word.ensures, c.in_ok-station.ensures, c.in_ok-begin.ensures, c.in_err-end.ensures) refl)

pub returns-in_err-at : goal.returns-in_err-at
unfolding peak_title
returns-in_err-at c =
    let p = err_from_is_err_and c.from_residual-in_err-at.result c.from_residual-in_err-at.ensures.1 in
    rw (p.1, p.2) (λ m. rw (c.in_ok-word.ensures, c.in_ok-station.ensures, c.in_ok-begin.ensures, c.in_ok-end.ensures, c.in_err-at.ensures) refl)

pub returns-in_err-value : goal.returns-in_err-value
unfolding peak_title
returns-in_err-value c =
    let p = err_from_is_err_and c.from_residual-in_err-value.result c.from_residual-in_err-value.ensures.1 in
    rw (p.1, p.2) (λ m. rw (c.in_ok-word.ensures, c.in_ok-station.ensures, c.in_ok-begin.ensures, c.in_ok-end.ensures, c.in_ok-at.ensures, c.in_err-value.ensures) refl)

pub returns-in_err-cells : goal.returns-in_err-cells
unfolding peak_title
returns-in_err-cells c =
    let p = err_from_is_err_and c.from_residual-in_err-cells.result c.from_residual-in_err-cells.ensures.1 in
    rw (p.1, p.2) (λ m. rw (c.in_ok-word.ensures, c.in_ok-station.ensures, c.in_ok-begin.ensures, c.in_ok-end.ensures, c.in_ok-at.ensures, c.in_ok-value.ensures, c.in_err-cells.ensures m) refl)

pub returns-in_err-from_str : goal.returns-in_err-from_str
unfolding peak_title
returns-in_err-from_str c =
    let p = err_from_is_err_and c.from_residual-in_err-from_str.result c.from_residual-in_err-from_str.ensures.1 in
    rw (p.1, p.2) (λ m. absurd cc)

pub returns : goal.returns
unfolding peak_title
returns c =
    let begin_fits : FitsSigned w64 c.in_ok-begin.begin = search rules in
    let end_fits : FitsSigned w64 c.in_ok-end.end = search rules in
    let at_fits : FitsSigned w64 c.in_ok-at.at = search rules in
    let value_fits : FitsSigned w128 c.in_ok-value.value = search rules in
    simp to_z-of_z (peak_by c.args.lines.now c.word.new.lines c.station.new.lines c.moment.new.lines c.moment-2.new.lines
    c.moment-3.new.lines c.read_value.new.lines c.read_cells.new.lines _ _ _ _ _ _ _ c.in_ok-word.ensures c.in_ok-station.ensures c.in_ok-begin.ensures
    c.in_ok-end.ensures c.in_ok-at.ensures c.in_ok-value.ensures c.in_ok-cells.ensures c.in_ok-from_str.ensures)
