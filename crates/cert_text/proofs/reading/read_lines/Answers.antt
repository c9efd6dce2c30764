use Rattle.std.proofs.lemmas.Result.{err_from_is_err_and}
use Rattle.std.proofs.Common.{refl, w64, FitsSigned, rules}
use Rattle.std.proofs.lemmas.Int.{to_z-of_z}
use Rattle.cert_text.proofs.ReadingLemmas.{certificate_by}
use Rattle.cert_text.proofs.reading.read_lines.Goals as goal

pub returns-in_err-version : goal.returns-in_err-version
returns-in_err-version c =
    let p = err_from_is_err_and c.from_residual.result c.from_residual.ensures.1 in
    rw (p.1, p.2) (λ m. rw (c.in_err-version.ensures) refl)

pub returns-in_err-station : goal.returns-in_err-station
returns-in_err-station c =
    let p = err_from_is_err_and c.from_residual-in_err-station.result c.from_residual-in_err-station.ensures.1 in
    rw (p.1, p.2) (λ m. rw (c.in_ok-version.ensures, c.in_err-station.ensures) refl)

pub returns-in_err-begin : goal.returns-in_err-begin
returns-in_err-begin c =
    let p = err_from_is_err_and c.from_residual-in_err-begin.result c.from_residual-in_err-begin.ensures.1 in
    rw (p.1, p.2) (λ m. rw (c.in_ok-version.ensures, c.in_ok-station.ensures, c.in_err-begin.ensures) refl)

pub returns-in_err-end : goal.returns-in_err-end
returns-in_err-end c =
    let p = err_from_is_err_and c.from_residual-in_err-end.result c.from_residual-in_err-end.ensures.1 in
    rw (p.1, p.2) (λ m. rw (c.in_ok-version.ensures, c.in_ok-station.ensures, c.in_ok-begin.ensures, c.in_err-end.ensures) refl)

pub returns-in_err-mark : goal.returns-in_err-mark
returns-in_err-mark c =
    let p = err_from_is_err_and c.from_residual-in_err-mark.result c.from_residual-in_err-mark.ensures.1 in
    rw (p.1, p.2) (λ m. rw (c.in_ok-version.ensures, c.in_ok-station.ensures, c.in_ok-begin.ensures, c.in_ok-end.ensures, c.in_err-mark.ensures) refl)

pub returns-in_err-tracks : goal.returns-in_err-tracks
returns-in_err-tracks c =
    let p = err_from_is_err_and c.from_residual-in_err-tracks.result c.from_residual-in_err-tracks.ensures.1 in
    rw (p.1, p.2) (λ m. rw (c.in_ok-version.ensures, c.in_ok-station.ensures, c.in_ok-begin.ensures, c.in_ok-end.ensures, c.in_ok-mark.ensures, c.in_err-tracks.ensures m) refl)

pub returns-in_err-from_str : goal.returns-in_err-from_str
returns-in_err-from_str c =
    let p = err_from_is_err_and c.from_residual-in_err-from_str.result c.from_residual-in_err-from_str.ensures.1 in rw (p.1, p.2) (λ m. absurd cc)

pub returns : goal.returns
returns c =
    let begin_fits : FitsSigned w64 c.in_ok-begin.begin = search rules in
    let end_fits : FitsSigned w64 c.in_ok-end.end = search rules in
    simp to_z-of_z (certificate_by _ _ _ _ _ _ _ _ _ _ _ _ _ _ c.in_ok-version.ensures c.in_ok-station.ensures c.in_ok-begin.ensures
    c.in_ok-end.ensures c.in_ok-mark.ensures c.in_ok-tracks.ensures c.in_ok-from_str.ensures)
