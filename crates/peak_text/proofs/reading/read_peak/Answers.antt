use Rattle.std.proofs.Common.{Ok, Err, subst}
use Rattle.cert_text.specs.ByLine.{Takes, place_at}
use Rattle.cert_text.proofs.ByLineLemmas.{returned_by}
use Rattle.peak_text.specs.PeakReadings.{peak_part, peak_of, is_out_of_memory}
use Rattle.decimal_text.specs.Expected.{EqualsUnlessNoMemory}
use Rattle.peak_text.proofs.PeakReadingLemmas.{given_whole, given_fault, reported_fault, reads_given, valid_given}
use Rattle.peak_text.proofs.reading.read_peak.Goals as goal

pub returns-clause-exact : goal.returns-clause-exact
returns-clause-exact c =
    given_whole c.args.bytes.now c.in_ok-read_lines.field-0
    (returned_by peak_part (place_at 0 c.args.bytes.now) c.read_lines.new.lines (Ok c.in_ok-read_lines.field-0)
    (subst (λ here. Takes peak_part here c.read_lines.new.lines (Ok c.in_ok-read_lines.field-0)) c.new.ensures c.in_ok-read_lines.ensures))

pub returns-clause-reads : goal.returns-clause-reads
returns-clause-reads c = reads_given c.args.bytes.now (Ok c.in_ok-read_lines.field-0) (returns-clause-exact c)

pub returns-clause-valid : goal.returns-clause-valid
returns-clause-valid c = valid_given c.args.bytes.now (Ok c.in_ok-read_lines.field-0) (returns-clause-reads c)

pub returns-in_err-read_lines-clause-exact : goal.returns-in_err-read_lines-clause-exact
returns-in_err-read_lines-clause-exact c =
    let bytes = c.args.bytes.now in let fault = c.in_err-read_lines.field-0.0 in
    let read = returned_by peak_part (place_at 0 bytes) c.read_lines.new.lines (Err fault)
    (subst (λ here. Takes peak_part here c.read_lines.new.lines (Err fault)) c.new.ensures c.in_err-read_lines.ensures) in
    subst (EqualsUnlessNoMemory is_out_of_memory (peak_of bytes))
    (reported_fault c.from_residual.result fault c.from_residual.ensures.1) (given_fault bytes fault read)

pub returns-in_err-read_lines-clause-reads : goal.returns-in_err-read_lines-clause-reads
returns-in_err-read_lines-clause-reads c = reads_given c.args.bytes.now c.from_residual.result (returns-in_err-read_lines-clause-exact c)
