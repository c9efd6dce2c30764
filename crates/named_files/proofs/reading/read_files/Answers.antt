use Rattle.named_files.proofs.RequestLemmas.{all_read, stopped_at_book, stopped_at_certificate, stopped_at_table, stopped_at_zone}
use Rattle.named_files.proofs.reading.read_files.Goals as goal

pub returns-in_err-book : goal.returns-in_err-book
returns-in_err-book g c = stopped_at_book c.from_residual.result c.from_residual.ensures.1 c.in_err-book.ensures

pub returns-in_err-table : goal.returns-in_err-table
returns-in_err-table g c =
    rw (← c.get-question.ensures.exact)
    (stopped_at_table c.from_residual-in_err-table.result c.from_residual-in_err-table.ensures.1 c.in_ok-book.ensures c.in_err-table.ensures)

pub returns-in_err-zone : goal.returns-in_err-zone
returns-in_err-zone g c =
    rw (← c.get-question.ensures.exact)
    (stopped_at_zone c.from_residual-in_err-zone.result c.from_residual-in_err-zone.ensures.1
    c.in_ok-book.ensures c.in_ok-table.ensures c.in_err-zone.ensures)

pub returns-in_err-certificate : goal.returns-in_err-certificate
returns-in_err-certificate g c =
    rw (← c.get-question.ensures.exact)
    (stopped_at_certificate c.from_residual-in_err-certificate.result c.from_residual-in_err-certificate.ensures.1
    c.in_ok-book.ensures c.in_ok-table.ensures c.in_ok-zone.ensures c.in_err-certificate.ensures)

pub returns : goal.returns
returns g c =
    rw (← c.get-question.ensures.exact)
    (all_read c.in_ok-book.ensures c.in_ok-table.ensures c.in_ok-zone.ensures c.in_ok-certificate.ensures)
