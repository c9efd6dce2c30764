use Rattle.std.proofs.Common.{◌<◌, ◌∙◌, ap, sym, Some, length, arith}
use Rattle.cert_text.proofs.LineLemmas.{named_yes, named_no}
use Rattle.cert_text.proofs.line_reading.named.Goals as goal

pub returns-in-Ok : goal.returns-in-Ok
returns-in-Ok c =
    let some : 0 < length c.args.bytes.now = grind arith in
    ap Some c.in-Ok.ensures.cases.0
    ∙ sym (named_yes c.args.bytes.now some c.if-bytes-gt400.false (sym c.if-not-are_name_bytes.ensures) c.in-Ok.ensures.cases.1)

pub returns-in-Err : goal.returns-in-Err
returns-in-Err c = sym (named_no c.args.bytes.now c.in-Err.ensures.cases.0)
