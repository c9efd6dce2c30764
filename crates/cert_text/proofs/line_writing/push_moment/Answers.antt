use Rattle.std.proofs.Common.{◌≡◌, length, lit<, arith}
use Rattle.cert_text.proofs.TextLemmas.{length-moment_text}
use Rattle.cert_text.proofs.line_writing.push_moment.Goals as goal

pub push_str-requires : goal.push_str-requires
push_str-requires c =
    let len : length c.as_str.result.now ≡ 17 = rw (c.as_str.ensures.value, c.write_moment.ensures) (length-moment_text _) in
    (lit< tt, omega (arith, len, c.requires.room))

pub returns-clause-len : goal.returns-clause-len
returns-clause-len c =
    let len : length c.as_str.result.now ≡ 17 = rw (c.as_str.ensures.value, c.write_moment.ensures) (length-moment_text _) in
    omega (arith, len, c.push_str.ensures.len)
