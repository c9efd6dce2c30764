use Rattle.std.proofs.Common.{◌≤◌, length, arith, rules}
use Rattle.std.proofs.lemmas.Int.{to_z-of_z}
use mir.Syntax.{w64}
use Rattle.cert_text.proofs.NumberLemmas.{length-signed}
use Rattle.cert_text.proofs.line_writing.push_number.Goals as goal

pub push_str-requires : goal.push_str-requires
push_str-requires g c =
    let short : length c.format.result.now ≤ 15 =
    rw (c.format.ensures.text, to_z-of_z w64 c.args.number c.ranges.number) (length-signed c.args.number c.requires.size) in
    search (rules, short)

pub returns-clause-length_bound : goal.returns-clause-length_bound
returns-clause-length_bound g c =
    let short : length c.format.result.now ≤ 15 =
    rw (c.format.ensures.text, to_z-of_z w64 c.args.number c.ranges.number) (length-signed c.args.number c.requires.size) in
    omega (arith, short, c.push_str.ensures.len)
