use Rattle.std.proofs.Common.{refl}
use Rattle.http_rows.proofs.responses.write_head.Goals as goal

pub returns-clause-bytes : goal.returns-clause-bytes
returns-clause-bytes c =
    rw (
      c.push_str-8.ensures.bytes,
      c.push_str-7.ensures.bytes,
      c.push_str-6.ensures.bytes,
      c.push_number.ensures.bytes,
      c.push_str-5.ensures.bytes,
      c.push_str-4.ensures.bytes,
      c.push_str-3.ensures.bytes,
      c.push_str-2.ensures.bytes,
      c.status_of.ensures.text,
      c.push_str.ensures.bytes,
      c.requires.empty,
    ) refl
