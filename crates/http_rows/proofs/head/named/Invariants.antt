use Rattle.std.proofs.Common.{◌≡◌, ◌≤◌, length, take, map}
use Rattle.httparse.specs.Spans.{header_bytes}
use Rattle.http_rows.specs.Heads.{values_of, first_or_empty}
use Rattle.http_rows.proofs.head.named.Given as goal

abbrev pub invariant-loop-field : goal.invariant-loop-field
invariant-loop-field l = record {
  few : l.count ≤ l.field-index;
  count : l.count ≡ length (values_of l.name (map (header_bytes l.bytes) (take l.field-index l.fields)));
  first : l.first ≡ first_or_empty (values_of l.name (map (header_bytes l.bytes) (take l.field-index l.fields)));
}
