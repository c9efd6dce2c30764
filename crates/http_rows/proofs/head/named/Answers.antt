use Rattle.std.proofs.Common.{◌≡◌, ℕ, ◌+◌, List, map, take, get_or, length, arith, ap, sym, ◌∙◌}
use Rattle.std.specs.Prelude.{◌==◌, if◌then◌else◌}
use Rattle.std.proofs.lemmas.Grind.{common_steps}
use Rattle.httparse.specs.declared.spans.HeaderSpan.{HeaderSpan}
use Rattle.httparse.specs.Spans.{span_bytes, header_bytes}
use Rattle.http_rows.specs.Heads.{values_of, first_or_empty}
use Rattle.http_rows.specs.Workings.Views.{occurs_seen}
use Rattle.http_rows.proofs.HeadLemmas.{one_more, another, first_push, length_push, all_named}
use Rattle.http_rows.proofs.head.named.Goals.{then-is_named, then-count-eq0, else-count-eq0, else-is_named}
use Rattle.http_rows.proofs.head.named.Goals as goal

pub loop-field-preserved : goal.loop-field-preserved
loop-field-preserved c =
    let blank : HeaderSpan = record { name = record { start = 0; end = 0 }; value = record { start = 0; end = 0 } } in
    let i : ℕ = c.loop-field.field-index in
    let before : List (List ℕ) = values_of c.args.name.now (map (header_bytes c.args.bytes.now) (take i c.args.fields.now)) in
    let now : List (List ℕ) = values_of c.args.name.now (map (header_bytes c.args.bytes.now) (take (i + 1) c.args.fields.now)) in
    let value : List ℕ = span_bytes c.args.bytes.now (get_or c.args.fields.now i blank).value in
    elim c.if-is_named.branch [
      | then-is_named w ↦
          (let more = one_more c.args.bytes.now c.args.name.now c.args.fields.now i blank c.loop-field-test.true
          (sym c.is_named.ensures ∙ w.if-is_named.true) in
          let longer : length now ≡ length before + 1 = ap length more ∙ length_push before value in
          let shown : c.if-is_named.first.now ≡ (if length before == 0 then value else first_or_empty before) =
          elim w.if-count-eq0.branch
          [ then-count-eq0 v ↦ grind (arith, common_steps, v, w) | else-count-eq0 v ↦ grind (arith, common_steps, v, w) ] in
          record {
            few = omega (arith, w.count-is, c.loop-field.invariant.few);
            count = omega (arith, w.count-is, longer, c.loop-field.invariant.count);
            first = shown ∙ sym (ap first_or_empty more ∙ first_push before value);
          })
      | else-is_named w ↦
          (let same = another c.args.bytes.now c.args.name.now c.args.fields.now i blank c.loop-field-test.true
          (sym c.is_named.ensures ∙ w.if-is_named.false) in
          record {
            few = omega (arith, w.count-is, c.loop-field.invariant.few);
            count = w.count-is ∙ c.loop-field.invariant.count ∙ ap length (sym same);
            first = ap (λ b. b.now) w.first-is ∙ c.loop-field.invariant.first ∙ ap first_or_empty (sym same);
          })
    ]

pub returns : goal.returns
returns c =
    all_named c.args.bytes.now c.args.name.now c.args.fields.now c.loop-field.field-index
    (occurs_seen record { count = c.loop-field.count; first = c.loop-field.first })
    c.loop-field-test.false c.loop-field.invariant.count c.loop-field.invariant.first
