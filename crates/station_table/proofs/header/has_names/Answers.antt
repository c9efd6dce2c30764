use Rattle.std.proofs.Common.{◌≡◌, ◌<◌, ◌∙◌, sym, List, ℕ, Bor, [], length, map, get_or, true, false, arith}
use Rattle.std.specs.Str.{bytes_eq}
use Rattle.std.proofs.lemmas.Bool.{not-false, not-true}
use Rattle.std.proofs.lemmas.List.{get_or-map, length-map}
use Rattle.csv.specs.Records.{fields_of}
use Rattle.station_table.proofs.FieldLemmas.{left_more, left_differs, left_none}
use Rattle.station_table.proofs.header.has_names.Goals as goal

abbrev texts : List (Bor (List ℕ)) → List (List ℕ)
texts names = map (λ name. name.now) names

text_at : (names : List (Bor (List ℕ))) (i : ℕ) (d : Bor (List ℕ)) (text : List ℕ) → i < length names
    → text ≡ (get_or names i d).now → get_or (texts names) i [] ≡ text
text_at names i d text within is = get_or-map (λ name. name.now) names i d [] within ∙ sym is

pub loop-column-preserved : goal.loop-column-preserved
loop-column-preserved c =
    let names = c.args.names.now in let i = c.loop-column.column in
    let name = text_at names i _ c.as_bytes.result.now c.loop-column-test.true c.as_bytes.ensures.value in
    let same : bytes_eq (get_or (fields_of c.args.fields.now) i []) (get_or (texts names) i []) ≡ true =
    rw name (rw c.field.ensures at (not-false _ (sym c.ne.ensures ∙ c.if-ne.false))) in
    left_more (fields_of c.args.fields.now) (texts names) i _ (omega (arith, c.len.ensures, c.if-len-names.false))
    (omega (arith, length-map names (λ name. name.now))) same c.loop-column.invariant

pub returns-then-ne : goal.returns-then-ne
returns-then-ne c =
    let names = c.args.names.now in let i = c.loop-column.column in
    let name = text_at names i _ c.as_bytes.result.now c.loop-column-test.true c.as_bytes.ensures.value in
    let differs : bytes_eq (get_or (fields_of c.args.fields.now) i []) (get_or (texts names) i []) ≡ false =
    rw name (rw c.field.ensures at (not-true _ (sym c.ne.ensures ∙ c.if-ne.true))) in
    left_differs (fields_of c.args.fields.now) (texts names) i _ (omega (arith, c.len.ensures, c.if-len-names.false))
    (omega (arith, length-map names (λ name. name.now))) differs c.loop-column.invariant

pub returns : goal.returns
returns c =
    let names = c.args.names.now in
    left_none (fields_of c.args.fields.now) (texts names) c.loop-column.column _
    (omega (arith, c.len.ensures, c.if-len-names.false))
    (omega (arith, length-map names (λ name. name.now))) c.loop-column.invariant
