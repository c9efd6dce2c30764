use Rattle.std.proofs.Common.{◌≡◌, true, false, ap, sym, ◌∙◌, ◌+◌, length, Ok}
use Rattle.question.specs.Questions.{has_form, KeyTexts}
use Rattle.question.specs.Workings.KeyTexts.{key_texts_of, with_value}
use Rattle.question.proofs.ItemLemmas.{with_item-repeated, with_item-bad, with_item-good}
use Rattle.question.proofs.SaidLemmas.{key_texts_of-more, asked-more}
use Rattle.question.proofs.reading.read_value.Goals as goal

pub returns-then-has_key_text-clause-key_texts : goal.returns-then-has_key_text-clause-key_texts
returns-then-has_key_text-clause-key_texts c =
    let named = rw c.as_str.ensures at c.in-Some-key_named.ensures in
    with_item-repeated c.args.origin c.args.command (length c.args.earlier.now + 1) c.args.item.now
    (key_texts_of c.args.earlier.now) c.in-Some.text.now c.in-Some-key_named.key
    (sym c.in-Some.ensures) named (sym c.has_key_text.ensures ∙ c.if-has_key_text.true)

pub returns-then-is_read-clause-key_texts : goal.returns-then-is_read-clause-key_texts
returns-then-is_read-clause-key_texts c =
    let k = c.in-Some-key_named.key in let text = c.in-Some.text.now in
    let named = rw c.as_str.ensures at c.in-Some-key_named.ensures in
    let good : has_form c.args.origin k text ≡ true = sym c.in_ok-is_read.ensures.form ∙ c.if-is_read.true in
    with_item-good c.args.origin c.args.command (length c.args.earlier.now + 1) c.args.item.now (key_texts_of c.args.earlier.now) text k
    (sym c.in-Some.ensures) named (sym c.has_key_text.ensures ∙ c.if-has_key_text.false) good
    ∙ ap (λ (s : KeyTexts). Ok s) (key_texts_of-more c.args.origin c.args.command c.args.earlier.now c.args.item.now k text
    (sym c.in-Some.ensures) (sym named))

pub returns-then-is_read-clause-asked : goal.returns-then-is_read-clause-asked
returns-then-is_read-clause-asked c =
    let k = c.in-Some-key_named.key in let text = c.in-Some.text.now in
    let named = rw c.as_str.ensures at c.in-Some-key_named.ensures in
    c.in_ok-is_read.ensures.value ∙ ap (with_value c.args.origin k text) c.requires
    ∙ asked-more c.args.origin c.args.command c.args.earlier.now c.args.item.now k text (sym c.in-Some.ensures) (sym named)

pub returns-else-is_read-clause-key_texts : goal.returns-else-is_read-clause-key_texts
returns-else-is_read-clause-key_texts c =
    let k = c.in-Some-key_named.key in let text = c.in-Some.text.now in
    let named = rw c.as_str.ensures at c.in-Some-key_named.ensures in
    let bad : has_form c.args.origin k text ≡ false = sym c.in_ok-is_read.ensures.form ∙ c.if-is_read.false in
    with_item-bad c.args.origin c.args.command (length c.args.earlier.now + 1) c.args.item.now (key_texts_of c.args.earlier.now) text k
    (sym c.in-Some.ensures) named (sym c.has_key_text.ensures ∙ c.if-has_key_text.false) bad
