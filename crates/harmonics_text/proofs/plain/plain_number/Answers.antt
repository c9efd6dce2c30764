use Rattle.std.proofs.Common.{◌≡◌, ℕ, ℤ, ◌-◌, ◌*◌, ◌^◌, Ok, sym, ap, ◌∙◌, rules, arith}
use Rattle.std.specs.Prelude.{FitsSigned}
use Rattle.std.specs.Int.{w64}
use Rattle.std.proofs.lemmas.Int.{to_z-of_z}
use Rattle.decimal_text.specs.Decimal.{signed}
use Rattle.harmonics_text.specs.Rules.{in_scale, places_of}
use Rattle.harmonics_text.proofs.Usual.{Reads, number_small, first_number}
use Rattle.harmonics_text.proofs.plain.plain_number.Goals as goal

pub in_units-requires-clause-small : goal.in_units-requires-clause-small
in_units-requires-clause-small c =
    let r : Reads _ _ _ _ _ _ _ _ _ _ _ _ _ = record {
      starts = sym c.in_ok-start.ensures;
      visible_cut = c.split_at.ensures.back;
      sign_cut = c.split_byte-negative.ensures;
      counted = c.digits_after-whole.ensures.count;
      whole_value = c.digits_after-whole.ensures.value;
      tail_cut = c.split_at-2.ensures.back;
      point_cut = c.split_byte-pointed.ensures;
      placed = c.digits_after-number.ensures.count;
      number_value = c.digits_after-number.ensures.value;
      rest_cut = c.split_at-3.ensures.back;
    } in
    let short = c.is_short.ensures c.if-not-is_short.false in
    number_small _ _ _ _ _ _ _ _ _ _ _ _ _ r short.1

pub returns : goal.returns
returns c =
    let text = c.args.text.now in
    let visible = c.split_at.result.1.now in
    let body = c.split_byte-negative.result.1.now in
    let tail = c.split_at-2.result.1.now in
    let fraction = c.split_byte-pointed.result.1.now in
    let rest = c.split_at-3.result.1.now in
    let whole = c.digits_after-whole.result in
    let number = c.digits_after-number.result in
    let negative = c.split_byte-negative.result.0 in
    let pointed = c.split_byte-pointed.result.0 in
    let r : Reads text visible body tail fraction rest c.in_ok-start.start whole.1 number.1 whole.0 number.0 negative pointed = record {
      starts = sym c.in_ok-start.ensures;
      visible_cut = c.split_at.ensures.back;
      sign_cut = c.split_byte-negative.ensures;
      counted = c.digits_after-whole.ensures.count;
      whole_value = c.digits_after-whole.ensures.value;
      tail_cut = c.split_at-2.ensures.back;
      point_cut = c.split_byte-pointed.ensures;
      placed = c.digits_after-number.ensures.count;
      number_value = c.digits_after-number.ensures.value;
      rest_cut = c.split_at-3.ensures.back;
    } in
    let short = c.is_short.ensures c.if-not-is_short.false in
    let missing : c.places-2.result - number.1 ≡ places_of c.args.scale - number.1 =
    ap (λ (p : ℕ). p - number.1) c.places-2.ensures.exact in
    let value : c.signed.result ≡ signed negative (number.0 * 10 ^ (places_of c.args.scale - number.1)) =
    c.signed.ensures ∙ ap (signed negative) (c.in_units.ensures.exact ∙ ap (λ (k : ℕ). number.0 * 10 ^ k) missing) in
    let fits : FitsSigned w64 c.signed.result = search rules in
    let fits_value : FitsSigned w64 c.in_ok-value.value = search rules in
    let within = simp to_z-of_z at c.in_ok-value.ensures in
    simp to_z-of_z (first_number text visible body tail fraction rest c.in_ok-start.start whole.1 number.1 whole.0 number.0
    negative pointed r short.1 c.args.scale c.in_ok-value.value short.0 (omega (arith, short.2, c.places.ensures.exact))
    (sym c.ends_token.ensures ∙ c.if-not-ends_token.false)
    (ap (λ (z : ℤ). in_scale c.args.scale (Ok z)) (sym value) ∙ within))
