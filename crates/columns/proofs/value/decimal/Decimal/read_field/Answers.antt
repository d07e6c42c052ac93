use Rattle.columns.proofs.Names.{◌≡◌, ℕ, ◌-◌, ◌++◌, ◌&&◌, true, length, ap, sym, subst, ◌∙◌, arith, are_zeros}
use Rattle.columns.specs.FieldDecimals.{point_part, IsPointed}
use Rattle.columns.specs.FieldPoints.{without_zeros}
use Rattle.columns.proofs.Types.{never, and_parts}
use Rattle.columns.proofs.ClockTexts.{no_minus}
use Rattle.columns.proofs.DecimalFields.{joined, cut_of, joined_same, made_of, no_minus_zero}
use Rattle.columns.proofs.value.decimal.Decimal.read_field.Goals as goal

pub returns-in_default-clause-only : goal.returns-in_default-clause-only
returns-in_default-clause-only c other precision scale is =
    let cut = cut_of other c.args.field.now is in
    let text = cut.whole ++ point_part cut.fraction in
    let sign = c.split_sign-negative.ensures.only other.negative text (λ more. no_minus cut.whole (point_part cut.fraction) more cut.pointed.whole_digits) cut.field_is in
    c.in_default.ensures.only cut.whole cut.fraction
    (subst (λ (n : ℕ). IsPointed n cut.whole cut.fraction c.split_sign-negative.result.1.now) scale (subst (IsPointed other.scale cut.whole cut.fraction) (sym sign.1) cut.pointed))

pub returns-in_default-clause-fault : goal.returns-in_default-clause-fault
returns-in_default-clause-fault c (negative, whole, fraction, rest, pointed, is) =
    let sign = c.split_sign-negative.ensures.only negative rest (λ more minus. no_minus whole (point_part fraction) more pointed.whole_digits (sym pointed.text_is ∙ minus)) is in
    c.in_default.ensures.only whole fraction (subst (IsPointed c.args.scale whole fraction) (sym sign.1) pointed)

pub returns-then-significant-room-clause-only : goal.returns-then-significant-room-clause-only
returns-then-significant-room-clause-only c other precision scale is =
    let cut = cut_of other c.args.field.now is in
    let text = cut.whole ++ point_part cut.fraction in
    let sign = c.split_sign-negative.ensures.only other.negative text (λ more. no_minus cut.whole (point_part cut.fraction) more cut.pointed.whole_digits) cut.field_is in
    let parts = c.in-Some.ensures.only cut.whole cut.fraction
    (subst (λ (n : ℕ). IsPointed n cut.whole cut.fraction c.split_sign-negative.result.1.now) scale (subst (IsPointed other.scale cut.whole cut.fraction) (sym sign.1) cut.pointed)) in
    omega (arith, c.if-significant-room.true, ap length (c.without_zeros-significant.ensures ∙ ap without_zeros parts.0), cut.front_small, c.from-room.ensures, precision, scale)

pub returns-then-is_minus_zero-clause-only : goal.returns-then-is_minus_zero-clause-only
returns-then-is_minus_zero-clause-only c other precision scale is =
    let cut = cut_of other c.args.field.now is in
    let text = cut.whole ++ point_part cut.fraction in
    let sign = c.split_sign-negative.ensures.only other.negative text (λ more. no_minus cut.whole (point_part cut.fraction) more cut.pointed.whole_digits) cut.field_is in
    let parts = c.in-Some.ensures.only cut.whole cut.fraction
    (subst (λ (n : ℕ). IsPointed n cut.whole cut.fraction c.split_sign-negative.result.1.now) scale (subst (IsPointed other.scale cut.whole cut.fraction) (sym sign.1) cut.pointed)) in
    let digits = joined_same other c.args.field.now cut c.from-room.result c.without_zeros-significant.result.now c.in-Some.fraction.now c.join_digits-digits.result
    (c.from-room.ensures ∙ (λ i. sym precision i - sym scale i)) (c.without_zeros-significant.ensures ∙ ap without_zeros parts.0) parts.1 c.join_digits-digits.ensures in
    let minus : (other.negative && are_zeros other.digits) ≡ true =
    (λ i. sym sign.0 i && are_zeros (sym digits i)) ∙ sym c.is_minus_zero.ensures ∙ c.if-is_minus_zero.true in
    let both = and_parts other.negative (are_zeros other.digits) minus in
    absurd (never (sym (is.plain both.1) ∙ both.0))

pub invariant_of-result : goal.invariant_of-result
invariant_of-result c =
    let made = made_of c.args.precision c.args.scale c.split_sign-negative.result.0 c.join_digits-digits.result c.in-Some.whole.now c.in-Some.fraction.now c.split_sign-negative.result.1.now c.args.field.now
    c.requires.few c.requires.within c.in-Some.ensures.found c.split_sign-negative.ensures.found
    (omega (arith, c.if-significant-room.false, ap length c.without_zeros-significant.ensures, c.from-room.ensures))
    (c.join_digits-digits.ensures ∙ (λ i. joined (c.from-room.ensures i - length (c.without_zeros-significant.ensures i)) (c.without_zeros-significant.ensures i) c.in-Some.fraction.now)) in
    record {
      some = c.requires.some;
      few = c.requires.few;
      within = c.requires.within;
      short = c.requires.short;
      all = made.all;
      lawful = made.lawful;
      rest = made.rest;
    }

pub returns-clause-found : goal.returns-clause-found
returns-clause-found c =
    let made = made_of c.args.precision c.args.scale c.split_sign-negative.result.0 c.join_digits-digits.result c.in-Some.whole.now c.in-Some.fraction.now c.split_sign-negative.result.1.now c.args.field.now
    c.requires.few c.requires.within c.in-Some.ensures.found c.split_sign-negative.ensures.found
    (omega (arith, c.if-significant-room.false, ap length c.without_zeros-significant.ensures, c.from-room.ensures))
    (c.join_digits-digits.ensures ∙ (λ i. joined (c.from-room.ensures i - length (c.without_zeros-significant.ensures i)) (c.without_zeros-significant.ensures i) c.in-Some.fraction.now)) in
    record {
      plain = no_minus_zero c.split_sign-negative.result.0 (are_zeros c.join_digits-digits.result) (sym c.is_minus_zero.ensures ∙ c.if-is_minus_zero.false);
      zeros = made.zeros;
      text_is = made.text_is;
    }

pub returns-clause-only : goal.returns-clause-only
returns-clause-only c other precision scale is =
    let cut = cut_of other c.args.field.now is in
    let text = cut.whole ++ point_part cut.fraction in
    let sign = c.split_sign-negative.ensures.only other.negative text (λ more. no_minus cut.whole (point_part cut.fraction) more cut.pointed.whole_digits) cut.field_is in
    let parts = c.in-Some.ensures.only cut.whole cut.fraction
    (subst (λ (n : ℕ). IsPointed n cut.whole cut.fraction c.split_sign-negative.result.1.now) scale (subst (IsPointed other.scale cut.whole cut.fraction) (sym sign.1) cut.pointed)) in (
      sign.0,
      joined_same other c.args.field.now cut c.from-room.result c.without_zeros-significant.result.now c.in-Some.fraction.now c.join_digits-digits.result
          (c.from-room.ensures ∙ (λ i. sym precision i - sym scale i)) (c.without_zeros-significant.ensures ∙ ap without_zeros parts.0) parts.1 c.join_digits-digits.ensures,
    )
