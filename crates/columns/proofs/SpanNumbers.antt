-- The number of a TIME, and its parts.
use Rattle.columns.proofs.Names.{◌≡◌, ◌≢◌, ℕ, zero, suc, ◌+◌, ◌*◌, ◌/◌, ◌%◌, ◌^◌, ◌<◌, ◌≤◌, ◌==◌, ◌&&◌, Bool, true, false, not, nat_le, nat_lt, if◌then◌else◌, inl, inr, Option, Some, None, refl, sym, ap, ◌∙◌, arith, IsTrue, div-mul-add, cases_lt, one-le-pow, clock_number, even_digits, fraction_size, is_time}
use Rattle.std.specs.Prelude.{IfSome}
use Rattle.std.proofs.lemmas.Nat.{div-add-mod'}
use Rattle.std.proofs.Math.Nat.{mul-add-mod_self_right, mod-eq_of_lt, mul-le-mul_right}
use Rattle.std.proofs.Common.{eq-eqb}
use Rattle.columns.specs.Spans.{around, span_number}
use Rattle.columns.specs.declared.value.span.Time.{Time}
use Rattle.columns.proofs.Types.{and_parts, le_of, never}
use Rattle.columns.proofs.Fractions.{even_fits}

-- A number lies around the middle in one way.
pub one_around : (middle : ℕ) (a b : Bool) (x y : ℕ) → x ≤ middle → y ≤ middle → (a ≡ true → x ≢ 0) → (b ≡ true → y ≢ 0) →
    around middle a x ≡ around middle b y → (a ≡ b) × (x ≡ y)
one_around middle true true x y p q some more same = (refl, omega (arith, same))
one_around middle true false x y p q some more same = absurd (omega (arith, same, some refl))
one_around middle false true x y p q some more same = absurd (omega (arith, same, more refl))
one_around middle false false x y p q some more same = (refl, omega (arith, same))

pub record InRange (negative : Bool) (hour minute second number : ℕ) : Type 0 where
  pub hours : hour ≤ 838
  pub minutes : minute ≤ 59
  pub seconds : second ≤ 59
  pub some : negative ≡ true → hour + minute + second + number ≢ 0

pub in_range : (negative : Bool) (hour minute second number : ℕ) → IsTrue (is_time negative hour minute second number) → InRange negative hour minute second number
in_range negative hour minute second number h =
    let last = and_parts (nat_le hour 838 && nat_le minute 59 && nat_le second 59 && not (hour == 838 && minute == 59 && second == 59 && nat_lt 0 number)) (not (negative && hour + minute + second + number == 0)) h in
    let rest = and_parts (nat_le hour 838 && nat_le minute 59 && nat_le second 59) (not (hour == 838 && minute == 59 && second == 59 && nat_lt 0 number)) last.0 in
    let third = and_parts (nat_le hour 838 && nat_le minute 59) (nat_le second 59) rest.0 in
    let first = and_parts (nat_le hour 838) (nat_le minute 59) third.0 in
    record {
      hours = le_of hour 838 first.0;
      minutes = le_of minute 59 first.1;
      seconds = le_of second 59 third.1;
      some = λ minus none. never (rw (minus, eq-eqb (hour + minute + second + number) 0 none) at last.1);
    }

even_zero : (digits number : ℕ) → even_digits digits number ≡ 0 → number ≡ 0
even_zero digits number = by (digits % 2 == 0)
  where
    by : (even : Bool) → (if even then number else number * 10) ≡ 0 → number ≡ 0
    by true none = none
    by false none = omega (arith, none)

some_unit : (size : ℕ) → 0 < 256 ^ size
some_unit size = let h = one-le-pow size 256 (omega arith) in omega (arith, h)

-- the number after seconds is less than one of them
pub record Amount (size : ℕ) (at : Time) : Type 0 where
  pub below : span_number size at < 2 ^ 23 * 256 ^ size
  pub some : at.negative ≡ true → span_number size at ≢ 0
  pub clock : span_number size at / 256 ^ size ≡ clock_number at.hour at.minute at.second
  pub stored : span_number size at % 256 ^ size ≡ even_digits at.fraction.digits at.fraction.number

pub amount_of : (size : ℕ) (at : Time) → size ≡ fraction_size at.fraction.digits → Amount size at
amount_of size at is =
    let range = in_range at.negative at.hour at.minute at.second at.fraction.number at.lawful in
    let clock = clock_number at.hour at.minute at.second in
    let even = even_digits at.fraction.digits at.fraction.number in
    let unit : 0 < 256 ^ size = some_unit size in
    let small : even < 256 ^ size = rw is (even_fits at.fraction.digits at.fraction.number at.fraction.lawful) in
    let few : clock + 1 ≤ 2 ^ 23 = omega (arith, range.hours, range.minutes, range.seconds) in
    let product : (clock + 1) * 256 ^ size ≤ 2 ^ 23 * 256 ^ size = mul-le-mul_right (256 ^ size) few in
    record {
      below = omega (arith, product, small);
      some = λ minus none.
          let no_even : even ≡ 0 = omega (arith, none) in
          let no_clock : clock ≡ 0 = elim (cases_lt 0 clock) [
            | inl above ↦ absurd (omega (arith, mul-le-mul_right (256 ^ size) above, none, unit))
            | inr no_more ↦ omega (arith, no_more)
          ] in
          range.some minus (omega (arith, no_clock, even_zero at.fraction.digits at.fraction.number no_even));
      clock = div-mul-add clock (256 ^ size) even small;
      stored = mul-add-mod_self_right clock (256 ^ size) even ∙ mod-eq_of_lt small;
    }

pub twice : (size : ℕ) → size ≤ 3 → 256 ^ (3 + size) ≡ 2 * (2 ^ 23 * 256 ^ size)
twice zero few = refl
twice (suc zero) few = refl
twice (suc (suc zero)) few = refl
twice (suc (suc (suc zero))) few = refl
twice (suc (suc (suc (suc size)))) few = absurd (omega arith)

pub around_fits : (middle : ℕ) (negative : Bool) (x : ℕ) → x < middle → around middle negative x < 2 * middle
around_fits middle true x small = omega (arith, small)
around_fits middle false x small = omega (arith, small)

-- what is read of the number of a value
pub record Parts (unit amount : ℕ) (negative : Bool) (at : Time) : Type 0 where
  pub sign : negative ≡ at.negative
  pub clock : amount / unit ≡ clock_number at.hour at.minute at.second
  pub stored : amount % unit ≡ even_digits at.fraction.digits at.fraction.number

pub parts_of : (size unit number amount : ℕ) (negative : Bool) (at : Time) → size ≡ fraction_size at.fraction.digits → unit ≡ 256 ^ size →
    number ≡ around (8388608 * unit) negative amount → amount ≤ 8388608 * unit → (negative ≡ true → amount ≢ 0) →
    number ≡ around (2 ^ 23 * 256 ^ size) at.negative (span_number size at) → Parts unit amount negative at
parts_of size unit number amount negative at size_is unit_is is small some same =
    let whole = amount_of size at size_is in
    let middle : 8388608 * unit ≡ 2 ^ 23 * 256 ^ size = ap (λ (u : ℕ). 8388608 * u) unit_is in
    let one = one_around (2 ^ 23 * 256 ^ size) negative at.negative amount (span_number size at) (omega (arith, small, middle)) (omega (arith, whole.below)) some whole.some
    (sym (is ∙ ap (λ (m : ℕ). around m negative amount) middle) ∙ same) in
    record {
      sign = one.0;
      clock = ap (λ (n : ℕ). n / unit) one.1 ∙ ap (λ (u : ℕ). span_number size at / u) unit_is ∙ whole.clock;
      stored = ap (λ (n : ℕ). n % unit) one.1 ∙ ap (λ (u : ℕ). span_number size at % u) unit_is ∙ whole.stored;
    }

pub number_fits : (size : ℕ) (at : Time) → size ≤ 3 → size ≡ fraction_size at.fraction.digits →
    around (2 ^ 23 * 256 ^ size) at.negative (span_number size at) < 256 ^ (3 + size)
number_fits size at few is = rw (twice size few) (around_fits (2 ^ 23 * 256 ^ size) at.negative (span_number size at) (amount_of size at is).below)

-- the number of what was read
pub number_is : (size unit number amount : ℕ) (negative : Bool) (at : Time) → unit ≡ 256 ^ size → number ≡ around (8388608 * unit) negative amount →
    at.negative ≡ negative → amount / unit ≡ clock_number at.hour at.minute at.second → amount % unit ≡ even_digits at.fraction.digits at.fraction.number →
    number ≡ around (2 ^ 23 * 256 ^ size) at.negative (span_number size at)
number_is size unit number amount negative at unit_is is sign clock stored =
    let whole : amount ≡ span_number size at =
    sym (div-add-mod' amount unit) ∙ (λ i. clock i * unit_is i + stored i) in
    is ∙ (λ i. around (8388608 * unit_is i) (sym sign i) (whole i))

pub all_three : {A : Type 0} (P Q R S : A → Type 0) (r : Option A) → IfSome r P → IfSome r Q → IfSome r R → ((a : A) → P a → Q a → R a → S a) → IfSome r S
all_three P Q R S None p q t leads = tt
all_three P Q R S (Some a) p q t leads = leads a p q t
