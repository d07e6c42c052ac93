-- The text of a time of day, cut after its hours.
use Rattle.columns.proofs.Names.{◌≡◌, ℕ, suc, ◌-◌, ◌^◌, ◌<◌, ◌≤◌, zero, List, [], ◌∷◌, ◌++◌, length, get_or, replicate, sym, ap, subst, ◌∙◌, arith, append_assoc, IsTrue, AllDigits, IsNumeral, length-decimal-le, zero_padded, clock_text, fraction_text, IsClockRange}
use Rattle.std.proofs.Common.{decimal}
use Rattle.std.specs.Char.{digit_value}
use Rattle.columns.specs.Times.{is_clock}
use Rattle.columns.specs.Dates.{is_date}
use Rattle.columns.specs.FieldForms.{clock_front, IsDateRange}
use Rattle.columns.proofs.FieldDigits.{padded_is, padded_long, decimal_is, whole_small}

pub clock_split : (hour minute second digits number : ℕ) → clock_text hour minute second digits number ≡ zero_padded 2 hour ++ (clock_front minute second ++ fraction_text digits number)
clock_split hour minute second digits number =
    ap (λ (xs : List ℕ). zero_padded 2 hour ++ 58 ∷ xs) (sym (append_assoc (zero_padded 2 minute) (58 ∷ zero_padded 2 second) (fraction_text digits number)))

pub date_range : (year month day : ℕ) → IsTrue (is_date year month day) → IsDateRange year month day
date_range year month day h = (grind (arith, h), grind (arith, h), grind (arith, h))

pub clock_range : (hour minute second : ℕ) → IsTrue (is_clock hour minute second) → (hour < 100) × IsClockRange minute second
clock_range hour minute second h = (grind (arith, h), (grind (arith, h), grind (arith, h)))

-- three digits, and two digits with a colon behind them
three_or_two : (a b rest more : List ℕ) → length a ≡ 3 → AllDigits 10 a → length b ≡ 2 → a ++ rest ≡ b ++ 58 ∷ more → ⊥
three_or_two (x ∷ (y ∷ (z ∷ []))) (u ∷ (v ∷ [])) rest more three digits two e =
    let colon : z ≡ 58 = ap (λ (xs : List ℕ). get_or xs 2 0) e in
    omega (arith, subst (λ (d : ℕ). digit_value d < 10) colon digits.1.1.0)
three_or_two [] b rest more three digits two e = absurd (omega (arith, three))
three_or_two (x ∷ []) b rest more three digits two e = absurd (omega (arith, three))
three_or_two (x ∷ (y ∷ [])) b rest more three digits two e = absurd (omega (arith, three))
three_or_two (x ∷ (y ∷ (z ∷ (w ∷ a)))) b rest more three digits two e = absurd (omega (arith, three))
three_or_two (x ∷ (y ∷ (z ∷ []))) [] rest more three digits two e = absurd (omega (arith, two))
three_or_two (x ∷ (y ∷ (z ∷ []))) (u ∷ []) rest more three digits two e = absurd (omega (arith, two))
three_or_two (x ∷ (y ∷ (z ∷ []))) (u ∷ (v ∷ (w ∷ b))) rest more three digits two e = absurd (omega (arith, two))

pub no_three : (n hour : ℕ) (rest more text : List ℕ) → n < 1000 → hour < 100 → text ≡ zero_padded 3 n ++ rest → text ≡ zero_padded 2 hour ++ 58 ∷ more → ⊥
no_three n hour rest more text small few e f =
    three_or_two (zero_padded 3 n) (zero_padded 2 hour) rest more (padded_long 3 n (omega arith) (omega (arith, small)) (omega (arith, small)))
    (padded_is 3 n (omega (arith, small))).0.1 (padded_long 2 hour (omega arith) (omega (arith, few)) (omega (arith, few))) (sym e ∙ f)

power_of_two_digits : (k : ℕ) → k ≤ 2 → 10 ^ k ≤ 100
power_of_two_digits zero few = omega arith
power_of_two_digits (suc zero) few = omega arith
power_of_two_digits (suc (suc zero)) few = omega arith
power_of_two_digits (suc (suc (suc k))) few = absurd (omega (arith, few))

three_long : (hour : ℕ) → 100 ≤ hour → hour < 1000 → length (decimal hour) ≡ 3
three_long hour great small =
    let few = length-decimal-le 3 hour (omega arith) (omega (arith, small)) (omega (arith, small)) in
    let below = whole_small hour (decimal hour) (decimal_is hour (omega (arith, small))) in
    let some : (length (decimal hour) ≤ 2) → ⊥ = λ two. omega (arith, great, below, power_of_two_digits (length (decimal hour)) two) in
    omega (arith, few, some)

-- a hundred hours and more are written in three digits
pub three_digits : (hour : ℕ) → 100 ≤ hour → hour < 1000 → zero_padded 2 hour ≡ zero_padded 3 hour
three_digits hour great small =
    let long = three_long hour great small in
    let two : 2 - length (decimal hour) ≡ 0 = omega (arith, long) in
    let three : 3 - length (decimal hour) ≡ 0 = omega (arith, long) in
    ap (λ (k : ℕ). replicate k 48 ++ decimal hour) (two ∙ sym three)

-- digits do not begin with a minus sign
pub no_minus : (digits rest more : List ℕ) → IsNumeral 10 digits → digits ++ rest ≡ 45 ∷ more → ⊥
no_minus [] rest more h e = absurd (omega (arith, h.0))
no_minus (d ∷ digits) rest more h e =
    let minus : d ≡ 45 = ap (λ (xs : List ℕ). get_or xs 0 0) e in
    omega (arith, subst (λ (x : ℕ). digit_value x < 10) minus h.1.0)

-- what stands behind the colon after the hours
abbrev pub after_minute : ℕ → ℕ → ℕ → ℕ → List ℕ
after_minute minute second digits number = (zero_padded 2 minute ++ 58 ∷ zero_padded 2 second) ++ fraction_text digits number

-- a time does not begin with a minus sign
pub clock_no_minus : (hour minute second digits number : ℕ) (more : List ℕ) → hour < 1000 → clock_text hour minute second digits number ≡ 45 ∷ more → ⊥
clock_no_minus hour minute second digits number more small e =
    no_minus (zero_padded 2 hour) (58 ∷ (zero_padded 2 minute ++ 58 ∷ (zero_padded 2 second ++ fraction_text digits number))) more (padded_is 2 hour (omega (arith, small))).0 e
