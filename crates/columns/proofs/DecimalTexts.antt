-- How long the text of a decimal number is.
use Rattle.std.proofs.Common.{◌≡◌, ℕ, ◌+◌, ◌-◌, ◌<◌, Bool, List, [], ◌∷◌, ◌++◌, length, take, drop, refl, sym, ap, ◌∙◌, arith, length-append, take-take, subst}
use Rattle.std.specs.Prelude.{IsTrue}
use Rattle.columns.specs.Decimals.{are_digits, digits_text, significant, sign_part, fraction_part, decimal_text}
use Rattle.columns.proofs.DigitNumbers.{digits_take, digits_drop, text_long, significant_digits}

no_fraction : (fraction : List ℕ) → length fraction ≡ 0 → length (fraction_part fraction) ≡ 0
no_fraction [] none = refl
no_fraction (d ∷ fraction) none = absurd (omega (arith, none))

a_fraction : (fraction : List ℕ) → IsTrue (are_digits fraction) → 0 < length fraction → length (fraction_part fraction) ≡ 1 + length fraction
a_fraction [] lawful some = absurd (omega (arith, some))
a_fraction (d ∷ fraction) lawful some = omega (arith, text_long (d ∷ fraction) lawful)

parts_long : (negative : Bool) (precision scale : ℕ) (digits sign whole fraction : List ℕ) → IsTrue (are_digits digits) →
    sign ≡ sign_part negative (take precision digits) → whole ≡ significant (take (precision - scale) (take precision digits)) →
    fraction ≡ drop (precision - scale) (take precision digits) →
    length (decimal_text negative precision scale digits) ≡ length sign + (length whole + length (fraction_part fraction))
parts_long negative precision scale digits sign whole fraction lawful sign_is whole_is fraction_is =
    let cut : take (precision - scale) (take precision digits) ≡ take (precision - scale) digits =
    take-take (precision - scale) precision digits (omega arith) in
    let shown = significant (take (precision - scale) digits) in
    let long = text_long shown (significant_digits (take (precision - scale) digits) (digits_take (precision - scale) digits lawful)) in
    let same : length whole ≡ length shown = ap length (whole_is ∙ ap significant cut) in
    let behind = fraction_part (drop (precision - scale) (take precision digits)) in
    length-append (sign_part negative (take precision digits)) (digits_text shown ++ behind)
    ∙ omega (arith, ap length sign_is, length-append (digits_text shown) behind, long, same, ap (λ (xs : List ℕ). length (fraction_part xs)) fraction_is)

pub whole_long : (negative : Bool) (precision scale : ℕ) (digits sign whole fraction : List ℕ) → IsTrue (are_digits digits) →
    sign ≡ sign_part negative (take precision digits) → whole ≡ significant (take (precision - scale) (take precision digits)) →
    fraction ≡ drop (precision - scale) (take precision digits) → length fraction ≡ 0 →
    length sign + length whole ≡ length (decimal_text negative precision scale digits)
whole_long negative precision scale digits sign whole fraction lawful sign_is whole_is fraction_is none =
    omega (arith, parts_long negative precision scale digits sign whole fraction lawful sign_is whole_is fraction_is, no_fraction fraction none)

pub all_long : (negative : Bool) (precision scale : ℕ) (digits sign whole fraction : List ℕ) → IsTrue (are_digits digits) →
    sign ≡ sign_part negative (take precision digits) → whole ≡ significant (take (precision - scale) (take precision digits)) →
    fraction ≡ drop (precision - scale) (take precision digits) → 0 < length fraction →
    length sign + length whole + 1 + length fraction ≡ length (decimal_text negative precision scale digits)
all_long negative precision scale digits sign whole fraction lawful sign_is whole_is fraction_is some =
    let behind : IsTrue (are_digits fraction) = subst (λ (xs : List ℕ). IsTrue (are_digits xs)) (sym fraction_is) (digits_drop (precision - scale) (take precision digits) (digits_take precision digits lawful)) in
    omega (arith, parts_long negative precision scale digits sign whole fraction lawful sign_is whole_is fraction_is, a_fraction fraction behind some)
