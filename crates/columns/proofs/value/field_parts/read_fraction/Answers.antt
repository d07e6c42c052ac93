use Rattle.columns.proofs.Names.{◌≡◌, ◌≢◌, ℕ, suc, ◌^◌, ◌<◌, ◌∷◌, nat_le, nat_lt, refl, ◌∙◌, IsTrue, ne_eqb, zero_padded, is_fraction, fraction_text}
use Rattle.columns.proofs.Types.{and_parts, le_of}
use Rattle.columns.proofs.value.field_parts.read_fraction.Goals as goal

fraction_small : (digits number : ℕ) → IsTrue (is_fraction digits number) → number < 10 ^ digits
fraction_small digits number h = le_of (suc number) (10 ^ digits) (and_parts (nat_le digits 6) (nat_lt number (10 ^ digits)) h).1

some_digits : (digits number : ℕ) → digits ≢ 0 → fraction_text digits number ≡ 46 ∷ zero_padded digits number
some_digits digits number some = rw (ne_eqb digits 0 some) refl

pub returns-in_err-number-clause-only : goal.returns-in_err-number-clause-only
returns-in_err-number-clause-only c number h e =
    let rest = c.in_ok-rest.ensures.only (zero_padded c.args.digits number) (e ∙ some_digits c.args.digits number c.if-digits-eq0.false) in
    absurd (c.in_err-number.ensures.only number (rw c.from.ensures (fraction_small c.args.digits number h)) (rw c.from.ensures rest))
