-- Floats that are finite.
use Rattle.columns.proofs.Names.{◌≡◌, ℕ, zero, suc, ◌/◌, ◌%◌, ◌<◌, Bool, true, not, T, refl, arith, ◌≤◌, ◌⊎◌, inl, inr, false, sym, ap, ◌∙◌, IsTrue, binary32, binary64, Float, ne_eqb, cases_lt}
use Rattle.std.proofs.Common.{leb, cond, eqb}
use Rattle.std.specs.Float.{float_is_finite}
use Rattle.std.specs.Float.Ieee.{Format, is_nan, nan, inf, fin, odd, of_fields, of_bits, ones, top, hid}
use Rattle.columns.proofs.Types.{never}

odd_finite : (d : ℕ) (s : Bool) (n k l : ℕ) → float_is_finite (odd d s n k l) ≡ true
unfolding odd float_is_finite
odd_finite d s zero k l = refl
odd_finite d s (suc n) k l = refl

fields_finite : (f : Format) (s : Bool) (x t : ℕ) → (x ≡ ones f → ⊥) → float_is_finite (of_fields f s x t) ≡ true
unfolding of_fields
fields_finite f s zero t other = odd_finite _ s t zero _
fields_finite f s (suc x) t other = rw (ne_eqb (suc x) (ones f) other) (odd_finite _ s _ x _)

pub float_finite : (bits : ℕ) → bits % 0x80000000 < 0x7f800000 → IsTrue (float_is_finite (of_bits binary32 bits))
unfolding of_bits
float_finite bits below = fields_finite binary32 (leb (top binary32) bits) (bits % top binary32 / hid binary32) (bits % hid binary32) (λ h. omega (arith, below, h))

pub double_finite : (bits : ℕ) → bits % 0x8000000000000000 < 0x7ff0000000000000 → IsTrue (float_is_finite (of_bits binary64 bits))
unfolding of_bits
double_finite bits below = fields_finite binary64 (leb (top binary64) bits) (bits % top binary64 / hid binary64) (bits % hid binary64) (λ h. omega (arith, below, h))

pub a_number : (x : Float) → IsTrue (float_is_finite x) → T (not (is_nan x))
unfolding float_is_finite is_nan
a_number nan h = absurd (never h)
a_number (inf s) h = absurd (never h)
a_number (fin s m e) h = tt

neither : (s negative : Bool) → float_is_finite (cond s (inf negative) nan) ≡ false
unfolding float_is_finite
neither true negative = refl
neither false negative = refl

full_float : (s : Bool) (t : ℕ) → float_is_finite (of_fields binary32 s 255 t) ≡ false
unfolding of_fields
full_float s t = neither (eqb t 0) s

full_double : (s : Bool) (t : ℕ) → float_is_finite (of_fields binary64 s 2047 t) ≡ false
unfolding of_fields
full_double s t = neither (eqb t 0) s

-- a finite float has less than the bits of infinity
pub float_below : (bits : ℕ) → IsTrue (float_is_finite (of_bits binary32 bits)) → bits % 0x80000000 < 0x7f800000
unfolding of_bits
float_below bits finite = by (cases_lt (bits % 0x80000000) 0x7f800000)
  where
    by : (bits % 0x80000000 < 0x7f800000) ⊎ (0x7f800000 ≤ bits % 0x80000000) → bits % 0x80000000 < 0x7f800000
    by (inl below) = below
    by (inr above) =
        let field : bits % 0x80000000 / 0x800000 ≡ 255 = omega (arith, above) in
        absurd (never (sym (full_float (leb 0x80000000 bits) (bits % 0x800000))
        ∙ ap (λ (x : ℕ). float_is_finite (of_fields binary32 (leb 0x80000000 bits) x (bits % 0x800000))) (sym field) ∙ finite))

pub double_below : (bits : ℕ) → IsTrue (float_is_finite (of_bits binary64 bits)) → bits % 0x8000000000000000 < 0x7ff0000000000000
unfolding of_bits
double_below bits finite = by (cases_lt (bits % 0x8000000000000000) 0x7ff0000000000000)
  where
    by : (bits % 0x8000000000000000 < 0x7ff0000000000000) ⊎ (0x7ff0000000000000 ≤ bits % 0x8000000000000000) → bits % 0x8000000000000000 < 0x7ff0000000000000
    by (inl below) = below
    by (inr above) =
        let field : bits % 0x8000000000000000 / 0x10000000000000 ≡ 2047 = omega (arith, above) in
        absurd (never (sym (full_double (leb 0x8000000000000000 bits) (bits % 0x10000000000000))
        ∙ ap (λ (x : ℕ). float_is_finite (of_fields binary64 (leb 0x8000000000000000 bits) x (bits % 0x10000000000000))) (sym field) ∙ finite))
