-- A value of binary32 is not changed where it is rounded to one.
use Rattle.columns.proofs.Names.{◌≡◌, ℕ, zero, suc, ◌+◌, ◌-◌, ◌*◌, ◌/◌, ◌%◌, ◌^◌, ◌<◌, ◌≤◌, Bool, T, sym, ap, ◌∙◌, arith, subst, ◌&&◌, ◌⊎◌, inl, inr, cases_lt, IsTrue, of_bits-to_bits}
use Rattle.std.proofs.Common.{pos, negsuc, ℤ, cond, eqb, leb, ltb}
use lib.Dec.{ltb→lt, leb→le}
use Rattle.std.specs.Float.{round_to_format, float_is_finite}
use Rattle.columns.proofs.Types.{never}
use lib.Ieee.{Float, nan, inf, fin, binary32, binary64, up, down, size, hid, top, fits, round, to_bits, of_bits}
use lib.Ieee.Exact.{HasValue, round_exact}
use lib.Ieee.Fits.{down_pos, and_l, and_r, round-fits, fits_widens}
use lib.Ieee.Nearest.{div_same}
use lib.Pow.{pow-add, pow-lt, pow_pos, shl_lt}
use native.Mathlib.Nat.{mul_assoc, mul_right_comm, lt_of_lt_of_le, lt_trans, lt_irrefl}

-- the bits of a value are those of any form of it
same_bits : (s : Bool) (m : ℕ) (e : ℤ) (x : Float) → HasValue x s (m * up e) (down e) → to_bits binary64 x ≡ to_bits binary64 (fin s m e)
unfolding to_bits
same_bits s m e nan v = absurd v
same_bits s m e (inf t) v = absurd v
same_bits s m e (fin t n d) v =
    let whole : n * up d * 2 ^ 1074 / down d ≡ m * up e * 2 ^ 1074 / down e =
    div_same (n * up d * 2 ^ 1074) (down d) (m * up e * 2 ^ 1074) (down e) (down_pos d) (down_pos e)
    (mul_right_comm (n * up d) (2 ^ 1074) (down e) ∙ ap (λ (k : ℕ). k * 2 ^ 1074) v.1 ∙ mul_right_comm (m * up e) (down d) (2 ^ 1074)) in
    λ i. cond (v.0 i) (top binary64) 0 + (size (whole i) - 53) * hid binary64 + whole i / 2 ^ (size (whole i) - 53)

exact_up : (s : Bool) (m k : ℕ) → m < 2 ^ 24 → m * 2 ^ k < 2 ^ 128 → HasValue (round binary32 s (m * 2 ^ k) 1) s (m * 2 ^ k) 1
exact_up s m k small fine =
    let cut : m * 2 ^ (k + 149) ≡ m * 2 ^ k * 2 ^ 149 = ap (λ (p : ℕ). m * p) (pow-add 2 k 149) ∙ sym (mul_assoc m (2 ^ k) (2 ^ 149)) in
    let below : m * 2 ^ k * 2 ^ 149 < 2 ^ 277 = shl_lt 128 149 fine in
    round_exact binary32 s (m * 2 ^ k) 1 m (k + 149) (omega arith) small (subst (λ (n : ℕ). n < 2 ^ 277) (sym cut) below) (omega (arith, cut))

exact_down : (s : Bool) (m k : ℕ) → m < 2 ^ 24 → suc k ≤ 149 → HasValue (round binary32 s (m * 1) (2 ^ suc k)) s (m * 1) (2 ^ suc k)
exact_down s m k small near =
    let whole : 149 - suc k + suc k ≡ 149 = omega (arith, near) in
    let cut : m * 2 ^ (149 - suc k) * 2 ^ suc k ≡ m * 2 ^ 149 =
    mul_assoc m (2 ^ (149 - suc k)) (2 ^ suc k) ∙ ap (λ (p : ℕ). m * p) (sym (pow-add 2 (149 - suc k) (suc k)) ∙ ap (λ (j : ℕ). 2 ^ j) whole) in
    let below : m * 2 ^ (149 - suc k) < 2 ^ (24 + (149 - suc k)) = shl_lt 24 (149 - suc k) small in
    let top : 2 ^ (24 + (149 - suc k)) < 2 ^ 277 = pow-lt {i = 24 + (149 - suc k)} {j = 277} (omega arith) in
    round_exact binary32 s (m * 1) (2 ^ suc k) m (149 - suc k) (pow_pos (suc k)) small (lt_trans below top) (omega (arith, cut))

exact_zero : (s : Bool) (e : ℤ) → HasValue (round binary32 s (0 * up e) (down e)) s (0 * up e) (down e)
exact_zero s e = round_exact binary32 s (0 * up e) (down e) 0 0 (down_pos e) (omega arith) (omega arith) (omega arith)

near : (k : ℕ) → 2 ^ suc k ≤ 2 ^ 149 → suc k ≤ 149
near k below = by (cases_lt 149 (suc k))
  where
    by : (149 < suc k) ⊎ (suc k ≤ 149) → suc k ≤ 149
    by (inl above) = absurd (lt_irrefl (2 ^ 149) (lt_of_lt_of_le (pow-lt above) below))
    by (inr within) = within

pub exact : (s : Bool) (m : ℕ) (e : ℤ) → T (fits binary32 (fin s m e)) → HasValue (round binary32 s (m * up e) (down e)) s (m * up e) (down e)
unfolding fits
exact s zero e f = exact_zero s e
exact s (suc m) (pos k) f =
    let a : Bool = eqb (suc m % 2) 1 in
    let b : Bool = ltb (suc m) (2 ^ 24) in
    let c : Bool = leb 1 (2 ^ 149) in
    let d : Bool = ltb (suc m * 2 ^ k) (2 ^ 128 * 1) in
    exact_up s (suc m) k (ltb→lt (suc m) (2 ^ 24) (and_r a b (and_l (a && b) c (and_l (a && b && c) d f)))) (ltb→lt (suc m * 2 ^ k) (2 ^ 128) (and_r (a && b && c) d f))
exact s (suc m) (negsuc k) f =
    let a : Bool = eqb (suc m % 2) 1 in
    let b : Bool = ltb (suc m) (2 ^ 24) in
    let c : Bool = leb (2 ^ suc k) (2 ^ 149) in
    let d : Bool = ltb (suc m * 1) (2 ^ 128 * 2 ^ suc k) in
    exact_down s (suc m) k (ltb→lt (suc m) (2 ^ 24) (and_r a b (and_l (a && b) c (and_l (a && b && c) d f)))) (near k (leb→le (2 ^ suc k) (2 ^ 149) (and_r (a && b) c (and_l (a && b && c) d f))))

pub rounded_bits : (x : Float) → IsTrue (float_is_finite x) → T (fits binary32 x) → to_bits binary64 (round_to_format binary32 x) ≡ to_bits binary64 x
unfolding round_to_format float_is_finite
rounded_bits nan finite f = absurd (never finite)
rounded_bits (inf s) finite f = absurd (never finite)
rounded_bits (fin s m e) finite f = same_bits s m e (round binary32 s (m * up e) (down e)) (exact s m e f)

rounded_fits : (x : Float) → T (fits binary32 (round_to_format binary32 x))
unfolding round_to_format fits
rounded_fits nan = tt
rounded_fits (inf s) = tt
rounded_fits (fin s m e) = round-fits binary32 s (m * up e) (down e)

-- a value is one of binary32 if what it is rounded to has its bits
pub same_value : (x : Float) → T (fits binary64 x) → to_bits binary64 (round_to_format binary32 x) ≡ to_bits binary64 x → round_to_format binary32 x ≡ x
same_value x f same =
    sym (of_bits-to_bits binary64 (round_to_format binary32 x) (fits_widens (round_to_format binary32 x) (rounded_fits x))) ∙ ap (of_bits binary64) same ∙ of_bits-to_bits binary64 x f
