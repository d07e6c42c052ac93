use Rattle.std.proofs.Common.{◌≡◌, ℕ, zero, suc, ◌*◌, ◌^◌, ◌<◌, ◌≤◌, Some, length, refl, ap, ◌∙◌, arith}
use Rattle.std.proofs.Math.Nat.{pow-le-pow_right, pow-succ'}
use Rattle.columns.specs.Bits.{bit_size}
use Rattle.columns.proofs.value.bit.of_bytes.Goals as goal

-- eight bits are a byte
bits_of_bytes : (k : ℕ) → 2 ^ (8 * k) ≡ 256 ^ k
bits_of_bytes zero = refl
bits_of_bytes (suc k) =
    let more : 8 * suc k ≡ suc (suc (suc (suc (suc (suc (suc (suc (8 * k)))))))) = omega arith in
    let e0 = pow-succ' 2 (8 * k) in
    let e1 = pow-succ' 2 (suc (8 * k)) in
    let e2 = pow-succ' 2 (suc (suc (8 * k))) in
    let e3 = pow-succ' 2 (suc (suc (suc (8 * k)))) in
    let e4 = pow-succ' 2 (suc (suc (suc (suc (8 * k))))) in
    let e5 = pow-succ' 2 (suc (suc (suc (suc (suc (8 * k)))))) in
    let e6 = pow-succ' 2 (suc (suc (suc (suc (suc (suc (8 * k))))))) in
    let e7 = pow-succ' 2 (suc (suc (suc (suc (suc (suc (suc (8 * k)))))))) in
    ap (λ (n : ℕ). 2 ^ n) more ∙ omega (arith, e0, e1, e2, e3, e4, e5, e6, e7, bits_of_bytes k, pow-succ' 256 k)

-- so many bits fit their bytes
bit_fits : (bits number : ℕ) → number < 2 ^ bits → number < 256 ^ bit_size bits
bit_fits bits number small =
    let more : bits ≤ 8 * bit_size bits = omega arith in
    let power : 2 ^ bits ≤ 2 ^ (8 * bit_size bits) = pow-le-pow_right {n = 2} (omega arith) more in
    omega (arith, small, power, bits_of_bytes (bit_size bits))

pub returns-clause-only : goal.returns-clause-only
returns-clause-only c number small is =
    let long : length c.args.bytes.now ≡ bit_size c.args.bits = c.if-bytes-size_of_bits.false ∙ c.size_of_bits.ensures in
    ap Some (c.read_big-number.ensures.only number (rw long (bit_fits c.args.bits number small)) (rw long is))
