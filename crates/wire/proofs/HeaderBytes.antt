-- Headers of packets, as bytes and as numbers.
use Rattle.wire.proofs.Names.{◌≡◌, ℕ, ◌/◌, ◌%◌, ◌<◌, List, [], ◌∷◌, length, get_or, arith, little_number, IsHeader}
use Rattle.wire.specs.Packet.{full_chunk}

-- four bytes are a header
pub is_header : (header : List ℕ) (size got : ℕ) → length header ≡ 4 → ((i : ℕ) → get_or header i 0 < 256) →
    size ≡ little_number 3 header → got ≡ get_or header 3 0 → IsHeader size got header
unfolding full_chunk
is_header [] size got long fits s g = absurd (omega arith)
is_header (a ∷ []) size got long fits s g = absurd (omega arith)
is_header (a ∷ b ∷ []) size got long fits s g = absurd (omega arith)
is_header (a ∷ b ∷ c ∷ []) size got long fits s g = absurd (omega arith)
is_header (a ∷ b ∷ c ∷ d ∷ []) size got long fits s g =
    let x : a < 256 = fits 0 in
    let y : b < 256 = fits 1 in
    let z : c < 256 = fits 2 in
    let w : d < 256 = fits 3 in
    let e : a ≡ size % 256 = omega arith in
    let f : b ≡ size / 256 % 256 = omega arith in
    let h : c ≡ size / 65536 % 256 = omega arith in
    let k : d ≡ got = omega arith in
    record { bytes_are = λ i. e i ∷ f i ∷ h i ∷ k i ∷ []; a_size = omega arith; an_id = omega arith }
is_header (a ∷ b ∷ c ∷ d ∷ e ∷ more) size got long fits s g = absurd (omega arith)
