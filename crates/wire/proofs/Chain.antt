-- Full packets at the front of bytes, and what follows them.
use Rattle.wire.proofs.Names.{◌≡◌, ℕ, zero, suc, ◌+◌, ◌*◌, ◌/◌, ◌%◌, ◌<◌, ◌≤◌, ◌^◌, ◌⊎◌, List, [], ◌∷◌, ◌++◌, length, get_or, refl, ap, sym, subst, ◌∙◌, append_assoc, arith, length-append, inl, inr, take-append-drop, concat, AllByRecursion, little_bytes, packet, packets, IsFullChunk, HasHeader, IsUnfinished}
use Rattle.std.proofs.Common.{drop}
use Rattle.std.proofs.Math.Seq.{drop-append_seam}
use Rattle.wire.proofs.Packets.{packets-push}
use Rattle.wire.specs.Packet.{full_chunk}

-- n full packets from the id, and then the rest
abbrev pub Chain : ℕ → ℕ → List ℕ → List ℕ → Type 0
Chain id zero bytes rest = bytes ≡ rest
Chain id (suc n) bytes rest = (chunk : List ℕ) × (others : List ℕ) × (bytes ≡ packet id chunk ++ others) × IsFullChunk chunk × Chain (suc id) n others rest

pub chain_of : (id : ℕ) (chunks : List (List ℕ)) (rest : List ℕ) → AllByRecursion IsFullChunk chunks → Chain id (length chunks) (packets id chunks ++ rest) rest
chain_of id [] rest full = refl
chain_of id (p ∷ chunks) rest full =
    (p, packets (suc id) chunks ++ rest, append_assoc (packet id p) (packets (suc id) chunks) rest, full.0, chain_of (suc id) chunks rest full.1)

-- equal bytes that begin with packets of equal length are equal after them
same_others : (id : ℕ) (p q x y : List ℕ) → length p ≡ length q → packet id p ++ x ≡ packet id q ++ y → x ≡ y
same_others id p q x y long same =
    sym (drop-append_seam (packet id p) x) ∙ (λ i. drop (suc (suc (suc (suc (long i))))) (same i)) ∙ drop-append_seam (packet id q) y

-- if n full packets are at the front, n + m of them are these and m after them
pub chain_split : (id n m k j : ℕ) (bytes rest others : List ℕ) → Chain id n bytes rest → k ≡ n + m → j ≡ id + n → Chain id k bytes others → Chain j m rest others
chain_split id zero m k j bytes rest others a is_k is_j b =
    let e : k ≡ m = omega arith in
    let f : id ≡ j = omega arith in
    subst (λ x. Chain x m rest others) f (subst (λ x. Chain id x rest others) e (subst (λ x. Chain id k x others) a b))
chain_split id (suc n) m zero j bytes rest others a is_k is_j b = absurd (omega arith)
chain_split id (suc n) m (suc k) j bytes rest others a is_k is_j b =
    chain_split (suc id) n m k j a.1 rest others a.4 (omega arith) (omega arith)
    (subst (λ x. Chain (suc id) k x others) (same_others id b.0 a.0 b.1 a.1 (b.3 ∙ sym a.3) (sym b.2 ∙ a.2)) b.4)

three_bytes : (n : ℕ) → n < 2 ^ 24 → n ≡ n % 256 + 256 * (n / 256 % 256) + 65536 * (n / 65536 % 256)
three_bytes n h = omega arith

-- a packet whose header is these bytes
pub peel : (id : ℕ) (chunk others : List ℕ) (size got : ℕ) (more : List ℕ) → length chunk < 2 ^ 24 → size < 2 ^ 24 →
    packet id chunk ++ others ≡ little_bytes 3 size ++ got ∷ more → (size ≡ length chunk) × (got ≡ id % 256) × (more ≡ chunk ++ others)
peel id chunk others size got more fits sized same =
    let a : length chunk % 256 ≡ size % 256 = ap (λ l. get_or l 0 0) same in
    let b : length chunk / 256 % 256 ≡ size / 256 % 256 = ap (λ l. get_or l 1 0) same in
    let c : length chunk / 65536 % 256 ≡ size / 65536 % 256 = ap (λ l. get_or l 2 0) same in
    let s = three_bytes size sized in
    let t = three_bytes (length chunk) fits in
    (omega (arith, a, b, c, s, t), sym (ap (λ l. get_or l 3 0) same), sym (ap (drop 4) same))

-- less than a packet: less than a header, or a right header and fewer bytes than it announces
abbrev pub IsOpen : ℕ → ℕ → List ℕ → Type 0
IsOpen id room rest = (length rest < 4) ⊎ ((size : ℕ) × (body : List ℕ) × (rest ≡ little_bytes 3 size ++ id ∷ body) × (size ≤ room) × (size < 2 ^ 24) × (length body < size))

pub order : (m n : ℕ) → ((d : ℕ) × (n ≡ m + d)) ⊎ ((d : ℕ) × (m ≡ n + suc d))
order zero n = inl (n, omega arith)
order (suc m) zero = inr (m, omega arith)
order (suc m) (suc n) = elim (order m n) [ inl h ↦ inl (h.0, omega arith) | inr h ↦ inr (h.0, omega arith) ]

-- what a header at or before the open rest says
abbrev pub IsRight : ℕ → ℕ → ℕ → ℕ → ℕ → List ℕ → Type 0
IsRight due limit m size got more = (got ≡ (due + m) % 256) × (m * full_chunk + size ≤ limit) × ((size ≡ full_chunk) ⊎ (length more < size))

pub same_header : (size got : ℕ) (more : List ℕ) (size' got' : ℕ) (more' : List ℕ) → size < 2 ^ 24 → size' < 2 ^ 24 →
    little_bytes 3 size ++ got ∷ more ≡ little_bytes 3 size' ++ got' ∷ more' → (size ≡ size') × (got ≡ got') × (more ≡ more')
same_header size got more size' got' more' sized sized' same =
    let a : size % 256 ≡ size' % 256 = ap (λ l. get_or l 0 0) same in
    let b : size / 256 % 256 ≡ size' / 256 % 256 = ap (λ l. get_or l 1 0) same in
    let c : size / 65536 % 256 ≡ size' / 65536 % 256 = ap (λ l. get_or l 2 0) same in
    let s = three_bytes size sized in
    let t = three_bytes size' sized' in
    (omega (arith, a, b, c, s, t), ap (λ l. get_or l 3 0) same, ap (drop 4) same)

pub full_fits : (chunk : List ℕ) → IsFullChunk chunk → length chunk < 2 ^ 24
unfolding full_chunk
full_fits chunk full = omega (arith, full)

-- the header is where the open rest is, or before it
at_or_before : (due limit n room id : ℕ) (rest : List ℕ) → n * full_chunk + room ≡ limit → id ≡ (due + n) % 256 → IsOpen id room rest →
    (m size got : ℕ) (front more : List ℕ) → front ≡ little_bytes 3 size ++ got ∷ more → size < 2 ^ 24 →
    (d : ℕ) → n ≡ m + d → Chain (due + m) d front rest → IsRight due limit m size got more
at_or_before due limit n room id rest room_is id_is (inl short) m size got front more header sized zero at same =
    absurd (omega (arith, ap length (sym same ∙ header), short))
at_or_before due limit n room id rest room_is id_is (inr (size', body, rest_is, fits, sized', short)) m size got front more header sized zero at same =
    let e = same_header size got more size' id body sized sized' (sym header ∙ same ∙ rest_is) in
    let k : n ≡ m = omega arith in
    let f : n * full_chunk ≡ m * full_chunk = ap (λ x. x * full_chunk) k in
    (e.1 ∙ id_is ∙ ap (λ x. (due + x) % 256) k, omega (arith, e.0, f), inr (omega (arith, e.0, ap length e.2)))
at_or_before due limit n room id rest room_is id_is is_open m size got front more header sized (suc d) at (p, o, front_is, full, after) =
    let e = peel (due + m) p o size got more (full_fits p full) sized (sym front_is ∙ header) in
    let f : n * full_chunk ≡ (m + suc d) * full_chunk = ap (λ x. x * full_chunk) at in
    (e.1, omega (arith, e.0, full, f), inl (e.0 ∙ full))

-- no header is after the open rest
none_after : (id j room : ℕ) (rest front : List ℕ) (d : ℕ) → IsOpen id room rest → Chain j (suc d) rest front → ⊥
none_after id j room rest front d (inl short) (p, o, rest_is, full, after) = omega (arith, ap length rest_is, short)
none_after id j room rest front d (inr (size, body, header, fits, sized, short)) (p, o, rest_is, full, after) =
    let e = peel j p o size id body (full_fits p full) sized (sym rest_is ∙ header) in
    omega (arith, e.0, ap length e.2, length-append p o, short)

pub front_is_right : (due limit n room id : ℕ) (bytes rest : List ℕ) → Chain due n bytes rest → n * full_chunk + room ≡ limit → id ≡ (due + n) % 256 → IsOpen id room rest →
    (m size got : ℕ) (front more : List ℕ) → Chain due m bytes front → front ≡ little_bytes 3 size ++ got ∷ more → size < 2 ^ 24 → IsRight due limit m size got more
front_is_right due limit n room id bytes rest chain room_is id_is is_open m size got front more other header sized = elim (order m n) [
  | inl h ↦ at_or_before due limit n room id rest room_is id_is is_open m size got front more header sized h.0 h.1
      (chain_split due m h.0 n (due + m) bytes front rest other h.1 refl chain)
  | inr h ↦ absurd (none_after id (due + n) room rest front h.0 is_open (chain_split due n (suc h.0) m (due + n) bytes rest front chain h.1 refl other))
]

-- full packets have been read, and the rest is still to be read
pub record Scanned (due limit : ℕ) (bytes rest : List ℕ) (full room id : ℕ) : Type 0 where
  pub chain : Chain due full bytes rest
  pub room_is : full * full_chunk + room ≡ limit
  pub id_is : id ≡ (due + full) % 256

pub size_fits : (size : ℕ) → size ≤ full_chunk → size < 2 ^ 24
unfolding full_chunk
size_fits size h = omega arith

pub short_fits : (size : ℕ) → size < full_chunk → size < 2 ^ 24
unfolding full_chunk
short_fits size h = omega arith

-- a header of the definition as a chain
pub header_chain : {due limit : ℕ} {bytes : List ℕ} {before size got : ℕ} (h : HasHeader due limit bytes before size got) →
    Chain due before bytes (little_bytes 3 size ++ got ∷ h.more)
header_chain {due} {limit} {bytes} {before} {size} {got} h =
    subst (λ n. Chain due n bytes (little_bytes 3 size ++ got ∷ h.more)) h.count
    (subst (λ b. Chain due (length h.chunks) b (little_bytes 3 size ++ got ∷ h.more))
    (sym (h.bytes_are ∙ ap (λ x. packets due h.chunks ++ x ++ h.more) h.is_header.bytes_are ∙ append_assoc (packets due h.chunks) (little_bytes 3 size ++ got ∷ []) h.more))
    (chain_of due h.chunks (little_bytes 3 size ++ got ∷ h.more) h.full))

pub unfinished : (due limit n room id : ℕ) (bytes rest : List ℕ) → Scanned due limit bytes rest n room id → IsOpen id room rest → IsUnfinished due limit bytes
unfinished due limit n room id bytes rest s is_open = record {
  in_sequence = λ want got h.
      let r = front_is_right due limit n room id bytes rest s.chain s.room_is s.id_is is_open h.before h.size got _ h.header.more (header_chain h.header) refl (size_fits h.size h.header.is_header.a_size) in
      h.differs (r.0 ∙ sym h.wanted);
  not_too_large = λ h.
      let r = front_is_right due limit n room id bytes rest s.chain s.room_is s.id_is is_open h.before h.size _ _ h.header.more (header_chain h.header) refl (size_fits h.size h.header.is_header.a_size) in
      omega (arith, r.1, h.above);
  not_whole = λ count payload next h.
      let p = h.packing in
      let tail = drop count bytes in
      let front = packet (due + length p.chunks) p.last ++ tail in
      let bytes_are : packets due p.chunks ++ front ≡ bytes =
      sym (append_assoc (packets due p.chunks) (packet (due + length p.chunks) p.last) tail)
      ∙ ap (λ x. x ++ tail) (sym (packets-push due p.chunks p.last) ∙ sym p.packed)
      ∙ take-append-drop count bytes in
      let r = front_is_right due limit n room id bytes rest s.chain s.room_is s.id_is is_open (length p.chunks) (length p.last) ((due + length p.chunks) % 256)
      front (p.last ++ tail) (subst (λ b. Chain due (length p.chunks) b front) bytes_are (chain_of due p.chunks front p.full)) refl (short_fits (length p.last) p.short) in
      elim r.2 [ inl e ↦ omega (arith, e, p.short) | inr e ↦ omega (arith, e, length-append p.last tail) ];
}

pub packets_length : (id : ℕ) (chunks : List (List ℕ)) → AllByRecursion IsFullChunk chunks → length (packets id chunks) ≡ length chunks * (full_chunk + 4)
packets_length id [] full = omega arith
packets_length id (p ∷ chunks) full = omega (arith, full.0, packets_length (suc id) chunks full.1, length-append (packet id p) (packets (suc id) chunks))

pub concat_length : (chunks : List (List ℕ)) → AllByRecursion IsFullChunk chunks → length (concat chunks) ≡ length chunks * full_chunk
concat_length [] full = omega arith
concat_length (p ∷ chunks) full = omega (arith, full.0, concat_length chunks full.1, length-append p (concat chunks))
