-- What an unpacker holds, as its fields change.
use Rattle.wire.proofs.Names.{◌≡◌, ℕ, suc, ◌+◌, ◌-◌, ◌*◌, ◌%◌, ◌<◌, ◌≤◌, List, [], ◌∷◌, ◌++◌, length, take, refl, ap, sym, subst, ◌∙◌, append_assoc, arith, length-append, length-drop, length-take, inl, inr, take-append-drop, append-nil, little_bytes, packet, packets, IsHeader, HasHeader, IsOutOfSequence, IsTooLarge, IsUnfinished, IsWholePayload, full_chunks, IsComplete, Unpacker}
use Rattle.std.proofs.Common.{◌≢◌, min, drop}
use Rattle.std.proofs.lemmas.List.{drop-append-le, take_all, drop_all}
use Rattle.std.proofs.Math.Seq.{take-add}
use Rattle.wire.specs.Packet.{full_chunk}
use Rattle.wire.specs.Held.{at_hand, held_of, IsInHeader, IsInChunk, IsUnpacking, Consumes}
use Rattle.wire.proofs.Packets.{packets-push}
use Rattle.wire.proofs.Chunks.{full_chunks_full, length-full_chunks, concat-full_chunks, full_chunks-append, full_chunks-more}
use Rattle.wire.proofs.Chain.{Chain, chain_of, Scanned, unfinished, packets_length, size_fits}

-- the bytes taken and the bytes left are the bytes
pub rejoined : (old new bytes : List ℕ) (used : ℕ) → new ≡ old ++ take used bytes → new ++ drop used bytes ≡ old ++ bytes
rejoined old new bytes used is =
    ap (λ x. x ++ drop used bytes) is ∙ append_assoc old (take used bytes) (drop used bytes) ∙ ap (λ x. old ++ x) (take-append-drop used bytes)

-- more bytes of the header
pub held_of-header : (old new : Unpacker) (some : List ℕ) → length old.payload.items ≡ old.full * full_chunk →
    new.due ≡ old.due → new.full ≡ old.full → new.payload.items ≡ old.payload.items →
    take new.filled new.header ≡ take old.filled old.header ++ some → held_of new ≡ held_of old ++ some
unfolding held_of
held_of-header old new some whole d f p t =
    let P = packets old.due (full_chunks old.full old.payload.items) in
    let T = take old.filled old.header in
    let D = drop (old.full * full_chunk) old.payload.items in
    let nothing : D ≡ [] = drop_all (old.full * full_chunk) old.payload.items (omega (arith, whole)) in
    (λ i. packets (d i) (full_chunks (f i) (p i)) ++ (t i ++ drop (f i * full_chunk) (p i)))
    ∙ ap (λ x. P ++ ((T ++ some) ++ x)) nothing
    ∙ ap (λ x. P ++ x) (append-nil (T ++ some))
    ∙ sym (append_assoc P T some)
    ∙ ap (λ x. (P ++ x) ++ some) (sym (append-nil T) ∙ ap (λ x. T ++ x) (sym nothing))

-- more bytes of the chunk
pub held_of-chunk : (old new : Unpacker) (some : List ℕ) → old.full * full_chunk ≤ length old.payload.items →
    new.due ≡ old.due → new.full ≡ old.full → new.header ≡ old.header → new.filled ≡ old.filled →
    new.payload.items ≡ old.payload.items ++ some → held_of new ≡ held_of old ++ some
unfolding held_of
held_of-chunk old new some enough d f h k p =
    let P = packets old.due (full_chunks old.full old.payload.items) in
    let T = take old.filled old.header in
    let D = drop (old.full * full_chunk) old.payload.items in
    (λ i. packets (d i) (full_chunks (f i) (p i)) ++ (take (k i) (h i) ++ drop (f i * full_chunk) (p i)))
    ∙ (λ i. packets old.due (full_chunks-append old.full old.payload.items some enough i) ++ (T ++ drop-append-le (old.full * full_chunk) old.payload.items some enough i))
    ∙ ap (λ x. P ++ x) (sym (append_assoc T D some))
    ∙ sym (append_assoc P (T ++ D) some)

-- a whole header and what follows it
header_and : (due full size filled : ℕ) (header chunk : List ℕ) (n : ℕ) → filled ≡ 4 → IsHeader size ((due + full) % 256) header → length chunk ≡ size → n ≡ full →
    take filled header ++ chunk ≡ packet (due + n) chunk
header_and due full size filled header chunk n whole is long same =
    (λ i. take (whole i) (is.bytes_are i) ++ chunk)
    ∙ (λ i. little_bytes 3 (sym long i) ++ (due + sym same i) % 256 ∷ chunk)

-- a full chunk that is complete
pub held_of-full : (old new : Unpacker) (size : ℕ) → old.filled ≡ 4 → IsHeader size ((old.due + old.full) % 256) old.header → size ≡ full_chunk →
    length old.payload.items ≡ (old.full + 1) * full_chunk →
    new.due ≡ old.due → new.full ≡ old.full + 1 → new.filled ≡ 0 → new.payload.items ≡ old.payload.items → held_of new ≡ held_of old
unfolding held_of
held_of-full old new size whole is is_full long d f k p =
    let xs = old.payload.items in
    let ps = full_chunks old.full xs in
    let last = drop (old.full * full_chunk) xs in
    let sized : length last ≡ full_chunk = omega (arith, length-drop (old.full * full_chunk) xs, long) in
    let next : old.full + 1 ≡ suc old.full = omega arith in
    (λ i. packets (d i) (full_chunks ((f ∙ next) i) (p i)) ++ (take (k i) new.header ++ drop (f i * full_chunk) (p i)))
    ∙ (λ i. packets old.due (full_chunks-more old.full xs i) ++ drop_all ((old.full + 1) * full_chunk) xs (omega (arith, long)) i)
    ∙ append-nil (packets old.due (ps ++ take full_chunk last ∷ []))
    ∙ ap (λ x. packets old.due (ps ++ x ∷ [])) (take_all full_chunk last (omega (arith, sized)))
    ∙ packets-push old.due ps last
    ∙ ap (λ x. packets old.due ps ++ x)
    (sym (header_and old.due old.full size old.filled old.header last (length ps) whole is (sized ∙ sym is_full) (length-full_chunks old.full xs)))

-- a last chunk that is complete
pub whole_payload : (u : Unpacker) → IsInChunk u → IsComplete u → IsWholePayload u.due u.limit (held_of u) u.payload.items ((u.due + u.full + 1) % 256)
unfolding held_of
whole_payload u in_chunk complete =
    let xs = u.payload.items in
    let ps = full_chunks u.full xs in
    let last = drop (u.full * full_chunk) xs in
    let short = in_chunk.short complete.1 in
    let sized : length last ≡ in_chunk.size = omega (arith, length-drop (u.full * full_chunk) xs, in_chunk.sum, complete.1) in
    record {
      packing = record {
        chunks = ps;
        last = last;
        full = full_chunks_full u.full xs (omega (arith, in_chunk.sum, complete.1));
        short = omega (arith, sized, short);
        cut = sym (concat-full_chunks u.full xs);
        packed = ap (λ x. packets u.due ps ++ x) (header_and u.due u.full in_chunk.size u.filled u.header last (length ps) in_chunk.whole_header in_chunk.header sized (length-full_chunks u.full xs))
            ∙ sym (packets-push u.due ps last);
        follows = ap (λ n. (u.due + n + 1) % 256) (sym (length-full_chunks u.full xs));
      };
      within = omega (arith, in_chunk.within);
    }

-- the full packets come before the current packet
chain_held : (u : Unpacker) → u.full * full_chunk ≤ length u.payload.items → Chain u.due u.full (held_of u) (at_hand u)
unfolding held_of
chain_held u enough =
    let ps = full_chunks u.full u.payload.items in
    subst (λ n. Chain u.due n (packets u.due ps ++ at_hand u) (at_hand u)) (length-full_chunks u.full u.payload.items)
    (chain_of u.due ps (at_hand u) (full_chunks_full u.full u.payload.items enough))

scanned : (u : Unpacker) → u.full * full_chunk ≤ length u.payload.items → length u.payload.items ≤ u.limit →
    Scanned u.due u.limit (held_of u) (at_hand u) u.full (u.limit - u.full * full_chunk) ((u.due + u.full) % 256)
scanned u enough within = record { chain = chain_held u enough; room_is = omega arith; id_is = refl }

counted : (u : Unpacker) → length (packets u.due (full_chunks u.full u.payload.items) ++ at_hand u)
    ≡ length (packets u.due (full_chunks u.full u.payload.items)) + (min u.filled (length u.header) + (length u.payload.items - u.full * full_chunk))
counted u = length-append (packets u.due (full_chunks u.full u.payload.items)) (at_hand u)
    ∙ ap (λ n. length (packets u.due (full_chunks u.full u.payload.items)) + n)
    (length-append (take u.filled u.header) (drop (u.full * full_chunk) u.payload.items)
    ∙ (λ i. length-take u.filled u.header i + length-drop (u.full * full_chunk) u.payload.items i))

pub held_unfinished : (u : Unpacker) → IsUnpacking u → (IsComplete u → ⊥) → IsUnfinished u.due u.limit (held_of u)
held_unfinished u (inl h) open_end =
    unfinished u.due u.limit u.full (u.limit - u.full * full_chunk) ((u.due + u.full) % 256) (held_of u) (at_hand u) (scanned u (omega (arith, h.whole_chunks)) h.within)
    (inl (omega (arith, h.open_header, h.whole_chunks, length-append (take u.filled u.header) (drop (u.full * full_chunk) u.payload.items), length-drop (u.full * full_chunk) u.payload.items, length-take u.filled u.header)))
held_unfinished u (inr h) open_end =
    let some_left : u.left ≢ 0 = λ e. open_end (h.whole_header, e) in
    let last = drop (u.full * full_chunk) u.payload.items in
    let is : at_hand u ≡ little_bytes 3 h.size ++ (u.due + u.full) % 256 ∷ last = λ i. take (h.whole_header i) (h.header.bytes_are i) ++ last in
    unfinished u.due u.limit u.full (u.limit - u.full * full_chunk) ((u.due + u.full) % 256) (held_of u) (at_hand u)
    (scanned u (omega (arith, h.sum, h.left)) (omega (arith, h.within)))
    (inr (
      h.size,
      last,
      is,
      omega (arith, h.sum, h.within),
      size_fits h.size h.header.a_size,
      omega (arith, length-drop (u.full * full_chunk) u.payload.items, h.sum, some_left),
    ))

-- the header that is complete now, with what follows it
pub header_held : (u : Unpacker) (size got : ℕ) (more : List ℕ) → length u.payload.items ≡ u.full * full_chunk → length u.payload.items ≤ u.limit →
    u.filled ≡ 4 → IsHeader size got u.header → HasHeader u.due u.limit (held_of u ++ more) u.full size got
unfolding held_of
header_held u size got more whole within filled is =
    let xs = u.payload.items in
    let P = packets u.due (full_chunks u.full xs) in
    let nothing : drop (u.full * full_chunk) xs ≡ [] = drop_all (u.full * full_chunk) xs (omega (arith, whole)) in
    record {
      chunks = full_chunks u.full xs;
      more = more;
      full = full_chunks_full u.full xs (omega (arith, whole));
      count = length-full_chunks u.full xs;
      within = omega (arith, whole, within);
      header = u.header;
      is_header = is;
      bytes_are = (λ i. (P ++ (take (filled i) u.header ++ nothing i)) ++ more)
          ∙ ap (λ x. (P ++ x) ++ more) (append-nil (take 4 u.header) ∙ take_all 4 u.header (omega (arith, ap length is.bytes_are)));
    }

pub out_of_sequence : (u : Unpacker) (size want got : ℕ) (more : List ℕ) → length u.payload.items ≡ u.full * full_chunk → length u.payload.items ≤ u.limit →
    u.filled ≡ 4 → IsHeader size got u.header → want ≡ (u.due + u.full) % 256 → got ≢ want → IsOutOfSequence u.due u.limit (held_of u ++ more) want got
out_of_sequence u size want got more whole within filled is wanted differs =
    record { before = u.full; size = size; header = header_held u size got more whole within filled is; wanted = wanted; differs = differs }

pub too_large : (u : Unpacker) (size : ℕ) (more : List ℕ) → length u.payload.items ≡ u.full * full_chunk → length u.payload.items ≤ u.limit →
    u.filled ≡ 4 → IsHeader size ((u.due + u.full) % 256) u.header → u.limit - length u.payload.items < size → IsTooLarge u.due u.limit (held_of u ++ more)
too_large u size more whole within filled is above =
    record { before = u.full; size = size; header = header_held u size ((u.due + u.full) % 256) more whole within filled is; above = omega (arith, whole, within, above) }

-- what is held is not much longer than the limit
pub length-held_of : (u : Unpacker) → IsUnpacking u → length (held_of u) ≤ u.limit + 4 * (u.full + 1)
unfolding held_of
length-held_of u (inl h) =
    omega (
      arith,
      h.open_header,
      h.whole_chunks,
      h.within,
      counted u,
      packets_length u.due (full_chunks u.full u.payload.items) (full_chunks_full u.full u.payload.items (omega (arith, h.whole_chunks))),
      ap (λ n. n * (full_chunk + 4)) (length-full_chunks u.full u.payload.items),
    )
length-held_of u (inr h) =
    omega (
      arith,
      h.whole_header,
      h.sum,
      h.left,
      h.within,
      counted u,
      packets_length u.due (full_chunks u.full u.payload.items) (full_chunks_full u.full u.payload.items (omega (arith, h.sum, h.left))),
      ap (λ n. n * (full_chunk + 4)) (length-full_chunks u.full u.payload.items),
    )

-- less than the header of the current packet is held of it
pub ends_later : (u : Unpacker) → IsInHeader u → length (held_of u) < u.full * (full_chunk + 4) + 4
unfolding held_of
ends_later u h =
    omega (
      arith,
      h.open_header,
      h.whole_chunks,
      counted u,
      packets_length u.due (full_chunks u.full u.payload.items) (full_chunks_full u.full u.payload.items (omega (arith, h.whole_chunks))),
      ap (λ n. n * (full_chunk + 4)) (length-full_chunks u.full u.payload.items),
    )

-- bytes taken, and then more of them
pub taken_more : {old mid new : Unpacker} {bytes : List ℕ} {n m : ℕ} → Consumes old mid bytes n → Consumes mid new (drop n bytes) m → Consumes old new bytes (n + m)
taken_more {old} {mid} {new} {bytes} {n} {m} a b = record {
  in_range = omega (arith, a.in_range, b.in_range, length-drop n bytes);
  limit = b.limit ∙ a.limit;
  due = b.due ∙ a.due;
  stands = b.stands;
  held = b.held ∙ ap (λ h. h ++ take m (drop n bytes)) a.held ∙ append_assoc (held_of old) (take n bytes) (take m (drop n bytes))
      ∙ ap (λ more. held_of old ++ more) (sym (take-add n m bytes));
}

pub short_held : (u : Unpacker) → IsUnpacking u → u.limit ≤ 1073741824 → length (held_of u) < 2147483648
unfolding full_chunk
short_held u (inl h) limit = omega (arith, length-held_of u (inl h), h.whole_chunks, h.within)
short_held u (inr h) limit = omega (arith, length-held_of u (inr h), h.sum, h.left, h.within)

-- nothing is held exactly if no byte has come
pub held_of-empty : (u : Unpacker) → IsUnpacking u → u.filled ≡ 0 → length u.payload.items ≡ 0 → held_of u ≡ []
unfolding held_of full_chunk
held_of-empty u (inl h) filled empty =
    let full : u.full ≡ 0 = omega (arith, h.whole_chunks, empty) in
    (λ i. packets u.due (full_chunks (full i) u.payload.items) ++ (take (filled i) u.header ++ drop (full i * full_chunk) u.payload.items))
    ∙ drop_all (0 * full_chunk) u.payload.items (omega (arith, empty))
held_of-empty u (inr h) filled empty = absurd (omega (arith, h.whole_header, filled))

pub nothing_held : (u : Unpacker) → IsUnpacking u → held_of u ≡ [] → (u.filled ≡ 0) × (length u.payload.items ≡ 0)
unfolding held_of full_chunk
nothing_held u (inl h) is =
    let sum = ap length is in
    let counts = counted u in
    let sized = packets_length u.due (full_chunks u.full u.payload.items) (full_chunks_full u.full u.payload.items (omega (arith, h.whole_chunks))) in
    let chunks = ap (λ n. n * (full_chunk + 4)) (length-full_chunks u.full u.payload.items) in
    (omega (arith, sum, counts, h.sized, h.open_header), omega (arith, sum, counts, sized, chunks, h.whole_chunks))
nothing_held u (inr h) is = absurd (omega (arith, ap length is, counted u, ap length h.header.bytes_are, h.whole_header))

-- which of the two states it is
pub in_header : (u : Unpacker) → IsUnpacking u → u.filled < 4 → IsInHeader u
in_header u (inl h) open_header = h
in_header u (inr h) open_header = absurd (omega (arith, h.whole_header, open_header))
