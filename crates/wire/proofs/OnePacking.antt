-- A payload has one packing, and the packings of two payloads are not prefixes of one another.
use Rattle.wire.proofs.Names.{◌≡◌, ℕ, suc, ◌+◌, ◌*◌, ◌/◌, ◌%◌, ◌<◌, ◌≤◌, ◌^◌, List, [], ◌∷◌, ◌++◌, length, get_or, take, refl, ap, sym, ◌∙◌, append_assoc, arith, length-append, length-drop, length-take, take-append_seam, concat, AllByRecursion, little_bytes, packet, packets, IsFullChunk, full_chunks}
use Rattle.std.proofs.Common.{drop}
use Rattle.std.proofs.Math.Seq.{drop-append_seam}
use Rattle.wire.specs.Packet.{full_chunk, IsPacking, packing_length}
use Rattle.wire.proofs.Packets.{packets-push}
use Rattle.wire.proofs.Chunks.{full_chunks_full, concat-full_chunks}
use Rattle.wire.proofs.Chain.{peel, full_fits, short_fits, packets_length, concat_length}

-- equal bytes that begin with packets of one id
same_packet : (id : ℕ) (p q x y : List ℕ) → length p < 2 ^ 24 → length q < 2 ^ 24 → packet id p ++ x ≡ packet id q ++ y → (p ≡ q) × (x ≡ y)
same_packet id p q x y p_fits q_fits same =
    let e = peel id p x (length q) (id % 256) (q ++ y) p_fits q_fits same in (
      sym (take-append_seam p x) ∙ (λ i. take (sym e.0 i) (sym e.2 i)) ∙ take-append_seam q y,
      sym (drop-append_seam p x) ∙ (λ i. drop (sym e.0 i) (sym e.2 i)) ∙ drop-append_seam q y,
    )

-- full chunks and a shorter last one, in packets, are read in only one way
same_chunks : (id : ℕ) (ps qs : List (List ℕ)) (l m x y : List ℕ) → AllByRecursion IsFullChunk ps → AllByRecursion IsFullChunk qs →
    length l < full_chunk → length m < full_chunk → packets id (ps ++ l ∷ []) ++ x ≡ packets id (qs ++ m ∷ []) ++ y → (ps ≡ qs) × (l ≡ m) × (x ≡ y)
same_chunks id [] [] l m x y fp fq sl sm same =
    let e = same_packet id l m ([] ++ x) ([] ++ y) (short_fits (length l) sl) (short_fits (length m) sm) (sym (append_assoc (packet id l) [] x) ∙ same ∙ append_assoc (packet id m) [] y) in
    (refl, e.0, e.1)
same_chunks id [] (q ∷ qs) l m x y fp fq sl sm same =
    let e = same_packet id l q ([] ++ x) (packets (suc id) (qs ++ m ∷ []) ++ y) (short_fits (length l) sl) (full_fits q fq.0)
    (sym (append_assoc (packet id l) [] x) ∙ same ∙ append_assoc (packet id q) (packets (suc id) (qs ++ m ∷ [])) y) in
    absurd (omega (arith, ap length e.0, fq.0, sl))
same_chunks id (p ∷ ps) [] l m x y fp fq sl sm same =
    let e = same_packet id p m (packets (suc id) (ps ++ l ∷ []) ++ x) ([] ++ y) (full_fits p fp.0) (short_fits (length m) sm)
    (sym (append_assoc (packet id p) (packets (suc id) (ps ++ l ∷ [])) x) ∙ same ∙ append_assoc (packet id m) [] y) in
    absurd (omega (arith, ap length e.0, fp.0, sm))
same_chunks id (p ∷ ps) (q ∷ qs) l m x y fp fq sl sm same =
    let e = same_packet id p q (packets (suc id) (ps ++ l ∷ []) ++ x) (packets (suc id) (qs ++ m ∷ []) ++ y) (full_fits p fp.0) (full_fits q fq.0)
    (sym (append_assoc (packet id p) (packets (suc id) (ps ++ l ∷ [])) x) ∙ same ∙ append_assoc (packet id q) (packets (suc id) (qs ++ m ∷ [])) y) in
    let r = same_chunks (suc id) ps qs l m x y fp.1 fq.1 sl sm e.1 in
    ((λ i. e.0 i ∷ r.0 i), r.1, r.2)

-- packets depend only on the id's lowest byte
packets-mod : (i j : ℕ) (ps : List (List ℕ)) → i % 256 ≡ j % 256 → packets i ps ≡ packets j ps
packets-mod i j [] same = refl
packets-mod i j (p ∷ ps) same = λ k. (little_bytes 3 (length p) ++ same k ∷ p) ++ packets-mod (suc i) (suc j) ps (omega (arith, same)) k

-- the fourth byte is the id
first_id : (id : ℕ) (ps : List (List ℕ)) (l x : List ℕ) → get_or (packets id (ps ++ l ∷ []) ++ x) 3 0 ≡ id % 256
first_id id [] l x = refl
first_id id (p ∷ ps) l x = refl

later_id : (i j k : ℕ) → i % 256 ≡ j % 256 → (i + k + 1) % 256 ≡ (j + k + 1) % 256
later_id i j k e = omega (arith, e)

-- no packing is a proper prefix of another
pub none_begins : {i j : ℕ} {p q a b : List ℕ} (x y : List ℕ) {m n : ℕ} → IsPacking i p a m → IsPacking j q b n → a ++ x ≡ b ++ y → (p ≡ q) × (a ≡ b) × (x ≡ y) × (m ≡ n)
none_begins {i} {j} {p} {q} {a} {b} x y {m} {n} f g same =
    let both : packets i (f.chunks ++ f.last ∷ []) ++ x ≡ packets j (g.chunks ++ g.last ∷ []) ++ y = (λ k. sym f.packed k ++ x) ∙ same ∙ (λ k. g.packed k ++ y) in
    let id : i % 256 ≡ j % 256 = sym (first_id i f.chunks f.last x) ∙ ap (λ bytes. get_or bytes 3 0) both ∙ first_id j g.chunks g.last y in
    let as_i : packets j (g.chunks ++ g.last ∷ []) ≡ packets i (g.chunks ++ g.last ∷ []) = sym (packets-mod i j (g.chunks ++ g.last ∷ []) id) in
    let e = same_chunks i f.chunks g.chunks f.last g.last x y f.full g.full f.short g.short (both ∙ ap (λ front. front ++ y) as_i) in (
      f.cut ∙ (λ k. concat (e.0 k) ++ e.1 k) ∙ sym g.cut,
      f.packed ∙ (λ k. packets i (e.0 k ++ e.1 k ∷ [])) ∙ sym as_i ∙ sym g.packed,
      e.2,
      f.follows ∙ ap (λ ps. (i + length ps + 1) % 256) e.0 ∙ later_id i j (length g.chunks) id ∙ sym g.follows,
    )

-- a payload is cut in only one way
same_cut : (ps qs : List (List ℕ)) (l m : List ℕ) → AllByRecursion IsFullChunk ps → AllByRecursion IsFullChunk qs →
    length l < full_chunk → length m < full_chunk → concat ps ++ l ≡ concat qs ++ m → (ps ≡ qs) × (l ≡ m)
same_cut [] [] l m fp fq sl sm same = (refl, same)
same_cut [] (q ∷ qs) l m fp fq sl sm same = absurd (omega (arith, ap length same, length-append (q ++ concat qs) m, length-append q (concat qs), fq.0, sl))
same_cut (p ∷ ps) [] l m fp fq sl sm same = absurd (omega (arith, ap length same, length-append (p ++ concat ps) l, length-append p (concat ps), fp.0, sm))
same_cut (p ∷ ps) (q ∷ qs) l m fp fq sl sm same =
    let whole : p ++ (concat ps ++ l) ≡ q ++ (concat qs ++ m) = sym (append_assoc p (concat ps) l) ∙ same ∙ append_assoc q (concat qs) m in
    let long : length p ≡ length q = fp.0 ∙ sym fq.0 in
    let front : p ≡ q = sym (take-append_seam p (concat ps ++ l)) ∙ (λ i. take (long i) (whole i)) ∙ take-append_seam q (concat qs ++ m) in
    let back : concat ps ++ l ≡ concat qs ++ m = sym (drop-append_seam p (concat ps ++ l)) ∙ (λ i. drop (long i) (whole i)) ∙ drop-append_seam q (concat qs ++ m) in
    let r = same_cut ps qs l m fp.1 fq.1 sl sm back in
    ((λ i. front i ∷ r.0 i), r.1)

-- a payload and a first id have only one packing
pub one_packing : {id : ℕ} {p a b : List ℕ} {m n : ℕ} → IsPacking id p a m → IsPacking id p b n → (a ≡ b) × (m ≡ n)
one_packing {id} f g =
    let e = same_cut f.chunks g.chunks f.last g.last f.full g.full f.short g.short (sym f.cut ∙ g.cut) in
    (f.packed ∙ (λ i. packets id (e.0 i ++ e.1 i ∷ [])) ∙ sym g.packed, f.follows ∙ ap (λ ps. (id + length ps + 1) % 256) e.0 ∙ sym g.follows)

-- each payload has a packing
pub a_packing : (id : ℕ) (p : List ℕ) → (bytes : List ℕ) × (next : ℕ) × IsPacking id p bytes next
unfolding full_chunk
a_packing id p =
    let n = length p / full_chunk in
    let ps = full_chunks n p in
    let l = drop (n * full_chunk) p in (
      packets id (ps ++ l ∷ []),
      (id + length ps + 1) % 256,
      record {
        chunks = ps;
        last = l;
        full = full_chunks_full n p (omega arith);
        short = omega (arith, length-drop (n * full_chunk) p);
        cut = sym (concat-full_chunks n p);
        packed = refl;
        follows = refl;
      },
    )

-- four bytes for each packet
pub length_packing : {id : ℕ} {p bytes : List ℕ} {next : ℕ} → IsPacking id p bytes next → length bytes ≡ packing_length (length p)
unfolding full_chunk
length_packing {id} {p} {bytes} f =
    let counts = ap length f.packed ∙ ap length (packets-push id f.chunks f.last) ∙ length-append (packets id f.chunks) (packet (id + length f.chunks) f.last) in
    omega (arith, counts, packets_length id f.chunks f.full, ap length f.cut ∙ length-append (concat f.chunks) f.last, concat_length f.chunks f.full, f.short)

-- as above, where the bytes are those that were held and some of those that came
pub length_packing-held : {id : ℕ} {p : List ℕ} {next : ℕ} (old held new bytes : List ℕ) (used : ℕ) → old ≡ held → new ≡ old ++ take used bytes → used ≤ length bytes →
    IsPacking id p new next → length held + used ≡ packing_length (length p)
length_packing-held old held new bytes used same taken within f =
    omega (arith, ap length same, ap length taken ∙ length-append old (take used bytes), length-take used bytes, within, length_packing f)
