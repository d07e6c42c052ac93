-- A stream has only one reading, in whatever pieces it is read.
use Rattle.wire.proofs.Names.{◌≡◌, ℕ, zero, suc, ◌+◌, ◌*◌, ◌%◌, ◌<◌, ◌≤◌, ◌^◌, ◌⊎◌, List, [], ◌∷◌, ◌++◌, length, refl, ap, sym, subst, ◌∙◌, append_assoc, arith, length-append, length-take, inl, inr, append-nil, take-append_seam, concat, little_bytes, packet, packets, HasHeader, IsOutOfSequence, IsTooLarge, IsUnfinished, IsWholePayload, Ending, Held, OutOfSequence, TooLarge}
use Rattle.wire.specs.Packet.{full_chunk}
use Rattle.wire.specs.Stream.{IsEnding, IsStream, Runs, stopped, held_all, handed_out, out_of_sequence, too_large}
use Rattle.wire.proofs.Packets.{packets-push}
use Rattle.wire.proofs.Chain.{Chain, chain_of, chain_split, order, peel, full_fits, short_fits, size_fits, same_header, header_chain, concat_length}
use Rattle.wire.proofs.OnePacking.{none_begins, length_packing}

-- A header follows `before` full packets of the bytes.
record Stands (due : ℕ) (bytes : List ℕ) (before size id : ℕ) : Type 0 where
  more : List ℕ
  chain : Chain due before bytes (little_bytes 3 size ++ id ∷ more)
  fits : size < 2 ^ 24

-- two headers of one stream are the same one, or the earlier of them is right and full
abbrev Agree : ℕ → ℕ → ℕ → ℕ → ℕ → ℕ → ℕ → Type 0
Agree due m size id n size' id' =
    ((m ≡ n) × (size ≡ size') × (id ≡ id'))
    ⊎ ((m < n) × (size ≡ full_chunk) × (id ≡ (due + m) % 256))
    ⊎ ((n < m) × (size' ≡ full_chunk) × (id' ≡ (due + n) % 256))

before_it : (due m size id : ℕ) (front others : List ℕ) (more : List ℕ) (d : ℕ) → front ≡ little_bytes 3 size ++ id ∷ more → size < 2 ^ 24 →
    Chain (due + m) (suc d) front others → (size ≡ full_chunk) × (id ≡ (due + m) % 256)
before_it due m size id front others more d header sized (p, o, front_is, full, after) =
    let e = peel (due + m) p o size id more (full_fits p full) sized (sym front_is ∙ header) in
    (e.0 ∙ full, e.1)

agree : (due : ℕ) (bytes : List ℕ) (m size id n size' id' : ℕ) → Stands due bytes m size id → Stands due bytes n size' id' → Agree due m size id n size' id'
agree due bytes m size id n size' id' a b = elim (order m n) [
  | inl h ↦ same_or_before h.0 h.1
  | inr h ↦ let e = before_it due n size' id' (little_bytes 3 size' ++ id' ∷ b.more) (little_bytes 3 size ++ id ∷ a.more) b.more h.0 refl b.fits
      (chain_split due n (suc h.0) m (due + n) bytes (little_bytes 3 size' ++ id' ∷ b.more) (little_bytes 3 size ++ id ∷ a.more) b.chain h.1 refl a.chain) in
      inr (inr (omega (arith, h.1), e.0, e.1))
]
  where
    same_or_before : (d : ℕ) → n ≡ m + d → Agree due m size id n size' id'
    same_or_before zero at =
        let e = same_header size id a.more size' id' b.more a.fits b.fits
        (chain_split due m 0 n (due + m) bytes (little_bytes 3 size ++ id ∷ a.more) (little_bytes 3 size' ++ id' ∷ b.more) a.chain at refl b.chain) in
        inl (omega (arith, at), e.0, e.1)
    same_or_before (suc d) at =
        let e = before_it due m size id (little_bytes 3 size ++ id ∷ a.more) (little_bytes 3 size' ++ id' ∷ b.more) a.more d refl a.fits
        (chain_split due m (suc d) n (due + m) bytes (little_bytes 3 size ++ id ∷ a.more) (little_bytes 3 size' ++ id' ∷ b.more) a.chain at refl b.chain) in
        inr (inl (omega (arith, at), e.0, e.1))

of_header : {due limit : ℕ} {bytes : List ℕ} {before size id : ℕ} (h : HasHeader due limit bytes before size id) → Stands due bytes before size id
of_header {size = size} h = record { more = h.more; chain = header_chain h; fits = size_fits size h.is_header.a_size }

-- the header of a payload's last packet
of_payload : {due limit : ℕ} {bytes payload : List ℕ} {next : ℕ} (w : IsWholePayload due limit bytes payload next) (rest : List ℕ) →
    Stands due (bytes ++ rest) (length w.packing.chunks) (length w.packing.last) ((due + length w.packing.chunks) % 256)
of_payload {due} {bytes = bytes} w rest =
    let p = w.packing in
    let front = packet (due + length p.chunks) p.last ++ rest in
    let bytes_are : packets due p.chunks ++ front ≡ bytes ++ rest =
    sym (append_assoc (packets due p.chunks) (packet (due + length p.chunks) p.last) rest)
    ∙ ap (λ x. x ++ rest) (sym (packets-push due p.chunks p.last) ∙ sym p.packed) in
    record {
      more = p.last ++ rest;
      chain = subst (λ b. Chain due (length p.chunks) b front) bytes_are (chain_of due p.chunks front p.full);
      fits = short_fits (length p.last) p.short;
    }

-- how long the payload is
long_payload : {due limit : ℕ} {bytes payload : List ℕ} {next : ℕ} (w : IsWholePayload due limit bytes payload next) →
    length w.packing.chunks * full_chunk + length w.packing.last ≤ limit
long_payload w =
    omega (arith, w.within, ap length w.packing.cut ∙ length-append (concat w.packing.chunks) w.packing.last, concat_length w.packing.chunks w.packing.full)

-- no two of: a wrong id, a length above the limit, a payload
pub one_wrong_id : {due limit : ℕ} {bytes : List ℕ} {want got want' got' : ℕ} → IsOutOfSequence due limit bytes want got → IsOutOfSequence due limit bytes want' got' → (want ≡ want') × (got ≡ got')
one_wrong_id {due} {limit} {bytes} {want} {got} {want'} {got'} a b = elim (agree due bytes a.before a.size got b.before b.size got' (of_header a.header) (of_header b.header)) [
  | inl h ↦ (a.wanted ∙ ap (λ n. (due + n) % 256) h.0 ∙ sym b.wanted, h.2)
  | inr h ↦ elim h [ inl h ↦ absurd (a.differs (h.2 ∙ sym a.wanted)) | inr h ↦ absurd (b.differs (h.2 ∙ sym b.wanted)) ]
]

pub wrong_or_large : {due limit : ℕ} {bytes : List ℕ} {want got : ℕ} → IsOutOfSequence due limit bytes want got → IsTooLarge due limit bytes → ⊥
unfolding full_chunk
wrong_or_large {due} {limit} {bytes} {want} {got} a b = elim (agree due bytes a.before a.size got b.before b.size ((due + b.before) % 256) (of_header a.header) (of_header b.header)) [
  | inl h ↦ a.differs (h.2 ∙ ap (λ n. (due + n) % 256) (sym h.0) ∙ sym a.wanted)
  | inr h ↦ elim h [ inl h ↦ a.differs (h.2 ∙ sym a.wanted) | inr h ↦ omega (arith, h.0, h.1, b.above, a.header.within) ]
]

pub wrong_or_whole : {due limit : ℕ} {bytes payload : List ℕ} {want got next : ℕ} (rest : List ℕ) → IsOutOfSequence due limit (bytes ++ rest) want got → IsWholePayload due limit bytes payload next → ⊥
wrong_or_whole {due} {limit} {bytes} {payload} {want} {got} rest a w =
    elim (agree due (bytes ++ rest) a.before a.size got (length w.packing.chunks) (length w.packing.last) ((due + length w.packing.chunks) % 256) (of_header a.header) (of_payload w rest)) [
      | inl h ↦ a.differs (h.2 ∙ ap (λ n. (due + n) % 256) (sym h.0) ∙ sym a.wanted)
      | inr h ↦ elim h [ inl h ↦ a.differs (h.2 ∙ sym a.wanted) | inr h ↦ omega (arith, h.1, w.packing.short) ]
    ]

pub large_or_whole : {due limit : ℕ} {bytes payload : List ℕ} {next : ℕ} (rest : List ℕ) → IsTooLarge due limit (bytes ++ rest) → IsWholePayload due limit bytes payload next → ⊥
unfolding full_chunk
large_or_whole {due} {limit} {bytes} {payload} rest b w =
    elim (agree due (bytes ++ rest) b.before b.size ((due + b.before) % 256) (length w.packing.chunks) (length w.packing.last) ((due + length w.packing.chunks) % 256) (of_header b.header) (of_payload w rest)) [
      | inl h ↦ omega (arith, h.0, h.1, b.above, long_payload w)
      | inr h ↦ elim h [ inl h ↦ omega (arith, h.0, h.1, b.above, long_payload w) | inr h ↦ omega (arith, h.1, w.packing.short) ]
    ]

unfinished_or_whole : {due limit : ℕ} {bytes payload : List ℕ} {next : ℕ} (rest : List ℕ) → IsUnfinished due limit (bytes ++ rest) → IsWholePayload due limit bytes payload next → ⊥
unfinished_or_whole {due} {limit} {bytes} {payload} {next} rest u w =
    u.not_whole (length bytes) payload next (subst (λ b. IsWholePayload due limit b payload next) (sym (take-append_seam bytes rest)) w)

-- a stream does not end where a payload begins
ends_or_whole : {due limit : ℕ} {stream payload : List ℕ} {next : ℕ} (bytes rest : List ℕ) (ending : Ending) → IsEnding due limit stream ending → stream ≡ bytes ++ rest →
    IsWholePayload due limit bytes payload next → ⊥
ends_or_whole {due} {limit} bytes rest (Held d held) e is w = unfinished_or_whole rest (subst (IsUnfinished due limit) is e.2) w
ends_or_whole {due} {limit} bytes rest (OutOfSequence want got) e is w = wrong_or_whole rest (subst (λ b. IsOutOfSequence due limit b want got) is e) w
ends_or_whole {due} {limit} bytes rest TooLarge e is w = large_or_whole rest (subst (IsTooLarge due limit) is e) w

one_ending : (due limit : ℕ) (bytes : List ℕ) (e f : Ending) → IsEnding due limit bytes e → IsEnding due limit bytes f → e ≡ f
one_ending due limit bytes (Held d h) (Held d' h') a b = λ i. Held ((a.0 ∙ sym b.0) i) ((a.1 ∙ sym b.1) i)
one_ending due limit bytes (Held d h) (OutOfSequence want got) a b = absurd (a.2.in_sequence want got b)
one_ending due limit bytes (Held d h) TooLarge a b = absurd (a.2.not_too_large b)
one_ending due limit bytes (OutOfSequence want got) (Held d h) a b = absurd (b.2.in_sequence want got a)
one_ending due limit bytes (OutOfSequence want got) (OutOfSequence want' got') a b = let e = one_wrong_id a b in λ i. OutOfSequence (e.0 i) (e.1 i)
one_ending due limit bytes (OutOfSequence want got) TooLarge a b = absurd (wrong_or_large a b)
one_ending due limit bytes TooLarge (Held d h) a b = absurd (b.2.not_too_large a)
one_ending due limit bytes TooLarge (OutOfSequence want got) a b = absurd (wrong_or_large b a)
one_ending due limit bytes TooLarge TooLarge a b = refl

-- a stream has one reading
pub one_reading : (due limit : ℕ) (stream : List ℕ) (a b : List (List ℕ)) (e f : Ending) → IsStream due limit stream a e → IsStream due limit stream b f → (a ≡ b) × (e ≡ f)
one_reading due limit stream [] [] e f x y = (refl, one_ending due limit stream e f x y)
one_reading due limit stream [] (q ∷ qs) e f x (bytes, rest, next, is, whole, after) = absurd (ends_or_whole bytes rest e x is whole)
one_reading due limit stream (p ∷ ps) [] e f (bytes, rest, next, is, whole, after) y = absurd (ends_or_whole bytes rest f y is whole)
one_reading due limit stream (p ∷ ps) (q ∷ qs) e f (bytes, rest, next, is, whole, after) (bytes', rest', next', is', whole', after') =
    let s = none_begins rest rest' whole.packing whole'.packing (sym is ∙ is') in
    let r = one_reading next limit rest ps qs e f after (subst (λ n. IsStream n limit rest qs f) (sym s.3) (subst (λ b. IsStream next' limit b qs f) (sym s.2) after')) in
    ((λ i. s.0 i ∷ r.0 i), r.1)

-- a header stays as it is when more bytes come
more_header : {due limit : ℕ} {bytes : List ℕ} {before size id : ℕ} (more : List ℕ) → HasHeader due limit bytes before size id → HasHeader due limit (bytes ++ more) before size id
more_header {due} {limit} {bytes} {before} {size} {id} more h = record {
  chunks = h.chunks;
  more = h.more ++ more;
  full = h.full;
  count = h.count;
  within = h.within;
  header = h.header;
  is_header = h.is_header;
  bytes_are = ap (λ b. b ++ more) h.bytes_are ∙ append_assoc (packets due h.chunks ++ h.header) h.more more;
}

pub more_wrong : {due limit want got : ℕ} {bytes : List ℕ} (more : List ℕ) → IsOutOfSequence due limit bytes want got → IsOutOfSequence due limit (bytes ++ more) want got
more_wrong more a = record { before = a.before; size = a.size; header = more_header more a.header; wanted = a.wanted; differs = a.differs }

pub more_large : {due limit : ℕ} {bytes : List ℕ} (more : List ℕ) → IsTooLarge due limit bytes → IsTooLarge due limit (bytes ++ more)
more_large more a = record { before = a.before; size = a.size; header = more_header more a.header; above = a.above }

-- the empty list of bytes is not a payload, and nothing is wrong with it
pub nothing_yet : (due limit : ℕ) → IsUnfinished due limit []
nothing_yet due limit = record {
  in_sequence = λ want got a. no_header a.header;
  not_too_large = λ a. no_header a.header;
  not_whole = λ count payload next w. omega (arith, length_packing w.packing, length-take {A = ℕ} count []);
}
  where
    no_header : {before size id : ℕ} → HasHeader due limit [] before size id → ⊥
    no_header {before} {size} {id} h = omega (arith, ap length h.bytes_are, length-append (packets due h.chunks ++ h.header) h.more, length-append (packets due h.chunks) h.header, ap length h.is_header.bytes_are)

-- what a reader makes of the pieces of a stream is the stream's reading
pub reads : {due limit : ℕ} {held : List ℕ} {pieces payloads : List (List ℕ)} {ending : Ending} → Runs due limit held pieces payloads ending → IsUnfinished due limit held →
    IsStream due limit (held ++ concat pieces) payloads ending
reads {due} {limit} {held} stopped u = (refl, sym (append-nil held), subst (IsUnfinished due limit) (sym (append-nil held)) u)
reads {due} {limit} {held} {payloads = payloads} {ending = ending} (held_all {piece = piece} {pieces = pieces} unfinished run) u =
    subst (λ s. IsStream due limit s payloads ending) (append_assoc held piece (concat pieces)) (reads run unfinished)
reads {due} {limit} {held} (handed_out {pieces = pieces} used rest next whole run) u = (
  held ++ used,
  rest ++ concat pieces,
  next,
  ap (λ s. held ++ s) (append_assoc used rest (concat pieces)) ∙ sym (append_assoc held used (rest ++ concat pieces)),
  whole,
  reads run (nothing_yet next limit),
)
reads {due} {limit} {held} (out_of_sequence {want = want} {got = got} {piece = piece} {pieces = pieces} a) u =
    subst (λ s. IsOutOfSequence due limit s want got) (append_assoc held piece (concat pieces)) (more_wrong (concat pieces) a)
reads {due} {limit} {held} (too_large {piece = piece} {pieces = pieces} a) u =
    subst (IsTooLarge due limit) (append_assoc held piece (concat pieces)) (more_large (concat pieces) a)

pub any_pieces : (due limit : ℕ) (pieces others a b : List (List ℕ)) (e f : Ending) → concat pieces ≡ concat others →
    Runs due limit [] pieces a e → Runs due limit [] others b f → (a ≡ b) × (e ≡ f)
any_pieces due limit pieces others a b e f same x y =
    one_reading due limit (concat others) a b e f (subst (λ s. IsStream due limit s a e) same (reads x (nothing_yet due limit))) (reads y (nothing_yet due limit))
