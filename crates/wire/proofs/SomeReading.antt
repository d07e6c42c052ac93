-- Each stream of bytes has a reading.
use Rattle.wire.proofs.Names.{◌≡◌, ℕ, zero, suc, ◌+◌, ◌-◌, ◌*◌, ◌/◌, ◌%◌, ◌<◌, ◌≤◌, ◌⊎◌, List, [], ◌∷◌, ◌++◌, length, take, refl, ap, sym, subst, ◌∙◌, append_assoc, arith, length-append, length-drop, inl, inr, take-append-drop, concat, AllByRecursion, little_bytes, packet, packets, IsFullChunk, IsHeader, HasHeader, IsWholePayload, Ending, Held, OutOfSequence, TooLarge}
use Rattle.std.proofs.Common.{◌≢◌, drop}
use Rattle.std.proofs.lemmas.List.{length-take-le, length_push}
use Rattle.std.proofs.lemmas.Bool.{cases_lt}
use Rattle.wire.specs.Packet.{full_chunk}
use Rattle.wire.specs.Stream.{IsEnding, IsStream}
use Rattle.wire.proofs.Packets.{packets-push, all-push}
use Rattle.wire.proofs.Chunks.{one_more}
use Rattle.wire.proofs.Chain.{Chain, chain_of, IsOpen, Scanned, unfinished, size_fits, concat_length}

abbrev pub IsByte : ℕ → Type 0
IsByte b = b < 256

bytes-drop : (n : ℕ) (xs : List ℕ) → AllByRecursion IsByte xs → AllByRecursion IsByte (drop n xs)
bytes-drop zero xs all = all
bytes-drop (suc n) [] all = tt
bytes-drop (suc n) (x ∷ xs) all = bytes-drop n xs all.1

bytes-after : (xs ys : List ℕ) → AllByRecursion IsByte (xs ++ ys) → AllByRecursion IsByte ys
bytes-after [] ys all = all
bytes-after (x ∷ xs) ys all = bytes-after xs ys all.1

equal_or_not : (m n : ℕ) → (m ≡ n) ⊎ (m ≢ n)
equal_or_not m n = elim (cases_lt m n) [
  | inl below ↦ inr (λ e. omega (arith, e, below))
  | inr above ↦ elim (cases_lt n m) [ inl below ↦ inr (λ e. omega (arith, e, below)) | inr both ↦ inl (omega (arith, above, both)) ]
]

-- a payload is at the front, or an ending
abbrev pub Front : ℕ → ℕ → List ℕ → Type 0
Front due limit bytes =
    ((front : List ℕ) × (rest : List ℕ) × (payload : List ℕ) × (next : ℕ) × (bytes ≡ front ++ rest) × IsWholePayload due limit front payload next × (length rest < length bytes))
    ⊎ ((ending : Ending) × IsEnding due limit bytes ending)

-- full packets, right and within the limit, and then less than a packet
still_open : (due limit : ℕ) (bytes : List ℕ) (chunks : List (List ℕ)) (rest : List ℕ) → AllByRecursion IsFullChunk chunks → bytes ≡ packets due chunks ++ rest →
    length chunks * full_chunk ≤ limit → IsOpen ((due + length chunks) % 256) (limit - length chunks * full_chunk) rest → Front due limit bytes
still_open due limit bytes chunks rest full is within is_open =
    let scanned : Scanned due limit bytes rest (length chunks) (limit - length chunks * full_chunk) ((due + length chunks) % 256) = record {
      chain = subst (λ b. Chain due (length chunks) b rest) (sym is) (chain_of due chunks rest full);
      room_is = omega (arith, within);
      id_is = refl;
    } in
    inr (Held due bytes, (refl, refl, unfinished due limit (length chunks) (limit - length chunks * full_chunk) ((due + length chunks) % 256) bytes rest scanned is_open))

header_bytes : (a b c d : ℕ) → a < 256 → b < 256 → c < 256 → d < 256 → IsHeader (a + 256 * b + 65536 * c) d (a ∷ b ∷ c ∷ d ∷ [])
unfolding full_chunk
header_bytes a b c d x y z w =
    let s = a + 256 * b + 65536 * c in
    let e : a ≡ s % 256 = omega arith in
    let f : b ≡ s / 256 % 256 = omega arith in
    let h : c ≡ s / 65536 % 256 = omega arith in
    record { bytes_are = λ i. e i ∷ f i ∷ h i ∷ d ∷ []; a_size = omega arith; an_id = w }

-- after full packets, the next header decides
scan : (fuel due limit : ℕ) (bytes : List ℕ) (chunks : List (List ℕ)) (rest : List ℕ) → AllByRecursion IsFullChunk chunks → bytes ≡ packets due chunks ++ rest →
    length chunks * full_chunk ≤ limit → AllByRecursion IsByte rest → length rest < fuel → Front due limit bytes
scan zero due limit bytes chunks rest full is within all enough = absurd (omega (arith, enough))
scan (suc fuel) due limit bytes chunks [] full is within all enough = still_open due limit bytes chunks [] full is within (inl (omega arith))
scan (suc fuel) due limit bytes chunks (a ∷ []) full is within all enough = still_open due limit bytes chunks (a ∷ []) full is within (inl (omega arith))
scan (suc fuel) due limit bytes chunks (a ∷ b ∷ []) full is within all enough = still_open due limit bytes chunks (a ∷ b ∷ []) full is within (inl (omega arith))
scan (suc fuel) due limit bytes chunks (a ∷ b ∷ c ∷ []) full is within all enough = still_open due limit bytes chunks (a ∷ b ∷ c ∷ []) full is within (inl (omega arith))
scan (suc fuel) due limit bytes chunks (a ∷ b ∷ c ∷ d ∷ body) full is within all enough = elim (equal_or_not d want) [
  | inr differs ↦ inr (OutOfSequence want d, record { before = length chunks; size = size; header = has; wanted = refl; differs = differs })
  | inl same ↦ elim (cases_lt limit (length chunks * full_chunk + size)) [
    | inl above ↦ inr (TooLarge, record { before = length chunks; size = size; header = subst (HasHeader due limit bytes (length chunks) size) same has; above = above })
    | inr fits ↦ elim (cases_lt (length body) size) [
      | inl short ↦ still_open due limit bytes chunks (a ∷ b ∷ c ∷ d ∷ body) full is within
          (inr (size, body, header ∙ ap (λ x. little_bytes 3 size ++ x ∷ body) same, omega (arith, fits, within), size_fits size is_header.a_size, short))
      | inr enough_body ↦ elim (cases_lt size full_chunk) [
        | inl last ↦ inl (
          packets due chunks ++ packet (due + length chunks) chunk,
          others,
          concat chunks ++ chunk,
          (due + length chunks + 1) % 256,
          cut same enough_body ∙ sym (append_assoc (packets due chunks) (packet (due + length chunks) chunk) others),
          record {
            packing = record {
              chunks = chunks;
              last = chunk;
              full = full;
              short = omega (arith, sized enough_body, last);
              cut = refl;
              packed = sym (packets-push due chunks chunk);
              follows = refl;
            };
            within = omega (arith, fits, sized enough_body, length-append (concat chunks) chunk, concat_length chunks full);
          },
          omega (arith, ap length is, length-append (packets due chunks) (a ∷ b ∷ c ∷ d ∷ body), length-drop size body),
        )
        | inr long ↦ scan fuel due limit bytes (chunks ++ chunk ∷ []) others
            (all-push chunks chunk full (sized enough_body ∙ exact long))
            (cut same enough_body ∙ sym (append_assoc (packets due chunks) (packet (due + length chunks) chunk) others) ∙ ap (λ x. x ++ others) (sym (packets-push due chunks chunk)))
            (subst (λ n. n * full_chunk ≤ limit) (sym (length_push chunks chunk ∙ plus_one (length chunks))) (omega (arith, fits, exact long, one_more (length chunks) full_chunk)))
            (bytes-drop size body all.1.1.1.1)
            (omega (arith, enough, length-drop size body))
      ]
    ]
  ]
]
  where
    size : ℕ
    size = a + 256 * b + 65536 * c

    want : ℕ
    want = (due + length chunks) % 256

    chunk : List ℕ
    chunk = take size body

    others : List ℕ
    others = drop size body

    is_header : IsHeader size d (a ∷ b ∷ c ∷ d ∷ [])
    is_header = header_bytes a b c d all.0 all.1.0 all.1.1.0 all.1.1.1.0

    header : a ∷ b ∷ c ∷ d ∷ body ≡ little_bytes 3 size ++ d ∷ body
    header = ap (λ h. h ++ body) is_header.bytes_are

    has : HasHeader due limit bytes (length chunks) size d
    has = record {
      chunks = chunks;
      header = a ∷ b ∷ c ∷ d ∷ [];
      more = body;
      full = full;
      count = refl;
      within = within;
      is_header = is_header;
      bytes_are = is ∙ sym (append_assoc (packets due chunks) (a ∷ b ∷ c ∷ d ∷ []) body);
    }

    sized : size ≤ length body → length chunk ≡ size
    sized h = length-take-le size body h

    exact : full_chunk ≤ size → size ≡ full_chunk
    exact h = omega (arith, h, is_header.a_size)

    plus_one : (n : ℕ) → n + 1 ≡ suc n
    plus_one n = omega arith

    cut : d ≡ want → size ≤ length body → bytes ≡ packets due chunks ++ (packet (due + length chunks) chunk ++ others)
    cut same h = is
        ∙ ap (λ x. packets due chunks ++ x) (header ∙ (λ i. little_bytes 3 (sym (sized h) i) ++ same i ∷ sym (take-append-drop size body) i))

front_of : (due limit : ℕ) (bytes : List ℕ) → AllByRecursion IsByte bytes → Front due limit bytes
front_of due limit bytes all = scan (suc (length bytes)) due limit bytes [] bytes tt refl (omega arith) all (omega arith)

reading : (fuel due limit : ℕ) (stream : List ℕ) → AllByRecursion IsByte stream → length stream < fuel →
    (payloads : List (List ℕ)) × (ending : Ending) × IsStream due limit stream payloads ending
reading zero due limit stream all enough = absurd (omega (arith, enough))
reading (suc fuel) due limit stream all enough = elim (front_of due limit stream all) [
  | inl f ↦ let (front, rest, payload, next, is, whole, less) = f in
      let r = reading fuel next limit rest (bytes-after front rest (subst (AllByRecursion IsByte) is all)) (omega (arith, less, enough)) in
      (payload ∷ r.0, r.1, (front, rest, next, is, whole, r.2))
  | inr e ↦ ([], e.0, e.1)
]

pub some_reading : (due limit : ℕ) (stream : List ℕ) → AllByRecursion IsByte stream → (payloads : List (List ℕ)) × (ending : Ending) × IsStream due limit stream payloads ending
some_reading due limit stream all = reading (suc (length stream)) due limit stream all (omega arith)
