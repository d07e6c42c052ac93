-- The text of a source, read digit after digit into its bytes.
use Rattle.gtid.proofs.Names.{◌≡◌, ◌≢◌, ℕ, suc, ◌+◌, ◌*◌, ◌-◌, ◌/◌, ◌%◌, ◌<◌, ◌==◌, nat_lt, inl, inr, Bool, true, false, if◌then◌else◌, List, [], ◌∷◌, ◌++◌, length, get_or, slice_index, set, refl, ap, sym, subst, ◌∙◌, arith, to_ascii_lowercase, str_to_ascii_lowercase, cases_lt, nat_tests, get_or-map, All-from_recursion, hyphenated_text, lower, hex_digit, nibble, digit_place, is_hyphen_place, by_index_at, nibble_small, IsSource, collected, Source}
use Rattle.std.proofs.Common.{length-set, add-zero}
use Rattle.std.proofs.lemmas.List.{get_or-set_same, get_or-set_other}
use Rattle.std.proofs.lemmas.List.Elements.{All-get_or}
use Rattle.std.proofs.lemmas.Grind.{same_number_lists}
use Rattle.uuid.specs.Text.{is_hex_digit, value_of}
use Rattle.gtid.proofs.SourceText.{source_length}

-- The bytes hold the first `digits` of the source's digits.
record Held (source : List ℕ) (digits : ℕ) (bytes : List ℕ) : Type 0 where
  pub long : length bytes ≡ 16
  pub whole : (k : ℕ) → k < digits / 2 → get_or bytes k 0 ≡ get_or source k 0
  pub half : digits % 2 ≡ 1 → get_or bytes (digits / 2) 0 % 16 ≡ get_or source (digits / 2) 0 / 16

high_digit : (x v b : ℕ) → b < 256 → v ≡ b / 16 % 16 → (x % 16 * 16 + v) % 16 ≡ b / 16
high_digit x v b small e = omega arith

low_digit : (x v b : ℕ) → b < 256 → x % 16 ≡ b / 16 → v ≡ b % 16 → x % 16 * 16 + v ≡ b
low_digit x v b small e f = omega arith

nibble_high : (source : List ℕ) (k : ℕ) → k % 2 ≡ 0 → nibble source k ≡ get_or source (k / 2) 0 / 16 % 16
nibble_high source k even = rw even refl

nibble_low : (source : List ℕ) (k : ℕ) → k % 2 ≡ 1 → nibble source k ≡ get_or source (k / 2) 0 % 16
nibble_low source k odd = rw odd refl

held_more : (source : List ℕ) (digits : ℕ) (bytes : List ℕ) (v : ℕ) → ((k : ℕ) → k < 16 → get_or source k 0 < 256) → Held source digits bytes → digits < 32 → v ≡ nibble source digits →
    Held source (digits + 1) (set bytes (digits / 2) (get_or bytes (digits / 2) 0 % 16 * 16 + v))
held_more source digits bytes v small h few is =
    elim (cases_lt (digits % 2) 1) [
      | inl even ↦
          let zero_rest : digits % 2 ≡ 0 = omega arith in
          let same : (digits + 1) / 2 ≡ digits / 2 = omega arith in
          let short : digits / 2 < length bytes = omega (arith, h.long) in
          record {
            long = length-set bytes (digits / 2) _ ∙ h.long;
            whole = λ k below.
                let within : k < digits / 2 = omega arith in
                let other : k ≢ digits / 2 = λ e. omega arith in
                get_or-set_other bytes (digits / 2) k _ 0 other ∙ h.whole k within;
            half = λ _.
                subst (λ j. get_or (set bytes (digits / 2) (get_or bytes (digits / 2) 0 % 16 * 16 + v)) j 0 % 16 ≡ get_or source j 0 / 16) (sym same)
                (ap (λ n. n % 16) (get_or-set_same bytes (digits / 2) (get_or bytes (digits / 2) 0 % 16 * 16 + v) 0 short)
                ∙ high_digit (get_or bytes (digits / 2) 0) v (get_or source (digits / 2) 0) (small (digits / 2) (omega arith)) (is ∙ nibble_high source digits zero_rest));
          }
      | inr odd ↦
          let one_rest : digits % 2 ≡ 1 = omega arith in
          let short : digits / 2 < length bytes = omega (arith, h.long) in
          let now : get_or bytes (digits / 2) 0 % 16 * 16 + v ≡ get_or source (digits / 2) 0 =
          low_digit (get_or bytes (digits / 2) 0) v (get_or source (digits / 2) 0) (small (digits / 2) (omega arith)) (h.half one_rest) (is ∙ nibble_low source digits one_rest) in
          record {
            long = length-set bytes (digits / 2) _ ∙ h.long;
            whole = λ k below.
                elim (cases_lt k (digits / 2)) [
                  | inl under ↦
                      let other : k ≢ digits / 2 = λ e. omega arith in
                      get_or-set_other bytes (digits / 2) k _ 0 other ∙ h.whole k under
                  | inr over ↦
                      let same : digits / 2 ≡ k = omega arith in
                      subst (λ j. get_or (set bytes (digits / 2) (get_or bytes (digits / 2) 0 % 16 * 16 + v)) j 0 ≡ get_or source j 0) same
                      (get_or-set_same bytes (digits / 2) _ 0 short ∙ now)
                ];
            half = λ e. absurd (omega arith);
          }
    ]

-- the digits before a place
abbrev digits_before : ℕ → ℕ
digits_before place =
    if nat_lt place 9 then place
    else if nat_lt place 14 then place - 1
    else if nat_lt place 19 then place - 2
    else if nat_lt place 24 then place - 3
    else place - 4

before_hyphen : (place : ℕ) → is_hyphen_place place ≡ true → digits_before (place + 1) ≡ digits_before place
before_hyphen place is = grind (arith, nat_tests)

before_digit : (place : ℕ) → is_hyphen_place place ≡ false → digits_before (place + 1) ≡ digits_before place + 1
before_digit place is = grind (arith, nat_tests)

digit_before : (place : ℕ) → is_hyphen_place place ≡ false → digit_place place ≡ digits_before place
digit_before place is = grind (arith, nat_tests)

few_before : (place : ℕ) → place < 36 → is_hyphen_place place ≡ false → digits_before place < 32
few_before place short is = grind (arith, nat_tests)

-- ---- A byte of the text.

hyphen_is : (c : ℕ) → to_ascii_lowercase c ≡ 45 → 45 ≡ c
hyphen_is c e = grind (arith, nat_tests)

digit_is_hex : (c d : ℕ) → d < 16 → to_ascii_lowercase c ≡ hex_digit lower d → is_hex_digit c ≡ true
digit_is_hex c d small e = grind (arith, nat_tests)

digit_value : (c d : ℕ) → d < 16 → to_ascii_lowercase c ≡ hex_digit lower d → value_of c ≡ d
digit_value c d small e = grind (arith, nat_tests)

no_colon : (c : ℕ) → is_hex_digit c ≡ true → (c == 58) ≡ false
no_colon c e = grind (arith, nat_tests)

collect_digit : (digits c : ℕ) (bytes rest : List ℕ) → digits < 32 → is_hex_digit c ≡ true →
    collected (Source digits) bytes (c ∷ rest) ≡ collected (Source (digits + 1)) (set bytes (digits / 2) (slice_index bytes (digits / 2) % 16 * 16 + value_of c)) rest
collect_digit digits c bytes rest few hex =
    let below : nat_lt (digits / 2) 16 ≡ true = grind (arith, nat_tests) in
    let fits : nat_lt (digits + 1) 256 ≡ true = grind (arith, nat_tests) in
    let colon = no_colon c hex in
    rw (hex, colon, below, fits) refl

-- ---- The whole text.

-- the byte at a place, in lower case
abbrev lowered : List ℕ → ℕ → ℕ
lowered source place = if is_hyphen_place place then 45 else hex_digit lower (nibble source (digit_place place))

-- The bytes are those of the source's text from a place on.
abbrev Spelled : List ℕ → ℕ → List ℕ → Type 0
Spelled source place [] = Unit {0}
Spelled source place (c ∷ cs) = (to_ascii_lowercase c ≡ lowered source place) × Spelled source (place + 1) cs

spelled_by_place : (source bs : List ℕ) (place : ℕ) → ((i : ℕ) → i < length bs → to_ascii_lowercase (get_or bs i 0) ≡ lowered source (place + i)) → Spelled source place bs
spelled_by_place source [] place at = tt
spelled_by_place source (b ∷ bs) place at = (
  subst (λ p. to_ascii_lowercase b ≡ lowered source p) (add-zero place) (at 0 (omega arith)),
  spelled_by_place source bs (place + 1) (λ i short.
      let same : place + suc i ≡ place + 1 + i = omega arith in
      subst (λ p. to_ascii_lowercase (get_or bs i 0) ≡ lowered source p) same (at (suc i) (omega arith))),
)

spelled : (text source : List ℕ) → str_to_ascii_lowercase text ≡ hyphenated_text lower source → Spelled source 0 text
spelled text source e = spelled_by_place source text 0 (λ i short.
    let long = source_length text source e in
    let place : i ≡ 0 + i = omega arith in
    let at : to_ascii_lowercase (get_or text i 0) ≡ lowered source i =
    sym (get_or-map to_ascii_lowercase text i 0 0 short) ∙ ap (λ (bs : List ℕ). get_or bs i 0) e ∙ by_index_at 36 (λ k. lowered source k) i 0 (omega arith) in
    subst (λ p. to_ascii_lowercase (get_or text i 0) ≡ lowered source p) place at)

held_whole : (source bytes : List ℕ) → length source ≡ 16 → Held source 32 bytes → bytes ≡ source
held_whole source bytes long h = same_number_lists bytes source (h.long ∙ sym long) (λ k short. h.whole k (omega (arith, h.long)))

read_from : (source : List ℕ) → length source ≡ 16 → ((k : ℕ) → k < 16 → get_or source k 0 < 256) →
    (cs : List ℕ) (place : ℕ) → length cs + place ≡ 36 → Spelled source place cs → (bytes rest : List ℕ) → Held source (digits_before place) bytes →
    collected (Source (digits_before place)) bytes (cs ++ rest) ≡ collected (Source 32) source rest
read_from source long small [] place end is bytes rest h =
    let same : place ≡ 36 = omega arith in
    ap (λ (p : ℕ). collected (Source (digits_before p)) bytes rest) same
    ∙ ap (λ (bs : List ℕ). collected (Source 32) bs rest) (held_whole source bytes long (subst (λ p. Held source (digits_before p) bytes) same h))
read_from source long small (c ∷ cs) place end is bytes rest h =
    by (is_hyphen_place place) refl is.0 (λ next held. read_from source long small cs (place + 1) (omega arith) is.1 next rest held)
  where
    by : (hyphen : Bool) → is_hyphen_place place ≡ hyphen → to_ascii_lowercase c ≡ (if hyphen then 45 else hex_digit lower (nibble source (digit_place place))) →
        ((next : List ℕ) → Held source (digits_before (place + 1)) next → collected (Source (digits_before (place + 1))) next (cs ++ rest) ≡ collected (Source 32) source rest) →
        collected (Source (digits_before place)) bytes (c ∷ (cs ++ rest)) ≡ collected (Source 32) source rest
    by true at at_c next =
        let same = before_hyphen place at in
        subst (λ b. collected (Source (digits_before place)) bytes (b ∷ (cs ++ rest)) ≡ collected (Source 32) source rest) (hyphen_is c at_c)
        (subst (λ d. collected (Source d) bytes (cs ++ rest) ≡ collected (Source 32) source rest) same (next bytes (subst (λ d. Held source d bytes) (sym same) h)))
    by false at at_c next =
        let few : digits_before place < 32 = few_before place (omega arith) at in
        let same = before_digit place at in
        let d = digit_before place at in
        let lowered_c : to_ascii_lowercase c ≡ hex_digit lower (nibble source (digits_before place)) = at_c ∙ ap (λ k. hex_digit lower (nibble source k)) d in
        let tiny = nibble_small source (digits_before place) in
        let hex = digit_is_hex c (nibble source (digits_before place)) tiny lowered_c in
        let value = digit_value c (nibble source (digits_before place)) tiny lowered_c in
        let more = held_more source (digits_before place) bytes (value_of c) small h few value in
        collect_digit (digits_before place) c bytes (cs ++ rest) few hex
        ∙ subst (λ e. collected (Source e) (set bytes (digits_before place / 2) (get_or bytes (digits_before place / 2) 0 % 16 * 16 + value_of c)) (cs ++ rest) ≡ collected (Source 32) source rest) same
        (next (set bytes (digits_before place / 2) (get_or bytes (digits_before place / 2) 0 % 16 * 16 + value_of c)) (subst (λ e. Held source e (set bytes (digits_before place / 2) (get_or bytes (digits_before place / 2) 0 % 16 * 16 + value_of c))) (sym same) more))

-- After the text of a source, the source has been read.
pub read_source : (text source bytes rest : List ℕ) → IsSource source → str_to_ascii_lowercase text ≡ hyphenated_text lower source → length bytes ≡ 16 →
    collected (Source 0) bytes (text ++ rest) ≡ collected (Source 32) source rest
read_source text source bytes rest is e long =
    read_from source is.0 (λ k short. All-get_or (λ b. b < 256) source k 0 (omega (arith, is.0)) (All-from_recursion (λ b. b < 256) source is.1))
    text 0 (omega (arith, source_length text source e)) (spelled text source e) bytes rest
    (record { long = long; whole = λ k below. absurd (omega arith); half = λ e. absurd (omega arith) })
