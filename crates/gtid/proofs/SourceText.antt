-- The text of a source, in either case, by its places.
use Rattle.gtid.proofs.Names.{◌≡◌, ℕ, zero, suc, ◌+◌, ◌*◌, ◌/◌, ◌%◌, ◌<◌, ◌==◌, Bool, true, false, if◌then◌else◌, List, [], ◌∷◌, length, map, get_or, slice_index, refl, ap, sym, subst, ◌∙◌, arith, to_ascii_lowercase, str_to_ascii_lowercase, nat_tests, get_or-map, length-map, hyphenated_text, lower, hex_digit, nibble, digit_place, is_hyphen_place, by_index_at, by_index_length, nibble_small, IsSource, stands_at}
use Rattle.std.proofs.Common.{add-zero}
use Rattle.std.proofs.lemmas.List.Elements.{recursion_from_All}
use Rattle.uuid.specs.Text.{by_index, hyphen_place, digits_of, is_hex_digit, value_of, byte_of_digits}
use Rattle.uuid.proofs.TextLemmas.{by_index_same}

-- The bytes may be at the places of a UUID from this one on.
abbrev pub StandFrom : ℕ → List ℕ → Type 0
StandFrom place [] = Unit {0}
StandFrom place (b ∷ bs) = (stands_at place b ≡ true) × StandFrom (place + 1) bs

pub stand_by_place : (bs : List ℕ) (place : ℕ) → ((i : ℕ) → i < length bs → stands_at (place + i) (get_or bs i 0) ≡ true) → StandFrom place bs
stand_by_place [] place at = tt
stand_by_place (b ∷ bs) place at = (
  subst (λ p. stands_at p b ≡ true) (add-zero place) (at 0 (omega arith)),
  stand_by_place bs (place + 1) (λ i short.
      let same : place + suc i ≡ place + 1 + i = omega arith in
      subst (λ p. stands_at p (get_or bs i 0) ≡ true) same (at (suc i) (omega arith))),
)

place_of_stand : (bs : List ℕ) (place : ℕ) → StandFrom place bs → (i : ℕ) → i < length bs → stands_at (place + i) (get_or bs i 0) ≡ true
place_of_stand [] place stand i short = absurd (omega arith)
place_of_stand (b ∷ bs) place stand zero short = subst (λ p. stands_at p b ≡ true) (sym (add-zero place)) stand.0
place_of_stand (b ∷ bs) place stand (suc i) short =
    let same : place + 1 + i ≡ place + suc i = omega arith in
    subst (λ p. stands_at p (get_or bs i 0) ≡ true) same (place_of_stand bs (place + 1) stand.1 i (omega arith))

pub stands_in : (text : List ℕ) → StandFrom 0 text → (k : ℕ) → k < length text → stands_at k (get_or text k 0) ≡ true
stands_in text stand k short =
    let same : 0 + k ≡ k = omega arith in
    subst (λ p. stands_at p (get_or text k 0) ≡ true) same (place_of_stand text 0 stand k short)

-- ---- From a source to the bytes.

lowered_byte : (hyphen : Bool) (c d : ℕ) → d < 16 → to_ascii_lowercase c ≡ (if hyphen then 45 else hex_digit lower d) → (if hyphen then c == 45 else is_hex_digit c) ≡ true
lowered_byte true c d small e = grind (arith, nat_tests)
lowered_byte false c d small e = grind (arith, nat_tests)

pub source_length : (text source : List ℕ) → str_to_ascii_lowercase text ≡ hyphenated_text lower source → length text ≡ 36
source_length text source e = sym (length-map text to_ascii_lowercase) ∙ ap length e ∙ by_index_length 36 _

pub source_stands : (text source : List ℕ) → str_to_ascii_lowercase text ≡ hyphenated_text lower source → StandFrom 0 text
source_stands text source e = stand_by_place text 0 (λ i short.
    let long = source_length text source e in
    let place : 0 + i ≡ i = omega arith in
    let lowered : to_ascii_lowercase (get_or text i 0) ≡ (if is_hyphen_place i then 45 else hex_digit lower (nibble source (digit_place i))) =
    sym (get_or-map to_ascii_lowercase text i 0 0 short) ∙ ap (λ (bs : List ℕ). get_or bs i 0) e ∙ by_index_at 36 (λ k. if is_hyphen_place k then 45 else hex_digit lower (nibble source (digit_place k))) i 0 (omega arith) in
    subst (λ p. stands_at p (get_or text i 0) ≡ true) (sym place)
    (lowered_byte (is_hyphen_place i) (get_or text i 0) (nibble source (digit_place i)) (nibble_small source (digit_place i)) lowered))

-- ---- From the bytes to a source.

-- the source that the bytes encode
pub record Spells (text : List ℕ) : Type 0 where
  pub source : List ℕ
  pub is_source : IsSource source
  pub lowered : str_to_ascii_lowercase text ≡ hyphenated_text lower source

value_small : (c : ℕ) → is_hex_digit c ≡ true → value_of c < 16
value_small c hex = grind (arith, nat_tests)

lower_digit : (c : ℕ) → is_hex_digit c ≡ true → to_ascii_lowercase c ≡ hex_digit lower (value_of c)
lower_digit c hex = grind (arith, nat_tests)

abbrev pub bytes_of : List ℕ → List ℕ
bytes_of text = by_index 16 (byte_of_digits (digits_of text))

pub digit_stands : (text : List ℕ) → length text ≡ 36 → StandFrom 0 text → (j : ℕ) → j < 32 → is_hex_digit (slice_index (digits_of text) j) ≡ true
digit_stands text long stand j small =
    let no_hyphen : is_hyphen_place (hyphen_place j) ≡ false = grind (arith, nat_tests) in
    let short : hyphen_place j < 36 = grind (arith, nat_tests) in
    let stands : stands_at (hyphen_place j) (get_or text (hyphen_place j) 0) ≡ true = stands_in text stand (hyphen_place j) (omega arith) in
    let hex : is_hex_digit (get_or text (hyphen_place j) 0) ≡ true =
    ap (λ (h : Bool). if h then get_or text (hyphen_place j) 0 == 45 else is_hex_digit (get_or text (hyphen_place j) 0)) (sym no_hyphen) ∙ stands in
    rw (by_index_at 32 (λ i. slice_index text (hyphen_place i)) j 0 small) hex

byte_small : (high low : ℕ) → high < 16 → low < 16 → high * 16 + low < 256
byte_small high low h l = omega arith

high_half : (high low : ℕ) → high < 16 → low < 16 → (high * 16 + low) / 16 % 16 ≡ high
high_half high low h l = omega arith

low_half : (high low : ℕ) → low < 16 → (high * 16 + low) % 16 ≡ low
low_half high low l = omega arith

-- the values of the two digits of a byte
value_stands : (text : List ℕ) → length text ≡ 36 → StandFrom 0 text → (j : ℕ) → j < 32 → value_of (slice_index (digits_of text) j) < 16
value_stands text long stand j small = value_small (slice_index (digits_of text) j) (digit_stands text long stand j small)

nibble_back : (text : List ℕ) → length text ≡ 36 → StandFrom 0 text → (j : ℕ) → j < 32 → nibble (bytes_of text) j ≡ value_of (slice_index (digits_of text) j)
nibble_back text long stand j small =
    let byte = by_index_at 16 (byte_of_digits (digits_of text)) (j / 2) 0 (omega arith) in
    ap (λ (b : ℕ). if j % 2 == 0 then b / 16 % 16 else b % 16) byte ∙ half (j % 2 == 0) refl
  where
    half : (even : Bool) → (j % 2 == 0) ≡ even → (if even then byte_of_digits (digits_of text) (j / 2) / 16 % 16 else byte_of_digits (digits_of text) (j / 2) % 16) ≡ value_of (slice_index (digits_of text) j)
    half true is_even =
        let same : 2 * (j / 2) ≡ j = grind (arith, nat_tests) in
        high_half _ _ (value_stands text long stand (2 * (j / 2)) (omega arith)) (value_stands text long stand (2 * (j / 2) + 1) (omega arith)) ∙ ap (λ (k : ℕ). value_of (slice_index (digits_of text) k)) same
    half false is_even =
        let same : 2 * (j / 2) + 1 ≡ j = grind (arith, nat_tests) in
        low_half _ _ (value_stands text long stand (2 * (j / 2) + 1) (omega arith)) ∙ ap (λ (k : ℕ). value_of (slice_index (digits_of text) k)) same

lowered_at : (text : List ℕ) → length text ≡ 36 → StandFrom 0 text → (k : ℕ) → k < 36 →
    to_ascii_lowercase (get_or text k 0) ≡ (if is_hyphen_place k then 45 else hex_digit lower (nibble (bytes_of text) (digit_place k)))
lowered_at text long stand k small =
    by (is_hyphen_place k) refl (stands_in text stand k (omega arith))
  where
    by : (hyphen : Bool) → is_hyphen_place k ≡ hyphen → (if hyphen then get_or text k 0 == 45 else is_hex_digit (get_or text k 0)) ≡ true →
        to_ascii_lowercase (get_or text k 0) ≡ (if hyphen then 45 else hex_digit lower (nibble (bytes_of text) (digit_place k)))
    by true is stands =
        let same : get_or text k 0 ≡ 45 = grind (arith, nat_tests) in
        ap to_ascii_lowercase same
    by false is stands =
        let back : hyphen_place (digit_place k) ≡ k = grind (arith, nat_tests) in
        let short : digit_place k < 32 = grind (arith, nat_tests) in
        let digit : slice_index (digits_of text) (digit_place k) ≡ get_or text k 0 =
        by_index_at 32 (λ i. slice_index text (hyphen_place i)) (digit_place k) 0 short ∙ ap (λ (i : ℕ). get_or text i 0) back in
        lower_digit (get_or text k 0) stands ∙ ap (hex_digit lower) (sym (nibble_back text long stand (digit_place k) short ∙ ap value_of digit))

pub spelled_source : (text : List ℕ) → length text ≡ 36 → StandFrom 0 text → IsSource (bytes_of text)
spelled_source text long stand = (
  by_index_length 16 (byte_of_digits (digits_of text)),
  recursion_from_All (λ b. b < 256) (bytes_of text) (λ k d short.
      let within : k < 16 = omega (arith, by_index_length 16 (byte_of_digits (digits_of text))) in
      subst (λ b. b < 256) (sym (by_index_at 16 (byte_of_digits (digits_of text)) k d within))
      (byte_small _ _ (value_stands text long stand (2 * k) (omega arith)) (value_stands text long stand (2 * k + 1) (omega arith)))),
)

pub spelled_text : (text : List ℕ) → length text ≡ 36 → StandFrom 0 text → str_to_ascii_lowercase text ≡ hyphenated_text lower (bytes_of text)
spelled_text text long stand =
    by_index_same (map to_ascii_lowercase text) 36 _ (length-map text to_ascii_lowercase ∙ long)
    (λ k d short. get_or-map to_ascii_lowercase text k 0 d (omega arith) ∙ lowered_at text long stand k short)

pub spells : (text : List ℕ) → length text ≡ 36 → StandFrom 0 text → Spells text
spells text long stand = record { source = bytes_of text; is_source = spelled_source text long stand; lowered = spelled_text text long stand }
