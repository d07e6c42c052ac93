-- A printed text is read as its set.
use Rattle.gtid.proofs.Names.{◌≡◌, ℕ, ◌+◌, ◌-◌, ◌*◌, ◌/◌, ◌%◌, ◌<◌, ◌≤◌, ◌^◌, ◌==◌, Bool, true, false, nat_lt, if◌then◌else◌, inl, inr, None, List, [], ◌∷◌, ◌++◌, length, map, flat_map, fold, codes, refl, ap, sym, subst, ◌∙◌, arith, append-nil, list_any, join_by, AllByRecursion, to_ascii_lowercase, IsAsciiDigit, bytes_eq, str_to_ascii_lowercase, nat_tests, get_or-map, length-map, length-append, hyphenated_text, lower, hex_digit, nibble, digit_place, is_hyphen_place, by_index_at, by_index_length, nibble_small, Id, Ids, IsSource, IsGtid, IsLeast, Span, SidBlock, join_block, interval_text, block_text, IsNumeral, IsIntervalText, AreIntervalTexts, IsItem, IsList, first_some, list_fault, written_spans, IsRead}
use Rattle.std.proofs.Common.{decimal}
use Rattle.std.proofs.lemmas.Bool.{or_left, or_right}
use Rattle.std.proofs.lemmas.Fmt.{decimal_by_steps}
use Rattle.uuid.proofs.TextLemmas.{by_index_same}
use Rattle.gtid.specs.Span.{is_in}
use Rattle.gtid.specs.Encoding.{grouped}
use Rattle.gtid.specs.Text.{IsSetText, is_number, written_fault}
use Rattle.gtid.proofs.OneLeastList.{some_first, tail_least, inside}
use Rattle.gtid.proofs.GroupSets.{span_of, spans_of_block, ungrouped}

-- ---- The spans of a set of GTIDs.

-- A lawful source, and numbers in range, at least one.
abbrev IsLawful : Span → Type 0
IsLawful s = IsSource s.source × (1 ≤ s.lo) × (s.lo < s.hi) × (s.hi < 2 ^ 63)

lawful_spans : (spans : List Span) → IsLeast spans → ((q : Id) → list_any (is_in q) spans ≡ true → IsGtid q) → AllByRecursion IsLawful spans
lawful_spans [] least gtids = tt
lawful_spans (s ∷ spans) least gtids =
    let some = some_first s spans least in
    let first = gtids (s.source, s.lo) (or_left (is_in (s.source, s.lo) s) (list_any (is_in (s.source, s.lo)) spans) (inside (s.source, s.lo) s refl (omega arith) some)) in
    let last = gtids (s.source, s.hi - 1) (or_left (is_in (s.source, s.hi - 1) s) (list_any (is_in (s.source, s.hi - 1)) spans) (inside (s.source, s.hi - 1) s refl (omega arith) (omega arith))) in (
      (first.0, first.1, some, omega (arith, last.2, some)),
      lawful_spans spans (tail_least s spans least) (λ q one. gtids q (or_right (is_in q s) (list_any (is_in q) spans) one)),
    )

-- ---- The blocks of such spans.

abbrev IsLawfulInterval : ℕ × ℕ → Type 0
IsLawfulInterval i = (1 ≤ i.0) × (i.0 < i.1) × (i.1 < 2 ^ 63)

record IsLawfulBlock (b : SidBlock) : Type 0 where
  pub source : IsSource b.source
  pub some : 0 < length b.intervals
  pub intervals : AllByRecursion IsLawfulInterval b.intervals

alone : (s : Span) → IsLawful s → IsLawfulBlock (record { source = s.source; intervals = (s.lo, s.hi) ∷ [] })
alone s h = record { source = h.0; some = omega arith; intervals = ((h.1, h.2, h.3), tt) }

lawful_join : (s : Span) (blocks : List SidBlock) → IsLawful s → AllByRecursion IsLawfulBlock blocks → AllByRecursion IsLawfulBlock (join_block s blocks)
lawful_join s [] h all = (alone s h, tt)
lawful_join s (b ∷ blocks) h all = by (bytes_eq s.source b.source)
  where
    by : (c : Bool) → AllByRecursion IsLawfulBlock (if c then record { source = b.source; intervals = (s.lo, s.hi) ∷ b.intervals } ∷ blocks else record { source = s.source; intervals = (s.lo, s.hi) ∷ [] } ∷ (b ∷ blocks))
    by true = (record { source = all.0.source; some = omega arith; intervals = ((h.1, h.2, h.3), all.0.intervals) }, all.1)
    by false = (alone s h, all)

lawful_blocks : (spans : List Span) → AllByRecursion IsLawful spans → AllByRecursion IsLawfulBlock (grouped spans)
lawful_blocks [] all = tt
lawful_blocks (s ∷ spans) all = lawful_join s (grouped spans) all.0 (lawful_blocks spans all.1)

-- ---- As they are read: with the last number, and not one more.

abbrev closed : ℕ × ℕ → ℕ × ℕ
closed i = (i.0, i.1 - 1)

abbrev item : SidBlock → SidBlock
item b = record { source = b.source; intervals = map closed b.intervals }

number_of_more : (ds : List ℕ) (so_far d : ℕ) → fold (λ n digit. n * 10 + (digit - 48)) so_far (ds ++ d ∷ []) ≡ fold (λ n digit. n * 10 + (digit - 48)) so_far ds * 10 + (d - 48)
number_of_more [] so_far d = refl
number_of_more (c ∷ ds) so_far d = number_of_more ds (so_far * 10 + (c - 48)) d

digits_more : (ds : List ℕ) (d : ℕ) → AllByRecursion IsAsciiDigit ds → IsAsciiDigit d → AllByRecursion IsAsciiDigit (ds ++ d ∷ [])
digits_more [] d all one = (one, tt)
digits_more (c ∷ ds) d all one = (all.0, digits_more ds d all.1 one)

pub is_numeral : (n : ℕ) → n < 2 ^ 64 → IsNumeral (decimal n) n
is_numeral = decimal_by_steps (λ n ds. IsNumeral ds n)
    (λ n small. (omega arith, ((omega arith, omega arith), tt), omega arith))
    (λ n ds large h. (omega (arith, length-append ds ((48 + n % 10) ∷ [])), digits_more ds (48 + n % 10) h.1 (omega arith, omega arith), last n ds h.2))
  where
    last : (n : ℕ) (ds : List ℕ) → n / 10 ≡ fold (λ m digit. m * 10 + (digit - 48)) 0 ds → n ≡ fold (λ m digit. m * 10 + (digit - 48)) 0 (ds ++ (48 + n % 10) ∷ [])
    last n ds e =
        let parts : n ≡ n / 10 * 10 + (48 + n % 10 - 48) = omega arith in
        parts ∙ ap (λ (m : ℕ). m * 10 + (48 + n % 10 - 48)) e ∙ sym (number_of_more ds 0 (48 + n % 10))

is_interval : (i : ℕ × ℕ) → IsLawfulInterval i → IsIntervalText (interval_text i) (closed i)
is_interval i h = by (i.1 == i.0 + 1) refl
  where
    by : (one : Bool) → (i.1 == i.0 + 1) ≡ one → IsIntervalText (if one then 58 ∷ decimal i.0 else 58 ∷ decimal i.0 ++ 45 ∷ decimal (i.1 - 1)) (closed i)
    by true one = (decimal i.0, is_numeral i.0 (omega (arith, h.1, h.2)), inl (refl, grind (arith, nat_tests)))
    by false one = (decimal i.0, is_numeral i.0 (omega (arith, h.1, h.2)), inr (decimal (i.1 - 1), is_numeral (i.1 - 1) (omega (arith, h.2)), refl))

are_intervals : (is : List (ℕ × ℕ)) → AllByRecursion IsLawfulInterval is → AreIntervalTexts (flat_map interval_text is) (map closed is)
are_intervals [] all = refl
are_intervals (i ∷ is) all = (interval_text i, flat_map interval_text is, refl, is_interval i all.0, are_intervals is all.1)

lowered_byte : (hyphen : Bool) (d : ℕ) → d < 16 → to_ascii_lowercase (if hyphen then 45 else hex_digit lower d) ≡ (if hyphen then 45 else hex_digit lower d)
lowered_byte true d small = refl
lowered_byte false d small = grind (arith, nat_tests)

-- the text of a source is in lower case
pub lowered : (source : List ℕ) → str_to_ascii_lowercase (hyphenated_text lower source) ≡ hyphenated_text lower source
lowered source =
    by_index_same (map to_ascii_lowercase (hyphenated_text lower source)) 36 byte_at (length-map (hyphenated_text lower source) to_ascii_lowercase ∙ by_index_length 36 byte_at)
    (λ k d short.
    get_or-map to_ascii_lowercase (hyphenated_text lower source) k 0 d (omega (arith, by_index_length 36 byte_at))
    ∙ ap to_ascii_lowercase (by_index_at 36 byte_at k 0 short)
    ∙ lowered_byte (is_hyphen_place k) (nibble source (digit_place k)) (nibble_small source (digit_place k)))
  where
    byte_at : ℕ → ℕ
    byte_at k = if is_hyphen_place k then 45 else hex_digit lower (nibble source (digit_place k))

is_item : (b : SidBlock) → IsLawfulBlock b → IsItem (block_text b) (item b)
is_item b h = record {
  before = [];
  uuid = hyphenated_text lower b.source;
  numbers = flat_map interval_text b.intervals;
  after = [];
  text_is = sym (append-nil (block_text b));
  blanks = (tt, tt);
  a_source = h.source;
  a_uuid = lowered b.source;
  some = omega (arith, h.some, length-map b.intervals closed);
  intervals = are_intervals b.intervals h.intervals;
}

is_list : (blocks : List SidBlock) → AllByRecursion IsLawfulBlock blocks → IsList (join_by block_text (codes ",") blocks) (map item blocks)
is_list [] all = tt
is_list (b ∷ []) all = subst (λ t. IsItem t (item b)) (sym (append-nil (block_text b))) (is_item b all.0)
is_list (b ∷ c ∷ blocks) all = (block_text b, join_by block_text (codes ",") (c ∷ blocks), refl, is_item b all.0, is_list (c ∷ blocks) all.1)

-- ---- No interval is at fault, and the spans are those that were printed.

no_interval_fault : (i : ℕ × ℕ) → IsLawfulInterval i → written_fault (closed i) ≡ None
no_interval_fault i h =
    let lo : is_number i.0 ≡ true = grind (arith, nat_tests, h.0, h.1, h.2) in
    let hi : is_number (i.1 - 1) ≡ true = grind (arith, nat_tests, h.0, h.1, h.2) in
    let order : nat_lt (i.1 - 1) i.0 ≡ false = grind (arith, nat_tests, h.1) in
    rw (lo, hi, order) refl

no_faults : (is : List (ℕ × ℕ)) (blocks : List SidBlock) → AllByRecursion IsLawfulInterval is → first_some (map written_fault (map closed is) ++ flat_map (λ b. map written_fault b.intervals) blocks) ≡ list_fault blocks
no_faults [] blocks all = refl
no_faults (i ∷ is) blocks all =
    ap (λ o. first_some (o ∷ (map written_fault (map closed is) ++ flat_map (λ b. map written_fault b.intervals) blocks))) (no_interval_fault i all.0) ∙ no_faults is blocks all.1

no_fault : (blocks : List SidBlock) → AllByRecursion IsLawfulBlock blocks → list_fault (map item blocks) ≡ None
no_fault [] all = refl
no_fault (b ∷ blocks) all = no_faults b.intervals (map item blocks) all.0.intervals ∙ no_fault blocks all.1

same_intervals : (source : List ℕ) (is : List (ℕ × ℕ)) → AllByRecursion IsLawfulInterval is → map (λ i. record { source = source; lo = i.0; hi = i.1 + 1 }) (map closed is) ≡ map (span_of source) is
same_intervals source [] all = refl
same_intervals source (i ∷ is) all =
    let h : i.1 - 1 + 1 ≡ i.1 = omega (arith, all.0.1) in
    (λ k. record { source = source; lo = i.0; hi = h k } ∷ same_intervals source is all.1 k)

same_spans : (blocks : List SidBlock) → AllByRecursion IsLawfulBlock blocks → written_spans (map item blocks) ≡ flat_map spans_of_block blocks
same_spans [] all = refl
same_spans (b ∷ blocks) all = (λ k. same_intervals b.source b.intervals all.0.intervals k ++ same_spans blocks all.1 k)

pub text_is_read : (ids : Ids) (text : List ℕ) → IsSetText ids text → IsRead text ids
text_is_read ids text t =
    let blocks = grouped t.spans in
    let all = lawful_blocks t.spans (lawful_spans t.spans t.least.least (λ q one. t.lawful q (t.least.covers q ∙ one))) in
    record {
      items = map item blocks;
      is_list = subst (λ bs. IsList bs (map item blocks)) (sym t.printed) (is_list blocks all);
      lawful = no_fault blocks all;
      union = λ q. t.least.covers q ∙ ap (list_any (is_in q)) (sym (same_spans blocks all ∙ ungrouped t.spans));
    }
