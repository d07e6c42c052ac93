-- Bytes begin with an encoding or have a fault.
use Rattle.gtid.proofs.Names.{◌≡◌, ◌≢◌, ℕ, zero, suc, ◌+◌, ◌-◌, ◌*◌, ◌/◌, ◌%◌, ◌<◌, ◌≤◌, ◌^◌, ◌==◌, ◌||◌, ◌⊎◌, inl, inr, Bool, true, false, not, nat_le, nat_lt, Option, Some, None, List, [], ◌∷◌, ◌++◌, length, map, flat_map, take, slice_index, refl, ap, sym, subst, ◌∙◌, arith, append_assoc, nat_tests, length-append, take-append-drop, last_or, AllByRecursion, nat_cmp, slice_cmp, bytes_eq, little_bytes, little_number, AreLeast, IsLeast, SidBlock, interval_bytes, block_bytes, blocks_bytes, interval_fault, is_above, source_fault, AreIntervals, AreSidBlocks, IsEncoding, Interval, GtidFault}
use Rattle.std.proofs.Common.{drop}
use Rattle.std.proofs.Math.Nat.{div-div-eq-div-mul, pow-succ'}
use Rattle.std.proofs.lemmas.Bool.{or_parts, not-false}
use Rattle.std.specs.Int.{byte_at, bytes_low_first}
use Rattle.byteorder.specs.Numbers.{little_from-cons, little_from-lt}
use Rattle.gtid.specs.Spans.{span}
use Rattle.gtid.specs.Blocks.{pair}
use Rattle.gtid.specs.Encoding.{grouped, BeginsWithEncoding, HasDecodeFault}
use Rattle.gtid.specs.Encoding.IsDecodeFault.{no_count}
use Rattle.gtid.specs.Decoding.{IsBlockFault}
use Rattle.gtid.specs.declared.fault.GtidFault.TheVariants as fault
use Rattle.gtid.proofs.LeastList.{IsUnder, least_group, under_first}
use Rattle.gtid.proofs.SpansBySource.{IsOther, grouped_some, other_below}
use Rattle.gtid.proofs.GroupSets.{less_from, span_of, spans_of_block}
use Rattle.gtid.proofs.OneEncoding.{interval_table, source_table, source_of, pair_end, ends_at}
use Rattle.gtid.proofs.BytesSoFar.{next_faults}
use Rattle.gtid.proofs.SomeReading.{set_of, covers_set}

-- ---- A number at the front.

abbrev AreBytes : List ℕ → Type 0
AreBytes bytes = AllByRecursion (λ b. b < 256) bytes

next_byte : (i x m : ℕ) → x < 256 → byte_at (suc i) (x + 256 * m) ≡ byte_at i m
next_byte zero x m small = omega arith
next_byte (suc i) x m small =
    let beyond : (x + 256 * m) / 256 ≡ m = omega arith in
    ap (λ (p : ℕ). (x + 256 * m) / p % 256) (pow-succ' 256 (suc i))
    ∙ ap (λ (q : ℕ). q % 256) (sym (div-div-eq-div-mul (x + 256 * m) 256 (256 ^ suc i)))
    ∙ ap (λ (q : ℕ). q / 256 ^ suc i % 256) beyond

next_bytes : (k i x m : ℕ) → x < 256 → bytes_low_first (suc i) k (x + 256 * m) ≡ bytes_low_first i k m
next_bytes zero i x m small = refl
next_bytes (suc k) i x m small = λ j. next_byte i x m small j ∷ next_bytes k (suc i) x m small j

number_bytes : (k : ℕ) (bytes : List ℕ) → AreBytes bytes → k ≤ length bytes → little_bytes k (little_number k bytes) ≡ take k bytes
number_bytes zero bytes are long = refl
number_bytes (suc k) [] are long = absurd (omega arith)
number_bytes (suc k) (x ∷ bytes) are long =
    let m = little_number k bytes in
    let number : little_number (suc k) (x ∷ bytes) ≡ x + 256 * m = ap (λ (n : ℕ). x + 256 * n) (little_from-cons 0 k x bytes) in
    let first : (x + 256 * m) % 256 ≡ x = omega (arith, are.0) in
    ap (little_bytes (suc k)) number ∙ (λ j. first j ∷ (next_bytes k 0 x m are.0 ∙ number_bytes k bytes are.1 (omega arith)) j)

number_front : (bytes : List ℕ) → AreBytes bytes → 8 ≤ length bytes → bytes ≡ little_bytes 8 (little_number 8 bytes) ++ drop 8 bytes
number_front bytes are long = sym (take-append-drop 8 bytes) ∙ ap (λ l. l ++ drop 8 bytes) (sym (number_bytes 8 bytes are long))

byte_small : (bytes : List ℕ) → AreBytes bytes → (k : ℕ) → slice_index bytes k < 256
byte_small [] are k = omega arith
byte_small (b ∷ bytes) are zero = are.0
byte_small (b ∷ bytes) are (suc k) = byte_small bytes are.1 k

number_small : (bytes : List ℕ) → AreBytes bytes → little_number 8 bytes < 2 ^ 64
number_small bytes are = omega (arith, little_from-lt 0 8 bytes (byte_small bytes are))

dropped_bytes : (n : ℕ) (bytes : List ℕ) → AreBytes bytes → AreBytes (drop n bytes)
dropped_bytes zero bytes are = are
dropped_bytes (suc n) [] are = tt
dropped_bytes (suc n) (b ∷ bytes) are = dropped_bytes n bytes are.1

bytes_after : (front rest bytes : List ℕ) → bytes ≡ front ++ rest → AreBytes bytes → AreBytes rest
bytes_after front rest bytes split are = beyond front (subst AreBytes split are)
  where
    beyond : (front : List ℕ) → AreBytes (front ++ rest) → AreBytes rest
    beyond [] are = are
    beyond (b ∷ front) are = beyond front are.1

-- ---- An interval at the front.

record FrontInterval (after : ℕ) (bytes : List ℕ) : Type 0 where
  pub interval : ℕ × ℕ
  pub rest : List ℕ
  pub lawful : (after < interval.0) × (interval.0 < interval.1) × (interval.1 < 2 ^ 63)
  pub split : bytes ≡ interval_bytes interval ++ rest

record FaultyInterval (after : ℕ) (bytes : List ℕ) : Type 0 where
  pub fault : GtidFault
  pub is : interval_fault after bytes ≡ Some fault

front_interval : (after : ℕ) (bytes : List ℕ) → AreBytes bytes → FrontInterval after bytes ⊎ FaultyInterval after bytes
front_interval after bytes are = by (nat_lt (length bytes) 16) ((lo == 0) || nat_lt (2 ^ 63 - 1) hi) (nat_le hi lo) (nat_le lo after) refl refl refl refl
  where
    lo : ℕ
    lo = little_number 8 bytes

    hi : ℕ
    hi = little_number 8 (drop 8 bytes)

    by : (short number empty order : Bool) → nat_lt (length bytes) 16 ≡ short → ((lo == 0) || nat_lt (2 ^ 63 - 1) hi) ≡ number → nat_le hi lo ≡ empty → nat_le lo after ≡ order →
        FrontInterval after bytes ⊎ FaultyInterval after bytes
    by true number empty order a b c d = inr (record { fault = fault.Truncated; is = λ i. interval_table (a i) (b i) (c i) (d i) })
    by false true empty order a b c d = inr (record { fault = fault.Number; is = λ i. interval_table (a i) (b i) (c i) (d i) })
    by false false true order a b c d = inr (record { fault = fault.Interval; is = λ i. interval_table (a i) (b i) (c i) (d i) })
    by false false false true a b c d = inr (record { fault = fault.Order; is = λ i. interval_table (a i) (b i) (c i) (d i) })
    by false false false false a b c d =
        let long : 16 ≤ length bytes = grind (arith, nat_tests, a) in
        let some : 8 ≤ length (drop 8 bytes) = omega (arith, ap length (take-append-drop 8 bytes), ap length (number_front bytes are (omega arith))) in
        let parts = or_parts (lo == 0) (nat_lt (2 ^ 63 - 1) hi) b in
        inl (record {
          interval = (lo, hi);
          rest = drop 8 (drop 8 bytes);
          lawful = (grind (arith, nat_tests, d), grind (arith, nat_tests, c), grind (arith, nat_tests, parts.1));
          split =
              number_front bytes are (omega arith)
              ∙ ap (λ l. little_bytes 8 lo ++ l) (number_front (drop 8 bytes) (dropped_bytes 8 bytes are) some)
              ∙ sym (append_assoc (little_bytes 8 lo) (little_bytes 8 hi) (drop 8 (drop 8 bytes)));
        })

-- ---- Intervals.

record FrontIntervals (size after : ℕ) (bytes : List ℕ) : Type 0 where
  pub intervals : List (ℕ × ℕ)
  pub rest : List ℕ
  pub lawful : AreIntervals after intervals
  pub counted : length intervals ≡ size
  pub split : bytes ≡ flat_map interval_bytes intervals ++ rest

record FaultyIntervals (size after : ℕ) (bytes : List ℕ) : Type 0 where
  pub intervals : List (ℕ × ℕ)
  pub rest : List ℕ
  pub fault : GtidFault
  pub lawful : AreIntervals after intervals
  pub fewer : length intervals < size
  pub split : bytes ≡ flat_map interval_bytes intervals ++ rest
  pub faulty : interval_fault (pair_end after intervals) rest ≡ Some fault

one_more : (size after : ℕ) (bytes : List ℕ) (f : FrontInterval after bytes) → FrontIntervals size f.interval.1 f.rest ⊎ FaultyIntervals size f.interval.1 f.rest →
    FrontIntervals (suc size) after bytes ⊎ FaultyIntervals (suc size) after bytes
one_more size after bytes f (inl r) = inl (record {
  intervals = f.interval ∷ r.intervals;
  rest = r.rest;
  lawful = (f.lawful.0, f.lawful.1, f.lawful.2, r.lawful);
  counted = ap suc r.counted;
  split = f.split ∙ ap (λ l. interval_bytes f.interval ++ l) r.split ∙ sym (append_assoc (interval_bytes f.interval) (flat_map interval_bytes r.intervals) r.rest);
})
one_more size after bytes f (inr r) = inr (record {
  intervals = f.interval ∷ r.intervals;
  rest = r.rest;
  fault = r.fault;
  lawful = (f.lawful.0, f.lawful.1, f.lawful.2, r.lawful);
  fewer = omega (arith, r.fewer);
  split = f.split ∙ ap (λ l. interval_bytes f.interval ++ l) r.split ∙ sym (append_assoc (interval_bytes f.interval) (flat_map interval_bytes r.intervals) r.rest);
  faulty = r.faulty;
})

front_intervals : (size after : ℕ) (bytes : List ℕ) → AreBytes bytes → FrontIntervals size after bytes ⊎ FaultyIntervals size after bytes
front_intervals zero after bytes are = inl (record { intervals = []; rest = bytes; lawful = tt; counted = refl; split = refl })
front_intervals (suc size) after bytes are = elim (front_interval after bytes are) [
  | inl f ↦ one_more size after bytes f (front_intervals size f.interval.1 f.rest (bytes_after (interval_bytes f.interval) f.rest bytes f.split are))
  | inr f ↦ inr (record { intervals = []; rest = bytes; fault = f.fault; lawful = tt; fewer = omega arith; split = refl; faulty = f.is })
]

-- ---- A source at the front.

record FrontSource (before : Option (List ℕ)) (bytes : List ℕ) : Type 0 where
  pub source : List ℕ
  pub size : ℕ
  pub rest : List ℕ
  pub above : (length source ≡ 16) × (is_above before source ≡ true)
  pub some : 0 < size
  pub fits : size < 2 ^ 64
  pub split : bytes ≡ source ++ (little_bytes 8 size ++ rest)

record FaultySource (before : Option (List ℕ)) (bytes : List ℕ) : Type 0 where
  pub fault : GtidFault
  pub is : source_fault before bytes ≡ Some fault

length_take : (n : ℕ) (bytes : List ℕ) → n ≤ length bytes → length (take n bytes) ≡ n
length_take zero bytes long = refl
length_take (suc n) [] long = absurd (omega arith)
length_take (suc n) (b ∷ bytes) long = ap suc (length_take n bytes (omega arith))

front_source : (before : Option (List ℕ)) (bytes : List ℕ) → AreBytes bytes → FrontSource before bytes ⊎ FaultySource before bytes
front_source before bytes are = by (nat_lt (length bytes) 16) (not (is_above before (take 16 bytes))) (nat_lt (length bytes) 24) (size == 0) refl refl refl refl
  where
    size : ℕ
    size = little_number 8 (drop 16 bytes)

    by : (short order shorter empty : Bool) → nat_lt (length bytes) 16 ≡ short → not (is_above before (take 16 bytes)) ≡ order → nat_lt (length bytes) 24 ≡ shorter → (size == 0) ≡ empty →
        FrontSource before bytes ⊎ FaultySource before bytes
    by true order shorter empty a b c d = inr (record { fault = fault.Truncated; is = λ i. source_table (a i) (b i) (c i) (d i) })
    by false true shorter empty a b c d = inr (record { fault = fault.Order; is = λ i. source_table (a i) (b i) (c i) (d i) })
    by false false true empty a b c d = inr (record { fault = fault.Truncated; is = λ i. source_table (a i) (b i) (c i) (d i) })
    by false false false true a b c d = inr (record { fault = fault.Interval; is = λ i. source_table (a i) (b i) (c i) (d i) })
    by false false false false a b c d =
        let long : 24 ≤ length bytes = grind (arith, nat_tests, c) in
        let first : length (take 16 bytes) ≡ 16 = length_take 16 bytes (omega arith) in
        let enough : 8 ≤ length (drop 16 bytes) = omega (arith, ap length (take-append-drop 16 bytes), length-append (take 16 bytes) (drop 16 bytes), first) in
        inl (record {
          source = take 16 bytes;
          size = size;
          rest = drop 8 (drop 16 bytes);
          above = (first, not-false (is_above before (take 16 bytes)) b);
          some = grind (arith, nat_tests, d);
          fits = number_small (drop 16 bytes) (dropped_bytes 16 bytes are);
          split = sym (take-append-drop 16 bytes) ∙ ap (λ l. take 16 bytes ++ l) (number_front (drop 16 bytes) (dropped_bytes 16 bytes are) enough);
        })

-- ---- Blocks.

record FrontBlock (before : Option (List ℕ)) (bytes : List ℕ) : Type 0 where
  pub first : SidBlock
  pub rest : List ℕ
  pub lawful : AreSidBlocks before (first ∷ [])
  pub split : bytes ≡ block_bytes first ++ rest

record FaultyBlock (before : Option (List ℕ)) (bytes : List ℕ) : Type 0 where
  pub fault : GtidFault
  pub is : IsBlockFault before bytes fault

with_intervals : (before : Option (List ℕ)) (bytes : List ℕ) (s : FrontSource before bytes) → FrontIntervals s.size 0 s.rest ⊎ FaultyIntervals s.size 0 s.rest → FrontBlock before bytes ⊎ FaultyBlock before bytes
with_intervals before bytes s (inl r) = inl (record {
  first = record { source = s.source; intervals = r.intervals };
  rest = r.rest;
  lawful = (s.above.0, s.above.1, omega (arith, r.counted, s.some), omega (arith, r.counted, s.fits), r.lawful, tt);
  split =
      s.split
      ∙ ap (λ l. s.source ++ (little_bytes 8 s.size ++ l)) r.split
      ∙ ap (λ (n : ℕ). s.source ++ (little_bytes 8 n ++ (flat_map interval_bytes r.intervals ++ r.rest))) (sym r.counted)
      ∙ sym (append_assoc s.source (little_bytes 8 (length r.intervals)) (flat_map interval_bytes r.intervals ++ r.rest))
      ∙ sym (append_assoc (s.source ++ little_bytes 8 (length r.intervals)) (flat_map interval_bytes r.intervals) r.rest);
})
with_intervals before bytes s (inr r) = inr (record {
  fault = r.fault;
  is = inr (record {
    source = s.source;
    size = s.size;
    after = s.rest;
    above = s.above;
    fits = s.fits;
    bytes_are = s.split ∙ sym (append_assoc s.source (little_bytes 8 s.size) s.rest);
    faulty = record {
      intervals = r.intervals;
      rest = r.rest;
      some = r.fewer;
      so_far = r.lawful;
      bytes_are = r.split;
      faulty = ap (λ e. interval_fault e r.rest) (ends_at r.intervals) ∙ r.faulty;
    };
  });
})

front_block : (before : Option (List ℕ)) (bytes : List ℕ) → AreBytes bytes → FrontBlock before bytes ⊎ FaultyBlock before bytes
front_block before bytes are = elim (front_source before bytes are) [
  | inl s ↦
      let beyond = bytes_after (little_bytes 8 s.size) s.rest (little_bytes 8 s.size ++ s.rest) refl (bytes_after s.source (little_bytes 8 s.size ++ s.rest) bytes s.split are) in
      with_intervals before bytes s (front_intervals s.size 0 s.rest beyond)
  | inr s ↦ inr (record { fault = s.fault; is = inl s.is })
]

record FrontBlocks (count : ℕ) (before : Option (List ℕ)) (bytes : List ℕ) : Type 0 where
  pub blocks : List SidBlock
  pub rest : List ℕ
  pub lawful : AreSidBlocks before blocks
  pub counted : length blocks ≡ count
  pub split : bytes ≡ flat_map block_bytes blocks ++ rest

record FaultyBlocks (count : ℕ) (before : Option (List ℕ)) (bytes : List ℕ) : Type 0 where
  pub blocks : List SidBlock
  pub rest : List ℕ
  pub fault : GtidFault
  pub lawful : AreSidBlocks before blocks
  pub fewer : length blocks < count
  pub split : bytes ≡ flat_map block_bytes blocks ++ rest
  pub faulty : IsBlockFault (last_or before (map source_of blocks)) rest fault

one_block_more : (count : ℕ) (before : Option (List ℕ)) (bytes : List ℕ) (f : FrontBlock before bytes) → FrontBlocks count (Some f.first.source) f.rest ⊎ FaultyBlocks count (Some f.first.source) f.rest →
    FrontBlocks (suc count) before bytes ⊎ FaultyBlocks (suc count) before bytes
one_block_more count before bytes f (inl r) = inl (record {
  blocks = f.first ∷ r.blocks;
  rest = r.rest;
  lawful = (f.lawful.0, f.lawful.1, f.lawful.2, f.lawful.3, f.lawful.4, r.lawful);
  counted = ap suc r.counted;
  split = f.split ∙ ap (λ l. block_bytes f.first ++ l) r.split ∙ sym (append_assoc (block_bytes f.first) (flat_map block_bytes r.blocks) r.rest);
})
one_block_more count before bytes f (inr r) = inr (record {
  blocks = f.first ∷ r.blocks;
  rest = r.rest;
  fault = r.fault;
  lawful = (f.lawful.0, f.lawful.1, f.lawful.2, f.lawful.3, f.lawful.4, r.lawful);
  fewer = omega (arith, r.fewer);
  split = f.split ∙ ap (λ l. block_bytes f.first ++ l) r.split ∙ sym (append_assoc (block_bytes f.first) (flat_map block_bytes r.blocks) r.rest);
  faulty = r.faulty;
})

front_blocks : (count : ℕ) (before : Option (List ℕ)) (bytes : List ℕ) → AreBytes bytes → FrontBlocks count before bytes ⊎ FaultyBlocks count before bytes
front_blocks zero before bytes are = inl (record { blocks = []; rest = bytes; lawful = tt; counted = refl; split = refl })
front_blocks (suc count) before bytes are = elim (front_block before bytes are) [
  | inl f ↦ one_block_more count before bytes f (front_blocks count (Some f.first.source) f.rest (bytes_after (block_bytes f.first) f.rest bytes f.split are))
  | inr f ↦ inr (record { blocks = []; rest = bytes; fault = f.fault; lawful = tt; fewer = omega arith; split = refl; faulty = f.is })
]

-- ---- The set of lawful blocks.

unpair : ℕ × ℕ → Interval
unpair i = record { lo = i.0; hi = i.1 }

paired : (is : List (ℕ × ℕ)) → map pair (map unpair is) ≡ is
unfolding unpair
paired [] = refl
paired (i ∷ is) = ap (λ l. i ∷ l) (paired is)

spanned : (source : List ℕ) (is : List (ℕ × ℕ)) → map (span source) (map unpair is) ≡ map (span_of source) is
unfolding unpair
spanned source [] = refl
spanned source (i ∷ is) = ap (λ l. span_of source i ∷ l) (spanned source is)

least_of : (end : ℕ) (is : List (ℕ × ℕ)) → AreIntervals end is → AreLeast end (map unpair is)
unfolding unpair
least_of end [] lawful = tt
least_of end (i ∷ is) lawful = (lawful.0, lawful.1, lawful.2, least_of i.1 is lawful.3)

some_of : (is : List (ℕ × ℕ)) → 0 < length is → map unpair is ≢ []
some_of [] some = λ _. omega arith
some_of (i ∷ is) some = λ e. omega (arith, ap length e)

under_blocks : (s : List ℕ) (some : List SidBlock) → AreSidBlocks (Some s) some → IsUnder s (flat_map spans_of_block some)
under_blocks s [] lawful = tt
under_blocks s (b ∷ some) lawful =
    subst (λ l. IsUnder s (l ++ flat_map spans_of_block some)) (spanned b.source b.intervals)
    (under_first s b.source (map unpair b.intervals) (flat_map spans_of_block some) (less_from (slice_cmp nat_cmp s b.source) lawful.1) (some_of b.intervals lawful.2))

least_blocks : (before : Option (List ℕ)) (some : List SidBlock) → AreSidBlocks before some → IsLeast (flat_map spans_of_block some)
least_blocks before [] lawful = tt
least_blocks before (b ∷ some) lawful =
    subst (λ l. IsLeast (l ++ flat_map spans_of_block some)) (spanned b.source b.intervals)
    (least_group b.source 0 (map unpair b.intervals) (flat_map spans_of_block some) (least_of 0 b.intervals lawful.4) (under_blocks b.source some lawful.5) (least_blocks (Some b.source) some lawful.5))

other_blocks : (s : List ℕ) (some : List SidBlock) → AreSidBlocks (Some s) some → IsOther s some
other_blocks s [] lawful = tt
other_blocks s (b ∷ some) lawful = other_below s b.source (bytes_eq s b.source) refl (less_from (slice_cmp nat_cmp s b.source) lawful.1)

regrouped : (before : Option (List ℕ)) (some : List SidBlock) → AreSidBlocks before some → grouped (flat_map spans_of_block some) ≡ some
regrouped before [] lawful = refl
regrouped before (b ∷ some) lawful =
    ap (λ l. grouped (l ++ flat_map spans_of_block some)) (sym (spanned b.source b.intervals))
    ∙ grouped_some b.source (map unpair b.intervals) (flat_map spans_of_block some) some (some_of b.intervals lawful.2) (regrouped (Some b.source) some lawful.5) (other_blocks b.source some lawful.5)
    ∙ ap (λ is. record { source = b.source; intervals = is } ∷ some) (paired b.intervals)

encodes_blocks : (some : List SidBlock) → AreSidBlocks None some → length some < 2 ^ 64 → IsEncoding (set_of (flat_map spans_of_block some)) (blocks_bytes some)
encodes_blocks some lawful fits =
    let spans = flat_map spans_of_block some in
    let same = regrouped None some lawful in
    record {
      spans = spans;
      least = record { least = least_blocks None some lawful; covers = covers_set spans };
      lawful = subst (AreSidBlocks None) (sym same) lawful;
      counted = omega (arith, fits, ap length same);
      spelled = ap blocks_bytes (sym same);
    }

-- ---- Whole bytes.

by_blocks : (bytes : List ℕ) → AreBytes bytes → 8 ≤ length bytes → FrontBlocks (little_number 8 bytes) None (drop 8 bytes) ⊎ FaultyBlocks (little_number 8 bytes) None (drop 8 bytes) →
    BeginsWithEncoding bytes ⊎ HasDecodeFault bytes
by_blocks bytes are long (inl r) = inl (record {
  ids = set_of (flat_map spans_of_block r.blocks);
  encoding = blocks_bytes r.blocks;
  rest = r.rest;
  encodes = encodes_blocks r.blocks r.lawful (omega (arith, r.counted, number_small bytes are));
  bytes_are =
      number_front bytes are long
      ∙ (λ i. little_bytes 8 (sym r.counted i) ++ r.split i)
      ∙ sym (append_assoc (little_bytes 8 (length r.blocks)) (flat_map block_bytes r.blocks) r.rest);
})
by_blocks bytes are long (inr r) = inr (record {
  fault = r.fault;
  is_fault =
      next_faults r.blocks (little_number 8 bytes) r.rest bytes r.fault r.lawful r.fewer (number_small bytes are) (number_front bytes are long ∙ ap (λ l. little_bytes 8 (little_number 8 bytes) ++ l) r.split) r.faulty;
})

pub some_decoding : (bytes : List ℕ) → AreBytes bytes → BeginsWithEncoding bytes ⊎ HasDecodeFault bytes
some_decoding bytes are = by (nat_lt (length bytes) 8) refl
  where
    by : (short : Bool) → nat_lt (length bytes) 8 ≡ short → BeginsWithEncoding bytes ⊎ HasDecodeFault bytes
    by true e = inr (record { fault = fault.Truncated; is_fault = no_count (grind (arith, nat_tests, e)) })
    by false e = by_blocks bytes are (grind (arith, nat_tests, e)) (front_blocks (little_number 8 bytes) None (drop 8 bytes) (dropped_bytes 8 bytes are))
