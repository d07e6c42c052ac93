-- Bytes begin with one encoding at most, and then they are not at fault.
use Rattle.gtid.proofs.Names.{◌≡◌, ℕ, ◌+◌, ◌-◌, ◌<◌, ◌≤◌, ◌^◌, Bool, true, false, not, ◌||◌, ◌==◌, nat_le, nat_lt, List, [], ◌∷◌, ◌++◌, length, map, flat_map, take, append_assoc, Option, Some, None, refl, ap, sym, subst, ◌∙◌, arith, last_or, length-append, nat_tests, little_bytes, little_number, SidBlock, interval_bytes, block_bytes, blocks_bytes, interval_fault, is_above, source_fault, last_hi, last_source, AreIntervals, AreSidBlocks, IsDecodeFault, at_source, at_interval, GtidFault, Truncated}
use Rattle.std.proofs.Common.{drop}
use Rattle.std.proofs.Math.Seq.{take-append_seam, drop-append_seam}
use Rattle.byteorder.specs.Numbers.{little_number-reads_back}
use Rattle.gtid.specs.Encoding.{first_fault}
use Rattle.gtid.specs.Encoding.IsDecodeFault.{no_count}
use Rattle.gtid.specs.declared.fault.GtidFault.TheVariants.{Number, Interval, Order}

-- ---- Fronts.

pub same_front : (a b x y : List ℕ) → length a ≡ length b → a ++ x ≡ b ++ y → (a ≡ b) × (x ≡ y)
same_front a b x y long same =
    (sym (take-append_seam a x) ∙ (λ i. take (long i) (same i)) ∙ take-append_seam b y, sym (drop-append_seam a x) ∙ (λ i. drop (long i) (same i)) ∙ drop-append_seam b y)

pub same_number : (m n : ℕ) (x y : List ℕ) → m < 2 ^ 64 → n < 2 ^ 64 → little_bytes 8 m ++ x ≡ little_bytes 8 n ++ y → (m ≡ n) × (x ≡ y)
same_number m n x y small fits same =
    (sym (little_number-reads_back 8 m x small) ∙ ap (little_number 8) same ∙ little_number-reads_back 8 n y fits, (same_front (little_bytes 8 m) (little_bytes 8 n) x y refl same).1)

-- ---- What is lawful is not at fault.

abbrev pub interval_table : Bool → Bool → Bool → Bool → Option GtidFault
interval_table short number empty order = first_fault ((short, Truncated) ∷ (number, Number) ∷ (empty, Interval) ∷ (order, Order) ∷ [])

abbrev pub source_table : Bool → Bool → Bool → Bool → Option GtidFault
source_table short order shorter empty = first_fault ((short, Truncated) ∷ (order, Order) ∷ (shorter, Truncated) ∷ (empty, Interval) ∷ [])

pub not_less : (a b : ℕ) → b ≤ a → nat_lt a b ≡ false
not_less a b h = grind (arith, nat_tests)

not_most : (a b : ℕ) → b < a → nat_le a b ≡ false
not_most a b h = grind (arith, nat_tests)

not_zero : (a : ℕ) → 0 < a → (a == 0) ≡ false
not_zero a h = grind (arith, nat_tests)

none_of : (lo hi : ℕ) → 0 < lo → hi < 2 ^ 63 → ((lo == 0) || nat_lt (2 ^ 63 - 1) hi) ≡ false
none_of lo hi some fits = (λ i. not_zero lo some i || not_less (2 ^ 63 - 1) hi (omega arith) i)

lawful_interval : (after : ℕ) (i : ℕ × ℕ) (x rest : List ℕ) → after < i.0 → i.0 < i.1 → i.1 < 2 ^ 63 → rest ≡ interval_bytes i ++ x → interval_fault after rest ≡ None
lawful_interval after i x rest above some fits is =
    let split : rest ≡ little_bytes 8 i.0 ++ (little_bytes 8 i.1 ++ x) = is ∙ append_assoc (little_bytes 8 i.0) (little_bytes 8 i.1) x in
    let lo : little_number 8 rest ≡ i.0 = ap (little_number 8) split ∙ little_number-reads_back 8 i.0 (little_bytes 8 i.1 ++ x) (omega arith) in
    let beyond : drop 8 rest ≡ little_bytes 8 i.1 ++ x = ap (drop 8) split in
    let hi : little_number 8 (drop 8 rest) ≡ i.1 = ap (little_number 8) beyond ∙ little_number-reads_back 8 i.1 x (omega arith) in
    let long : 16 ≤ length rest = omega (arith, ap length split) in
    (λ k. interval_table
    (not_less (length rest) 16 long k)
    ((ap (λ n. (n == 0) || nat_lt (2 ^ 63 - 1) (little_number 8 (drop 8 rest))) lo ∙ ap (λ n. (i.0 == 0) || nat_lt (2 ^ 63 - 1) n) hi ∙ none_of i.0 i.1 (omega arith) fits) k)
    ((ap (λ n. nat_le (little_number 8 (drop 8 rest)) n) lo ∙ ap (λ n. nat_le n i.0) hi ∙ not_most i.1 i.0 some) k)
    ((ap (λ n. nat_le n after) lo ∙ not_most i.0 after above) k))

pub lawful_source : (before : Option (List ℕ)) (source : List ℕ) (size : ℕ) (x rest : List ℕ) → length source ≡ 16 → is_above before source ≡ true → 0 < size → size < 2 ^ 64 →
    rest ≡ source ++ (little_bytes 8 size ++ x) → source_fault before rest ≡ None
lawful_source before source size x rest long above some fits split =
    let front : take 16 rest ≡ source = ap (λ l. take 16 l) split ∙ ap (λ k. take k (source ++ (little_bytes 8 size ++ x))) (sym long) ∙ take-append_seam source (little_bytes 8 size ++ x) in
    let beyond : drop 16 rest ≡ little_bytes 8 size ++ x =
    ap (λ l. drop 16 l) split ∙ ap (λ k. drop k (source ++ (little_bytes 8 size ++ x))) (sym long) ∙ drop-append_seam source (little_bytes 8 size ++ x) in
    let number : little_number 8 (drop 16 rest) ≡ size = ap (little_number 8) beyond ∙ little_number-reads_back 8 size x fits in
    let length_is : length rest ≡ 16 + length (little_bytes 8 size ++ x) = ap length split ∙ length-append source (little_bytes 8 size ++ x) ∙ ap (λ k. k + length (little_bytes 8 size ++ x)) long in
    let enough : 24 ≤ length rest = omega (arith, length_is) in
    (λ k. source_table
    (not_less (length rest) 16 (omega arith) k)
    ((ap (λ s. not (is_above before s)) front ∙ ap not above) k)
    (not_less (length rest) 24 enough k)
    ((ap (λ n. n == 0) number ∙ not_zero size some) k))

-- ---- Intervals.

abbrev pub pair_end : ℕ → List (ℕ × ℕ) → ℕ
pair_end after [] = after
pair_end after (i ∷ intervals) = pair_end i.1 intervals

end_is : (i : ℕ × ℕ) (intervals : List (ℕ × ℕ)) → last_hi (i ∷ intervals) ≡ pair_end i.1 intervals
end_is i [] = refl
end_is i (j ∷ intervals) = end_is j intervals

pub ends_at : (intervals : List (ℕ × ℕ)) → last_hi intervals ≡ pair_end 0 intervals
ends_at [] = refl
ends_at (i ∷ intervals) = end_is i intervals

same_interval : (i j : ℕ × ℕ) (x y : List ℕ) → i.0 < i.1 → i.1 < 2 ^ 63 → j.0 < j.1 → j.1 < 2 ^ 63 → interval_bytes i ++ x ≡ interval_bytes j ++ y → (i ≡ j) × (x ≡ y)
same_interval i j x y some fits also too same =
    let lo = same_number i.0 j.0 (little_bytes 8 i.1 ++ x) (little_bytes 8 j.1 ++ y) (omega arith) (omega arith)
    (sym (append_assoc (little_bytes 8 i.0) (little_bytes 8 i.1) x) ∙ same ∙ append_assoc (little_bytes 8 j.0) (little_bytes 8 j.1) y) in
    let hi = same_number i.1 j.1 x y (omega arith) (omega arith) lo.1 in
    ((λ k. (lo.0 k, hi.0 k)), hi.1)

-- the next interval of a lawful list, of which some were read
pub record NextInterval (after : ℕ) (x rest : List ℕ) : Type 0 where
  next : ℕ × ℕ
  more : List (ℕ × ℕ)
  lawful : AreIntervals after (next ∷ more)
  rest_is : rest ≡ interval_bytes next ++ (flat_map interval_bytes more ++ x)

pub next_interval : (a b : ℕ) (some all : List (ℕ × ℕ)) (rest x : List ℕ) → AreIntervals a some → AreIntervals b all → length some < length all → flat_map interval_bytes some ++ rest ≡ flat_map interval_bytes all ++ x →
    NextInterval (pair_end b some) x rest
next_interval a b [] [] rest x p q short same = absurd (omega (arith, short))
next_interval a b [] (j ∷ all) rest x p q short same =
    record { next = j; more = all; lawful = q; rest_is = same ∙ append_assoc (interval_bytes j) (flat_map interval_bytes all) x }
next_interval a b (i ∷ some) [] rest x p q short same = absurd (omega (arith, short))
next_interval a b (i ∷ some) (j ∷ all) rest x p q short same =
    let s = same_interval i j (flat_map interval_bytes some ++ rest) (flat_map interval_bytes all ++ x) p.1 p.2 q.1 q.2
    (sym (append_assoc (interval_bytes i) (flat_map interval_bytes some) rest) ∙ same ∙ append_assoc (interval_bytes j) (flat_map interval_bytes all) x) in
    subst (λ e. NextInterval (pair_end e some) x rest) (ap (λ k. k.1) (sym s.0)) (next_interval i.1 j.1 some all rest x p.3 q.3 (omega (arith, short)) s.1)

pub none_some : {A : Type 0} {o : Option A} {a : A} → o ≡ None → o ≡ Some a → ⊥
none_some none some = Prim.cc

pub no_interval_fault : (after : ℕ) (x rest : List ℕ) (fault : GtidFault) → NextInterval after x rest → interval_fault after rest ≡ Some fault → ⊥
no_interval_fault after x rest fault n faulty =
    none_some (lawful_interval after n.next (flat_map interval_bytes n.more ++ x) rest n.lawful.0 n.lawful.1 n.lawful.2 n.rest_is) faulty

pub same_intervals : (a b : ℕ) (l m : List (ℕ × ℕ)) (x y : List ℕ) → AreIntervals a l → AreIntervals b m → length l ≡ length m → flat_map interval_bytes l ++ x ≡ flat_map interval_bytes m ++ y → (l ≡ m) × (x ≡ y)
same_intervals a b [] [] x y p q long same = (refl, same)
same_intervals a b [] (j ∷ m) x y p q long same = absurd (omega (arith, long))
same_intervals a b (i ∷ l) [] x y p q long same = absurd (omega (arith, long))
same_intervals a b (i ∷ l) (j ∷ m) x y p q long same =
    let s = same_interval i j (flat_map interval_bytes l ++ x) (flat_map interval_bytes m ++ y) p.1 p.2 q.1 q.2
    (sym (append_assoc (interval_bytes i) (flat_map interval_bytes l) x) ∙ same ∙ append_assoc (interval_bytes j) (flat_map interval_bytes m) y) in
    let t = same_intervals i.1 j.1 l m x y p.3 q.3 (omega (arith, long)) s.1 in
    ((λ k. s.0 k ∷ t.0 k), t.1)

-- ---- Blocks.

abbrev pub source_of : SidBlock → List ℕ
source_of block = block.source

abbrev after_source : SidBlock → List ℕ → List ℕ
after_source p x = little_bytes 8 (length p.intervals) ++ (flat_map interval_bytes p.intervals ++ x)

parts : (p : SidBlock) (x : List ℕ) → block_bytes p ++ x ≡ p.source ++ after_source p x
parts p x =
    append_assoc (p.source ++ little_bytes 8 (length p.intervals)) (flat_map interval_bytes p.intervals) x
    ∙ append_assoc p.source (little_bytes 8 (length p.intervals)) (flat_map interval_bytes p.intervals ++ x)

same_block : (b c : Option (List ℕ)) (p q : SidBlock) (l m : List SidBlock) (x y : List ℕ) → AreSidBlocks b (p ∷ l) → AreSidBlocks c (q ∷ m) → block_bytes p ++ x ≡ block_bytes q ++ y → (p ≡ q) × (x ≡ y)
same_block b c p q l m x y left right same =
    let s = same_front p.source q.source (after_source p x) (after_source q y) (left.0 ∙ sym right.0) (sym (parts p x) ∙ same ∙ parts q y) in
    let n = same_number (length p.intervals) (length q.intervals) (flat_map interval_bytes p.intervals ++ x) (flat_map interval_bytes q.intervals ++ y) left.3 right.3 s.1 in
    let i = same_intervals 0 0 p.intervals q.intervals x y left.4 right.4 n.0 n.1 in
    ((λ k. record { source = s.0 k; intervals = i.0 k }), i.1)

-- the next block of a lawful list, of which some were read
pub record NextBlock (before : Option (List ℕ)) (x rest : List ℕ) : Type 0 where
  next : SidBlock
  more : List SidBlock
  lawful : AreSidBlocks before (next ∷ more)
  rest_is : rest ≡ block_bytes next ++ (flat_map block_bytes more ++ x)

pub next_block : (b c : Option (List ℕ)) (some all : List SidBlock) (rest x : List ℕ) → AreSidBlocks b some → AreSidBlocks c all → length some < length all → flat_map block_bytes some ++ rest ≡ flat_map block_bytes all ++ x →
    NextBlock (last_or c (map source_of some)) x rest
next_block b c [] [] rest x left right short same = absurd (omega (arith, short))
next_block b c [] (q ∷ all) rest x left right short same =
    record { next = q; more = all; lawful = right; rest_is = same ∙ append_assoc (block_bytes q) (flat_map block_bytes all) x }
next_block b c (p ∷ some) [] rest x left right short same = absurd (omega (arith, short))
next_block b c (p ∷ some) (q ∷ all) rest x left right short same =
    let s = same_block b c p q some all (flat_map block_bytes some ++ rest) (flat_map block_bytes all ++ x) left right
    (sym (append_assoc (block_bytes p) (flat_map block_bytes some) rest) ∙ same ∙ append_assoc (block_bytes q) (flat_map block_bytes all) x) in
    subst (λ (r : SidBlock). NextBlock (last_or (Some r.source) (map source_of some)) x rest) (sym s.0)
    (next_block (Some p.source) (Some q.source) some all rest x left.5 right.5 (omega (arith, short)) s.1)

pub no_source_fault : (before : Option (List ℕ)) (x rest : List ℕ) (fault : GtidFault) → NextBlock before x rest → source_fault before rest ≡ Some fault → ⊥
no_source_fault before x rest fault n faulty =
    let y = flat_map block_bytes n.more ++ x in
    none_some
    (lawful_source before n.next.source (length n.next.intervals) (flat_map interval_bytes n.next.intervals ++ y) rest n.lawful.0 n.lawful.1 n.lawful.2 n.lawful.3 (n.rest_is ∙ parts n.next y))
    faulty

pub no_block_fault : (before : Option (List ℕ)) (x source : List ℕ) (size : ℕ) (intervals : List (ℕ × ℕ)) (rest : List ℕ) (fault : GtidFault) →
    NextBlock before x (source ++ (little_bytes 8 size ++ (flat_map interval_bytes intervals ++ rest))) → length source ≡ 16 → size < 2 ^ 64 → length intervals < size → AreIntervals 0 intervals →
    interval_fault (last_hi intervals) rest ≡ Some fault → ⊥
no_block_fault before x source size intervals rest fault n long fits fewer so_far faulty =
    let inner = flat_map interval_bytes intervals ++ rest in
    let y = flat_map block_bytes n.more ++ x in
    let s = same_front source n.next.source (little_bytes 8 size ++ inner) (after_source n.next y) (long ∙ sym n.lawful.0) (n.rest_is ∙ parts n.next y) in
    let k = same_number size (length n.next.intervals) inner (flat_map interval_bytes n.next.intervals ++ y) fits n.lawful.3 s.1 in
    no_interval_fault (pair_end 0 intervals) y rest fault (next_interval 0 0 intervals n.next.intervals rest y so_far n.lawful.4 (omega (arith, k.0, fewer)) k.1)
    (ap (λ e. interval_fault e rest) (sym (ends_at intervals)) ∙ faulty)

pub same_blocks : (b c : Option (List ℕ)) (l m : List SidBlock) (x y : List ℕ) → AreSidBlocks b l → AreSidBlocks c m → length l ≡ length m → flat_map block_bytes l ++ x ≡ flat_map block_bytes m ++ y → (l ≡ m) × (x ≡ y)
same_blocks b c [] [] x y left right long same = (refl, same)
same_blocks b c [] (q ∷ m) x y left right long same = absurd (omega (arith, long))
same_blocks b c (p ∷ l) [] x y left right long same = absurd (omega (arith, long))
same_blocks b c (p ∷ l) (q ∷ m) x y left right long same =
    let s = same_block b c p q l m (flat_map block_bytes l ++ x) (flat_map block_bytes m ++ y) left right
    (sym (append_assoc (block_bytes p) (flat_map block_bytes l) x) ∙ same ∙ append_assoc (block_bytes q) (flat_map block_bytes m) y) in
    let t = same_blocks (Some p.source) (Some q.source) l m x y left.5 right.5 (omega (arith, long)) s.1 in
    ((λ k. s.0 k ∷ t.0 k), t.1)

-- ---- Whole encodings.

pub one_encoding : (l m : List SidBlock) (x y : List ℕ) → AreSidBlocks None l → AreSidBlocks None m → length l < 2 ^ 64 → length m < 2 ^ 64 → blocks_bytes l ++ x ≡ blocks_bytes m ++ y → (l ≡ m) × (x ≡ y)
one_encoding l m x y left right fits also same =
    let n = same_number (length l) (length m) (flat_map block_bytes l ++ x) (flat_map block_bytes m ++ y) fits also
    (sym (append_assoc (little_bytes 8 (length l)) (flat_map block_bytes l) x) ∙ same ∙ append_assoc (little_bytes 8 (length m)) (flat_map block_bytes m) y) in
    same_blocks None None l m x y left right n.0 n.1

pub flatten : (a b c d e f : List ℕ) → ((((a ++ b) ++ c) ++ d) ++ e) ++ f ≡ a ++ (b ++ (c ++ (d ++ (e ++ f))))
flatten a b c d e f = simp append_assoc

from_left : (a b c d e f bytes : List ℕ) → bytes ≡ ((((a ++ b) ++ c) ++ d) ++ e) ++ f → (g h x : List ℕ) → bytes ≡ (g ++ h) ++ x → a ++ (b ++ (c ++ (d ++ (e ++ f)))) ≡ g ++ (h ++ x)
from_left a b c d e f bytes left g h x right = sym (flatten a b c d e f) ∙ sym left ∙ right ∙ append_assoc g h x

pub no_fault : (l : List SidBlock) (x bytes : List ℕ) (fault : GtidFault) → AreSidBlocks None l → length l < 2 ^ 64 → bytes ≡ blocks_bytes l ++ x → IsDecodeFault bytes fault → ⊥
no_fault l x bytes _ lawful fits is (no_count short) =
    omega (arith, ap length is, ap length (append_assoc (little_bytes 8 (length l)) (flat_map block_bytes l) x))
no_fault l x bytes fault lawful fits is (at_source _ f) =
    let n = same_number f.count (length l) (flat_map block_bytes f.blocks ++ f.rest) (flat_map block_bytes l ++ x) f.counted.1 fits
    (sym (append_assoc (little_bytes 8 f.count) (flat_map block_bytes f.blocks) f.rest) ∙ sym f.bytes_are ∙ is ∙ append_assoc (little_bytes 8 (length l)) (flat_map block_bytes l) x) in
    no_source_fault (last_source f.blocks) x f.rest fault (next_block None None f.blocks l f.rest x f.lawful lawful (omega (arith, n.0, f.counted.0)) n.1) f.faulty
no_fault l x bytes fault lawful fits is (at_interval _ f) =
    let inner = flat_map interval_bytes f.intervals ++ f.rest in
    let rest = f.source ++ (little_bytes 8 f.size ++ inner) in
    let n = same_number f.count (length l) (flat_map block_bytes f.blocks ++ rest) (flat_map block_bytes l ++ x) f.counted.1 fits
    (from_left (little_bytes 8 f.count) (flat_map block_bytes f.blocks) f.source (little_bytes 8 f.size) (flat_map interval_bytes f.intervals) f.rest bytes f.bytes_are (little_bytes 8 (length l)) (flat_map block_bytes l) x is) in
    no_block_fault (last_source f.blocks) x f.source f.size f.intervals f.rest fault (next_block None None f.blocks l rest x f.lawful lawful (omega (arith, n.0, f.counted.0)) n.1)
    f.above.0 f.some.1 f.some.0 f.so_far f.faulty
