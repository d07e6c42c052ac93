-- Rows that are added in another order.
use Rattle.store.proofs.Names.{Bor, Result, IfOk, IsTrue, Err, ◌≡◌, ◌+◌, ◌<◌, ◌≤◌, nat_lt, ℕ, zero, suc, Bool, true, false, cond, inl, inr, List, [], ◌∷◌, ◌++◌, map, take, length, None, Ok, refl, sym, ap, subst, ◌∙◌, append_assoc, append-nil, arith, AllByRecursion, IsPermutation, cases_Bool, and_parts, ltb-true, map-append, IsPermutation-map, bytes_eq-Decides, Database, State, IsUnchanged, CellValue, Names, image, HasImage, IsSomeImage, most, AreDone, Key, same_key, KeyCounts, with_one, bag_of, count, held_rows, span_rows, Adds, added, Counted, AddsRows}
use Rattle.std.proofs.Common.{get_or}
use Rattle.std.specs.List.{All, sum_by}
use Rattle.std.proofs.lemmas.List.{take_more, take_all}
use Rattle.std.proofs.lemmas.List.Elements.{All-from_recursion, recursion_from_All}
use Rattle.std.proofs.lemmas.List.Sums.{sum_by-cons}
use Rattle.std.proofs.lemmas.List.Sorted.{sum_by-IsPermutation, All-permutation}
use Rattle.binlog.specs.Filter.{admits}
use Rattle.gather.specs.Transaction.{ChangeValue, insert}
use Rattle.store.specs.Rows.{key_of}
use Rattle.store.specs.Inside.{Raises}
use Rattle.store.specs.AnyOrder.{AddsRow, AreInserts, images_in, keys_in}
use Rattle.store.specs.declared.inserts.SortedInserts.{SortedInserts}
use Rattle.store.proofs.BetweenCalls.{goes_since}
use Rattle.store.proofs.Bags.{own_key, is_added, goes_after}

-- ---- how often a key is among them

abbrev one_if : Key → Key → ℕ
one_if k x = cond (same_key x k) 1 0

abbrev times : Key → List Key → ℕ
times k keys = sum_by (one_if k) keys

same_is : (x k : Key) → same_key x k ≡ true → x ≡ k
same_is x k same =
    let p = and_parts _ _ same in
    let q = and_parts _ _ p.1 in
    let schema_is : x.schema ≡ k.schema = (bytes_eq-Decides x.schema k.schema).0 p.0 in
    let table_is : x.table ≡ k.table = (bytes_eq-Decides x.table k.table).0 q.0 in
    let image_is : x.image ≡ k.image = (bytes_eq-Decides x.image k.image).0 q.1 in
    λ i. record { schema = schema_is i; table = table_is i; image = image_is i }

added_by : (b : Bool) (n t : ℕ) → cond b (n + 1) n + t ≡ n + (cond b 1 0 + t)
added_by true n t = omega arith
added_by false n t = omega arith

stepped : (x k : Key) (xs : List Key) (c : KeyCounts) → with_one x c k + times k xs ≡ c k + times k (x ∷ xs)
stepped x k xs c = added_by (same_key x k) (c k) (times k xs) ∙ ap (λ n. c k + n) (sym (sum_by-cons (one_if k) x xs))

-- ---- the counts afterwards

raises_are : (keys : List Key) (c d : KeyCounts) → Raises keys c d → (k : Key) → d k ≡ c k + times k keys
raises_are [] c d h k = let e : d k ≡ c k = ap (λ f. f k) h in omega (arith, e)
raises_are (x ∷ xs) c d h k = raises_are xs (with_one x c) d h.1 k ∙ stepped x k xs c

raises_fit : (keys : List Key) (c d : KeyCounts) → Raises keys c d → (k : Key) → 0 < times k keys → d k ≤ most
raises_fit [] c d h k some = absurd (omega arith)
raises_fit (x ∷ xs) c d h k some = elim (cases_Bool (same_key x k)) [
  | inl same ↦ at_first same (times k xs) refl (raises_fit xs (with_one x c) d h.1 k)
  | inr other ↦ raises_fit xs (with_one x c) d h.1 k (let e : times k (x ∷ xs) ≡ times k xs = sum_by-cons (one_if k) x xs ∙ rw other (omega arith) in omega (arith, e))
]
  where
    at_first : same_key x k ≡ true → (n : ℕ) → n ≡ times k xs → (0 < times k xs → d k ≤ most) → d k ≤ most
    at_first same zero is again =
        let room : c k < most = subst (λ q. c q < most) (same_is x k same) h.0 in
        let now : d k ≡ c k + times k (x ∷ xs) = raises_are (x ∷ xs) c d h k in
        let e : times k (x ∷ xs) ≡ 1 + times k xs = sum_by-cons (one_if k) x xs ∙ rw same refl in
        omega (arith, room, now, e, is)
    at_first same (suc n) is again = again (omega (arith, is))

raised_by : (keys : List Key) (c d : KeyCounts) → ((k : Key) → d k ≡ c k + times k keys) → ((k : Key) → 0 < times k keys → d k ≤ most) → Raises keys c d
raised_by [] c d is fits = λ i. λ k. let e : d k ≡ c k = is k ∙ omega arith in e i
raised_by (x ∷ xs) c d is fits = (
  (
      let e : times x (x ∷ xs) ≡ 1 + times x xs = sum_by-cons (one_if x) x xs ∙ rw (own_key x) refl in
      let now : d x ≡ c x + times x (x ∷ xs) = is x in
      let high : d x ≤ most = fits x (omega (arith, e)) in
      omega (arith, e, now, high)
      ),
  raised_by xs (with_one x c) d (λ k. is k ∙ sym (stepped x k xs c)) (λ k some. fits k (let e = sum_by-cons (one_if k) x xs in omega (arith, e))),
)

-- The keys may come in any order.
raises_same : (xs ys : List Key) (c d : KeyCounts) → IsPermutation xs ys → Raises ys c d → Raises xs c d
raises_same xs ys c d same h =
    let times_are : (k : Key) → times k ys ≡ times k xs = λ k. sum_by-IsPermutation (one_if k) xs ys same in
    raised_by xs c d (λ k. raises_are ys c d h k ∙ ap (λ n. c k + n) (times_are k)) (λ k some. raises_fit ys c d h k (omega (arith, times_are k)))

-- ---- from keys to rows

module _ (names : Names) (schema table : List ℕ) (admitted : admits names schema table ≡ true) where
  all_added : (rows : List (List CellValue)) → AllByRecursion HasImage rows → (c d : KeyCounts) → Raises (map (λ bytes. key_of schema table bytes) (map image rows)) c d
      → AreDone names (map (λ cells. insert schema table cells) rows) (bag_of c) (bag_of d)
  all_added [] stored c d h = ap bag_of h
  all_added (cells ∷ rows) stored c d h = (
    bag_of (with_one (key_of schema table (image cells)) c),
    rw admitted (is_added schema table cells (image cells) (record { has_image = stored.0; bytes_are = refl }) c (with_one (key_of schema table (image cells)) c) h.0 refl),
    all_added rows stored.1 (with_one (key_of schema table (image cells)) c) d h.1,
  )

-- ---- the rows of changes

pub row_more : (schema table : List ℕ) (changes left rest : List ChangeValue) (images : List (List ℕ)) (change : ChangeValue) (bytes : List ℕ) → AddsRows schema table changes left images → left ≡ change ∷ rest → AddsRow schema table bytes change
    → AddsRows schema table changes rest (images ++ bytes ∷ [])
row_more schema table changes left rest images change bytes so steps row =
    let f = λ (cells : List CellValue). insert schema table cells in
    record {
      rows = so.rows ++ row.cells ∷ [];
      changes_are = so.changes_are ∙ ap (λ cs. map f so.rows ++ cs) (steps ∙ ap (λ c. c ∷ rest) row.change_is) ∙ sym (ap (λ cs. cs ++ rest) (map-append f so.rows (row.cells ∷ [])) ∙ append_assoc (map f so.rows) (f row.cells ∷ []) rest);
      stored = stored_more so.rows so.stored;
      images_are = ap (λ bs. bs ++ bytes ∷ []) so.images_are ∙ ap (λ b. map image so.rows ++ b ∷ []) row.is_image.bytes_are ∙ sym (map-append image so.rows (row.cells ∷ []));
    }
  where
    stored_more : (rows : List (List CellValue)) → AllByRecursion HasImage rows → AllByRecursion HasImage (rows ++ row.cells ∷ [])
    stored_more [] h = (row.is_image.has_image, tt)
    stored_more (r ∷ rows) h = (h.0, stored_more rows h.1)

-- ---- keys in turn

raises_then : (keys : List Key) (key : Key) (c m d : KeyCounts) → Raises keys c m → m key < most → d ≡ with_one key m → Raises (keys ++ key ∷ []) c d
raises_then [] key c m d all room one = (subst (λ b. b key < most) all room, one ∙ ap (with_one key) all)
raises_then (k ∷ keys) key c m d all room one = (all.0, raises_then keys key (with_one k c) m d all.1 room one)

module _ {X : Type 0} (f : X → Key) (xs : List X) (i : ℕ) (d : X) (within : i < length xs) (old mid new : State) where
  abbrev x : X
  x = get_or xs i d

  -- one more row was added
  pub raises_more : Adds (map f (take i xs)) old mid → Counted mid new (added (f x) (count (held_rows mid.now))) None → Adds (map f (take (i + 1) xs)) old new
  raises_more way h = elim (cases_Bool (nat_lt (count (held_rows mid.now) (f x)) most)) [
    | inl low ↦ room (ltb-true _ most low) (rw low at h)
    | inr high ↦ absurd (rw high at h)
  ]
    where
      keys : map f (take (i + 1) xs) ≡ map f (take i xs) ++ f x ∷ []
      keys = ap (map f) (take_more xs i d within) ∙ map-append f (take i xs) (x ∷ [])

      room : count (held_rows mid.now) (f x) < most → Counted mid new (Ok (with_one (f x) (count (held_rows mid.now)))) None → Adds (map f (take (i + 1) xs)) old new
      room low one = (
        goes_after old mid new way.0 (record { on = one.on; spans = one.spans }),
        rw keys (raises_then (map f (take i xs)) (f x) (count (held_rows old.now)) (count (held_rows mid.now)) (count (held_rows new.now)) way.1 low one.counts_are),
      )

pub raises_all : {X : Type 0} (f : X → Key) (xs : List X) (i : ℕ) (c d : KeyCounts) → length xs ≤ i → Raises (map f (take i xs)) c d → Raises (map f xs) c d
raises_all f xs i c d end h = subst (λ ys. Raises (map f ys) c d) (take_all i xs end) h

map_twice : {X Y Z : Type 0} (f : Y → Z) (h : X → Y) (xs : List X) → map f (map h xs) ≡ map (λ x. f (h x)) xs
map_twice f h [] = refl
map_twice f h (x ∷ xs) = ap (λ ys. f (h x) ∷ ys) (map_twice f h xs)

-- more rows were added
raises_both : (keys more : List Key) (c m d : KeyCounts) → Raises keys c m → Raises more m d → Raises (keys ++ more) c d
raises_both [] more c m d one two = subst (λ b. Raises more b d) one two
raises_both (key ∷ keys) more c m d one two = (one.0, raises_both keys more (with_one key c) m d one.1 two)

pub adds_both : {X : Type 0} (f : X → Key) (xs ys : List X) (old mid new : State) → Adds (map f xs) old mid → Adds (map f ys) mid new → Adds (map f (xs ++ ys)) old new
adds_both f xs ys old mid new one two = (
  goes_after old mid new one.0 two.0,
  rw (map-append f xs ys) (raises_both (map f xs) (map f ys) (count (held_rows old.now)) (count (held_rows mid.now)) (count (held_rows new.now)) one.1 two.1),
)

-- or nothing was before
adds_since : (keys : List Key) (old mid new : State) → IsUnchanged old mid → Adds keys mid new → Adds keys old new
adds_since keys old mid new same next = (
  record { on = goes_since old mid new same next.0.on; spans = next.0.spans ∙ ap span_rows same.0.now_is },
  subst (λ (d : Database). Raises keys (count (held_rows d)) (count (held_rows new.now))) same.0.now_is next.1,
)

-- and then the others
pub adds_rest : {X E : Type 0} (f : X → Key) (all front rest : List X) (old mid two new : State) (r : Result Bool E) → all ≡ front ++ rest → Adds (map f front) old mid → IsUnchanged mid two
    → IfOk r (λ done. IsTrue done → Adds (map f rest) two new) → IfOk r (λ done. IsTrue done → Adds (map f all) old new)
adds_rest f all front rest old mid two new (Ok done) is one same h = λ so. subst (λ xs. Adds (map f xs) old new) (sym is) (adds_both f front rest old mid new one (adds_since (map f rest) mid two new same (h so)))
adds_rest f all front rest old mid two new (Err e) is one same h = h

-- a part of the images
pub part_stored : (P : Bor (List ℕ) → Type 0) (all front part rest : List (Bor (List ℕ))) → all ≡ front ++ (part ++ rest) → All P all → All P part
part_stored P all front part rest is h = All-from_recursion P part (go front part (recursion_from_All P (front ++ (part ++ rest)) (subst (All P) is h)))
  where
    go : (front part : List (Bor (List ℕ))) → AllByRecursion P (front ++ (part ++ rest)) → AllByRecursion P part
    go [] [] h = tt
    go [] (x ∷ part) h = (h.0, go [] part h.1)
    go (x ∷ front) part h = go front part h.1

pub keys_stored : (schema table : List ℕ) (xs : List (Bor (List ℕ))) → All (λ r. IsSomeImage r.now) xs → AllByRecursion (λ key. IsSomeImage key.image) (map (λ r. key_of schema table r.now) xs)
keys_stored schema table xs stored = go xs (recursion_from_All _ xs stored)
  where
    go : (xs : List (Bor (List ℕ))) → AllByRecursion (λ r. IsSomeImage r.now) xs → AllByRecursion (λ key. IsSomeImage key.image) (map (λ r. key_of schema table r.now) xs)
    go [] h = tt
    go (x ∷ xs) h = (h.0, go xs h.1)

-- ---- sorted rows

images_stored : (rows : List (List CellValue)) → AllByRecursion HasImage rows → AllByRecursion IsSomeImage (map image rows)
images_stored [] h = tt
images_stored (cells ∷ rows) h = (record { cells = cells; is_image = record { has_image = h.0; bytes_are = refl } }, images_stored rows h.1)

all_mapped : {X Y : Type 0} (P : Y → Type 0) (f : X → Y) (xs : List X) → AllByRecursion P (map f xs) → AllByRecursion (λ x. P (f x)) xs
all_mapped P f [] h = tt
all_mapped P f (x ∷ xs) h = (h.0, all_mapped P f xs h.1)

module _ (names : Names) (changes : List ChangeValue) (sorted : SortedInserts) (are : AreInserts names changes sorted) where
  abbrev schema : List ℕ
  schema = sorted.schema.now

  abbrev table : List ℕ
  table = sorted.table.now

  pub some_images : All (λ r. IsSomeImage r.now) sorted.images.items
  some_images =
      let stored : AllByRecursion IsSomeImage are.images = subst (AllByRecursion IsSomeImage) (sym are.adds.images_are) (images_stored are.adds.rows are.adds.stored) in
      All-from_recursion _ _ (all_mapped IsSomeImage (λ r. r.now) sorted.images.items (recursion_from_All IsSomeImage (images_in sorted) (All-permutation IsSomeImage are.images (images_in sorted) are.same (All-from_recursion IsSomeImage are.images stored))))

  pub inserts_done : (c d : KeyCounts) → Raises (keys_in sorted) c d → AreDone names changes (bag_of c) (bag_of d)
  inserts_done c d h =
      let key = λ (bytes : List ℕ). key_of schema table bytes in
      let then : Raises (map key (images_in sorted)) c d = subst (λ ks. Raises ks c d) (sym (map_twice key (λ r. r.now) sorted.images.items)) h in
      let keys : Raises (map key are.images) c d = raises_same (map key are.images) (map key (images_in sorted)) c d (IsPermutation-map key are.images (images_in sorted) are.same) then in
      let rows : Raises (map key (map image are.adds.rows)) c d = subst (λ bs. Raises (map key bs) c d) are.adds.images_are keys in
      subst (λ cs. AreDone names cs (bag_of c) (bag_of d)) (sym (are.adds.changes_are ∙ append-nil (map (λ cells. insert schema table cells) are.adds.rows))) (all_added names schema table are.admitted are.adds.rows are.adds.stored c d rows)
