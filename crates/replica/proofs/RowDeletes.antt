-- Deletes of all rows of a table, over the list of the rows.
use Rattle.replica.proofs.Names.{◌≡◌, ◌≢◌, ◌⊎◌, inl, inr, ℕ, zero, suc, ◌+◌, ◌≤◌, arith, Bool, true, false, List, [], ◌∷◌, ◌++◌, length, Option, Some, refl, sym, ap, ap₂, subst, ◌∙◌, replicate, if◌then◌else◌, AllByRecursion, cases_Bool, false≢true, length-append, bytes_eq-Decides, MatchBool, CellValue, Names, admits, ChangeValue, TableRow, row_of, Bag, most, IsMade, IsRemoved, IsRefused, is_admitted, AreDone, IsRefusedAt, Entry}
use Rattle.std.specs.Prelude.{flat_map, slice_get}
use Rattle.std.specs.Option.{unwrap_or}
use Rattle.std.specs.List.Sorted.{IsStrictlySortedBy}
use Rattle.std.specs.declared.cmp.Ordering.TheVariants.{Less, Equal}
use Rattle.std.proofs.lemmas.Bool.{and_parts, and_from, MatchBool-at_true}
use Rattle.std.proofs.lemmas.Cmp.{tied_itself}
use Rattle.std.proofs.lemmas.List.{length-replicate}
use Rattle.std.proofs.lemmas.Grind.{flat_map-append}
use Rattle.std.proofs.lemmas.Option.{slice_get_within}
use Rattle.gather.specs.Transaction.{delete}
use Rattle.store.specs.declared.row_change.Refusal.{Refusal}
use Rattle.store.specs.Changes.{IsMissing}
use Rattle.store.specs.Rows.{key_for}
use Rattle.store.specs.Listing.{row_cmp, entry_rows, ListsBag}
use Rattle.store.proofs.KeyOrder.{key_total}
use Rattle.replica.specs.Clear.{is_in_table, rows_in_table}
use Rattle.replica.specs.Clearing.{deletes_of}

none_or_some : (n : ℕ) → (n ≡ 0) ⊎ (1 ≤ n)
none_or_some zero = inl refl
none_or_some (suc n) = inr (omega arith)

some_injective : {A : Type 0} {a b : A} → Some a ≡ Some b → a ≡ b
some_injective {A} {a} same = ap (λ (o : Option A). unwrap_or o a) same

not_below : (r s : TableRow) → row_cmp r s ≡ Less → r ≢ s
not_below r s less same =
    let tied : row_cmp r s ≡ Equal = subst (λ (t : TableRow). row_cmp r t ≡ Equal) same (tied_itself key_total (key_for r)) in
    absurd (Prim.cc)

-- ---- Deletes of one row.

-- what is done in two parts
done_parts : (names : Names) (xs ys : List ChangeValue) (old new : Bag) → AreDone names (xs ++ ys) old new → (mid : Bag) × AreDone names xs old mid × AreDone names ys mid new
done_parts names [] ys old new done = (old, refl, done)
done_parts names (x ∷ xs) ys old new done =
    let rest = done_parts names xs ys done.0 new done.2 in
    (rest.0, (done.0, done.1, rest.1), rest.2)

-- the row of another entry
apart_from : (bag : Bag) (r s : TableRow) → bag r ≡ 0 → 1 ≤ bag s → r ≢ s
apart_from bag r s none some same = absurd (omega (arith, none, some, ap bag same))

module _ (names : Names) (schema table : List ℕ) (followed : admits names schema table ≡ true) where
  copies_gone : (n : ℕ) (cells : List CellValue) (old new : Bag) → AreDone names (replicate n (delete schema table cells)) old new → old (row_of schema table cells) ≡ new (row_of schema table cells) + n
  copies_gone zero cells old new done = omega (arith, ap (λ (b : Bag). b (row_of schema table cells)) done)
  copies_gone (suc n) cells old new done =
      let one : IsRemoved (row_of schema table cells) old done.0 = MatchBool-at_true _ _ followed done.1 in
      omega (arith, one.one_less, copies_gone n cells done.0 new done.2)

  copies_beside : (n : ℕ) (cells : List CellValue) (old new : Bag) (r : TableRow) → r ≢ row_of schema table cells → AreDone names (replicate n (delete schema table cells)) old new → new r ≡ old r
  copies_beside zero cells old new r other done = ap (λ (b : Bag). b r) done
  copies_beside (suc n) cells old new r other done =
      let one : IsRemoved (row_of schema table cells) old done.0 = MatchBool-at_true _ _ followed done.1 in
      copies_beside n cells done.0 new r other done.2 ∙ one.others r other

  -- a delete is not refused while a copy is there
  copies_made : (n : ℕ) (cells : List CellValue) (others : List ChangeValue) (old : Bag) (at : ℕ) (why : Refusal) → n ≤ old (row_of schema table cells) → IsRefusedAt names (replicate n (delete schema table cells) ++ others) old at why
      → (mid : Bag) × (later : ℕ) × AreDone names (replicate n (delete schema table cells)) old mid × IsRefusedAt names others mid later why
  copies_made zero cells others old at why some it = (old, at, refl, it)
  copies_made (suc n) cells others old zero why some it =
      let same : delete schema table cells ≡ it.change = some_injective it.there in
      let missing : IsMissing (row_of schema table cells) it.mid why = subst (λ c. IsRefused c it.mid why) (sym same) it.refused in
      absurd (omega (arith, some, missing.0, ap (λ (b : Bag). b (row_of schema table cells)) it.before))
  copies_made (suc n) cells others old (suc at) why some it =
      let before = it.before in
      let one : IsRemoved (row_of schema table cells) old before.0 = MatchBool-at_true _ _ followed before.1 in
      let rest = copies_made n cells others before.0 at why (omega (arith, one.one_less, some)) (record { change = it.change; mid = it.mid; there = it.there; before = before.2; admitted = it.admitted; refused = it.refused }) in
      (rest.0, rest.1, (before.0, before.1, rest.2), rest.3)

  -- ---- Deletes of the rows of an entry.

  -- a row of the table, by its cells
  in_table : (r : TableRow) → is_in_table schema table r ≡ true → r ≡ row_of schema table r.cells
  in_table r is =
      let p = and_parts _ _ is in
      let schema_is : r.schema ≡ schema = (bytes_eq-Decides r.schema schema).0 p.0 in
      let table_is : r.table ≡ table = (bytes_eq-Decides r.table table).0 p.1 in
      λ i. record { schema = schema_is i; table = table_is i; cells = r.cells }

  itself : (cells : List CellValue) → is_in_table schema table (row_of schema table cells) ≡ true
  itself cells = and_from _ _ ((bytes_eq-Decides schema schema).1 refl) ((bytes_eq-Decides table table).1 refl)

  -- the entry's row is another one, or its table
  abbrev IsBeside : TableRow → Entry → Type 0
  IsBeside r e = is_in_table schema table e.0 ≡ true → r ≢ row_of schema table e.0.cells

  beside_from : (r : TableRow) (e : Entry) → r ≢ e.0 → IsBeside r e
  beside_from r e other is same = other (same ∙ sym (in_table e.0 is))

  entry_beside : (e : Entry) (old new : Bag) (r : TableRow) → IsBeside r e → AreDone names (deletes_of schema table e) old new → new r ≡ old r
  entry_beside e old new r other done = elim (cases_Bool (is_in_table schema table e.0)) [
    | inl here ↦ copies_beside e.1 e.0.cells old new r (other here) (subst (λ (b : Bool). AreDone names (if b then replicate e.1 (delete schema table e.0.cells) else []) old new) here done)
    | inr apart ↦ ap (λ (b : Bag). b r) (subst (λ (b : Bool). AreDone names (if b then replicate e.1 (delete schema table e.0.cells) else []) old new) apart done)
  ]

  entries_beside : (es : List Entry) (old new : Bag) (r : TableRow) → AllByRecursion (IsBeside r) es → AreDone names (flat_map (deletes_of schema table) es) old new → new r ≡ old r
  entries_beside [] old new r others done = ap (λ (b : Bag). b r) done
  entries_beside (e ∷ es) old new r others done =
      let parts = done_parts names (deletes_of schema table e) (flat_map (deletes_of schema table) es) old new done in
      entries_beside es parts.0 new r others.1 parts.2 ∙ entry_beside e old parts.0 r others.0 parts.1

  -- ---- Rows of other tables.

  abbrev IsElsewhere : TableRow → Type 0
  IsElsewhere r = (r.schema ≢ schema) ⊎ (r.table ≢ table)

  elsewhere : (r : TableRow) (cells : List CellValue) → IsElsewhere r → r ≢ row_of schema table cells
  elsewhere r cells (inl other) same = other (ap (λ (t : TableRow). t.schema) same)
  elsewhere r cells (inr other) same = other (ap (λ (t : TableRow). t.table) same)

  all_beside : (r : TableRow) (es : List Entry) → IsElsewhere r → AllByRecursion (IsBeside r) es
  all_beside r [] other = tt
  all_beside r (e ∷ es) other = (λ is. elsewhere r e.0.cells other, all_beside r es other)

  pub others_stay : (es : List Entry) (old new : Bag) → AreDone names (flat_map (deletes_of schema table) es) old new → (r : TableRow) → IsElsewhere r → new r ≡ old r
  others_stay es old new done r other = entries_beside es old new r (all_beside r es other) done

  -- ---- Rows of the table.

  -- no row that is not there is an entry's
  none_listed : (bag : Bag) (r : TableRow) (es : List Entry) → bag r ≡ 0 → AllByRecursion (λ (e : Entry). (e.1 ≡ bag e.0) × (1 ≤ e.1) × (e.1 ≤ most)) es → AllByRecursion (IsBeside r) es
  none_listed bag r [] none counted = tt
  none_listed bag r (e ∷ es) none counted =
      (beside_from r e (apart_from bag r e.0 none (omega (arith, counted.0.0, counted.0.1))), none_listed bag r es none counted.1)

  -- each row is an entry's once
  later_beside : (x : Entry) (es : List Entry) → AllByRecursion (λ y. row_cmp x.0 y ≡ Less) (entry_rows es) → AllByRecursion (IsBeside x.0) es
  later_beside x [] less = tt
  later_beside x (e ∷ es) less = (beside_from x.0 e (not_below x.0 e.0 less.0), later_beside x es less.1)

  last_below : (low : TableRow) (before : List Entry) (x : Entry) (after : List Entry) → AllByRecursion (λ y. row_cmp low y ≡ Less) (entry_rows (before ++ x ∷ after)) → row_cmp low x.0 ≡ Less
  last_below low [] x after less = less.0
  last_below low (e ∷ before) x after less = last_below low before x after less.1

  once : (before : List Entry) (x : Entry) (after : List Entry) → IsStrictlySortedBy row_cmp (entry_rows (before ++ x ∷ after)) → AllByRecursion (IsBeside x.0) before × AllByRecursion (IsBeside x.0) after
  unfolding IsStrictlySortedBy
  once [] x after sorted = (tt, later_beside x after sorted.0)
  once (e ∷ before) x after sorted =
      let rest = once before x after sorted.1 in
      ((beside_from x.0 e (λ same. not_below e.0 x.0 (last_below e.0 before x after sorted.0) (sym same)), rest.0), rest.1)

  some_gone : (before : List Entry) (cells : List CellValue) (n : ℕ) (after : List Entry) (old new : Bag) → n ≡ old (row_of schema table cells) → IsStrictlySortedBy row_cmp (entry_rows (before ++ (row_of schema table cells, n) ∷ after))
      → AreDone names (flat_map (deletes_of schema table) (before ++ (row_of schema table cells, n) ∷ after)) old new → new (row_of schema table cells) ≡ 0
  some_gone before cells n after old new is sorted done =
      let r = row_of schema table cells in
      let apart = once before (r, n) after sorted in
      let first = done_parts names (flat_map (deletes_of schema table) before) (flat_map (deletes_of schema table) ((r, n) ∷ after)) old new
      (subst (λ cs. AreDone names cs old new) (flat_map-append (deletes_of schema table) before ((r, n) ∷ after)) done) in
      let second = done_parts names (deletes_of schema table (r, n)) (flat_map (deletes_of schema table) after) first.0 new first.2 in
      let own : AreDone names (replicate n (delete schema table cells)) first.0 second.0 = subst (λ (b : Bool). AreDone names (if b then replicate n (delete schema table cells) else []) first.0 second.0) (itself cells) second.1 in
      omega (arith, is, entries_beside before old first.0 r apart.0 first.1, copies_gone n cells first.0 second.0 own, entries_beside after second.0 new r apart.1 second.2)

  pub all_gone : (bag new : Bag) (es : List Entry) → ListsBag bag es → AreDone names (flat_map (deletes_of schema table) es) bag new → (cells : List CellValue) → new (row_of schema table cells) ≡ 0
  all_gone bag new es lists done cells =
      let r = row_of schema table cells in
      elim (none_or_some (bag r)) [
        | inl none ↦ entries_beside es bag new r (none_listed bag r es none lists.counted) done ∙ none
        | inr some ↦
            let l = lists.all r some in
            some_gone l.0 cells (bag r) l.1 bag new refl (subst (λ (xs : List Entry). IsStrictlySortedBy row_cmp (entry_rows xs)) l.2 lists.ascend) (subst (λ (xs : List Entry). AreDone names (flat_map (deletes_of schema table) xs) bag new) l.2 done)
      ]

  -- ---- None is refused.

  -- as many of each row as its entry says, or more
  abbrev AreThere : Bag → List Entry → Type 0
  AreThere bag es = AllByRecursion (λ (e : Entry). e.1 ≤ bag e.0) es

  are_there : (bag : Bag) (es : List Entry) → AllByRecursion (λ (e : Entry). (e.1 ≡ bag e.0) × (1 ≤ e.1) × (e.1 ≤ most)) es → AreThere bag es
  are_there bag [] counted = tt
  are_there bag (e ∷ es) counted = (omega (arith, counted.0.0), are_there bag es counted.1)

  still_there : (x : Entry) (es : List Entry) (old new : Bag) → is_in_table schema table x.0 ≡ true → AllByRecursion (λ y. row_cmp x.0 y ≡ Less) (entry_rows es) → AreDone names (replicate x.1 (delete schema table x.0.cells)) old new → AreThere old es → AreThere new es
  still_there x [] old new is less done there = tt
  still_there x (e ∷ es) old new is less done there =
      let same : new e.0 ≡ old e.0 = copies_beside x.1 x.0.cells old new e.0 (λ here. not_below x.0 e.0 less.0 (in_table x.0 is ∙ sym here)) done in
      (omega (arith, same, there.0), still_there x es old new is less.1 done there.1)

  none_refused_of : (es : List Entry) (old : Bag) (at : ℕ) (why : Refusal) → IsStrictlySortedBy row_cmp (entry_rows es) → AreThere old es → IsRefusedAt names (flat_map (deletes_of schema table) es) old at why → ⊥
  unfolding IsStrictlySortedBy
  none_refused_of [] old at why sorted there it = absurd (omega (arith, slice_get_within [] at it.change it.there))
  none_refused_of (e ∷ es) old at why sorted there it = elim (cases_Bool (is_in_table schema table e.0)) [
    | inl here ↦
        let it' = subst (λ (b : Bool). IsRefusedAt names ((if b then replicate e.1 (delete schema table e.0.cells) else []) ++ flat_map (deletes_of schema table) es) old at why) here it in
        let enough : e.1 ≤ old (row_of schema table e.0.cells) = subst (λ (r : TableRow). e.1 ≤ old r) (in_table e.0 here) there.0 in
        let rest = copies_made e.1 e.0.cells (flat_map (deletes_of schema table) es) old at why enough it' in
        none_refused_of es rest.0 rest.1 why sorted.1 (still_there e es old rest.0 here sorted.0 rest.2 there.1) rest.3
    | inr apart ↦ none_refused_of es old at why sorted.1 there.1 (subst (λ (b : Bool). IsRefusedAt names ((if b then replicate e.1 (delete schema table e.0.cells) else []) ++ flat_map (deletes_of schema table) es) old at why) apart it)
  ]

  pub none_refused : (bag : Bag) (es : List Entry) (at : ℕ) (why : Refusal) → ListsBag bag es → IsRefusedAt names (flat_map (deletes_of schema table) es) bag at why → ⊥
  none_refused bag es at why lists it = none_refused_of es bag at why lists.ascend (are_there bag es lists.counted) it

-- ---- Deletes of a table whose rows are not kept.

module _ (names : Names) (schema table : List ℕ) (left_out : admits names schema table ≡ false) where
  copies_skipped : (n : ℕ) (cells : List CellValue) (old new : Bag) → AreDone names (replicate n (delete schema table cells)) old new → new ≡ old
  copies_skipped zero cells old new done = done
  copies_skipped (suc n) cells old new done =
      let first : done.0 ≡ old = subst (λ (b : Bool). MatchBool b (IsMade (delete schema table cells) old done.0) (done.0 ≡ old)) left_out done.1 in
      copies_skipped n cells done.0 new done.2 ∙ first

  entry_skipped : (e : Entry) (old new : Bag) → AreDone names (deletes_of schema table e) old new → new ≡ old
  entry_skipped e old new done = elim (cases_Bool (is_in_table schema table e.0)) [
    | inl here ↦ copies_skipped e.1 e.0.cells old new (subst (λ (b : Bool). AreDone names (if b then replicate e.1 (delete schema table e.0.cells) else []) old new) here done)
    | inr apart ↦ subst (λ (b : Bool). AreDone names (if b then replicate e.1 (delete schema table e.0.cells) else []) old new) apart done
  ]

  pub all_skipped : (es : List Entry) (old new : Bag) → AreDone names (flat_map (deletes_of schema table) es) old new → new ≡ old
  all_skipped [] old new done = done
  all_skipped (e ∷ es) old new done =
      let parts = done_parts names (deletes_of schema table e) (flat_map (deletes_of schema table) es) old new done in
      all_skipped es parts.0 new parts.2 ∙ entry_skipped e old parts.0 parts.1

  abbrev AreLeftOut : List ChangeValue → Type 0
  AreLeftOut changes = AllByRecursion (λ (c : ChangeValue). is_admitted names c ≡ false) changes

  copies_left_out : (n : ℕ) (cells : List CellValue) → AreLeftOut (replicate n (delete schema table cells))
  copies_left_out zero cells = tt
  copies_left_out (suc n) cells = (left_out, copies_left_out n cells)

  both_left_out : (xs ys : List ChangeValue) → AreLeftOut xs → AreLeftOut ys → AreLeftOut (xs ++ ys)
  both_left_out [] ys first second = second
  both_left_out (x ∷ xs) ys first second = (first.0, both_left_out xs ys first.1 second)

  entry_left_out : (e : Entry) (b : Bool) → AreLeftOut (if b then replicate e.1 (delete schema table e.0.cells) else [])
  entry_left_out e true = copies_left_out e.1 e.0.cells
  entry_left_out e false = tt

  all_left_out : (es : List Entry) → AreLeftOut (flat_map (deletes_of schema table) es)
  all_left_out [] = tt
  all_left_out (e ∷ es) = both_left_out (deletes_of schema table e) (flat_map (deletes_of schema table) es) (entry_left_out e (is_in_table schema table e.0)) (all_left_out es)

  left_out_at : (changes : List ChangeValue) (at : ℕ) (change : ChangeValue) → AreLeftOut changes → slice_get changes at ≡ Some change → is_admitted names change ≡ false
  left_out_at [] at change all there = absurd (omega (arith, slice_get_within [] at change there))
  left_out_at (c ∷ changes) zero change all there = subst (λ (x : ChangeValue). is_admitted names x ≡ false) (some_injective there) all.0
  left_out_at (c ∷ changes) (suc at) change all there = left_out_at changes at change all.1 there

  pub none_of_them_refused : (bag : Bag) (es : List Entry) (at : ℕ) (why : Refusal) → IsRefusedAt names (flat_map (deletes_of schema table) es) bag at why → ⊥
  none_of_them_refused bag es at why it =
      absurd (false≢true (sym (left_out_at (flat_map (deletes_of schema table) es) at it.change (all_left_out es) it.there) ∙ it.admitted))

-- ---- How many they are.

deletes_length : (schema table : List ℕ) (e : Entry) (b : Bool) → length (if b then replicate e.1 (delete schema table e.0.cells) else []) ≡ (if b then e.1 else 0)
deletes_length schema table e true = length-replicate e.1 (delete schema table e.0.cells)
deletes_length schema table e false = refl

pub as_many : (schema table : List ℕ) (es : List Entry) → length (flat_map (deletes_of schema table) es) ≡ rows_in_table schema table es
as_many schema table [] = refl
as_many schema table (e ∷ es) =
    length-append (deletes_of schema table e) (flat_map (deletes_of schema table) es) ∙ ap₂ (λ (a b : ℕ). a + b) (deletes_length schema table e (is_in_table schema table e.0)) (as_many schema table es)
