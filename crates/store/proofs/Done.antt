-- What each call on one row of held does, where it succeeds.
use Rattle.store.proofs.Names.{Bor, ◌≡◌, ◌≢◌, ◌+◌, ◌≤◌, ℕ, ℤ, pos, List, [], ◌∷◌, map, filter, Some, None, true, false, Ok, Err, Result, Bool, IfOk, OnOk, refl, sym, ap, subst, nat_lt, ◌∙◌, Option, length, arith, IsPermutation, IsPermutation-sym, Int, Row, Error, State, ExecutesInside, IsUnchanged, one_permutation, IsLaidOut, read_text, insert_text, insert_eight_text, update_text, delete_text, most, Key, Finds, is_at, has_n, held_rows, count, with_one, without_one, IsWorking, HasCounts}
use Rattle.std.proofs.Common.{IsOk, slice_index_or}
use Rattle.std.proofs.lemmas.List.Sorted.{length_permutation}
use Rattle.sqlite_value.specs.Order.{column}
use Rattle.sqlite.specs.declared.error.Error.TheVariants.{SqliteFailure}
use Rattle.sqlite.specs.declared.error.ErrorCode.TheVariants.{ConstraintViolation}
use Rattle.sqlite_schema.specs.declared.schema.Constraint.TheVariants.{Unique}
use Rattle.sqlite_trees.specs.declared.error.StoreError.{StoreError}
use Rattle.sqlite_trees.specs.declared.error.StoreError.TheVariants.{OutOfMemory}
use Rattle.sqlite.specs.State.{Shown, store_error}
use Rattle.store.specs.Rows.{key_of, IsCount}
use Rattle.store.specs.Inside.{Inserts, Deletes}
use Rattle.store.proofs.Selects.{key_params}
use Rattle.store.proofs.Keeps.{refused_same}
use Rattle.store.proofs.Statements.{eight_params, inserts, inserts_eight, deletes, updates, shown_reads, shown_same}
use Rattle.store.proofs.Effects.{holds_inserted, deleted, holds_raised, holds_lowered}

-- what holds of any answer
pub on_ok : {T E P : Type 0} (r : Result T E) → P → OnOk r P
on_ok (Ok x) p = p
on_ok (Err e) p = tt

-- the answer where the key is taken
abbrev pub taken : Error
taken = SqliteFailure (ConstraintViolation Unique)

pub no_fault : (cause : StoreError) → taken ≢ store_error cause
no_fault OutOfMemory e = absurd (cc)
no_fault _ e = absurd (cc)

-- what came of an INSERT of these rows
pub done_inserted : (text : List ℕ) (params : Row) (keys : List Key) (old new : State) (outcome : Result ℕ Error) (r : Result Bool Error) → (r ≡ Ok true → IsOk outcome) → (r ≡ Ok false → outcome ≡ Err taken)
    → ((n : ℕ) → ExecutesInside 0 text params old new (Ok n) → Inserts keys old new true) → ExecutesInside 0 text params old new outcome → IfOk r (Inserts keys old new)
done_inserted text params keys old new (Ok n) (Ok true) ok off done h = done n h
done_inserted text params keys old new (Err e) (Ok true) ok off done h = absurd (let e = ok refl in cc)
done_inserted text params keys old new outcome (Ok false) ok off done h = refused_same text old new taken no_fault params (subst (ExecutesInside 0 text params old new) (off refl) h)
done_inserted text params keys old new outcome (Err e) ok off done h = tt

pub done_eight : (old new : State) (was : IsWorking old) (s t b c d e f g i j : List ℕ) (n : ℕ) → ExecutesInside 0 insert_eight_text (eight_params s t (b ∷ c ∷ d ∷ e ∷ f ∷ g ∷ i ∷ j ∷ [])) old new (Ok n)
    → Inserts (map (key_of s t) (b ∷ c ∷ d ∷ e ∷ f ∷ g ∷ i ∷ j ∷ [])) old new true
done_eight old new was s t b c d e f g i j n h stored =
    holds_inserted old new was (map (key_of s t) (b ∷ c ∷ d ∷ e ∷ f ∷ g ∷ i ∷ j ∷ [])) stored (inserts_eight old.now.schema was.laid_out old new refl s t b c d e f g i j n h.0)

-- of the eight rows of a slice
abbrev slice_params : List ℕ → List ℕ → List (Bor (List ℕ)) → Bor (List ℕ) → Row
slice_params s t xs d =
    eight_params s t ((slice_index_or xs 0 d).now ∷ (slice_index_or xs 1 d).now ∷ (slice_index_or xs 2 d).now ∷ (slice_index_or xs 3 d).now ∷ (slice_index_or xs 4 d).now ∷ (slice_index_or xs 5 d).now ∷ (slice_index_or xs 6 d).now ∷ (slice_index_or xs 7 d).now ∷ [])

of_slice : (old new : State) (was : IsWorking old) (s t : List ℕ) (xs : List (Bor (List ℕ))) (d : Bor (List ℕ)) → length xs ≡ 8 → (n : ℕ) → ExecutesInside 0 insert_eight_text (slice_params s t xs d) old new (Ok n)
    → Inserts (map (λ r. key_of s t r.now) xs) old new true
of_slice old new was s t (a ∷ b ∷ c ∷ e ∷ f ∷ g ∷ i ∷ j ∷ []) d eight n h = done_eight old new was s t a.now b.now c.now e.now f.now g.now i.now j.now n h
of_slice old new was s t ([]) d eight n h = absurd (omega (arith, eight))
of_slice old new was s t (a ∷ []) d eight n h = absurd (omega (arith, eight))
of_slice old new was s t (a ∷ b ∷ []) d eight n h = absurd (omega (arith, eight))
of_slice old new was s t (a ∷ b ∷ c ∷ []) d eight n h = absurd (omega (arith, eight))
of_slice old new was s t (a ∷ b ∷ c ∷ e ∷ []) d eight n h = absurd (omega (arith, eight))
of_slice old new was s t (a ∷ b ∷ c ∷ e ∷ f ∷ []) d eight n h = absurd (omega (arith, eight))
of_slice old new was s t (a ∷ b ∷ c ∷ e ∷ f ∷ g ∷ []) d eight n h = absurd (omega (arith, eight))
of_slice old new was s t (a ∷ b ∷ c ∷ e ∷ f ∷ g ∷ i ∷ []) d eight n h = absurd (omega (arith, eight))
of_slice old new was s t (a ∷ b ∷ c ∷ e ∷ f ∷ g ∷ i ∷ j ∷ k ∷ more) d eight n h = absurd (omega (arith, eight))

pub done_slice : (old new : State) (was : IsWorking old) (s t : List ℕ) (xs : List (Bor (List ℕ))) (d : Bor (List ℕ)) → length xs ≡ 8 → (outcome : Result ℕ Error) (r : Result Bool Error) → (r ≡ Ok true → IsOk outcome) → (r ≡ Ok false → outcome ≡ Err taken)
    → ExecutesInside 0 insert_eight_text (slice_params s t xs d) old new outcome → IfOk r (Inserts (map (λ r. key_of s t r.now) xs) old new)
done_slice old new was s t xs d eight outcome r ok off h = done_inserted insert_eight_text (slice_params s t xs d) (map (λ r. key_of s t r.now) xs) old new outcome r ok off (of_slice old new was s t xs d eight) h

module _ (old new : State) (key : Key) (was : IsWorking old) where
  abbrev l : IsLaidOut old.now.schema
  l = was.laid_out

  pub done_read : {X : Type 0} (items : X → List Row) (r : Result X Error) → IfOk r (λ x. Shown read_text (key_params key []) old new (items x))
      → IfOk r (λ x. IsPermutation (map (λ r. column r 4 ∷ []) (filter (is_at key) (held_rows old.now))) (items x))
  done_read items r h = shown_reads old.now.schema l items r old new key refl h

  pub done_same : {X : Type 0} (items : X → List Row) (r : Result X Error) → IfOk r (λ x. Shown read_text (key_params key []) old new (items x)) → OnOk r (IsUnchanged old new)
  done_same items r h = shown_same old.now.schema l items r old new key refl h

  pub done_insert : (n : ℕ) → ExecutesInside 0 insert_text (key_params key []) old new (Ok n) → Inserts (key ∷ []) old new true
  done_insert n h stored = holds_inserted old new was (key ∷ []) stored (inserts old.now.schema l old new refl key n h.0)

  pub done_delete : (n : ℕ) → ExecutesInside 0 delete_text (key_params key (Int (pos 1) ∷ [])) old new (Ok n) → Deletes key old new (nat_lt 0 n)
  done_delete n h =
      let it = deletes old.now.schema l old new refl l.held_free key (pos 1) n h.0 in
      subst (λ m. Deletes key old new (nat_lt 0 m)) (sym it.3) (deleted old new was key it.0 it.1 it.2 (filter (has_n key (pos 1)) (held_rows old.now)) refl)

  pub done_raise : (m : ℕ) (to : ℤ) (r : Result ℕ Error) → m + 1 ≤ most → Finds key (held_rows old.now) (Some m) → to ≡ pos (m + 1)
      → ExecutesInside 0 update_text (key_params key (Int to ∷ [])) old new r → OnOk r (HasCounts old new (with_one key (count (held_rows old.now))))
  done_raise m to (Ok n) high found is h =
      let it = updates old.now.schema l old new refl l.held_free key (pos (m + 1)) n (subst (λ z. ExecutesInside 0 update_text (key_params key (Int z ∷ [])) old new (Ok n)) is h).0 in
      holds_raised old new was key found.0 found.1 m it.0 high it.1 found.2 it.2
  done_raise m to (Err e) high found is h = tt

  pub done_lower : (m : ℕ) (to : ℤ) (r : Result ℕ Error) → 1 ≤ m → m ≤ most → Finds key (held_rows old.now) (Some (m + 1)) → to ≡ pos m
      → ExecutesInside 0 update_text (key_params key (Int to ∷ [])) old new r → OnOk r (HasCounts old new (without_one key (count (held_rows old.now))))
  done_lower m to (Ok n) low high found is h =
      let it = updates old.now.schema l old new refl l.held_free key (pos m) n (subst (λ z. ExecutesInside 0 update_text (key_params key (Int z ∷ [])) old new (Ok n)) is h).0 in
      holds_lowered old new was key found.0 found.1 m it.0 low high it.1 found.2 it.2
  done_lower m to (Err e) low high found is h = tt

-- the one row of an answer is that of the one row with the key
pub found_one : (key : Key) (rows answer : List Row) (found : Option ℕ) → IsPermutation (map (λ r. column r 4 ∷ []) (filter (is_at key) rows)) answer → IsCount answer found → Finds key rows found
found_one key rows answer None same none = none_mapped (filter (is_at key) rows) (omega (arith, length_permutation _ answer same, ap length none))
  where
    none_mapped : (xs : List Row) → length (map (λ r. column r 4 ∷ []) xs) ≡ 0 → xs ≡ []
    none_mapped [] h = refl
    none_mapped (x ∷ xs) h = absurd (omega arith)
found_one key rows answer (Some n) same one =
    one_mapped (filter (is_at key) rows) (one_permutation one.0 _ (IsPermutation-sym _ _ (subst (IsPermutation (map (λ r. column r 4 ∷ []) (filter (is_at key) rows))) one.1 same)))
  where
    one_mapped : (xs : List Row) → map (λ r. column r 4 ∷ []) xs ≡ one.0 ∷ [] → (row : Row) × (xs ≡ row ∷ []) × (column row 4 ≡ Int (pos n))
    one_mapped [] h = absurd (cc)
    one_mapped (x ∷ []) h = (x, refl, ap (λ (l : List Row). column (slice_index_or l 0 []) 0) h ∙ one.2)
    one_mapped (x ∷ y ∷ xs) h = absurd (cc)

pub found_any : (key : Key) (rows answer : List Row) (r : Result (Option ℕ) Error) → IsPermutation (map (λ r. column r 4 ∷ []) (filter (is_at key) rows)) answer → IfOk r (IsCount answer) → IfOk r (Finds key rows)
found_any key rows answer (Ok found) same is = found_one key rows answer found same is
found_any key rows answer (Err e) same is = tt
