-- What a query by key shows.
use Rattle.store.proofs.Names.{◌≡◌, ◌<◌, ◌^◌, ℕ, List, [], ◌∷◌, ◌++◌, map, filter, Bool, true, false, cond, ◌&&◌, Some, refl, sym, ap, subst, ◌∙◌, flat_map, ℤ, and-true, IsPermutation, list_all, IsPermutation-map, is_eq-slice_cmp, is_eq, Value, Null, Int, Blob, Binary, Row, Compare, Eq, Term, eval_all, Trees, overlay, has_key, has_count, has_start, Key, is_blob, is_at, has_n, begins_at, shown_span}
use Rattle.std.proofs.lemmas.Bool.{lt-leb}
use Rattle.sqlite_value.specs.Order.{column, value_cmp}
use Rattle.sqlite_value.proofs.OrderLemmas.{value_cmp-Blob, value_cmp-apart}
use Rattle.sqlite_sql.specs.Ops.{binary, is_true, from_truth, unary}
use Rattle.sqlite_sql.specs.Term.{holds}
use Rattle.sqlite_sql.specs.Query.{IsAnswerAs, output, Output}
use Rattle.store.specs.Layout.{among}
use Rattle.sqlite_sql.specs.declared.ops.UnaryOp.TheVariants.{ToNumeric}

pub shown_bool : (b : Bool) → is_true (from_truth (Some b)) ≡ b
shown_bool true = refl
shown_bool false = refl

-- a comparison with a blob is one of the bytes
pub equals_blob : (v : Value) (b : List ℕ) → is_true (binary (Compare Eq Binary) v (Blob b)) ≡ is_blob b v
unfolding binary
equals_blob Null b = refl
equals_blob (Blob x) b = shown_bool (is_eq (value_cmp (Blob x) (Blob b))) ∙ ap is_eq (value_cmp-Blob x b) ∙ is_eq-slice_cmp x b
equals_blob v b = shown_bool (is_eq (value_cmp v (Blob b))) ∙ ap is_eq (value_cmp-apart v (Blob b) (λ e. cc))

-- and one with an integer is that of values
equals_int : (v : Value) (n : ℤ) → is_true (binary (Compare Eq Binary) v (Int n)) ≡ is_eq (value_cmp v (Int n))
unfolding binary
equals_int Null n = sym (ap is_eq (value_cmp-apart Null (Int n) (λ e. cc)))
equals_int v n = shown_bool (is_eq (value_cmp v (Int n)))

-- the parameters of a statement by key
abbrev pub key_params : Key → Row → Row
key_params key more = Blob key.schema ∷ Blob key.table ∷ Blob key.image ∷ more

pub key_holds : (key : Key) (more row : Row) → list_all (holds (key_params key more ∷ row ∷ [])) has_key ≡ is_at key row
key_holds key more row =
    rw (equals_blob (column row 1) key.schema, equals_blob (column row 2) key.table, equals_blob (column row 3) key.image)
    (ap (λ b. is_blob key.schema (column row 1) && (is_blob key.table (column row 2) && b)) (and-true (is_blob key.image (column row 3))))

numeric_int : (n : ℤ) → unary ToNumeric (Int n) ≡ Int n
unfolding unary
numeric_int n = refl

pub start_holds : (source : List ℕ) (n : ℤ) (more row : Row) → list_all (holds ((Blob source ∷ Int n ∷ more) ∷ row ∷ [])) has_start ≡ begins_at source n (shown_span row)
start_holds source n more row =
    rw (numeric_int n, equals_blob (column row 1) source, equals_int (column row 2) n)
    (ap (λ b. is_blob source (column row 1) && b) (and-true (is_eq (value_cmp (column row 2) (Int n)))))

-- and the count is this
pub count_holds : (key : Key) (n : ℤ) (row : Row) → list_all (holds (key_params key (Int n ∷ []) ∷ row ∷ [])) has_count ≡ has_n key n row
count_holds key n row =
    rw (numeric_int n, equals_blob (column row 1) key.schema, equals_blob (column row 2) key.table, equals_blob (column row 3) key.image, equals_int (column row 4) n)
    (ap (λ b. is_blob key.schema (column row 1) && (is_blob key.table (column row 2) && (is_blob key.image (column row 3) && b))) (and-true (is_eq (value_cmp (column row 4) (Int n))))
    ∙ grouped (is_blob key.schema (column row 1)) (is_blob key.table (column row 2)) (is_blob key.image (column row 3)) (is_eq (value_cmp (column row 4) (Int n))))
  where
    grouped : (a b c d : Bool) → (a && (b && (c && d))) ≡ ((a && (b && c)) && d)
    grouped false b c d = refl
    grouped true false c d = refl
    grouped true true c d = refl

one_more : (params r : Row) (b : Bool) (rows : List Row) → cond b ((params ∷ r ∷ []) ∷ []) [] ++ map (λ r. params ∷ r ∷ []) rows ≡ map (λ r. params ∷ r ∷ []) (cond b (r ∷ rows) rows)
one_more params r true rows = refl
one_more params r false rows = refl

pub map_twice : {A B C : Type 0} (f : A → B) (g : B → C) (xs : List A) → map g (map f xs) ≡ map (λ x. g (f x)) xs
map_twice f g [] = refl
map_twice f g (x ∷ xs) = ap (λ l. g (f x) ∷ l) (map_twice f g xs)

-- the tests of a query say this of a row
module _ (tests : List Term) (params : Row) (p : Row → Bool) (says : (row : Row) → list_all (holds (params ∷ row ∷ [])) tests ≡ p row) where
  matched : (rows : List Row) → flat_map (λ r. cond (list_all (holds (params ∷ r ∷ [])) tests) ((params ∷ r ∷ []) ∷ []) []) rows ≡ map (λ r. params ∷ r ∷ []) (filter p rows)
  matched [] = refl
  matched (r ∷ rows) = rw (says, matched rows) (one_more params r (p r) (filter p rows))

  -- an answer is what each row that passes shows, in some order
  pub answers : (tree : ℕ) (shown : List Term) (db : Trees) (lost : Value) (rows source : List Row) → db tree ≡ source → IsAnswerAs lost (among tree tests shown) db params rows
      → IsPermutation (map (λ r. eval_all shown (params ∷ r ∷ [])) (filter p source)) rows
  answers tree shown db lost rows source is a =
      let q = among tree tests shown in
      let found = filter p source in
      let staged : a.staged ≡ map (λ r. params ∷ r ∷ []) found = a.grouped ∙ matched (db tree) ∙ ap (λ l. map (λ r. params ∷ r ∷ []) (filter p l)) is in
      let kept : a.kept ≡ map (output q) (map (λ r. params ∷ r ∷ []) found) = a.distinct ∙ ap (map (output q)) staged in
      let same : IsPermutation (map (λ (o : Output). o.1) a.kept) (map (λ (o : Output). o.1) a.ordered) = IsPermutation-map (λ (o : Output). o.1) a.kept a.ordered a.same in
      let first : map (λ (o : Output). o.1) a.kept ≡ map (λ r. eval_all shown (params ∷ r ∷ [])) found =
      ap (map (λ (o : Output). o.1)) kept ∙ map_twice (output q) (λ (o : Output). o.1) _ ∙ map_twice _ _ found in
      subst (IsPermutation (map (λ r. eval_all shown (params ∷ r ∷ [])) found)) (sym a.shown) (subst (λ l. IsPermutation l (map (λ (o : Output). o.1) a.ordered)) first same)

-- A tree of the file is not that of a list that a query makes.
pub stored_read : (db : Trees) (tree : ℕ) → tree < 2 ^ 31 → overlay db [] tree ≡ db tree
stored_read db tree stored = rw (lt-leb (2 ^ 31) tree stored) refl
