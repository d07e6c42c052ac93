-- Each transaction is taken, has been executed already, or is refused.
use Rattle.replica.proofs.Names.{◌≡◌, ℕ, zero, suc, ◌+◌, ◌<◌, ◌≤◌, ◌⊎◌, false, List, [], ◌∷◌, refl, sym, ap, subst, ◌∙◌, inl, inr, arith, MatchBool, cases_lt, cases_Bool, cases_eq, bytes_eq-Decides, Names, CellValue, ChangeValue, DeliveryValue, TableRow, row_of, Bag, Content, IsRemoved, IsMade, IsRefused, IsRefusedAt, AreDone, HasOutcome, done, is_admitted, is_executed, most, NoSuchRow, CountFull, IsRefusedBy}
use Rattle.std.proofs.lemmas.Bool.Decides.{not_from_Decides}
use Rattle.std.specs.Str.{bytes_eq}
use Rattle.std.specs.FinSet as set
use Rattle.binlog.specs.Cell.{null_cell, number_cell, bytes_cell}
use Rattle.gather.specs.Transaction.{insert, delete, update}
use Rattle.store.specs.Changes.{IsAdded, IsDone, repeat}
use Rattle.store.specs.declared.row_change.Refusal.TheVariants as why
use Rattle.store.specs.declared.row_change.Refusal as row
use Rattle.replica.specs.declared.session.end.Refusal.{Refusal}

-- ---- Rows are equal or not.

abbrev Tells : {A : Type 0} → A → A → Type 0
Tells a b = (a ≡ b) ⊎ (a ≡ b → ⊥)

bytes_tell : (xs ys : List ℕ) → Tells xs ys
bytes_tell xs ys = elim (cases_Bool (bytes_eq xs ys)) [
  | inl same ↦ inl ((bytes_eq-Decides xs ys).0 same)
  | inr other ↦ inr (not_from_Decides (bytes_eq xs ys) (bytes_eq-Decides xs ys) other)
]

cell_tells : (a b : CellValue) → Tells a b
cell_tells null_cell null_cell = inl refl
cell_tells null_cell (number_cell n width) = inr (λ e. cc)
cell_tells null_cell (bytes_cell bytes) = inr (λ e. cc)
cell_tells (number_cell n width) null_cell = inr (λ e. cc)
cell_tells (number_cell n width) (number_cell m other) = elim (cases_eq n m) [
  | inl e ↦ elim (cases_eq width other) [ inl f ↦ inl (λ i. number_cell (e i) (f i)) | inr differ ↦ inr (λ g. differ (let h : width ≡ other = cc in h)) ]
  | inr differ ↦ inr (λ g. differ (let h : n ≡ m = cc in h))
]
cell_tells (number_cell n width) (bytes_cell bytes) = inr (λ e. cc)
cell_tells (bytes_cell bytes) null_cell = inr (λ e. cc)
cell_tells (bytes_cell bytes) (number_cell n width) = inr (λ e. cc)
cell_tells (bytes_cell bytes) (bytes_cell others) = elim (bytes_tell bytes others) [ inl e ↦ inl (ap bytes_cell e) | inr differ ↦ inr (λ g. differ (let h : bytes ≡ others = cc in h)) ]

cells_tell : (xs ys : List CellValue) → Tells xs ys
cells_tell [] [] = inl refl
cells_tell [] (y ∷ ys) = inr (λ e. cc)
cells_tell (x ∷ xs) [] = inr (λ e. cc)
cells_tell (x ∷ xs) (y ∷ ys) = elim (cell_tells x y) [
  | inl e ↦ elim (cells_tell xs ys) [ inl f ↦ inl (λ i. e i ∷ f i) | inr differ ↦ inr (λ g. differ (let h : xs ≡ ys = cc in h)) ]
  | inr differ ↦ inr (λ g. differ (let h : x ≡ y = cc in h))
]

row_tells : (a b : TableRow) → Tells a b
row_tells a b = elim (bytes_tell a.schema b.schema) [
  | inl e ↦ elim (bytes_tell a.table b.table) [
    | inl f ↦ elim (cells_tell a.cells b.cells) [
      | inl g ↦ inl (λ i. record { schema = e i; table = f i; cells = g i })
      | inr differ ↦ inr (λ h. differ (ap (λ (r : TableRow). r.cells) h))
    ]
    | inr differ ↦ inr (λ h. differ (ap (λ (r : TableRow). r.table) h))
  ]
  | inr differ ↦ inr (λ h. differ (ap (λ (r : TableRow). r.schema) h))
]

-- ---- A bag with another count of one row.

pick : {P : Type 0} → P ⊎ (P → ⊥) → ℕ → ℕ → ℕ
pick (inl it) n m = n
pick (inr other) n m = m

pick_there : {P : Type 0} (t : P ⊎ (P → ⊥)) (n m : ℕ) → P → pick t n m ≡ n
unfolding pick
pick_there (inl it) n m p = refl
pick_there (inr other) n m p = absurd (other p)

pick_other : {P : Type 0} (t : P ⊎ (P → ⊥)) (n m : ℕ) → (P → ⊥) → pick t n m ≡ m
unfolding pick
pick_other (inl it) n m apart = absurd (apart it)
pick_other (inr other) n m apart = refl

abbrev counted_as : TableRow → ℕ → Bag → Bag
counted_as row n bag = λ r. pick (row_tells r row) n (bag r)

added : (row : TableRow) (bag : Bag) → bag row < most → IsAdded row bag (counted_as row (bag row + 1) bag)
added row bag room = record {
  room = room;
  one_more = pick_there (row_tells row row) (bag row + 1) (bag row) refl;
  others = λ r other. pick_other (row_tells r row) (bag row + 1) (bag r) other;
}

removed : (row : TableRow) (bag : Bag) (n : ℕ) → bag row ≡ n + 1 → IsRemoved row bag (counted_as row n bag)
removed row bag n is = record {
  one_less = is ∙ ap (λ k. k + 1) (sym (pick_there (row_tells row row) n (bag row) refl));
  others = λ r other. pick_other (row_tells r row) n (bag r) other;
}

-- ---- A change is made or refused.

remove : (row : TableRow) (bag : Bag) (n : ℕ) → bag row ≡ n → ((new : Bag) × IsRemoved row bag new) ⊎ (bag row ≡ 0)
remove row bag zero is = inr is
remove row bag (suc n) is = inl (counted_as row n bag, removed row bag n (is ∙ omega arith))

add : (row : TableRow) (bag : Bag) → ((new : Bag) × IsAdded row bag new) ⊎ (most ≤ bag row)
add row bag = elim (cases_lt (bag row) most) [ inl room ↦ inl (counted_as row (bag row + 1) bag, added row bag room) | inr full ↦ inr full ]

abbrev Tried : ChangeValue → Bag → Type 0
Tried change old = ((new : Bag) × IsMade change old new) ⊎ ((w : row.Refusal) × IsRefused change old w)

tried : (change : ChangeValue) (old : Bag) → Tried change old
tried (insert schema table after) old = elim (add (row_of schema table after) old) [ inl a ↦ inl (a.0, a.1) | inr full ↦ inr (why.CountFull, (full, refl)) ]
tried (delete schema table before) old = elim (remove (row_of schema table before) old (old (row_of schema table before)) refl) [ inl r ↦ inl (r.0, r.1) | inr none ↦ inr (why.NoSuchRow, (none, refl)) ]
tried (update schema table before after) old = elim (remove (row_of schema table before) old (old (row_of schema table before)) refl) [
  | inl r ↦ elim (add (row_of schema table after) r.0) [
    | inl a ↦ inl (a.0, (r.0, r.1, a.1))
    | inr full ↦ inr (why.CountFull, inr (r.0, r.1, (full, refl)))
  ]
  | inr none ↦ inr (why.NoSuchRow, inl (none, refl))
]

-- ---- All changes are done, or one is refused.

abbrev AllTried : Names → List ChangeValue → Bag → Type 0
AllTried names changes old = ((new : Bag) × AreDone names changes old new) ⊎ ((at : ℕ) × (w : row.Refusal) × IsRefusedAt names changes old at w)

-- after the first change
after_first : (names : Names) (change : ChangeValue) (changes : List ChangeValue) (old mid : Bag) → IsDone names change old mid → AllTried names changes mid → AllTried names (change ∷ changes) old
after_first names change changes old mid first (inl d) = inl (d.0, (mid, first, d.1))
after_first names change changes old mid first (inr r) =
    let x = r.2 in
    inr (suc r.0, r.1, record { change = x.change; mid = x.mid; there = x.there; before = (mid, first, x.before); admitted = x.admitted; refused = x.refused })

all_tried : (names : Names) (changes : List ChangeValue) (old : Bag) → AllTried names changes old
all_tried names [] old = inl (old, refl)
all_tried names (change ∷ changes) old = elim (cases_Bool (is_admitted names change)) [
  | inl admitted ↦ elim (tried change old) [
    | inl m ↦ after_first names change changes old m.0 (subst (λ b. MatchBool b (IsMade change old m.0) (m.0 ≡ old)) (sym admitted) m.1) (all_tried names changes m.0)
    | inr r ↦ inr (0, r.0, record { change = change; mid = old; there = refl; before = refl; admitted = admitted; refused = r.1 })
  ]
  | inr skipped ↦ after_first names change changes old old (subst (λ b. MatchBool b (IsMade change old old) (old ≡ old)) (sym skipped) refl) (all_tried names changes old)
]

-- ---- The outcome of a transaction.

pub data Applying (names : Names) (content : Content) (d : DeliveryValue) : Type 0 where
  applies : (new : Content) → HasOutcome names content d (done new) → Applying names content d
  repeats : HasOutcome names content d repeat → Applying names content d
  refuses : (refusal : Refusal) → IsRefusedBy names content d refusal → Applying names content d

by_refusal : (names : Names) (content : Content) (d : DeliveryValue) (at : ℕ) (w : row.Refusal) → is_executed content d ≡ false → IsRefusedAt names d.changes content.rows at w → Applying names content d
by_refusal names content d at why.NoSuchRow new r = refuses (NoSuchRow at) (new, r)
by_refusal names content d at why.CountFull new r = refuses (CountFull at) (new, r)

pub some_outcome : (names : Names) (content : Content) (d : DeliveryValue) → Applying names content d
some_outcome names content d = elim (cases_Bool (is_executed content d)) [
  | inl old ↦ repeats old
  | inr new ↦ elim (all_tried names d.changes content.rows) [
    | inl made ↦ applies (record { executed = set.insert content.executed (d.source, d.number); rows = made.0 }) (new, made.1, refl)
    | inr r ↦ by_refusal names content d r.0 r.1 new r.2
  ]
]
