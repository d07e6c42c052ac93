-- Transactions that are taken in order: their outcome, and which of them a set has.
use Rattle.replica.proofs.Names.{◌≡◌, ◌≢◌, ℕ, zero, suc, ◌+◌, ◌≤◌, Bool, true, false, not, ◌||◌, List, [], ◌∷◌, ◌++◌, length, take, map, refl, sym, ap, subst, ◌∙◌, inl, inr, arith, MatchBool, cases_lt, false≢true, or_right, AllByRecursion, Id, Ids, id_cmp, id_cmp_total, Names, ChangeValue, DeliveryValue, TableRow, row_of, Bag, Content, IsRemoved, IsMade, is_admitted, AreDone, is_executed, HasOutcome, done, AppliesAll, ScriptValue, transactions}
use Rattle.std.proofs.Common.{drop}
use Rattle.std.proofs.lemmas.List.Elements.{filter-append}
use Rattle.std.specs.Cmp.{tied_itself}
use Rattle.std.specs.Ordering.{is_eq}
use Rattle.std.specs.FinSet as set
use Rattle.gather.specs.Transaction.{insert, delete, update}
use Rattle.store.specs.Changes.{IsAdded}
use Rattle.scripted_source.specs.Source.{due}

-- ---- What is made of a bag is determined.

pub no_other : (m n : ℕ) → ((m ≡ n → ⊥) → ⊥) → m ≡ n
no_other m n h = elim (cases_lt m n) [
  | inl less ↦ absurd (h (λ e. omega (arith, less, e)))
  | inr over ↦ elim (cases_lt n m) [
    | inl more ↦ absurd (h (λ e. omega (arith, more, e)))
    | inr under ↦ omega (arith, over, under)
  ]
]

added_at : (row : TableRow) (old new other : Bag) → IsAdded row old new → IsAdded row old other → (r : TableRow) → new r ≡ other r
added_at row old new other a b r = no_other (new r) (other r) (λ differ.
    let apart : r ≢ row = λ e. differ (ap new e ∙ a.one_more ∙ sym b.one_more ∙ sym (ap other e)) in
    differ (a.others r apart ∙ sym (b.others r apart)))

pub taken_at : (row : TableRow) (old new other : Bag) → IsRemoved row old new → IsRemoved row old other → (r : TableRow) → new r ≡ other r
taken_at row old new other a b r = no_other (new r) (other r) (λ differ.
    let apart : r ≢ row = λ e. differ (ap new e ∙ less (old row) (new row) (other row) a.one_less b.one_less ∙ sym (ap other e)) in
    differ (a.others r apart ∙ sym (b.others r apart)))
  where
    less : (o m n : ℕ) → o ≡ m + 1 → o ≡ n + 1 → m ≡ n
    less o m n x y = omega (arith, x, y)

same_bag : (a b : Bag) → ((r : TableRow) → a r ≡ b r) → a ≡ b
same_bag a b p = λ i. λ r. p r i

one_made : (change : ChangeValue) (old new other : Bag) → IsMade change old new → IsMade change old other → new ≡ other
one_made (insert schema table after) old new other a b = same_bag new other (added_at (row_of schema table after) old new other a b)
one_made (delete schema table before) old new other a b = same_bag new other (taken_at (row_of schema table before) old new other a b)
one_made (update schema table before after) old new other a b =
    let mid : a.0 ≡ b.0 = same_bag a.0 b.0 (taken_at (row_of schema table before) old a.0 b.0 a.1 b.1) in
    same_bag new other (added_at (row_of schema table after) b.0 new other (subst (λ m. IsAdded (row_of schema table after) m new) mid a.2) b.2)

pub one_by : (admitted : Bool) (change : ChangeValue) (old new other : Bag) → MatchBool admitted (IsMade change old new) (new ≡ old) → MatchBool admitted (IsMade change old other) (other ≡ old) → new ≡ other
one_by true change old new other a b = one_made change old new other a b
one_by false change old new other a b = a ∙ sym b

one_done : (names : Names) (changes : List ChangeValue) (old new other : Bag) → AreDone names changes old new → AreDone names changes old other → new ≡ other
one_done names [] old new other a b = a ∙ sym b
one_done names (change ∷ changes) old new other a b =
    let mid : a.0 ≡ b.0 = one_by (is_admitted names change) change old a.0 b.0 a.1 b.1 in
    one_done names changes b.0 new other (subst (λ m. AreDone names changes m new) mid a.2) b.2

one_taken : (names : Names) (old : Content) (d : DeliveryValue) (new other : Content) → HasOutcome names old d (done new) → HasOutcome names old d (done other) → new ≡ other
one_taken names old d new other a b =
    let rows = one_done names d.changes old.rows new.rows other.rows a.1 b.1 in
    let executed = a.2 ∙ sym b.2 in
    λ i. record { executed = executed i; rows = rows i }

pub record Same (m n : ℕ) (a b : Content) : Type 0 where
  pub count : m ≡ n
  pub content : a ≡ b

pub all_one : (names : Names) (old : Content) (ds : List DeliveryValue) (m n : ℕ) (a b : Content) → AppliesAll names old ds m a → AppliesAll names old ds n b → Same m n a b
all_one names old [] m n a b x y = record { count = x.0 ∙ sym y.0; content = x.1 ∙ sym y.1 }
all_one names old (d ∷ ds) m n a b (inl x) (inl y) =
    let mid : x.0 ≡ y.0 = one_taken names old d x.0 y.0 x.2 y.2 in
    let s = all_one names y.0 ds x.1 y.1 a b (subst (λ c. AppliesAll names c ds x.1 a) mid x.4) y.4 in
    record { count = x.3 ∙ ap (λ k. k + 1) s.count ∙ sym y.3; content = s.content }
all_one names old (d ∷ ds) m n a b (inl x) (inr y) = absurd (false≢true (sym x.2.0 ∙ y.0))
all_one names old (d ∷ ds) m n a b (inr x) (inl y) = absurd (false≢true (sym y.2.0 ∙ x.0))
all_one names old (d ∷ ds) m n a b (inr x) (inr y) = all_one names old ds m n a b x.1 y.1

-- ---- In two parts.

pub record Halves (names : Names) (old : Content) (xs ys : List DeliveryValue) (n : ℕ) (new : Content) : Type 0 where
  pub mid : Content
  pub first : ℕ
  pub second : ℕ
  pub applies_first : AppliesAll names old xs first mid
  pub applies_second : AppliesAll names mid ys second new
  pub sum : n ≡ first + second

pub halves : (names : Names) (old : Content) (xs ys : List DeliveryValue) (n : ℕ) (new : Content) → AppliesAll names old (xs ++ ys) n new → Halves names old xs ys n new
halves names old [] ys n new t = record { mid = old; first = 0; second = n; applies_first = (refl, refl); applies_second = t; sum = omega arith }
halves names old (d ∷ xs) ys n new (inl t) =
    let h = halves names t.0 xs ys t.1 new t.4 in
    record { mid = h.mid; first = h.first + 1; second = h.second; applies_first = inl (t.0, h.first, t.2, refl, h.applies_first); applies_second = h.applies_second; sum = omega (arith, t.3, h.sum) }
halves names old (d ∷ xs) ys n new (inr t) =
    let h = halves names old xs ys n new t.1 in
    record { mid = h.mid; first = h.first; second = h.second; applies_first = inr (t.0, h.applies_first); applies_second = h.applies_second; sum = h.sum }

pub at_most : (names : Names) (old : Content) (ds : List DeliveryValue) (n : ℕ) (new : Content) → AppliesAll names old ds n new → n ≤ length ds
at_most names old [] n new t = omega (arith, t.0)
at_most names old (d ∷ ds) n new (inl t) = let h = at_most names t.0 ds t.1 new t.4 in omega (arith, t.3, h)
at_most names old (d ∷ ds) n new (inr t) = let h = at_most names old ds n new t.1 in omega (arith, h)

-- ---- Where each is new.

pub itself : (ids : Ids) (x : Id) → set.contains (set.insert ids x) x ≡ true
itself ids x = set.contains-insert id_cmp_total ids x x ∙ ap (λ o. is_eq o || set.contains ids x) (tied_itself id_cmp_total x)

pub still : (ids : Ids) (x q : Id) → set.contains ids q ≡ true → set.contains (set.insert ids x) q ≡ true
still ids x q h = set.contains-insert id_cmp_total ids x q ∙ ap (λ b. is_eq (id_cmp q x) || b) h ∙ or_right (is_eq (id_cmp q x)) true refl

before : (b c : Bool) → (b ≡ true → c ≡ true) → c ≡ false → b ≡ false
before true c f h = absurd (false≢true (sym h ∙ f refl))
before false c f h = refl

abbrev HasNot : Content → DeliveryValue → Type 0
HasNot content d = is_executed content d ≡ false

abbrev HasIt : Content → DeliveryValue → Type 0
HasIt content d = is_executed content d ≡ true

pub record New (old : Content) (ds : List DeliveryValue) (new : Content) : Type 0 where
  pub not_before : AllByRecursion (HasNot old) ds
  pub after : AllByRecursion (HasIt new) ds
  pub stays : (d : DeliveryValue) → HasIt old d → HasIt new d

all_not : (old mid : Content) (ds : List DeliveryValue) → ((d : DeliveryValue) → HasIt old d → HasIt mid d) → AllByRecursion (HasNot mid) ds → AllByRecursion (HasNot old) ds
all_not old mid [] f h = tt
all_not old mid (d ∷ ds) f h = (before (is_executed old d) (is_executed mid d) (f d) h.0, all_not old mid ds f h.1)

pub each_new : (names : Names) (old : Content) (ds : List DeliveryValue) (n : ℕ) (new : Content) → length ds ≡ n → AppliesAll names old ds n new → New old ds new
each_new names old [] n new all t = record { not_before = tt; after = tt; stays = λ d h. ap (λ c. is_executed c d) t.1 ∙ h }
each_new names old (d ∷ ds) n new all (inl t) =
    let rest : length ds ≡ t.1 = omega (arith, all, t.3) in
    let h = each_new names t.0 ds t.1 new rest t.4 in
    let own : HasIt t.0 d = ap (λ ids. set.contains ids (d.source, d.number)) t.2.2 ∙ itself old.executed (d.source, d.number) in
    let grows : (x : DeliveryValue) → HasIt old x → HasIt t.0 x = λ x is. ap (λ ids. set.contains ids (x.source, x.number)) t.2.2 ∙ still old.executed (d.source, d.number) (x.source, x.number) is in
    record { not_before = (t.2.0, all_not old t.0 ds grows h.not_before); after = (h.stays d own, h.after); stays = λ x is. h.stays x (grows x is) }
each_new names old (d ∷ ds) n new all (inr t) = let h = at_most names old ds n new t.1 in absurd (omega (arith, all, h))

-- ---- The scripts that are not in the set.

none_due : (names : Names) (content : Content) (scripts : List ScriptValue) → AllByRecursion (HasIt content) (transactions names scripts) → due content.executed scripts ≡ []
none_due names content [] h = refl
none_due names content (script ∷ scripts) h = rw h.0 (none_due names content scripts h.1)

all_due : (names : Names) (content : Content) (scripts : List ScriptValue) → AllByRecursion (HasNot content) (transactions names scripts) → due content.executed scripts ≡ scripts
all_due names content [] h = refl
all_due names content (script ∷ scripts) h = rw h.0 (ap (λ l. script ∷ l) (all_due names content scripts h.1))

pub due_past : (names : Names) (content : Content) (xs ys : List ScriptValue) → AllByRecursion (HasIt content) (transactions names xs) → AllByRecursion (HasNot content) (transactions names ys)
    → due content.executed (xs ++ ys) ≡ ys
due_past names content xs ys has not =
    filter-append _ xs ys ∙ ap (λ l. l ++ due content.executed ys) (none_due names content xs has) ∙ all_due names content ys not

-- ---- Lists.

cons_none : {A : Type 0} (x : A) (xs : List A) → x ∷ xs ≡ [] → ⊥
cons_none x xs e = cc

pub head_of : {A : Type 0} (x y : A) (xs ys : List A) → x ∷ xs ≡ y ∷ ys → x ≡ y
head_of x y xs ys e = cc

pub tail_of : {A : Type 0} (x y : A) (xs ys : List A) → x ∷ xs ≡ y ∷ ys → xs ≡ ys
tail_of x y xs ys e = cc

none_of_none : {A : Type 0} (k : ℕ) (xs : List A) → xs ≡ [] → take k xs ≡ []
none_of_none zero [] e = refl
none_of_none (suc k) [] e = refl
none_of_none k (x ∷ xs) e = absurd (cons_none x xs e)

pub take_both : {A : Type 0} (m n : ℕ) (xs : List A) → take (m + n) xs ≡ take m xs ++ take n (drop m xs)
take_both zero n xs = let e : zero + n ≡ n = omega arith in ap (λ k. take k xs) e
take_both (suc m) n [] = none_of_none (suc m + n) [] refl ∙ sym (none_of_none n [] refl)
take_both (suc m) n (x ∷ xs) = let e : suc m + n ≡ suc (m + n) = omega arith in ap (λ k. take k (x ∷ xs)) e ∙ ap (λ l. x ∷ l) (take_both m n xs)

pub first_of_map : {A B : Type 0} (f : A → B) (zs : List A) (xs ys : List B) → map f zs ≡ xs ++ ys → map f (take (length xs) zs) ≡ xs
first_of_map f zs [] ys e = refl
first_of_map f [] (x ∷ xs) ys e = absurd (cons_none x (xs ++ ys) (sym e))
first_of_map f (z ∷ zs) (x ∷ xs) ys e = ap (λ y. y ∷ map f (take (length xs) zs)) (head_of (f z) x (map f zs) (xs ++ ys) e) ∙ ap (λ l. x ∷ l) (first_of_map f zs xs ys (tail_of (f z) x (map f zs) (xs ++ ys) e))
