-- What loading a first copy comes to.
use Rattle.replica.proofs.Names.{◌≡◌, ℕ, ◌+◌, ◌≤◌, ◌<◌, Bool, ◌||◌, true, false, List, [], ◌∷◌, ◌++◌, length, inl, inr, refl, sym, ap, subst, ◌∙◌, arith, AllByRecursion, eq_by_cmp, Equal-is, false≢true, false_from_ne_true, Id, Ids, id_cmp, id_cmp_total, id_cmp-same, Names, ChangeValue, DeliveryValue, Content, TableRow, Bag, IsMade, AreDone, is_executed, adopted, AppliesAll}
use Rattle.std.specs.FinSet as set
use Rattle.std.specs.Prelude.{MatchBool}
use Rattle.std.proofs.lemmas.Bool.{or_from}
use Rattle.gather.specs.Transaction.{insert, delete, update}
use Rattle.store.proofs.ExecutedSets.{nothing_new}
use Rattle.replica.specs.Marks.{begun_number, ended_number}
use Rattle.replica.specs.Copies.{end_of_copy}
use Rattle.replica.specs.Copied.{AreAdded, AreAdditions, AreCopied, AreNumbered, NoneExecuted, with_all, AreOutside}
use Rattle.replica.proofs.Push.{applies_push}
use Rattle.replica.proofs.Transactions.{itself, still}

-- ---- a second run

-- what is executed stays so
pub stays : (names : Names) (old : Content) (ds : List DeliveryValue) (n : ℕ) (new : Content) → AppliesAll names old ds n new → (q : Id) → set.contains old.executed q ≡ true → set.contains new.executed q ≡ true
stays names old [] n new t q has = ap (λ (c : Content). set.contains c.executed q) t.1 ∙ has
stays names old (d ∷ ds) n new (inl t) q has =
    stays names t.0 ds t.1 new t.4 q (ap (λ ids. set.contains ids q) t.2.2 ∙ still old.executed (d.source, d.number) q has)
stays names old (d ∷ ds) n new (inr t) q has = stays names old ds n new t.1 q has

-- the transactions are executed afterwards
executed_all : (names : Names) (old : Content) (ds : List DeliveryValue) (n : ℕ) (new : Content) → AppliesAll names old ds n new → AllByRecursion (λ (d : DeliveryValue). is_executed new d ≡ true) ds
executed_all names old [] n new t = tt
executed_all names old (d ∷ ds) n new (inl t) = (
  stays names t.0 ds t.1 new t.4 (d.source, d.number) (ap (λ ids. set.contains ids (d.source, d.number)) t.2.2 ∙ itself old.executed (d.source, d.number)),
  executed_all names t.0 ds t.1 new t.4,
)
executed_all names old (d ∷ ds) n new (inr t) = (stays names old ds n new t.1 (d.source, d.number) t.0, executed_all names old ds n new t.1)

-- those that are executed are repeats
repeated : (names : Names) (mid : Content) (some others : List DeliveryValue) (m : ℕ) (new : Content) → AllByRecursion (λ (d : DeliveryValue). is_executed mid d ≡ true) some → AppliesAll names mid (some ++ others) m new
    → AppliesAll names mid others m new
repeated names mid [] others m new all t = t
repeated names mid (d ∷ some) others m new all (inl t) = absurd (false≢true (sym t.2.0 ∙ all.0))
repeated names mid (d ∷ some) others m new all (inr t) = repeated names mid some others m new all.1 t.1

or_true : (b : Bool) → (b || true) ≡ true
or_true true = refl
or_true false = refl

within : (names : Names) (old : Content) (ids : Ids) (ds : List DeliveryValue) (n : ℕ) (mid : Content) → AppliesAll names (adopted old ids) ds n mid → set.is_subset ids mid.executed ≡ true
within names old ids ds n mid t = set.contains-is_subset id_cmp_total ids mid.executed (λ q has.
    stays names (adopted old ids) ds n mid t q (set.contains-union id_cmp_total old.executed ids q ∙ ap (λ b. set.contains old.executed q || b) has ∙ or_true (set.contains old.executed q)))

-- a copy that was loaded in part is loaded whole by a second run
pub loaded_again : (names : Names) (begin mid new : Content) (ids : Ids) (some others : List DeliveryValue) (n m : ℕ) → AppliesAll names (adopted begin ids) some n mid → AppliesAll names (adopted mid ids) (some ++ others) m new
    → AppliesAll names (adopted begin ids) (some ++ others) (n + m) new
loaded_again names begin mid new ids some others n m first second =
    let same : mid ≡ adopted mid ids = nothing_new mid mid.executed ids refl (within names begin ids some n mid first) in
    applies_push names (adopted begin ids) some n mid others m new first
    (repeated names mid some others m new (executed_all names (adopted begin ids) some n mid first) (subst (λ c. AppliesAll names c (some ++ others) m new) (sym same) second))

-- ---- the rows

added_more : (xs ys : List TableRow) (old mid new : Bag) → AreAdded xs old mid → AreAdded ys mid new → AreAdded (xs ++ ys) old new
added_more [] ys old mid new a b = subst (λ bag. AreAdded ys bag new) a b
added_more (x ∷ xs) ys old mid new a b = (a.0, a.1, added_more xs ys a.0 mid new a.2 b)

admitted : (b : Bool) (X Y : Type 0) → b ≡ true → MatchBool b X Y → X
admitted true X Y is h = h
admitted false X Y is h = absurd (false≢true is)

pub inserts : (names : Names) (changes : List ChangeValue) (rows : List TableRow) (old new : Bag) → AreAdditions names changes rows → AreDone names changes old new → AreAdded rows old new
inserts names [] rows old new are all = subst (λ l. AreAdded l old new) (sym are) all
inserts names (insert schema table cells ∷ changes) rows old new are all =
    let made : IsMade (insert schema table cells) old all.0 = admitted _ _ _ are.2 all.1 in
    subst (λ l. AreAdded l old new) (sym are.1) (all.0, made, inserts names changes are.0 all.0 new are.3 all.2)
inserts names (delete schema table cells ∷ changes) rows old new are all = absurd are
inserts names (update schema table before after ∷ changes) rows old new are all = absurd are

-- one more is executed, and none with a greater number
still_none : (source : List ℕ) (number n : ℕ) (d : DeliveryValue) (old new : Ids) → d.source ≡ source → d.number ≡ number → number < n → set.contains old (source, n) ≡ false → new ≡ set.insert old (d.source, d.number)
    → set.contains new (source, n) ≡ false
still_none source number n d old new of at above none is =
    ap (λ ids. set.contains ids (source, n)) is ∙ set.contains-insert id_cmp_total old (d.source, d.number) (source, n)
    ∙ or_from _ _ (false_from_ne_true _ (λ e. let same = id_cmp-same (source, n) (d.source, d.number) ((Equal-is (id_cmp (source, n) (d.source, d.number))).0 e) in
    let numbers : n ≡ d.number = ap (λ (q : Id). q.1) same in omega (arith, numbers, at, above))) none

none_after : (source : List ℕ) (number : ℕ) (d : DeliveryValue) (old new : Ids) → d.source ≡ source → d.number ≡ number → number < begun_number → NoneExecuted source number old → new ≡ set.insert old (d.source, d.number) → NoneExecuted source (number + 1) new
none_after source number d old new of at below none is = record {
  rows = λ n above under. still_none source number n d old new of at (omega (arith, above)) (none.rows n (omega (arith, above)) under) is;
  end = still_none source number ended_number d old new of at (omega (arith, below)) none.end is;
}

-- all of them are new, and their rows are added; and the one that says that the copy has ended is new too
pub loaded_rows : (names : Names) (source : List ℕ) (number : ℕ) (old : Content) (ds : List DeliveryValue) (rows : List TableRow) (n : ℕ) (new : Content) → NoneExecuted source number old.executed → number + length ds ≤ begun_number → AreNumbered source number ds
    → AreCopied names ds rows → AppliesAll names old (ds ++ end_of_copy source ∷ []) n new → (n ≡ length ds + 1) × AreAdded rows old.rows new.rows × (new.executed ≡ with_all old.executed (ds ++ end_of_copy source ∷ []))
loaded_rows names source number old [] rows n new none few numbered copied (inl t) = (
  omega (arith, t.3, t.4.0),
  subst (λ l. AreAdded l old.rows new.rows) (sym copied) (ap (λ (c : Content). c.rows) t.4.1 ∙ t.2.1),
  ap (λ (c : Content). c.executed) t.4.1 ∙ t.2.2,
)
loaded_rows names source number old [] rows n new none few numbered copied (inr t) = absurd (false≢true (sym none.end ∙ t.0))
loaded_rows names source number old (d ∷ ds) rows n new none few numbered copied (inl t) =
    let rest = loaded_rows names source (number + 1) t.0 ds copied.1 t.1 new (none_after source number d old.executed t.0.executed numbered.0 numbered.1 (omega (arith, few)) none t.2.2) (omega (arith, few)) numbered.2 copied.4 t.4 in (
      omega (arith, t.3, rest.0),
      subst (λ l. AreAdded l old.rows new.rows) (sym copied.2) (added_more copied.0 copied.1 old.rows t.0.rows new.rows (inserts names d.changes copied.0 old.rows t.0.rows copied.3 t.2.1) rest.1),
      rest.2 ∙ ap (λ ids. with_all ids (ds ++ end_of_copy source ∷ [])) t.2.2,
    )
loaded_rows names source number old (d ∷ ds) rows n new none few numbered copied (inr t) =
    let fresh : is_executed old d ≡ false = ap (λ s. set.contains old.executed (s, d.number)) numbered.0 ∙ ap (λ k. set.contains old.executed (source, k)) numbered.1 ∙ none.rows number (omega arith) (omega (arith, few)) in
    absurd (false≢true (sym fresh ∙ t.0))

-- ---- what a source sends afterwards

or_thrice : (a b c : Bool) → ((a || b) || c) ≡ (a || (b || c))
or_thrice true b c = refl
or_thrice false b c = refl

swapped : (ids copies : Ids) (x : Id) → set.union (set.insert ids x) copies ≡ set.insert (set.union ids copies) x
swapped ids copies x = set.same_set id_cmp_total id_cmp-same _ _ (λ q.
    set.contains-union id_cmp_total (set.insert ids x) copies q
    ∙ ap (λ b. b || set.contains copies q) (set.contains-insert id_cmp_total ids x q)
    ∙ or_thrice (eq_by_cmp id_cmp q x) (set.contains ids q) (set.contains copies q)
    ∙ ap (λ b. eq_by_cmp id_cmp q x || b) (sym (set.contains-union id_cmp_total ids copies q))
    ∙ sym (set.contains-insert id_cmp_total (set.union ids copies) x q))

-- transactions that are none of the copies do the same with copies executed
pub followed_after : (names : Names) (copies : Ids) (old : Content) (ds : List DeliveryValue) (n : ℕ) (new : Content) → AreOutside copies ds → AppliesAll names old ds n new → AppliesAll names (adopted old copies) ds n (adopted new copies)
followed_after names copies old [] n new out t = (t.0, ap (λ c. adopted c copies) t.1)
followed_after names copies old (d ∷ ds) n new out (inl t) = inl (
  adopted t.0 copies,
  t.1,
  (
    set.contains-union id_cmp_total old.executed copies (d.source, d.number) ∙ or_from _ _ t.2.0 out.0,
    t.2.1,
    ap (λ ids. set.union ids copies) t.2.2 ∙ swapped old.executed copies (d.source, d.number),
  ),
  t.3,
  followed_after names copies t.0 ds t.1 new out.1 t.4,
)
followed_after names copies old (d ∷ ds) n new out (inr t) = inr (
  set.contains-union id_cmp_total old.executed copies (d.source, d.number) ∙ ap (λ b. b || set.contains copies (d.source, d.number)) t.0,
  followed_after names copies old ds n new out.1 t.1,
)
