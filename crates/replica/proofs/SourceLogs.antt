-- A database that has the rows of a source, and what keeps it so.
use Rattle.replica.proofs.Names.{◌≡◌, ◌≢◌, ◌⊎◌, inl, inr, ℕ, ◌+◌, ◌≤◌, arith, Bool, true, false, not, ◌&&◌, ◌||◌, List, [], ◌∷◌, ◌++◌, length, refl, sym, ap, subst, ◌∙◌, MatchBool, if◌then◌else◌, cases_Bool, false≢true, false_from_ne_true, or_cases, or_right, eq_by_cmp, Equal-is, bytes_eq-Decides, ap₂, AllByRecursion, CellValue, Id, Ids, id_cmp, id_cmp_total, id_cmp-same, Names, admits, is_read, ChangeValue, DeliveryValue, TableRow, row_of, Bag, Content, IsRemoved, IsMade, is_admitted, is_executed, AreDone, HasOutcome, done, adopted, AppliesAll, append-nil}
use Rattle.std.specs.FinSet as set
use Rattle.std.specs.Str.{bytes_eq}
use Rattle.binlog.proofs.TableSets.{not_read, all_follow}
use Rattle.gather.specs.Transaction.{insert, delete, update, changed_schema, changed_table}
use Rattle.store.specs.Open.{nothing, all}
use Rattle.store.specs.Changes.{IsAdded, with_executed, widened}
use Rattle.store.proofs.MoreNames.{widened_some}
use Rattle.store.proofs.ExecutedSets.{nothing_new}
use Rattle.binlog.proofs.TableSets.{name_cmp_total}
use Rattle.replica.specs.Marks.{is_of_copy, begun_number}
use Rattle.replica.specs.Clear.{TableClear, IsCleared, IsClearedWhere, IsClearedBy}
use Rattle.replica.specs.Copies.{HasNothing, HasJust, IsAtSet, HaveNoRows, AreOfCopies, was_begun, with_marks, end_of_copy}
use Rattle.replica.specs.Copied.{AreAdded, AreAdditions, AreCopied, AreNumbered, NoneExecuted, with_all}
use Rattle.replica.specs.SourceLog.{LogStep, committed, emptied, step_id, MakesStep, Logged, AreLogged, HasPoint, AgreesOn, IsKeptTable, IsKeptTableBeside, HasSourceRows, HasSourceRowsBeside, HasSourceRowsWithout, read_changes, IsReadOf, AreFirst, AreOfLog, IsEmptiedIn, IsCopyAt}
use Rattle.replica.proofs.CopyLoads.{inserts as inserts_rows, loaded_rows, stays}
use Rattle.replica.proofs.Transactions.{no_other, itself, still}

-- ---- Sets.

fresh : (step : LogStep) (was after : Content) → MakesStep step was after → set.contains was.executed (step_id step) ≡ false
fresh (committed d) was after made = made.0
fresh (emptied clear) was after made = made.0

inserts : (step : LogStep) (was after : Content) → MakesStep step was after → after.executed ≡ set.insert was.executed (step_id step)
inserts (committed d) was after made = made.2
inserts (emptied clear) was after made = made.1.executed

-- what was executed before a step is after it, and so is the step
stays_in : (step : LogStep) (was after : Content) → MakesStep step was after → (q : Id) → set.contains was.executed q ≡ true → set.contains after.executed q ≡ true
stays_in step was after made q has = ap (λ ids. set.contains ids q) (inserts step was after made) ∙ still was.executed (step_id step) q has

is_in : (step : LogStep) (was after : Content) → MakesStep step was after → set.contains after.executed (step_id step) ≡ true
is_in step was after made = ap (λ ids. set.contains ids (step_id step)) (inserts step was after made) ∙ itself was.executed (step_id step)

-- what the source had is executed wherever a point of the log from there on is
module _ (Of : List ℕ → List ℕ → Type 0) (content : Content) where
  from_on : (was : Content) (log : List Logged) → AreLogged was log → HasPoint (AgreesOn Of content) was log → (q : Id) → set.contains was.executed q ≡ true → set.contains content.executed q ≡ true
  from_on was [] logged at q has = set.is_subset-contains id_cmp_total was.executed content.executed at.just.0 q has
  from_on was (l ∷ ls) logged (inl at) q has = set.is_subset-contains id_cmp_total was.executed content.executed at.just.0 q has
  from_on was (l ∷ ls) logged (inr at) q has = from_on l.after ls logged.2 at q (stays_in l.step was l.after logged.0 q has)

  -- a point after the first step has that step
  first_in : (was : Content) (l : Logged) (ls : List Logged) → AreLogged was (l ∷ ls) → HasPoint (AgreesOn Of content) l.after ls → set.contains content.executed (step_id l.step) ≡ true
  first_in was l ls logged at = from_on l.after ls logged.2 at (step_id l.step) (is_in l.step was l.after logged.0)

beside : (c w : Bool) → c ≡ true → w ≡ false → (c && not w) ≡ true
beside true false is none = refl
beside true true is none = absurd (false≢true (sym none))
beside false w is none = absurd (false≢true is)

-- a step after the point is not executed
not_yet : (executed ids : Ids) (q : Id) → HasJust executed ids → is_of_copy q.0 ≡ false → set.contains ids q ≡ false → set.contains executed q ≡ false
not_yet executed ids q just server out = false_from_ne_true (set.contains executed q) (λ has.
    false≢true (sym server ∙ just.1 q (set.contains-difference id_cmp_total executed ids q ∙ beside _ _ has out)))

either_in : (e c w : Bool) → (w ≡ true → c ≡ true) → (e || w) ≡ true → (e || c) ≡ true
either_in true c w more has = refl
either_in false c w more has = more has

apart_in : (e c w : Bool) → ((e || c) && not (e || w)) ≡ true → (c && not w) ≡ true
apart_in true c w has = absurd (false≢true has)
apart_in false c w has = has

-- one more of both
just_more : (executed ids more new : Ids) (q : Id) → HasJust executed ids → more ≡ set.insert executed q → new ≡ set.insert ids q → HasJust more new
just_more executed ids more new q just more_is new_is =
    let both : HasJust (set.insert executed q) (set.insert ids q) = (within, copies) in
    subst (λ s. HasJust s new) (sym more_is) (subst (λ s. HasJust (set.insert executed q) s) (sym new_is) both)
  where
    within : set.is_subset (set.insert ids q) (set.insert executed q) ≡ true
    within = set.contains-is_subset id_cmp_total (set.insert ids q) (set.insert executed q) (λ x has.
        set.contains-insert id_cmp_total executed q x
        ∙ either_in (eq_by_cmp id_cmp x q) (set.contains executed x) (set.contains ids x) (set.is_subset-contains id_cmp_total ids executed just.0 x) (sym (set.contains-insert id_cmp_total ids q x) ∙ has))

    copies : AreOfCopies (set.difference (set.insert executed q) (set.insert ids q))
    copies x has = just.1 x (set.contains-difference id_cmp_total executed ids x ∙ apart_in (eq_by_cmp id_cmp x q) (set.contains executed x) (set.contains ids x)
        (ap (λ c. c && not (eq_by_cmp id_cmp x q || set.contains ids x)) (sym (set.contains-insert id_cmp_total executed q x))
        ∙ ap (λ w. set.contains (set.insert executed q) x && not w) (sym (set.contains-insert id_cmp_total ids q x))
        ∙ sym (set.contains-difference id_cmp_total (set.insert executed q) (set.insert ids q) x) ∙ has))

-- ---- Rows of one table.

-- as many of a row as of the same one in another bag
added_alike : (row r : TableRow) (a x b y : Bag) → a r ≡ b r → IsAdded row a x → IsAdded row b y → x r ≡ y r
added_alike row r a x b y same p q = no_other (x r) (y r) (λ differ.
    let apart : r ≢ row = λ e. differ (ap x e ∙ p.one_more ∙ ap (λ n. n + 1) (ap a (sym e) ∙ same ∙ ap b e) ∙ sym q.one_more ∙ sym (ap y e)) in
    differ (p.others r apart ∙ same ∙ sym (q.others r apart)))

removed_alike : (row r : TableRow) (a x b y : Bag) → a r ≡ b r → IsRemoved row a x → IsRemoved row b y → x r ≡ y r
removed_alike row r a x b y same p q = no_other (x r) (y r) (λ differ.
    let apart : r ≢ row = λ e. differ (ap x e ∙ fewer (a row) (x row) (b row) (y row) (ap a (sym e) ∙ same ∙ ap b e) p.one_less q.one_less ∙ sym (ap y e)) in
    differ (p.others r apart ∙ same ∙ sym (q.others r apart)))
  where
    fewer : (k l m n : ℕ) → k ≡ m → k ≡ l + 1 → m ≡ n + 1 → l ≡ n
    fewer k l m n is one two = omega (arith, is, one, two)

made_alike : (c : ChangeValue) (r : TableRow) (a x b y : Bag) → a r ≡ b r → IsMade c a x → IsMade c b y → x r ≡ y r
made_alike (insert schema table after) r a x b y same p q = added_alike (row_of schema table after) r a x b y same p q
made_alike (delete schema table before) r a x b y same p q = removed_alike (row_of schema table before) r a x b y same p q
made_alike (update schema table before after) r a x b y same p q =
    added_alike (row_of schema table after) r p.0 x q.0 y (removed_alike (row_of schema table before) r a p.0 b q.0 same p.1 q.1) p.2 q.2

-- a row of another table stays
elsewhere : (c : ChangeValue) (r : TableRow) (b y : Bag) → ((cells : List CellValue) → r ≢ row_of (changed_schema c) (changed_table c) cells) → IsMade c b y → y r ≡ b r
elsewhere (insert schema table after) r b y apart q = q.others r (apart after)
elsewhere (delete schema table before) r b y apart q = q.others r (apart before)
elsewhere (update schema table before after) r b y apart q = q.2.others r (apart after) ∙ q.1.others r (apart before)

-- all changes are made in a source
made_all : (c : ChangeValue) (b y : Bag) (known : Bool) → is_admitted all c ≡ known → MatchBool known (IsMade c b y) (y ≡ b) → IsMade c b y
made_all c b y true is q = q
made_all c b y false is q = absurd (false≢true (sym is ∙ all_follow (changed_schema c) (changed_table c)))

module _ (names : Names) (schema table : List ℕ) (cells : List CellValue) (kept : admits names schema table ≡ true) where
  apart_from : (c : ChangeValue) → is_admitted names c ≡ false → (other : List CellValue) → row_of schema table cells ≢ row_of (changed_schema c) (changed_table c) other
  apart_from c left_out other same = false≢true (sym left_out ∙ ap (λ (r : TableRow). admits names r.schema r.table) (sym same) ∙ kept)

  one_alike : (c : ChangeValue) (a x b y : Bag) (known : Bool) → is_admitted names c ≡ known → a (row_of schema table cells) ≡ b (row_of schema table cells) → MatchBool known (IsMade c a x) (x ≡ a) → IsMade c b y
      → x (row_of schema table cells) ≡ y (row_of schema table cells)
  one_alike c a x b y true is same p q = made_alike c (row_of schema table cells) a x b y same p q
  one_alike c a x b y false is same p q = ap (λ (m : Bag). m (row_of schema table cells)) p ∙ same ∙ sym (elsewhere c (row_of schema table cells) b y (apart_from c is) q)

  -- a change that is read, or not, and what comes after it
  by_read : (c : ChangeValue) (cs : List ChangeValue) (a x b y : Bag) (read : Bool)
      → ((m n : Bag) → m (row_of schema table cells) ≡ n (row_of schema table cells) → AreDone names (read_changes names cs) m x → AreDone all cs n y → x (row_of schema table cells) ≡ y (row_of schema table cells))
      → is_read names (changed_schema c) (changed_table c) ≡ read → a (row_of schema table cells) ≡ b (row_of schema table cells)
      → AreDone names (if read then c ∷ read_changes names cs else read_changes names cs) a x → AreDone all (c ∷ cs) b y → x (row_of schema table cells) ≡ y (row_of schema table cells)
  by_read c cs a x b y true then_alike is same p q =
      then_alike p.0 q.0 (one_alike c a p.0 b q.0 (is_admitted names c) refl same p.1 (made_all c b q.0 (is_admitted all c) refl q.1)) p.2 q.2
  by_read c cs a x b y false then_alike is same p q =
      then_alike a q.0 (same ∙ sym (elsewhere c (row_of schema table cells) b q.0 (apart_from c (not_read names (changed_schema c) (changed_table c) is)) (made_all c b q.0 (is_admitted all c) refl q.1))) p q.2

  -- the changes of tables that are read, and all of them in the source
  all_alike : (cs : List ChangeValue) (a x b y : Bag) → a (row_of schema table cells) ≡ b (row_of schema table cells) → AreDone names (read_changes names cs) a x → AreDone all cs b y
      → x (row_of schema table cells) ≡ y (row_of schema table cells)
  all_alike [] a x b y same p q = ap (λ (m : Bag). m (row_of schema table cells)) p ∙ same ∙ sym (ap (λ (m : Bag). m (row_of schema table cells)) q)
  all_alike (c ∷ cs) a x b y same p q =
      by_read c cs a x b y (is_read names (changed_schema c) (changed_table c)) (λ m n alike. all_alike cs m x n y alike) refl same p q

-- ---- Transactions.

-- the tables of this kind are kept
abbrev AreKept : Names → (List ℕ → List ℕ → Type 0) → Type 0
AreKept names Of = (schema table : List ℕ) → Of schema table → admits names schema table ≡ true

module _ (names : Names) (Of : List ℕ → List ℕ → Type 0) (kept : AreKept names Of) where
  -- a transaction of the source is taken
  taken : (whole d : DeliveryValue) (old mid was after : Content) → IsReadOf names (committed whole) d → AgreesOn Of old was → HasOutcome names old d (done mid) → MakesStep (committed whole) was after → AgreesOn Of mid after
  taken whole d old mid was after read agrees one made = record {
    just = just_more old.executed was.executed mid.executed after.executed (whole.source, whole.number) agrees.just (one.2 ∙ ap (λ s. set.insert old.executed (s, d.number)) read.0 ∙ ap (λ n. set.insert old.executed (whole.source, n)) read.1) made.2;
    rows = λ schema table cells of. all_alike names schema table cells (kept schema table of) whole.changes old.rows mid.rows was.rows after.rows (agrees.rows schema table cells of)
        (subst (λ cs. AreDone names cs old.rows mid.rows) read.2 one.1) made.1;
  }

  taken_step : (step : LogStep) (d : DeliveryValue) (old mid was after : Content) → IsReadOf names step d → AgreesOn Of old was → HasOutcome names old d (done mid) → MakesStep step was after → AgreesOn Of mid after
  taken_step (committed whole) d old mid was after read agrees one made = taken whole d old mid was after read agrees one made
  taken_step (emptied clear) d old mid was after read agrees one made = absurd read

  its_id : (step : LogStep) (d : DeliveryValue) → IsReadOf names step d → (d.source, d.number) ≡ step_id step
  its_id (committed whole) d read = λ i. (read.0 i, read.1 i)
  its_id (emptied clear) d read = absurd read

  -- the first of the log from a point on, or before it
  pub first_applied : (log : List Logged) (was old : Content) (ds : List DeliveryValue) (n : ℕ) (new : Content) → AreLogged was log → HasPoint (AgreesOn Of old) was log → AreFirst names log ds → AppliesAll names old ds n new → HasPoint (AgreesOn Of new) was log
  first_applied log was old [] n new logged at first applies = subst (λ c. HasPoint (AgreesOn Of c) was log) (sym applies.1) at
  first_applied [] was old (d ∷ ds) n new logged at first applies = absurd first
  first_applied (l ∷ ls) was old (d ∷ ds) n new logged (inl agrees) first (inl t) =
      inr (first_applied ls l.after t.0 ds t.1 new logged.2 (at_first ls (taken_step l.step d old t.0 was l.after first.0 agrees t.2 logged.0)) first.1 t.4)
    where
      at_first : (rest : List Logged) → AgreesOn Of t.0 l.after → HasPoint (AgreesOn Of t.0) l.after rest
      at_first [] here = here
      at_first (x ∷ xs) here = inl here
  first_applied (l ∷ ls) was old (d ∷ ds) n new logged (inl agrees) first (inr t) =
      absurd (false≢true (sym (not_yet old.executed was.executed (step_id l.step) agrees.just logged.1 (fresh l.step was l.after logged.0)) ∙ ap (λ q. set.contains old.executed q) (sym (its_id l.step d first.0)) ∙ t.0))
  first_applied (l ∷ ls) was old (d ∷ ds) n new logged (inr at) first (inl t) =
      absurd (false≢true (sym t.2.0 ∙ ap (λ q. set.contains old.executed q) (its_id l.step d first.0) ∙ first_in Of old was l ls logged at))
  first_applied (l ∷ ls) was old (d ∷ ds) n new logged (inr at) first (inr t) = inr (first_applied ls l.after old ds n new logged.2 at first.1 t.1)

  first_part : (log : List Logged) (part more : List DeliveryValue) → AreFirst names log (part ++ more) → AreFirst names log part
  first_part log [] more first = tt
  first_part [] (d ∷ part) more first = absurd first
  first_part (l ∷ ls) (d ∷ part) more first = (first.0, first_part ls part more first.1)

  -- and from a step on, up to which all is executed
  pub log_applied : (log : List Logged) (was old : Content) (part more : List DeliveryValue) (n : ℕ) (new : Content) → AreLogged was log → HasPoint (AgreesOn Of old) was log → AreOfLog names old.executed log (part ++ more) → AppliesAll names old part n new
      → HasPoint (AgreesOn Of new) was log
  log_applied [] was old part more n new logged at of applies = first_applied [] was old part n new logged at (first_part [] part more of) applies
  log_applied (l ∷ ls) was old part more n new logged at (inl first) applies = first_applied (l ∷ ls) was old part n new logged at (first_part (l ∷ ls) part more first) applies
  log_applied (l ∷ ls) was old part more n new logged (inl agrees) (inr of) applies =
      absurd (false≢true (sym (not_yet old.executed was.executed (step_id l.step) agrees.just logged.1 (fresh l.step was l.after logged.0)) ∙ of.0))
  log_applied (l ∷ ls) was old part more n new logged (inr at) (inr of) applies = inr (log_applied ls l.after old part more n new logged.2 at of.1 applies)

-- ---- Points.

-- a point where more holds
at_each : (P Q : Content → Type 0) (log : List Logged) (was : Content) → ((w : Content) → P w → Q w) → HasPoint P was log → HasPoint Q was log
at_each P Q [] was more at = more was at
at_each P Q (l ∷ ls) was more (inl here) = inl (more was here)
at_each P Q (l ∷ ls) was more (inr at) = inr (at_each P Q ls l.after more at)

-- what was executed is in a set that is that of a later point
executed_on : (P : Content → Type 0) (ids : Ids) (log : List Logged) (was : Content) → ((w : Content) → P w → ids ≡ w.executed) → AreLogged was log → HasPoint P was log → (q : Id) → set.contains was.executed q ≡ true → set.contains ids q ≡ true
executed_on P ids [] was is logged at q has = ap (λ s. set.contains s q) (is was at) ∙ has
executed_on P ids (l ∷ ls) was is logged (inl here) q has = ap (λ s. set.contains s q) (is was here) ∙ has
executed_on P ids (l ∷ ls) was is logged (inr at) q has = executed_on P ids ls l.after is logged.2 at q (stays_in l.step was l.after logged.0 q has)

-- ---- A table that begins anew.

-- a table is this one, or another
one_or_other : (s t schema table : List ℕ) → ((s ≡ schema) × (t ≡ table)) ⊎ ((s ≢ schema) ⊎ (t ≢ table))
one_or_other s t schema table = elim (cases_Bool (bytes_eq s schema)) [
  | inl a ↦ elim (cases_Bool (bytes_eq t table)) [
    | inl b ↦ inl ((bytes_eq-Decides s schema).0 a, (bytes_eq-Decides t table).0 b)
    | inr b ↦ inr (inr (λ e. false≢true (sym b ∙ (bytes_eq-Decides t table).1 e)))
  ]
  | inr a ↦ inr (inl (λ e. false≢true (sym a ∙ (bytes_eq-Decides s schema).1 e)))
]

module _ (names : Names) (clear : TableClear) where
  cleared_rows : (old new was after : Content) (kept : Bool) → admits names clear.schema clear.table ≡ kept → IsClearedWhere kept clear old new → IsCleared clear was after
      → (schema table : List ℕ) (cells : List CellValue) → admits names schema table ≡ true → old.rows (row_of schema table cells) ≡ was.rows (row_of schema table cells) → new.rows (row_of schema table cells) ≡ after.rows (row_of schema table cells)
  cleared_rows old new was after true is cleared gone schema table cells of same = elim (one_or_other schema table clear.schema clear.table) [
    | inl it ↦ ap₂ (λ (s t : List ℕ). new.rows (row_of s t cells)) it.0 it.1 ∙ cleared.gone cells ∙ sym (ap₂ (λ (s t : List ℕ). after.rows (row_of s t cells)) it.0 it.1 ∙ gone.gone cells)
    | inr other ↦ cleared.others (row_of schema table cells) other ∙ same ∙ sym (gone.others (row_of schema table cells) other)
  ]
  cleared_rows old new was after false is cleared gone schema table cells of same = elim (one_or_other schema table clear.schema clear.table) [
    | inl it ↦ absurd (false≢true (sym is ∙ sym (ap₂ (λ (s t : List ℕ). admits names s t) it.0 it.1) ∙ of))
    | inr other ↦ ap (λ (b : Bag). b (row_of schema table cells)) cleared.rows ∙ same ∙ sym (gone.others (row_of schema table cells) other)
  ]

  cleared_set : (old new : Content) (kept : Bool) → IsClearedWhere kept clear old new → new.executed ≡ set.insert old.executed (clear.source, clear.number)
  cleared_set old new true cleared = cleared.executed
  cleared_set old new false cleared = cleared.executed

  cleared_here : (old new was after : Content) → AgreesOn (IsKeptTable names) old was → IsClearedBy names clear old new → IsCleared clear was after → AgreesOn (IsKeptTable names) new after
  cleared_here old new was after agrees cleared gone = record {
    just = just_more old.executed was.executed new.executed after.executed (clear.source, clear.number) agrees.just (cleared_set old new (admits names clear.schema clear.table) cleared) gone.executed;
    rows = λ schema table cells of. cleared_rows old new was after (admits names clear.schema clear.table) refl cleared gone schema table cells of (agrees.rows schema table cells of);
  }

  -- the set before the statement has what came before it
  before_it : (log : List Logged) (was : Content) → AreLogged was log → IsEmptiedIn clear was log → (q : Id) → set.contains was.executed q ≡ true → set.contains clear.at q ≡ true
  before_it [] was logged is q has = absurd is
  before_it (l ∷ ls) was logged (inl here) q has = ap (λ s. set.contains s q) here.1 ∙ has
  before_it (l ∷ ls) was logged (inr later) q has = before_it ls l.after logged.2 later q (stays_in l.step was l.after logged.0 q has)

  step_made : (step : LogStep) (was after : Content) → step ≡ emptied clear → MakesStep step was after → IsCleared clear was after
  step_made step was after is made = (subst (λ s. MakesStep s was after) is made).1

  pub cleared_at : (log : List Logged) (was old new : Content) → AreLogged was log → HasPoint (AgreesOn (IsKeptTable names) old) was log → IsEmptiedIn clear was log → set.contains old.executed (clear.source, clear.number) ≡ false → HasJust old.executed clear.at
      → IsClearedBy names clear old new → HasPoint (AgreesOn (IsKeptTable names) new) was log
  cleared_at [] was old new logged at is out just cleared = absurd is
  cleared_at (l ∷ ls) was old new logged (inl agrees) (inl here) out just cleared = inr (at_first ls (cleared_here old new was l.after agrees cleared (step_made l.step was l.after here.0 logged.0)))
    where
      at_first : (rest : List Logged) → AgreesOn (IsKeptTable names) new l.after → HasPoint (AgreesOn (IsKeptTable names) new) l.after rest
      at_first [] it = it
      at_first (x ∷ xs) it = inl it
  cleared_at (l ∷ ls) was old new logged (inl agrees) (inr later) out just cleared =
      let executed = set.is_subset-contains id_cmp_total clear.at old.executed just.0 (step_id l.step) (before_it ls l.after logged.2 later (step_id l.step) (is_in l.step was l.after logged.0)) in
      absurd (false≢true (sym (not_yet old.executed was.executed (step_id l.step) agrees.just logged.1 (fresh l.step was l.after logged.0)) ∙ executed))
  cleared_at (l ∷ ls) was old new logged (inr at) (inl here) out just cleared =
      absurd (false≢true (sym out ∙ ap (λ (s : LogStep). set.contains old.executed (step_id s)) (sym here.0) ∙ first_in (IsKeptTable names) old was l ls logged at))
  cleared_at (l ∷ ls) was old new logged (inr at) (inr later) out just cleared = inr (cleared_at ls l.after old new logged.2 at later out just cleared)

-- ---- A transaction that is skipped.

none_done : (names : Names) (cs : List ChangeValue) (bag : Bag) → AllByRecursion (λ c. is_admitted names c ≡ false) cs → AreDone names cs bag bag
none_done names [] bag none = refl
none_done names (c ∷ cs) bag none = (bag, subst (λ b. MatchBool b (IsMade c bag bag) (bag ≡ bag)) (sym none.0) refl, none_done names cs bag none.1)

pub skipped_at : (names : Names) (log : List Logged) (was old new : Content) (d : DeliveryValue) → AreLogged was log → HasPoint (AgreesOn (IsKeptTable names) old) was log → AreOfLog names old.executed log (d ∷ [])
    → AllByRecursion (λ c. is_admitted names c ≡ false) d.changes → HasOutcome names old (record { source = d.source; number = d.number; changes = [] }) (done new) → HasPoint (AgreesOn (IsKeptTable names) new) was log
skipped_at names log was old new d logged at of none skipped =
    log_applied names (IsKeptTable names) (λ schema table is. is) log was old (d ∷ []) [] 1 new logged at of
    (inl (new, 0, (skipped.0, subst (λ b. AreDone names d.changes old.rows b) (sym skipped.1) (none_done names d.changes old.rows none), skipped.2), refl, (refl, refl)))

-- ---- GTIDs of copies.

copies_more : (executed ids was : Ids) → HasJust executed was → AreOfCopies ids → HasJust (set.union executed ids) was
copies_more executed ids was just copies = (within, of_copies)
  where
    within : set.is_subset was (set.union executed ids) ≡ true
    within = set.contains-is_subset id_cmp_total was (set.union executed ids) (λ q has.
        set.contains-union id_cmp_total executed ids q ∙ ap (λ b. b || set.contains ids q) (set.is_subset-contains id_cmp_total was executed just.0 q has))

    without : (e i w : Bool) → i ≡ false → ((e || i) && not w) ≡ true → (e && not w) ≡ true
    without e true w out both = absurd (false≢true (sym out))
    without true false w out both = both
    without false false w out both = both

    of_copies : AreOfCopies (set.difference (set.union executed ids) was)
    of_copies q has =
        let both : ((set.contains executed q || set.contains ids q) && not (set.contains was q)) ≡ true =
        ap (λ b. b && not (set.contains was q)) (sym (set.contains-union id_cmp_total executed ids q)) ∙ sym (set.contains-difference id_cmp_total (set.union executed ids) was q) ∙ has in
        elim (cases_Bool (set.contains ids q)) [
          | inl of ↦ copies q of
          | inr out ↦ just.1 q (set.contains-difference id_cmp_total executed was q ∙ without (set.contains executed q) (set.contains ids q) (set.contains was q) out both)
        ]

pub marked_at : (Of : List ℕ → List ℕ → Type 0) (log : List Logged) (was old : Content) (ids : Ids) → AreOfCopies ids → HasPoint (AgreesOn Of old) was log → HasPoint (AgreesOn Of (adopted old ids)) was log
marked_at Of log was old ids copies at =
    at_each (AgreesOn Of old) (AgreesOn Of (adopted old ids)) log was (λ w agrees. record { just = copies_more old.executed ids w.executed agrees.just copies; rows = agrees.rows }) at

-- ---- The rows of a copy.

one_sum : (row r : TableRow) (a m b n : Bag) → IsAdded row a m → IsAdded row b n → m r + b r ≡ n r + a r
one_sum row r a m b n p q = no_other (m r + b r) (n r + a r) (λ differ.
    let apart : r ≢ row = λ e. differ (omega (arith, ap m e, p.one_more, ap a e, ap n e, q.one_more, ap b e)) in
    differ (omega (arith, p.others r apart, q.others r apart)))

-- rows that are added to two bags
added_sum : (rows : List TableRow) (r : TableRow) (a x b y : Bag) → AreAdded rows a x → AreAdded rows b y → x r + b r ≡ y r + a r
added_sum [] r a x b y p q = omega (arith, ap (λ (bag : Bag). bag r) p, ap (λ (bag : Bag). bag r) q)
added_sum (row ∷ rows) r a x b y p q = omega (arith, added_sum rows r p.0 x q.0 y p.2 q.2, one_sum row r a p.0 b q.0 p.1 q.1)

id_is : (q x : Id) → eq_by_cmp id_cmp q x ≡ true → q ≡ x
id_is q x e = id_cmp-same q x ((Equal-is (id_cmp q x)).0 e)

-- a GTID of a set with one more
one_more_of : (ids : Ids) (x q : Id) → set.contains (set.insert ids x) q ≡ true → (q ≡ x) ⊎ (set.contains ids q ≡ true)
one_more_of ids x q has = elim (or_cases (eq_by_cmp id_cmp q x) (set.contains ids q) (sym (set.contains-insert id_cmp_total ids x q) ∙ has)) [
  | inl e ↦ inl (id_is q x e)
  | inr in_ids ↦ inr in_ids
]

abbrev AreOfSource : List ℕ → List DeliveryValue → Type 0
AreOfSource source ds = AllByRecursion (λ (d : DeliveryValue). d.source ≡ source) ds

all_numbered : (source : List ℕ) (number : ℕ) (ds : List DeliveryValue) → AreNumbered source number ds → AreOfSource source (ds ++ end_of_copy source ∷ [])
all_numbered source number [] numbered = (refl, tt)
all_numbered source number (d ∷ ds) numbered = (numbered.0, all_numbered source (number + 1) ds numbered.2)

-- a GTID of a set with those of a source
one_of_all : (source : List ℕ) (ids : Ids) (ds : List DeliveryValue) (q : Id) → AreOfSource source ds → set.contains (with_all ids ds) q ≡ true → (q.0 ≡ source) ⊎ (set.contains ids q ≡ true)
one_of_all source ids [] q of has = inr has
one_of_all source ids (d ∷ ds) q of has = elim (one_of_all source (set.insert ids (d.source, d.number)) ds q of.1 has) [
  | inl it ↦ inl it
  | inr one ↦ elim (one_more_of ids (d.source, d.number) q one) [
    | inl it ↦ inl (ap (λ (x : Id). x.0) it ∙ of.0)
    | inr it ↦ inr it
  ]
]

still_all : (ids : Ids) (ds : List DeliveryValue) (q : Id) → set.contains ids q ≡ true → set.contains (with_all ids ds) q ≡ true
still_all ids [] q has = has
still_all ids (d ∷ ds) q has = still_all (set.insert ids (d.source, d.number)) ds q (still ids (d.source, d.number) q has)

both_of : (a b : Bool) → (a && not b) ≡ true → (a ≡ true) × (b ≡ false)
both_of true false it = (refl, refl)
both_of true true it = absurd (false≢true it)
both_of false b it = absurd (false≢true it)

module _ (executed ids : Ids) (first : Id) (of_copy : is_of_copy first.0 ≡ true) (at_set : IsAtSet executed ids) where
  -- a GTID that was executed, or that the copy has begun with
  begun_of : (q : Id) → set.contains (set.union executed (with_marks ids first)) q ≡ true → (q.0 ≡ first.0) ⊎ ((set.contains executed q ≡ true) ⊎ (set.contains ids q ≡ true))
  begun_of q has = elim (or_cases (set.contains executed q) (set.contains (with_marks ids first) q) (sym (set.contains-union id_cmp_total executed (with_marks ids first) q) ∙ has)) [
    | inl it ↦ inr (inl it)
    | inr marked ↦ elim (one_more_of (set.insert ids first) (first.0, begun_number) q marked) [
      | inl it ↦ inl (ap (λ (x : Id). x.0) it)
      | inr more ↦ elim (one_more_of ids first q more) [
        | inl it ↦ inl (ap (λ (x : Id). x.0) it)
        | inr it ↦ inr (inr it)
      ]
    ]
  ]

  copy_just : (new : Ids) → ((q : Id) → set.contains (set.union executed (with_marks ids first)) q ≡ true → set.contains new q ≡ true)
      → ((q : Id) → set.contains new q ≡ true → (q.0 ≡ first.0) ⊎ (set.contains (set.union executed (with_marks ids first)) q ≡ true)) → HasJust new ids
  copy_just new kept only = (within, of_copies)
    where
      within : set.is_subset ids new ≡ true
      within = set.contains-is_subset id_cmp_total ids new (λ q has. kept q
          (set.contains-union id_cmp_total executed (with_marks ids first) q
          ∙ or_right (set.contains executed q) (set.contains (with_marks ids first) q) (still (set.insert ids first) (first.0, begun_number) q (still ids first q has))))

      of_copies : AreOfCopies (set.difference new ids)
      of_copies q has =
          let both = both_of _ _ (sym (set.contains-difference id_cmp_total new ids q) ∙ has) in
          elim (only q both.0) [
            | inl it ↦ ap is_of_copy it ∙ of_copy
            | inr begun ↦ elim (begun_of q begun) [
              | inl it ↦ ap is_of_copy it ∙ of_copy
              | inr (inl was) ↦ elim at_set [
                | inl none ↦ absurd (false≢true (sym (set.contains-empty id_cmp q) ∙ set.is_subset-contains id_cmp_total executed set.empty none q was))
                | inr just ↦ just.1 q (set.contains-difference id_cmp_total executed ids q ∙ beside _ _ was both.1)
              ]
              | inr (inr in_ids) ↦ absurd (false≢true (sym both.1 ∙ in_ids))
            ]
          ]

-- The tables of the copy are none of these.
abbrev AgreeBeside : Names → Names → Bag → Bag → Type 0
AgreeBeside tables names old was = (schema table : List ℕ) (cells : List CellValue) → IsKeptTableBeside tables names schema table → old (row_of schema table cells) ≡ was (row_of schema table cells)

-- the rows of the tables of a copy
abbrev AgreeThen : (List ℕ → List ℕ → Type 0) → Bag → Bag → Type 0
AgreeThen Of new was = (schema table : List ℕ) (cells : List CellValue) → Of schema table → new (row_of schema table cells) ≡ was (row_of schema table cells)

module _ (names tables : Names) (Of : List ℕ → List ℕ → Type 0) (old new : Content) (ids : Ids) (rows : List TableRow) (just : HasJust new.executed ids)
    (then_rows : (was : Content) → IsCopyAt names tables old ids rows was → AgreeBeside tables names old.rows was.rows → AgreeThen Of new.rows was.rows) where
  copied_here : (was : Content) → IsCopyAt names tables old ids rows was → AgreeBeside tables names old.rows was.rows → AgreesOn Of new was
  copied_here was copy others = record {
    just = subst (λ s. HasJust new.executed s) copy.executed just;
    rows = then_rows was copy others;
  }

  abbrev IsOther : Content → Type 0
  IsOther was = AgreesOn (IsKeptTableBeside tables names) old was

  -- the copy and the database are at one point
  copied_at : (log : List Logged) (was : Content) → AreLogged was log → HasJust old.executed ids → HasPoint IsOther was log → HasPoint (IsCopyAt names tables old ids rows) was log → HasPoint (AgreesOn Of new) was log
  copied_at [] was logged had at copy = copied_here was copy at.rows
  copied_at (l ∷ ls) was logged had (inl at) (inl copy) = inl (copied_here was copy at.rows)
  copied_at (l ∷ ls) was logged had (inr at) (inl copy) =
      absurd (false≢true (sym (not_yet old.executed ids (step_id l.step) had logged.1 (ap (λ s. set.contains s (step_id l.step)) copy.executed ∙ fresh l.step was l.after logged.0))
      ∙ first_in (IsKeptTableBeside tables names) old was l ls logged at))
  copied_at (l ∷ ls) was logged had (inl at) (inr copy) =
      let in_ids = executed_on (IsCopyAt names tables old ids rows) ids ls l.after (λ w c. c.executed) logged.2 copy (step_id l.step) (is_in l.step was l.after logged.0) in
      absurd (false≢true (sym (not_yet old.executed was.executed (step_id l.step) at.just logged.1 (fresh l.step was l.after logged.0))
      ∙ set.is_subset-contains id_cmp_total ids old.executed had.0 (step_id l.step) in_ids))
  copied_at (l ∷ ls) was logged had (inr at) (inr copy) = inr (copied_at ls l.after logged.2 had at copy)

  -- nothing was executed, so nothing was there
  none_there : (log : List Logged) → AreLogged nothing log → HasNothing old.executed → HasPoint IsOther nothing log → AgreeBeside tables names old.rows nothing.rows
  none_there [] logged none at schema table cells of = at.rows schema table cells of
  none_there (l ∷ ls) logged none (inl at) schema table cells of = at.rows schema table cells of
  none_there (l ∷ ls) logged none (inr at) schema table cells of =
      absurd (false≢true (sym (set.contains-empty id_cmp (step_id l.step)) ∙ set.is_subset-contains id_cmp_total old.executed set.empty none (step_id l.step) (first_in (IsKeptTableBeside tables names) old nothing l ls logged at)))

  loaded_at : (log : List Logged) → AreLogged nothing log → IsAtSet old.executed ids → HasPoint IsOther nothing log → HasPoint (IsCopyAt names tables old ids rows) nothing log → HasPoint (AgreesOn Of new) nothing log
  loaded_at log logged (inl none) at copy =
      at_each (IsCopyAt names tables old ids rows) (AgreesOn Of new) log nothing
      (λ w c. copied_here w c (λ schema table cells of. none_there log logged none at schema table cells of ∙ sym (c.others none schema table cells of))) copy
  loaded_at log logged (inr had) at copy = copied_at log nothing logged had at copy

-- the rows of the copy were added
copied_rows : (names tables : Names) (old new : Content) (ids : Ids) (rows : List TableRow) → HaveNoRows tables old → AreAdded rows old.rows new.rows → (was : Content) → IsCopyAt names tables old ids rows was → AgreeBeside tables names old.rows was.rows
    → AgreeThen (IsKeptTable names) new.rows was.rows
copied_rows names tables old new ids rows empty added was copy others schema table cells of =
    let r = row_of schema table cells in
    let are = copy.rows_are in
    let sum : new.rows r + 0 ≡ are.copied r + old.rows r = added_sum rows r old.rows new.rows nothing.rows are.copied added are.added in
    elim (cases_Bool (set.contains tables (schema, table))) [
      | inl one ↦ omega (arith, sum, empty schema table cells one, are.are schema table cells one)
      | inr other ↦ omega (arith, sum, are.alone schema table cells other, others schema table cells (of, other))
    ]

-- a copy that may begin, and is loaded whole
pub copy_loaded : (names tables : Names) (log : List Logged) (old new : Content) (ids : Ids) (first : Id) (ds : List DeliveryValue) (rows : List TableRow) (number n : ℕ) → AreLogged nothing log → HasSourceRowsBeside tables names log old
    → HasPoint (IsCopyAt names tables old ids rows) nothing log → IsAtSet old.executed ids → HaveNoRows tables old → is_of_copy first.0 ≡ true → NoneExecuted first.0 number (adopted old (with_marks ids first)).executed → number + length ds ≤ begun_number
    → AreNumbered first.0 number ds → AreCopied names ds rows → AppliesAll names (adopted old (with_marks ids first)) (ds ++ end_of_copy first.0 ∷ []) n new → HasSourceRows names log new
copy_loaded names tables log old new ids first ds rows number n logged at copy at_set empty of_copy none few numbered copied applies =
    let loaded = loaded_rows names first.0 number (adopted old (with_marks ids first)) ds rows n new none few numbered copied applies in
    let all = ds ++ end_of_copy first.0 ∷ [] in
    let begun = set.union old.executed (with_marks ids first) in
    let just : HasJust new.executed ids = copy_just old.executed ids first of_copy at_set new.executed
    (λ q has. ap (λ s. set.contains s q) loaded.2 ∙ still_all begun all q has)
    (λ q has. one_of_all first.0 begun all q (all_numbered first.0 number ds numbered) (sym (ap (λ s. set.contains s q) loaded.2) ∙ has)) in
    loaded_at names tables (IsKeptTable names) old new ids rows just (copied_rows names tables old new ids rows empty loaded.1) log logged at_set at copy

-- ---- A copy that is loaded in part.

-- none of the rows is this one
not_among : (rows : List TableRow) (r : TableRow) (a x : Bag) → AreAdded rows a x → x r ≡ 0 → AllByRecursion (λ row. r ≢ row) rows × (a r ≡ 0)
not_among [] r a x added none = (tt, ap (λ (b : Bag). b r) (sym added) ∙ none)
not_among (row ∷ rows) r a x added none =
    let rest = not_among rows r added.0 x added.2 none in
    let apart : r ≢ row = λ e. absurd (omega (arith, rest.1, ap added.0 e, added.1.one_more)) in
    ((apart, rest.0), sym (added.1.others r apart) ∙ rest.1)

among_parts : (P : TableRow → Type 0) (xs ys : List TableRow) → AllByRecursion P (xs ++ ys) → AllByRecursion P xs × AllByRecursion P ys
among_parts P [] ys all = (tt, all)
among_parts P (x ∷ xs) ys all = let rest = among_parts P xs ys all.1 in ((all.0, rest.0), rest.1)

-- changes that add none of this row
none_added : (names : Names) (changes : List ChangeValue) (rows : List TableRow) (r : TableRow) (old new : Bag) → AreAdditions names changes rows → AllByRecursion (λ row. r ≢ row) rows → AreDone names changes old new → new r ≡ old r
none_added names changes rows r old new are apart were = beside_all rows old new apart (inserts_rows names changes rows old new are were)
  where
    beside_all : (xs : List TableRow) (a x : Bag) → AllByRecursion (λ row. r ≢ row) xs → AreAdded xs a x → x r ≡ a r
    beside_all [] a x others added = ap (λ (b : Bag). b r) added
    beside_all (row ∷ xs) a x others added = beside_all xs added.0 x others.1 added.2 ∙ added.1.others r others.0

part_beside : (names : Names) (part more : List DeliveryValue) (rows : List TableRow) (r : TableRow) (old : Content) (n : ℕ) (mid : Content) → AreCopied names (part ++ more) rows → AllByRecursion (λ row. r ≢ row) rows → AppliesAll names old part n mid
    → mid.rows r ≡ old.rows r
part_beside names [] more rows r old n mid copied apart applies = ap (λ (c : Content). c.rows r) applies.1
part_beside names (d ∷ part) more rows r old n mid copied apart (inl t) =
    let both = among_parts (λ row. r ≢ row) copied.0 copied.1 (subst (AllByRecursion (λ row. r ≢ row)) copied.2 apart) in
    part_beside names part more copied.1 r t.0 t.1 mid copied.4 both.1 t.4 ∙ none_added names d.changes copied.0 r old.rows t.0.rows copied.3 both.0 t.2.1
part_beside names (d ∷ part) more rows r old n mid copied apart (inr t) =
    let both = among_parts (λ row. r ≢ row) copied.0 copied.1 (subst (AllByRecursion (λ row. r ≢ row)) copied.2 apart) in
    part_beside names part more copied.1 r old n mid copied.4 both.1 t.1

part_of : (source : List ℕ) (number : ℕ) (part more : List DeliveryValue) → AreNumbered source number (part ++ more) → AreOfSource source part
part_of source number [] more numbered = tt
part_of source number (d ∷ part) more numbered = (numbered.0, part_of source (number + 1) part more numbered.2)

-- a GTID that is executed afterwards
applied_of : (names : Names) (source : List ℕ) (old : Content) (ds : List DeliveryValue) (n : ℕ) (new : Content) (q : Id) → AreOfSource source ds → AppliesAll names old ds n new → set.contains new.executed q ≡ true → (q.0 ≡ source) ⊎ (set.contains old.executed q ≡ true)
applied_of names source old [] n new q of applies has = inr (ap (λ (c : Content). set.contains c.executed q) (sym applies.1) ∙ has)
applied_of names source old (d ∷ ds) n new q of (inl t) has = elim (applied_of names source t.0 ds t.1 new q of.1 t.4 has) [
  | inl it ↦ inl it
  | inr one ↦ elim (one_more_of old.executed (d.source, d.number) q (ap (λ s. set.contains s q) (sym t.2.2) ∙ one)) [
    | inl it ↦ inl (ap (λ (x : Id). x.0) it ∙ of.0)
    | inr it ↦ inr it
  ]
]
applied_of names source old (d ∷ ds) n new q of (inr t) has = applied_of names source old ds n new q of.1 t.1 has

pub copy_loading : (names tables : Names) (log : List Logged) (old mid : Content) (ids : Ids) (first : Id) (part more : List DeliveryValue) (rows : List TableRow) (number n : ℕ) → AreLogged nothing log → HasSourceRowsBeside tables names log old
    → HasPoint (IsCopyAt names tables old ids rows) nothing log → IsAtSet old.executed ids → is_of_copy first.0 ≡ true
    → AreNumbered first.0 number (part ++ more) → AreCopied names (part ++ more) rows → AppliesAll names (adopted old (with_marks ids first)) part n mid → HasSourceRowsBeside tables names log mid
copy_loading names tables log old mid ids first part more rows number n logged at copy at_set of_copy numbered copied applies =
    let begun = set.union old.executed (with_marks ids first) in
    let just : HasJust mid.executed ids = copy_just old.executed ids first of_copy at_set mid.executed
    (λ q has. stays names (adopted old (with_marks ids first)) part n mid applies q has)
    (λ q has. applied_of names first.0 (adopted old (with_marks ids first)) part n mid q (part_of first.0 number part more numbered) applies has) in
    loaded_at names tables (IsKeptTableBeside tables names) old mid ids rows just
    (λ was c others schema table cells of.
    part_beside names part more rows (row_of schema table cells) (adopted old (with_marks ids first)) n mid copied
    (not_among rows (row_of schema table cells) nothing.rows c.rows_are.copied c.rows_are.added (c.rows_are.alone schema table cells of.1)).0 applies
    ∙ others schema table cells of)
    log logged at_set at copy

-- ---- Tables that are admitted.

module _ (names more : Names) (some : set.is_subset names set.empty ≡ false) where
  -- a table that is kept then was kept before, or is one of the names
  one_of_both : (schema table : List ℕ) → admits (widened names more) schema table ≡ true → (admits names schema table ≡ true) ⊎ (set.contains more (schema, table) ≡ true)
  one_of_both schema table kept = elim (or_cases (set.is_subset (set.union names more) set.empty) (set.contains (set.union names more) (schema, table)) (ap (λ n. admits n schema table) (sym (widened_some names more some)) ∙ kept)) [
    | inl none ↦ absurd (false≢true (sym some ∙ within none))
    | inr has ↦ elim (or_cases (set.contains names (schema, table)) (set.contains more (schema, table)) (sym (set.contains-union name_cmp_total names more (schema, table)) ∙ has)) [
      | inl was ↦ inl (or_right (set.is_subset names set.empty) (set.contains names (schema, table)) was)
      | inr new ↦ inr new
    ]
  ]
    where
      within : set.is_subset (set.union names more) set.empty ≡ true → set.is_subset names set.empty ≡ true
      within none = set.contains-is_subset name_cmp_total names set.empty (λ q has.
          set.is_subset-contains name_cmp_total (set.union names more) set.empty none q (set.contains-union name_cmp_total names more q ∙ ap (λ b. b || set.contains more q) has))

  none_of_either : (schema table : List ℕ) (cells : List CellValue) (a b : Bag) → a (row_of schema table cells) ≡ 0 → b (row_of schema table cells) ≡ 0 → a (row_of schema table cells) ≡ b (row_of schema table cells)
  none_of_either schema table cells a b one other = one ∙ sym other

  pub admitted_alone : (log : List Logged) (old : Content) → HasSourceRowsWithout more names log old → HasSourceRows (widened names more) log old
  admitted_alone log old has =
      at_each (λ was. AgreesOn (IsKeptTable names) old was × HaveNoRows more was) (AgreesOn (IsKeptTable (widened names more)) old) log nothing (λ was at. record {
        just = at.0.just;
        rows = λ schema table cells kept. elim (one_of_both schema table kept) [
          | inl of ↦ at.0.rows schema table cells of
          | inr new ↦ none_of_either schema table cells old.rows was.rows (has.none schema table cells new) (at.1 schema table cells new)
        ];
      }) has.kept

  pub admitted_beside : (tables : Names) (log : List Logged) (old : Content) → HasSourceRowsWithout (set.difference more tables) names log old → HasSourceRowsBeside tables (widened names more) log old
  admitted_beside tables log old has =
      at_each (λ was. AgreesOn (IsKeptTable names) old was × HaveNoRows (set.difference more tables) was) (AgreesOn (IsKeptTableBeside tables (widened names more)) old) log nothing (λ was at. record {
        just = at.0.just;
        rows = λ schema table cells kept. elim (one_of_both schema table kept.0) [
          | inl of ↦ at.0.rows schema table cells of
          | inr new ↦
              let left = set.contains-difference name_cmp_total more tables (schema, table) ∙ beside _ _ new kept.1 in
              none_of_either schema table cells old.rows was.rows (has.none schema table cells left) (at.1 schema table cells left)
        ];
      }) has.kept

-- the other tables have their rows once a copy is begun
pub admitted_begun : (names tables : Names) (log : List Logged) (old : Content) (ids : Ids) (first : Id) (rows : List TableRow) → AreLogged nothing log → HasSourceRowsBeside tables names log old
    → HasPoint (IsCopyAt names tables old ids rows) nothing log → IsAtSet old.executed ids → is_of_copy first.0 ≡ true → HasSourceRowsBeside tables names log (adopted old (with_marks ids first))
admitted_begun names tables log old ids first rows logged at copy at_set of_copy =
    let begun = adopted old (with_marks ids first) in
    let just : HasJust begun.executed ids = copy_just old.executed ids first of_copy at_set begun.executed (λ q has. has) (λ q has. inr has) in
    loaded_at names tables (IsKeptTableBeside tables names) old begun ids rows just (λ was c others schema table cells of. others schema table cells of) log logged at_set at copy

-- what a copy begins with is executed then
with_in : (executed ids : Ids) (first : Id) → (set.is_subset ids (set.union executed (with_marks ids first)) ≡ true) × (set.contains (set.union executed (with_marks ids first)) first ≡ true)
with_in executed ids first = (
  set.contains-is_subset id_cmp_total ids (set.union executed (with_marks ids first)) (λ q has. in_both q (still (set.insert ids first) (first.0, begun_number) q (still ids first q has))),
  in_both first (still (set.insert ids first) (first.0, begun_number) first (itself ids first)),
)
  where
    in_both : (q : Id) → set.contains (with_marks ids first) q ≡ true → set.contains (set.union executed (with_marks ids first)) q ≡ true
    in_both q has = set.contains-union id_cmp_total executed (with_marks ids first) q ∙ or_right (set.contains executed q) (set.contains (with_marks ids first) q) has

both_true : (a b : Bool) → a ≡ true → b ≡ true → (a && b) ≡ true
both_true true b is also = also
both_true false b is also = absurd (false≢true is)

pub found_begun : (old : Content) (ids : Ids) (first : Id)
    → (was_begun (adopted old (with_marks ids first)).executed ids first ≡ true) × (adopted (adopted old (with_marks ids first)) (with_marks ids first) ≡ adopted old (with_marks ids first))
found_begun old ids first =
    let has = with_in old.executed ids first in
    let begun = adopted old (with_marks ids first) in (
      both_true _ _ has.0 has.1,
      sym (nothing_new begun begun.executed (with_marks ids first) refl
          (set.contains-is_subset id_cmp_total (with_marks ids first) begun.executed (λ q it.
          set.contains-union id_cmp_total old.executed (with_marks ids first) q ∙ or_right (set.contains old.executed q) (set.contains (with_marks ids first) q) it))),
    )

-- ---- A copy that is given up.

module _ (names tables : Names) (clear : TableClear) (of_copy : is_of_copy clear.source ≡ true) (one : set.contains tables (clear.schema, clear.table) ≡ true) where
  others_stay : (old new : Content) (kept : Bool) → IsClearedWhere kept clear old new → (schema table : List ℕ) (cells : List CellValue) → set.contains tables (schema, table) ≡ false → new.rows (row_of schema table cells) ≡ old.rows (row_of schema table cells)
  others_stay old new true cleared schema table cells other = elim (one_or_other schema table clear.schema clear.table) [
    | inl it ↦ absurd (false≢true (sym other ∙ ap₂ (λ (s t : List ℕ). set.contains tables (s, t)) it.0 it.1 ∙ one))
    | inr apart ↦ cleared.others (row_of schema table cells) apart
  ]
  others_stay old new false cleared schema table cells other = ap (λ (b : Bag). b (row_of schema table cells)) cleared.rows

  one_copy : (executed was more : Ids) → more ≡ set.insert executed (clear.source, clear.number) → HasJust executed was → HasJust more was
  one_copy executed was more is just = subst (λ s. HasJust s was) (sym is) (within, of_copies)
    where
      within : set.is_subset was (set.insert executed (clear.source, clear.number)) ≡ true
      within = set.contains-is_subset id_cmp_total was _ (λ q has. still executed (clear.source, clear.number) q (set.is_subset-contains id_cmp_total was executed just.0 q has))

      of_copies : AreOfCopies (set.difference (set.insert executed (clear.source, clear.number)) was)
      of_copies q has =
          let both = both_of _ _ (sym (set.contains-difference id_cmp_total (set.insert executed (clear.source, clear.number)) was q) ∙ has) in
          elim (one_more_of executed (clear.source, clear.number) q both.0) [
            | inl it ↦ ap (λ (x : Id). is_of_copy x.0) it ∙ of_copy
            | inr in_it ↦ just.1 q (set.contains-difference id_cmp_total executed was q ∙ beside _ _ in_it both.1)
          ]

  pub given_up : (log : List Logged) (was old new : Content) → HasPoint (AgreesOn (IsKeptTableBeside tables names) old) was log → IsClearedBy names clear old new → HasPoint (AgreesOn (IsKeptTableBeside tables names) new) was log
  given_up log was old new at cleared = at_each (AgreesOn (IsKeptTableBeside tables names) old) (AgreesOn (IsKeptTableBeside tables names) new) log was
      (λ w agrees. record {
        just = one_copy old.executed w.executed new.executed (cleared_set names clear old new (admits names clear.schema clear.table) cleared) agrees.just;
        rows = λ schema table cells of. others_stay old new (admits names clear.schema clear.table) cleared schema table cells of.1 ∙ agrees.rows schema table cells of;
      }) at

-- ---- Two databases.

-- those that have executed the same have the same rows
pub one_at : (names : Names) (log : List Logged) (was a b : Content) → AreLogged was log → HasPoint (AgreesOn (IsKeptTable names) a) was log → HasPoint (AgreesOn (IsKeptTable names) b) was log → a.executed ≡ b.executed
    → (schema table : List ℕ) (cells : List CellValue) → admits names schema table ≡ true → a.rows (row_of schema table cells) ≡ b.rows (row_of schema table cells)
one_at names [] was a b logged at_a at_b same schema table cells of = at_a.rows schema table cells of ∙ sym (at_b.rows schema table cells of)
one_at names (l ∷ ls) was a b logged (inl at_a) (inl at_b) same schema table cells of = at_a.rows schema table cells of ∙ sym (at_b.rows schema table cells of)
one_at names (l ∷ ls) was a b logged (inl at_a) (inr at_b) same schema table cells of =
    absurd (false≢true (sym (not_yet a.executed was.executed (step_id l.step) at_a.just logged.1 (fresh l.step was l.after logged.0)) ∙ ap (λ s. set.contains s (step_id l.step)) same ∙ first_in (IsKeptTable names) b was l ls logged at_b))
one_at names (l ∷ ls) was a b logged (inr at_a) (inl at_b) same schema table cells of =
    absurd (false≢true (sym (not_yet b.executed was.executed (step_id l.step) at_b.just logged.1 (fresh l.step was l.after logged.0)) ∙ ap (λ s. set.contains s (step_id l.step)) (sym same) ∙ first_in (IsKeptTable names) a was l ls logged at_a))
one_at names (l ∷ ls) was a b logged (inr at_a) (inr at_b) same schema table cells of = one_at names ls l.after a b logged.2 at_a at_b same schema table cells of

-- a transaction whose rows are lost where it is skipped
pub lost_at : (names : Names) (log : List Logged) (d : DeliveryValue) (old new after : Content) → AreLogged nothing log → HasSourceRows names log old → AreOfLog names old.executed log (d ∷ []) → HasOutcome names old (record { source = d.source; number = d.number; changes = [] }) (done new)
    → HasSourceRows names log new → HasOutcome names old d (done after) → (schema table : List ℕ) (cells : List CellValue) → admits names schema table ≡ true → after.rows (row_of schema table cells) ≡ old.rows (row_of schema table cells)
lost_at names log d old new after logged at of skipped still_at taken schema table cells kept =
    let whole = log_applied names (IsKeptTable names) (λ s t is. is) log nothing old (d ∷ []) [] 1 after logged at of (inl (after, 0, taken, refl, (refl, refl))) in
    one_at names log nothing after new logged whole still_at (taken.2 ∙ sym skipped.2) schema table cells kept ∙ ap (λ (b : Bag). b (row_of schema table cells)) skipped.1

-- ---- Transactions that are added without their changes.

known_again : (ids : Ids) (x : Id) → set.contains ids x ≡ true → set.insert ids x ≡ ids
known_again ids x has = set.same_set id_cmp_total id_cmp-same (set.insert ids x) ids (λ q. elim (cases_Bool (eq_by_cmp id_cmp q x)) [
  | inl e ↦ set.contains-insert id_cmp_total ids x q ∙ ap (λ b. b || set.contains ids q) e ∙ sym (ap (λ k. set.contains ids k) (id_is q x e) ∙ has)
  | inr e ↦ set.contains-insert id_cmp_total ids x q ∙ ap (λ b. b || set.contains ids q) e
])

abbrev ChangeNone : Names → List DeliveryValue → Type 0
ChangeNone names ds = AllByRecursion (λ (d : DeliveryValue). AllByRecursion (λ c. is_admitted names c ≡ false) d.changes) ds

all_none : (names : Names) (ds : List DeliveryValue) (old : Content) → ChangeNone names ds → (n : ℕ) × AppliesAll names old ds n (with_executed (with_all old.executed ds) old)
all_none names [] old none = (0, (refl, refl))
all_none names (d ∷ ds) old none = elim (cases_Bool (is_executed old d)) [
  | inl known ↦
      let rest = all_none names ds old none.1 in
      (rest.0, inr (known, subst (λ s. AppliesAll names old ds rest.0 (with_executed (with_all s ds) old)) (sym (known_again old.executed (d.source, d.number) known)) rest.1))
  | inr new ↦
      let mid = with_executed (set.insert old.executed (d.source, d.number)) old in
      let rest = all_none names ds mid none.1 in
      (rest.0 + 1, inl (mid, rest.0, (new, none_done names d.changes old.rows none.0, refl), refl, rest.1))
]

pub adopted_at : (names : Names) (log : List Logged) (ds : List DeliveryValue) (ids : Ids) (old : Content) → AreLogged nothing log → HasSourceRows names log old → AreOfLog names old.executed log ds → ChangeNone names ds → set.union old.executed ids ≡ with_all old.executed ds
    → HasSourceRows names log (adopted old ids)
adopted_at names log ds ids old logged at of none same =
    let all = all_none names ds old none in
    subst (λ s. HasSourceRows names log (with_executed s old)) (sym same)
    (log_applied names (IsKeptTable names) (λ schema table is. is) log nothing old ds [] all.0 (with_executed (with_all old.executed ds) old) logged at (subst (AreOfLog names old.executed log) (sym (append-nil ds)) of) all.1)
