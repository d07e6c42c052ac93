-- Which tables a known schema has, and one reading after another.
use Rattle.store.proofs.Names.{◌≡◌, ℤ, pos, Bool, true, false, is_some, not, MatchBool, Option, Some, List, Result, IfOk, IfErr, ◌||◌, ◌&&◌, arith, refl, sym, ap, subst, ◌∙◌, false≢true, true≢false, and_parts, not-false, not-true, Trees, Schema, State, Survives, IsUnchanged, HasCleanDisk, survives_then, Ids, Names, StoreFault, IsFirstLaidOut, HasMeta, IsLaidOut, IsVacant, AllByRecursion, Row, IsOnly, layouts, SaysLayout, meta_rows, IsMetaRow, LiesBeside, MayStandFor, IsReady, IsOf, IsTurned, MayEnter, names_for, tables_of, has_any}
use Rattle.std.proofs.lemmas.Result.{IfOk-weaker, IfErr-weaker}
use Rattle.sqlite.specs.Effect.{Database as Stored}
use Rattle.store.specs.declared.layout.Tables.{Tables}
use Rattle.store.specs.declared.layout.KnownLayout.{KnownLayout}
use Rattle.store.specs.declared.layout.KnownLayout.TheVariants.{First, Second}
use Rattle.store.specs.declared.table.meta.Meta.{Meta}
use Rattle.store.specs.Judge.{IsMeta}
use Rattle.store.specs.Load.{StatesLayout, HasLayout, IsCalm, Enters, EntersWhere}
use Rattle.store.specs.declared.load.Loaded.{Loaded}
use Rattle.store.specs.Entering.{IsKnown, IsDamaged, lacks_first, lacks_second, breaks_first, breaks_second, blank, first, second, lacking, IsWhy, IsEntered, has_first, has_second}
use Rattle.store.proofs.Lives.{narrowed}
use Rattle.store.proofs.OnlyReading.{spares_then}
use Rattle.store.proofs.OpeningOutcome.{rests_after, weaken}

-- ---- known schemas

pub none_meta : (schema : Schema) → IsVacant schema → (tables_of schema).meta ≡ false
none_meta schema v = ap is_some v.no_meta

pub none_any : (schema : Schema) → IsVacant schema → has_any (tables_of schema) ≡ false
none_any schema v = rw (v.no_meta, v.no_executed, v.no_held, v.no_spans, v.no_follow) refl

none_first : (schema : Schema) → IsVacant schema → has_first (tables_of schema) ≡ false
none_first schema v = rw (v.no_executed) refl

none_second : (schema : Schema) → IsVacant schema → has_second (tables_of schema) ≡ false
none_second schema v = rw (v.no_held) refl

and_none : (a b : Bool) → (a && (false && b)) ≡ false
and_none true b = refl
and_none false b = refl

first_second : (schema : Schema) → IsFirstLaidOut schema → has_second (tables_of schema) ≡ false
first_second schema l = rw (l.no_spans) (and_none (tables_of schema).held (tables_of schema).follow)

pub known_meta : (db : Stored) → IsKnown db → (tables_of db.schema).meta ≡ true → HasMeta db.schema
known_meta db (blank is) there = absurd (false≢true (sym (none_meta db.schema is) ∙ there))
known_meta db (first is) there = is.meta
known_meta db (second laid none) there = laid.meta
known_meta db (lacking meta one two) there = meta

pub known_first : (db : Stored) → IsKnown db → SaysLayout (pos 1) (meta_rows db) → has_first (tables_of db.schema) ≡ true → IsFirstLaidOut db.schema
known_first db (blank is) says there = absurd (false≢true (sym (none_first db.schema is) ∙ there))
known_first db (first is) says there = is
known_first db (second laid none) says there = absurd (none (and_parts _ _ there).0 says)
known_first db (lacking meta one two) says there = absurd (false≢true (sym (one says) ∙ there))

pub known_second : (db : Stored) → IsKnown db → SaysLayout (pos 2) (meta_rows db) → has_second (tables_of db.schema) ≡ true → IsLaidOut db.schema
known_second db (blank is) says there = absurd (false≢true (sym (none_second db.schema is) ∙ there))
known_second db (first is) says there = absurd (false≢true (sym (first_second db.schema is) ∙ there))
known_second db (second laid none) says there = laid
known_second db (lacking meta one two) says there = absurd (false≢true (sym (two says) ∙ there))

-- ---- one reading after another
ready_after : (old mid : State) → IsUnchanged old mid → IsReady old → IsReady mid
ready_after old mid same ready = record {
  is_open = same.0.is_open;
  settled = same.0.now_is ∙ ready.settled ∙ sym same.0.committed_is;
  known = subst IsKnown (sym same.0.now_is) ready.known;
}

module _ (only : Option Names) (old mid new : State) (same : IsUnchanged old mid) where
  entered_after : (executed : Ids) (names : Names) → IsEntered only mid new executed names → IsEntered only old new executed names
  entered_after executed names e = record {
    content = e.content;
    of = subst (λ (db : Stored). IsOf (names_for only) names db e.content) same.0.now_is e.of;
    rest = e.rest;
    executed_is = e.executed_is;
    wanted = e.wanted;
    beside = subst (λ (db : Stored). LiesBeside db new.now) same.0.now_is e.beside;
    same = λ laid. e.same (subst (λ (db : Stored). IsLaidOut db.schema) (sym same.0.now_is) laid) ∙ same.0.now_is;
  }

  turned_after : (fault : StoreFault) → IsTurned only mid new fault → IsTurned only old new fault
  turned_after fault t = (subst (λ (db : Stored). IsWhy only db fault) same.0.now_is t.0, rests_after old mid new same t.1)

may_after : (only : Names) (old mid : State) (db : Trees) → IsUnchanged old mid → MayEnter only mid db → MayEnter only old db
may_after only old mid db same m = record {
  names = m.names;
  content = m.content;
  of = subst (λ (d : Stored). IsOf only m.names d m.content) same.0.now_is m.of;
  may = subst (λ (d : Stored). MayStandFor d m.names m.content db) same.0.now_is m.may;
}

may_then : (only : Names) (old mid new : State) → Survives old mid (λ _. ⊥) → Survives mid new (λ _. Unit {0}) → (HasCleanDisk mid → IsUnchanged old mid) → (HasCleanDisk mid → Survives mid new (MayEnter only mid)) → Survives old new (MayEnter only old)
may_then only old mid new one lives same may =
    let two : Survives mid new (MayEnter only mid) = narrowed mid new (MayEnter only mid) (λ _. Unit {0}) lives (λ clean. may (omega (arith, lives.clean, clean))) in
    survives_then old mid new (λ _. ⊥) (MayEnter only mid) (MayEnter only old) (λ _ db none. absurd none) (λ clean db m. may_after only old mid db (same (omega (arith, lives.clean, clean))) m) one two

-- a database of this layout that was read, and is ready as before
pub record IsFound (mid : State) (layout : KnownLayout) : Type 0 where
  pub ready : IsReady mid
  pub has : HasLayout mid.now layout

found : (old mid : State) (layout : KnownLayout) → IsReady old → IsUnchanged old mid → HasLayout old.now layout → IsFound mid layout
found old mid layout ready same has = record { ready = ready_after old mid same ready; has = subst (λ (db : Stored). HasLayout db layout) (sym same.0.now_is) has }

-- It is entered then.
module _ (only : Option Names) (old mid new : State) (layout : KnownLayout) (r : Result Loaded StoreFault) (enters : Enters only layout mid new r) (ready : IsReady old)
    (same : HasCleanDisk mid → IsUnchanged old mid) (has : HasCleanDisk mid → HasLayout old.now layout) where
  early : HasCleanDisk new → HasCleanDisk mid
  early clean = omega (arith, enters.lives.clean, clean)

  reached : HasCleanDisk mid → IsFound mid layout
  reached clean = found old mid layout ready (same clean) (has clean)

  entered_then : HasCleanDisk new → IfOk r (λ l. IsEntered only old new l.executed l.following)
  entered_then clean =
      let it = reached (early clean) in
      IfOk-weaker r _ _ (λ l e. entered_after only old mid new (same (early clean)) l.executed l.following e) (enters.entered clean it.ready it.has)

  turned_then : (tables_of old.now.schema).meta ≡ true → HasCleanDisk new → IfErr r (IsTurned only old new)
  turned_then meta clean =
      let it = reached (early clean) in
      IfErr-weaker r _ _ (λ fault t. turned_after only old mid new (same (early clean)) fault t) (enters.turned clean it.ready it.has (ap (λ (db : Stored). (tables_of db.schema).meta) (same (early clean)).0.now_is ∙ meta))

  crash_then : Survives old mid (λ _. ⊥) → Survives old new (MayEnter (names_for only) old)
  crash_then one = may_then (names_for only) old mid new one enters.lives same (λ clean. let it = reached clean in enters.crash it.ready it.has)

-- The same of a database of which this holds, whatever it was before.
module _ {so : Type 0} {only : Option Names} {old mid new : State} {layout : KnownLayout} {r : Result Loaded StoreFault} (clean : HasCleanDisk mid → HasCleanDisk old) (calm : IsCalm old mid) (one : IsReady old → so → Survives old mid (λ _. ⊥))
    (same : IsReady old → so → HasCleanDisk mid → IsUnchanged old mid) (has : IsReady old → so → HasCleanDisk mid → HasLayout old.now layout) (meta : so → (tables_of old.now.schema).meta ≡ true)
    (enters : Enters only layout mid new r) where
  pub enters_then : EntersWhere so only old new r
  enters_then = record {
    entered = λ late ready is. entered_then only old mid new layout r enters ready (same ready is) (has ready is) late;
    turned = λ late ready is. turned_then only old mid new layout r enters ready (same ready is) (has ready is) (meta is) late;
    crash = λ ready is. crash_then only old mid new layout r enters ready (same ready is) (has ready is) (one ready is);
    spares = spares_then old mid new r calm (λ late. omega (arith, enters.lives.clean, late)) enters.spares;
    fault = enters.fault;
    clean = λ late. clean (omega (arith, enters.lives.clean, late));
    autocommit = enters.autocommit;
  }

pub meta_there : (schema : Schema) → HasMeta schema → (tables_of schema).meta ≡ true
meta_there schema m = ap is_some m.found.by_name

any_there : (t : Tables) → t.meta ≡ true → has_any t ≡ true
any_there t is = ap (λ b. b || (t.executed || (t.held || (t.spans || t.follow)))) is

none_without_meta : (schema : Schema) → has_any (tables_of schema) ≡ false → HasMeta schema → ⊥
none_without_meta schema none m = true≢false (sym (any_there (tables_of schema) (meta_there schema m)) ∙ none)

pub known_none : (db : Stored) → IsKnown db → has_any (tables_of db.schema) ≡ false → IsVacant db.schema
known_none db (blank is) none = is
known_none db (first is) none = absurd (none_without_meta db.schema none is.meta)
known_none db (second laid other) none = absurd (none_without_meta db.schema none (laid.meta))
known_none db (lacking meta one two) none = absurd (none_without_meta db.schema none meta)

-- ---- what the rows of meta say

pub there : (old : State) (tables : Tables) → tables ≡ tables_of old.now.schema → tables.meta ≡ true → (tables_of old.now.schema).meta ≡ true
there old tables is has = ap (λ t. t.meta) (sym is) ∙ has

pub has_meta : (old : State) (tables : Tables) → IsReady old → tables ≡ tables_of old.now.schema → tables.meta ≡ true → HasMeta old.now.schema
has_meta old tables ready is has = known_meta old.now ready.known (there old tables is has)

pub says_at : (rows : List Row) (m : Meta) (k n : ℤ) → IsMeta rows m → m.layout ≡ Some k → k ≡ n → SaysLayout n rows
says_at rows m k n h is one = subst (λ x. SaysLayout x rows) one (subst (IsOnly (layouts rows)) is h.layout)

abbrev Judged : List Row → Bool → Type 0
Judged rows b = MatchBool b (AllByRecursion IsMetaRow rows) (¬ AllByRecursion IsMetaRow rows)

pub states_at : (rows : List Row) (m : Meta) (n : ℤ) → IsMeta rows m → SaysLayout n rows → not m.lawful ≡ false → StatesLayout n rows
states_at rows m n h says is = record { says = says; lawful = subst (Judged rows) (not-false m.lawful is) h.lawful; apart = h.apart }

pub breaks_meta : (rows : List Row) (m : Meta) → IsMeta rows m → not m.lawful ≡ true → ¬ AllByRecursion IsMetaRow rows
breaks_meta rows m h is = subst (Judged rows) (not-true m.lawful is) h.lawful

pub breaks_meta_second : (db : Stored) → IsLaidOut db.schema → (m : Meta) → IsMeta (meta_rows db) m → not m.lawful ≡ true → ¬ AllByRecursion IsMetaRow (meta_rows db)
breaks_meta_second db laid m h is all = breaks_meta (meta_rows db) m h is all

pub may_none : (only : Names) (old mid : State) → Survives old mid (λ _. ⊥) → Survives old mid (MayEnter only old)
may_none only old mid s = weaken old mid (λ _. ⊥) (MayEnter only old) (λ _ none. absurd none) s

-- ---- the layout of a database, from its tables and what its meta says
module _ (db : Stored) (known : IsKnown db) (tables : Tables) (m : Meta) (meta : IsMeta (meta_rows db) m) (is : tables ≡ tables_of db.schema) (has : tables.meta ≡ true) (k : ℤ) (layout : m.layout ≡ Some k) where
  there_is : (tables_of db.schema).meta ≡ true
  there_is = ap (λ t. t.meta) (sym is) ∙ has

  says : (n : ℤ) → k ≡ n → SaysLayout n (meta_rows db)
  says n one = says_at (meta_rows db) m k n meta layout one

  pub without_first : k ≡ pos 1 → has_first tables ≡ false → IsDamaged db
  without_first one none = lacks_first there_is (says (pos 1) one) (ap has_first (sym is) ∙ none)

  pub unlawful_first : k ≡ pos 1 → not m.lawful ≡ true → IsDamaged db
  unlawful_first one broken = breaks_first there_is (says (pos 1) one) (λ rules. breaks_meta (meta_rows db) m meta broken rules.meta)

  pub whole_first : k ≡ pos 1 → has_first tables ≡ true → not m.lawful ≡ false → HasLayout db First
  whole_first one all lawful = (known_first db known (says (pos 1) one) (ap has_first (sym is) ∙ all), states_at (meta_rows db) m (pos 1) meta (says (pos 1) one) lawful)

  pub without_second : k ≡ pos 2 → has_second tables ≡ false → IsDamaged db
  without_second two none = lacks_second there_is (says (pos 2) two) (ap has_second (sym is) ∙ none)

  second_laid : k ≡ pos 2 → has_second tables ≡ true → IsLaidOut db.schema
  second_laid two all = known_second db known (says (pos 2) two) (ap has_second (sym is) ∙ all)

  pub unlawful_second : k ≡ pos 2 → has_second tables ≡ true → not m.lawful ≡ true → IsDamaged db
  unlawful_second two all broken = breaks_second there_is (says (pos 2) two) (λ rules. breaks_meta_second db (second_laid two all) m meta broken rules.meta)

  pub whole_second : k ≡ pos 2 → has_second tables ≡ true → not m.lawful ≡ false → HasLayout db Second
  whole_second two all lawful = (second_laid two all, states_at (meta_rows db) m (pos 2) meta (says (pos 2) two) lawful)
