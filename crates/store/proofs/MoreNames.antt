-- A filter that is made wider, and what is stored of it.
use Rattle.store.proofs.Names.{◌≡◌, Bool, true, false, cond, ◌||◌, ◌++◌, List, Ok, Err, Result, OnOk, IfErr, refl, sym, ap, subst, subst₂, ◌∙◌, pos, ℕ, [], ◌∷◌, arith, ne_eqb, AllByRecursion, eq_by_cmp, Ordering, Less, Equal, Greater, Trees, Error, Database, State, KeepsCommit, FailsToCommit, Held, Ids, AreGtids, Names, name_list, name_cmp_total, name_cmp-same, Content, with_executed, LiesBeside, SaysLayout, IsMetaRow, AreNames, bag_of, count, follow_rows, span_rows, Records, IsLeastList, IsWorking, AreOf, IsAtRest, SparesBeside, HasMade}
use Rattle.std.specs.FinSet as set
use Rattle.std.specs.List.{list_any}
use Rattle.std.specs.Ordering.{is_eq}
use Rattle.std.proofs.lemmas.List.Folds.{list_any-append}
use Rattle.sqlite_trees.specs.declared.store.Store as store
use Rattle.sqlite.specs.Held.{state}
use Rattle.binlog.specs.Filter.{Name, name_cmp, admits}
use Rattle.binlog.proofs.TableSets.{all_of_none, some_name}
use Rattle.std.specs.Prelude.{Vec, ◌==◌, length}
use Rattle.store.specs.Apply.{Replaces}
use Rattle.store.specs.Changes.{widened}
use Rattle.store.specs.Inside.{StoresNames, HasWidened, Shows as Stored}
use Rattle.store.proofs.Ran.{rests_failed}
use Rattle.store.proofs.CreationCommit.{HasEnded, made_rest}

-- ---- sets of names

same : (a b : Names) → ((q : Name) → set.contains a q ≡ set.contains b q) → a ≡ b
same a b each = set.same_set name_cmp_total name_cmp-same a b each

is_equal : (o : Ordering) → is_eq o ≡ true → o ≡ Equal
is_equal Less h = absurd (cc)
is_equal Equal h = refl
is_equal Greater h = absurd (cc)

none_more : (b : Bool) → (b || false) ≡ b
none_more true = refl
none_more false = refl

pub union_none : (f : Names) → set.union f set.empty ≡ f
union_none f = same (set.union f set.empty) f (λ q. set.contains-union name_cmp_total f set.empty q ∙ ap (λ b. set.contains f q || b) (set.contains-empty name_cmp q) ∙ none_more (set.contains f q))

known_or : (e f s : Bool) → (e ≡ true → f ≡ true) → (f || (e || s)) ≡ (f || s)
known_or e true s h = refl
known_or false false s h = refl
known_or true false s h = absurd (let no = h refl in cc)

union_known : (f s : Names) (n : Name) → set.contains f n ≡ true → set.union f (set.insert s n) ≡ set.union f s
union_known f s n known = same (set.union f (set.insert s n)) (set.union f s) (λ q.
    set.contains-union name_cmp_total f (set.insert s n) q
    ∙ ap (λ b. set.contains f q || b) (set.contains-insert name_cmp_total s n q)
    ∙ known_or (eq_by_cmp name_cmp q n) (set.contains f q) (set.contains s q) (λ e. ap (set.contains f) (name_cmp-same q n (is_equal (name_cmp q n) e)) ∙ known)
    ∙ sym (set.contains-union name_cmp_total f s q))

turn : (e f s : Bool) → (f || (e || s)) ≡ (e || (f || s))
turn true true s = refl
turn true false s = refl
turn false f s = refl

union_new : (f s : Names) (n : Name) → set.union f (set.insert s n) ≡ set.insert (set.union f s) n
union_new f s n = same (set.union f (set.insert s n)) (set.insert (set.union f s) n) (λ q.
    set.contains-union name_cmp_total f (set.insert s n) q
    ∙ ap (λ b. set.contains f q || b) (set.contains-insert name_cmp_total s n q)
    ∙ turn (eq_by_cmp name_cmp q n) (set.contains f q) (set.contains s q)
    ∙ sym (ap (λ b. eq_by_cmp name_cmp q n || b) (set.contains-union name_cmp_total f s q))
    ∙ sym (set.contains-insert name_cmp_total (set.union f s) n q))

-- the names of two lists
pub union_lists : (a b : List Name) → set.from_list {R = name_cmp} (a ++ b) ≡ set.union (set.from_list a) (set.from_list b)
union_lists a b = same (set.from_list (a ++ b)) (set.union (set.from_list a) (set.from_list b)) (λ q.
    set.contains-from_list name_cmp_total (a ++ b) q
    ∙ list_any-append (eq_by_cmp name_cmp q) a b
    ∙ sym (set.contains-union name_cmp_total (set.from_list a) (set.from_list b) q ∙ ap (λ x. x || set.contains (set.from_list {R = name_cmp} b) q) (set.contains-from_list name_cmp_total a q) ∙ ap (λ x. list_any (eq_by_cmp name_cmp q) a || x) (set.contains-from_list name_cmp_total b q)))

-- whether a list of names has none says whether its set admits all
pub no_names : {A : Type 0} (names : List (Vec ℕ A × Vec ℕ A)) (f : Names) → set.from_list (name_list names) ≡ f → (length names == 0) ≡ set.is_subset f set.empty
no_names [] f is = subst (λ s. true ≡ set.is_subset s set.empty) is (sym all_of_none)
no_names (x ∷ xs) f is = subst (λ s. (length (x ∷ xs) == 0) ≡ set.is_subset s set.empty) is (ne_eqb (length (x ∷ xs)) 0 (λ z. omega (arith, z)) ∙ sym (some_name (x.0.items, x.1.items) (name_list xs)))

pub none_is : (f : Names) → set.is_subset f set.empty ≡ true → f ≡ set.empty
none_is f none = same f set.empty (λ q. go q (set.contains f q) refl)
  where
    go : (q : Name) (b : Bool) → set.contains f q ≡ b → set.contains f q ≡ set.contains (set.empty {R = name_cmp}) q
    go q true has = has ∙ sym (set.is_subset-contains name_cmp_total f set.empty none q has)
    go q false has = has ∙ sym (set.contains-empty name_cmp q)

-- the names of two lists, one after the other
pub both_are : (start one two a b : List Name) (f m : Names) → start ≡ [] → one ≡ start ++ a → two ≡ one ++ b → set.from_list a ≡ f → set.from_list b ≡ m → set.from_list two ≡ set.union f m
both_are start one two a b f m none first second is_f is_m =
    ap (λ l. set.from_list {R = name_cmp} l) (second ∙ ap (λ l. l ++ b) (first ∙ ap (λ l. l ++ a) none)) ∙ union_lists a b ∙ subst₂ (λ x y. set.union (set.from_list a) (set.from_list b) ≡ set.union x y) is_f is_m refl

pub widened_none : (f : Names) → widened f set.empty ≡ f
widened_none f = go (set.is_subset f set.empty)
  where
    go : (b : Bool) → cond b f (set.union f set.empty) ≡ f
    go true = refl
    go false = union_none f

pub widened_known : (f s : Names) (n : Name) → admits f n.0 n.1 ≡ true → widened f (set.insert s n) ≡ widened f s
widened_known f s n known = go (set.is_subset f set.empty) known
  where
    go : (b : Bool) → (b || set.contains f n) ≡ true → cond b f (set.union f (set.insert s n)) ≡ cond b f (set.union f s)
    go true h = refl
    go false h = union_known f s n h

pub widened_new : (f s : Names) (n : Name) → admits f n.0 n.1 ≡ false → widened f (set.insert s n) ≡ set.insert (widened f s) n
widened_new f s n new = go (set.is_subset f set.empty) new
  where
    go : (b : Bool) → (b || set.contains f n) ≡ false → cond b f (set.union f (set.insert s n)) ≡ set.insert (cond b f (set.union f s)) n
    go true h = absurd (cc)
    go false h = union_new f s n

pub widened_all : (f more : Names) → set.is_subset f set.empty ≡ true → widened f more ≡ f
widened_all f more none = ap (λ b. cond b f (set.union f more)) none

pub widened_some : (f more : Names) → set.is_subset f set.empty ≡ false → widened f more ≡ set.union f more
widened_some f more some = ap (λ b. cond b f (set.union f more)) some

-- ---- what is stored

pub named_same : (s : State) (names : Names) → IsWorking s → AreNames (follow_rows s.now) names → StoresNames s s names
named_same s names was were = record { working = was; schema = refl; committed = refl; meta = refl; held = refl; spans = refl; names_are = were }

pub named_then : (a b c : State) (m n : Names) → StoresNames a b m → StoresNames b c n → StoresNames a c n
named_then a b c m n one two = record {
  working = two.working;
  schema = two.schema ∙ one.schema;
  committed = two.committed ∙ one.committed;
  meta = two.meta ∙ one.meta;
  held = two.held ∙ one.held;
  spans = two.spans ∙ one.spans;
  names_are = two.names_are;
}

pub has_widened : {E : Type 0} (old mid new : State) (names : Names) (ids : Ids) (r : Result (Unit {0}) E) → StoresNames old mid names → OnOk r (Records mid new ids) → OnOk r (HasWidened old new names ids)
has_widened old mid new names ids (Ok u) named records = record {
  working = records.on.working;
  schema = records.on.schema ∙ named.schema;
  committed = records.on.committed ∙ named.committed;
  meta = records.on.meta ∙ named.meta;
  held = records.held ∙ named.held;
  names_are = subst (λ rows. AreNames rows names) (sym records.on.follow) named.names_are;
  spans = records.spans;
  shows = records.shows;
}
has_widened old mid new names ids (Err e) named records = tt

-- ---- from a commit to the next

module _ {S : Type 0} (g : store.Ghosts S) (h : Held S) (names more : Names) (content : Content) (rest : IsAtRest (state g h) names content) where
  abbrev t : State
  t = state g (record h { in_transaction = true })

  -- what is stored is the set in memory
  pub stored_of : (executed : Ids) → executed ≡ content.executed → Stored (span_rows t.now) rest.stands.executed.spans executed
  stored_of executed is = record { least = subst (IsLeastList rest.stands.executed.spans) (sym is) rest.stands.executed.least; rows_are = rest.stands.executed.rows_are }

  module _ (ids : Ids) (m : State) (lawful : AreGtids ids) (r : HasWidened t m (widened names more) ids) where
    now_made : HasMade m (widened names more) (with_executed ids content)
    now_made = record {
      working = r.working;
      stands = record {
        laid_out = r.working.laid_out;
        says = subst (SaysLayout (pos 2)) (sym r.meta) rest.stands.says;
        meta = subst (AllByRecursion IsMetaRow) (sym r.meta) rest.stands.meta;
        follow = r.names_are;
        held = r.working.lawful;
        executed = record { spans = r.spans; least = r.shows.least; lawful = lawful; rows_are = r.shows.rows_are };
        rows = rest.stands.rows ∙ ap (λ rows. bag_of (count rows)) (sym r.held);
      };
    }

    pub widened_end : (n : State) (done : Result (Unit {0}) Error) → KeepsCommit t m → OnOk done (HasEnded m n) → IfErr done (FailsToCommit m n) → Replaces (widened names more) (with_executed ids content) (state g h) n done
    widened_end n (Ok u) kept shown failed =
        let it = made_rest {E = Error} (widened names more) (with_executed ids content) t m n (Ok u) rest.settled kept now_made shown in
        (it.0, ap (λ (d : Database). d.schema) shown.1.now_is ∙ r.schema, it.1)
    widened_end n (Err e) kept shown failed = rests_failed t m n e rest.settled kept r.working.inside failed

    pub may_widen : (db : Trees) → db ≡ m.now.trees → AreOf h.schema (widened names more) (with_executed ids content) db × SparesBeside (state g h).now db
    may_widen db is = subst₂ (λ s trees. AreOf s (widened names more) (with_executed ids content) trees × LiesBeside t.now (record { schema = s; trees = trees })) r.schema (sym is) (
      record { stands = now_made.stands; sound = r.working.sound; spans_apart = r.working.spans_apart },
      subst (λ c. LiesBeside c m.now) (r.committed ∙ sym rest.settled) r.working.beside,
    )
