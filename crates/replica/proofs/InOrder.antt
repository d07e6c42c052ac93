-- Transactions that are given one at a time and applied in order.
use Rattle.replica.proofs.Names.{◌≡◌, ◌++◌, ◌∷◌, [], ℕ, ◌+◌, ◌≤◌, ◌^◌, ◌-◌, arith, Bool, true, false, List, Some, None, Err, IsTrue, inl, inr, refl, sym, ap, subst, ◌∙◌, append_assoc, append-nil, if◌then◌else◌, Ghosts, Trees, Held, Ids, Names, DeliveryValue, Content, HasOutcome, done, adopted, StoreFault, Store, AreOf, Reason, Refused, Database, Memory, Halted, Until, NotAdopted, AppliesAll, IsRefusedBy, Supply, LeavesOnly, HasChanged}
use Rattle.std.specs.Int.{from_bool}
use Rattle.std.proofs.lemmas.List.{length_push}
use Rattle.sqlite.specs.Held.{state}
use Rattle.store.specs.declared.fault.StoreFault.TheVariants as fault
use Rattle.store.specs.Store.{Holds, Adopts, LeavesAdopted}
use Rattle.store.proofs.ExecutedInMemory as applying
use Rattle.replica.specs.declared.change.changing.ChangeEnd.{ChangeEnd}
use Rattle.replica.specs.declared.change.changing.ChangeEnd.TheVariants.{AllGiven, NotGiven, Stopped, TooMany}
use Rattle.gather.specs.Given.{BeginWith, GivesFirst}
use Rattle.replica.specs.Alone.{IsAppliedOrKnown, IsNotApplied}
use Rattle.replica.specs.Changing.{TakesNext, HasTakenSome}
use Rattle.replica.proofs.Push.{applies_push}

pub gives_none : (all : Supply) → GivesFirst all [] all
gives_none all = record { begins = λ more begin. begin; are_all = λ more is. is }

pub gives_more : (first middle last : Supply) (xs ys : List DeliveryValue) → GivesFirst first xs middle → GivesFirst middle ys last → GivesFirst first (xs ++ ys) last
gives_more first middle last xs ys a b = record {
  begins = λ more begin. subst (λ (ds : List DeliveryValue). BeginWith first ds) (sym (append_assoc xs ys more)) (a.begins (ys ++ more) (b.begins more begin));
  are_all = λ more is. subst (λ (ds : List DeliveryValue). first.are_all ds) (sym (append_assoc xs ys more)) (a.are_all (ys ++ more) (b.are_all more is));
}

-- those that were given are what comes first
pub begin_with : (first last : Supply) (xs : List DeliveryValue) → GivesFirst first xs last → BeginWith first xs
begin_with first last xs a = subst (λ (ds : List DeliveryValue). BeginWith first ds) (append-nil xs) (a.begins [] tt)

-- if none is left, they are all
pub all_of : (first last : Supply) (xs : List DeliveryValue) → GivesFirst first xs last → last.are_all [] → first.are_all xs
all_of first last xs a none = subst (λ (ds : List DeliveryValue). first.are_all ds) (append-nil xs) (a.are_all [] none)

pub gives_all : (first last : Supply) (xs : List DeliveryValue) → GivesFirst first xs last → BeginWith first (xs ++ [])
gives_all first last xs a = a.begins [] tt

-- how many transactions are new of one
pub counts_one : (is_new : Bool) → from_bool is_new ≡ (if is_new then 1 else 0)
counts_one true = refl
counts_one false = refl

pub counts : (is_new : Bool) → from_bool is_new ≤ 1
counts true = omega arith
counts false = omega arith

module _ {S : Type 0} (g : Ghosts S) where
  pub none_taken : (names : Names) (store : Store S g) (old : Content) (left : Supply) → Holds g store old → HasTakenSome g names store old left left 0 0
  none_taken names store old left holds = record { taken = []; gives = gives_none left; counted = refl; new = old; applies = (refl, refl); holds = holds }

  -- one transaction more
  pub one_taken : (names : Names) (before after : Store S g) (old : Content) (left mid rest : Supply) (count applied more : ℕ) (is_new : Bool) → before.following ≡ names → more ≡ (if is_new then 1 else 0)
      → (t : HasTakenSome g names before old left mid count applied) → ((d : DeliveryValue) × GivesFirst mid (d ∷ []) rest × IsAppliedOrKnown g t.new d before after is_new) → HasTakenSome g names after old left rest (count + 1) (applied + more)
  one_taken names before after old left mid rest count applied more is_new same one t next =
      let last = next.2 in
      record {
        taken = t.taken ++ next.0 ∷ [];
        gives = gives_more left mid rest t.taken (next.0 ∷ []) t.gives next.1;
        counted = length_push t.taken next.0 ∙ ap (λ n. n + 1) t.counted;
        new = last.after;
        applies = subst (λ n. AppliesAll names old (t.taken ++ next.0 ∷ []) (applied + n) last.after) (sym one)
            (applies_push names old t.taken applied t.new (next.0 ∷ []) (if is_new then 1 else 0) last.after t.applies
            (subst (λ n. AppliesAll n t.new (next.0 ∷ []) (if is_new then 1 else 0) last.after) same last.applies));
        holds = last.holds;
      }

module _ {S : Type 0} (g : Ghosts S) (settled : (h : Held S) (db : Trees) → IsTrue (state g h).is_open → (state g h).may_leave db → db ≡ (state g h).committed.trees) where
  -- a crash leaves of a whole store what it holds
  pub whole_leaves : (content : Content) (store : Store S g) (P : Content → Type 0) → P content → Holds g store content → LeavesOnly g (state g store.conn).now.schema store P
  whole_leaves content store P is holds = record { each = λ trees may. (content, applying.stays g store.following content settled store.conn trees holds.rest may, is) }

  -- no further one was asked for
  pub until_ended : {E : Type 0} (names : Names) (store : Store S g) (old : Content) (ids : Ids) (left rest : Supply) (count applied : ℕ)
      → HasTakenSome g names store (adopted old ids) left rest count applied → HasChanged g {E = E} names store old ids left applied (Stopped Until)
  until_ended names store old ids left rest count applied t = record {
    change = record { taken = t.taken; last = None; gives = gives_all left rest t.taken t.gives; new = t.new; applies = t.applies; why = refl };
    is = false;
    holds = t.holds;
    schema = (state g store.conn).now.schema;
    leaves = whole_leaves t.new store _ (inl refl) t.holds;
  }

  pub too_many : {E : Type 0} (names : Names) (store : Store S g) (old : Content) (ids : Ids) (left rest : Supply) (count applied : ℕ) → count ≡ 2 ^ 64 - 1
      → HasTakenSome g names store (adopted old ids) left rest count applied → HasChanged g {E = E} names store old ids left applied TooMany
  too_many names store old ids left rest count applied is t = record {
    change = record { taken = t.taken; last = None; gives = gives_all left rest t.taken t.gives; new = t.new; applies = t.applies; why = (refl, t.counted ∙ is) };
    is = false;
    holds = t.holds;
    schema = (state g store.conn).now.schema;
    leaves = whole_leaves t.new store _ (inl refl) t.holds;
  }

  module _ (names : Names) (before after : Store S g) (old : Content) (ids : Ids) (left mid rest : Supply) (count applied : ℕ) (same : before.following ≡ names) (later : after.following ≡ before.following)
      (t : HasTakenSome g names before (adopted old ids) left mid count applied) where
    -- the last one that was given was not applied
    pub not_applied : {E : Type 0} (reason : Reason) → ((d : DeliveryValue) × GivesFirst mid (d ∷ []) rest × IsNotApplied g t.new d before after reason) → HasChanged g {E = E} names after old ids left applied (Stopped reason)
    not_applied (Refused refusal) it = record {
      change = record {
        taken = t.taken;
        last = Some it.0;
        gives = begin_with left rest (t.taken ++ it.0 ∷ []) (gives_more left mid rest t.taken (it.0 ∷ []) t.gives it.1);
        new = t.new;
        applies = t.applies;
        why = subst (λ n. IsRefusedBy n t.new it.0 refusal) same it.2.0;
      };
      is = false;
      holds = it.2.1;
      schema = (state g after.conn).now.schema;
      leaves = whole_leaves t.new after _ (inl refl) it.2.1;
    }
    not_applied (Database (fault.Database e)) it = record {
      change = record {
        taken = t.taken;
        last = Some it.0;
        gives = begin_with left rest (t.taken ++ it.0 ∷ []) (gives_more left mid rest t.taken (it.0 ∷ []) t.gives it.1);
        new = t.new;
        applies = t.applies;
        why = it.2.fresh;
      };
      is = true;
      holds = it.2.failed;
      schema = (state g before.conn).now.schema;
      leaves = record {
        each = λ trees may.
            let l = it.2.leaves trees may in (
              l.0,
              subst (λ n. AreOf (state g before.conn).now.schema n l.0 trees) (sym later) l.1,
              elim l.2 [
                | inl whole ↦ inl whole
                | inr more ↦ inr (subst (λ n. HasOutcome n t.new it.0 (done l.0)) same more)
              ],
            );
      };
    }
    not_applied Memory it = record {
      change = record {
        taken = t.taken;
        last = Some it.0;
        gives = begin_with left rest (t.taken ++ it.0 ∷ []) (gives_more left mid rest t.taken (it.0 ∷ []) t.gives it.1);
        new = t.new;
        applies = t.applies;
        why = it.2.fresh;
      };
      is = true;
      holds = it.2.failed;
      schema = (state g before.conn).now.schema;
      leaves = record {
        each = λ trees may.
            let l = it.2.leaves trees may in
            (l.0, subst (λ n. AreOf (state g before.conn).now.schema n l.0 trees) (sym later) l.1, inl l.2);
      };
    }
    not_applied Halted it = record {
      change = record {
        taken = t.taken;
        last = Some it.0;
        gives = begin_with left rest (t.taken ++ it.0 ∷ []) (gives_more left mid rest t.taken (it.0 ∷ []) t.gives it.1);
        new = t.new;
        applies = t.applies;
        why = it.2.0;
      };
      is = false;
      holds = it.2.1;
      schema = (state g after.conn).now.schema;
      leaves = whole_leaves t.new after _ (inl refl) it.2.1;
    }
    not_applied _ it = absurd it.2

    -- no further one was given, or the last one was not applied
    pub ended : {E : Type 0} (end : ChangeEnd E) → TakesNext g t.new before after mid rest (Err end) → HasChanged g names after old ids left applied end
    ended AllGiven it =
        let holds : Holds g after t.new = subst (λ (s : Store S g). Holds g s t.new) (sym it.2) t.holds in
        record {
          change = record {
            taken = t.taken;
            last = None;
            gives = begin_with left rest (t.taken ++ []) (gives_more left mid rest t.taken [] t.gives it.0);
            new = t.new;
            applies = t.applies;
            why = (refl, subst (λ (ds : List DeliveryValue). left.are_all ds) (append-nil t.taken) (all_of left rest (t.taken ++ []) (gives_more left mid rest t.taken [] t.gives it.0) it.1));
          };
          is = false;
          holds = holds;
          schema = (state g after.conn).now.schema;
          leaves = whole_leaves t.new after _ (inl refl) holds;
        }
    ended (NotGiven cause) it =
        let holds : Holds g after t.new = subst (λ (s : Store S g). Holds g s t.new) (sym it.1) t.holds in
        record {
          change = record {
            taken = t.taken;
            last = None;
            gives = begin_with left rest (t.taken ++ []) (gives_more left mid rest t.taken [] t.gives it.0);
            new = t.new;
            applies = t.applies;
            why = refl;
          };
          is = false;
          holds = holds;
          schema = (state g after.conn).now.schema;
          leaves = whole_leaves t.new after _ (inl refl) holds;
        }
    ended (Stopped reason) it = not_applied reason it
    ended TooMany it = absurd it
    ended (NotAdopted f) it = absurd it

-- the set was not adopted
module _ {S : Type 0} (g : Ghosts S) where
  pub not_adopted : {E : Type 0} (before after : Store S g) (old : Content) (ids : Ids) (left : Supply) (f : StoreFault) → after.following ≡ before.following → Adopts g old ids before after (Err f)
      → ((trees : Trees) → (state g after.conn).may_leave trees → LeavesAdopted (state g before.conn).now.schema before.following old ids (Err f) trees) → HasChanged g {E = E} before.following after old ids left 0 (NotAdopted f)
  not_adopted before after old ids left (fault.Database e) later it leaves = record {
    change = record { taken = []; last = None; gives = tt; new = old; applies = (refl, refl); why = (refl, refl, tt) };
    is = true;
    holds = it;
    schema = (state g before.conn).now.schema;
    leaves = record {
      each = λ trees may. elim (leaves trees may) [
        | inl whole ↦ (old, subst (λ n. AreOf (state g before.conn).now.schema n old trees) (sym later) whole, inl refl)
        | inr more ↦ (adopted old ids, subst (λ n. AreOf (state g before.conn).now.schema n (adopted old ids) trees) (sym later) more, inr refl)
      ];
    };
  }
  not_adopted before after old ids left fault.Memory later it leaves = record {
    change = record { taken = []; last = None; gives = tt; new = old; applies = (refl, refl); why = (refl, refl, tt) };
    is = true;
    holds = it.0;
    schema = (state g before.conn).now.schema;
    leaves = record { each = λ trees may. (old, subst (λ n. AreOf (state g before.conn).now.schema n old trees) (sym later) (leaves trees may), inl refl) };
  }
  not_adopted before after old ids left _ later it leaves = absurd it
