-- A store to whose executed set another set was added.
use Rattle.replica.proofs.Names.{◌≡◌, ℕ, List, true, inl, inr, Ok, Err, IsTrue, refl, sym, subst, Ghosts, Trees, Held, Ids, Content, adopted, StoreFault, Store, AreOf}
use Rattle.std.specs.FinSet as set
use Rattle.sqlite.specs.Held.{state}
use Rattle.store.specs.declared.fault.StoreFault.TheVariants as fault
use Rattle.store.specs.Store.{Holds, Adopts, LeavesAdopted}
use Rattle.replica.specs.declared.file.adopting.AdoptFault.TheVariants.{Unfinished, Begins, Failed}
use Rattle.replica.specs.Marks.{is_unfinished, NoneUnfinished}
use Rattle.replica.specs.Adopt.{AdoptsTo, IsLeftOfAdopt}
use Rattle.replica.specs.Work.{HasWorked}
use Rattle.replica.proofs.ClearStore.{stays_whole}

module _ {S : Type 0} (g : Ghosts S) (settled : (h : Held S) (db : Trees) → IsTrue (state g h).is_open → (state g h).may_leave db → db ≡ (state g h).committed.trees) where
  pub all_added : (after : Store S g) (old : Content) (ids added : Ids) → added ≡ set.difference ids old.executed → NoneUnfinished old.executed → NoneUnfinished (adopted old ids).executed → Holds g after (adopted old ids) → HasWorked g (AdoptsTo old ids (Ok added)) (IsLeftOfAdopt old ids (Ok added)) after
  all_added after old ids added is none still holds = record { new = adopted old ids; leads = (is, none, still, refl); stays = stays_whole g settled after (adopted old ids) (λ left. left ≡ adopted old ids) refl holds }

  -- memory ran out before
  pub none_added : (after : Store S g) (old : Content) (ids : Ids) → NoneUnfinished old.executed → Holds g after old → HasWorked g (AdoptsTo old ids (Err (Failed fault.Memory))) (IsLeftOfAdopt old ids (Err (Failed fault.Memory))) after
  none_added after old ids none holds = record { new = old; leads = (none, tt, refl); stays = stays_whole g settled after old (λ left. left ≡ old) refl holds }

  -- a copy is unfinished, or would be
  pub is_refused : (after : Store S g) (old : Content) (ids : Ids) (source : List ℕ) → is_unfinished old.executed source ≡ true → Holds g after old → HasWorked g (AdoptsTo old ids (Err (Unfinished source))) (IsLeftOfAdopt old ids (Err (Unfinished source))) after
  is_refused after old ids source is holds = record { new = old; leads = (is, refl); stays = stays_whole g settled after old (λ left. left ≡ old) refl holds }

  pub would_begin : (after : Store S g) (old : Content) (ids : Ids) (source : List ℕ) → NoneUnfinished old.executed → is_unfinished (adopted old ids).executed source ≡ true → Holds g after old → HasWorked g (AdoptsTo old ids (Err (Begins source))) (IsLeftOfAdopt old ids (Err (Begins source))) after
  would_begin after old ids source none is holds = record { new = old; leads = (none, is, refl); stays = stays_whole g settled after old (λ left. left ≡ old) refl holds }

-- none is unfinished, by the store's set
pub none_by : (content : Content) (executed : Ids) → executed ≡ content.executed → NoneUnfinished executed → NoneUnfinished content.executed
none_by content executed same none = subst NoneUnfinished same none

pub still_none_by : (content : Content) (ids executed : Ids) → executed ≡ content.executed → (NoneUnfinished executed → NoneUnfinished (set.union executed ids)) → NoneUnfinished content.executed → NoneUnfinished (adopted content ids).executed
still_none_by content ids executed same still none = subst (λ x. NoneUnfinished (set.union x ids)) same (still (subst NoneUnfinished (sym same) none))

module _ {S : Type 0} (g : Ghosts S) where
  pub not_added : (before after : Store S g) (old : Content) (ids : Ids) (f : StoreFault) → after.following ≡ before.following → Adopts g old ids before after (Err f)
      → ((trees : Trees) → (state g after.conn).may_leave trees → LeavesAdopted (state g before.conn).now.schema before.following old ids (Err f) trees) → NoneUnfinished old.executed → HasWorked g (AdoptsTo old ids (Err (Failed f))) (IsLeftOfAdopt old ids (Err (Failed f))) after
  not_added before after old ids (fault.Database e) later it leaves none = record {
    new = old;
    leads = (none, tt, refl);
    stays = record {
      executed = it.executed;
      rest = it.rest;
      schema = (state g before.conn).now.schema;
      leaves = record {
        each = λ trees may. elim (leaves trees may) [
          | inl whole ↦ (old, subst (λ n. AreOf (state g before.conn).now.schema n old trees) (sym later) whole, inl refl)
          | inr more ↦ (adopted old ids, subst (λ n. AreOf (state g before.conn).now.schema n (adopted old ids) trees) (sym later) more, inr refl)
        ];
      };
    };
  }
  not_added before after old ids fault.Memory later it leaves none = record {
    new = old;
    leads = (none, tt, refl);
    stays = record {
      executed = it.0.executed;
      rest = it.0.rest;
      schema = (state g before.conn).now.schema;
      leaves = record { each = λ trees may. (old, subst (λ n. AreOf (state g before.conn).now.schema n old trees) (sym later) (leaves trees may), refl) };
    };
  }
  not_added before after old ids _ later it leaves none = absurd it
