-- Private: a store into which a first copy is loaded.
use Rattle.std.specs.Prelude.{◌≡◌, ℕ, true, false, [], Result, Ok, Err}
use Rattle.std.specs.FinSet as set
use Rattle.sqlite_trees.specs.declared.store.Store.{Ghosts}
use Rattle.gtid.specs.Identifier.{Id, Ids}
use Rattle.binlog.specs.Filter.{Names}
use Rattle.store.specs.State.{Content}
use Rattle.store.specs.Changes.{adopted}
use Rattle.store.specs.Listing.{Entry}
use Rattle.store.specs.declared.store.Store.{Store}
use Rattle.store.specs.Store.{Holds, Keeps}
use Rattle.replica.specs.declared.change.loading.FoundRow.{FoundRow}
use Rattle.replica.specs.declared.change.loading.FoundRow.TheVariants.{Row, Memory}
use Rattle.replica.specs.declared.change.loading.LoadEnd.{LoadEnd}
use Rattle.replica.specs.declared.change.loading.LoadEnd.TheVariants.{Changed, HadEnded, Refused}
use Rattle.replica.specs.declared.change.loading.Unloadable.{Unloadable}
use Rattle.replica.specs.Over.{HasStayed}
use Rattle.replica.specs.Noted.{Account, IsLedSinceOpening}
use Rattle.replica.specs.Change.{IsAdopted}
use Rattle.replica.specs.Changing.{HasChanged}
use Rattle.replica.specs.Copies.{Copy, MayLoad, MayNotLoad, IsNotGivenUp, with_marks}

-- The row is of none of the tables, or is found to be of one.
abbrev pub IsLookedAt : Names → Entry → Result (Unit {0}) FoundRow → Type 0
IsLookedAt tables entry (Ok u) = set.contains tables (entry.0.schema, entry.0.table) ≡ false
IsLookedAt tables entry (Err (Row name)) =
    (set.contains tables (entry.0.schema, entry.0.table) ≡ true) × (name.schema.items ≡ entry.0.schema) × (name.table.items ≡ entry.0.table)
IsLookedAt tables entry (Err Memory) = Unit {0}

module _ {S : Type 0} (g : Ghosts S) where
  -- The copy, which has not ended, may be loaded, and the store holds the same content; or it may not, for this reason, and the store
  -- keeps that content.
  abbrev pub JudgesCopy : Names → Content → Ids → Id → Names → Store S g → Result (Unit {0}) Unloadable → Type 0
  JudgesCopy names content ids first tables new (Ok u) = Holds g new content × MayLoad names content ids first tables
  JudgesCopy names content ids first tables new (Err why) = Keeps g new content × MayNotLoad names content ids first tables why

  -- The store holds the content that was led to, or the one from before; and this is what a crash leaves.
  abbrev pub HasLoaded : {E : Type 0} → Names → Store S g → Content → Copy → ℕ → LoadEnd E → Type 0
  HasLoaded names store old copy applied (Changed end) = MayLoad names old copy.ids copy.first copy.tables × HasChanged g names store old (with_marks copy.ids copy.first) copy.left applied end
  HasLoaded names store old copy applied HadEnded = IsNotGivenUp old.executed copy.first true × HasStayed g store old (λ left. left ≡ old)
  HasLoaded names store old copy applied (Refused why) = MayNotLoad names old copy.ids copy.first copy.tables why × HasStayed g store old (λ left. left ≡ old)

  -- What was reported since the set was added leads from the content with it to the one that the store holds.
  abbrev pub IsLedByLoad : {E : Type 0} → Store S g → Store S g → Content → Copy → Account → Account → LoadEnd E → Type 0
  IsLedByLoad before after old copy was is (Changed end) = IsAdopted end → IsLedSinceOpening g before after false (adopted old (with_marks copy.ids copy.first)) was is []
  IsLedByLoad before after old copy was is _ = Unit {0}
