-- What loading a first copy comes to: its rows are added, each once, and its transactions are executed.
use Rattle.std.specs.Prelude.{◌≡◌, ℕ, ◌+◌, ◌≤◌, ◌<◌, true, false, List, [], ◌∷◌, ◌++◌}
use Rattle.std.specs.FinSet as set
use Rattle.gtid.specs.Identifier.{Ids}
use Rattle.binlog.specs.Filter.{Names, admits}
use Rattle.gather.specs.Transaction.{ChangeValue, insert, DeliveryValue}
use Rattle.store.specs.State.{TableRow, row_of, Bag}
use Rattle.store.specs.Changes.{IsAdded}
use Rattle.replica.specs.Marks.{begun_number, ended_number}

-- The rows are added in this order, each once.
abbrev pub AreAdded : List TableRow → Bag → Bag → Type 0
AreAdded [] old new = new ≡ old
AreAdded (row ∷ rows) old new = (mid : Bag) × IsAdded row old mid × AreAdded rows mid new

-- The changes add these rows, whose tables the filter admits.
abbrev pub AreAdditions : Names → List ChangeValue → List TableRow → Type 0
AreAdditions names [] rows = rows ≡ []
AreAdditions names (insert schema table cells ∷ changes) rows =
    (others : List TableRow) × (rows ≡ row_of schema table cells ∷ others) × (admits names schema table ≡ true) × AreAdditions names changes others
AreAdditions names (_ ∷ changes) rows = ⊥

-- The transactions add these rows.
abbrev pub AreCopied : Names → List DeliveryValue → List TableRow → Type 0
AreCopied names [] rows = rows ≡ []
AreCopied names (d ∷ ds) rows = (first : List TableRow) × (others : List TableRow) × (rows ≡ first ++ others) × AreAdditions names d.changes first × AreCopied names ds others

-- The transactions are of this source, and have the numbers from this one on.
abbrev pub AreNumbered : List ℕ → ℕ → List DeliveryValue → Type 0
AreNumbered source number [] = Unit {0}
AreNumbered source number (d ∷ ds) = (d.source ≡ source) × (d.number ≡ number) × AreNumbered source (number + 1) ds

-- No transaction of a copy with rows is executed from this number on, nor the one that says that the copy has ended.
pub record NoneExecuted (source : List ℕ) (number : ℕ) (executed : Ids) : Type 0 where
  pub rows : (n : ℕ) → number ≤ n → n < begun_number → set.contains executed (source, n) ≡ false
  pub end : set.contains executed (source, ended_number) ≡ false

-- the set with the GTIDs of these transactions
abbrev pub with_all : Ids → List DeliveryValue → Ids
with_all ids [] = ids
with_all ids (d ∷ ds) = with_all (set.insert ids (d.source, d.number)) ds

-- None of the transactions is in the set.
abbrev pub AreOutside : Ids → List DeliveryValue → Type 0
AreOutside ids [] = Unit {0}
AreOutside ids (d ∷ ds) = (set.contains ids (d.source, d.number) ≡ false) × AreOutside ids ds
