-- What a set says of a GTID that is to be added.
use Rattle.std.specs.Prelude.{◌≡◌, ℕ, true, false}
use Rattle.std.specs.FinSet as set
use Rattle.gtid.specs.Identifier.{Id, Ids}
use Rattle.gtid.specs.Interval.{IsNear}
use Rattle.gtid.specs.declared.reserved.Entry.{Entry}
use Rattle.gtid.specs.declared.reserved.Entry.TheVariants.{New, Known, NoRoom}

-- The set is kept, and the answer says whether the GTID is in it. There is room for a GTID with a neighbour in the set.
abbrev pub IsLookUp : Ids → Id → Entry → Type 0
IsLookUp ids q (New reserved) = (reserved ≡ (ids, q)) × (set.contains ids q ≡ false)
IsLookUp ids q (Known kept) = (kept ≡ ids) × (set.contains ids q ≡ true)
IsLookUp ids q (NoRoom kept) = (kept ≡ ids) × (set.contains ids q ≡ false) × ((number : ℕ) → IsNear number q.1 → set.contains ids (q.0, number) ≡ false)
