-- What an observer waits for that stops once nothing of a set is missing.
use Rattle.std.specs.Prelude.{◌≡◌, Bool, true, false, Option, Some, None}
use Rattle.std.specs.FinSet as set
use Rattle.gtid.specs.Identifier.{Ids}

-- whether nothing is missing, or memory ran out for what is
abbrev pub is_over : Option Ids → Bool
is_over None = true
is_over (Some ids) = set.is_subset ids set.empty

-- whether an observer says which transactions it waits for, and waits for none
abbrev pub waits_for_none : Option Ids → Bool
waits_for_none None = false
waits_for_none (Some ids) = set.is_subset ids set.empty

-- This is left of what was missing without a set, unless memory ran out; it does not where nothing was missing.
abbrev pub IsLeftOf : Option Ids → Ids → Option Ids → Type 0
IsLeftOf was taken None = waits_for_none was ≡ false
IsLeftOf None taken (Some is) = ⊥
IsLeftOf (Some was) taken (Some is) = is ≡ set.difference was taken
