-- Private: intervals of two lists, by where they begin.
use Rattle.std.specs.Prelude.{ℕ, ◌<◌, ◌≤◌, ◌^◌, ◌||◌, Bool, List, [], ◌∷◌}
use Rattle.gtid.specs.Interval.{has, AreLeast}
use Rattle.gtid.specs.declared.interval.Interval.{Interval}
use Rattle.gtid.specs.declared.combination.Merged.{Merged}

-- least intervals, none of which begins before `place`
abbrev pub AreFrom : ℕ → List Interval → Type 0
AreFrom place [] = Unit {0}
AreFrom place (i ∷ intervals) = (place ≤ i.lo) × (i.lo < i.hi) × (i.hi < 2 ^ 63) × AreLeast i.hi intervals

-- as `AreLeast`, and the last one ends before `place`
abbrev pub AreLeastBefore : ℕ → ℕ → List Interval → Type 0
AreLeastBefore end place [] = end < place
AreLeastBefore end place (i ∷ intervals) = (end < i.lo) × (i.lo < i.hi) × (i.hi < 2 ^ 63) × AreLeastBefore i.hi place intervals

-- whether a number is in one of the remaining intervals
abbrev pub has_left : Merged → ℕ → Bool
has_left m n = has m.left.now n || has m.right.now n

abbrev pub IsFrom : ℕ → Merged → Type 0
IsFrom place m = AreFrom place m.left.now × AreFrom place m.right.now
