use Rattle.gtid.proofs.Names.{◌≡◌, ℕ, true, take, has}
use Rattle.gtid.proofs.interval.is_subset.Given as goal

abbrev pub invariant-loop-interval : goal.invariant-loop-interval
invariant-loop-interval l = (n : ℕ) → has (take l.interval-index l.intervals) n ≡ true → has l.of n ≡ true
