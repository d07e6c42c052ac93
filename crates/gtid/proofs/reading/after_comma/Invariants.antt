use Rattle.gtid.proofs.Names.{◌≡◌, ℕ, List, ◌≤◌, length, collected}
use Rattle.gtid.specs.Reading.Part.{After}
use Rattle.gtid.proofs.reading.after_comma.Given as goal

abbrev pub invariant-loop-left : goal.invariant-loop-left
invariant-loop-left l = ((source : List ℕ) → collected After source l.text ≡ collected After source l.left) × (length l.left ≤ length l.text)

abbrev pub decreases-loop-left : goal.decreases-loop-left
decreases-loop-left l = length l.left
