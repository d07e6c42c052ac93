use Rattle.gtid.proofs.Names.{◌≡◌, ℕ, List, ◌≤◌, length, collected}
use Rattle.gtid.specs.Reading.Part.{First, Second}
use Rattle.gtid.proofs.reading.read_number.Given as goal

abbrev pub invariant-loop-digit : goal.invariant-loop-digit
invariant-loop-digit l =
    ((source : List ℕ) → collected (First 0) source l.text ≡ collected (First l.number) source l.left)
    × ((lo : ℕ) (source : List ℕ) → collected (Second lo 0) source l.text ≡ collected (Second lo l.number) source l.left)
    × (length l.left ≤ length l.text)

abbrev pub decreases-loop-digit : goal.decreases-loop-digit
decreases-loop-digit l = length l.left
