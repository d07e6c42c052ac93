use Rattle.std.proofs.Common.{◌≡◌, ◌≤◌, ℕ, length}
use Rattle.feed.specs.Seconds.{seconds_after, BeginAt}
use Rattle.feed.proofs.seconds.SecondsIter.at.Given as goal

abbrev pub invariant-loop-self : goal.invariant-loop-self
invariant-loop-self l = BeginAt 0 l.self-inside.left.now × ((n : ℕ) → l.place ≤ n →
    seconds_after l.self-inside.known l.self-inside.left.now n ≡ seconds_after l.initial.self-inside.known l.initial.self-inside.left.now n)

abbrev pub decreases-loop-self : goal.decreases-loop-self
decreases-loop-self l = length l.self-inside.left.now
