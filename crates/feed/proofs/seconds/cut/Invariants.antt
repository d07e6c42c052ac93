use Rattle.std.proofs.Common.{◌≡◌, ◌<◌, ℕ, length}
use Rattle.feed.specs.Seconds.{seconds_at, BeginAt}
use Rattle.feed.proofs.seconds.cut.Given as goal

abbrev pub invariant-loop-from : goal.invariant-loop-from
invariant-loop-from l = BeginAt 0 l.spans.items × ((n : ℕ) → n < l.place → seconds_at l.spans.items n ≡ seconds_at l.fn.spans.items n)

abbrev pub decreases-loop-from : goal.decreases-loop-from
decreases-loop-from l = length l.spans.items
