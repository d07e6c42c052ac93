use Rattle.std.proofs.Common.{◌≡◌, ◌≤◌, length}
use Rattle.gtid.specs.Reading.{judge, collected, after_interval}
use Rattle.gtid.specs.Reading.Part.{First}
use Rattle.gtid.proofs.reading.read_intervals.Given as goal

abbrev pub invariant-loop-after : goal.invariant-loop-after
invariant-loop-after l = (judge l.fn.spans.items (collected (First 0) l.source l.text) ≡ judge l.spans.items (after_interval l.source l.after)) × (length l.after ≤ length l.text)

abbrev pub decreases-loop-after : goal.decreases-loop-after
decreases-loop-after l = length l.after
