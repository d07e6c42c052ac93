use Rattle.gtid.proofs.Names.{◌≡◌, ◌≤◌, length, collected, Source}
use Rattle.gtid.proofs.reading.read_source.Given as goal

abbrev pub invariant-loop-left : goal.invariant-loop-left
invariant-loop-left l = (collected (Source 0) l.fn.source l.text ≡ collected (Source l.digits) l.source l.left) × (length l.left ≤ length l.text)

abbrev pub decreases-loop-left : goal.decreases-loop-left
decreases-loop-left l = length l.left
