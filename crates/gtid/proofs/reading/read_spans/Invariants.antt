use Rattle.gtid.proofs.Names.{◌≡◌, length, [], judge, collected, Source}
use Rattle.gtid.proofs.reading.read_spans.Given as goal

abbrev pub invariant-loop-after : goal.invariant-loop-after
invariant-loop-after l = judge [] (collected (Source 0) l.initial.source l.text) ≡ judge l.spans.items (collected (Source 0) l.source l.left)

abbrev pub decreases-loop-after : goal.decreases-loop-after
decreases-loop-after l = length l.left
