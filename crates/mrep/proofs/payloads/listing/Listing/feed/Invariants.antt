use Rattle.std.proofs.Common.{None, length}
use Rattle.mrep.proofs.Entries.{Listed}
use Rattle.mrep.proofs.payloads.listing.Listing.feed.Given as goal

abbrev pub invariant-loop-rest : goal.invariant-loop-rest
invariant-loop-rest l = Listed l.fn.self l.self l.piece l.rest None

abbrev pub decreases-loop-rest : goal.decreases-loop-rest
decreases-loop-rest l = length l.rest
