use Rattle.std.proofs.Common.{length}
use Rattle.columns.proofs.laws.+are_bytes.Given as goal

abbrev pub decreases-are_bytes : goal.decreases-are_bytes
decreases-are_bytes l = length l.bytes.now
