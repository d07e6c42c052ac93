use Rattle.std.proofs.Common.{length}
use Rattle.columns.proofs.laws.+are_members.Given as goal

abbrev pub decreases-are_members : goal.decreases-are_members
decreases-are_members l = length l.members.now
