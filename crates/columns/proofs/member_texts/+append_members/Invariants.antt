use Rattle.std.proofs.Common.{length}
use Rattle.columns.proofs.member_texts.+append_members.Given as goal

abbrev pub decreases-append_members : goal.decreases-append_members
decreases-append_members l = length l.members.now
