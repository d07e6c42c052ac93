use Rattle.std.proofs.Common.{length}
use Rattle.columns.proofs.value.decimal.+read_groups.Given as goal

abbrev pub decreases-read_groups : goal.decreases-read_groups
decreases-read_groups l = length l.sizes.now
