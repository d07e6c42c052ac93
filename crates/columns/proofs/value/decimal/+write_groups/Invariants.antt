use Rattle.std.proofs.Common.{length}
use Rattle.columns.proofs.value.decimal.+write_groups.Given as goal

abbrev pub decreases-write_groups : goal.decreases-write_groups
decreases-write_groups l = length l.sizes.now
