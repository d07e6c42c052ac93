use Rattle.std.proofs.Common.{length}
use Rattle.columns.proofs.value.digits.+significant.Given as goal

abbrev pub decreases-significant : goal.decreases-significant
decreases-significant l = length l.digits.now
