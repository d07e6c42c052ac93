use Rattle.std.proofs.Common.{length}
use Rattle.columns.proofs.value.decimal.+put_digits.Given as goal

abbrev pub decreases-put_digits : goal.decreases-put_digits
decreases-put_digits l = length l.digits.now
