use Rattle.std.proofs.Common.{◌≡◌, ◌<◌, ◌++◌, decimal, length}
use Rattle.columns.proofs.Numerals.{front}
use Rattle.columns.proofs.numeral.read_number.Given as goal

abbrev pub invariant-loop-digit : goal.invariant-loop-digit
invariant-loop-digit l = record {
  text : l.text ≡ decimal l.number ++ l.left;
  same : front 0 l.text ≡ front l.number l.left;
  small : l.number < 100000;
}

abbrev pub decreases-loop-digit : goal.decreases-loop-digit
decreases-loop-digit l = length l.left
