use Rattle.std.proofs.Common.{◌≡◌, ℕ, ◌<◌, true, get_or}
use Rattle.columns.specs.Word.{is_letter}
use Rattle.columns.proofs.word.split_word.Given as goal

abbrev pub invariant-loop-i : goal.invariant-loop-i
invariant-loop-i l = (k : ℕ) → k < l.i → is_letter (get_or l.text k 0) ≡ true
