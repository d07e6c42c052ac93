use Rattle.std.proofs.Common.{subst, sym, arith}
use Rattle.columns.specs.Word.{Are, is_letter}
use Rattle.columns.proofs.Words.{are_front, are_all}
use Rattle.columns.proofs.word.split_word.Goals as goal

pub returns-then-not-is_ascii_lowercase-clause-letters : goal.returns-then-not-is_ascii_lowercase-clause-letters
returns-then-not-is_ascii_lowercase-clause-letters c =
    subst (Are is_letter) (sym c.split_at.ensures.front) (are_front is_letter c.args.text.now c.loop-i.i c.loop-i.invariant (omega arith))

pub returns-clause-letters : goal.returns-clause-letters
returns-clause-letters c = are_all is_letter c.args.text.now (λ k below. c.loop-i.invariant k (omega (arith, below, c.loop-i-test.false)))
