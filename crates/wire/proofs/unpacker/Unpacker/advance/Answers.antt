use Rattle.std.proofs.Common.{ℕ, length-take, length-drop, arith}
use Rattle.std.proofs.lemmas.List.{take_rest}
use Rattle.wire.proofs.UnpackerState.{taken_more}
use Rattle.wire.proofs.unpacker.Unpacker.advance.Goals as goal
use Rattle.wire.proofs.unpacker.Unpacker.advance.Goals.{then-self-lt-HEADER_LENGTH+in_ok-take_header, else-self-lt-HEADER_LENGTH}

pub loop-used-preserved : goal.loop-used-preserved
loop-used-preserved c = elim c.if-self-lt-HEADER_LENGTH.branch [
  | then-self-lt-HEADER_LENGTH+in_ok-take_header w ↦
      let step = rw take_rest at w.in_ok-take_header.ensures.ok in
      record {
        taken = rw (w.self-is, w.used-is) (taken_more c.loop-used.invariant.taken step);
        moved = λ _. omega (arith, w.in_ok-take_header.ensures.progress, w.used-is, c.loop-used-test.true, length-take {A = ℕ}, length-drop {A = ℕ});
      }
  | else-self-lt-HEADER_LENGTH w ↦
      let step = rw take_rest at w.take_chunk.ensures.takes in
      record {
        taken = rw (w.self-is, w.used-is) (taken_more c.loop-used.invariant.taken step);
        moved = λ _. omega (arith, w.take_chunk.ensures.progress, w.used-is, c.loop-used-test.true, length-take {A = ℕ}, length-drop {A = ℕ});
      }
]
