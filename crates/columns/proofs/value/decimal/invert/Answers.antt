use Rattle.std.proofs.Common.{◌-◌, get_or, arith}
use Rattle.std.proofs.lemmas.List.{get_or_default}
use Rattle.std.proofs.lemmas.List.Edits.{map_over_more}
use Rattle.columns.proofs.value.decimal.invert.Goals as goal

pub loop-byte-preserved : goal.loop-byte-preserved
loop-byte-preserved c =
    map_over_more (λ b. 255 - b) c.args.bytes.now c.loop-byte.bytes c.loop-byte.byte-index (get_or c.loop-byte.bytes c.loop-byte.byte-index 0) (omega (arith, c.loop-byte-test.true)) c.loop-byte.invariant
    (get_or_default c.loop-byte.bytes c.loop-byte.byte-index 0 (get_or c.loop-byte.bytes c.loop-byte.byte-index 0) (omega (arith, c.loop-byte-test.true, c.loop-byte.auto.bytes)))
