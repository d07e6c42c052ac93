use Rattle.binlog.proofs.Names.{arith, ltb-true, lt-ltb}
use Rattle.binlog.proofs.EventBytes.{writes_rotate, rotate_short}
use Rattle.binlog.proofs.body.rotate.rotate_fits.Goals as goal

pub returns : goal.returns
returns c = (
  (λ yes. let below = ltb-true _ _ yes in writes_rotate c.args.position c.args.name.now (omega arith) (omega (arith, below))),
  (λ w. let short = rotate_short c.args.position c.args.name.now w in lt-ltb _ _ (omega (arith, short))),
)
