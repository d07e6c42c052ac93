use Rattle.std.proofs.Common.{refl, arith}
use Rattle.binlog.proofs.EventBytes.{writes_xid}
use Rattle.binlog.proofs.body.xid.xid_fits.Goals as goal

pub returns : goal.returns
returns c = ((λ _. writes_xid c.args.number (omega arith)), (λ _. refl))
