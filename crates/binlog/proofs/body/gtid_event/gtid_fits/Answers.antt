use Rattle.std.proofs.Common.{refl, arith}
use Rattle.binlog.proofs.EventBytes.{writes_gtid}
use Rattle.binlog.proofs.body.gtid_event.gtid_fits.Goals as goal

pub returns : goal.returns
returns c = let id = c.args.id in ((λ _. writes_gtid id.source id.number (omega arith) id.at_least_one id.at_most), (λ _. refl))
