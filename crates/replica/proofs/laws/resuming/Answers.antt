use Rattle.replica.proofs.Names.{arith, length-append}
use Rattle.gtid.proofs.GroupText.{all_bytes}
use Rattle.replica.proofs.Resumption.{leads, cut}
use Rattle.replica.proofs.laws.resuming.Goals as goal

pub returns-clause-leads : goal.returns-clause-leads
returns-clause-leads c limit names history j held last request r =
    leads c.dumps.ensures.one limit names history j held last (record { request = request; opening = c.args._opening.now; answer = c.args._answer.now }) r (omega (arith, length-append c.args._opening.now c.args._answer.now))

pub returns-clause-cut : goal.returns-clause-cut
returns-clause-cut c limit names history j held last request r =
    cut c.dumps.ensures.one limit names history j held last (record { request = request; opening = c.args._opening.now; answer = c.args._answer.now }) r (omega (arith, length-append c.args._opening.now c.args._answer.now))
    (all_bytes c.args._answer.now (λ i. let fits = c.type_inv._answer i in omega (arith, fits)))
