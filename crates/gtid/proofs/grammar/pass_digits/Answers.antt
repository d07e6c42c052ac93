use Rattle.gtid.proofs.ScanComplete.{passed_lo, passed_hi}
use Rattle.gtid.proofs.grammar.pass_digits.Goals as goal

pub loop-rest-preserved : goal.loop-rest-preserved
loop-rest-preserved c =
    let digit = c.in-Some.ensures.some in
    (passed_lo _ c.loop-rest.invariant.0 digit.0 digit.1, passed_hi _ c.loop-rest.invariant.1 digit.0 digit.1)
