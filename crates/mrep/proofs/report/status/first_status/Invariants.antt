use Rattle.std.proofs.Common.{◌≡◌, drop}
use Rattle.mrep.specs.Reason.{first_status}
use Rattle.mrep.proofs.report.status.first_status.Given as goal

abbrev pub invariant-loop-end : goal.invariant-loop-end
invariant-loop-end l = first_status l.ends ≡ first_status (drop l.end-index l.ends)
