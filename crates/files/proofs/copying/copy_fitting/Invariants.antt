use Rattle.std.proofs.Common.{◌<◌}
use Rattle.files.specs.Copying.{InCall, MeetsOtherHeader}
use Rattle.files.proofs.copying.copy_fitting.Given as goal

abbrev pub invariant-loop : goal.invariant-loop
invariant-loop g l = InCall (λ before after. 0 < l.counter → MeetsOtherHeader before after) (g.F.FilesInUse.account l.fn.files) (g.F.FilesInUse.account l.files)
