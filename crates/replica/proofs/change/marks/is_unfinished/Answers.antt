use Rattle.std.proofs.Common.{◌∙◌}
use Rattle.replica.proofs.CopyMarks.{is_same}
use Rattle.replica.proofs.change.marks.is_unfinished.Goals as goal

pub returns : goal.returns
returns c = c.is_left_open.ensures ∙ is_same c.args.executed.now c.args.source.now
