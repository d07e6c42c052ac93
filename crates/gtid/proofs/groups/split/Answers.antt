use Rattle.gtid.proofs.Names.{sym, ◌∙◌, arith, common_steps}
use Rattle.gtid.proofs.Lowest.{splits_first}
use Rattle.gtid.proofs.groups.split.Goals as goal

pub returns-in-len1-up : goal.returns-in-len1-up
returns-in-len1-up c =
    splits_first c.args.groups.now c.args.source.now c.first-item.result c.as_slice.result.now (grind (arith, common_steps)) c.first-item.is (sym c.eq.ensures ∙ c.if-eq.true) c.as_slice.ensures.value
