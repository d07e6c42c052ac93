use Rattle.std.proofs.Common.{◌∙◌}
use Rattle.gtid.proofs.GroupText.{listed_number}
use Rattle.gtid.proofs.Sets.{contained}
use Rattle.gtid.proofs.laws.numbers_in_range.Goals as goal

pub returns : goal.returns
returns c q one = listed_number c.ids.inside.groups.items q (contained c.ids.inside.groups.items c.args.ids.now c.ids.view_is q ∙ one)
