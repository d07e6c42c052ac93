use Rattle.std.proofs.Common.{ap, sym, ◌∙◌, arith}
use Rattle.gtid.specs.Group.{ids_of}
use Rattle.gtid.proofs.GroupMerge.{ascend_nil}
use Rattle.gtid.proofs.Sets.{is_copy, is_empty, not_long}
use Rattle.gtid.proofs.set.GtidSet.copy.Goals as goal

pub combine_groups-requires-clause-right : goal.combine_groups-requires-clause-right
combine_groups-requires-clause-right c = ascend_nil

pub returns-clause-ok : goal.returns-clause-ok
returns-clause-ok c = is_copy c.deref.result.now c.in_ok-groups.groups.items c.args.self.now (ap ids_of c.deref.ensures.value ∙ c.self.view_is) c.in_ok-groups.ensures.ok

pub returns-then-len-eq0-clause-ok : goal.returns-then-len-eq0-clause-ok
returns-then-len-eq0-clause-ok c =
    c.new.ensures ∙ sym (is_empty c.self.inside.groups.items c.args.self.now c.self.view_is (omega (arith, c.len.ensures, c.if-len-eq0.true, c.self.inside.groups.ok)))

pub returns-in_err-groups-clause-none : goal.returns-in_err-groups-clause-none
returns-in_err-groups-clause-none c empty =
    absurd (c.if-len-eq0.false (omega (arith, c.len.ensures, c.self.inside.groups.ok, not_long c.self.inside.groups.items c.args.self.now c.self.view_is empty)))
