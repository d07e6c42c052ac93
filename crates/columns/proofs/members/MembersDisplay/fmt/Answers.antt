use Rattle.std.proofs.Common.{refl, arith}
use Rattle.std.proofs.Output.{has_written_append, has_written_of_eq}
use Rattle.columns.proofs.MemberLists.{item_more, all_written}
use Rattle.columns.proofs.members.MembersDisplay.fmt.Goals as goal

pub loop-member-preserved : goal.loop-member-preserved
loop-member-preserved g c plain =
    let start = c.loop-member.invariant plain in
    has_written_of_eq _ _ _ _ _ (item_more _ c.loop-member.member-index c.member-item.result c.member-item.result c.loop-member-test.true c.member-item.is)
    (has_written_append _ _ _ _ _ _ start (c.in_ok-write-2.ensures.writes start.plain refl))

pub returns-clause-writes : goal.returns-clause-writes
returns-clause-writes g c plain ok =
    let first = c.in_ok-write.ensures.writes plain refl in
    let start = c.loop-member.invariant first.plain in
    let all = has_written_append _ _ _ _ _ _ first start in
    let end = has_written_append _ _ _ _ _ _ all (c.write_str-2.ensures.writes all.plain ok) in
    has_written_of_eq _ _ _ _ _ (all_written c.args.self.now.0.now c.loop-member.member-index _ (omega arith) c.first-item.is (omega arith) (omega arith)) end
