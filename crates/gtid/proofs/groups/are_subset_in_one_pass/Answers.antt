use Rattle.gtid.proofs.Names.{[], refl, subst, sym, false≢true, IsTrue}
use Rattle.gtid.proofs.GroupMerge.{taken}
use Rattle.gtid.proofs.OnePass.{none_higher, passed_source, passed_numbers}
use Rattle.gtid.proofs.groups.are_subset_in_one_pass.Goals as goal

pub returns-then-not-is_subset_in_one_pass : goal.returns-then-not-is_subset_in_one_pass
returns-then-not-is_subset_in_one_pass c =
    let p = c.loop-source.invariant in
    let s = c.in-Some.source in
    let low = none_higher s c.loop-source.left.now c.loop-source.right.now c.in-Some.ensures.some in
    let a = taken [] s c.loop-source.left.now c.split.result.0.now c.split.result.1.now low.0 p.left_ascend tt c.split.ensures in
    let b = taken [] s c.loop-source.right.now c.split-in-Some.result.0.now c.split-in-Some.result.1.now low.1 p.right_ascend tt c.split-in-Some.ensures in
    (λ no. absurd (false≢true no), λ all. subst IsTrue c.if-not-is_subset_in_one_pass.true (c.is_subset_in_one_pass.ensures.1 (passed_numbers s _ _ _ _ p a b all)))

pub loop-source-preserved : goal.loop-source-preserved
loop-source-preserved c =
    let p = c.loop-source.invariant in
    let s = c.in-Some.source in
    let low = none_higher s c.loop-source.left.now c.loop-source.right.now c.in-Some.ensures.some in
    let a = taken [] s c.loop-source.left.now c.split.result.0.now c.split.result.1.now low.0 p.left_ascend tt c.split.ensures in
    let b = taken [] s c.loop-source.right.now c.split-in-Some.result.0.now c.split-in-Some.result.1.now low.1 p.right_ascend tt c.split-in-Some.ensures in
    passed_source s _ _ _ _ p a b (c.is_subset_in_one_pass.ensures.0 (subst IsTrue (sym c.if-not-is_subset_in_one_pass.false) refl))
