use Rattle.gtid.proofs.Names.{refl, arith, common_steps}
use Rattle.std.proofs.lemmas.List.{nil_from_length}
use Rattle.gtid.proofs.GroupMerge.{merged_none, merged_push, merged_nothing, taken, turn}
use Rattle.gtid.proofs.groups.combine_groups.Goals as goal

pub loop-source-init : goal.loop-source-init
loop-source-init c = merged_none c.args.combination c.args.left.now c.args.right.now c.new-combined.result.items c.requires.left c.requires.right c.new-combined.ensures.items

pub loop-source-preserved-then-is_empty : goal.loop-source-preserved-then-is_empty
loop-source-preserved-then-is_empty c =
    let m = c.loop-source.invariant in
    let s = c.in-Some.source in
    let t = turn s m c.in-Some.ensures.some in
    let done = c.loop-source.combined.items in
    let a = taken done s c.loop-source.left.now c.split.result.0.now c.split.result.1.now t.0 m.left_ascend m.left_below c.split.ensures in
    let b = taken done s c.loop-source.right.now c.split-in-Some.result.0.now c.split-in-Some.result.1.now t.1 m.right_ascend m.right_below c.split-in-Some.ensures in
    merged_nothing s _ _ c.in_ok-intervals.intervals.items _ _ m a b c.in_ok-intervals.ensures.ok (nil_from_length _ (grind (arith, common_steps)))

pub loop-source-preserved : goal.loop-source-preserved
loop-source-preserved c =
    let m = c.loop-source.invariant in
    let s = c.in-Some.source in
    let t = turn s m c.in-Some.ensures.some in
    let done = c.loop-source.combined.items in
    let a = taken done s c.loop-source.left.now c.split.result.0.now c.split.result.1.now t.0 m.left_ascend m.left_below c.split.ensures in
    let b = taken done s c.loop-source.right.now c.split-in-Some.result.0.now c.split-in-Some.result.1.now t.1 m.right_ascend m.right_below c.split-in-Some.ensures in
    merged_push s _ _ _ _ _ c.push.new.self.items m a b t.2 refl c.in_ok-intervals.ensures.ok c.in_ok-push.ensures.items
