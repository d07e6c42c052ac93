use Rattle.gtid.proofs.Names.{◌∙◌, ◌+◌, ap, arith, length, length-append, little_bytes, block_bytes, of_group}
use Rattle.byteorder.specs.Numbers.{length-bytes_low_first}
use Rattle.gtid.specs.Blocks.{blocks}
use Rattle.gtid.proofs.Appending.{sum_next, sum_all}
use Rattle.gtid.proofs.ByteLists.{bytes_from, item_next, items_end}
use Rattle.gtid.proofs.encoding.encoded_length.Goals as goal

pub loop-group-init : goal.loop-group-init
loop-group-init c =
    let groups = c.args.groups.now in
    let long = length-append (little_bytes 8 (length (blocks groups))) (bytes_from block_bytes of_group groups 0) in
    let eight = length-bytes_low_first 0 8 (length (blocks groups)) in
    record { is = omega (arith, long, eight); small = omega arith }

pub loop-group-preserved : goal.loop-group-preserved
loop-group-preserved c =
    let groups = c.args.groups.now in
    let is = item_next block_bytes of_group groups c.loop-group.group-index c.group-item.result c.loop-group-test.true c.group-item.is in
    let part = block_bytes (of_group c.group-item.result) in
    let rest = bytes_from block_bytes of_group groups (c.loop-group.group-index + 1) in
    sum_next (length part) (length rest) c.group_length.result _ c.loop-group.invariant (ap length is ∙ length-append part rest) c.group_length.ensures c.saturating_add-sum.ensures

pub returns : goal.returns
returns c = sum_all c.loop-group.invariant (ap length (items_end block_bytes of_group c.args.groups.now c.loop-group.group-index c.loop-group-test.false))
