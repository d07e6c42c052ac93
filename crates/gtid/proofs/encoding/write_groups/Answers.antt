use Rattle.gtid.proofs.Names.{◌≡◌, ◌+◌, ◌++◌, length, refl, sym, ap, ◌∙◌, rules, length-map, little_bytes, block_bytes, blocks_bytes, of_group}
use Rattle.gtid.specs.Blocks.{blocks}
use Rattle.gtid.proofs.Appending.{first_write, next_fits, next_write, last_write}
use Rattle.gtid.proofs.ByteLists.{bytes_from, item_next, items_end}
use Rattle.gtid.proofs.encoding.write_groups.Goals as goal

pub loop-group-init : goal.loop-group-init
loop-group-init c =
    let groups = c.args.groups.now in
    let left = bytes_from block_bytes of_group groups 0 in
    let count : c.to_le_bytes.result ≡ little_bytes 8 (length (blocks groups)) = c.to_le_bytes.ensures ∙ ap (little_bytes 8) (sym (length-map groups of_group)) in
    next_write c.to_le_bytes.result left (first_write c.args.out.now _ (blocks_bytes (blocks groups)) refl) (ap (λ l. l ++ left) (sym count)) (search rules)

pub write_group-requires : goal.write_group-requires
write_group-requires c =
    let groups = c.args.groups.now in
    let next = item_next block_bytes of_group groups c.loop-group.group-index c.group-item.result c.loop-group-test.true c.group-item.is in
    next_fits (block_bytes (of_group c.group-item.result)) (bytes_from block_bytes of_group groups (c.loop-group.group-index + 1)) c.loop-group.invariant next c.requires

pub loop-group-preserved : goal.loop-group-preserved
loop-group-preserved c =
    let groups = c.args.groups.now in
    let next = item_next block_bytes of_group groups c.loop-group.group-index c.group-item.result c.loop-group-test.true c.group-item.is in
    next_write (block_bytes (of_group c.group-item.result)) (bytes_from block_bytes of_group groups (c.loop-group.group-index + 1)) c.loop-group.invariant next c.write_group.ensures

pub returns : goal.returns
returns c = last_write c.loop-group.invariant (items_end block_bytes of_group c.args.groups.now c.loop-group.group-index c.loop-group-test.false)
