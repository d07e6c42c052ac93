use Rattle.gtid.proofs.Names.{◌≡◌, ◌+◌, ◌++◌, length, map, slice_index_or, refl, sym, ap, ◌∙◌, rules, append_assoc, length-map, get_or_default, little_bytes, interval_bytes, block_bytes, of_group, Interval}
use Rattle.gtid.specs.Blocks.{pair}
use Rattle.gtid.proofs.Appending.{first_write, next_fits, next_write, last_write}
use Rattle.gtid.proofs.ByteLists.{bytes_from, item_next, items_end}
use Rattle.gtid.proofs.encoding.write_group.Goals as goal

pub loop-interval-init : goal.loop-interval-init
loop-interval-init c =
    let items = c.args.group.now.intervals.items in
    let source = c.args.group.now.source in
    let left = bytes_from interval_bytes pair items 0 in
    let size : c.len.result ≡ length (map pair items) = c.len.ensures ∙ (c.args.group.now.intervals.ok.0 ∙ sym (length-map items pair)) in
    let count : c.to_le_bytes.result ≡ little_bytes 8 (length (map pair items)) = c.to_le_bytes.ensures ∙ ap (little_bytes 8) size in
    let begun = first_write c.args.out.now (source ++ (little_bytes 8 (length (map pair items)) ++ left)) (block_bytes (of_group c.args.group.now)) (sym (append_assoc source (little_bytes 8 (length (map pair items))) left)) in
    let first = next_write {new = c.extend_from_slice.new.self} source (little_bytes 8 (length (map pair items)) ++ left) begun refl (search rules) in
    next_write c.to_le_bytes.result left first (ap (λ l. l ++ left) (sym count)) (search rules)

pub write_interval-requires : goal.write_interval-requires
write_interval-requires c =
    let at = c.loop-interval.interval-index in
    let items = c.args.group.now.intervals.items in
    let short = rw c.deref-interval-items.ensures.value at c.loop-interval-test.true in
    let x : Interval = slice_index_or items at (record { lo = 0; hi = 0 }) in
    let next = item_next interval_bytes pair items at x short (get_or_default items at (record { lo = 0; hi = 0 }) x short) in
    next_fits (interval_bytes (pair x)) (bytes_from interval_bytes pair items (at + 1)) c.loop-interval.invariant next c.requires

pub loop-interval-preserved : goal.loop-interval-preserved
loop-interval-preserved c =
    let at = c.loop-interval.interval-index in
    let items = c.args.group.now.intervals.items in
    let short = rw c.deref-interval-items.ensures.value at c.loop-interval-test.true in
    let x : Interval = slice_index_or items at (record { lo = 0; hi = 0 }) in
    let next = item_next interval_bytes pair items at x short (get_or_default items at (record { lo = 0; hi = 0 }) x short) in
    next_write (interval_bytes (pair x)) (bytes_from interval_bytes pair items (at + 1)) c.loop-interval.invariant next (rw c.deref-interval-items.ensures.value at c.write_interval.ensures)

pub returns : goal.returns
returns c = last_write c.loop-interval.invariant (items_end interval_bytes pair c.args.group.now.intervals.items c.loop-interval.interval-index (rw c.deref-interval-items.ensures.value at c.loop-interval-test.false))
