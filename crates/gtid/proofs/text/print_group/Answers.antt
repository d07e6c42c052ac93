use Rattle.gtid.proofs.Names.{◌+◌, refl, slice_index_or, get_or_default, interval_text, block_text, of_group, hyphenated_text, lower, Interval}
use Rattle.std.specs.String.{string_vec}
use Rattle.gtid.specs.Blocks.{pair}
use Rattle.gtid.proofs.Within.{each}
use Rattle.gtid.proofs.Appending.{first_write, next_fits, next_write, last_write}
use Rattle.gtid.proofs.ByteLists.{bytes_from, item_next, items_end}
use Rattle.gtid.proofs.text.print_group.Goals as goal

pub loop-interval-init : goal.loop-interval-init
loop-interval-init c =
    let left = bytes_from interval_text pair c.args.group.now.intervals.items 0 in
    next_write (hyphenated_text lower c.args.group.now.source) left (first_write (string_vec c.args.out.now) _ (block_text (of_group c.args.group.now)) refl) refl c.print_source.ensures.text

pub print_interval-requires-clause-some : goal.print_interval-requires-clause-some
print_interval-requires-clause-some c =
    rw c.deref-interval-items.ensures.value
    (each 0 c.args.group.now.intervals.items c.loop-interval.interval-index _ c.args.group.now.least (rw c.deref-interval-items.ensures.value at c.loop-interval-test.true)).1

pub print_interval-requires-clause-room : goal.print_interval-requires-clause-room
print_interval-requires-clause-room c =
    let at = c.loop-interval.interval-index in
    let items = c.args.group.now.intervals.items in
    let short = rw c.deref-interval-items.ensures.value at c.loop-interval-test.true in
    let x : Interval = slice_index_or items at (record { lo = 0; hi = 0 }) in
    let next = item_next interval_text pair items at x short (get_or_default items at (record { lo = 0; hi = 0 }) x short) in
    rw c.deref-interval-items.ensures.value (next_fits (interval_text (pair x)) (bytes_from interval_text pair items (at + 1)) c.loop-interval.invariant next c.requires)

pub loop-interval-preserved : goal.loop-interval-preserved
loop-interval-preserved c =
    let at = c.loop-interval.interval-index in
    let items = c.args.group.now.intervals.items in
    let short = rw c.deref-interval-items.ensures.value at c.loop-interval-test.true in
    let x : Interval = slice_index_or items at (record { lo = 0; hi = 0 }) in
    let next = item_next interval_text pair items at x short (get_or_default items at (record { lo = 0; hi = 0 }) x short) in
    next_write (interval_text (pair x)) (bytes_from interval_text pair items (at + 1)) c.loop-interval.invariant next (rw c.deref-interval-items.ensures.value at c.print_interval.ensures)

pub returns-clause-text : goal.returns-clause-text
returns-clause-text c = last_write c.loop-interval.invariant (items_end interval_text pair c.args.group.now.intervals.items c.loop-interval.interval-index (rw c.deref-interval-items.ensures.value at c.loop-interval-test.false))
