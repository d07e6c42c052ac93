use Rattle.gtid.proofs.Names.{◌∙◌, ◌≡◌, ◌+◌, ap, arith, length, slice_index_or, get_or_default, length-append, by_index_length, hyphenated_text, lower, interval_text, Interval}
use Rattle.gtid.specs.Blocks.{pair}
use Rattle.gtid.proofs.Appending.{sum_next, sum_all}
use Rattle.gtid.proofs.ByteLists.{bytes_from, item_next, items_end}
use Rattle.gtid.proofs.Within.{each}
use Rattle.gtid.proofs.text.group_length.Goals as goal

pub loop-interval-init : goal.loop-interval-init
loop-interval-init c =
    let source = hyphenated_text lower c.args.group.now.source in
    let long : length source ≡ 36 = by_index_length 36 _ in
    let all = length-append source (bytes_from interval_text pair c.args.group.now.intervals.items 0) in
    record { is = omega (arith, all, long); small = omega arith }

pub interval_length-requires : goal.interval_length-requires
interval_length-requires c =
    rw c.deref-interval-items.ensures.value
    (each 0 c.args.group.now.intervals.items c.loop-interval.interval-index _ c.args.group.now.least (rw c.deref-interval-items.ensures.value at c.loop-interval-test.true)).1

pub loop-interval-preserved : goal.loop-interval-preserved
loop-interval-preserved c =
    let at = c.loop-interval.interval-index in
    let items = c.args.group.now.intervals.items in
    let short = rw c.deref-interval-items.ensures.value at c.loop-interval-test.true in
    let x : Interval = slice_index_or items at (record { lo = 0; hi = 0 }) in
    let is = item_next interval_text pair items at x short (get_or_default items at (record { lo = 0; hi = 0 }) x short) in
    let part = interval_text (pair x) in
    let rest = bytes_from interval_text pair items (at + 1) in
    let size : c.interval_length.result ≡ length part = rw c.deref-interval-items.ensures.value at c.interval_length.ensures in
    sum_next (length part) (length rest) c.interval_length.result _ c.loop-interval.invariant (ap length is ∙ length-append part rest) (omega (arith, size, c.interval_length.type_inv)) c.saturating_add-sum.ensures

pub returns : goal.returns
returns c = sum_all c.loop-interval.invariant (ap length (items_end interval_text pair c.args.group.now.intervals.items c.loop-interval.interval-index (rw c.deref-interval-items.ensures.value at c.loop-interval-test.false)))
