use Rattle.std.proofs.Common.{◌≡◌, Some, None, get_or, sym, ap, ◌∙◌, arith}
use Rattle.binlog.specs.Column.{metadata_size}
use Rattle.binlog.proofs.Columns.{known, at_most_two}
use Rattle.binlog.proofs.TableColumns.{first_summed, next_summed, last_summed, type_stops}
use Rattle.binlog.proofs.column.list.sum_of_metadata.Goals as goal

pub loop-i-init : goal.loop-i-init
loop-i-init c = first_summed c.args.codes.now c.args.place

pub returns-in_default-clause-fault : goal.returns-in_default-clause-fault
returns-in_default-clause-fault c =
    let none : metadata_size (get_or c.args.codes.now c.loop-i.i 0) ≡ None = sym c.metadata_size.ensures ∙ c.in_default.is in
    c.loop-i.invariant.left ∙ type_stops c.args.codes.now c.args.place c.loop-i.i c.loop-i-test.true none ∙ ap Some (sym c.new.ensures)

pub overflow_add-sum : goal.overflow_add-sum
overflow_add-sum c =
    let has : metadata_size (get_or c.args.codes.now c.loop-i.i 0) ≡ Some c.in-Some.size = sym c.metadata_size.ensures ∙ c.in-Some.is in
    let few = at_most_two _ c.in-Some.size (known _ _ has) in
    let small = c.loop-i.invariant.small in
    omega (arith, small, few)

pub loop-i-preserved : goal.loop-i-preserved
loop-i-preserved c =
    let has : metadata_size (get_or c.args.codes.now c.loop-i.i 0) ≡ Some c.in-Some.size = sym c.metadata_size.ensures ∙ c.in-Some.is in
    next_summed c.args.codes.now c.args.place c.loop-i.i c.loop-i.sum c.in-Some.size c.loop-i.invariant c.loop-i-test.true has

pub returns-clause-sum : goal.returns-clause-sum
returns-clause-sum c = (last_summed c.args.codes.now c.args.place c.loop-i.i c.loop-i.sum c.loop-i.invariant c.loop-i-test.false).0

pub returns-clause-none : goal.returns-clause-none
returns-clause-none c = (last_summed c.args.codes.now c.args.place c.loop-i.i c.loop-i.sum c.loop-i.invariant c.loop-i-test.false).1
