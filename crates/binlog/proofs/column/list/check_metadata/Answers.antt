use Rattle.binlog.proofs.Names.{rules, Some, get_or, sym, ap, ◌∙◌, subst, arith, take_rest, IsColumn, column_fault}
use Rattle.binlog.proofs.TableColumns.{first_checked, column_passes, column_stops, last_checked}
use Rattle.binlog.proofs.column.list.check_metadata.Goals as goal

pub loop-i-init : goal.loop-i-init
loop-i-init c = first_checked c.args.bytes.now c.args.codes.now c.args.start c.requires.long

pub slice_bounds-read-count : goal.slice_bounds-read-count
slice_bounds-read-count c = let fits = c.loop-i.invariant.fits in omega (arith, fits)

pub slice_bounds-read-start : goal.slice_bounds-read-start
slice_bounds-read-start c = search rules

pub returns-in-Err-clause-fault : goal.returns-in-Err-clause-fault
returns-in-Err-clause-fault c =
    column_stops c.args.bytes.now c.args.codes.now c.args.start c.loop-i.i c.loop-i.place c.in-Err.kind c.loop-i.invariant c.loop-i-test.true c.requires.read
    (ap (column_fault (get_or c.args.codes.now c.loop-i.i 0)) (sym (take_rest c.args.bytes.now c.loop-i.place)) ∙ c.in-Err.ensures.fault)
    ∙ ap Some (sym c.new.ensures)

pub loop-i-preserved : goal.loop-i-preserved
loop-i-preserved c =
    let kind = c.in-Ok.field-0-0.kind in
    column_passes c.args.bytes.now c.args.codes.now c.in-Ok.rest.now c.args.start c.loop-i.i c.loop-i.place kind c.loop-i.invariant c.loop-i-test.true c.requires.read
    (subst (λ b. IsColumn kind (get_or c.args.codes.now c.loop-i.i 0) c.in-Ok.rest.now b) (take_rest c.args.bytes.now c.loop-i.place) c.in-Ok.ensures.found)

pub returns-clause-none : goal.returns-clause-none
returns-clause-none c = last_checked c.args.bytes.now c.args.codes.now c.args.start c.loop-i.i c.loop-i.place c.loop-i.invariant c.loop-i-test.false
