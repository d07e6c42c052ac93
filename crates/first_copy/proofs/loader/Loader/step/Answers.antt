use Rattle.first_copy.proofs.Names.{inl, inr, ◌≤◌, ℕ, length, subst, arith, err_from_is_err_and, prepend_known, IsFinished, IsKnownFault}
use Rattle.std.specs.declared.rc.Rc.{Rc}
use Rattle.std.proofs.Common.{Global}
use Rattle.columns.specs.declared.description.Description.{Description}
use Rattle.first_copy.proofs.RowLines.{finished_then}
use Rattle.first_copy.proofs.FaultsAfter.{too_many, fault_then, never_full, full_then}
use Rattle.first_copy.proofs.loader.Loader.step.Goals as goal

pub returns-in_err-delivery-clause-fault : goal.returns-in_err-delivery-clause-fault
returns-in_err-delivery-clause-fault g c =
    let p = err_from_is_err_and c.from_residual-in_err-delivery.result c.from_residual-in_err-delivery.ensures.1 in
    rw (p.1, p.2, c.in_err-delivery.ensures.err) (too_many c.args.self.now.taker.description.value.tables.items c.args.self.now.rows (prepend_known c.args.self.now.line.items (g.R.Read.remaining c.args.self.now.reader)))

pub returns-in_err-delivery-2-clause-fault : goal.returns-in_err-delivery-2-clause-fault
returns-in_err-delivery-2-clause-fault g c =
    let p = err_from_is_err_and c.from_residual-in_err-delivery-2.result c.from_residual-in_err-delivery-2.ensures.1 in
    rw (p.1, p.2, c.in_err-delivery-2.ensures.err) (too_many c.args.self.now.taker.description.value.tables.items c.args.self.now.rows (prepend_known c.args.self.now.line.items (g.R.Read.remaining c.args.self.now.reader)))

pub returns-in_err-finish-clause-fault : goal.returns-in_err-finish-clause-fault
returns-in_err-finish-clause-fault g c =
    let p = err_from_is_err_and c.from_residual-in_err-finish.result c.from_residual-in_err-finish.ensures.1 in
    let mid = prepend_known c.collect.new.self.line.items (g.R.Read.remaining c.collect.new.self.reader) in
    let none : length c.in_ok-changes.changes ≤ 0 = omega (arith, c.len.ensures, c.if-len-gt0.false) in
    rw (p.1, p.2) (fault_then c.args.self.now.taker.description.value.tables.items c.args.self.now.rows c.collect.new.self.rows (prepend_known c.args.self.now.line.items (g.R.Read.remaining c.args.self.now.reader)) mid
    c.args.self.now.hasher c.collect.new.self.hasher c.collect.new.self.line.items c.in_ok-changes.changes c.in_ok-changes.end _ c.in_ok-changes.ensures.collected none
    (subst (λ (d : Rc Description Global). IsKnownFault d.value.tables.items c.collect.new.self.rows mid c.in_err-finish.field-0.0) c.collect.ensures.kept.0 c.in_err-finish.ensures.fault))

pub returns-clause-finished : goal.returns-clause-finished
returns-clause-finished g c =
    let none : length c.in_ok-changes.changes ≤ 0 = omega (arith, c.len.ensures, c.if-len-gt0.false) in
    let done = subst (λ (n : ℕ). IsFinished n c.collect.new.self.rows c.finish.new.self.given c.finish.new.self.rows (prepend_known c.collect.new.self.line.items (g.R.Read.remaining c.collect.new.self.reader)) c.collect.new.self.hasher c.finish.new.self.hasher) c.collect.ensures.kept.2 c.in_ok-finish.ensures.finished in
    finished_then c.args.self.now.taker.description.value.tables.items c.args.self.now.given c.args.self.now.rows c.collect.new.self.rows c.finish.new.self.given c.finish.new.self.rows
    (prepend_known c.args.self.now.line.items (g.R.Read.remaining c.args.self.now.reader)) (prepend_known c.collect.new.self.line.items (g.R.Read.remaining c.collect.new.self.reader))
    c.args.self.now.hasher c.collect.new.self.hasher c.finish.new.self.hasher c.collect.new.self.line.items c.in_ok-changes.changes c.in_ok-changes.end c.in_ok-changes.ensures.collected none done

pub returns-in_err-changes-clause-too_many : goal.returns-in_err-changes-clause-too_many
returns-in_err-changes-clause-too_many g c = let p = err_from_is_err_and c.from_residual.result c.from_residual.ensures.1 in rw (p.1, p.2) (full_then _ _ _ (λ rows. inr rows) c.in_err-changes.ensures.too_many)

pub returns-in_err-delivery-clause-too_many : goal.returns-in_err-delivery-clause-too_many
returns-in_err-delivery-clause-too_many g c =
    let p = err_from_is_err_and c.from_residual-in_err-delivery.result c.from_residual-in_err-delivery.ensures.1 in
    rw (p.1, p.2, c.in_err-delivery.ensures.err) (inl (omega (arith, c.in_err-delivery.ensures.too_many, c.collect.ensures.kept.2)))

pub returns-in_err-delivery-2-clause-too_many : goal.returns-in_err-delivery-2-clause-too_many
returns-in_err-delivery-2-clause-too_many g c =
    let p = err_from_is_err_and c.from_residual-in_err-delivery-2.result c.from_residual-in_err-delivery-2.ensures.1 in
    rw (p.1, p.2, c.in_err-delivery-2.ensures.err) (inl (omega (arith, c.in_err-delivery-2.ensures.too_many, c.collect.ensures.kept.2)))

pub returns-in_err-finish-clause-too_many : goal.returns-in_err-finish-clause-too_many
returns-in_err-finish-clause-too_many g c =
    let p = err_from_is_err_and c.from_residual-in_err-finish.result c.from_residual-in_err-finish.ensures.1 in
    rw (p.1, p.2) (never_full _ _ c.in_err-finish.ensures.other)
