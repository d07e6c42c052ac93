use Rattle.first_copy.proofs.Names.{◌+◌, ◌++◌, List, ℕ, sym, subst, ◌∙◌, arith, prepend_known, err_from_is_err_and, IsRowFault, IsKnownFault}
use Rattle.sha1.specs.Sha1.{Holds}
use Rattle.std.specs.declared.rc.Rc.{Rc}
use Rattle.std.proofs.Common.{Global}
use Rattle.columns.specs.declared.description.Description.{Description}
use Rattle.first_copy.specs.CopySteps.{IsLineTaken}
use Rattle.first_copy.proofs.FaultsAfter.{known_after, if_more, filled_fault, row_after, too_many, never_full, row_other, out_of_rows}
use Rattle.first_copy.proofs.RowLines.{next_line}
use Rattle.first_copy.proofs.loader.Loader.collect.Goals as goal

pub loop-size-preserved : goal.loop-size-preserved
loop-size-preserved g c =
    let line : List ℕ = c.fill.new.line.items in
    let taken : IsLineTaken c.args.self.now.taker.description.value.tables.items line c.loop-size.changes c.take.new.changes =
    subst (λ (d : Rc Description Global). IsLineTaken d.value.tables.items line c.loop-size.changes c.take.new.changes) c.loop-size.invariant.description
    (subst (λ (xs : List ℕ). IsLineTaken c.loop-size.self.taker.description.value.tables.items xs c.loop-size.changes c.take.new.changes) c.deref-in-loop-size.ensures.value c.in-Ok.ensures.taken) in
    record {
      gathered = next_line c.args.self.now.taker.description.value.tables.items c.args.self.now.rows c.loop-size.self.rows c.in-Some-checked_add.rows
          (prepend_known c.args.self.now.line.items (g.R.Read.remaining c.args.self.now.reader)) (prepend_known c.loop-size.self.line.items (g.R.Read.remaining c.loop-size.self.reader)) (g.R.Read.remaining c.fill.new.reader)
          c.args.self.now.hasher c.loop-size.self.hasher c.update.new.self c.loop-size.size (c.loop-size.size + c.len-size.result) c.loop-size.changes c.take.new.changes line c.clear.new.self.items
          c.loop-size.invariant.gathered c.loop-size-test.true c.in_ok-fill.ensures.kept taken c.in-Some-checked_add.ensures.1 (omega (arith, c.len-size.ensures, c.fill.new.line.ok.0)) c.clear.ensures.items
          (λ m holds. subst (λ (xs : List ℕ). Holds c.update.new.self (m ++ xs)) c.deref-in-loop-size-2.ensures.value (c.update.ensures m holds));
      description = c.take.ensures.kept ∙ c.loop-size.invariant.description;
      source = c.loop-size.invariant.source;
      given = c.loop-size.invariant.given;
      failed = c.loop-size.invariant.failed;
      ended = c.loop-size.invariant.ended;
    }

pub returns-in_err-fill-clause-fault : goal.returns-in_err-fill-clause-fault
returns-in_err-fill-clause-fault g c =
    let p = err_from_is_err_and c.from_residual.result c.from_residual.ensures.1 in
    let tables = c.args.self.now.taker.description.value.tables.items in
    let mid = prepend_known c.loop-size.self.line.items (g.R.Read.remaining c.loop-size.self.reader) in
    rw (p.1, p.2) (known_after tables c.args.self.now.rows c.loop-size.self.rows (prepend_known c.args.self.now.line.items (g.R.Read.remaining c.args.self.now.reader)) mid
    c.args.self.now.hasher c.loop-size.self.hasher c.loop-size.size c.loop-size.changes _ c.loop-size.invariant.gathered
    (if_more mid _ _ (λ rest wrong. filled_fault tables c.loop-size.self.rows c.saturating_add-number.result rest _ c.saturating_add-number.ensures wrong) c.in_err-fill.ensures.fault))

pub returns-in-Err-clause-fault : goal.returns-in-Err-clause-fault
returns-in-Err-clause-fault g c =
    let tables = c.args.self.now.taker.description.value.tables.items in
    let text = prepend_known c.args.self.now.line.items (g.R.Read.remaining c.args.self.now.reader) in
    let line : List ℕ = c.fill.new.line.items in
    let wrong : IsRowFault tables line c.in-Err.fault =
    subst (λ (d : Rc Description Global). IsRowFault d.value.tables.items line c.in-Err.fault) c.loop-size.invariant.description
    (subst (λ (xs : List ℕ). IsRowFault c.loop-size.self.taker.description.value.tables.items xs c.in-Err.fault) c.deref-in-loop-size.ensures.value c.in-Err.ensures.fault) in
    subst (IsKnownFault tables c.args.self.now.rows text) (sym c.row_fault.ensures)
    (known_after tables c.args.self.now.rows c.loop-size.self.rows text (prepend_known c.loop-size.self.line.items (g.R.Read.remaining c.loop-size.self.reader))
    c.args.self.now.hasher c.loop-size.self.hasher c.loop-size.size c.loop-size.changes _ c.loop-size.invariant.gathered
    (row_after tables c.loop-size.self.rows c.saturating_add-number.result line c.in-Err.fault _ (g.R.Read.remaining c.fill.new.reader) c.saturating_add-number.ensures c.in_ok-fill.ensures.kept wrong))

pub returns-in_default-checked_add-clause-fault : goal.returns-in_default-checked_add-clause-fault
returns-in_default-checked_add-clause-fault g c = too_many c.args.self.now.taker.description.value.tables.items c.args.self.now.rows (prepend_known c.args.self.now.line.items (g.R.Read.remaining c.args.self.now.reader))

pub returns-in_err-fill-clause-too_many : goal.returns-in_err-fill-clause-too_many
returns-in_err-fill-clause-too_many g c = let p = err_from_is_err_and c.from_residual.result c.from_residual.ensures.1 in rw (p.1, p.2) (never_full _ _ c.in_err-fill.ensures.other)

pub returns-in-Err-clause-too_many : goal.returns-in-Err-clause-too_many
returns-in-Err-clause-too_many g c = rw c.row_fault.ensures (row_other c.saturating_add-number.result c.in-Err.fault _)

pub returns-in_default-checked_add-clause-too_many : goal.returns-in_default-checked_add-clause-too_many
returns-in_default-checked_add-clause-too_many g c =
    out_of_rows c.args.self.now.taker.description.value.tables.items c.args.self.now.rows c.loop-size.self.rows
    (prepend_known c.args.self.now.line.items (g.R.Read.remaining c.args.self.now.reader)) (prepend_known c.loop-size.self.line.items (g.R.Read.remaining c.loop-size.self.reader))
    c.args.self.now.hasher c.loop-size.self.hasher c.loop-size.size c.loop-size.changes c.loop-size.invariant.gathered (omega (arith, c.in_default-checked_add.ensures))
