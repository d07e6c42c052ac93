use Rattle.store.proofs.Names.{◌≡◌, false, sym, ap, ◌∙◌, not-false, IsReady, tables_of, has_any}
use Rattle.sqlite.specs.Held.{state}
use Rattle.store.proofs.Known.{known_none}
use Rattle.store.proofs.opening.enter.Goals as goal

pub returns-then-not-has_any-clause-enters : goal.returns-then-not-has_any-clause-enters
returns-then-not-has_any-clause-enters g c =
    let old = state g.S.Store c.args.conn.now in
    let none : has_any (tables_of old.now.schema) ≡ false = ap (λ s. has_any (tables_of s)) (sym c.schema.ensures.value) ∙ ap has_any (sym c.tables_of-tables.ensures) ∙ sym c.has_any.ensures ∙ c.if-not-has_any.true in
    let vacant = λ (ready : IsReady old). known_none old.now ready.known none in
    let enters = c.enter_new.ensures in
    record {
      entered = λ clean ready so. enters.entered clean ready (vacant ready);
      turned = λ clean ready so. enters.turned clean ready (vacant ready);
      crash = λ ready so. enters.crash ready (vacant ready);
      spares = enters.spares;
      fault = enters.fault;
      clean = enters.clean;
      autocommit = enters.autocommit;
    }

pub returns-clause-enters : goal.returns-clause-enters
returns-clause-enters g c =
    let enters = c.enter_old.ensures in
    let tables = c.tables_of-tables.ensures ∙ ap tables_of c.schema.ensures.value in
    let there = not-false _ c.if-not-tables.false in
    record {
      entered = λ clean ready _. enters.entered clean ready (tables, there);
      turned = λ clean ready _. enters.turned clean ready (tables, there);
      crash = λ ready _. enters.crash ready (tables, there);
      spares = enters.spares;
      fault = enters.fault;
      clean = enters.clean;
      autocommit = enters.autocommit;
    }
