use Rattle.store.proofs.Names.{sym, subst, refl, rules, arith, HasCleanDisk, wanted_of, names_for}
use Rattle.std.specs.Bool.{IsTrue}
use Rattle.sqlite.specs.Held.{state}
use Rattle.store.proofs.OpeningOutcome.{some_wanted, rests_after, entered_first, other_first, may_first}
use Rattle.store.proofs.Known.{may_none}
use Rattle.store.proofs.OnlyReading.{spares_calm, spares_then, spares_failed}
use Rattle.store.proofs.opening.enter_first.Goals as goal

pub returns-in_err-executed : goal.returns-in_err-executed
returns-in_err-executed g c = record {
  entered = search rules;
  turned = λ clean ready has there. search (rules, has.0, has.1);
  lives = search rules;
  crash = λ ready has. may_none (names_for (wanted_of c.args.only)) _ _ (c.load_first.ensures.crash has.0);
  spares = spares_calm _ _ _ c.load_first.ensures.calm;
  fault = search rules;
  autocommit = search rules;
}

pub returns-then-differs : goal.returns-then-differs
returns-then-differs g c =
    let mid = state g.S.Store c.load_first.new.conn in
    record {
      entered = search rules;
      turned = λ clean ready has there. other_first (wanted_of c.args.only) c.all-following.result c.in_ok-executed.executed (state g.S.Store c.args.conn.now) mid mid
          (c.in_ok-executed.ensures.same clean has.0) (c.in_ok-executed.ensures.loads clean has.0 ready.settled has.1) c.all-following.ensures (c.differs.ensures.other (subst IsTrue (sym c.if-differs.true) refl));
      lives = search rules;
      crash = λ ready has. may_none (names_for (wanted_of c.args.only)) _ _ (c.load_first.ensures.crash has.0);
      spares = spares_calm _ _ _ c.load_first.ensures.calm;
      fault = some_wanted (wanted_of c.args.only) c.all-following.result (c.differs.ensures.other (subst IsTrue (sym c.if-differs.true) refl));
      autocommit = search rules;
    }

pub returns-in-Ok : goal.returns-in-Ok
returns-in-Ok g c =
    let old = state g.S.Store c.args.conn.now in
    let mid = state g.S.Store c.load_first.new.conn in
    let new = state g.S.Store c.migrate.new.conn in
    record {
      entered = λ clean ready has.
          let early : HasCleanDisk mid = omega (arith, c.migrate.ensures.crash.clean, clean) in
          let l = c.in_ok-executed.ensures.loads early has.0 ready.settled has.1 in
          entered_first (wanted_of c.args.only) c.all-following.result c.in_ok-executed.executed old mid new
          (c.in_ok-executed.ensures.same early has.0) l c.all-following.ensures (c.differs.ensures.wanted c.if-differs.false) (c.in-Ok.ensures.migrated clean l.content l.rest l.executed_is);
      turned = search rules;
      lives = search rules;
      crash = λ ready has. may_first (wanted_of c.args.only) c.all-following.result c.in_ok-executed.executed old mid new
          (c.in_ok-executed.ensures.crash has.0) c.migrate.ensures.crash (λ early. c.in_ok-executed.ensures.same early has.0) (λ early. c.in_ok-executed.ensures.loads early has.0 ready.settled has.1);
      spares = record { rested = λ clean. tt; survives = tt };
      fault = search rules;
      autocommit = search rules;
    }

pub returns-in-Err : goal.returns-in-Err
returns-in-Err g c =
    let old = state g.S.Store c.args.conn.now in
    let mid = state g.S.Store c.load_first.new.conn in
    let new = state g.S.Store c.migrate.new.conn in
    record {
      entered = search rules;
      turned = λ clean ready has there.
          let early : HasCleanDisk mid = omega (arith, c.migrate.ensures.crash.clean, clean) in
          let l = c.in_ok-executed.ensures.loads early has.0 ready.settled has.1 in
          (tt, rests_after old mid new (c.in_ok-executed.ensures.same early has.0) ((c.in-Err.ensures.refused clean).rests l.rest.settled));
      lives = search rules;
      crash = λ ready has. may_first (wanted_of c.args.only) c.all-following.result c.in_ok-executed.executed old mid new
          (c.in_ok-executed.ensures.crash has.0) c.migrate.ensures.crash (λ early. c.in_ok-executed.ensures.same early has.0) (λ early. c.in_ok-executed.ensures.loads early has.0 ready.settled has.1);
      spares = spares_then old mid new _ c.load_first.ensures.calm (λ clean. omega (arith, c.migrate.ensures.crash.clean, clean)) (spares_failed mid new _ tt c.in-Err.ensures.refused);
      fault = search rules;
      autocommit = search rules;
    }
