use Rattle.store.proofs.Names.{sym, subst, refl, rules, wanted_of, names_for}
use Rattle.std.specs.Bool.{IsTrue}
use Rattle.sqlite.specs.Held.{state}
use Rattle.store.proofs.OpeningOutcome.{some_wanted, entered_second, other_second}
use Rattle.store.proofs.Known.{may_none}
use Rattle.store.proofs.OnlyReading.{spares_calm}
use Rattle.store.proofs.opening.enter_second.Goals as goal

pub returns-in_err-loaded : goal.returns-in_err-loaded
returns-in_err-loaded g c = record {
  entered = search rules;
  turned = λ clean ready has there. search (rules, has.0, has.1);
  lives = search rules;
  crash = λ ready has. may_none (names_for (wanted_of c.args.only)) _ _ (c.load.ensures.crash has.0);
  spares = spares_calm _ _ _ c.load.ensures.calm;
  fault = search rules;
  autocommit = search rules;
}

pub returns-then-differs : goal.returns-then-differs
returns-then-differs g c = record {
  entered = search rules;
  turned = λ clean ready has there. other_second (wanted_of c.args.only) c.in_ok-loaded.loaded.following c.in_ok-loaded.loaded.executed (state g.S.Store c.args.conn.now) (state g.S.Store c.load.new.conn)
      (c.in_ok-loaded.ensures.same clean has.0) (c.in_ok-loaded.ensures.loads clean has.0 ready.settled has.1) (c.differs.ensures.other (subst IsTrue (sym c.if-differs.true) refl));
  lives = search rules;
  crash = λ ready has. may_none (names_for (wanted_of c.args.only)) _ _ (c.load.ensures.crash has.0);
  spares = spares_calm _ _ _ c.load.ensures.calm;
  fault = some_wanted (wanted_of c.args.only) c.in_ok-loaded.loaded.following (c.differs.ensures.other (subst IsTrue (sym c.if-differs.true) refl));
  autocommit = search rules;
}

pub returns : goal.returns
returns g c = record {
  entered = λ clean ready has. entered_second (wanted_of c.args.only) c.in_ok-loaded.loaded.following c.in_ok-loaded.loaded.executed (state g.S.Store c.args.conn.now) (state g.S.Store c.load.new.conn)
      (c.in_ok-loaded.ensures.same clean has.0) (c.in_ok-loaded.ensures.loads clean has.0 ready.settled has.1) (c.differs.ensures.wanted c.if-differs.false);
  turned = search rules;
  lives = search rules;
  crash = λ ready has. may_none (names_for (wanted_of c.args.only)) _ _ (c.load.ensures.crash has.0);
  spares = spares_calm _ _ _ c.load.ensures.calm;
  fault = search rules;
  autocommit = search rules;
}
