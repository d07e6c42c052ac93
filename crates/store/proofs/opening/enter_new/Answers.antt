use Rattle.store.proofs.Names.{rules, err_from_is_err_and, wanted_of, names_for}
use Rattle.sqlite.specs.Held.{state}
use Rattle.store.proofs.OpeningOutcome.{blank, entered_new, may_new}
use Rattle.store.proofs.OnlyReading.{spares_failed}
use Rattle.store.proofs.opening.enter_new.Goals as goal

pub returns-in_err-make : goal.returns-in_err-make
returns-in_err-make g c =
    let old = state g.S.Store c.args.conn.now in
    let new = state g.S.Store c.make.new.conn in
    let p = err_from_is_err_and c.from_residual-in_err-make.result c.from_residual-in_err-make.ensures.1 in
    record {
      entered = search rules;
      turned = λ clean ready none. let rests = (c.in_err-make.ensures.refused clean).rests ready.settled in search (rules, rests);
      crash = λ ready none. may_new (names_for (wanted_of c.args.only)) c.in_ok-following.following old (state g.S.Store c.make.new.conn) none c.in_ok-following.ensures.ok (c.make.ensures.crash (blank old ready none));
      spares = rw (p.1, p.2) (spares_failed old new _ tt c.in_err-make.ensures.refused);
      fault = search rules;
      clean = c.make.ensures.clean;
      autocommit = c.make.ensures.autocommit;
    }

pub returns : goal.returns
returns g c =
    let old = state g.S.Store c.args.conn.now in
    let new = state g.S.Store c.make.new.conn in
    let following = c.in_ok-following.following in
    record {
      entered = λ clean ready none. entered_new (wanted_of c.args.only) following c.new.result old new none c.in_ok-following.ensures.ok c.new.ensures (c.in_ok-make.ensures.made clean (blank old ready none));
      turned = λ clean ready none. tt;
      crash = λ ready none. may_new (names_for (wanted_of c.args.only)) following old new none c.in_ok-following.ensures.ok (c.make.ensures.crash (blank old ready none));
      spares = record { rested = λ clean. tt; survives = tt };
      fault = tt;
      clean = c.make.ensures.clean;
      autocommit = c.make.ensures.autocommit;
    }
