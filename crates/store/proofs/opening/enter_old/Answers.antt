use Rattle.store.proofs.Names.{rules, err_from_is_err_and, wanted_of, names_for}
use Rattle.sqlite.specs.Held.{state}
use Rattle.store.proofs.PlainQueries.{rests_unchanged}
use Rattle.store.proofs.Known.{there, has_meta, enters_then, may_none}
use Rattle.store.proofs.OnlyReading.{spares_calm}
use Rattle.store.proofs.opening.enter_old.Goals as goal

pub returns-in_err-meta : goal.returns-in_err-meta
returns-in_err-meta g c =
    let old = state g.S.Store c.args.conn.now in
    let p = err_from_is_err_and c.from_residual.result c.from_residual.ensures.1 in
    record {
      entered = search rules;
      turned = λ clean ready so. let rests = (c.in_err-meta.ensures.looks.rested clean (has_meta old c.args.tables ready so.0 so.1)).rests ready.settled in rw (p.1, p.2) (tt, rests);
      crash = λ ready so. may_none (names_for (wanted_of c.args.only)) _ _ (c.read_meta.ensures.looks.survives (has_meta _ c.args.tables ready so.0 so.1));
      fault = search rules;
      spares = spares_calm _ _ _ c.read_meta.ensures.calm;
      clean = c.read_meta.ensures.looks.clean;
      autocommit = search rules;
    }

pub returns-in_err-layout_of : goal.returns-in_err-layout_of
returns-in_err-layout_of g c =
    let old = state g.S.Store c.args.conn.now in
    let wanted = wanted_of c.args.only in
    let p = err_from_is_err_and c.from_residual-in_err-layout_of.result c.from_residual-in_err-layout_of.ensures.1 in
    record {
      entered = search rules;
      turned = λ clean ready so. let mf = has_meta old c.args.tables ready so.0 so.1 in rw (p.1, p.2)
          (c.in_err-layout_of.ensures.judged old.now ready.known (c.in_ok-meta.ensures.says clean mf) so.0 so.1 wanted, rests_unchanged old (state g.S.Store c.read_meta.new.conn) (c.in_ok-meta.ensures.looks.same clean mf));
      crash = λ ready so. may_none (names_for wanted) _ _ (c.read_meta.ensures.looks.survives (has_meta _ c.args.tables ready so.0 so.1));
      fault = rw (p.1, p.2) (c.in_err-layout_of.ensures.fault wanted);
      spares = spares_calm _ _ _ c.read_meta.ensures.calm;
      clean = c.read_meta.ensures.looks.clean;
      autocommit = search rules;
    }

pub returns-in-First : goal.returns-in-First
returns-in-First g c =
    let old = state g.S.Store c.args.conn.now in
    enters_then c.read_meta.ensures.looks.clean c.read_meta.ensures.calm (λ ready so. c.read_meta.ensures.looks.survives (has_meta old c.args.tables ready so.0 so.1)) (λ ready so early. c.in_ok-meta.ensures.looks.same early (has_meta old c.args.tables ready so.0 so.1))
    (λ ready so early. rw c.in-First.is at (c.in_ok-layout_of.ensures.judged old.now ready.known (c.in_ok-meta.ensures.says early (has_meta old c.args.tables ready so.0 so.1)) so.0 so.1)) (λ so. there old c.args.tables so.0 so.1) c.enter_first.ensures

pub returns-in-Second : goal.returns-in-Second
returns-in-Second g c =
    let old = state g.S.Store c.args.conn.now in
    enters_then c.read_meta.ensures.looks.clean c.read_meta.ensures.calm (λ ready so. c.read_meta.ensures.looks.survives (has_meta old c.args.tables ready so.0 so.1)) (λ ready so early. c.in_ok-meta.ensures.looks.same early (has_meta old c.args.tables ready so.0 so.1))
    (λ ready so early. rw c.in-Second.is at (c.in_ok-layout_of.ensures.judged old.now ready.known (c.in_ok-meta.ensures.says early (has_meta old c.args.tables ready so.0 so.1)) so.0 so.1)) (λ so. there old c.args.tables so.0 so.1) c.enter_second.ensures
