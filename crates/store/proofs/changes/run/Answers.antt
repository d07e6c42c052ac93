use Rattle.store.proofs.Names.{◌≡◌, true, false, is_none, rules, arith, HasCleanDisk, Error, survives_then, survives_weaker, delivery_value, Content, IsAtRest, IsNew, MayCommit}
use Rattle.sqlite.specs.Held.{state}
use Rattle.store.proofs.Ran.{runs_err, may_commit_err}
use Rattle.store.proofs.TransactionTrial.{IsStill, committed, may_be_committed, rolled_back, commits_none, still, runs_then, crash_then, rests_after}
use Rattle.store.proofs.changes.run.Goals as goal

pub returns-in_err-run_once : goal.returns-in_err-run_once
returns-in_err-run_once g c =
    let names = c.args.filter.now in
    let d = delivery_value c.args.delivery.now in
    let old = state g.S.Store c.args.conn.now in
    let new = state g.S.Store c.run_once-2.new.conn in
    let r = c.from_residual.result in
    record {
      runs = λ clean content rest it. runs_err names content d true old new r c.from_residual.ensures.0 (c.in_err-run_once.ensures.runs clean content rest it);
      opened = search rules;
      done = search rules;
      lives = search rules;
      autocommit = search rules;
      crash = λ content rest it. survives_weaker old new _ (MayCommit names content d old.now r) (λ _ db may. may_commit_err names content d old.now r db c.from_residual.ensures.0 may) (c.in_err-run_once.ensures.crash content rest it);
    }

pub returns-then-is_none : goal.returns-then-is_none
returns-then-is_none g c =
    let names = c.args.filter.now in
    let d = delivery_value c.args.delivery.now in
    let old = state g.S.Store c.args.conn.now in
    let new = state g.S.Store c.run_once-2.new.conn in
    let first = c.in_ok-run_once.field-0 in
    record {
      runs = λ clean content rest it. committed Error names content d old new first (search rules) (c.in_ok-run_once.ensures.runs clean content rest it);
      opened = search rules;
      done = search rules;
      lives = search rules;
      autocommit = search rules;
      crash = λ content rest it. may_be_committed Error names content d old new first (search rules) (c.in_ok-run_once.ensures.crash content rest it);
    }

pub returns-in_err-check_open : goal.returns-in_err-check_open
returns-in_err-check_open g c =
    let names = c.args.filter.now in
    let d = delivery_value c.args.delivery.now in
    let old = state g.S.Store c.args.conn.now in
    let mid = state g.S.Store c.run_once-2.new.conn in
    let new = state g.S.Store c.check_open.new.conn in
    let first = c.in_ok-run_once.field-0 in
    let refused : is_none first ≡ false = search rules in
    let r = c.from_residual-in_err-check_open.result in
    record {
      runs = λ clean content rest it.
          let early : HasCleanDisk mid = omega (arith, c.check_open.ensures.survives.clean, clean) in
          runs_err names content d true old new r c.from_residual-in_err-check_open.ensures.0
          (rests_after old mid new rest.settled (c.check_open.ensures.opened clean) (rolled_back Error names content d old mid first refused (c.in_ok-run_once.ensures.runs early content rest it)) (c.check_open.ensures.rests clean));
      opened = search rules;
      done = search rules;
      lives = search rules;
      autocommit = search rules;
      crash = λ content rest it.
          survives_then old mid new (λ _. ⊥) (λ _. ⊥) (MayCommit names content d old.now r) (λ _ db none. absurd none) (λ _ db none. absurd none)
          (commits_none Error names content d old mid first refused (c.in_ok-run_once.ensures.crash content rest it)) c.check_open.ensures.survives;
    }

pub returns : goal.returns
returns g c =
    let names = c.args.filter.now in
    let d = delivery_value c.args.delivery.now in
    let old = state g.S.Store c.args.conn.now in
    let mid = state g.S.Store c.run_once-2.new.conn in
    let two = state g.S.Store c.check_open.new.conn in
    let new = state g.S.Store c.run_once-3.new.conn in
    let first = c.in_ok-run_once.field-0 in
    let refused : is_none first ≡ false = search rules in
    let same : (content : Content) → IsAtRest old names content → IsNew old.now names content d c.args.beside.now → HasCleanDisk two → IsStill old two =
    λ content rest it late. still old mid two (rolled_back Error names content d old mid first refused (c.in_ok-run_once.ensures.runs (omega (arith, c.check_open.ensures.survives.clean, late)) content rest it)) (c.in_ok-check_open.ensures.same late) in
    record {
      runs = λ clean content rest it.
          runs_then names content d c.args.beside.now old two new c.run_once-3.result rest it (same content rest it (omega (arith, c.run_once-3.ensures.lives.clean, clean))) (c.run_once-3.ensures.runs clean content);
      opened = search rules;
      done = search rules;
      lives = search rules;
      autocommit = search rules;
      crash = λ content rest it.
          crash_then names content d c.args.beside.now old two new c.run_once-3.result rest it (same content rest it)
          (survives_then old mid two (λ _. ⊥) (λ _. ⊥) (λ _. ⊥) (λ _ db none. none) (λ _ db none. none) (commits_none Error names content d old mid first refused (c.in_ok-run_once.ensures.crash content rest it)) c.check_open.ensures.survives)
          c.run_once-3.ensures.lives (c.run_once-3.ensures.crash content);
    }
