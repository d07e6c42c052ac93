use Rattle.store.proofs.Names.{◌≡◌, [], Err, sym, subst, rules, HasCleanDisk, IsUnchanged, Survives, AsksAll, OnSeen, Rested, all_held_text}
use Rattle.sqlite.specs.Held.{state}
use Rattle.store.specs.Load.{IsCalm}
use Rattle.store.proofs.OnlyReading.{held_only, calm_read, calm_begun}
use Rattle.store.proofs.Readings.{all_rests, all_survives}
use Rattle.store.proofs.Steps.{clean_before}
use Rattle.store.proofs.Verdicts.{begun_survives, begun_rested, begun_same, begun_judged}
use Rattle.store.proofs.table.held.load_held.Goals as goal

pub returns-in_err-rows : goal.returns-in_err-rows
returns-in_err-rows g c =
    let old = state g.S.Store c.args.conn.now in
    let new = state g.S.Store c.query.follows.lender-at-none in
    let refused = rw c.in_err-rows.was at c.query.follows.holds-at-none in
    record {
      judged = search rules;
      same = search rules;
      rested = λ clean tree asks. all_rests all_held_text tree old new asks {X = Unit {0}} (Err c.in_err-rows.field-0.0) tt (refused.err clean);
      crash = all_survives all_held_text old new refused.survives;
      calm = calm_read all_held_text held_only {X = Unit {0}} (λ x. []) old new (Err c.in_err-rows.field-0.0) (λ clean. tt) refused.err refused.survives;
      fault = search rules;
      autocommit = search rules;
    }

pub returns-in_err-verdict : goal.returns-in_err-verdict
returns-in_err-verdict g c =
    let s = state g.S.Store in
    let old = c.args.conn.now in
    let mid = c.in_ok-rows.rows.conn.now in
    let new = c.judge_rows.new.rows.conn.now in
    let same : new ≡ c.conn-in_err-verdict-1.given.0 = search rules in
    let survives = c.judge_rows.ensures.reads.survives in
    record {
      judged = search rules;
      same = search rules;
      rested = λ clean tree asks.
          let late : HasCleanDisk (s new) = subst (λ k. HasCleanDisk (s k)) (sym same) clean in
          subst (λ k. Rested (s old) (s k)) same (begun_rested g.S.Store old mid tree asks (c.in_ok-rows.ensures.begun (clean_before (s mid) (s new) _ survives late)) (s new) (c.judge_rows.ensures.rested late));
      crash = subst (λ k. Survives (s old) (s k) (λ _. (tree : _) → ¬ AsksAll (s old).now.schema all_held_text tree)) same (begun_survives (s old) (s mid) (s new) c.in_ok-rows.ensures.survives survives);
      calm = subst (λ k. IsCalm (s old) (s k)) same (calm_begun all_held_text held_only g.S.Store old mid (s new) c.in_ok-rows.ensures.begun c.in_ok-rows.ensures.survives c.judge_rows.ensures.rested survives);
      fault = search rules;
      autocommit = search rules;
    }

pub returns : goal.returns
returns g c =
    let s = state g.S.Store in
    let old = c.args.conn.now in
    let mid = c.in_ok-rows.rows.conn.now in
    let new = c.judge_rows.new.rows.conn.now in
    let same : new ≡ c.conn-2-1.given.0 = search rules in
    let late : HasCleanDisk (s c.conn-2-1.given.0) → HasCleanDisk (s new) = λ clean. subst (λ k. HasCleanDisk (s k)) (sym same) clean in
    let survives = c.judge_rows.ensures.reads.survives in
    let begun = λ (clean : HasCleanDisk (s c.conn-2-1.given.0)). c.in_ok-rows.ensures.begun (clean_before (s mid) (s new) _ survives (late clean)) in
    record {
      judged = λ clean tree asks. begun_judged g.S.Store old mid tree asks (begun clean) (s new) c.in_ok-verdict.verdict c.schema.ensures.live (c.in_ok-verdict.ensures.judged (late clean) all_held_text) c.answer.result c.answer.ensures.judged;
      same = λ clean tree asks. subst (λ k. OnSeen c.answer.result (IsUnchanged (s old) (s k))) same
          (begun_same g.S.Store old mid tree asks (begun clean) (s new) c.in_ok-verdict.verdict c.schema.ensures.live (c.in_ok-verdict.ensures.judged (late clean) all_held_text) c.answer.result);
      rested = λ clean tree asks. subst (λ k. Rested (s old) (s k)) same (begun_rested g.S.Store old mid tree asks (begun clean) (s new) (c.judge_rows.ensures.rested (late clean)));
      crash = subst (λ k. Survives (s old) (s k) (λ _. (tree : _) → ¬ AsksAll (s old).now.schema all_held_text tree)) same (begun_survives (s old) (s mid) (s new) c.in_ok-rows.ensures.survives survives);
      calm = subst (λ k. IsCalm (s old) (s k)) same (calm_begun all_held_text held_only g.S.Store old mid (s new) c.in_ok-rows.ensures.begun c.in_ok-rows.ensures.survives c.judge_rows.ensures.rested survives);
      fault = search rules;
      autocommit = search rules;
    }
