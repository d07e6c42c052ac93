use Rattle.store.proofs.Names.{refl, sym, subst, Advances}
use Rattle.sqlite.specs.Held.{state}
use Rattle.store.proofs.Steps.{clean_before}
use Rattle.store.proofs.Verdicts.{survives_self, rested_self, judging_none, judged_all}
use Rattle.store.proofs.table.held.judge_rows.Goals as goal

pub rows-init : goal.rows-init
rows-init g c =
    let h = c.args.rows.now.conn.now in
    record {
      reads = record { same_reference = refl; survives = survives_self (state g.S.Store h); autocommit = λ outside. outside };
      rested = λ clean. rested_self (state g.S.Store h);
      judging = λ clean sql given. judging_none g.S.Store sql h given;
    }

pub returns-in_default-clause-judged : goal.returns-in_default-clause-judged
returns-in_default-clause-judged g c clean sql given live =
    let first = c.args.rows.now.conn.now in
    let old = c.rows.rows.conn.now in
    let new = c.advance.new.self.conn.now in
    let was = clean_before (state g.S.Store old) (state g.S.Store new) _ c.advance.ensures.survives clean in
    judged_all g.S.Store sql first old new c.rows.verdict (c.rows.invariant.judging was sql given) (subst (λ o. Advances g.S.Store old new o) (sym c.in_default.ensures) (c.in_ok-advance.ensures.ok clean)) (c.in_ok-advance.ensures.same clean) live
