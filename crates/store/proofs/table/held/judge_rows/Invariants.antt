use Rattle.store.proofs.Names.{ℕ, List, [], HasCleanDisk, Rested}
use Rattle.sqlite.specs.Held.{state}
use Rattle.sqlite.specs.Given.{HasGiven}
use Rattle.store.specs.Load.{ReadsOn, IsJudging}
use Rattle.store.proofs.table.held.judge_rows.Given as goal

abbrev pub invariant-rows : goal.invariant-rows
invariant-rows g l =
    let old = l.fn.rows.conn.now in
    let now = l.rows.conn.now in
    record {
      reads : ReadsOn g.S.Store l.fn.rows.conn l.rows.conn;
      rested : HasCleanDisk (state g.S.Store now) → Rested (state g.S.Store old) (state g.S.Store now);
      judging : HasCleanDisk (state g.S.Store now) → (sql : List ℕ) → HasGiven g.S.Store sql [] old [] → IsJudging g.S.Store sql old now l.verdict;
    }
