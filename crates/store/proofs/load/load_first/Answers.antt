use Rattle.std.proofs.lemmas.Result.{err_from_is_err_and}
use Rattle.sqlite.specs.Held.{state}
use Rattle.store.proofs.Steps.{first_loaded, clean_before}
use Rattle.store.proofs.InTurn.{at_start, leads_on, says_on, all_read, not_read}
use Rattle.store.proofs.Wholes.{first_executed, first_held}
use Rattle.store.proofs.load.load_first.Goals as goal

pub returns-in_err-executed : goal.returns-in_err-executed
returns-in_err-executed g c =
    not_read (at_start _ (state g.S.Store c.args.conn.now)) (first_executed _) c.in_err-executed.ensures c.from_residual.result (err_from_is_err_and c.from_residual.result c.from_residual.ensures.1) (λ rules. rules.executed)

pub returns-in_err-load_held : goal.returns-in_err-load_held
returns-in_err-load_held g c =
    let k1 = leads_on (at_start _ (state g.S.Store c.args.conn.now)) (first_executed _) c.in_ok-executed.ensures in
    let r = c.from_residual-in_err-load_held.result in
    not_read k1 (first_held _) c.in_err-load_held.ensures r (err_from_is_err_and r c.from_residual-in_err-load_held.ensures.1) (λ rules. rules.held)

pub returns : goal.returns
returns g c =
    let k0 = at_start _ (state g.S.Store c.args.conn.now) in
    let k1 = leads_on k0 (first_executed _) c.in_ok-executed.ensures in
    all_read k1 (first_held _) c.in_ok-load_held.ensures _ (λ clean made settled says same.
    first_loaded (state g.S.Store c.args.conn.now) (state g.S.Store c.load_held.new.conn) c.in_ok-executed.executed c.schema.ensures.live made settled says same
    (says_on k0 (first_executed _) c.in_ok-executed.ensures (clean_before _ _ _ c.load_held.ensures.crash clean) made) (says_on k1 (first_held _) c.in_ok-load_held.ensures clean made))
