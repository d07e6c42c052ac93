use Rattle.std.proofs.lemmas.Result.{err_from_is_err_and}
use Rattle.sqlite.specs.Held.{state}
use Rattle.store.proofs.Steps.{loaded, clean_before}
use Rattle.store.proofs.InTurn.{at_start, leads_on, says_on, all_read, not_read}
use Rattle.store.proofs.Wholes.{follow_asks, spans_asks, held_asks}
use Rattle.store.proofs.load.load.Goals as goal

pub returns-in_err-following : goal.returns-in_err-following
returns-in_err-following g c =
    not_read (at_start _ (state g.S.Store c.args.conn.now)) (follow_asks _) c.in_err-following.ensures c.from_residual.result (err_from_is_err_and c.from_residual.result c.from_residual.ensures.1) (λ rules. rules.follow)

pub returns-in_err-executed : goal.returns-in_err-executed
returns-in_err-executed g c =
    let k1 = leads_on (at_start _ (state g.S.Store c.args.conn.now)) (follow_asks _) c.in_ok-following.ensures in
    let r = c.from_residual-in_err-executed.result in
    not_read k1 (spans_asks _) c.in_err-executed.ensures r (err_from_is_err_and r c.from_residual-in_err-executed.ensures.1) (λ rules. (rules.spans, rules.apart))

pub returns-in_err-load_held : goal.returns-in_err-load_held
returns-in_err-load_held g c =
    let k1 = leads_on (at_start _ (state g.S.Store c.args.conn.now)) (follow_asks _) c.in_ok-following.ensures in
    let k2 = leads_on k1 (spans_asks _) c.in_ok-executed.ensures in
    let r = c.from_residual-in_err-load_held.result in
    not_read k2 (held_asks _) c.in_err-load_held.ensures r (err_from_is_err_and r c.from_residual-in_err-load_held.ensures.1) (λ rules. rules.held)

pub returns : goal.returns
returns g c =
    let k0 = at_start _ (state g.S.Store c.args.conn.now) in
    let k1 = leads_on k0 (follow_asks _) c.in_ok-following.ensures in
    let k2 = leads_on k1 (spans_asks _) c.in_ok-executed.ensures in
    all_read k2 (held_asks _) c.in_ok-load_held.ensures _ (λ clean laid settled says same.
    let clean2 = clean_before _ _ _ c.load_held.ensures.crash clean in
    let clean1 = clean_before _ _ _ c.load_spans.ensures.crash clean2 in
    loaded (state g.S.Store c.args.conn.now) (state g.S.Store c.load_held.new.conn) c.in_ok-executed.executed c.in_ok-following.following c.schema.ensures.live laid settled says same
    (says_on k0 (follow_asks _) c.in_ok-following.ensures clean1 laid) (says_on k1 (spans_asks _) c.in_ok-executed.ensures clean2 laid) (says_on k2 (held_asks _) c.in_ok-load_held.ensures clean laid))
