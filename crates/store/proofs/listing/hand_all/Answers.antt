use Rattle.store.proofs.Names.{inr, refl, sym, subst, rules, err_from_is_err_and, Advances, unchanged_then}
use Rattle.sqlite.specs.Held.{state}
use Rattle.store.proofs.Steps.{clean_before, rested_unchanged}
use Rattle.store.proofs.Verdicts.{survives_self}
use Rattle.store.proofs.RowVisits.{listing_none, left_accepted, left_rested, all_accepted, next_accepted, stopped}
use Rattle.store.proofs.listing.hand_all.Goals as goal

pub rows-init : goal.rows-init
rows-init g c =
    let h = c.args.rows.now.conn.now in
    record {
      reads = record { same_reference = refl; survives = survives_self (state g.S.Store h); autocommit = λ outside. outside };
      listing = λ clean given names content rest. listing_none g.S.Store names content g.V.Visitor.row_gives h rest c.args.visitor.now given;
    }

pub returns-in-Err-clause-hands : goal.returns-in-Err-clause-hands
returns-in-Err-clause-hands g c clean given names content rest =
    let old = c.args.rows.now.conn.now in
    let mid = c.rows.rows.conn.now in
    let new = c.advance.new.self.conn.now in
    let was = clean_before (state g.S.Store mid) (state g.S.Store new) _ c.advance.ensures.survives clean in
    let it = c.rows.invariant.listing was given names content rest in (
      inr (left_accepted g.S.Store names content g.V.Visitor.row_gives old rest c.args.visitor.now mid c.rows.visitor it),
      left_rested g.S.Store names content g.V.Visitor.row_gives old rest c.args.visitor.now mid c.rows.visitor it new c.in-Err.error (c.in-Err.ensures.err clean),
    )

pub returns-in_default-clause-hands : goal.returns-in_default-clause-hands
returns-in_default-clause-hands g c clean given names content rest =
    let old = c.args.rows.now.conn.now in
    let mid = c.rows.rows.conn.now in
    let new = c.advance.new.self.conn.now in
    let was = clean_before (state g.S.Store mid) (state g.S.Store new) _ c.advance.ensures.survives clean in
    let it = c.rows.invariant.listing was given names content rest in (
      all_accepted g.S.Store names content g.V.Visitor.row_gives old rest c.args.visitor.now mid c.rows.visitor it new (subst (λ o. Advances g.S.Store mid new o) (sym c.in_default.ensures) (c.in-Ok.ensures.ok clean)) (c.in-Ok.ensures.same clean),
      unchanged_then (state g.S.Store old) (state g.S.Store mid) (state g.S.Store new) it.same (c.in-Ok.ensures.same clean),
    )

pub returns-in_err-hand-clause-hands : goal.returns-in_err-hand-clause-hands
returns-in_err-hand-clause-hands g c clean given names content rest =
    let old = c.args.rows.now.conn.now in
    let mid = c.rows.rows.conn.now in
    let new = c.advance.new.self.conn.now in
    let was = clean_before (state g.S.Store mid) (state g.S.Store new) _ c.advance.ensures.survives clean in
    let it = c.rows.invariant.listing was given names content rest in
    let next = next_accepted g.S.Store names content g.V.Visitor.row_gives old rest c.args.visitor.now mid c.rows.visitor it new c.in-Some.row.now (subst (λ o. Advances g.S.Store mid new o) (sym c.in-Some.ensures) (c.in-Ok.ensures.ok clean)) (c.in-Ok.ensures.same clean) in
    let p = err_from_is_err_and c.from_residual.result c.from_residual.ensures.1 in
    rw (p.1, p.2)
    (stopped g.S.Store names content g.V.Visitor.row_gives old rest c.args.visitor.now mid c.rows.visitor it new c.in-Some.row.now (c.in-Ok.ensures.same clean) next c.hand.new.visitor c.in_err-hand.field-0.0 (c.in_err-hand.ensures.handed next.entry next.shown next.lawful))

pub rows-preserved : goal.rows-preserved
rows-preserved g c = record {
  reads = search rules;
  listing = λ clean given names content rest.
      let old = c.args.rows.now.conn.now in
      let mid = c.rows.rows.conn.now in
      let new = c.advance.new.self.conn.now in
      let was = clean_before (state g.S.Store mid) (state g.S.Store new) _ c.advance.ensures.survives clean in
      let it = c.rows.invariant.listing was given names content rest in
      let next = next_accepted g.S.Store names content g.V.Visitor.row_gives old rest c.args.visitor.now mid c.rows.visitor it new c.in-Some.row.now (subst (λ o. Advances g.S.Store mid new o) (sym c.in-Some.ensures) (c.in-Ok.ensures.ok clean)) (c.in-Ok.ensures.same clean) in
      next.more c.hand.new.visitor (c.in_ok-hand.ensures.handed next.entry next.shown next.lawful);
}

pub returns-clause-hands : goal.returns-clause-hands
returns-clause-hands g c clean given names content rest =
    let old = c.args.rows.now.conn.now in
    let mid = c.rows.rows.conn.now in
    let it = c.rows.invariant.listing clean given names content rest in (
      inr (left_accepted g.S.Store names content g.V.Visitor.row_gives old rest c.args.visitor.now mid c.rows.visitor it),
      rested_unchanged (state g.S.Store old) (state g.S.Store mid) it.same,
    )
