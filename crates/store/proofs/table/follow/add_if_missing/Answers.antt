use Rattle.store.proofs.Names.{◌≡◌, ◌∙◌, sym, subst, Names, AreNames, follow_rows}
use Rattle.std.specs.FinSet as set
use Rattle.sqlite.specs.Held.{state}
use Rattle.store.specs.Changes.{widened}
use Rattle.store.specs.Inside.{StoresNames}
use Rattle.store.proofs.MoreNames.{widened_known, widened_new, named_same}
use Rattle.store.proofs.table.follow.add_if_missing.Goals as goal

pub returns-then-follows-clause-named : goal.returns-then-follows-clause-named
returns-then-follows-clause-named g c so_far clean was were =
    let s = state g.S.Store c.args.tx.now.conn.now in
    let is : widened c.args.following.now (set.insert so_far (c.args.schema.now, c.args.table.now)) ≡ widened c.args.following.now so_far =
    widened_known c.args.following.now so_far (c.args.schema.now, c.args.table.now) (sym c.follows.ensures ∙ c.if-follows.true) in
    named_same s _ was (subst (AreNames (follow_rows s.now)) (sym is) were)

pub returns-clause-named : goal.returns-clause-named
returns-clause-named g c so_far clean was were =
    subst (StoresNames (state g.S.Store c.args.tx.now.conn.now) (state g.S.Store c.add_name.new.tx.conn.now))
    (sym (widened_new c.args.following.now so_far (c.args.schema.now, c.args.table.now) (sym c.follows.ensures ∙ c.if-follows.false)))
    (c.in_ok-add_name.ensures.added (widened c.args.following.now so_far) clean was were)
