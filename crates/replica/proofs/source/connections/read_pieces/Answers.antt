use Rattle.replica.proofs.Names.{◌≡◌, ◌++◌, ◌∷◌, ◌+◌, ℕ, List, [], Vec, Global, take, sym, ap, ◌∙◌, subst, take_more, Ended, IsOwn, StandsOver}
use Rattle.std.proofs.lemmas.List.{take_all}
use Rattle.sqlite.specs.Held.{state}
use Rattle.replica.specs.Pieces.{stream_of}
use Rattle.replica.specs.Standing.{having_read}
use Rattle.replica.specs.Over.{HasRead}
use Rattle.replica.proofs.Histories.{stream-more}
use Rattle.replica.proofs.Runs.{begins, read_all}
use Rattle.replica.proofs.Keeps.{store_same, store_then}
use Rattle.replica.proofs.source.connections.read_pieces.Goals as goal

pub loop-piece-init : goal.loop-piece-init
loop-piece-init g c = record {
  config = c.new-session.ensures.config;
  keeps = store_same g.S.Store;
  stands = λ h was old holds. begins g.S.Store (λ h db is_open may. g.met.S.Store.settled h.store db is_open may) c.new-session.result c.args.store.now was old holds (c.new-session.ensures.stands c.args.store.now.following was old);
  may_end = rw c.new-session.ensures.ended tt;
}

pub loop-piece-preserved : goal.loop-piece-preserved
loop-piece-preserved g c =
    let i = c.loop-piece.piece-index in
    let all = c.args.pieces.now in
    let piece = c.piece-item.result in
    let inv = c.loop-piece.invariant in
    let more : take (i + 1) all ≡ take i all ++ piece ∷ [] =
    take_more all i piece c.loop-piece-test.true ∙ ap (λ (p : Vec ℕ Global). take i all ++ p ∷ []) (sym c.piece-item.is) in
    let grown : stream_of (take i all) ++ c.as_slice.result.now ≡ stream_of (take (i + 1) all) =
    ap (λ (l : List ℕ). stream_of (take i all) ++ l) c.as_slice.ensures.value ∙ sym (stream-more all i piece more) in
    record {
      config = c.feed.ensures.config ∙ inv.config;
      keeps = store_then g.S.Store inv.keeps c.feed.ensures.keeps;
      stands = λ h was old holds. subst (λ (l : List ℕ). StandsOver g.S.Store c.feed.new.self c.feed.new.store (state g.S.Store c.args.store.now.conn).now.schema (having_read was old l)) grown
          (c.feed.ensures.stands h (state g.S.Store c.args.store.now.conn).now.schema (having_read was old (stream_of (take i all))) (inv.stands (c.feed.ensures.keeps.clean h) was old holds));
      may_end = c.feed.ensures.may_end inv.may_end;
    }

pub returns-clause-read : goal.returns-clause-read
returns-clause-read g c clean was old holds =
    let inv = c.loop-piece.invariant in
    subst (λ (l : List (Vec ℕ Global)). HasRead g.S.Store c.args.config.limit c.args.store.now c.loop-piece.store was old (stream_of l) c.finish.result) (take_all c.loop-piece.piece-index c.args.pieces.now c.loop-piece-test.false)
    (read_all g.S.Store c.loop-piece.session c.args.store.now c.loop-piece.store c.args.config.limit (having_read was old (stream_of (take c.loop-piece.piece-index c.args.pieces.now))) c.finish.result (ap (λ s. s.limit) inv.config) inv.keeps.following c.finish.ensures.end
    (inv.stands clean was old holds))

pub returns-clause-may_end : goal.returns-clause-may_end
returns-clause-may_end g c = subst (λ (e : Ended). IsOwn e.reason) (sym c.finish.ensures.end) c.loop-piece.invariant.may_end
