use Rattle.replica.proofs.Names.{rules, ◌≡◌, ◌++◌, ◌∷◌, [], ◌+◌, ℕ, List, Vec, Global, take, sym, ap, ◌∙◌, subst, All, take_more, Ended, IsOwn, streams_of, HasReadAll}
use Rattle.std.proofs.lemmas.List.Elements.{All-push}
use Rattle.sqlite.specs.Held.{state}
use Rattle.replica.specs.Pieces.{stream_of}
use Rattle.replica.specs.Over.{HasRead}
use Rattle.replica.proofs.Runs.{none_read, next_read}
use Rattle.replica.proofs.Keeps.{store_same, store_then}
use Rattle.replica.proofs.source.connections.run.Goals as goal

pub loop-pieces-init : goal.loop-pieces-init
loop-pieces-init g c = record {
  room = search rules;
  count = search rules;
  keeps = store_same g.S.Store;
  taken = λ h was old holds.
      subst (λ (l : List Ended). HasReadAll g.S.Store c.args.config.now.limit c.args.store.now (state g.S.Store c.args.store.now.conn).now.schema was old [] l) (sym c.in-Ok.ensures.items)
      (none_read g.S.Store (λ h db is_open may. g.met.S.Store.settled h.store db is_open may) c.args.config.now.limit c.args.store.now was old holds);
  may_end = subst (λ (l : List Ended). All (λ (e : Ended). IsOwn e.reason) l) (sym c.in-Ok.ensures.items) (search rules);
}

pub loop-pieces-preserved : goal.loop-pieces-preserved
loop-pieces-preserved g c =
    let i = c.loop-pieces.pieces-index in
    let all = c.args.connections.now in
    let pieces = c.pieces-item.result in
    let ends = c.loop-pieces.ends.items in
    let end = c.read_connection-end.result in
    let limit = c.args.config.now.limit in
    let schema = (state g.S.Store c.args.store.now.conn).now.schema in
    let more : take (i + 1) all ≡ take i all ++ pieces ∷ [] =
    take_more all i pieces c.loop-pieces-test.true ∙ ap (λ (p : Vec (Vec ℕ Global) Global). take i all ++ p ∷ []) (sym c.pieces-item.is) in
    record {
      room = search rules;
      count = search rules;
      keeps = store_then g.S.Store c.loop-pieces.invariant.keeps c.read_connection-end.ensures.keeps;
      taken = λ h was old holds.
          let t = c.loop-pieces.invariant.taken (c.read_connection-end.ensures.keeps.clean h) was old holds in
          let r = c.read_connection-end.ensures.read h t.is t.new t.holds in
          subst (λ (l : List Ended). HasReadAll g.S.Store limit c.read_connection-end.new.store schema was old (streams_of (take (i + 1) all)) l) (sym c.push_reserved.ensures.items)
          (next_read g.S.Store limit c.loop-pieces.store c.read_connection-end.new.store schema was old all i pieces ends end c.read_connection-end.ensures.keeps.broken more t
          (subst (λ (l : List (Vec ℕ Global)). HasRead g.S.Store limit c.loop-pieces.store c.read_connection-end.new.store t.is t.new (stream_of l) end) c.as_slice.ensures.value r));
      may_end = subst (λ (l : List Ended). All (λ (e : Ended). IsOwn e.reason) l) (sym c.push_reserved.ensures.items)
          (All-push (λ (e : Ended). IsOwn e.reason) ends end c.loop-pieces.invariant.may_end c.read_connection-end.ensures.may_end);
    }
