-- A session over a store from its begin to its end, and connections in order.
use Rattle.replica.proofs.Names.{◌≡◌, ℕ, Bool, true, false, List, [], ◌∷◌, ◌++◌, ◌+◌, take, inl, inr, refl, sym, ap, ◌∙◌, subst, IsTrue, Vec, Global, map-append, true≢false, Ghosts, Trees, Schema, Held, Content, Store, HoldsAs, HasFailed, AreOf, Ended, Memory, Session, Conn, BreaksStore, History, IsLeftOfOne, IsLeftOfAll, streams_of, end_of, StandsOver, LeavesOnly, HasReadAll}
use Rattle.sqlite.specs.Held.{state}
use Rattle.store.specs.Store.{Holds}
use Rattle.store.proofs.ExecutedInMemory as applying
use Rattle.replica.specs.Pieces.{stream_of}
use Rattle.replica.specs.Standing.{Position, Stands, from_start}
use Rattle.replica.specs.Over.{HasRead}
use Rattle.replica.proofs.Positions.{conn_of, store_of}
use Rattle.replica.proofs.Histories.{conn-unread, history-append, here, stays}
use Rattle.replica.proofs.DumpSteps.{either}

module _ {S : Type 0} (g : Ghosts S) (settled : (h : Held S) (db : Trees) → IsTrue (state g h).is_open → (state g h).may_leave db → db ≡ (state g h).committed.trees) where
  -- a crash leaves of a whole store what it holds
  whole_leaves : (was : Bool) (content : Content) (store : Store S g) → was ≡ false → HoldsAs g was content store → LeavesOnly g (state g store.conn).now.schema store (λ left. left ≡ content)
  whole_leaves was content store whole holds =
      let h : Holds g store content = subst (λ v. HoldsAs g v content store) whole holds in
      record { each = λ trees may. (content, applying.stays g store.following content settled store.conn trees h.rest may, refl) }

  -- a session that has read nothing, over a store
  pub begins : (session : Session) (store : Store S g) (was : Bool) (content : Content) → HoldsAs g was content store → Stands session store.following (from_start was content) was content
      → StandsOver g session store (state g store.conn).now.schema (from_start was content)
  begins session store was content holds stands = record {
    is = was;
    now = content;
    holds = holds;
    stands = stands;
    schema_is = λ w. refl;
    leaves = λ w. record {
      each = λ trees may.
          let l = (whole_leaves was content store w holds).each trees may in
          (l.0, l.1, inl l.2);
    };
  }

  -- nothing was read
  pub read_none : (limit : ℕ) (store : Store S g) (was : Bool) (content : Content) (b : List ℕ) → HoldsAs g was content store → HasRead g limit store store was content b (record { reason = Memory; at = 0; applied = 0 })
  read_none limit store was content b holds = record {
    is = was;
    new = content;
    holds = holds;
    following = refl;
    conn = conn-unread limit store.following was content b;
    breaks = λ h. h;
    schema_is = λ w. refl;
    leaves = λ w. record {
      each = λ trees may.
          let l = (whole_leaves was content store w holds).each trees may in
          (l.0, l.1, inl l.2);
    };
  }

  -- no connection was read
  pub none_read : (limit : ℕ) (store : Store S g) (was : Bool) (content : Content) → HoldsAs g was content store → HasReadAll g limit store (state g store.conn).now.schema was content [] []
  none_read limit store was content holds = record {
    is = was;
    new = content;
    holds = holds;
    history = (refl, refl);
    schema_is = λ w. refl;
    leaves = λ w. record {
      each = λ trees may.
          let l = (whole_leaves was content store w holds).each trees may in
          (l.0, l.1, inl l.2);
    };
  }

module _ {S : Type 0} (g : Ghosts S) where
  -- the session was over at the end of the bytes
  pub read_all : (session : Session) (before store : Store S g) (limit : ℕ) (pos : Position) (end : Ended) → session.config.limit ≡ limit → store.following ≡ before.following → end ≡ end_of session
      → StandsOver g session store (state g before.conn).now.schema pos → HasRead g limit before store pos.was pos.old pos.read end
  read_all session before store limit pos end limit_is names end_is s =
      let conn : Conn limit before.following pos.was pos.old pos.read s.now (end_of session) =
      subst (λ n. Conn n before.following pos.was pos.old pos.read s.now (end_of session)) limit_is
      (subst (λ n. Conn session.config.limit n pos.was pos.old pos.read s.now (end_of session)) names (conn_of session store.following pos s.is s.now s.stands)) in
      let leaves : pos.was ≡ false → LeavesOnly g (state g before.conn).now.schema store (IsLeftOfOne limit before.following pos.old pos.read s.now (end_of session)) = λ w.
      subst (λ n. LeavesOnly g (state g before.conn).now.schema store (IsLeftOfOne n before.following pos.old pos.read s.now (end_of session))) limit_is
      (subst (λ n. LeavesOnly g (state g before.conn).now.schema store (IsLeftOfOne session.config.limit n pos.old pos.read s.now (end_of session))) names (s.leaves w)) in
      record {
        is = s.is;
        new = s.now;
        holds = s.holds;
        following = names;
        conn = subst (λ (e : Ended). Conn limit before.following pos.was pos.old pos.read s.now e) (sym end_is) conn;
        breaks = subst (λ (e : Ended). BreaksStore e.reason pos.was s.is) (sym end_is) (store_of session store.following pos s.is s.now s.stands);
        schema_is = s.schema_is;
        leaves = λ w. subst (λ (e : Ended). LeavesOnly g (state g before.conn).now.schema store (IsLeftOfOne limit before.following pos.old pos.read s.now e)) (sym end_is) (leaves w);
      }

  broken_of : (is : Bool) (content : Content) (store : Store S g) → is ≡ true → HoldsAs g is content store → store.broken ≡ true
  broken_of is content store e holds = let h : HasFailed g store content = subst (λ v. HoldsAs g v content store) e holds in h.broken

  whole_of : (is : Bool) (content : Content) (store : Store S g) → is ≡ false → HoldsAs g is content store → store.broken ≡ false
  whole_of is content store e holds = let h : Holds g store content = subst (λ v. HoldsAs g v content store) e holds in h.whole

  -- one connection more
  pub more_read : (limit : ℕ) (before store : Store S g) (schema : Schema) (was : Bool) (old : Content) (bs : List (List ℕ)) (ends : List Ended) (b : List ℕ) (end : Ended) → (before.broken ≡ true → store ≡ before)
      → (t : HasReadAll g limit before schema was old bs ends) → HasRead g limit before store t.is t.new b end → HasReadAll g limit store schema was old (bs ++ b ∷ []) (ends ++ end ∷ [])
  more_read limit before store schema was old bs ends b end broken t r = record {
    is = r.is;
    new = r.new;
    holds = r.holds;
    history = subst (λ n. History limit n (record { broken = was; content = old }) (bs ++ b ∷ []) (record { broken = r.is; content = r.new }) (ends ++ end ∷ [])) (sym r.following)
        (history-append limit before.following (record { broken = was; content = old }) bs (record { broken = t.is; content = t.new }) ends b (record { broken = r.is; content = r.new }) end t.history r.conn r.breaks);
    schema_is = λ w. elim (either t.is) [
      | inl f ↦ r.schema_is w ∙ t.schema_is f
      | inr q ↦ (
          let was_broken : before.broken ≡ true = broken_of t.is t.new before q t.holds in
          let is_whole : store.broken ≡ false = whole_of r.is r.new store w r.holds in
          let same : store.broken ≡ before.broken = ap (λ (s : Store S g). s.broken) (broken was_broken) in
          absurd (true≢false (sym was_broken ∙ sym same ∙ is_whole))
          )
    ];
    leaves = λ w. record {
      each = λ trees may. elim (either t.is) [
        | inl f ↦ (
            let l = (r.leaves f).each trees may in (
              l.0,
              subst (λ sc. AreOf sc store.following l.0 trees) (t.schema_is f) l.1,
              subst (λ n. IsLeftOfAll limit n (record { broken = was; content = old }) (bs ++ b ∷ []) r.new (ends ++ end ∷ []) l.0) (sym r.following)
                  (here limit before.following (record { broken = was; content = old }) bs t.new ends b r.new end l.0
                  (subst (λ v. History limit before.following (record { broken = was; content = old }) bs (record { broken = v; content = t.new }) ends) f t.history) (subst (λ v. Conn limit before.following v t.new b r.new end) f r.conn) l.2),
            )
            )
        | inr q ↦ (
            let e = broken (broken_of t.is t.new before q t.holds) in
            let l = (t.leaves w).each trees (subst (λ (s : Store S g). (state g s.conn).may_leave trees) e may) in (
              l.0,
              subst (λ (s : Store S g). AreOf schema s.following l.0 trees) (sym e) l.1,
              subst (λ n. IsLeftOfAll limit n (record { broken = was; content = old }) (bs ++ b ∷ []) r.new (ends ++ end ∷ []) l.0) (sym r.following)
                  (stays limit before.following (record { broken = was; content = old }) bs t.new r.new ends b end l.0 (r.conn.kept q) l.2),
            )
            )
      ];
    };
  }

  -- as above, for the connections of a run
  pub next_read : (limit : ℕ) (before store : Store S g) (schema : Schema) (was : Bool) (old : Content) (connections : List (Vec (Vec ℕ Global) Global)) (i : ℕ) (pieces : Vec (Vec ℕ Global) Global) (ends : List Ended) (end : Ended)
      → (before.broken ≡ true → store ≡ before) → take (i + 1) connections ≡ take i connections ++ pieces ∷ []
      → (t : HasReadAll g limit before schema was old (streams_of (take i connections)) ends) → HasRead g limit before store t.is t.new (stream_of pieces.items) end → HasReadAll g limit store schema was old (streams_of (take (i + 1) connections)) (ends ++ end ∷ [])
  next_read limit before store schema was old connections i pieces ends end broken one t r =
      subst (λ (bs : List (List ℕ)). HasReadAll g limit store schema was old bs (ends ++ end ∷ []))
      (sym (ap streams_of one ∙ map-append (λ (p : Vec (Vec ℕ Global) Global). stream_of p.items) (take i connections) (pieces ∷ [])))
      (more_read limit before store schema was old (streams_of (take i connections)) ends (stream_of pieces.items) end broken t r)
