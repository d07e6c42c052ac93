-- A list of connections, and one more.
use Rattle.replica.proofs.Names.{◌≡◌, ℕ, Bool, false, List, [], ◌∷◌, ◌++◌, ◌+◌, take, inl, inr, refl, sym, ap, ◌∙◌, subst, append_assoc, Vec, Global, Names, Content, Ended, Memory, Conn, BreaksStore, History, IsLeftOfOne, IsLeftOfAll}
use Rattle.std.proofs.lemmas.List.{append-nil}
use Rattle.std.proofs.lemmas.Grind.{flat_map-append}
use Rattle.replica.specs.Conn.{StoreState}
use Rattle.replica.specs.Crash.{IsOneMoreIn}
use Rattle.replica.specs.Pieces.{stream_of}
use Rattle.replica.proofs.Positions.{unread}

pub history-append : (limit : ℕ) (names : Names) (before : StoreState) (bs : List (List ℕ)) (mid : StoreState) (ends : List Ended) (b : List ℕ) (after : StoreState) (end : Ended)
    → History limit names before bs mid ends → Conn limit names mid.broken mid.content b after.content end → BreaksStore end.reason mid.broken after.broken
    → History limit names before (bs ++ b ∷ []) after (ends ++ end ∷ [])
history-append limit names before [] mid [] b after end h c s =
    let conn : Conn limit names before.broken before.content b after.content end =
    subst (λ (v : Bool). Conn limit names v before.content b after.content end) h.0 (subst (λ (st : Content). Conn limit names mid.broken st b after.content end) h.1 c) in
    let breaks : BreaksStore end.reason before.broken after.broken = subst (λ (v : Bool). BreaksStore end.reason v after.broken) h.0 s in
    (after, conn, breaks, (refl, refl))
history-append limit names before (x ∷ bs) mid (e ∷ ends) b after end h c s =
    (h.0, h.1, h.2, history-append limit names h.0 bs mid ends b after end h.3 c s)
history-append limit names before [] mid (e ∷ ends) b after end h c s = absurd h
history-append limit names before (x ∷ bs) mid [] b after end h c s = absurd h

later : (limit : ℕ) (names : Names) (first : StoreState) (bs : List (List ℕ)) (ends : List Ended) (left : Content) (b : List ℕ) (end : Ended) → IsOneMoreIn limit names first bs ends left → IsOneMoreIn limit names first (bs ++ b ∷ []) (ends ++ end ∷ []) left
later limit names first bs ends left b end m = record {
  before = m.before;
  b = m.b;
  after = m.after ++ b ∷ [];
  ends_before = m.ends_before;
  end = m.end;
  ends_after = m.ends_after ++ end ∷ [];
  mid = m.mid;
  new = m.new;
  connections = ap (λ (l : List (List ℕ)). l ++ b ∷ []) m.connections ∙ append_assoc m.before (m.b ∷ m.after) (b ∷ []);
  ends_are = ap (λ (l : List Ended). l ++ end ∷ []) m.ends_are ∙ append_assoc m.ends_before (m.end ∷ m.ends_after) (end ∷ []);
  history = m.history;
  conn = m.conn;
  more = m.more;
}

-- what a crash leaves of one connection more, over a whole store
pub here : (limit : ℕ) (names : Names) (first : StoreState) (bs : List (List ℕ)) (mid : Content) (ends : List Ended) (b : List ℕ) (new : Content) (end : Ended) (left : Content)
    → History limit names first bs (record { broken = false; content = mid }) ends → Conn limit names false mid b new end → IsLeftOfOne limit names mid b new end left → IsLeftOfAll limit names first (bs ++ b ∷ []) new (ends ++ end ∷ []) left
here limit names first bs mid ends b new end left history conn l = elim l [
  | inl e ↦ inl e
  | inr m ↦ inr (record { before = bs; b = b; after = []; ends_before = ends; end = end; ends_after = []; mid = mid; new = new; connections = refl; ends_are = refl; history = history; conn = conn; more = m })
]

-- and over one that stays as it was
pub stays : (limit : ℕ) (names : Names) (first : StoreState) (bs : List (List ℕ)) (mid new : Content) (ends : List Ended) (b : List ℕ) (end : Ended) (left : Content) → new ≡ mid
    → IsLeftOfAll limit names first bs mid ends left → IsLeftOfAll limit names first (bs ++ b ∷ []) new (ends ++ end ∷ []) left
stays limit names first bs mid new ends b end left same l = elim l [
  | inl e ↦ inl (e ∙ sym same)
  | inr m ↦ inr (later limit names first bs ends left b end m)
]

-- nothing was read, since memory ran out
pub conn-unread : (limit : ℕ) (names : Names) (was : Bool) (content : Content) (b : List ℕ) → Conn limit names was content b content (record { reason = Memory; at = 0; applied = 0 })
conn-unread limit names was content b = record {
  reading = unread limit names b;
  has_applied = record { applies = (refl, refl); asked = λ in_dump. absurd in_dump };
  why = refl;
  kept = λ w. refl;
}

-- the pieces so far, and one more
pub stream-more : (pieces : List (Vec ℕ Global)) (i : ℕ) (piece : Vec ℕ Global) → take (i + 1) pieces ≡ take i pieces ++ piece ∷ [] → stream_of (take (i + 1) pieces) ≡ stream_of (take i pieces) ++ piece.items
stream-more pieces i piece more =
    ap stream_of more ∙ flat_map-append (λ (p : Vec ℕ Global). p.items) (take i pieces) (piece ∷ []) ∙ ap (λ (l : List ℕ). stream_of (take i pieces) ++ l) (append-nil piece.items)
