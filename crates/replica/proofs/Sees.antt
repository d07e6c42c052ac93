-- What an observer is given of a payload of the dump.
use Rattle.replica.proofs.Names.{◌≡◌, ◌≤◌, ◌-◌, ℕ, Bool, false, List, [], ◌∷◌, ◌++◌, take, length, Option, Some, None, Result, Ok, Err, get_or, inl, inr, refl, sym, ap, subst, ◌∙◌, append_assoc, append-nil, true≢false, Payload, Names, EventValue, IsEvent, DeliveryValue, Gatherer, Reason, begins_event, Carries, GathersMore, Account}
use Rattle.std.proofs.Common.{drop}
use Rattle.wire.proofs.Cuts.{begun_by}
use Rattle.gather.specs.Standing.{ArePending}
use Rattle.replica.specs.Noted.{Seen, event_read, refused_payload, HasBeenSeen}
use Rattle.replica.specs.Sees.{SeesEvent, IsSeenLast, SeesPayload}

-- ---- lists of what was seen
seen_none : (seen : Option (List Seen)) → HasBeenSeen seen seen []
seen_none None = tt
seen_none (Some l) = sym (append-nil l)

seen_more : (first middle last : Option (List Seen)) (xs ys : List Seen) → HasBeenSeen first middle xs → HasBeenSeen middle last ys → HasBeenSeen first last (xs ++ ys)
seen_more first middle None xs ys a b = tt
seen_more first None (Some l) xs ys a b = absurd b
seen_more None (Some m) (Some l) xs ys a b = absurd a
seen_more (Some f) (Some m) (Some l) xs ys a b = b ∙ ap (λ (x : List Seen). x ++ ys) a ∙ append_assoc f xs ys

-- ---- the event
abbrev rest_of : List ℕ → List ℕ
rest_of [] = []
rest_of (x ∷ xs) = xs

-- the body of an event is what comes after the first byte
body_of : (names : Names) (p : Payload) (e : EventValue) (carries : Carries names p e) → 1 ≤ length p → get_or p 0 0 ≡ 0 → carries.body ≡ take (length p - 1) (drop 1 p)
body_of names p e carries some first = ap rest_of (sym carries.payload_is ∙ begun_by 0 p some first)

-- a payload with another first byte has none
pub without_event : (names : Names) (es : List EventValue) (p : Payload) (is : Account) → begins_event p ≡ false → SeesEvent names es p is is
without_event names es p is other = record {
  first = [];
  of_event = λ e carries. true≢false (sym (ap begins_event carries.payload_is) ∙ other);
  added = seen_none is.seen;
}

-- and neither has one whose bytes are no event
pub unread_event : (names : Names) (es : List EventValue) (p : Payload) (is : Account) → 1 ≤ length p → get_or p 0 0 ≡ 0 → ((e : EventValue) → IsEvent names e (take (length p - 1) (drop 1 p)) → ⊥) → SeesEvent names es p is is
unread_event names es p is some first none = record {
  first = [];
  of_event = λ e carries. none e (subst (IsEvent names e) (body_of names p e carries some first) carries.is_event);
  added = seen_none is.seen;
}

pub sees_event : (names : Names) (es : List EventValue) (p : Payload) (was is : Account) (e : EventValue) (pending : ℕ) → 1 ≤ length p → get_or p 0 0 ≡ 0 → Carries names p e → ArePending es pending
    → HasBeenSeen was.seen is.seen (event_read e (take (length p - 1) (drop 1 p)) pending ∷ []) → SeesEvent names es p was is
sees_event names es p was is e pending some first carries count seen = record {
  first = event_read e (take (length p - 1) (drop 1 p)) pending ∷ [];
  of_event = (carries, sym (body_of names p e carries some first), count);
  added = seen;
}

-- ---- the payload
module _ (names : Names) (es : List EventValue) (ds : List DeliveryValue) (p : Payload) (gatherer : Gatherer) (t0 t1 t2 : Account) where
  -- it ends no transaction, and the connection goes on
  pub seen_on : SeesEvent names es p t0 t1 → SeesPayload names es p (record { deliveries = ds; gatherer = gatherer }) t0 t1 (Ok false)
  seen_on s = record {
    first = s.first;
    of_event = s.of_event;
    last = [];
    at_end = refl;
    added = subst (λ (l : List Seen). HasBeenSeen t0.seen t1.seen l) (sym (append-nil s.first)) s.added;
  }

  -- it ends the connection
  pub seen_refused : (reason : Reason) → SeesEvent names es p t0 t1 → t1.noted ≡ t0.noted → t2.noted ≡ t1.noted → HasBeenSeen t1.seen t2.seen (refused_payload p reason ∷ []) → SeesPayload names es p (record { deliveries = ds; gatherer = gatherer }) t0 t2 (Err reason)
  seen_refused reason s same unnoted seen = record {
    first = s.first;
    of_event = s.of_event;
    last = refused_payload p reason ∷ [];
    at_end = inl (refl, unnoted ∙ same);
    added = seen_more t0.seen t1.seen t2.seen s.first (refused_payload p reason ∷ []) s.added seen;
  }

  -- it ends a transaction
  pub seen_transaction : (d : DeliveryValue) (result : Result Bool Reason) → SeesEvent names es p t0 t1 → GathersMore names es ds p (d ∷ []) gatherer → t2.seen ≡ t1.seen → SeesPayload names es p (record { deliveries = ds; gatherer = gatherer }) t0 t2 result
  seen_transaction d result s more same = record {
    first = s.first;
    of_event = s.of_event;
    last = [];
    at_end = elim result as (λ r. IsSeenLast names es p (record { deliveries = ds; gatherer = gatherer }) (t2.noted ≡ t0.noted) r []) [ Ok applied ↦ refl | Err reason ↦ inr (refl, (d, more)) ];
    added = subst (λ (l : List Seen). HasBeenSeen t0.seen t2.seen l) (sym (append-nil s.first)) (subst (λ (o : Option (List Seen)). HasBeenSeen t0.seen o s.first) (sym same) s.added);
  }
