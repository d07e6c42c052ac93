-- One payload more.
use Rattle.replica.proofs.Names.{◌≡◌, ℕ, ◌+◌, ◌^◌, ◌<◌, true, false, List, [], ◌∷◌, ◌++◌, length, flat_map, inl, inr, refl, sym, ap, subst, ◌∙◌, append_assoc, append-nil, arith, length-append, IsWholePayload, Payload, Ids, Names, EventValue, DeliveryValue, AreDeliveries, Content, Phase, Settings, Due, Hello, Reply, SecondReply, QueryReply, InDump, next_due, next_id, due_from, due_after, IsInDump, Answers, Talks, Reading, AppliesAll, IsDumpTooLong, due_of}
use Rattle.std.proofs.Common.{if◌then◌else◌}
use Rattle.gather.specs.Transaction.{AreBlocks, IsBlock}
use Rattle.replica.specs.declared.session.phase.Phase.TheVariants as phases
use Rattle.replica.specs.declared.session.phase.Login.TheVariants as login
use Rattle.replica.specs.Stream.{begins_switch}
use Rattle.replica.specs.Sent.{Responds, RespondsFrom}
use Rattle.replica.specs.Standing.{first_id_of}

-- ---- the expected message
pub due_push : (d : Due) (ps : List Payload) (p : Payload) → due_from d (ps ++ p ∷ []) ≡ next_due (due_from d ps) p
due_push d [] p = refl
due_push d (q ∷ ps) p = due_push (next_due d q) ps p

pub stays_in_dump : (ps : List Payload) → IsInDump (due_from InDump ps)
stays_in_dump [] = tt
stays_in_dump (p ∷ ps) = stays_in_dump ps

pub in_dump : (d : Due) → IsInDump d → d ≡ InDump
in_dump InDump h = refl
in_dump _ h = absurd h

abbrev id_of : Due → ℕ
id_of Hello = 0
id_of Reply = 2
id_of SecondReply = 4
id_of QueryReply = 1
id_of InDump = 1

id_of_phase : (phase : Phase) → first_id_of phase ≡ id_of (due_of phase)
id_of_phase (phases.Login login.Greeting) = refl
id_of_phase (phases.Login login.Reply) = refl
id_of_phase (phases.Login login.SecondReply) = refl
id_of_phase (phases.Login login.QueryReply) = refl
id_of_phase phases.Dump = refl

id_of_next : (d : Due) (p : Payload) (after : ℕ) → (IsInDump d → ⊥) → id_of (next_due d p) ≡ next_id d p after
id_of_next Reply p after n = elim (begins_switch p) as (λ b. id_of (if b then SecondReply else QueryReply) ≡ (if b then 4 else 1)) [ true ↦ refl | false ↦ refl ]
id_of_next InDump p after n = absurd (n tt)
id_of_next _ p after n = refl

pub id_is_next : (d : Due) (p : Payload) (after : ℕ) (phase : Phase) → (IsInDump d → ⊥) → due_of phase ≡ next_due d p → first_id_of phase ≡ next_id d p after
id_is_next d p after phase n is = id_of_phase phase ∙ ap id_of is ∙ id_of_next d p after n

pub could_ask : (d : Due) (p : Payload) (ids : Ids) → (IsInDump d → ⊥) → (d ≡ QueryReply → IsDumpTooLong ids → ⊥) → IsInDump (next_due d p) → IsDumpTooLong ids → ⊥
could_ask Hello p ids n h i = absurd i
could_ask Reply p ids n h i = elim (begins_switch p) as (λ b. IsInDump (if b then SecondReply else QueryReply) → IsDumpTooLong ids → ⊥) [ true ↦ λ j. absurd j | false ↦ λ j. absurd j ] i
could_ask SecondReply p ids n h i = absurd i
could_ask QueryReply p ids n h i = h refl
could_ask InDump p ids n h i = absurd (n tt)

-- ---- the conversation
module _ (limit : ℕ) (names : Names) where
  pub talks_push : (d : Due) (id : ℕ) (ps : List Payload) (x : List ℕ) (es : List EventValue) (last : ℕ) (p : Payload) (y : List ℕ) (after : ℕ) (first : List EventValue)
      → Talks limit names (record { due = d; id = id }) ps x es last → IsWholePayload last limit y p after → Answers names (due_from d ps) p first
      → Talks limit names (record { due = d; id = id }) (ps ++ p ∷ []) (x ++ y) (es ++ first) (next_id (due_from d ps) p after)
  talks_push d id [] x es last p y after first t w a = (
    y,
    [],
    first,
    [],
    after,
    ap (λ (l : List ℕ). l ++ y) t.0 ∙ sym (append-nil y),
    ap (λ (l : List EventValue). l ++ first) t.1 ∙ sym (append-nil first),
    subst (λ n. IsWholePayload n limit y p after) t.2 w,
    a,
    (refl, refl, refl),
  )
  talks_push d id (q ∷ ps) x es last p y after first t w a = (
    t.0,
    t.1 ++ y,
    t.2,
    t.3 ++ first,
    t.4,
    ap (λ (l : List ℕ). l ++ y) t.5 ∙ append_assoc t.0 t.1 y,
    ap (λ (l : List EventValue). l ++ first) t.6 ∙ append_assoc t.2 t.3 first,
    t.7,
    t.8,
    talks_push (next_due d q) (next_id d q t.4) ps t.1 t.3 last p y after first t.9 w a,
  )

  -- before the dump no payload carries an event
  pub no_events : (d : Due) (id : ℕ) (ps : List Payload) (x : List ℕ) (es : List EventValue) (last : ℕ) → Talks limit names (record { due = d; id = id }) ps x es last → (IsInDump (due_from d ps) → ⊥) → es ≡ []
  no_events d id [] x es last t n = t.1
  no_events Hello id (p ∷ ps) x es last t n = t.6 ∙ ap (λ (l : List EventValue). l ++ t.3) t.8.1 ∙ no_events (next_due Hello p) (next_id Hello p t.4) ps t.1 t.3 last t.9 n
  no_events Reply id (p ∷ ps) x es last t n = t.6 ∙ ap (λ (l : List EventValue). l ++ t.3) t.8.1 ∙ no_events (next_due Reply p) (next_id Reply p t.4) ps t.1 t.3 last t.9 n
  no_events SecondReply id (p ∷ ps) x es last t n = t.6 ∙ ap (λ (l : List EventValue). l ++ t.3) t.8.1 ∙ no_events (next_due SecondReply p) (next_id SecondReply p t.4) ps t.1 t.3 last t.9 n
  no_events QueryReply id (p ∷ ps) x es last t n = t.6 ∙ ap (λ (l : List EventValue). l ++ t.3) t.8.1 ∙ no_events (next_due QueryReply p) (next_id QueryReply p t.4) ps t.1 t.3 last t.9 n
  no_events InDump id (p ∷ ps) x es last t n = absurd (n (stays_in_dump ps))

-- ---- the empty list of events has no transactions
cons-nil : {A : Type 0} (x : A) (xs : List A) → [] ≡ x ∷ xs → ⊥
cons-nil x xs e = cc

append_none : {A : Type 0} (xs ys : List A) → xs ++ ys ≡ [] → xs ≡ []
append_none [] ys e = refl
append_none (x ∷ xs) ys e = absurd (cons-nil x (xs ++ ys) (sym e))

no_block : (block : List EventValue) (ds : List DeliveryValue) → block ≡ [] → IsBlock block ds → ⊥
no_block block ds e (inl h) = elim h.0 [
  | inl mark ↦ cons-nil mark.event [] (sym e ∙ mark.block_is)
  | inr o ↦ elim o [
    | inl announced ↦ cons-nil _ [] (sym e ∙ announced.block_is)
    | inr begun ↦ cons-nil _ _ (sym e ∙ begun.block_is)
  ]
]
no_block block ds e (inr h) = cons-nil _ _ (sym e ∙ h.1.block_is)

no_blocks : (blocks : List (List EventValue)) (ds : List DeliveryValue) → flat_map (λ (block : List EventValue). block) blocks ≡ [] → AreBlocks blocks ds → ds ≡ []
no_blocks [] ds e h = h
no_blocks (block ∷ blocks) ds e h = absurd (no_block block h.0 (append_none block (flat_map (λ (b : List EventValue). b) blocks) e) h.2)

pub no_deliveries : (es : List EventValue) (ds : List DeliveryValue) → es ≡ [] → AreDeliveries es ds → ds ≡ []
no_deliveries [] ds e d = no_blocks d.blocks ds (sym d.cut) d.each
no_deliveries (x ∷ es) ds e d = absurd (cons-nil x es (sym e))

-- ---- the bytes due in reply
pub responds_push : (settings : Settings) (executed : Ids) (d : Due) (ps : List Payload) (o : List ℕ) (p : Payload) (y : List ℕ) → RespondsFrom settings executed d ps o → Responds settings executed (due_from d ps) p y
    → RespondsFrom settings executed d (ps ++ p ∷ []) (o ++ y)
responds_push settings executed d [] o p y h w = (y, [], ap (λ (l : List ℕ). l ++ y) h ∙ sym (append-nil y), w, refl)
responds_push settings executed d (q ∷ ps) o p y h w = (h.0, h.1 ++ y, ap (λ (l : List ℕ). l ++ y) h.2 ∙ append_assoc h.0 h.1 y, h.3, responds_push settings executed (next_due d q) ps h.1 p y h.4 w)

-- ---- what is taken
pub applies_push : (names : Names) (old : Content) (ds : List DeliveryValue) (n : ℕ) (mid : Content) (more : List DeliveryValue) (m : ℕ) (new : Content)
    → AppliesAll names old ds n mid → AppliesAll names mid more m new → AppliesAll names old (ds ++ more) (n + m) new
applies_push names old [] n mid more m new h k =
    let sum : m ≡ n + m = omega (arith, h.0) in
    subst (λ c. AppliesAll names c more (n + m) new) h.1 (subst (λ i. AppliesAll names mid more i new) sum k)
applies_push names old (d ∷ ds) n mid more m new (inl h) k =
    inl (h.0, h.1 + m, h.2, omega (arith, h.3), applies_push names h.0 ds h.1 mid more m new h.4 k)
applies_push names old (d ∷ ds) n mid more m new (inr h) k = inr (h.0, applies_push names old ds n mid more m new h.1 k)

-- ---- a reading and one payload more
module _ (limit : ℕ) (names : Names) (b : List ℕ) (r : Reading limit names b) (p : Payload) (after : ℕ) (w : IsWholePayload r.id limit r.rest p after) (within : length r.front + length r.rest < 2 ^ 64) where
  pub all_read : length (r.front ++ r.rest) < 2 ^ 64
  all_read = subst (λ n. n < 2 ^ 64) (sym (length-append r.front r.rest)) within

  -- a message before the dump
  abbrev pub with_message : Answers names (due_after r.payloads) p [] → Reading limit names b
  with_message a = record {
    payloads = r.payloads ++ p ∷ [];
    front = r.front ++ r.rest;
    events = r.events;
    deliveries = r.deliveries;
    id = next_id (due_after r.payloads) p after;
    rest = [];
    bytes = r.bytes ∙ sym (append-nil (r.front ++ r.rest));
    talk = record {
      talks = subst (λ (l : List EventValue). Talks limit names (record { due = Hello; id = 0 }) (r.payloads ++ p ∷ []) (r.front ++ r.rest) l (next_id (due_after r.payloads) p after)) (append-nil r.events)
          (talks_push limit names Hello 0 r.payloads r.front r.events r.id p r.rest after [] r.talk.talks w a);
      within = all_read;
      delivers = r.talk.delivers;
    };
  }

  -- an event
  abbrev pub with_event : (e : EventValue) (more : List DeliveryValue) → Answers names (due_after r.payloads) p (e ∷ []) → AreDeliveries (r.events ++ e ∷ []) (r.deliveries ++ more) → Reading limit names b
  with_event e more a d = record {
    payloads = r.payloads ++ p ∷ [];
    front = r.front ++ r.rest;
    events = r.events ++ e ∷ [];
    deliveries = r.deliveries ++ more;
    id = next_id (due_after r.payloads) p after;
    rest = [];
    bytes = r.bytes ∙ sym (append-nil (r.front ++ r.rest));
    talk = record {
      talks = talks_push limit names Hello 0 r.payloads r.front r.events r.id p r.rest after (e ∷ []) r.talk.talks w a;
      within = all_read;
      delivers = d;
    };
  }
