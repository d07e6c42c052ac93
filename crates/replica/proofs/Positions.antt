-- What follows from a session's position.
use Rattle.replica.proofs.Names.{◌≡◌, ℕ, Bool, true, false, List, [], ◌++◌, refl, sym, ap, ◌∙◌, inl, Some, None, is_some, MatchOption, unwrap_or, append-nil, subst, Vec, Global, Option, arith, false≢true, Names, ReaderState, IsUnfinished, nothing_yet, Gatherer, Content, EndOfInput, Ended, Session, Settings, Reading, Conn, BreaksStore, SentFor, GoesOn, HasEnded, end_of}
use Rattle.gather.specs.Standing.{HasGathered as Gathers}
use Rattle.replica.specs.declared.session.phase.Login.TheVariants.{Greeting}
use Rattle.replica.specs.declared.session.phase.Phase.TheVariants.{Login}
use Rattle.replica.specs.Standing.{Position, parts_of, from_start, reads_on, sends_on, Stands}
use Rattle.replica.proofs.Extend.{conn-append, sent-append}

-- nothing is read
abbrev pub unread : (limit : ℕ) (names : Names) (b : List ℕ) → Reading limit names b
unread limit names b = record {
  payloads = [];
  front = [];
  events = [];
  deliveries = [];
  id = 0;
  rest = b;
  bytes = refl;
  talk = record { talks = (refl, refl, refl); within = omega arith; delivers = record { blocks = []; cut = refl; each = refl; format_first = refl } };
}

pub begun : (settings : Settings) (a : ReaderState) (gatherer : Gatherer) (names : Names) (was : Bool) (old : Content) (all : List ℕ)
    → a.held ≡ [] → a.limit ≡ settings.limit → a.due ≡ 0 → a.ended ≡ false → Gathers [] [] gatherer → all ≡ []
    → GoesOn (record { settings = settings; assembly = a; gatherer = gatherer; phase = Login Greeting; at = 0; applied = 0 }) names (sends_on (from_start was old) all) was old
begun settings a gatherer names was old all held limit due ended gathers sent = record {
  reading = unread settings.limit names [];
  held = sym held;
  at_is = refl;
  limit = limit;
  id = due;
  reads = ended;
  unfinished = subst (λ h. IsUnfinished 0 settings.limit h) (sym held) (nothing_yet 0 settings.limit);
  awaits = refl;
  gathers = gathers;
  has_applied = record { applies = (refl, refl); asked = λ in_dump. absurd in_dump };
  sent = sent;
  store = refl;
  kept = λ b. refl;
}

module _ (session : Session) (names : Names) (pos : Position) (is : Bool) (now : Content) where
  -- at this position, with the pending output
  abbrev pub goes_on : Position → Type 0
  goes_on p = GoesOn (parts_of session) names (sends_on p session.out.items) is now

  abbrev pub has_ended : Position → Ended → Type 0
  has_ended p end = HasEnded session.config names (sends_on p session.out.items) is now end

  abbrev pub not_yet : Ended
  not_yet = record { reason = EndOfInput; at = session.at; applied = session.applied }

  pub conn_of : Stands session names pos is now → Conn session.config.limit names pos.was pos.old pos.read now (end_of session)
  unfolding Stands
  conn_of s = elim session.ended as (λ v. MatchOption v (goes_on pos) (has_ended pos) → Conn session.config.limit names pos.was pos.old pos.read now (unwrap_or v not_yet)) [
    | None ↦ λ g. record {
      reading = g.reading;
      has_applied = g.has_applied;
      why = (g.at_is, subst (λ h. IsUnfinished g.reading.id session.config.limit h) (sym g.held) g.unfinished);
      kept = g.kept;
    }
    | Some end ↦ λ h. h.conn
  ] s

  pub store_of : Stands session names pos is now → BreaksStore (end_of session).reason pos.was is
  unfolding Stands
  store_of s = elim session.ended as (λ v. MatchOption v (goes_on pos) (has_ended pos) → BreaksStore (unwrap_or v not_yet).reason pos.was is) [
    | None ↦ λ g. g.store
    | Some end ↦ λ h. h.store
  ] s

  pub sent_of : Stands session names pos is now → SentFor session.config names pos.old.executed pos.read (end_of session).at (pos.sent ++ session.out.items)
  unfolding Stands
  sent_of s = elim session.ended as (λ v. MatchOption v (goes_on pos) (has_ended pos) → SentFor session.config names pos.old.executed pos.read (unwrap_or v not_yet).at (pos.sent ++ session.out.items)) [
    | None ↦ λ g. record { payloads = g.reading.payloads; taken = record { reading = g.reading; payloads_are = refl; at_is = inl g.at_is }; sent = g.sent }
    | Some end ↦ λ h. h.sent
  ] s

  -- after the end the session reads nothing
  pub stands-append : (more : List ℕ) → is_some session.ended ≡ true → Stands session names pos is now → Stands session names (reads_on pos more) is now
  unfolding Stands
  stands-append more h s = elim session.ended as (λ v. is_some v ≡ true → MatchOption v (goes_on pos) (has_ended pos) → MatchOption v (goes_on (reads_on pos more)) (has_ended (reads_on pos more))) [
    | None ↦ λ e g. absurd (false≢true e)
    | Some end ↦ λ e h. record {
      conn = conn-append session.config.limit names pos.was pos.old pos.read more now end h.more h.conn;
      more = h.more;
      sent = sent-append session.config names pos.old.executed pos.read more end.at (pos.sent ++ session.out.items) h.sent;
      store = h.store;
    }
  ] h s

  -- what is known of a session that has not ended
  pub going : session.ended ≡ None → Stands session names pos is now → goes_on pos
  unfolding Stands
  going h s = subst (λ (v : Option Ended). MatchOption v (goes_on pos) (has_ended pos)) h s

-- what waited to be sent was handed out
pub stands-out : (session : Session) (names : Names) (pos : Position) (is : Bool) (now : Content) (out : Vec ℕ Global) → out.items ≡ []
    → Stands session names pos is now → Stands (record session { out = out }) names (sends_on pos session.out.items) is now
unfolding Stands
stands-out session names pos is now out h s =
    let all = pos.sent ++ session.out.items in
    let same : all ≡ all ++ out.items = sym (ap (λ (l : List ℕ). all ++ l) h ∙ append-nil all) in
    let sending : List ℕ → Position = λ (l : List ℕ). record { was = pos.was; old = pos.old; read = pos.read; sent = l } in
    let goes : List ℕ → Type 0 = λ (l : List ℕ). GoesOn (parts_of session) names (sending l) is now in
    let ends : List ℕ → Ended → Type 0 = λ (l : List ℕ) (end : Ended). HasEnded session.config names (sending l) is now end in
    elim session.ended as (λ v. MatchOption v (goes all) (λ end. ends all end) → MatchOption v (goes (all ++ out.items)) (λ end. ends (all ++ out.items) end)) [
      | None ↦ λ g. subst goes same g
      | Some end ↦ λ h. subst (λ (l : List ℕ). ends l end) same h
    ] s
