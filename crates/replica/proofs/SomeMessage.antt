-- Each payload is the expected message, ends the log, or is refused.
use Rattle.replica.proofs.Names.{◌≡◌, ℕ, ◌^◌, ◌<◌, ◌⊎◌, false, List, [], ◌∷◌, ◌++◌, length, Option, Some, None, refl, sym, ap, subst, ◌∙◌, inl, inr, arith, cases_eq, AllByRecursion, Names, EventValue, DeliveryValue, AreDeliveries, IsFromBytes, one_list_of_deliveries, Reason, SourceError, Greet, Event, Gather, Due, Hello, Reply, SecondReply, QueryReply, InDump, IsInDump, Carries, Answers, Payload, refusal_of, begins_event, IsNoEvent, Denies}
use Rattle.std.proofs.lemmas.Bool.{ne_eqb}
use Rattle.std.proofs.lemmas.List.{length-take}
use Rattle.std.specs.Global.{Vec, Global}
use denote.RawPtr.{null_ptr}
use Rattle.greet.specs.Message.{IsOkPacket, IsEofPacket}
use Rattle.greet.specs.Complete.{HasGreeting, HasSwitch, IsErrOf}
use Rattle.greet.specs.Refusal.{Refusal, server_error, protocol, truncated, capabilities, plugin, old_auth, unexpected, kept_message, greeting_refusal, reply_refusal, ok_refusal, eof_refusal}
use Rattle.greet.specs.declared.fault.GreetFault.TheVariants as greet
use Rattle.binlog.specs.Event.{event_fault}
use Rattle.binlog.specs.declared.fault.EventFault.{EventFault}
use Rattle.binlog.proofs.Events.{has_event}
use Rattle.wire.proofs.Cuts.{IsBytes-all}
use Rattle.gather.specs.Transaction.{IsLawful}
use Rattle.gather.specs.Fault.{HasFault, last_block}
use Rattle.gather.proofs.NextEvents.{some}
use Rattle.gather.proofs.ShorterLists.{Given, stays, gives, given, back, ended}

abbrev pub IsBytes : List ℕ → Type 0
IsBytes b = AllByRecursion (λ byte. byte < 256) b

-- ---- Messages that are not refused are there, and what a source reports is short: laws of `greet`.

abbrev pub IsShort : (Payload → Option Refusal) → Type 0
IsShort table = (code : ℕ) (state : Option (List ℕ)) (kept payload : List ℕ) → IsBytes payload → table payload ≡ Some (server_error code state kept) → IsErrOf code state kept payload

pub record Tables : Type 0 where
  pub greeting : (payload : List ℕ) → IsBytes payload → greeting_refusal payload ≡ None → HasGreeting payload
  pub reply : (payload : List ℕ) → IsBytes payload → reply_refusal payload ≡ None → IsOkPacket payload ⊎ HasSwitch payload
  pub ok : (payload : List ℕ) → IsBytes payload → ok_refusal payload ≡ None → IsOkPacket payload
  pub eof : (payload : List ℕ) → eof_refusal payload ≡ None → IsEofPacket payload
  pub error_greeting : IsShort greeting_refusal
  pub error_reply : IsShort reply_refusal
  pub error_ok : IsShort ok_refusal
  pub error_eof : IsShort eof_refusal

-- ---- A vector of some bytes.

allocator : Global
allocator = record { memory = record { seal = tt } }

vector : (xs : List ℕ) → length xs < 2 ^ 63 → (v : Vec ℕ) × (v.items ≡ xs)
vector xs short = (record { ptr = null_ptr; len = length xs; cap = length xs; alloc = allocator; items = xs; ok = (refl, omega arith); small = short }, refl)

-- ---- What a payload means.

pub data Meets (names : Names) (due : Due) (es : List EventValue) (ds : List DeliveryValue) (p : Payload) : Type 0 where
  -- a message before the dump
  is_message : (IsInDump due → ⊥) → Answers names due p [] → Meets names due es ds p
  -- an event that ends no transaction
  goes_on : IsInDump due → (e : EventValue) → Carries names p e → AreDeliveries (es ++ e ∷ []) ds → Meets names due es ds p
  -- an event that ends one
  ends_one : IsInDump due → (e : EventValue) → Carries names p e → (d : DeliveryValue) → AreDeliveries (es ++ e ∷ []) (ds ++ d ∷ []) → Meets names due es ds p
  -- the end of the log
  ends_log : IsInDump due → IsEofPacket p → Meets names due es ds p
  -- it is not the expected message
  is_denied : (reason : Reason) → Denies names due es p reason → Meets names due es ds p

module _ (tables : Tables) (names : Names) (es : List EventValue) (ds : List DeliveryValue) where
  kept_short : (table : Payload → Option Refusal) → IsShort table → (p : Payload) → IsBytes p → (code : ℕ) (state : Option (List ℕ)) (kept : List ℕ) → table p ≡ Some (server_error code state kept) → length kept < 2 ^ 63
  kept_short table short p bytes code state kept is =
      let e = short code state kept p bytes is in
      omega (arith, ap length e.kept_is, length-take kept_message e.message)

  -- a refusal of the table
  refused : (due : Due) (p : Payload) (r : Refusal) → IsBytes p → IsShort (refusal_of due) → IsNoEvent due p → refusal_of due p ≡ Some r → Meets names due es ds p
  refused due p (server_error code state kept) bytes short none is =
      let v = vector kept (kept_short (refusal_of due) short p bytes code state kept is) in
      is_denied (SourceError code state v.0) (none, is ∙ ap (λ k. Some (server_error code state k)) (sym v.1))
  refused due p (protocol byte) bytes short none is = is_denied (Greet (greet.Protocol byte)) (none, tt, is)
  refused due p truncated bytes short none is = is_denied (Greet greet.Truncated) (none, tt, is)
  refused due p (capabilities bits) bytes short none is = is_denied (Greet (greet.Capabilities bits)) (none, tt, is)
  refused due p plugin bytes short none is = is_denied (Greet greet.Plugin) (none, tt, is)
  refused due p old_auth bytes short none is = is_denied (Greet greet.OldAuth) (none, tt, is)
  refused due p (unexpected byte) bytes short none is = is_denied (Greet (greet.Unexpected byte)) (none, tt, is)

  -- by the table: the message, or a refusal
  by_table : (due : Due) (p : Payload) (r : Option Refusal) → IsBytes p → IsShort (refusal_of due) → IsNoEvent due p → refusal_of due p ≡ r → (refusal_of due p ≡ None → Meets names due es ds p) → Meets names due es ds p
  by_table due p None bytes short none is k = k is
  by_table due p (Some r) bytes short none is k = refused due p r bytes short none is

  -- ---- A payload of the dump.

  -- a lawful event ends one transaction or none
  lawful : (p : Payload) (e : EventValue) → Carries names p e → IsFromBytes e → AllByRecursion IsFromBytes es → AreDeliveries es ds → (fs : List DeliveryValue) → Given es e fs → AreDeliveries (es ++ e ∷ []) fs → Meets names InDump es ds p
  lawful p e c read all are fs (stays ends_none are') now =
      goes_on tt e c (subst (λ l. AreDeliveries (es ++ e ∷ []) l) (one_list_of_deliveries es fs ds all are' are) now)
  lawful p e c read all are fs (gives last o before fs_are are') now =
      let same : before ≡ ds = one_list_of_deliveries es before ds all are' are in
      ends_one tt e c (ended (last_block es) o) (subst (λ l. AreDeliveries (es ++ e ∷ []) l) (fs_are ∙ ap (λ l. l ++ ended (last_block es) o ∷ []) same) now)

  carried : (p : Payload) (e : EventValue) → Carries names p e → IsFromBytes e → AllByRecursion IsFromBytes es → AreDeliveries es ds → IsLawful (es ++ e ∷ []) ⊎ HasFault es e → Meets names InDump es ds p
  carried p e c read all are (inl l) = lawful p e c read all are l.deliveries (given es e l.deliveries (back es e l.deliveries l.are)) l.are
  carried p e c read all are (inr f) = is_denied (Gather f.fault) (tt, e, c, f.is_fault)

  by_fault : (p body : List ℕ) (f : Option EventFault) → p ≡ 0x00 ∷ body → IsBytes body → AllByRecursion IsFromBytes es → AreDeliveries es ds → event_fault names body ≡ f → Meets names InDump es ds p
  by_fault p body (Some fault) is bytes all are e = is_denied (Event fault) (tt, body, is, e)
  by_fault p body None is bytes all are e =
      let h = has_event names body (IsBytes-all body bytes) e in
      let read : IsFromBytes h.event = record { names = names; bytes = body; fits = bytes; is_event = h.is_event } in
      carried p h.event (record { body = body; payload_is = is; is_event = h.is_event }) read all are
      (some es h.event read (record { deliveries = ds; are = are }))

  no_event : (p : Payload) → IsBytes p → begins_event p ≡ false → Meets names InDump es ds p
  no_event p bytes none = by_table InDump p (eof_refusal p) bytes tables.error_eof none refl (λ e. ends_log tt (tables.eof p e))

  in_dump : (p : Payload) → IsBytes p → AllByRecursion IsFromBytes es → AreDeliveries es ds → Meets names InDump es ds p
  in_dump [] bytes all are = no_event [] bytes refl
  in_dump (byte ∷ body) bytes all are = elim (cases_eq byte 0x00) [
    | inl is ↦ by_fault (byte ∷ body) body (event_fault names body) (ap (λ b. b ∷ body) is) bytes.1 all are refl
    | inr other ↦ no_event (byte ∷ body) bytes (ne_eqb byte 0x00 other)
  ]

  pub some_meaning : (due : Due) (p : Payload) → IsBytes p → AllByRecursion IsFromBytes es → AreDeliveries es ds → Meets names due es ds p
  some_meaning Hello p bytes all are = by_table Hello p (greeting_refusal p) bytes tables.error_greeting tt refl (λ e. is_message (λ i. i) (tables.greeting p bytes e, refl))
  some_meaning Reply p bytes all are = by_table Reply p (reply_refusal p) bytes tables.error_reply tt refl (λ e. is_message (λ i. i) (tables.reply p bytes e, refl))
  some_meaning SecondReply p bytes all are = by_table SecondReply p (ok_refusal p) bytes tables.error_ok tt refl (λ e. is_message (λ i. i) (tables.ok p bytes e, refl))
  some_meaning QueryReply p bytes all are = by_table QueryReply p (ok_refusal p) bytes tables.error_ok tt refl (λ e. is_message (λ i. i) (tables.ok p bytes e, refl))
  some_meaning InDump p bytes all are = in_dump p bytes all are
