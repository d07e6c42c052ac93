-- What an end reports.
use Rattle.replica.proofs.Names.{◌≡◌, ◌⊎◌, ap, ℕ, Bool, List, length, refl, inl, inr, Some, None, MatchOption, unwrap_or, Names, Content, Reason, EndOfInput, SourceEof, SourceError, Wire, Greet, Event, Gather, Ended, Session, Reading, End, StopsFor, Conn, AppliesFirst, Why, IsDumpTooLong, GoesOn, HasEnded, end_of}
use Rattle.std.proofs.Common.{◌↔◌}
use Rattle.wire.specs.declared.fault.WireFault.TheVariants as wire
use Rattle.replica.specs.End.{rest_of}
use Rattle.replica.specs.Conn.{IsOfBytes}
use Rattle.replica.specs.Standing.{Position, parts_of, sends_on, Stands}

pub begun_of : (limit : ℕ) (names : Names) (was : Bool) (old : Content) (b : List ℕ) (new : Content) (end : Ended) → Conn limit names was old b new end → (count : ℕ) × AppliesFirst limit names old b count end.applied new
begun_of limit names was old b new end c = (length c.reading.deliveries, record { reading = c.reading; counted = refl; has_applied = c.has_applied })

stops_of : (limit : ℕ) (names : Names) (was : Bool) (old new : Content) (b : List ℕ) (r : Reading limit names b) (at : ℕ) (reason : Reason) → IsOfBytes reason
    → Why (rest_of r) r.deliveries was old new at reason
    → StopsFor (rest_of r) at reason ⊎ ((reason ≡ Wire wire.TooLarge) × IsDumpTooLong old.executed)
stops_of limit names was old new b r at EndOfInput h w = inl w
stops_of limit names was old new b r at SourceEof h w = inl w
stops_of limit names was old new b r at (SourceError code state message) h w = inl w
stops_of limit names was old new b r at (Wire fault) h w = elim w [ inl s ↦ inl s | inr s ↦ inr (ap Wire s.0, s.3) ]
stops_of limit names was old new b r at (Greet fault) h w = inl w
stops_of limit names was old new b r at (Event fault) h w = inl w
stops_of limit names was old new b r at (Gather fault) h w = inl w
stops_of limit names was old new b r at _ h w = absurd h

pub end_by : (limit : ℕ) (names : Names) (was : Bool) (old : Content) (b : List ℕ) (new : Content) (end : Ended) → Conn limit names was old b new end → IsOfBytes end.reason
    → End limit names b end.reason end.at ⊎ ((end.reason ≡ Wire wire.TooLarge) × IsDumpTooLong old.executed)
end_by limit names was old b new end c h = elim (stops_of limit names was old new b c.reading end.at end.reason h c.why) [
  | inl s ↦ inl (record { reading = c.reading; stops = s })
  | inr s ↦ inr s
]

-- a session that has ended has not ended by the end of the input
pub ended_where : (session : Session) (names : Names) (pos : Position) (is : Bool) (now : Content) → Stands session names pos is now → (session.ended ≡ None) ↔ ((end_of session).reason ≡ EndOfInput)
unfolding Stands
ended_where session names pos is now s = elim session.ended as (λ v.
    MatchOption v (GoesOn (parts_of session) names (sends_on pos session.out.items) is now) (λ end. HasEnded session.config names (sends_on pos session.out.items) is now end)
    → (v ≡ None) ↔ ((unwrap_or v (record { reason = EndOfInput; at = session.at; applied = session.applied })).reason ≡ EndOfInput)) [
      | None ↦ λ g. (λ e. refl, λ e. refl)
      | Some end ↦ λ h. (λ e. cc, λ e. absurd (h.more e))
    ] s
