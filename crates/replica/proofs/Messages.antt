-- A message before the dump.
use Rattle.replica.proofs.Names.{◌≡◌, ℕ, List, Result, Ok, Err, IfErr, inl, inr, refl, sym, subst, Ids, Names, Reason, SourceError, Greet, Memory, Settings, Due, Reply, SecondReply, next_due, Payload, refusal_of, IsNoEvent, EndsAt, EndsDump, IsAnswered, Sends, InDump, EventValue}
use Rattle.greet.specs.Message.{IsSwitch}
use Rattle.replica.specs.Sent.{auth_bytes}
use Rattle.replica.specs.PayloadStep.{IsReportOf}

pub message_ends : (names : Names) (executed : Ids) (due : Due) (p : Payload) (reason : Reason) → IsNoEvent due p → IsReportOf (refusal_of due p) reason → EndsAt names executed due p reason
message_ends names executed due p (SourceError code state message) n t = (n, t)
message_ends names executed due p (Greet f) n t = (n, t.0, t.1)
message_ends names executed due p Memory n t = tt
message_ends names executed due p _ n t = absurd t

pub dump_ends : (names : Names) (es : List EventValue) (p : Payload) (reason : Reason) → IsNoEvent InDump p → IsReportOf (refusal_of InDump p) reason → EndsDump names es p reason
dump_ends names es p (SourceError code state message) n t = (n, t)
dump_ends names es p (Greet f) n t = (n, t.0, t.1)
dump_ends names es p Memory n t = tt
dump_ends names es p _ n t = absurd t

pub answered_again : (settings : Settings) (names : Names) (executed : Ids) (scramble : List ℕ) (p : Payload) (old new : List ℕ) → IsSwitch scramble p → Sends 3 (auth_bytes settings.password scramble) old new
    → IsAnswered settings names executed Reply p old new
answered_again settings names executed scramble p old new is s = record {
  answers = (inr (record { scramble = scramble; is = is }), refl);
  replies = record { bytes = s.bytes; is_due = inl (record { scramble = scramble; switch = is; packs = s.packed }); appended = s.appended };
  short = λ e. cc;
}

pub switch_due : (scramble : List ℕ) (p : Payload) → IsSwitch scramble p → SecondReply ≡ next_due Reply p
switch_due scramble p is = subst (λ q. SecondReply ≡ next_due Reply q) (sym is.payload_is) refl

pub ends_in : {A : Type 0} (names : Names) (executed : Ids) (at due : Due) (p : Payload) (r : Result A Reason) → due ≡ at → IfErr r (EndsAt names executed due p) → IfErr r (EndsAt names executed at p)
ends_in names executed at due p (Ok a) is h = tt
ends_in names executed at due p (Err reason) is h = subst (λ d. EndsAt names executed d p reason) is h
