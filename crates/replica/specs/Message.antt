-- Payloads that are not the expected message.
use Rattle.std.specs.Prelude.{◌≡◌, ◌==◌, Bool, false, [], ◌∷◌, Option}
use Rattle.greet.specs.PacketHeader as packet_header
use Rattle.greet.specs.Refusal.{Refusal, greeting_refusal, reply_refusal, ok_refusal, eof_refusal}
use Rattle.greet.specs.declared.fault.GreetFault.{GreetFault}
use Rattle.greet.specs.declared.fault.GreetFault.TheVariants as greet
use Rattle.replica.specs.Stream.{Due, Hello, Reply, SecondReply, QueryReply, InDump}
use Rattle.wire.specs.Payload.{Payload}

-- what is wrong with a payload where this message is expected; in the dump, with one that does not have an event
abbrev pub refusal_of : Due → Payload → Option Refusal
refusal_of Hello p = greeting_refusal p
refusal_of Reply p = reply_refusal p
refusal_of SecondReply p = ok_refusal p
refusal_of QueryReply p = ok_refusal p
refusal_of InDump p = eof_refusal p

-- whether the payload begins like one that has an event
abbrev pub begins_event : Payload → Bool
begins_event [] = false
begins_event (byte ∷ bytes) = byte == packet_header.ok

-- in the dump: the payload does not have an event
abbrev pub IsNoEvent : Due → Payload → Type 0
IsNoEvent InDump p = begins_event p ≡ false
IsNoEvent _ p = Unit {0}

-- The fault is one of the payload's bytes, and not an error that the source sends or running out of memory.
abbrev pub IsOfMessage : GreetFault → Type 0
IsOfMessage (greet.ServerError code state message) = ⊥
IsOfMessage greet.Memory = ⊥
IsOfMessage _ = Unit {0}
