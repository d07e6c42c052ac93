-- Payloads that are some message of a kind.
use Rattle.std.specs.Prelude.{◌≡◌, ℕ, List, take, Option}
use Rattle.greet.specs.Message.{GreetingValue, IsGreeting, ResponseValue, IsResponse, IsSwitch, IsErrPacket, DumpValue, IsDump}
use Rattle.greet.specs.Refusal.{kept_message}

pub record HasGreeting (payload : List ℕ) : Type 0 where
  pub value : GreetingValue
  pub is : IsGreeting value payload

pub record HasResponse (payload : List ℕ) : Type 0 where
  pub value : ResponseValue
  pub is : IsResponse value payload

pub record HasSwitch (payload : List ℕ) : Type 0 where
  pub scramble : List ℕ
  pub is : IsSwitch scramble payload

pub record HasDump (payload : List ℕ) : Type 0 where
  pub value : DumpValue
  pub is : IsDump value payload

pub record HasErr (payload : List ℕ) : Type 0 where
  pub code : ℕ
  pub state : Option (List ℕ)
  pub message : List ℕ
  pub is : IsErrPacket code state message payload

-- An ERR with this code and state, and with a message that begins with what is kept of it.
pub record IsErrOf (code : ℕ) (state : Option (List ℕ)) (kept payload : List ℕ) : Type 0 where
  pub message : List ℕ
  pub is : IsErrPacket code state message payload
  pub kept_is : kept ≡ take kept_message message
