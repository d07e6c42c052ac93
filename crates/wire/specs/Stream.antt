-- What a whole stream of packets says, and how a reader reads it in pieces.
use Rattle.std.specs.Prelude.{◌≡◌, ℕ, List, [], ◌∷◌, ◌++◌}
use Rattle.wire.specs.Payload.{IsWholePayload, IsUnfinished, IsOutOfSequence, IsTooLarge}

-- What follows the whole payloads of a stream: bytes of an unfinished payload, with the sequence id that its first
-- packet must have, or a fault.
pub data Ending : Type 0 where
  Held : ℕ → List ℕ → Ending
  OutOfSequence : ℕ → ℕ → Ending
  TooLarge : Ending

abbrev pub IsEnding : ℕ → ℕ → List ℕ → Ending → Type 0
IsEnding due limit bytes (Held id held) = (id ≡ due) × (held ≡ bytes) × IsUnfinished due limit bytes
IsEnding due limit bytes (OutOfSequence want got) = IsOutOfSequence due limit bytes want got
IsEnding due limit bytes TooLarge = IsTooLarge due limit bytes

-- The stream is these payloads, each within the limit, one after the other, and then this ending. The first payload has
-- the expected id, and each later one the id after the payload before it.
abbrev pub IsStream : ℕ → ℕ → List ℕ → List (List ℕ) → Ending → Type 0
IsStream due limit stream [] ending = IsEnding due limit stream ending
IsStream due limit stream (payload ∷ payloads) ending =
    (bytes : List ℕ) × (rest : List ℕ) × (next : ℕ) × (stream ≡ bytes ++ rest) × IsWholePayload due limit bytes payload next × IsStream next limit rest payloads ending

-- A reader that holds some bytes of a payload is given a stream in these pieces, hands out these payloads, and comes to
-- this ending. It answers each piece as the clauses of `Assembler::step` say: all of it is held; or its front completes
-- a payload, and the rest of it is given next; or it brings a fault.
pub data Runs : ℕ → ℕ → List ℕ → List (List ℕ) → List (List ℕ) → Ending → Type 0 where
  stopped : {due limit : ℕ} {held : List ℕ} → Runs due limit held [] [] (Held due held)
  held_all : {due limit : ℕ} {held piece : List ℕ} {pieces payloads : List (List ℕ)} {ending : Ending} →
      IsUnfinished due limit (held ++ piece) → Runs due limit (held ++ piece) pieces payloads ending → Runs due limit held (piece ∷ pieces) payloads ending
  handed_out : {due limit : ℕ} {held payload : List ℕ} {pieces payloads : List (List ℕ)} {ending : Ending} (used rest : List ℕ) (next : ℕ) →
      IsWholePayload due limit (held ++ used) payload next → Runs next limit [] (rest ∷ pieces) payloads ending → Runs due limit held ((used ++ rest) ∷ pieces) (payload ∷ payloads) ending
  out_of_sequence : {due limit want got : ℕ} {held piece : List ℕ} {pieces : List (List ℕ)} →
      IsOutOfSequence due limit (held ++ piece) want got → Runs due limit held (piece ∷ pieces) [] (OutOfSequence want got)
  too_large : {due limit : ℕ} {held piece : List ℕ} {pieces : List (List ℕ)} →
      IsTooLarge due limit (held ++ piece) → Runs due limit held (piece ∷ pieces) [] TooLarge
