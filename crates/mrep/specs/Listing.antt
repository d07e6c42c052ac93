-- The payloads of a stream whose first packets may have any sequence id.
use Rattle.std.specs.Prelude.{◌≡◌, ℕ, ◌+◌, ◌<◌, false, List, [], ◌∷◌, ◌++◌, length, get_or, take, ◌≤◌, ◌⊎◌, Option, Some, None, MatchOption}
use Rattle.wire.specs.Payload.{IsWholePayload, IsUnfinished, IsOutOfSequence, IsTooLarge}
use Rattle.wire.specs.Packet.{largest_payload}
use Rattle.wire.specs.declared.assembler.Step.{Step}
use Rattle.wire.specs.declared.fault.WireFault.{WireFault}
use Rattle.wire.specs.declared.fault.WireFault.TheVariants.{Sequence, TooLarge, Memory, Ended}
use Rattle.mrep.specs.declared.payloads.listing.PayloadEntry.{PayloadEntry}
use Rattle.mrep.specs.declared.payloads.listing.Listing.{Listing}

-- The bytes are the packings of payloads, one after the other, and then the rest. Each entry has the offset of the
-- first byte of one of them, the sequence id of its first packet, and the payload's bytes. The first has this offset.
abbrev pub ListsPayloads : ℕ → List ℕ → List PayloadEntry → List ℕ → Type 0
ListsPayloads offset bytes [] rest = bytes ≡ rest
ListsPayloads offset bytes (entry ∷ entries) rest =
    (packing : List ℕ) × (others : List ℕ) × (payload : List ℕ) × (next : ℕ) × (bytes ≡ packing ++ others) × IsWholePayload entry.sequence largest_payload packing payload next
    × (entry.offset ≡ offset) × (entry.payload.items ≡ payload) × ListsPayloads (offset + length packing) others entries rest

-- the entries, and one more if there is one
abbrev pub with_entry : List PayloadEntry → Option PayloadEntry → List PayloadEntry
with_entry entries None = entries
with_entry entries (Some entry) = entries ++ entry ∷ []

-- the bytes of the current payload that have come
abbrev pub held_bytes : Listing → List ℕ
held_bytes l = l.assembler.held ++ l.header.items

-- the sequence id in the header at the front of the bytes
abbrev pub first_id : List ℕ → ℕ
first_id bytes = get_or bytes 3 0

-- the bytes are not a payload yet: fewer than a header, or an unfinished payload
abbrev pub IsNoPayload : List ℕ → Type 0
IsNoPayload bytes = (length bytes < 4) ⊎ IsUnfinished (first_id bytes) largest_payload bytes

-- The position of a listing: the stream so far is these entries and the bytes held, which are not a payload yet, and
-- nothing was wrong with it.
pub record ListsSoFar (l : Listing) (stream : List ℕ) (entries : List PayloadEntry) : Type 0 where
  pub lists : ListsPayloads 0 stream entries (held_bytes l)
  pub begin : l.begin + length (held_bytes l) ≡ length stream
  pub seen : l.seen ≡ length stream
  pub no_payload : IsNoPayload (held_bytes l)
  pub goes_on : l.assembler.ended ≡ false

-- This many of the bytes were taken, and are held now or complete this payload.
pub record Advances (old new : Listing) (bytes : List ℕ) (step : Step) : Type 0 where
  pub in_range : step.used ≤ length bytes
  pub progress : 0 < step.used
  pub begin : new.begin ≡ old.begin
  pub seen : new.seen ≡ old.seen
  pub goes_on : new.assembler.ended ≡ false
  pub taken : MatchOption step.payload ((held_bytes new ≡ held_bytes old ++ take step.used bytes) × IsNoPayload (held_bytes new))
      (λ payload. (next : ℕ) × IsWholePayload new.sequence largest_payload (held_bytes old ++ take step.used bytes) payload.items next × (held_bytes new ≡ []))

-- what is wrong with the bytes of the current payload; running out of memory says nothing about them
abbrev pub IsWrongPayload : List ℕ → WireFault → Type 0
IsWrongPayload bytes (Sequence want got) = IsOutOfSequence (first_id bytes) largest_payload bytes want got
IsWrongPayload bytes TooLarge = IsTooLarge (first_id bytes) largest_payload bytes
IsWrongPayload bytes Memory = Unit {0}
IsWrongPayload bytes Ended = ⊥

-- This is wrong with the bytes after those held, unless the reader had ended before.
pub record RefusesPayload (old new : Listing) (bytes : List ℕ) (fault : WireFault) : Type 0 where
  pub begin : new.begin ≡ old.begin
  pub seen : new.seen ≡ old.seen
  pub wrong : old.assembler.ended ≡ false → IsWrongPayload (held_bytes old ++ bytes) fault

-- The stream is these entries, and what follows them, from the listing's `begin` on, has this fault.
pub record Faults (l : Listing) (stream : List ℕ) (entries : List PayloadEntry) (fault : WireFault) : Type 0 where
  pub rest : List ℕ
  pub lists : ListsPayloads 0 stream entries rest
  pub begin : l.begin + length rest ≡ length stream
  pub wrong : IsWrongPayload rest fault
