-- A payload at the front of bytes that a replica sent.
use Rattle.scripted_source.proofs.Names.{◌≡◌, ℕ, true, false, List, [], ◌++◌, length, refl, sym, ap, subst, ◌∙◌, false≢true, Memory, TakesPayload}
use Rattle.std.proofs.Common.{take, drop}
use Rattle.std.proofs.Math.Seq.{take-append_seam}
use Rattle.std.proofs.lemmas.List.{take-append-drop}
use Rattle.wire.specs.Payload.{ReaderState, IsWholePayload, IsUnfinished, IsOutOfSequence, IsTooLarge}
use Rattle.wire.specs.declared.fault.WireFault.{WireFault}
use Rattle.wire.specs.declared.fault.WireFault.TheVariants as wire
use Rattle.wire.specs.Packet.{largest_payload}
use Rattle.wire.proofs.OnePacking.{none_begins}
use Rattle.wire.proofs.OneReading.{wrong_or_whole, large_or_whole}
use Rattle.scripted_source.specs.Source.{packets_fault}

abbrev start : ℕ → ReaderState
start id = record { limit = largest_payload; due = id; held = []; ended = false }

pub starts : (new expecting : ReaderState) (id : ℕ) → new ≡ start 0 → expecting ≡ record new { due = id } → expecting ≡ start id
starts new expecting id is set = set ∙ ap (λ (s : ReaderState). record s { due = id }) is

pub one_taken : (id : ℕ) (bytes p r q s : List ℕ) → TakesPayload id bytes p r → TakesPayload id bytes q s → (p ≡ q) × (r ≡ s)
one_taken id bytes p r q s x y =
    let e = none_begins r s x.whole.packing y.whole.packing (sym x.bytes_are ∙ y.bytes_are) in
    (e.0, e.2)

pub taken : (s : ReaderState) (id : ℕ) (bytes payload : List ℕ) (used next : ℕ) → s ≡ start id → IsWholePayload s.due s.limit (s.held ++ take used bytes) payload next → TakesPayload id bytes payload (drop used bytes)
taken s id bytes payload used next is whole = record {
  packing = take used bytes;
  next = next;
  whole = subst (λ (v : ReaderState). IsWholePayload v.due v.limit (v.held ++ take used bytes) payload next) is whole;
  bytes_are = sym (take-append-drop used bytes);
}

pub not_unfinished : (s : ReaderState) (id : ℕ) (bytes payload rest : List ℕ) → s ≡ start id → IsUnfinished s.due s.limit (s.held ++ bytes) → TakesPayload id bytes payload rest → ⊥
not_unfinished s id bytes payload rest is unfinished t =
    let u : IsUnfinished id largest_payload bytes = subst (λ (v : ReaderState). IsUnfinished v.due v.limit (v.held ++ bytes)) is unfinished in
    u.not_whole (length t.packing) payload t.next
    (subst (λ l. IsWholePayload id largest_payload l payload t.next) (sym (ap (λ l. take (length t.packing) l) t.bytes_are ∙ take-append_seam t.packing rest)) t.whole)

pub only_memory : (s : ReaderState) (id : ℕ) (bytes payload rest : List ℕ) (fault : WireFault) → s ≡ start id
    → ((want got : ℕ) → fault ≡ wire.Sequence want got → IsOutOfSequence s.due s.limit (s.held ++ bytes) want got)
    → (fault ≡ wire.TooLarge → IsTooLarge s.due s.limit (s.held ++ bytes)) → (fault ≡ wire.Ended → s.ended ≡ true) → TakesPayload id bytes payload rest → packets_fault fault ≡ Memory
only_memory s id bytes payload rest (wire.Sequence want got) is sequence large ended t =
    let bad : IsOutOfSequence id largest_payload bytes want got = subst (λ (v : ReaderState). IsOutOfSequence v.due v.limit (v.held ++ bytes) want got) is (sequence want got refl) in
    absurd (wrong_or_whole rest (subst (λ l. IsOutOfSequence id largest_payload l want got) t.bytes_are bad) t.whole)
only_memory s id bytes payload rest wire.TooLarge is sequence large ended t =
    let bad : IsTooLarge id largest_payload bytes = subst (λ (v : ReaderState). IsTooLarge v.due v.limit (v.held ++ bytes)) is (large refl) in
    absurd (large_or_whole rest (subst (λ l. IsTooLarge id largest_payload l) t.bytes_are bad) t.whole)
only_memory s id bytes payload rest wire.Memory is sequence large ended t = refl
only_memory s id bytes payload rest wire.Ended is sequence large ended t = absurd (false≢true (sym (ap (λ (v : ReaderState). v.ended) is) ∙ ended refl))
