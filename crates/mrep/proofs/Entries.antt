-- A listing to which more bytes come.
use Rattle.std.proofs.Common.{◌≡◌, ◌≢◌, ℕ, false, ◌+◌, ◌≤◌, ◌<◌, ◌^◌, List, [], ◌∷◌, ◌++◌, length, take, drop, refl, ap, sym, subst, ◌∙◌, append_assoc, arith, length-append, length-take, inl, Option, Some, None, IfNone, IfSome, MatchOption}
use Rattle.std.proofs.Math.ListN.{get_or-append}
use Rattle.std.proofs.Math.Seq.{take-append_seam}
use Rattle.std.proofs.lemmas.List.{append-nil, take-append-drop}
use Rattle.wire.specs.Payload.{IsWholePayload, IsUnfinished, IsOutOfSequence, IsTooLarge}
use Rattle.wire.specs.declared.fault.WireFault.{WireFault}
use Rattle.wire.specs.declared.fault.WireFault.TheVariants.{Sequence, TooLarge, Memory, Ended}
use Rattle.wire.proofs.OneReading.{more_wrong, more_large}
use Rattle.wire.specs.Packet.{largest_payload}
use Rattle.mrep.specs.declared.payloads.listing.PayloadEntry.{PayloadEntry}
use Rattle.mrep.specs.declared.payloads.listing.Listing.{Listing}
use Rattle.mrep.specs.Listing.{ListsPayloads, held_bytes, with_entry, first_id, IsNoPayload, ListsSoFar, IsWrongPayload, Faults}

-- bytes after the rest are part of the rest
lists-more : (offset : ℕ) (bytes more : List ℕ) (entries : List PayloadEntry) (rest : List ℕ) → ListsPayloads offset bytes entries rest → ListsPayloads offset (bytes ++ more) entries (rest ++ more)
lists-more offset bytes more [] rest same = ap (λ b. b ++ more) same
lists-more offset bytes more (e ∷ entries) rest (packing, others, payload, next, is, whole, at, long, after) = (
  packing,
  others ++ more,
  payload,
  next,
  ap (λ b. b ++ more) is ∙ append_assoc packing others more,
  whole,
  at,
  long,
  lists-more (offset + length packing) others more entries rest after,
)

-- and if they complete a payload, there is one more entry, and no rest
lists-push : (offset : ℕ) (bytes more : List ℕ) (entries : List PayloadEntry) (rest : List ℕ) (entry : PayloadEntry) (payload : List ℕ) (next : ℕ) → ListsPayloads offset bytes entries rest →
    IsWholePayload entry.sequence largest_payload (rest ++ more) payload next → entry.offset + length rest ≡ offset + length bytes → entry.payload.items ≡ payload →
    ListsPayloads offset (bytes ++ more) (entries ++ entry ∷ []) []
lists-push offset bytes more [] rest entry payload next same whole at long =
    (rest ++ more, [], payload, next, ap (λ b. b ++ more) same ∙ sym (append-nil (rest ++ more)), whole, omega (arith, at, ap length same), long, refl)
lists-push offset bytes more (e ∷ entries) rest entry payload next (packing, others, p, n, is, w, here, l, after) whole at long = (
  packing,
  others ++ more,
  p,
  n,
  ap (λ b. b ++ more) is ∙ append_assoc packing others more,
  w,
  here,
  l,
  lists-push (offset + length packing) others more entries rest entry payload next after whole (omega (arith, at, ap length is, length-append packing others)) long,
)

-- what was consumed of a piece, with the payload that it completed at last, and the listing's position
pub record Listed (old new : Listing) (piece rest : List ℕ) (entry : Option PayloadEntry) : Type 0 where
  pub taken : List ℕ
  pub cut : piece ≡ taken ++ rest
  pub stands : (stream : List ℕ) (entries : List PayloadEntry) → length stream + length piece < 2 ^ 64 → ListsSoFar old stream entries → ListsSoFar new (stream ++ taken) (with_entry entries entry)

-- more bytes of the current payload
pub listed_held : {old mid : Listing} {piece rest : List ℕ} (new : Listing) (used : ℕ) → Listed old mid piece rest None →
    used ≤ length rest → held_bytes new ≡ held_bytes mid ++ take used rest → IsNoPayload (held_bytes new) → new.assembler.ended ≡ false → new.begin ≡ mid.begin → (mid.seen + used < 2 ^ 64 → new.seen ≡ mid.seen + used) →
    Listed old new piece (drop used rest) None
listed_held {old} {mid} {piece} {rest} new used l in_range held no_payload goes_on begin seen = record {
  taken = l.taken ++ take used rest;
  cut = l.cut ∙ ap (λ r. l.taken ++ r) (sym (take-append-drop used rest)) ∙ sym (append_assoc l.taken (take used rest) (drop used rest));
  stands = λ stream entries short at.
      let m = l.stands stream entries short at in
      let x = take used rest in
      let long : length x ≡ used = omega (arith, length-take used rest, in_range) in
      let come : length (stream ++ (l.taken ++ x)) ≡ length stream + length l.taken + used = omega (arith, length-append stream (l.taken ++ x), length-append l.taken x, long) in
      let fits : mid.seen + used < 2 ^ 64 = omega (arith, m.seen, length-append stream l.taken, short, ap length l.cut, length-append l.taken rest, in_range) in
      let same : stream ++ l.taken ++ x ≡ stream ++ (l.taken ++ x) = append_assoc stream l.taken x in
      record {
        lists = subst (λ s. ListsPayloads 0 s entries (held_bytes new)) same (subst (λ h. ListsPayloads 0 (stream ++ l.taken ++ x) entries h) (sym held) (lists-more 0 (stream ++ l.taken) x entries (held_bytes mid) m.lists));
        begin = omega (arith, m.begin, ap length held, length-append (held_bytes mid) x, long, begin, come, length-append stream l.taken);
        seen = omega (arith, seen fits, m.seen, come, length-append stream l.taken);
        no_payload = no_payload;
        goes_on = goes_on;
      };
}

-- the bytes that complete the current payload
pub listed_payload : {old mid : Listing} {piece rest : List ℕ} (new : Listing) (used : ℕ) (entry : PayloadEntry) (payload : List ℕ) (next : ℕ) →
    Listed old mid piece rest None → used ≤ length rest → IsWholePayload entry.sequence largest_payload (held_bytes mid ++ take used rest) payload next →
    held_bytes new ≡ [] → entry.offset ≡ mid.begin → entry.payload.items ≡ payload →
    (mid.seen + used < 2 ^ 64 → new.seen ≡ mid.seen + used) → new.begin ≡ new.seen → new.assembler.ended ≡ false → Listed old new piece (drop used rest) (Some entry)
listed_payload {old} {mid} {piece} {rest} new used entry payload next l in_range whole held offset len seen begin goes_on = record {
  taken = l.taken ++ take used rest;
  cut = l.cut ∙ ap (λ r. l.taken ++ r) (sym (take-append-drop used rest)) ∙ sym (append_assoc l.taken (take used rest) (drop used rest));
  stands = λ stream entries short at.
      let m = l.stands stream entries short at in
      let x = take used rest in
      let long : length x ≡ used = omega (arith, length-take used rest, in_range) in
      let come : length (stream ++ (l.taken ++ x)) ≡ length stream + length l.taken + used = omega (arith, length-append stream (l.taken ++ x), length-append l.taken x, long) in
      let fits : mid.seen + used < 2 ^ 64 = omega (arith, m.seen, length-append stream l.taken, short, ap length l.cut, length-append l.taken rest, in_range) in
      let same : stream ++ l.taken ++ x ≡ stream ++ (l.taken ++ x) = append_assoc stream l.taken x in
      let now = entries ++ entry ∷ [] in
      let pushed = lists-push 0 (stream ++ l.taken) x entries (held_bytes mid) entry payload next m.lists whole (omega (arith, offset, m.begin)) len in
      record {
        lists = subst (λ s. ListsPayloads 0 s now (held_bytes new)) same (subst (λ h. ListsPayloads 0 (stream ++ l.taken ++ x) now h) (sym held) pushed);
        begin = omega (arith, ap length held, begin, seen fits, m.seen, come, length-append stream l.taken);
        seen = omega (arith, seen fits, m.seen, come, length-append stream l.taken);
        no_payload = inl (omega (arith, ap length held));
        goes_on = goes_on;
      };
}

-- by the number of bytes that were consumed
pub listed_used : {old new : Listing} {piece rest : List ℕ} {entry : Option PayloadEntry} (used : ℕ) → Listed old new piece rest entry → used + length rest ≡ length piece →
    (stream : List ℕ) (entries : List PayloadEntry) → length stream + length piece < 2 ^ 64 → ListsSoFar old stream entries → ListsSoFar new (stream ++ take used piece) (with_entry entries entry)
listed_used {new = new} {piece} {rest} {entry} used l is stream entries short at =
    let long : used ≡ length l.taken = omega (arith, is, ap length l.cut, length-append l.taken rest) in
    let same : take used piece ≡ l.taken = (λ i. take (long i) (l.cut i)) ∙ take-append_seam l.taken rest in
    subst (λ t. ListsSoFar new (stream ++ t) (with_entry entries entry)) (sym same) (l.stands stream entries short at)

-- what the clauses of a step say about its fault
pub wrong_from : {due room : ℕ} (bytes : List ℕ) (fault : WireFault) → due ≡ first_id bytes → room ≡ largest_payload → (fault ≢ Ended) →
    ((want got : ℕ) → fault ≡ Sequence want got → IsOutOfSequence due room bytes want got) → (fault ≡ TooLarge → IsTooLarge due room bytes) → IsWrongPayload bytes fault
wrong_from bytes (Sequence want got) due room is sequence too_large = subst (λ t. t) (λ i. IsOutOfSequence (due i) (room i) bytes want got) (sequence want got refl)
wrong_from bytes TooLarge due room is sequence too_large = subst (λ t. t) (λ i. IsTooLarge (due i) (room i) bytes) (too_large refl)
wrong_from bytes Memory due room is sequence too_large = tt
wrong_from bytes Ended due room is sequence too_large = absurd (is refl)

pub nil_from : (xs : List ℕ) → (xs ≢ [] → ⊥) → xs ≡ []
nil_from [] h = refl
nil_from (x ∷ xs) h = absurd (h (λ e. cc))

-- it stays wrong, whatever bytes follow
pub IsWrong-more : (bytes more : List ℕ) (fault : WireFault) → 3 < length bytes → IsWrongPayload bytes fault → IsWrongPayload (bytes ++ more) fault
IsWrong-more bytes more (Sequence want got) long wrong = subst (λ id. IsOutOfSequence id largest_payload (bytes ++ more) want got) (sym (get_or-append bytes more 0 3 long)) (more_wrong more wrong)
IsWrong-more bytes more TooLarge long wrong = subst (λ id. IsTooLarge id largest_payload (bytes ++ more)) (sym (get_or-append bytes more 0 3 long)) (more_large more wrong)
IsWrong-more bytes more Memory long wrong = tt
IsWrong-more bytes more Ended long wrong = wrong

-- a fault, after what was consumed
pub listed_fault : {old mid : Listing} {piece rest : List ℕ} (new : Listing) (fault : WireFault) → Listed old mid piece rest None →
    new.begin ≡ mid.begin → (mid.assembler.ended ≡ false → IsWrongPayload (held_bytes mid ++ rest) fault) →
    (stream : List ℕ) (entries : List PayloadEntry) → length stream + length piece < 2 ^ 64 → ListsSoFar old stream entries → Faults new (stream ++ piece) entries fault
listed_fault {old} {mid} {piece} {rest} new fault l begin wrong stream entries short at =
    let m = l.stands stream entries short at in
    let same : stream ++ l.taken ++ rest ≡ stream ++ piece = append_assoc stream l.taken rest ∙ ap (λ p. stream ++ p) (sym l.cut) in
    record {
      rest = held_bytes mid ++ rest;
      lists = subst (λ s. ListsPayloads 0 s entries (held_bytes mid ++ rest)) same (lists-more 0 (stream ++ l.taken) rest entries (held_bytes mid) m.lists);
      begin = omega (arith, begin, m.begin, length-append (held_bytes mid) rest, ap length same, length-append (stream ++ l.taken) rest);
      wrong = wrong m.goes_on;
    }

-- what two clauses say about a step's payload, and a third if there is none
pub by_payload : {X : Type 0} (o : Option X) {P N : Type 0} {Q R S : X → Type 0} → IfNone o N → IfSome o R → IfSome o S → (N → P) → ((x : X) → R x → S x → Q x) → MatchOption o P Q
by_payload None n r s none some = none n
by_payload (Some x) n r s none some = some x r s

-- the same payload, from the same id and limit
pub whole_from : {due id room : ℕ} {bytes all payload : List ℕ} {next : ℕ} → IsWholePayload due room bytes payload next → due ≡ id → room ≡ largest_payload → bytes ≡ all →
    IsWholePayload id largest_payload all payload next
whole_from {payload = payload} {next} whole due room bytes = subst (λ t. t) (λ i. IsWholePayload (due i) (room i) (bytes i) payload next) whole

pub unfinished_from : {due id room : ℕ} {bytes all : List ℕ} → IsUnfinished due room bytes → due ≡ id → room ≡ largest_payload → bytes ≡ all → IsUnfinished id largest_payload all
unfinished_from unfinished due room bytes = subst (λ t. t) (λ i. IsUnfinished (due i) (room i) (bytes i)) unfinished
