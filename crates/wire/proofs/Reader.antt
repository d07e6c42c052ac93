-- A reader in the middle of a stream that comes in pieces.
use Rattle.wire.proofs.Names.{◌≡◌, ℕ, List, [], ◌∷◌, ◌++◌, take, ap, sym, subst, ◌∙◌, append_assoc, take-append-drop, append-nil, IsWholePayload, IsUnfinished, IsOutOfSequence, IsTooLarge, Ending, Held, OutOfSequence, TooLarge}
use Rattle.std.proofs.Common.{drop}
use Rattle.wire.specs.Stream.{Runs, stopped, held_all, handed_out, out_of_sequence, too_large}

-- These payloads were handed out of the pieces, and whatever the reader makes of the remaining pieces goes on from
-- there.
pub record GoesOn (limit : ℕ) (pieces payloads : List (List ℕ)) (due : ℕ) (held : List ℕ) (left : List (List ℕ)) : Type 0 where
  pub run : (more : List (List ℕ)) (ending : Ending) → Runs due limit held left more ending → Runs 0 limit [] pieces (payloads ++ more) ending

pub goes_on : (limit : ℕ) (pieces : List (List ℕ)) → GoesOn limit pieces [] 0 [] pieces
goes_on limit pieces = record { run = λ more ending run. run }

pub hands_out : {limit : ℕ} {pieces payloads : List (List ℕ)} {due : ℕ} {held piece : List ℕ} {left : List (List ℕ)} (room used : ℕ) (payload : List ℕ) (next : ℕ)
    (now : List (List ℕ)) (held_now rest : List ℕ) → GoesOn limit pieces payloads due held (piece ∷ left) → room ≡ limit → IsWholePayload due room (held ++ take used piece) payload next →
    now ≡ payloads ++ payload ∷ [] → held_now ≡ [] → rest ≡ drop used piece → GoesOn limit pieces now next held_now (rest ∷ left)
hands_out {limit} {pieces} {payloads} {due} {held} {piece} {left} room used payload next now held_now rest g same whole now_is held_is rest_is = record {
  run = λ more ending run.
      subst (λ all. Runs 0 limit [] pieces all ending) (sym (append_assoc payloads (payload ∷ []) more) ∙ ap (λ all. all ++ more) (sym now_is))
      (g.run (payload ∷ more) ending
      (subst (λ p. Runs due limit held (p ∷ left) (payload ∷ more) ending) (take-append-drop used piece)
      (handed_out (take used piece) (drop used piece) next (subst (λ l. IsWholePayload due l (held ++ take used piece) payload next) same whole)
      (subst (λ h. Runs next limit h (drop used piece ∷ left) more ending) held_is (subst (λ r. Runs next limit held_now (r ∷ left) more ending) rest_is run)))));
}

pub holds_all : {limit : ℕ} {pieces payloads : List (List ℕ)} {due : ℕ} {held piece : List ℕ} {left : List (List ℕ)} (room due_now : ℕ) (held_now : List ℕ) →
    GoesOn limit pieces payloads due held (piece ∷ left) → room ≡ limit → IsUnfinished due room (held ++ piece) → due_now ≡ due → held_now ≡ held ++ piece →
    GoesOn limit pieces payloads due_now held_now left
holds_all {limit} {due = due} {held = held} {piece = piece} {left = left} room due_now held_now g same unfinished due_is held_is = record {
  run = λ more ending run. g.run more ending
      (held_all (subst (λ l. IsUnfinished due l (held ++ piece)) same unfinished)
      (subst (λ h. Runs due limit h left more ending) held_is (subst (λ d. Runs d limit held_now left more ending) due_is run)));
}

pub stops : {limit : ℕ} {pieces payloads : List (List ℕ)} {due : ℕ} {held : List ℕ} → GoesOn limit pieces payloads due held [] → Runs 0 limit [] pieces payloads (Held due held)
stops {limit} {pieces} {payloads} {due} {held} g = subst (λ all. Runs 0 limit [] pieces all (Held due held)) (append-nil payloads) (g.run [] (Held due held) stopped)

-- A wrong header ends it, with nothing more handed out.
pub breaks_sequence : {limit : ℕ} {pieces payloads : List (List ℕ)} {due : ℕ} {held piece : List ℕ} {left : List (List ℕ)} (room want got : ℕ) →
    GoesOn limit pieces payloads due held (piece ∷ left) → room ≡ limit → IsOutOfSequence due room (held ++ piece) want got → Runs 0 limit [] pieces payloads (OutOfSequence want got)
breaks_sequence {limit} {pieces} {payloads} {due} {held} {piece} room want got g same is =
    subst (λ all. Runs 0 limit [] pieces all (OutOfSequence want got)) (append-nil payloads)
    (g.run [] (OutOfSequence want got) (out_of_sequence (subst (λ l. IsOutOfSequence due l (held ++ piece) want got) same is)))

pub breaks_limit : {limit : ℕ} {pieces payloads : List (List ℕ)} {due : ℕ} {held piece : List ℕ} {left : List (List ℕ)} (room : ℕ) →
    GoesOn limit pieces payloads due held (piece ∷ left) → room ≡ limit → IsTooLarge due room (held ++ piece) → Runs 0 limit [] pieces payloads TooLarge
breaks_limit {limit} {pieces} {payloads} {due} {held} {piece} room g same is =
    subst (λ all. Runs 0 limit [] pieces all TooLarge) (append-nil payloads) (g.run [] TooLarge (too_large (subst (λ l. IsTooLarge due l (held ++ piece)) same is)))
