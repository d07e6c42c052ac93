-- Tables of refusals.
use Rattle.binlog.proofs.Names.{◌≡◌, ℕ, ◌+◌, ◌≤◌, Bool, true, false, List, ◌∷◌, length, Option, Some, None, refl, ltb-false, nat_lt, refuse, needs, EventFaultKind, EventFault, Truncated}
use Rattle.binlog.specs.Fault.{first_of}

-- a table without a fault has none in its first line, and none in the lines after it
pub passes : (line : Option EventFault) (lines : List (Option EventFault)) → first_of (line ∷ lines) ≡ None → (line ≡ None) × (first_of lines ≡ None)
passes None lines none = (refl, none)
passes (Some fault) lines none = absurd cc

pub not_refused : (test : Bool) (kind : EventFaultKind) (place : ℕ) → refuse test kind place ≡ None → test ≡ false
not_refused true kind place none = absurd cc
not_refused false kind place none = refl

pub is_there : (bytes : List ℕ) (place size : ℕ) → needs bytes place size ≡ None → place + size ≤ length bytes
is_there bytes place size none = ltb-false _ _ (not_refused (nat_lt (length bytes) (place + size)) Truncated place none)
