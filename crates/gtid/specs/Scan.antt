-- Private: how a text is scanned: what was read last, and what may come next. The clauses of the steps of `scan` use
-- these definitions; those of `scan` itself use the grammar alone.
use Rattle.std.specs.Prelude.{◌≡◌, ℕ, ◌+◌, ◌<◌, ◌≤◌, ◌==◌, ◌||◌, ◌&&◌, Bool, true, false, nat_le, Option, Some, None, List, [], ◌∷◌, ◌++◌, if◌then◌else◌}
use Rattle.uuid.specs.Text.{is_hex_digit, is_hyphen_place}
use Rattle.gtid.specs.declared.grammar.State.{State}
use Rattle.gtid.specs.declared.grammar.State.TheVariants.{Start, Item, Source, First, Lo, Second, Hi, After}

abbrev pub is_blank : ℕ → Bool
is_blank b = (b == 0x20) || (b == 0x0A) || (b == 0x0D)

abbrev pub is_digit : ℕ → Bool
is_digit b = nat_le 48 b && nat_le b 57

-- whether a byte may be at a place of a hyphenated UUID
abbrev pub stands_at : ℕ → ℕ → Bool
stands_at place b = if is_hyphen_place place then b == 45 else is_hex_digit b

-- before an item
abbrev pub begin : State → ℕ → Option State
begin state b = if is_hex_digit b then Some (Source 1) else if is_blank b then Some state else None

-- after a number that may be an item's last, at a byte that is not a digit
abbrev pub end_number : ℕ → Option State
end_number b = if b == 58 then Some First else if is_blank b then Some After else if b == 44 then Some Item else None

-- the state after a byte, if the byte may come next
abbrev pub step : State → ℕ → Option State
step Start b = begin Start b
step Item b = begin Item b
step (Source place) b =
    if place == 36 then (if b == 58 then Some First else None)
    else if stands_at place b then Some (Source (place + 1))
    else None
step First b = if is_digit b then Some Lo else None
step Lo b = if is_digit b then Some Lo else if b == 45 then Some Second else end_number b
step Second b = if is_digit b then Some Hi else None
step Hi b = if is_digit b then Some Hi else end_number b
step After b = if is_blank b then Some After else if b == 44 then Some Item else None

-- whether the text may end there
abbrev pub ends : State → Bool
ends Start = true
ends Lo = true
ends Hi = true
ends After = true
ends _ = false

-- At most the 36 bytes of a UUID were read.
abbrev pub IsPlaced : State → Type 0
IsPlaced (Source place) = place ≤ 36
IsPlaced Start = Unit {0}
IsPlaced Item = Unit {0}
IsPlaced First = Unit {0}
IsPlaced Lo = Unit {0}
IsPlaced Second = Unit {0}
IsPlaced Hi = Unit {0}
IsPlaced After = Unit {0}

-- the state after a byte, if there was one before it
abbrev pub stepped : Option State → ℕ → Option State
stepped None b = None
stepped (Some s) b = step s b

-- the state after the bytes
abbrev pub run : Option State → List ℕ → Option State
run o [] = o
run o (b ∷ bs) = run (stepped o b) bs

-- A front of the text leads from the one state to the other, and this is left.
pub record IsPassed (from : State) (text : List ℕ) (to : State) (left : List ℕ) : Type 0 where
  pub front : List ℕ
  pub is : text ≡ front ++ left
  pub ran : run (Some from) front ≡ Some to

-- The first byte, if there is one, is not a digit.
abbrev pub BeginsWithNoDigit : List ℕ → Type 0
BeginsWithNoDigit [] = Unit {0}
BeginsWithNoDigit (b ∷ bs) = is_digit b ≡ false

-- The first byte, if there is one, may not be at this place of a UUID.
abbrev pub ScanEndsAt : ℕ → List ℕ → Type 0
ScanEndsAt place [] = Unit {0}
ScanEndsAt place (b ∷ bs) = place < 36 → stands_at place b ≡ false
