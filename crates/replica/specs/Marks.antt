-- The marks of first copies in an executed set. A copy is a source of its own, whose UUID is one of version 5; the UUIDs of servers are
-- of other versions. Its last three GTIDs no transaction with rows has: one is executed as it begins, the greatest that there is
-- once all of its rows are there, and the third where it is given up, before its rows are taken out. RFC 9562, 4.2 "Version Field"; MySQL Reference Manual, "GTID Format and Storage".
use Rattle.std.specs.Prelude.{◌≡◌, ℕ, ◌^◌, ◌-◌, ◌/◌, ◌==◌, ◌&&◌, ◌||◌, Bool, true, false, not, List, slice_index}
use Rattle.std.specs.FinSet as set
use Rattle.gtid.specs.Identifier.{Ids}

-- whether the UUID is of version 5
abbrev pub is_of_copy : List ℕ → Bool
is_of_copy source = slice_index source 6 / 16 == 5

-- the number that is executed as a copy begins, and the one that is executed as it ends
abbrev pub begun_number : ℕ
begun_number = 2 ^ 63 - 3

abbrev pub ended_number : ℕ
ended_number = 2 ^ 63 - 2

-- the number that is executed where a copy is given up
abbrev pub given_up_number : ℕ
given_up_number = 2 ^ 63 - 4

-- whether a copy of this source has begun, and not ended
abbrev pub is_unfinished : Ids → List ℕ → Bool
is_unfinished executed source =
    is_of_copy source && (set.contains executed (source, begun_number) && not (set.contains executed (source, ended_number)))

-- whether a GTID is one of these three
abbrev pub marks_copy : List ℕ → ℕ → Bool
marks_copy source number = is_of_copy source && (number == begun_number || (number == ended_number || number == given_up_number))

-- Each copy that has begun has ended.
abbrev pub NoneUnfinished : Ids → Type 0
NoneUnfinished executed = (source : List ℕ) → is_unfinished executed source ≡ false

-- Each copy that has begun has ended, unless it is this one.
abbrev pub NoOtherUnfinished : Ids → List ℕ → Type 0
NoOtherUnfinished executed source = (other : List ℕ) → is_unfinished executed other ≡ true → other ≡ source

-- ---- Private.

-- whether a copy of this source has begun by a set, and not ended by it or another one
abbrev pub is_left_open : Ids → Ids → List ℕ → Bool
is_left_open ids more source =
    is_of_copy source && (set.contains ids (source, begun_number) && not (set.contains ids (source, ended_number) || set.contains more (source, ended_number)))
