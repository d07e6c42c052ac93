-- Faults: what is wrong with bytes, and where. A list of tests is a table of faults; the answer is the first that
-- applies.
use Rattle.std.specs.Prelude.{ℕ, ◌+◌, Bool, List, [], ◌∷◌, length, drop, nat_lt, if◌then◌else◌, Option, Some, None}
use Rattle.byteorder.specs.Endian.{little_number}
use Rattle.binlog.specs.declared.fault.EventFaultKind.{EventFaultKind}
use Rattle.binlog.specs.declared.fault.EventFaultKind.TheVariants.{Truncated}
use Rattle.binlog.specs.declared.fault.EventFault.{EventFault}

-- a fault of this kind at this offset, if the test holds
abbrev pub refuse : Bool → EventFaultKind → ℕ → Option EventFault
refuse test kind place = if test then Some (record { kind = kind; at = place }) else None

-- Truncated at the offset, if there are fewer than this many bytes from it on
abbrev pub needs : List ℕ → ℕ → ℕ → Option EventFault
needs bytes place size = refuse (nat_lt (length bytes) (place + size)) Truncated place

-- the first fault of the table
abbrev pub first_of : List (Option EventFault) → Option EventFault
first_of [] = None
first_of (Some fault ∷ others) = Some fault
first_of (None ∷ others) = first_of others

-- the number in n bytes at an offset, the lowest byte first
abbrev pub number_at : ℕ → List ℕ → ℕ → ℕ
number_at n bytes place = little_number n (drop place bytes)
