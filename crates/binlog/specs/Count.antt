-- Counts: length-encoded integers inside an event.
use Rattle.std.specs.Prelude.{ℕ, ◌+◌, ◌-◌, List, [], ◌∷◌, slice_index, nat_le, ◌==◌, if◌then◌else◌, Option}
use Rattle.wire.specs.Integer as lenenc
use Rattle.binlog.specs.Fault.{refuse, needs, first_of, number_at}
use Rattle.binlog.specs.declared.fault.EventFaultKind.{EventFaultKind}
use Rattle.binlog.specs.declared.fault.EventFault.{EventFault}

-- how many bytes a length-encoded integer takes that begins with this byte; 0 if none begins with it
abbrev pub width_of : ℕ → ℕ
width_of first =
    if nat_le first lenenc.most_in_one_byte then 1
    else if first == lenenc.two_bytes then 3
    else if first == lenenc.three_bytes then 4
    else if first == lenenc.eight_bytes then 9
    else 0

-- the number of bytes of the count at an offset
abbrev pub count_width : List ℕ → ℕ → ℕ
count_width bytes place = width_of (slice_index bytes place)

-- its value
abbrev pub count_at : List ℕ → ℕ → ℕ
count_at bytes place =
    if nat_le (slice_index bytes place) lenenc.most_in_one_byte then slice_index bytes place
    else number_at (count_width bytes place - 1) bytes (place + 1)

-- There is no count at the offset: no byte, one that begins no count, or too few bytes.
unfoldable pub no_count : List ℕ → ℕ → EventFaultKind → Option EventFault
no_count bytes place kind = first_of (
    needs bytes place 1
    ∷ refuse (count_width bytes place == 0) kind place
    ∷ needs bytes place (count_width bytes place)
    ∷ [])
