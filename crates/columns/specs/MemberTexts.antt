-- The texts of values of ENUM and SET. MySQL Reference Manual, "The ENUM Type" and "The SET Type".
use Rattle.std.specs.Prelude.{ℕ, ◌-◌, ◌/◌, ◌%◌, ◌==◌, Bool, true, false, if◌then◌else◌, List, [], ◌∷◌, ◌++◌, codes, unwrap_or, slice_get}

-- the member with this ordinal, from 1 on; nothing of 0, and after the last one
abbrev pub member_of : ℕ → List (List ℕ) → List ℕ
member_of ordinal members = if ordinal == 0 then [] else unwrap_or (slice_get members (ordinal - 1)) []

-- the members whose bits are set, the lowest bit for the first one
abbrev pub chosen : ℕ → List (List ℕ) → List (List ℕ)
chosen bits [] = []
chosen bits (member ∷ members) = if bits % 2 == 1 then member ∷ chosen (bits / 2) members else chosen (bits / 2) members

abbrev pub comma_unless : Bool → List ℕ
comma_unless true = []
comma_unless false = codes ","

-- texts with commas between, and one in front unless the first of them begins the whole
abbrev pub with_commas : Bool → List (List ℕ) → List ℕ
with_commas is_first [] = []
with_commas is_first (text ∷ texts) = comma_unless is_first ++ text ++ with_commas false texts
