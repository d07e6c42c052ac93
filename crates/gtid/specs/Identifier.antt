-- Global transaction identifiers, and the plain sets of them. MySQL Reference Manual, "GTID Format and Storage".
use Rattle.std.specs.Prelude.{◌≡◌, ℕ, ◌-◌, ◌<◌, ◌≤◌, ◌^◌, Bool, true, ◌&&◌, nat_eq, List, length}
use Rattle.std.specs.List.{AllByRecursion}
use Rattle.std.specs.Str.{bytes_eq}
use Rattle.std.specs.declared.cmp.Ordering.{Ordering}
use Rattle.std.specs.Ordering.{nat_cmp, ordering_then}
use Rattle.std.specs.Cmp.Lexicographic.{slice_cmp}
use Rattle.std.specs.FinSet as set
use Rattle.std.specs.Coded.{Coded, coded_list, coded_ℕ, coded×}
use Rattle.gtid.specs.declared.identifier.Gtid.{Gtid}

-- a source's 16 bytes, and a number
abbrev pub Id : Type 0
Id = List ℕ × ℕ

-- GTIDs by source bytes, and then by number
abbrev pub id_cmp : Id → Id → Ordering
id_cmp a b = ordering_then (slice_cmp nat_cmp a.0 b.0) (nat_cmp a.1 b.1)

-- a plain set of GTIDs
abbrev pub Ids : Type 0
Ids = set.FinSet id_cmp

-- a source's 16 bytes
abbrev pub IsSource : List ℕ → Type 0
IsSource bytes = (length bytes ≡ 16) × AllByRecursion (λ b. b < 256) bytes

-- a source, and a number from 1 to 2 ^ 63 - 2
abbrev pub IsGtid : Id → Type 0
IsGtid q = IsSource q.0 × (1 ≤ q.1) × (q.1 ≤ 2 ^ 63 - 2)

-- The members of the set are GTIDs of transactions.
abbrev pub AreGtids : Ids → Type 0
AreGtids ids = (q : Id) → set.contains ids q ≡ true → IsGtid q

abbrev pub ids_code : Coded Ids
ids_code = set.code (coded× (coded_list coded_ℕ) coded_ℕ)

-- what a value of `Gtid` stands for
abbrev pub id : Gtid → Id
id g = (g.source, g.number)

-- whether two GTIDs are the same
abbrev pub is_one : Id → Id → Bool
is_one a b = bytes_eq a.0 b.0 && nat_eq a.1 b.1
