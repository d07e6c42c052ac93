-- Columns written one after another.
use Rattle.binlog.proofs.Names.{◌≡◌, ℕ, ◌+◌, List, ◌∷◌, ◌++◌, length, ap, arith, flat_map, length-append, type_code, metadata, metadata_length, ColumnKind}
use Rattle.binlog.proofs.TableColumns.{metadata_long}

-- the length of the remaining metadata after the first column's
pub next_sum : (kind : ColumnKind) (left rest : List ColumnKind) (sum size all : ℕ) → sum + length (flat_map metadata left) ≡ all → left ≡ kind ∷ rest → size ≡ metadata_length (type_code kind) → sum + size + length (flat_map metadata rest) ≡ all
next_sum kind left rest sum size all so_far first is =
    let long : length (flat_map metadata left) ≡ length (metadata kind ++ flat_map metadata rest) = ap (λ l. length (flat_map metadata l)) first in
    omega (arith, so_far, long, length-append (metadata kind) (flat_map metadata rest), is, metadata_long kind)
