-- The names of a list of tables.
use Rattle.std.specs.Prelude.{ℕ, List, map, Vec}
use Rattle.binlog.specs.Filter.{Name}

abbrev pub name_list : {A : Type 0} → List (Vec ℕ A × Vec ℕ A) → List Name
name_list pairs = map (λ p. (p.0.items, p.1.items)) pairs
