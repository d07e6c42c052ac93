-- For writers: what one does to the vector that it is given (of a `String`: to its bytes), and lengths that are summed up.
use Rattle.std.specs.Prelude.{◌≡◌, ℕ, ◌+◌, ◌-◌, ◌^◌, ◌≤◌, min, List, ◌++◌, length, Vec, vec_len, vec_capacity}
use Rattle.std.specs.declared.alloc.Global.{Global}

-- new is old with the bytes at its end
pub record AppendsBytes (old new : Vec ℕ Global) (bytes : List ℕ) : Type 0 where
  pub items : new.items ≡ old.items ++ bytes
  pub len : vec_len new ≡ vec_len old + length bytes
  pub capacity : vec_capacity old ≤ vec_capacity new

-- n is the length, or the highest number of 64 bits if that is less
abbrev pub IsCapped : ℕ → ℕ → Type 0
IsCapped n long = n ≡ min long (2 ^ 64 - 1)
