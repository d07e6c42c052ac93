-- Numbers in the texts of values.
use Rattle.std.specs.Prelude.{ℕ, ◌-◌, List, ◌++◌, length, replicate, decimal}

-- the number in at least k digits, with zeros in front
abbrev pub zero_padded : ℕ → ℕ → List ℕ
zero_padded k n = replicate (k - length (decimal n)) 48 ++ decimal n
