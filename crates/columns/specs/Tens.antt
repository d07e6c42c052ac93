-- Powers of ten, and rounding.
use Rattle.std.specs.Prelude.{◌≡◌, ◌≢◌, ℕ, ◌+◌, ◌-◌, ◌*◌, ◌%◌, ◌^◌, ◌≤◌, nat_lt, if◌then◌else◌}
use Rattle.columns.specs.declared.value.tens.Tens.{Tens}
use Rattle.columns.specs.declared.value.tens.Tens.TheVariants.{Up, Down}

-- how far a power of ten is from one
abbrev pub tens_size : Tens → ℕ
tens_size (Up tens) = tens
tens_size (Down tens) = tens

-- so many powers of ten more
abbrev pub raised : ℕ → Tens → Tens
raised by (Up tens) = Up (tens + by)
raised by (Down tens) = if nat_lt by tens then Down (tens - by) else Up (by - tens)

-- The whole number of units that is nearest to a number, the even one of two.
pub record IsRounded (number unit rounded : ℕ) : Type 0 where
  pub low : 2 * (rounded * unit) ≤ 2 * number + unit
  pub high : 2 * number ≤ 2 * (rounded * unit) + unit
  pub tie_below : 2 * (rounded * unit) ≡ 2 * number + unit → rounded % 2 ≡ 0
  pub tie_above : 2 * number ≡ 2 * (rounded * unit) + unit → rounded % 2 ≡ 0

-- Two whole numbers with their powers of ten are the same number: zeros at the end of one stand in the power of the other.
pub record IsSameNumber (number : ℕ) (tens : Tens) (other : ℕ) (others : Tens) : Type 0 where
  pub zeros : ℕ
  pub number_is : number ≡ other * 10 ^ zeros
  pub tens_are : number ≢ 0 → others ≡ raised zeros tens
