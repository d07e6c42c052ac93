-- The range of TIME. MySQL Reference Manual, "The TIME Type".
use Rattle.std.specs.Prelude.{ℕ, ◌+◌, Bool, not, ◌&&◌, ◌==◌, nat_le, nat_lt}

-- From -838:59:59 to 838:59:59, and no zero is negative. The fraction is the number of its digits.
abbrev pub is_time : Bool → ℕ → ℕ → ℕ → ℕ → Bool
is_time negative hour minute second number =
    nat_le hour 838 && nat_le minute 59 && nat_le second 59
    && not (hour == 838 && minute == 59 && second == 59 && nat_lt 0 number)
    && not (negative && hour + minute + second + number == 0)
