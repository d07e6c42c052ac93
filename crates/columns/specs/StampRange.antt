-- The range of TIMESTAMP. MySQL Reference Manual, "The DATE, DATETIME, and TIMESTAMP Types".
use Rattle.std.specs.Prelude.{ℕ, ◌^◌, Bool, ◌&&◌, ◌||◌, ◌==◌, nat_lt}

-- Seconds up to 2038-01-19 03:14:07, or the zero date, which has no fraction.
abbrev pub is_stamp : ℕ → ℕ → Bool
is_stamp seconds number = nat_lt seconds (2 ^ 31) && (nat_lt 0 seconds || number == 0)
