-- The range of dates and times.
use Rattle.columns.proofs.Names.{ℕ, ◌^◌, ◌<◌, ◌≤◌, ◌&&◌, nat_le, arith, IsTrue, clock_number}
use Rattle.columns.specs.Dates.{is_date}
use Rattle.columns.specs.Times.{is_clock, moment_number}
use Rattle.columns.proofs.Types.{and_parts, le_of}

three : (a b c x y z : ℕ) → IsTrue (nat_le x a && nat_le y b && nat_le z c) → (x ≤ a) × (y ≤ b) × (z ≤ c)
three a b c x y z h =
    let last = and_parts (nat_le x a && nat_le y b) (nat_le z c) h in
    let first = and_parts (nat_le x a) (nat_le y b) last.0 in
    (le_of x a first.0, le_of y b first.1, le_of z c last.1)

pub moment_fits : (year month day hour minute second : ℕ) → IsTrue (is_date year month day) → IsTrue (is_clock hour minute second) →
    moment_number year month day (clock_number hour minute second) < 256 ^ 5
moment_fits year month day hour minute second date clock =
    let a = three 9999 12 31 year month day date in
    let b = three 23 59 59 hour minute second clock in
    omega (arith, a.0, a.1, a.2, b.0, b.1, b.2)
