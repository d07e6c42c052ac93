-- Private: how the intervals of a text are read, byte after byte. The clauses of the steps of `read_spans` use these
-- definitions; those of `read_spans` itself use the grammar alone.
use Rattle.std.specs.Prelude.{ℕ, ◌+◌, ◌-◌, ◌*◌, ◌/◌, ◌%◌, ◌^◌, ◌==◌, ◌||◌, nat_lt, Option, Some, None, Result, Ok, Err, if◌then◌else◌, List, [], ◌∷◌, ◌++◌, slice_index, set}
use Rattle.uuid.specs.Text.{is_hex_digit, value_of}
use Rattle.gtid.specs.Scan.{is_digit}
use Rattle.gtid.specs.Text.{written_fault}
use Rattle.gtid.specs.declared.fault.GtidFault.{GtidFault}
use Rattle.gtid.specs.declared.span.Span.{Span}

-- Where in an item the reading is.
pub data Part : Type 0 where
  -- after this many digits of its UUID
  Source : ℕ → Part
  -- in the first number of an interval, with its value so far
  First : ℕ → Part
  -- in the second number, after the first one
  Second : ℕ → ℕ → Part
  -- after the intervals
  After : Part

-- the number, or the greatest that eight bytes hold
abbrev pub at_most : ℕ → ℕ
at_most n = if nat_lt n (2 ^ 64) then n else 2 ^ 64 - 1

-- a number with one more digit at its end
abbrev pub appended : ℕ → ℕ → ℕ
appended n digit = at_most (at_most (n * 10) + (digit - 48))

-- after a number, at a byte that is not a digit
abbrev pub after_number : ℕ → Part
after_number b = if b == 58 then First 0 else if b == 44 then Source 0 else After

-- how many digits of a UUID have been read after one more byte, up to what one byte holds
abbrev pub more_digits : ℕ → ℕ → ℕ
more_digits digits b = if is_hex_digit b then (if nat_lt (digits + 1) 256 then digits + 1 else 255) else digits

-- the part after a byte
abbrev pub advance : Part → ℕ → Part
advance (Source digits) b = if b == 58 then First 0 else Source (more_digits digits b)
advance (First lo) b = if is_digit b then First (appended lo b) else if b == 45 then Second lo 0 else after_number b
advance (Second lo hi) b = if is_digit b then Second lo (appended hi b) else after_number b
advance After b = if b == 44 then Source 0 else After

-- the source, with a digit of the UUID in its place
abbrev pub put : List ℕ → ℕ → ℕ → List ℕ
put source digits b =
    if is_hex_digit b then (if nat_lt (digits / 2) 16 then set source (digits / 2) (slice_index source (digits / 2) % 16 * 16 + value_of b) else source)
    else source

-- the source after a byte
abbrev pub source_after : List ℕ → Part → ℕ → List ℕ
source_after source (Source digits) b = put source digits b
source_after source (First lo) b = source
source_after source (Second lo hi) b = source
source_after source After b = source

-- the interval that ends before a byte
abbrev pub interval_before : Part → ℕ → Option (ℕ × ℕ)
interval_before (Source digits) b = None
interval_before (First lo) b = if is_digit b || (b == 45) then None else Some (lo, lo)
interval_before (Second lo hi) b = if is_digit b then None else Some (lo, hi)
interval_before After b = None

-- an interval of a source
abbrev pub Found : Type 0
Found = List ℕ × (ℕ × ℕ)

abbrev pub found : List ℕ → Option (ℕ × ℕ) → List Found
found source None = []
found source (Some i) = (source, i) ∷ []

abbrev pub ended : Part → ℕ → List ℕ → List Found
ended part b source = found source (interval_before part b)

abbrev pub span_of : Found → Span
span_of f = record { source = f.0; lo = f.1.0; hi = f.1.1 + 1 }

abbrev pub judged : Option GtidFault → Result (List Span) GtidFault → Result (List Span) GtidFault
judged None others = others
judged (Some fault) others = Err fault

-- the spans with those found, or the first fault
abbrev pub judge : List Span → List Found → Result (List Span) GtidFault
judge spans [] = Ok spans
judge spans (f ∷ fs) = judged (written_fault f.1) (judge (spans ++ span_of f ∷ []) fs)

-- what is found from a part on
abbrev pub collected : Part → List ℕ → List ℕ → List Found
collected part source [] = ended part 44 source
collected part source (b ∷ bs) = ended part b source ++ collected (advance part b) (source_after source part b) bs

-- what is found after an interval
abbrev pub after_interval : List ℕ → List ℕ → List Found
after_interval source [] = []
after_interval source (b ∷ bs) = collected (after_number b) source bs
