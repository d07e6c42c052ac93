-- Private: faults in the bytes of a set's parts.
use Rattle.std.specs.Prelude.{◌≡◌, ℕ, ◌<◌, ◌^◌, ◌⊎◌, true, List, ◌++◌, length, Option, Some, flat_map}
use Rattle.byteorder.specs.Endian.{little_bytes}
use Rattle.gtid.specs.Encoding.{interval_bytes, interval_fault, is_above, source_fault, last_hi, AreIntervals}
use Rattle.gtid.specs.declared.fault.GtidFault.{GtidFault}

-- After some lawful intervals, fewer than announced, the next one is at fault.
pub record FaultsInIntervals (size : ℕ) (bytes : List ℕ) (fault : GtidFault) : Type 0 where
  pub intervals : List (ℕ × ℕ)
  pub rest : List ℕ
  pub some : length intervals < size
  pub so_far : AreIntervals 0 intervals
  pub bytes_are : bytes ≡ flat_map interval_bytes intervals ++ rest
  pub faulty : interval_fault (last_hi intervals) rest ≡ Some fault

-- The source is not at fault, but its intervals are.
pub record FaultsInBlock (before : Option (List ℕ)) (bytes : List ℕ) (fault : GtidFault) : Type 0 where
  pub source : List ℕ
  pub size : ℕ
  pub after : List ℕ
  pub above : (length source ≡ 16) × (is_above before source ≡ true)
  pub fits : size < 2 ^ 64
  pub bytes_are : bytes ≡ source ++ little_bytes 8 size ++ after
  pub faulty : FaultsInIntervals size after fault

abbrev pub IsBlockFault : Option (List ℕ) → List ℕ → GtidFault → Type 0
IsBlockFault before bytes fault = (source_fault before bytes ≡ Some fault) ⊎ FaultsInBlock before bytes fault
