-- Private: groups as blocks of bytes.
use Rattle.std.specs.Prelude.{ℕ, List, map}
use Rattle.gtid.specs.Encoding.{SidBlock}
use Rattle.gtid.specs.declared.interval.Interval.{Interval}
use Rattle.gtid.specs.declared.group.Group.{Group}

abbrev pub pair : Interval → ℕ × ℕ
pair i = (i.lo, i.hi)

abbrev pub block : List ℕ → List Interval → SidBlock
block source intervals = record { source = source; intervals = map pair intervals }

abbrev pub of_group : Group → SidBlock
of_group g = block g.source g.intervals.items

abbrev pub blocks : List Group → List SidBlock
blocks groups = map of_group groups
