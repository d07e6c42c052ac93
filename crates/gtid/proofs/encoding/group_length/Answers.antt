use Rattle.gtid.proofs.Names.{◌≡◌, ◌*◌, ◌++◌, List, [], ◌∷◌, length, map, flat_map, refl, arith, length-append, little_bytes, interval_bytes, Interval}
use Rattle.byteorder.specs.Numbers.{length-bytes_low_first}
use Rattle.gtid.specs.Blocks.{pair}
use Rattle.gtid.proofs.encoding.group_length.Goals as goal

intervals_long : (intervals : List Interval) → length (flat_map interval_bytes (map pair intervals)) ≡ length intervals * 16
intervals_long [] = refl
intervals_long (i ∷ intervals) =
    let lo = length-bytes_low_first 0 8 i.lo in
    let hi = length-bytes_low_first 0 8 i.hi in
    omega (
      arith,
      intervals_long intervals,
      lo,
      hi,
      length-append (little_bytes 8 i.lo) (little_bytes 8 i.hi),
      length-append (interval_bytes (pair i)) (flat_map interval_bytes (map pair intervals)),
    )

pub returns : goal.returns
returns c =
    let source = c.args.group.now.source in
    let items = c.args.group.now.intervals.items in
    let count = little_bytes 8 (length (map pair items)) in
    let all = flat_map interval_bytes (map pair items) in
    omega (
      arith,
      c.args.group.now.long,
      length-bytes_low_first 0 8 (length (map pair items)),
      intervals_long items,
      length-append source count,
      length-append (source ++ count) all,
      c.args.group.now.intervals.ok.0,
      c.len.ensures,
      c.saturating_mul.ensures,
      c.saturating_add.ensures,
    )
