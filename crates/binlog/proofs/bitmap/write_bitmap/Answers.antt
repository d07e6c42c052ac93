use Rattle.binlog.proofs.Names.{◌≡◌, ℕ, ◌<◌, ◌∷◌, [], List, length, ◌+◌, map, ap, rules, arith, is_null, owned_values, bitmap_size, bitmap_byte}
use Rattle.binlog.specs.declared.cell.OwnedCell.{OwnedCell}
use Rattle.binlog.proofs.FullBitmap.{bytes_from, from_first, next_byte, from_last}
use Rattle.gtid.proofs.Appending.{first_write, next_fits, next_write, last_write}
use Rattle.binlog.proofs.RowWriting.{bits_length}
use Rattle.binlog.proofs.bitmap.write_bitmap.Goals as goal

next : (cells : List OwnedCell) (i byte : ℕ) → i < bitmap_size (length cells) → byte ≡ bitmap_byte (map is_null (owned_values cells)) i → bytes_from (map is_null (owned_values cells)) i ≡ byte ∷ bytes_from (map is_null (owned_values cells)) (i + 1)
next cells i byte short is = next_byte (map is_null (owned_values cells)) i byte (omega (arith, short, ap bitmap_size (bits_length cells))) is

pub loop-i-init : goal.loop-i-init
loop-i-init c = first_write c.args.out.now _ _ (from_first (map is_null (owned_values c.args.cells.now)))

pub unwrap-requires : goal.unwrap-requires
unwrap-requires c =
    let fits = next_fits (c.null_byte.result ∷ []) (bytes_from (map is_null (owned_values c.args.cells.now)) (c.loop-i.i + 1)) c.loop-i.invariant (next c.args.cells.now c.loop-i.i c.null_byte.result (omega (arith, c.loop-i-test.true, c.div_ceil-i-end.ensures)) c.null_byte.ensures) c.requires in
    c.push.ensures.succeeds (omega (arith, fits))

pub loop-i-preserved : goal.loop-i-preserved
loop-i-preserved c = next_write (c.null_byte.result ∷ []) (bytes_from (map is_null (owned_values c.args.cells.now)) (c.loop-i.i + 1)) c.loop-i.invariant (next c.args.cells.now c.loop-i.i c.null_byte.result (omega (arith, c.loop-i-test.true, c.div_ceil-i-end.ensures)) c.null_byte.ensures) (search rules)

pub returns : goal.returns
returns c = last_write c.loop-i.invariant (from_last (map is_null (owned_values c.args.cells.now)) c.loop-i.i (omega (arith, c.loop-i-test.false, c.div_ceil-i-end.ensures, ap bitmap_size (bits_length c.args.cells.now))))
