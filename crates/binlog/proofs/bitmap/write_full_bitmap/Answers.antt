use Rattle.binlog.proofs.Names.{◌≡◌, ℕ, ◌<◌, ◌∷◌, [], ◌+◌, ◌-◌, ◌*◌, true, replicate, ap, ◌∙◌, rules, arith, nat_lt, length-replicate, bitmap_size}
use Rattle.binlog.specs.RowsWritten.{bits_number}
use Rattle.binlog.proofs.FullBitmap.{byte_is, bytes_from, from_first, next_byte, from_last}
use Rattle.gtid.proofs.Appending.{first_write, next_fits, next_write, last_write}
use Rattle.binlog.proofs.bitmap.write_full_bitmap.Goals as goal

next : (n j byte : ℕ) → j < bitmap_size n → byte ≡ bits_number 8 (λ i. nat_lt i (n - 8 * j)) → bytes_from (replicate n true) j ≡ byte ∷ bytes_from (replicate n true) (j + 1)
next n j byte short is = next_byte (replicate n true) j byte (omega (arith, short, ap bitmap_size (length-replicate n true))) (is ∙ byte_is n j)

pub loop-j-init : goal.loop-j-init
loop-j-init c = first_write c.args.out.now _ _ (from_first (replicate c.args.n true))

pub unwrap-requires : goal.unwrap-requires
unwrap-requires c =
    let fits = next_fits (c.full_byte.result ∷ []) (bytes_from (replicate c.args.n true) (c.loop-j.j + 1)) c.loop-j.invariant (next c.args.n c.loop-j.j c.full_byte.result (omega (arith, c.loop-j-test.true, c.div_ceil-j-end.ensures)) c.full_byte.ensures) c.requires.room in
    c.push.ensures.succeeds (omega (arith, fits))

pub loop-j-preserved : goal.loop-j-preserved
loop-j-preserved c = next_write (c.full_byte.result ∷ []) (bytes_from (replicate c.args.n true) (c.loop-j.j + 1)) c.loop-j.invariant (next c.args.n c.loop-j.j c.full_byte.result (omega (arith, c.loop-j-test.true, c.div_ceil-j-end.ensures)) c.full_byte.ensures) (search rules)

pub returns : goal.returns
returns c = last_write c.loop-j.invariant (from_last (replicate c.args.n true) c.loop-j.j (omega (arith, c.loop-j-test.false, c.div_ceil-j-end.ensures, ap bitmap_size (length-replicate c.args.n true))))
