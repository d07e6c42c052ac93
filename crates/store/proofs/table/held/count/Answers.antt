use Rattle.std.proofs.Common.{◌≡◌, ◌<◌, ◌^◌, ℕ, Option, Some, None, IfSome, unwrap_or, ◌∙◌, arith}
use Rattle.sqlite.specs.Held.{state}
use Rattle.store.specs.Rows.{Finds, key_in, held_rows}
use Rattle.store.proofs.Done.{found_any}
use Rattle.store.proofs.PlainQueries.{found_count}
use Rattle.store.proofs.table.held.count.Goals as goal

pub returns-clause-counts : goal.returns-clause-counts
returns-clause-counts g c clean laid_out =
    let rows = held_rows (state g.S.Store c.args.conn.now).now in
    let key = key_in c.args.row.now in
    let found : Finds key rows c.in_ok-found.found = rw c.in_ok-found.was at (found_any key rows c.in_ok-rows.rows.items c.one_count.result (c.in_ok-rows.ensures.shown clean laid_out) (rw c.as_slice.ensures.value at c.one_count.ensures.is)) in
    c.unwrap_or.ensures ∙ found_count key rows c.in_ok-found.found found

unwrapped : (found : Option ℕ) (n : ℕ) → n ≡ unwrap_or found 0 → IfSome found (λ m. m < 2 ^ 63) → n < 2 ^ 63
unwrapped None n is fits = omega (arith, is)
unwrapped (Some m) n is fits = omega (arith, is, fits)

pub returns-clause-fits : goal.returns-clause-fits
returns-clause-fits g c = unwrapped c.in_ok-found.found _ c.unwrap_or.ensures (rw c.in_ok-found.was at c.one_count.ensures.fits)
