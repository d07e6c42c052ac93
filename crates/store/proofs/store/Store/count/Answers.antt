use Rattle.store.proofs.Names.{◌∙◌, sym, false≢true}
use Rattle.sqlite.specs.Held.{state}
use Rattle.store.proofs.ExecutedInMemory.{spares_kept}
use Rattle.store.proofs.PlainQueries.{row_count, rest_unchanged, rest_read}
use Rattle.store.proofs.store.Store.count.Goals as goal

pub returns-in-Ok-clause-counts : goal.returns-in-Ok-clause-counts
returns-in-Ok-clause-counts g c clean content was =
    let old = state g.S.Store c.args.self.now.conn in
    let new = state g.S.Store c.count.new.conn in
    let names = c.args.self.now.following in (
      c.in-Ok.ensures.counts clean was.rest.stands.laid_out ∙ sym (row_count old names content c.args.schema.now c.args.table.now c.args.image.now c.bytes.result.now c.bytes.ensures was.rest),
      record { whole = was.whole; executed = was.executed; rest = rest_unchanged old new names content (c.in-Ok.ensures.looks.same clean was.rest.stands.laid_out) was.rest },
    )

pub returns-in-Err-clause-counts : goal.returns-in-Err-clause-counts
returns-in-Err-clause-counts g c clean content was =
    record { whole = was.whole; executed = was.executed; rest = λ is_open. rest_read (state g.S.Store c.args.self.now.conn) (state g.S.Store c.count.new.conn) c.args.self.now.following content was.rest ((c.count.ensures.looks.rested clean was.rest.stands.laid_out).rests was.rest.settled) is_open }

pub returns-in-Ok-clause-shut : goal.returns-in-Ok-clause-shut
returns-in-Ok-clause-shut g c clean content was shut = absurd (false≢true (sym shut ∙ c.in-Ok.ensures.looks.live clean))

pub returns-in-Err-clause-shut : goal.returns-in-Err-clause-shut
returns-in-Err-clause-shut g c clean content was shut = record { whole = was.whole; executed = was.executed; rest = λ is_open. absurd (false≢true (sym shut ∙ c.count.ensures.looks.opened clean is_open)) }

pub returns-in-Ok-clause-unchanged : goal.returns-in-Ok-clause-unchanged
returns-in-Ok-clause-unchanged g c clean content was is_open = (c.in-Ok.ensures.looks.same clean was.rest.stands.laid_out).0.now_is

pub returns-in-Ok-clause-crash_beside : goal.returns-in-Ok-clause-crash_beside
returns-in-Ok-clause-crash_beside g c clean content was trees left =
    spares_kept g.S.Store c.args.self.now.following content (λ h db is_open may. g.met.S.Store.settled h.store db is_open may) c.args.self.now.conn c.count.new.conn trees was.rest (c.count.ensures.looks.survives was.rest.stands.laid_out) clean left

pub returns-in-Err-clause-unchanged : goal.returns-in-Err-clause-unchanged
returns-in-Err-clause-unchanged g c clean content was is_open = ((c.count.ensures.looks.rested clean was.rest.stands.laid_out).rests was.rest.settled is_open).0

pub returns-in-Err-clause-crash_beside : goal.returns-in-Err-clause-crash_beside
returns-in-Err-clause-crash_beside g c clean content was trees left =
    spares_kept g.S.Store c.args.self.now.following content (λ h db is_open may. g.met.S.Store.settled h.store db is_open may) c.args.self.now.conn c.count.new.conn trees was.rest (c.count.ensures.looks.survives was.rest.stands.laid_out) clean left
