use Rattle.std.proofs.Common.{◌≢◌, ◌+◌, ◌-◌, ◌^◌, min, ◌∙◌, arith}
use Rattle.std.specs.Io.KnownBytes.{prepend_known}
use Rattle.first_copy.proofs.FaultsAfter.{known_here, read_other, always, other_count, trailed, read_here}
use Rattle.first_copy.proofs.loader.Loader.finish.Goals as goal

pub returns-then-said-self-clause-fault : goal.returns-then-said-self-clause-fault
returns-then-said-self-clause-fault g c =
    let tables = c.args.self.now.taker.description.value.tables.items in
    known_here tables c.args.self.now.rows (prepend_known c.args.self.now.line.items (g.R.Read.remaining c.args.self.now.reader)) _
    (other_count tables c.args.self.now.rows c.saturating_add-line.result c.args.said c.args.self.now.line.items (g.R.Read.remaining c.args.self.now.reader) c.saturating_add-line.ensures c.if-said-self.true c.requires)

pub returns-in-Ok-clause-fault : goal.returns-in-Ok-clause-fault
returns-in-Ok-clause-fault g c =
    let tables = c.args.self.now.taker.description.value.tables.items in
    known_here tables c.args.self.now.rows (prepend_known c.args.self.now.line.items (g.R.Read.remaining c.args.self.now.reader)) _
    (trailed tables c.args.self.now.rows c.saturating_add-line-2.result c.args.said c.args.self.now.line.items c.new-behind.result.items c.read_until.new.buf.items (g.R.Read.remaining c.args.self.now.reader)
    (c.saturating_add-line-2.ensures ∙ (λ i. min (c.saturating_add-line.ensures i + 1) (2 ^ 64 - 1))) c.if-said-self.false c.requires c.new-behind.ensures.items
    (let other : c.in-Ok.field-0 ≢ 0 = c.in-Ok.field-0-test.1 in omega (arith, c.in-Ok.ensures.ok, c.read_until.new.buf.ok.0, other)) c.in-Ok.ensures.bytes)

pub returns-in-Err-clause-fault : goal.returns-in-Err-clause-fault
returns-in-Err-clause-fault g c =
    let tables = c.args.self.now.taker.description.value.tables.items in
    let text = prepend_known c.args.self.now.line.items (g.R.Read.remaining c.args.self.now.reader) in
    known_here tables c.args.self.now.rows text _ (always text _ (λ rest. read_here tables c.args.self.now.rows rest _ c.read_fault.ensures))

pub returns-in-Err-clause-other : goal.returns-in-Err-clause-other
returns-in-Err-clause-other g c = read_other c.read_fault.result _ c.read_fault.ensures
