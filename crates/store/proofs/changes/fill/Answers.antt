use Rattle.store.proofs.Names.{None, Some, is_none, arith, HasCleanDisk, delivery_value}
use Rattle.sqlite.specs.Held.{state}
use Rattle.store.specs.Inside.{DoesIn}
use Rattle.store.proofs.TransactionEnd.{shows_mid, filled, refused_in}
use Rattle.store.proofs.changes.fill.Goals as goal

pub returns-clause-fills : goal.returns-clause-fills
returns-clause-fills g c clean was content it =
    let old = state g.S.Store c.args.tx.now.conn.now in
    let mid = state g.S.Store c.make_changes.new.tx.conn.now in
    let new = state g.S.Store c.record.new.tx.conn.now in
    let names = c.args.filter.now in
    let d = delivery_value c.args.delivery.now in
    let early : HasCleanDisk mid = omega (arith, c.record.ensures.stays.survives.clean) in
    let does : DoesIn (is_none c.args.sorted) names d.changes old mid None = rw c.in_default.is at (c.in_ok-refused.ensures.does early was) in
    filled old mid new names d content it.stands it.out c.record.ensures.lawful does
    (c.in_ok-record.ensures.records clean does.0.on.working content.executed it.stands.executed.spans (shows_mid old mid new names d content it.stands it.out does.0) it.joins)

pub returns-in-Some-clause-fills : goal.returns-in-Some-clause-fills
returns-in-Some-clause-fills g c clean was content it =
    let old = state g.S.Store c.args.tx.now.conn.now in
    let mid = state g.S.Store c.make_changes.new.tx.conn.now in
    let names = c.args.filter.now in
    let d = delivery_value c.args.delivery.now in
    let why = c.in-Some.refused in
    let does : DoesIn (is_none c.args.sorted) names d.changes old mid (Some why) = rw c.in-Some.is at (c.in_ok-refused.ensures.does clean was) in
    refused_in old mid mid names d content it.stands it.out (is_none c.args.sorted) why does
