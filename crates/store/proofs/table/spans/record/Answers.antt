use Rattle.store.proofs.Names.{◌<◌, ◌^◌, ◌≡◌, [], ◌∷◌, ◌++◌, OnOk, Some, pos, map, w64, arith, to_z_pos, Int, Blob, HasCleanDisk, IsLawfulSpan, span_rows, shown_spans, stored_span, Moves}
use Rattle.sqlite.specs.Held.{state}
use Rattle.gtid.specs.Identifier.{id}
use Rattle.gtid.specs.Beside.{one_or_none, joined}
use Rattle.store.proofs.SpanRecord.{both_there, begins_below, recorded_longer, recorded_new, low_joined, high_joined}
use Rattle.store.proofs.table.spans.record.Goals as goal

pub returns-in-Some-clause-records : goal.returns-in-Some-clause-records
returns-in-Some-clause-records g c clean was ids spans shows j =
    let q = id c.args.gtid in
    let beside = c.args.beside.now in
    let a = state g.S.Store c.args.tx.now.conn.now in
    let b = state g.S.Store c.drop_neighbour.new.tx.conn.now in
    let e = state g.S.Store c.set_end.new.tx.conn.now in
    let early : HasCleanDisk b = omega (arith, c.set_end.ensures.stays.survives.clean, clean) in
    let first : Moves a b (map stored_span ((j.front ++ one_or_none beside.below) ++ j.rest)) =
    c.in_ok-drop_neighbour.ensures.moves early was (j.front ++ one_or_none beside.below) j.rest (both_there ids q beside spans j a shows) in
    let x = c.in-Some.below in
    let is : beside.below ≡ Some x = c.in-Some.is in
    let span = joined q beside.below beside.above in
    let others = map stored_span (j.front ++ j.rest) in
    let short : x.lo < 2 ^ 63 = let l : IsLawfulSpan x = rw is at c.requires.below in omega (arith, l.1, l.2) in
    let high : span.hi < 2 ^ 63 = high_joined q beside.below beside.above c.requires.above c.args.gtid.at_most in
    let last : OnOk c.set_end.result (Moves b e ((Blob x.source ∷ Int (pos x.lo) ∷ Int (pos span.hi) ∷ []) ∷ others)) =
    (rw (c.joined-span.ensures, to_z_pos w64 x.lo short, to_z_pos w64 span.hi high) at (c.set_end.ensures.moves clean first.on.working)) (pos x.hi) others (begins_below ids q beside spans j a shows b first x is) in
    recorded_longer ids q beside spans j a shows b first x is e c.set_end.result last

pub returns-in-None-clause-records : goal.returns-in-None-clause-records
returns-in-None-clause-records g c clean was ids spans shows j =
    let q = id c.args.gtid in
    let beside = c.args.beside.now in
    let a = state g.S.Store c.args.tx.now.conn.now in
    let b = state g.S.Store c.drop_neighbour.new.tx.conn.now in
    let e = state g.S.Store c.add_span.new.tx.conn.now in
    let early : HasCleanDisk b = omega (arith, c.add_span.ensures.stays.survives.clean, clean) in
    let first : Moves a b (map stored_span ((j.front ++ one_or_none beside.below) ++ j.rest)) =
    c.in_ok-drop_neighbour.ensures.moves early was (j.front ++ one_or_none beside.below) j.rest (both_there ids q beside spans j a shows) in
    let span = joined q beside.below beside.above in
    let low : span.lo < 2 ^ 63 = low_joined q beside.below beside.above c.requires.below c.args.gtid.at_most in
    let high : span.hi < 2 ^ 63 = high_joined q beside.below beside.above c.requires.above c.args.gtid.at_most in
    let last : OnOk c.add_span.result (Moves b e (stored_span span ∷ shown_spans (span_rows b.now))) =
    rw (c.joined-span.ensures, to_z_pos w64 span.lo low, to_z_pos w64 span.hi high) at (c.add_span.ensures.moves clean first.on.working) in
    recorded_new ids q beside spans j a shows b first e c.add_span.result c.in-None.is last
