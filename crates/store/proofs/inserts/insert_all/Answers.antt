use Rattle.store.proofs.Names.{ℕ, List, Bor, [], subst, append-nil, ◌≡◌, ◌++◌, ◌+◌, take, length, ◌-◌, sym, ap, ap₂, ◌∙◌, append_assoc, rules, arith, HasCleanDisk, IsUnchanged, IsSomeImage}
use Rattle.std.proofs.Common.{drop, length-append}
use Rattle.std.proofs.Math.Seq.{drop-append_seam}
use Rattle.std.proofs.lemmas.List.{take_all}
use Rattle.std.specs.List.{All}
use Rattle.std.specs.Slice.Iter.{chunks_rest}
use Rattle.sqlite.specs.Held.{state}
use Rattle.store.specs.Rows.{key_of}
use Rattle.store.proofs.Keeps.{stays_then, stays_ok, stays_err}
use Rattle.store.proofs.BetweenCalls.{working_same, adds_new}
use Rattle.store.proofs.AnyOrder.{adds_both, adds_rest, keys_stored, part_stored}
use Rattle.store.proofs.inserts.insert_all.Goals as goal

-- the slice that is left
left_at : (images front left : List (Bor (List ℕ))) (done : ℕ) → images ≡ front ++ left → done ≡ length front → take (length images - done) (drop done images) ≡ left
left_at images front left done is at =
    let dropped : drop done images ≡ left = ap₂ drop at is ∙ drop-append_seam front left in
    let size : length images ≡ length front + length left = ap length is ∙ length-append front left in
    ap (take (length images - done)) dropped ∙ take_all (length images - done) left (omega (arith, size, at))

pub insert_each-requires : goal.insert_each-requires
insert_each-requires g c =
    let images = c.args.images.now in
    let way = c.loop-some.invariant.way in
    let left = chunks_rest c.loop-some.some-iterator in
    let stored : All (λ r. IsSomeImage r.now) left = part_stored (λ r. IsSomeImage r.now) images way.0 left [] (way.1 ∙ ap (λ xs. way.0 ++ xs) (sym (append-nil left))) c.requires in
    subst (All (λ r. IsSomeImage r.now)) (sym (left_at images way.0 left c.loop-some.done way.1 way.2)) stored

pub returns-in_err-insert_eight-clause-stays : goal.returns-in_err-insert_eight-clause-stays
returns-in_err-insert_eight-clause-stays g c = stays_then c.loop-some.invariant.stays (stays_err c.in_err-insert_eight.ensures.stays c.from_residual.ensures.0)

pub returns-then-not-branch-clause-adds : goal.returns-then-not-branch-clause-adds
returns-then-not-branch-clause-adds g c clean was =
    let old = state g.S.Store c.args.tx.now.conn.now in
    let mid = state g.S.Store c.loop-some.tx.conn.now in
    let two = state g.S.Store c.insert_eight.new.tx.conn.now in
    let new = state g.S.Store c.insert_each.new.tx.conn.now in
    let images = c.args.images.now in
    let way = c.loop-some.invariant.way in
    let left = chunks_rest c.loop-some.some-iterator in
    let rest = take (length images - c.loop-some.done) (drop c.loop-some.done images) in
    let at : rest ≡ left = left_at images way.0 left c.loop-some.done way.1 way.2 in
    let then : HasCleanDisk two = omega (arith, c.insert_each.ensures.stays.survives.clean) in
    let early : HasCleanDisk mid = omega (arith, c.insert_eight.ensures.stays.survives.clean, then) in
    let before = way.3 early was in
    let same : IsUnchanged mid two = rw c.if-not-branch.true at (c.in_ok-insert_eight.ensures.inserts then before.0.on.working) in
    adds_rest (λ r. key_of c.args.schema.now c.args.table.now r.now) images way.0 rest old mid two new c.insert_each.result (way.1 ∙ ap (λ xs. way.0 ++ xs) (sym at)) before same
    (c.insert_each.ensures.adds clean (working_same mid two same before.0.on.working))

pub returns-then-not-branch-clause-stays : goal.returns-then-not-branch-clause-stays
returns-then-not-branch-clause-stays g c = stays_then c.loop-some.invariant.stays (stays_then c.in_ok-insert_eight.ensures.stays c.insert_each.ensures.stays)

pub loop-some-preserved : goal.loop-some-preserved
loop-some-preserved g c =
    let old = state g.S.Store c.args.tx.now.conn.now in
    let mid = state g.S.Store c.loop-some.tx.conn.now in
    let new = state g.S.Store c.insert_eight.new.tx.conn.now in
    let way = c.loop-some.invariant.way in
    let some = c.in-Some.some.now in
    let split = way.1 ∙ ap (λ xs. way.0 ++ xs) c.in-Some.ensures.steps.1.0 in
    record {
      steps = search rules;
      way = (
        way.0 ++ some,
        split ∙ sym (append_assoc way.0 some (chunks_rest c.next.new.self)),
        ap (λ n. n + length some) way.2 ∙ sym (length-append way.0 some),
        λ clean was.
            let early : HasCleanDisk mid = omega (arith, c.insert_eight.ensures.stays.survives.clean) in
            let before = way.3 early was in
            let stored = keys_stored c.args.schema.now c.args.table.now some (part_stored (λ r. IsSomeImage r.now) c.args.images.now way.0 some (chunks_rest c.next.new.self) split c.requires) in
            adds_both (λ r. key_of c.args.schema.now c.args.table.now r.now) way.0 some old mid new before (adds_new _ mid new ((rw c.if-not-branch.false at (c.in_ok-insert_eight.ensures.inserts clean before.0.on.working)) stored)),
      );
      stays = stays_ok (stays_then c.loop-some.invariant.stays c.in_ok-insert_eight.ensures.stays);
    }
