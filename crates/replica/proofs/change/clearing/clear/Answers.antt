use Rattle.std.proofs.Common.{◌≡◌, ◌∙◌, false, refl, sym, subst}
use Rattle.store.specs.Store.{Holds}
use Rattle.store.specs.declared.fault.StoreFault.TheVariants as fault
use Rattle.replica.specs.Copies.{HasJust}
use Rattle.replica.specs.Clear.{clear_of}
use Rattle.replica.proofs.ClearStore.{contains_by, reads_by, opened_noted, led_opened, led_applied, stays_whole, repeats, not_followed, other_set, not_listed, rows_by, ends_by}
use Rattle.replica.proofs.Notices.{excludes_by}
use Rattle.replica.proofs.Keeps.{store_then}
use Rattle.replica.proofs.change.clearing.clear.Goals as goal

pub returns-then-contains-clause-clears : goal.returns-then-contains-clause-clears
returns-then-contains-clause-clears g c clean old holds =
    repeats g.S.Store (λ h db is_open may. g.met.S.Store.settled h.store db is_open may) c.args.store.now.following (clear_of c.args.schema.now c.args.table.now c.args.gtid c.args.at.now) c.args.store.now old
    (contains_by old.executed c.executed-2.result.now c.args.gtid.source c.args.gtid.number c.contains.result _ (c.executed-2.ensures.value false old holds) c.contains.ensures c.if-contains.true) holds

pub returns-then-contains-clause-notes : goal.returns-then-contains-clause-notes
returns-then-contains-clause-notes g c clean old holds =
    led_opened g.S.Store c.args.store.now.following old c.args.store.now (g.W.Observer.account c.args.observer.now) (g.W.Observer.account c.opened.new.self) (stays_whole g.S.Store (λ h db is_open may. g.met.S.Store.settled h.store db is_open may) c.args.store.now old (λ left. left ≡ old) refl holds)
    (opened_noted c.args.store.now.following old c.executed.result.now (g.W.Observer.account c.args.observer.now) (g.W.Observer.account c.opened.new.self) (c.executed.ensures.value false old holds) c.opened.ensures.noticed (excludes_by (g.W.Observer.account c.args.observer.now) (g.W.Observer.account c.opened.new.self) c.executed.result.now c.following.ensures c.opened.ensures.excludes))

pub returns-then-not-reads-clause-clears : goal.returns-then-not-reads-clause-clears
returns-then-not-reads-clause-clears g c clean old holds =
    not_followed g.S.Store (λ h db is_open may. g.met.S.Store.settled h.store db is_open may) c.args.store.now.following (clear_of c.args.schema.now c.args.table.now c.args.gtid c.args.at.now) c.args.store.now old
    (contains_by old.executed c.executed-2.result.now c.args.gtid.source c.args.gtid.number c.contains.result _ (c.executed-2.ensures.value false old holds) c.contains.ensures c.if-contains.false)
    (reads_by c.args.store.now.following c.following-2.result.now c.args.schema.now c.args.table.now c.reads.result _ c.following-2.ensures c.reads.ensures c.if-not-reads.true) holds

pub returns-then-not-reads-clause-notes : goal.returns-then-not-reads-clause-notes
returns-then-not-reads-clause-notes g c clean old holds =
    led_opened g.S.Store c.args.store.now.following old c.args.store.now (g.W.Observer.account c.args.observer.now) (g.W.Observer.account c.opened.new.self) (stays_whole g.S.Store (λ h db is_open may. g.met.S.Store.settled h.store db is_open may) c.args.store.now old (λ left. left ≡ old) refl holds)
    (opened_noted c.args.store.now.following old c.executed.result.now (g.W.Observer.account c.args.observer.now) (g.W.Observer.account c.opened.new.self) (c.executed.ensures.value false old holds) c.opened.ensures.noticed (excludes_by (g.W.Observer.account c.args.observer.now) (g.W.Observer.account c.opened.new.self) c.executed.result.now c.following.ensures c.opened.ensures.excludes))

pub returns-in-Err-list_deletes-clause-clears : goal.returns-in-Err-list_deletes-clause-clears
returns-in-Err-list_deletes-clause-clears g c clean old holds =
    not_listed g.S.Store (λ h db is_open may. g.met.S.Store.settled h.store db is_open may) c.args.store.now.following (clear_of c.args.schema.now c.args.table.now c.args.gtid c.args.at.now) c.list_deletes.new.store old c.in-Err-list_deletes.fault
    (record {
      fresh = contains_by old.executed c.executed-2.result.now c.args.gtid.source c.args.gtid.number c.contains.result _ (c.executed-2.ensures.value false old holds) c.contains.ensures c.if-contains.false;
      followed = reads_by c.args.store.now.following c.following-2.result.now c.args.schema.now c.args.table.now c.reads.result _ c.following-2.ensures c.reads.ensures c.if-not-reads.false;
    })
    (c.in-Err-list_deletes.ensures.lists clean old holds)

pub returns-in-Err-list_deletes-clause-notes : goal.returns-in-Err-list_deletes-clause-notes
returns-in-Err-list_deletes-clause-notes g c clean old holds =
    led_opened g.S.Store c.args.store.now.following old c.list_deletes.new.store (g.W.Observer.account c.args.observer.now) (g.W.Observer.account c.opened.new.self) (c.in-Err-list_deletes.ensures.lists clean old holds).1
    (opened_noted c.args.store.now.following old c.executed.result.now (g.W.Observer.account c.args.observer.now) (g.W.Observer.account c.opened.new.self) (c.executed.ensures.value false old holds) c.opened.ensures.noticed (excludes_by (g.W.Observer.account c.args.observer.now) (g.W.Observer.account c.opened.new.self) c.executed.result.now c.following.ensures c.opened.ensures.excludes))

pub returns-clause-clears : goal.returns-clause-clears
returns-clause-clears g c clean old holds =
    let lists = c.in-Ok.ensures.lists (c.apply.ensures.keeps.store.clean clean) old holds in
    ends_by g.S.Store (λ h db is_open may. g.met.S.Store.settled h.store db is_open may) c.args.store.now.following (clear_of c.args.schema.now c.args.table.now c.args.gtid c.args.at.now) c.list_deletes.new.store c.apply.new.store old c.rows_out-rows.result c.in-Ok.changes c.apply.result c.end_of_clear.result
    c.end_of_clear.ensures c.list_deletes.ensures.keeps.following c.apply.ensures.keeps.store.following
    (record {
      to_be = record {
        fresh = contains_by old.executed c.executed-2.result.now c.args.gtid.source c.args.gtid.number c.contains.result _ (c.executed-2.ensures.value false old holds) c.contains.ensures c.if-contains.false;
        followed = reads_by c.args.store.now.following c.following-2.result.now c.args.schema.now c.args.table.now c.reads.result _ c.following-2.ensures c.reads.ensures c.if-not-reads.false;
      };
      just = subst (λ ids. HasJust ids c.args.at.now) (c.executed-3.ensures.value false old holds) (c.in-Ok-true.ensures.0 c.in-Ok-true.field-0-test);
    })
    lists.0 (rows_by c.args.store.now.following c.following-3.result.now c.args.schema.now c.args.table.now c.rows_out-rows.result c.in-Ok.changes (c.following-3.ensures ∙ c.list_deletes.ensures.keeps.following) c.rows_out-rows.ensures) (c.apply.ensures.alone clean old lists.1)

pub returns-clause-notes : goal.returns-clause-notes
returns-clause-notes g c clean old holds =
    let whole : Holds g.S.Store c.list_deletes.new.store old = (c.in-Ok.ensures.lists (c.apply.ensures.keeps.store.clean clean) old holds).1 in
    led_applied g.S.Store (λ h db is_open may. g.met.S.Store.settled h.store db is_open may) c.args.store.now c.list_deletes.new.store c.apply.new.store old (g.W.Observer.account c.args.observer.now) (g.W.Observer.account c.opened.new.self) (g.W.Observer.account c.apply.new.observer) c.list_deletes.ensures.keeps.following whole
    (opened_noted c.args.store.now.following old c.executed.result.now (g.W.Observer.account c.args.observer.now) (g.W.Observer.account c.opened.new.self) (c.executed.ensures.value false old holds) c.opened.ensures.noticed (excludes_by (g.W.Observer.account c.args.observer.now) (g.W.Observer.account c.opened.new.self) c.executed.result.now c.following.ensures c.opened.ensures.excludes))
    refl (λ is now held. c.apply.ensures.keeps.notes clean is now held)

pub returns-then-contains-clause-heeds : goal.returns-then-contains-clause-heeds
returns-then-contains-clause-heeds g c clean old holds on = stays_whole g.S.Store (λ h db is_open may. g.met.S.Store.settled h.store db is_open may) c.args.store.now old (λ left. left ≡ old) refl holds

pub returns-then-not-reads-clause-heeds : goal.returns-then-not-reads-clause-heeds
returns-then-not-reads-clause-heeds g c clean old holds on = stays_whole g.S.Store (λ h db is_open may. g.met.S.Store.settled h.store db is_open may) c.args.store.now old (λ left. left ≡ old) refl holds

pub returns-in-Err-list_deletes-clause-heeds : goal.returns-in-Err-list_deletes-clause-heeds
returns-in-Err-list_deletes-clause-heeds g c clean old holds on = (c.in-Err-list_deletes.ensures.lists clean old holds).1

pub returns-clause-heeds : goal.returns-clause-heeds
returns-clause-heeds g c clean old holds on =
    let whole : Holds g.S.Store c.list_deletes.new.store old = (c.in-Ok.ensures.lists (c.apply.ensures.keeps.store.clean clean) old holds).1 in
    stays_whole g.S.Store (λ h db is_open may. g.met.S.Store.settled h.store db is_open may) c.apply.new.store old (λ left. left ≡ old) refl
    (subst (λ s. Holds g.S.Store s old) (sym (c.apply.ensures.keeps.heeds false old whole (c.opened.ensures.noticed.stays on))) whole)

pub returns-clause-keeps : goal.returns-clause-keeps
returns-clause-keeps g c = store_then g.S.Store c.list_deletes.ensures.keeps c.apply.ensures.keeps.store

pub returns-in-Ok-false-clause-clears : goal.returns-in-Ok-false-clause-clears
returns-in-Ok-false-clause-clears g c clean old holds =
    other_set g.S.Store (λ h db is_open may. g.met.S.Store.settled h.store db is_open may) c.args.store.now.following (clear_of c.args.schema.now c.args.table.now c.args.gtid c.args.at.now) c.args.store.now old
    (record {
      fresh = contains_by old.executed c.executed-2.result.now c.args.gtid.source c.args.gtid.number c.contains.result _ (c.executed-2.ensures.value false old holds) c.contains.ensures c.if-contains.false;
      followed = reads_by c.args.store.now.following c.following-2.result.now c.args.schema.now c.args.table.now c.reads.result _ c.following-2.ensures c.reads.ensures c.if-not-reads.false;
    })
    (subst (λ ids. HasJust ids c.args.at.now → ⊥) (c.executed-3.ensures.value false old holds) (c.in-Ok-false.ensures.1 c.in-Ok-false.field-0-test)) holds

pub returns-in-Ok-false-clause-notes : goal.returns-in-Ok-false-clause-notes
returns-in-Ok-false-clause-notes g c clean old holds =
    led_opened g.S.Store c.args.store.now.following old c.args.store.now (g.W.Observer.account c.args.observer.now) (g.W.Observer.account c.opened.new.self) (stays_whole g.S.Store (λ h db is_open may. g.met.S.Store.settled h.store db is_open may) c.args.store.now old (λ left. left ≡ old) refl holds)
    (opened_noted c.args.store.now.following old c.executed.result.now (g.W.Observer.account c.args.observer.now) (g.W.Observer.account c.opened.new.self) (c.executed.ensures.value false old holds) c.opened.ensures.noticed (excludes_by (g.W.Observer.account c.args.observer.now) (g.W.Observer.account c.opened.new.self) c.executed.result.now c.following.ensures c.opened.ensures.excludes))

pub returns-in-Err-clause-clears : goal.returns-in-Err-clause-clears
returns-in-Err-clause-clears g c clean old holds =
    not_listed g.S.Store (λ h db is_open may. g.met.S.Store.settled h.store db is_open may) c.args.store.now.following (clear_of c.args.schema.now c.args.table.now c.args.gtid c.args.at.now) c.args.store.now old fault.Memory
    (record {
      fresh = contains_by old.executed c.executed-2.result.now c.args.gtid.source c.args.gtid.number c.contains.result _ (c.executed-2.ensures.value false old holds) c.contains.ensures c.if-contains.false;
      followed = reads_by c.args.store.now.following c.following-2.result.now c.args.schema.now c.args.table.now c.reads.result _ c.following-2.ensures c.reads.ensures c.if-not-reads.false;
    })
    (tt, stays_whole g.S.Store (λ h db is_open may. g.met.S.Store.settled h.store db is_open may) c.args.store.now old (λ left. left ≡ old) refl holds)

pub returns-in-Err-clause-notes : goal.returns-in-Err-clause-notes
returns-in-Err-clause-notes g c clean old holds =
    led_opened g.S.Store c.args.store.now.following old c.args.store.now (g.W.Observer.account c.args.observer.now) (g.W.Observer.account c.opened.new.self) (stays_whole g.S.Store (λ h db is_open may. g.met.S.Store.settled h.store db is_open may) c.args.store.now old (λ left. left ≡ old) refl holds)
    (opened_noted c.args.store.now.following old c.executed.result.now (g.W.Observer.account c.args.observer.now) (g.W.Observer.account c.opened.new.self) (c.executed.ensures.value false old holds) c.opened.ensures.noticed (excludes_by (g.W.Observer.account c.args.observer.now) (g.W.Observer.account c.opened.new.self) c.executed.result.now c.following.ensures c.opened.ensures.excludes))

pub returns-in-Ok-false-clause-heeds : goal.returns-in-Ok-false-clause-heeds
returns-in-Ok-false-clause-heeds g c clean old holds on = stays_whole g.S.Store (λ h db is_open may. g.met.S.Store.settled h.store db is_open may) c.args.store.now old (λ left. left ≡ old) refl holds

pub returns-in-Err-clause-heeds : goal.returns-in-Err-clause-heeds
returns-in-Err-clause-heeds g c clean old holds on = stays_whole g.S.Store (λ h db is_open may. g.met.S.Store.settled h.store db is_open may) c.args.store.now old (λ left. left ≡ old) refl holds
