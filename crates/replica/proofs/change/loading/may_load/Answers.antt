use Rattle.replica.proofs.Names.{◌∙◌, inl, inr, false, sym, ap, subst, subst₂, Ids, id}
use Rattle.replica.specs.Marks.{is_unfinished, NoOtherUnfinished}
use Rattle.replica.specs.Copies.{IsAtSet, MayBeCopied, IsNotHad}
use Rattle.replica.specs.declared.change.loading.NoRows.{NoRows}
use Rattle.replica.specs.declared.change.loading.Unloadable.TheVariants.{Unfinished, OtherSet, HasRows, Failed}
use Rattle.store.specs.declared.fault.StoreFault.TheVariants as fault
use Rattle.replica.proofs.Copies.{no_rows, found_row}
use Rattle.replica.proofs.LoadFiles.{keeps_of, kept_after, held_after, may_not, not_had, begun_by, unfinished_by, differs}
use Rattle.replica.proofs.change.loading.may_load.Goals as goal

pub returns-in-Some-clause-judges : goal.returns-in-Some-clause-judges
returns-in-Some-clause-judges g c clean content holds kept =
    may_not g.S.Store c.args.store.now.following c.args.store.now content c.args.gtids.now (id c.args.first) c.args.tables.now (Unfinished c.in-Some.source)
    (keeps_of g.S.Store c.args.store.now content holds)
    (kept, (unfinished_by content c.in-Some.source (c.executed.ensures.value false content holds) c.in-Some.ensures.some.0, inl (differs _ _ c.in-Some.ensures.some.1)))

pub returns-then-was_begun-clause-judges : goal.returns-then-was_begun-clause-judges
returns-then-was_begun-clause-judges g c clean content holds kept = (
  holds,
  record {
    kept = kept;
    others = subst (λ ids. NoOtherUnfinished ids c.args.first.source) (c.executed.ensures.value false content holds) c.in_default.ensures.none;
    begun = inl (begun_by content c.args.gtids.now (id c.args.first) (c.executed-2.ensures.value false content holds) c.was_begun.ensures c.if-was_begun.true);
  },
)

pub returns-then-is_unfinished-clause-judges : goal.returns-then-is_unfinished-clause-judges
returns-then-is_unfinished-clause-judges g c clean content holds kept =
    may_not g.S.Store c.args.store.now.following c.args.store.now content c.args.gtids.now (id c.args.first) c.args.tables.now (Unfinished c.args.first.source)
    (keeps_of g.S.Store c.args.store.now content holds)
    (kept, (unfinished_by content c.args.first.source (c.executed-3.ensures.value false content holds) (sym c.is_unfinished.ensures ∙ c.if-is_unfinished.true), inr (begun_by content c.args.gtids.now (id c.args.first) (c.executed-2.ensures.value false content holds) c.was_begun.ensures c.if-was_begun.false)))

pub returns-in-Ok-false-clause-judges : goal.returns-in-Ok-false-clause-judges
returns-in-Ok-false-clause-judges g c clean content holds kept =
    may_not g.S.Store c.args.store.now.following c.args.store.now content c.args.gtids.now (id c.args.first) c.args.tables.now OtherSet
    (keeps_of g.S.Store c.args.store.now content holds)
    (kept, (begun_by content c.args.gtids.now (id c.args.first) (c.executed-2.ensures.value false content holds) c.was_begun.ensures c.if-was_begun.false, subst (λ ids. IsAtSet ids c.args.gtids.now → ⊥) (c.executed-4.ensures.value false content holds) (c.in-Ok-false.ensures.1 c.in-Ok-false.field-0-test)))

pub returns-in-Ok-clause-judges : goal.returns-in-Ok-clause-judges
returns-in-Ok-clause-judges g c clean content holds kept =
    let lists = c.in-Ok.ensures.lists clean content holds in (
      lists.1,
      record {
        kept = kept;
        others = subst (λ ids. NoOtherUnfinished ids c.args.first.source) (c.executed.ensures.value false content holds) c.in_default.ensures.none;
        begun = inr (record {
          marked = ap (λ (ids : Ids). is_unfinished ids c.args.first.source) (sym (c.executed-3.ensures.value false content holds)) ∙ sym c.is_unfinished.ensures ∙ c.if-is_unfinished.false;
          at = subst (λ ids. IsAtSet ids c.args.gtids.now) (c.executed-4.ensures.value false content holds) (c.in-Ok-true.ensures.0 c.in-Ok-true.field-0-test);
          had = subst₂ (λ n ids. MayBeCopied n ids c.args.tables.now) c.following.ensures (c.executed-5.ensures.value false content holds) c.in_default-why_not_had.ensures.none;
          empty = no_rows _ (λ (v : NoRows). v.tables.now) (λ v w e it. it) content _ _ lists.0;
        });
      },
    )

pub returns-in-Err-Store-clause-judges : goal.returns-in-Err-Store-clause-judges
returns-in-Err-Store-clause-judges g c clean content holds kept =
    let stays = kept_after g.S.Store c.in-Err-Store.field-0 c.in-Err-Store.fault content c.list.new.self c.in-Err-Store.field-0-is (c.in-Err-Store.ensures.lists clean content holds).1 in
    may_not g.S.Store c.args.store.now.following c.list.new.self content c.args.gtids.now (id c.args.first) c.args.tables.now (Failed c.in-Err-Store.fault) stays.0 (kept, (begun_by content c.args.gtids.now (id c.args.first) (c.executed-2.ensures.value false content holds) c.was_begun.ensures c.if-was_begun.false, stays.1))

pub returns-in-Err-Visitor-Row-clause-judges : goal.returns-in-Err-Visitor-Row-clause-judges
returns-in-Err-Visitor-Row-clause-judges g c clean content holds kept =
    let lists = c.in-Err-Visitor-Row.ensures.lists clean content holds in
    let found = found_row content _ _ c.in-Err-Visitor-Row.field-0 c.in-Err-Visitor-Row.field-0-0 c.in-Err-Visitor-Row.name c.in-Err-Visitor-Row.field-0-is c.in-Err-Visitor-Row.field-0-0-is lists.0 in
    may_not g.S.Store c.args.store.now.following c.list.new.self content c.args.gtids.now (id c.args.first) c.args.tables.now (HasRows c.in-Err-Visitor-Row.name)
    (keeps_of g.S.Store c.list.new.self content (held_after g.S.Store c.in-Err-Visitor-Row.field-0 c.in-Err-Visitor-Row.field-0-0 content c.list.new.self c.in-Err-Visitor-Row.field-0-is lists.1)) (
      kept,
      (
        begun_by content c.args.gtids.now (id c.args.first) (c.executed-2.ensures.value false content holds) c.was_begun.ensures c.if-was_begun.false,
        (
          subst (λ ids. IsAtSet ids c.args.gtids.now) (c.executed-4.ensures.value false content holds) (c.in-Ok-true.ensures.0 c.in-Ok-true.field-0-test),
          subst₂ (λ n ids. MayBeCopied n ids c.args.tables.now) c.following.ensures (c.executed-5.ensures.value false content holds) c.in_default-why_not_had.ensures.none,
          found.0,
          found.1,
        ),
      ),
    )

pub returns-in-Err-Visitor-Memory-clause-judges : goal.returns-in-Err-Visitor-Memory-clause-judges
returns-in-Err-Visitor-Memory-clause-judges g c clean content holds kept =
    may_not g.S.Store c.args.store.now.following c.list.new.self content c.args.gtids.now (id c.args.first) c.args.tables.now (Failed fault.Memory)
    (keeps_of g.S.Store c.list.new.self content
    (held_after g.S.Store c.in-Err-Visitor-Memory.field-0 c.in-Err-Visitor-Memory.field-0-0 content c.list.new.self c.in-Err-Visitor-Memory.field-0-is (c.in-Err-Visitor-Memory.ensures.lists clean content holds).1)) (kept, (begun_by content c.args.gtids.now (id c.args.first) (c.executed-2.ensures.value false content holds) c.was_begun.ensures c.if-was_begun.false, tt))

pub returns-in-Err-clause-judges : goal.returns-in-Err-clause-judges
returns-in-Err-clause-judges g c clean content holds kept =
    may_not g.S.Store c.args.store.now.following c.args.store.now content c.args.gtids.now (id c.args.first) c.args.tables.now (Failed fault.Memory)
    (keeps_of g.S.Store c.args.store.now content holds) (kept, (begun_by content c.args.gtids.now (id c.args.first) (c.executed-2.ensures.value false content holds) c.was_begun.ensures c.if-was_begun.false, tt))

pub returns-in-Some-why_not_had-clause-judges : goal.returns-in-Some-why_not_had-clause-judges
returns-in-Some-why_not_had-clause-judges g c clean content holds kept =
    may_not g.S.Store c.args.store.now.following c.args.store.now content c.args.gtids.now (id c.args.first) c.args.tables.now c.in-Some-why_not_had.why
    (keeps_of g.S.Store c.args.store.now content holds)
    (not_had c.args.store.now.following content c.args.gtids.now (id c.args.first) c.args.tables.now c.in-Some-why_not_had.why kept
    (begun_by content c.args.gtids.now (id c.args.first) (c.executed-2.ensures.value false content holds) c.was_begun.ensures c.if-was_begun.false)
    (subst (λ ids. IsAtSet ids c.args.gtids.now) (c.executed-4.ensures.value false content holds) (c.in-Ok-true.ensures.0 c.in-Ok-true.field-0-test))
    (subst₂ (λ n ids. IsNotHad n ids c.args.tables.now c.in-Some-why_not_had.why) c.following.ensures (c.executed-5.ensures.value false content holds) c.in-Some-why_not_had.ensures.some))
