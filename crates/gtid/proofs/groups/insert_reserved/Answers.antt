use Rattle.std.proofs.Common.{◌∙◌, nat_eq, ap, sym, subst, arith}
use Rattle.gtid.specs.Group.{Ascend, sources}
use Rattle.gtid.proofs.GroupLookUp.{ascend_set, listed_set, listed_insert, ascend_insert, any_default}
use Rattle.gtid.proofs.Roomy.{with_room}
use Rattle.gtid.proofs.groups.insert_reserved.Goals as goal

pub returns-in-Within-clause-ascend : goal.returns-in-Within-clause-ascend
returns-in-Within-clause-ascend c =
    let fits = rw c.in-Within.is at c.requires.room in
    ascend_set c.args.groups.now.items c.in-Within.at c.index_mut.result.now c.insert_at.new.self fits.there.0 c.index_mut.ensures.value c.insert_at.ensures.source c.requires.ascend

pub returns-in-Within-clause-adds : goal.returns-in-Within-clause-adds
returns-in-Within-clause-adds c =
    let fits = rw c.in-Within.is at c.requires.room in
    let old = c.index_mut.result.now in
    let at = any_default c.args.groups.now.items c.in-Within.at old fits.there.0 c.index_mut.ensures.value in
    let same = ap (λ g. g.source) (sym (at old)) ∙ fits.there.1 old in
    listed_set c.args.groups.now.items c.in-Within.at old c.insert_at.new.self c.args.gtid.source (λ n. nat_eq n c.args.gtid.number) fits.there.0 at same (c.insert_at.ensures.source ∙ same)
    c.insert_at.ensures.adds

pub returns-in-Before-clause-ascend : goal.returns-in-Before-clause-ascend
returns-in-Before-clause-ascend c =
    let fits = rw c.in-Before.is at c.requires.room in
    subst (λ gs. Ascend (sources gs)) (sym (with_room c.insert-inserted.result c.insert-inserted.new.self.items _ _ c.insert-inserted.ensures.items (c.insert-inserted.ensures.succeeds (omega (arith, fits.room)))))
    (ascend_insert c.args.groups.now.items c.in-Before.at c.in-Before.group c.args.gtid.source c.requires.ascend fits.gap fits.source)

pub returns-in-Before-clause-adds : goal.returns-in-Before-clause-adds
returns-in-Before-clause-adds c =
    let fits = rw c.in-Before.is at c.requires.room in
    listed_insert c.args.groups.now.items c.in-Before.at c.in-Before.group c.args.gtid.source c.args.gtid.number fits.source fits.numbers c.insert-inserted.new.self.items
    (with_room c.insert-inserted.result c.insert-inserted.new.self.items _ _ c.insert-inserted.ensures.items (c.insert-inserted.ensures.succeeds (omega (arith, fits.room))))
