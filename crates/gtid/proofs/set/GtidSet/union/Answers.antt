use Rattle.gtid.proofs.Names.{ap, sym, ◌∙◌, arith, false≢true}
use Rattle.gtid.specs.Group.{ids_of}
use Rattle.gtid.proofs.Sets.{is_union, is_empty, not_long, union_none, union_subset, is_subset_is}
use Rattle.gtid.proofs.set.GtidSet.union.Goals as goal

pub returns-clause-ok : goal.returns-clause-ok
returns-clause-ok c =
    is_union c.deref-3.result.now c.deref-4.result.now c.in_ok-self-inside.field-0.items c.args.self.now c.args.other.now (ap ids_of c.deref-3.ensures.value ∙ c.self.view_is)
    (ap ids_of c.deref-4.ensures.value ∙ c.other.view_is) c.in_ok-self-inside.ensures.ok

pub returns-then-len-eq0-clause-ok : goal.returns-then-len-eq0-clause-ok
returns-then-len-eq0-clause-ok c =
    union_none c.args.self.now c.args.other.now (is_empty c.other.inside.groups.items c.args.other.now c.other.view_is (omega (arith, c.len.ensures, c.if-len-eq0.true, c.other.inside.groups.ok)))

pub returns-then-are_subset_in_one_pass-clause-ok : goal.returns-then-are_subset_in_one_pass-clause-ok
returns-then-are_subset_in_one_pass-clause-ok c =
    let tells = is_subset_is c.are_subset_in_one_pass.result c.deref.result.now c.deref-2.result.now c.args.other.now c.args.self.now (ap ids_of c.deref.ensures.value ∙ c.other.view_is)
    (ap ids_of c.deref-2.ensures.value ∙ c.self.view_is) c.are_subset_in_one_pass.ensures in
    union_subset c.args.self.now c.args.other.now (sym tells ∙ c.if-are_subset_in_one_pass.true)

pub returns-in_err-self-inside-clause-none : goal.returns-in_err-self-inside-clause-none
returns-in_err-self-inside-clause-none c empty =
    absurd (c.if-len-eq0.false (omega (arith, c.len.ensures, c.other.inside.groups.ok, not_long c.other.inside.groups.items c.args.other.now c.other.view_is empty)))

pub returns-in_err-self-inside-clause-subset : goal.returns-in_err-self-inside-clause-subset
returns-in_err-self-inside-clause-subset c subset =
    let tells = is_subset_is c.are_subset_in_one_pass.result c.deref.result.now c.deref-2.result.now c.args.other.now c.args.self.now (ap ids_of c.deref.ensures.value ∙ c.other.view_is)
    (ap ids_of c.deref-2.ensures.value ∙ c.self.view_is) c.are_subset_in_one_pass.ensures in
    absurd (false≢true (sym c.if-are_subset_in_one_pass.false ∙ tells ∙ subset))
