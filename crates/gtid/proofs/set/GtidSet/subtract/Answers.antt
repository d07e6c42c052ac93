use Rattle.gtid.proofs.Names.{ap, sym, subst, refl, ◌∙◌, inl, inr, arith, false≢true, IsTrue}
use Rattle.gtid.specs.Group.{ids_of}
use Rattle.gtid.proofs.Sets.{is_difference, is_empty, not_long, no_groups, ascend_none, difference_none, difference_subset, difference_apart, apart_listed, is_subset_is}
use Rattle.gtid.proofs.set.GtidSet.subtract.Goals as goal

pub returns-clause-ok : goal.returns-clause-ok
returns-clause-ok c =
    is_difference c.deref-5.result.now c.deref-6.result.now c.in_ok-self-inside.field-0.items c.args.self.now c.args.other.now (ap ids_of c.deref-5.ensures.value ∙ c.self.view_is)
    (ap ids_of c.deref-6.ensures.value ∙ c.other.view_is) c.in_ok-self-inside.ensures.ok

pub returns-then-len-eq0-clause-ok : goal.returns-then-len-eq0-clause-ok
returns-then-len-eq0-clause-ok c =
    difference_none c.args.self.now c.args.other.now (inl (is_empty c.self.inside.groups.items c.args.self.now c.self.view_is (omega (arith, c.len.ensures, c.if-len-eq0.true, c.self.inside.groups.ok))))

pub returns-then-len-eq0-2-clause-ok : goal.returns-then-len-eq0-2-clause-ok
returns-then-len-eq0-2-clause-ok c =
    difference_none c.args.self.now c.args.other.now (inr (is_empty c.other.inside.groups.items c.args.other.now c.other.view_is (omega (arith, c.len-2.ensures, c.if-len-eq0-2.true, c.other.inside.groups.ok))))

pub returns-in_err-self-inside-clause-none : goal.returns-in_err-self-inside-clause-none
returns-in_err-self-inside-clause-none c empty = elim empty [
  | inl left ↦ absurd (c.if-len-eq0.false (omega (arith, c.len.ensures, c.self.inside.groups.ok, not_long c.self.inside.groups.items c.args.self.now c.self.view_is left)))
  | inr right ↦ absurd (c.if-len-eq0-2.false (omega (arith, c.len-2.ensures, c.other.inside.groups.ok, not_long c.other.inside.groups.items c.args.other.now c.other.view_is right)))
]

pub returns-then-are_subset_in_one_pass-clause-ok : goal.returns-then-are_subset_in_one_pass-clause-ok
returns-then-are_subset_in_one_pass-clause-ok c =
    let tells = is_subset_is c.are_subset_in_one_pass.result c.deref.result.now c.deref-2.result.now c.args.self.now c.args.other.now (ap ids_of c.deref.ensures.value ∙ c.self.view_is)
    (ap ids_of c.deref-2.ensures.value ∙ c.other.view_is) c.are_subset_in_one_pass.ensures in
    no_groups c.clear.new.self.items c.clear.ensures.items ∙ difference_subset c.args.self.now c.args.other.now (sym tells ∙ c.if-are_subset_in_one_pass.true)

pub returns-in_err-self-inside-clause-subset : goal.returns-in_err-self-inside-clause-subset
returns-in_err-self-inside-clause-subset c subset =
    let tells = is_subset_is c.are_subset_in_one_pass.result c.deref.result.now c.deref-2.result.now c.args.self.now c.args.other.now (ap ids_of c.deref.ensures.value ∙ c.self.view_is)
    (ap ids_of c.deref-2.ensures.value ∙ c.other.view_is) c.are_subset_in_one_pass.ensures in
    absurd (false≢true (sym c.if-are_subset_in_one_pass.false ∙ tells ∙ subset))

pub returns-then-are_apart_in_one_pass-clause-ok : goal.returns-then-are_apart_in_one_pass-clause-ok
returns-then-are_apart_in_one_pass-clause-ok c =
    difference_apart c.deref-3.result.now c.deref-4.result.now c.args.self.now c.args.other.now (ap ids_of c.deref-3.ensures.value ∙ c.self.view_is)
    (ap ids_of c.deref-4.ensures.value ∙ c.other.view_is) (c.are_apart_in_one_pass.ensures.0 (subst IsTrue (sym c.if-are_apart_in_one_pass.true) refl))

pub returns-in_err-self-inside-clause-apart : goal.returns-in_err-self-inside-clause-apart
returns-in_err-self-inside-clause-apart c none =
    absurd (false≢true (sym c.if-are_apart_in_one_pass.false ∙ c.are_apart_in_one_pass.ensures.1 (apart_listed c.deref-3.result.now c.deref-4.result.now c.args.self.now c.args.other.now
    (ap ids_of c.deref-3.ensures.value ∙ c.self.view_is) (ap ids_of c.deref-4.ensures.value ∙ c.other.view_is) none)))

pub invariant_of-self : goal.invariant_of-self
invariant_of-self c = ascend_none c.clear.new.self.items c.clear.ensures.items
