use Rattle.gtid.proofs.Names.{ap, sym, subst, ◌∙◌, arith, refl, common_steps, IsTrue, false≢true, has}
use Rattle.gtid.proofs.SourcePlace.{subset_more, subset_one}
use Rattle.gtid.proofs.groups.are_subset.Goals as goal

pub returns-then-not-is_subset : goal.returns-then-not-is_subset
returns-then-not-is_subset c = (
  λ no. absurd (false≢true no),
  λ all. subst IsTrue c.if-not-is_subset.true (c.is_subset.ensures.1 (λ n one.
      c.intervals_of.ensures.listed n
      ∙ subset_one c.args.groups.now c.args.of.now c.loop-group.group-index c.group-item.result (grind (arith, common_steps)) c.group-item.is all n (ap (λ is. has is n) (sym c.deref.ensures.value) ∙ one))),
)

pub loop-group-preserved : goal.loop-group-preserved
loop-group-preserved c =
    subset_more c.args.groups.now c.args.of.now c.loop-group.group-index c.group-item.result (grind (arith, common_steps)) c.group-item.is
    (λ n one. sym (c.intervals_of.ensures.listed n) ∙ c.is_subset.ensures.0 (subst IsTrue (sym c.if-not-is_subset.false) refl) n (ap (λ is. has is n) c.deref.ensures.value ∙ one))
    c.loop-group.invariant
