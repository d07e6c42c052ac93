use Rattle.binlog.proofs.Names.{◌≤◌, ◌<◌, take, length, sym, subst, ap, arith, false≢true, take_all, AllByRecursion, Name, name_list}
use Rattle.std.proofs.lemmas.Grind.{common_steps}
use Rattle.binlog.proofs.SameNames.{one_on}
use Rattle.binlog.proofs.Unkept.{long_more, named_here, long_unnamed}
use Rattle.binlog.proofs.reading.has_short.Goals as goal

pub loop-name-init : goal.loop-name-init
loop-name-init c = tt

pub returns-then-schema-lt-MARKED-clause-none : goal.returns-then-schema-lt-MARKED-clause-none
returns-then-schema-lt-MARKED-clause-none c never = absurd (false≢true (sym never))

pub returns-then-schema-lt-MARKED-clause-some : goal.returns-then-schema-lt-MARKED-clause-some
returns-then-schema-lt-MARKED-clause-some c is = (
  c.name-item.result.0.items,
  c.name-item.result.1.items,
  subst (λ n. n < 256) (ap (λ l. length l) c.as_slice-schema.ensures.value) c.if-schema-lt-MARKED.true,
  named_here c.args.names.now c.loop-name.name-index c.name-item.result (grind (arith, common_steps)) c.name-item.is,
)

pub loop-name-preserved : goal.loop-name-preserved
loop-name-preserved c =
    subst (λ k. AllByRecursion (λ (n : Name). 256 ≤ length n.0) (name_list (take k c.args.names.now))) (one_on c.loop-name.name-index)
    (long_more c.args.names.now c.loop-name.name-index c.name-item.result (grind (arith, common_steps)) c.name-item.is c.loop-name.invariant
    (subst (λ n. 256 ≤ n) (ap (λ l. length l) c.as_slice-schema.ensures.value) c.if-schema-lt-MARKED.false))

pub returns-clause-none : goal.returns-clause-none
returns-clause-none c is schema table short =
    long_unnamed (name_list c.args.names.now) schema table
    (subst (λ l. AllByRecursion (λ (n : Name). 256 ≤ length n.0) (name_list l)) (take_all c.loop-name.name-index c.args.names.now (grind (arith, common_steps))) c.loop-name.invariant) short

pub returns-clause-some : goal.returns-clause-some
returns-clause-some c never = absurd (false≢true never)
