use Rattle.replica.proofs.Names.{◌≡◌, ◌∙◌, false, take, sym, subst, arith, AllByRecursion, Name, name_list}
use Rattle.binlog.specs.Filter.{is_read}
use Rattle.std.proofs.lemmas.Grind.{common_steps}
use Rattle.std.proofs.lemmas.List.{take_all}
use Rattle.replica.proofs.Copies.{each_named, one_more, one_on, in_set, named_at}
use Rattle.replica.proofs.file.admitting.first_read.Goals as goal

pub returns-then-reads-clause-some : goal.returns-then-reads-clause-some
returns-then-reads-clause-some c = (
  named_at c.names-name-items.result.now c.args.tables.now c.names-name-items.ensures.set c.loop-name.name-index c.name-item.result (grind (arith, common_steps)) c.name-item.is,
  rw (c.deref.ensures.value, c.deref-in-loop-name.ensures.value) at (sym c.reads.ensures ∙ c.if-reads.true),
)

pub loop-name-preserved : goal.loop-name-preserved
loop-name-preserved c =
    let names = c.names-name-items.result.now in
    let x = c.name-item.result in
    let asked : is_read c.args.following.now x.0.items x.1.items ≡ false = rw (c.deref.ensures.value, c.deref-in-loop-name.ensures.value) at (sym c.reads.ensures ∙ c.if-reads.false) in
    subst (λ k. AllByRecursion (λ (n : Name). is_read c.args.following.now n.0 n.1 ≡ false) (name_list (take k names))) (one_on c.loop-name.name-index)
    (one_more (λ (n : Name). is_read c.args.following.now n.0 n.1 ≡ false) names c.loop-name.name-index x (grind (arith, common_steps)) c.name-item.is c.loop-name.invariant asked)

pub returns-clause-none : goal.returns-clause-none
returns-clause-none c schema table of =
    let names = c.names-name-items.result.now in
    each_named (λ (n : Name). is_read c.args.following.now n.0 n.1 ≡ false) (name_list names)
    (subst (λ l. AllByRecursion (λ (n : Name). is_read c.args.following.now n.0 n.1 ≡ false) (name_list l)) (take_all c.loop-name.name-index names (grind (arith, common_steps))) c.loop-name.invariant)
    (schema, table) (in_set (name_list names) c.args.tables.now c.names-name-items.ensures.set (schema, table) ∙ of)
