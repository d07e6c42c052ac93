use Rattle.replica.proofs.Names.{◌≡◌, ◌∙◌, true, take, sym, subst, arith, AllByRecursion, Name, name_list}
use Rattle.replica.specs.Copies.{is_had}
use Rattle.std.proofs.lemmas.Grind.{common_steps}
use Rattle.std.proofs.lemmas.List.{take_all}
use Rattle.replica.proofs.Copies.{each_named, one_more, one_on, in_set, named_at}
use Rattle.replica.proofs.change.loading.first_left_out.Goals as goal

pub returns-then-not-is_had-clause-some : goal.returns-then-not-is_had-clause-some
returns-then-not-is_had-clause-some c = (
  named_at c.names-name-items.result.now c.args.tables.now c.names-name-items.ensures.set c.loop-name.name-index c.name-item.result (grind (arith, common_steps)) c.name-item.is,
  rw (c.deref.ensures.value, c.deref-in-loop-name.ensures.value) at (sym c.is_had.ensures ∙ c.if-not-is_had.true),
)

pub loop-name-preserved : goal.loop-name-preserved
loop-name-preserved c =
    let names = c.names-name-items.result.now in
    let x = c.name-item.result in
    let asked : is_had c.args.kept c.args.following.now x.0.items x.1.items ≡ true = rw (c.deref.ensures.value, c.deref-in-loop-name.ensures.value) at (sym c.is_had.ensures ∙ c.if-not-is_had.false) in
    subst (λ k. AllByRecursion (λ (n : Name). is_had c.args.kept c.args.following.now n.0 n.1 ≡ true) (name_list (take k names))) (one_on c.loop-name.name-index)
    (one_more (λ (n : Name). is_had c.args.kept c.args.following.now n.0 n.1 ≡ true) names c.loop-name.name-index x (grind (arith, common_steps)) c.name-item.is c.loop-name.invariant asked)

pub returns-clause-none : goal.returns-clause-none
returns-clause-none c schema table of =
    let names = c.names-name-items.result.now in
    each_named (λ (n : Name). is_had c.args.kept c.args.following.now n.0 n.1 ≡ true) (name_list names)
    (subst (λ l. AllByRecursion (λ (n : Name). is_had c.args.kept c.args.following.now n.0 n.1 ≡ true) (name_list l)) (take_all c.loop-name.name-index names (grind (arith, common_steps))) c.loop-name.invariant)
    (schema, table) (in_set (name_list names) c.args.tables.now c.names-name-items.ensures.set (schema, table) ∙ of)
