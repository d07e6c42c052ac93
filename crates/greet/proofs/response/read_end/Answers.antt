use Rattle.greet.proofs.Names.{◌∙◌, ◌++◌, ◌∷◌, sym, ap, not-false, eqb-true, nil_from_length}
use Rattle.std.proofs.lemmas.Bool.{not-true}
use Rattle.greet.specs.Refusal.{end_refusal}
use Rattle.greet.proofs.Replies.{same_name}
use Rattle.greet.proofs.Responses.{no_name, left_over, other_plugin}
use Rattle.greet.proofs.response.read_end.Goals as goal

pub returns-in_default-clause-fault : goal.returns-in_default-clause-fault
returns-in_default-clause-fault c = no_name c.args.lead.now c.args.rest.now c.in_default.ensures.none

pub returns-then-not-is_empty-clause-fault : goal.returns-then-not-is_empty-clause-fault
returns-then-not-is_empty-clause-fault c =
    ap (end_refusal c.args.lead.now) c.in-Some.ensures.bytes ∙ left_over c.args.lead.now c.in-Some.name.now c.in-Some.rest.now c.in-Some.ensures.text (sym c.if-not-is_empty.ensures)

pub returns-then-ne-clause-fault : goal.returns-then-ne-clause-fault
returns-then-ne-clause-fault c =
    ap (end_refusal c.args.lead.now) c.in-Some.ensures.bytes ∙ other_plugin c.args.lead.now c.in-Some.name.now c.in-Some.rest.now c.in-Some.ensures.text (sym c.if-not-is_empty.ensures) (not-true _ (sym c.if-ne.ensures))

pub returns-in-None-clause-rest : goal.returns-in-None-clause-rest
returns-in-None-clause-rest c =
    let name = same_name c.in-Some.name.now (not-false _ (sym c.if-ne.ensures)) in
    let rest = nil_from_length c.in-Some.rest.now (eqb-true _ _ (sym c.if-not-is_empty.ensures)) in
    c.in-Some.ensures.bytes ∙ (λ i. name i ++ 0 ∷ rest i)
