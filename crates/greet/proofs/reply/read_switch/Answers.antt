use Rattle.std.proofs.Common.{◌∙◌, ap, sym, refl}
use Rattle.std.proofs.lemmas.Bool.{not-true, not-false}
use Rattle.greet.specs.Refusal.{switch_refusal}
use Rattle.greet.proofs.Replies.{no_name, other_plugin, short_data, is_switch, same_name}
use Rattle.greet.proofs.reply.read_switch.Goals as goal

pub returns-then-is_empty-clause-fault : goal.returns-then-is_empty-clause-fault
unfolding switch_refusal
returns-then-is_empty-clause-fault c = rw (sym c.if-is_empty.ensures) refl

pub returns-in_default-clause-fault : goal.returns-in_default-clause-fault
returns-in_default-clause-fault c = no_name c.args.body.now (sym c.if-is_empty.ensures) c.in_default.ensures.none

pub returns-then-ne-clause-fault : goal.returns-then-ne-clause-fault
returns-then-ne-clause-fault c =
    ap switch_refusal c.in-Some.ensures.bytes ∙ other_plugin c.in-Some.name.now c.in-Some.rest.now c.in-Some.ensures.text (not-true _ (sym c.if-ne.ensures))

pub returns-then-rest-lt20-clause-fault : goal.returns-then-rest-lt20-clause-fault
returns-then-rest-lt20-clause-fault c =
    ap switch_refusal c.in-Some.ensures.bytes ∙ short_data c.in-Some.name.now c.in-Some.rest.now c.in-Some.ensures.text (not-false _ (sym c.if-ne.ensures)) c.if-rest-lt20.true

pub returns-clause-found : goal.returns-clause-found
returns-clause-found c =
    let name = c.in-Some.name.now in
    let rest = c.in-Some.rest.now in
    rw (c.copy_from_slice.ensures.after, c.in-Some.ensures.bytes) (is_switch name rest (same_name name (not-false _ (sym c.if-ne.ensures))) c.if-rest-lt20.false)
