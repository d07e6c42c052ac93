use Rattle.columns.proofs.Names.{ap, sym, ◌∙◌, refl, ◌++◌, append-nil, length, subst, arith, eqb-true, Are, is_inner}
use Rattle.std.proofs.Common.{drop, eq-eqb}
use Rattle.columns.proofs.FieldCuts.{field_cut}
use Rattle.columns.proofs.MemberLists.{other_byte}
use Rattle.std.proofs.lemmas.List.{nil_from_length}
use Rattle.columns.proofs.fields.read_field.Goals as goal

pub returns-then-is_empty-clause-only : goal.returns-then-is_empty-clause-only
returns-then-is_empty-clause-only c bytes rest separates e =
    let cut = field_cut c.split_field.result.0.now c.split_field.result.1.now bytes rest c.args.text.now c.args.end separates c.split_field.ensures.whole c.split_field.ensures.inner c.split_field.ensures.end e in
    absurd (other_byte c.args.end c.split_field.result.1.now rest c.in_default.ensures.none (eq-eqb c.args.end c.args.end refl) cut.1)

pub returns-in_default-clause-only : goal.returns-in_default-clause-only
returns-in_default-clause-only c bytes rest separates e =
    let cut = field_cut c.split_field.result.0.now c.split_field.result.1.now bytes rest c.args.text.now c.args.end separates c.split_field.ensures.whole c.split_field.ensures.inner c.split_field.ensures.end e in
    absurd (other_byte c.args.end c.split_field.result.1.now rest c.in_default.ensures.none (eq-eqb c.args.end c.args.end refl) cut.1)

pub returns-in-Ok-clause-only : goal.returns-in-Ok-clause-only
returns-in-Ok-clause-only c bytes rest separates e =
    let cut = field_cut c.split_field.result.0.now c.split_field.result.1.now bytes rest c.args.text.now c.args.end separates c.split_field.ensures.whole c.split_field.ensures.inner c.split_field.ensures.end e in
    (c.in-Ok.ensures.only bytes cut.0, ap (λ xs. drop 1 xs) (sym c.in-Some.ensures.some ∙ cut.1))

pub returns-in-Err-Escape-clause-only : goal.returns-in-Err-Escape-clause-only
returns-in-Err-Escape-clause-only c bytes rest separates e =
    let cut = field_cut c.split_field.result.0.now c.split_field.result.1.now bytes rest c.args.text.now c.args.end separates c.split_field.ensures.whole c.split_field.ensures.inner c.split_field.ensures.end e in
    let same = c.in-Err-Escape.ensures.only bytes cut.0 in cc

pub returns-then-is_empty-clause-fault : goal.returns-then-is_empty-clause-fault
returns-then-is_empty-clause-fault c =
    let none = nil_from_length c.split_field.result.1.now (eqb-true (length c.split_field.result.1.now) 0 (sym c.if-is_empty.ensures)) in
    subst (Are is_inner) (sym (c.split_field.ensures.whole ∙ (λ i. c.split_field.result.0.now ++ none i) ∙ append-nil c.split_field.result.0.now)) c.split_field.ensures.inner

pub returns-in_default-clause-fault : goal.returns-in_default-clause-fault
returns-in_default-clause-fault c =
    (c.split_field.result.0.now, c.split_field.result.1.now, c.split_field.ensures.whole, c.split_field.ensures.inner, c.split_field.ensures.end, c.in_default.ensures.none, grind (arith, c.is_empty.ensures, c.if-is_empty.false))

pub returns-in-Err-Escape-clause-fault : goal.returns-in-Err-Escape-clause-fault
returns-in-Err-Escape-clause-fault c = (
  c.split_field.result.0.now,
  c.in-Some.rest.now,
  c.split_field.ensures.whole ∙ (λ i. c.split_field.result.0.now ++ c.in-Some.ensures.some i),
  c.split_field.ensures.inner,
  λ bytes is. let same = c.in-Err-Escape.ensures.only bytes is in cc,
)
