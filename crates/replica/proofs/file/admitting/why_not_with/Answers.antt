use Rattle.replica.proofs.Names.{sym, ◌∙◌}
use Rattle.replica.specs.Marks.{given_up_number, ended_number}
use Rattle.replica.proofs.AdmitStore.{is_marked, likewise, may_with}
use Rattle.replica.proofs.file.admitting.why_not_with.Goals as goal

pub returns-then-contains-clause-some : goal.returns-then-contains-clause-some
returns-then-contains-clause-some c =
    is_marked c.args.executed.now given_up_number c.given_up_mark.result c.contains.ensures c.given_up_mark.ensures.source c.given_up_mark.ensures.number c.if-contains.true

pub returns-then-contains-2-clause-some : goal.returns-then-contains-2-clause-some
returns-then-contains-2-clause-some c = (
  is_marked c.args.executed.now given_up_number c.given_up_mark.result c.contains.ensures c.given_up_mark.ensures.source c.given_up_mark.ensures.number c.if-contains.false,
  is_marked c.args.executed.now ended_number c.ended_mark.result c.contains-2.ensures c.ended_mark.ensures.source c.ended_mark.ensures.number c.if-contains-2.true,
)

pub returns-then-was_begun-clause-some : goal.returns-then-was_begun-clause-some
returns-then-was_begun-clause-some c = (
  (
    is_marked c.args.executed.now given_up_number c.given_up_mark.result c.contains.ensures c.given_up_mark.ensures.source c.given_up_mark.ensures.number c.if-contains.false,
    is_marked c.args.executed.now ended_number c.ended_mark.result c.contains-2.ensures c.ended_mark.ensures.source c.ended_mark.ensures.number c.if-contains-2.false,
  ),
  sym c.was_begun.ensures ∙ c.if-was_begun.true,
)

pub returns-then-follows_all-clause-some : goal.returns-then-follows_all-clause-some
returns-then-follows_all-clause-some c = sym c.follows_all.ensures ∙ c.if-follows_all.true

pub returns-in-Some-clause-some : goal.returns-in-Some-clause-some
returns-in-Some-clause-some c = likewise c.args.following.now c.args.executed.now c.args.tables.now c.args.copy.now c.in-Some.why c.in-Some.ensures.some

pub returns-in-Ok-true-clause-none : goal.returns-in-Ok-true-clause-none
returns-in-Ok-true-clause-none c =
    may_with c.args.following.now c.args.executed.now c.args.tables.now c.args.copy.now c.in_default.ensures.none (record {
      kept = (
        is_marked c.args.executed.now given_up_number c.given_up_mark.result c.contains.ensures c.given_up_mark.ensures.source c.given_up_mark.ensures.number c.if-contains.false,
        is_marked c.args.executed.now ended_number c.ended_mark.result c.contains-2.ensures c.ended_mark.ensures.source c.ended_mark.ensures.number c.if-contains-2.false,
      );
      fresh = sym c.was_begun.ensures ∙ c.if-was_begun.false;
      has_tables = sym c.follows_all.ensures ∙ c.if-follows_all.false;
      at = c.in-Ok-true.ensures.0 c.in-Ok-true.field-0-test;
    })

pub returns-in-Ok-false-clause-some : goal.returns-in-Ok-false-clause-some
returns-in-Ok-false-clause-some c = c.in-Ok-false.ensures.1 c.in-Ok-false.field-0-test
