use Rattle.std.proofs.Common.{arith, string_bytes}
use Rattle.std.proofs.lemmas.List.{nil_from_length}
use Rattle.columns.proofs.Characters.{starts_at, goes_on, ends_at, ends_with, stops_at}
use Rattle.columns.proofs.Refusals.{refused}
use Rattle.columns.proofs.wide.decode.Goals as goal

pub loop-rest-init : goal.loop-rest-init
loop-rest-init c = (omega arith, starts_at c.args.form c.args.bytes.now _ c.in_ok-text.ensures.bytes)

pub returns-in_default-clause-only : goal.returns-in_default-clause-only
returns-in_default-clause-only c whole spelled =
    stops_at c.args.form c.args.bytes.now c.loop-rest.rest.now (string_bytes c.loop-rest.text) whole (λ none. grind (arith, none, c.is_empty.ensures, c.loop-rest-test.true)) c.in_default.ensures.only c.loop-rest.invariant.1 spelled

pub loop-rest-preserved : goal.loop-rest-preserved
loop-rest-preserved c = (
  omega (arith, c.in-Some.ensures.shorter, c.loop-rest.invariant.0),
  goes_on c.args.form c.args.bytes.now c.loop-rest.rest.now c.in-Some.after.now (string_bytes c.loop-rest.text) (string_bytes c.push.new.self) c.in-Some.character (λ none. grind (arith, none, c.is_empty.ensures, c.loop-rest-test.true))
      c.in-Some.ensures.is c.in-Some.ensures.found c.in_ok-push.ensures.bytes c.in-Some.ensures.only c.loop-rest.invariant.1,
)

pub returns-clause-found : goal.returns-clause-found
returns-clause-found c = ends_at c.args.form c.args.bytes.now c.loop-rest.rest.now (string_bytes c.loop-rest.text) (nil_from_length c.loop-rest.rest.now (grind (arith, c.is_empty.ensures, c.loop-rest-test.false))) c.loop-rest.invariant.1

pub returns-clause-only : goal.returns-clause-only
returns-clause-only c whole spelled = ends_with c.args.form c.args.bytes.now c.loop-rest.rest.now (string_bytes c.loop-rest.text) whole (nil_from_length c.loop-rest.rest.now (grind (arith, c.is_empty.ensures, c.loop-rest-test.false))) c.loop-rest.invariant.1 spelled

pub returns-in_err-push-clause-full : goal.returns-in_err-push-clause-full
returns-in_err-push-clause-full c =
    refused c.from_residual-in_err-push.result (omega (arith, c.in-Some.ensures.shorter, c.loop-rest.invariant.0))
