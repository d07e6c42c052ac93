use Rattle.first_copy.proofs.Names.{◌+◌, ◌∷◌, List, sym, ap, ◌∙◌, arith, nil_from_length, err_from_is_err_and, Column}
use Rattle.std.proofs.Common.{drop, vec_len}
use Rattle.std.proofs.lemmas.List.{drop_more, drop_all}
use Rattle.first_copy.proofs.LineReading.{next_field, refused_field, wrong_field, all_fields}
use Rattle.first_copy.proofs.line_cells.read_fields.Goals as goal

pub returns-in_err-rest-clause-only : goal.returns-in_err-rest-clause-only
returns-in_err-rest-clause-only c cells are =
    let p = err_from_is_err_and c.from_residual.result c.from_residual.ensures.1 in
    let all : List Column = c.args.columns.now in
    let here = drop_more all c.loop-i.i c.index-columns-i.result c.loop-i-test.true ∙ ap (λ x. x ∷ drop (c.loop-i.i + 1) all) (sym c.index-columns-i.is) in
    rw (p.1, p.2) (refused_field all c.args.text.now (drop c.loop-i.i all) c.index-columns-i.result (drop (c.loop-i.i + 1) all) c.loop-i.rest.now c.loop-i.places.items c.loop-i.bytes.items (vec_len c.loop-i.places) c.end_at.result _ here c.end_at.ensures c.loop-i.invariant c.in_err-rest.ensures.only cells are)

pub returns-in_err-rest-clause-fault : goal.returns-in_err-rest-clause-fault
returns-in_err-rest-clause-fault c =
    let p = err_from_is_err_and c.from_residual.result c.from_residual.ensures.1 in
    let all : List Column = c.args.columns.now in
    let here = drop_more all c.loop-i.i c.index-columns-i.result c.loop-i-test.true ∙ ap (λ x. x ∷ drop (c.loop-i.i + 1) all) (sym c.index-columns-i.is) in
    rw (p.1, p.2) (wrong_field all c.args.text.now (drop c.loop-i.i all) c.index-columns-i.result (drop (c.loop-i.i + 1) all) c.loop-i.rest.now c.loop-i.places.items c.loop-i.bytes.items (vec_len c.loop-i.places) c.end_at.result _ here c.end_at.ensures c.loop-i.invariant c.in_err-rest.ensures.fault)

pub loop-i-preserved : goal.loop-i-preserved
loop-i-preserved c =
    let all : List Column = c.args.columns.now in
    let here = drop_more all c.loop-i.i c.index-columns-i.result c.loop-i-test.true ∙ ap (λ x. x ∷ drop (c.loop-i.i + 1) all) (sym c.index-columns-i.is) in
    next_field all c.args.text.now (drop c.loop-i.i all) c.index-columns-i.result (drop (c.loop-i.i + 1) all) c.loop-i.rest.now c.in_ok-rest.rest.now c.loop-i.places.items c.read_field.new.places.items c.loop-i.bytes.items c.read_field.new.bytes.items (vec_len c.loop-i.places) (vec_len c.read_field.new.places) c.end_at.result here c.end_at.ensures (omega (arith, c.read_field.new.places.ok.0)) c.loop-i.invariant c.in_ok-rest.ensures.found c.in_ok-rest.ensures.only

pub returns-clause-found : goal.returns-clause-found
returns-clause-found c =
    let all : List Column = c.args.columns.now in
    all_fields all c.args.text.now (drop c.loop-i.i all) c.loop-i.rest.now c.loop-i.places.items c.loop-i.bytes.items (vec_len c.loop-i.places) (drop_all c.loop-i.i all c.loop-i-test.false) c.loop-i.invariant (nil_from_length c.loop-i.rest.now (omega (arith, c.if-rest-gt0.false)))
