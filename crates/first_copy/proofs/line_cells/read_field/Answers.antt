use Rattle.std.proofs.Common.{ap, sym, ◌∙◌, drop}
use Rattle.first_copy.proofs.FieldEnds.{cut_at, of_cut}
use Rattle.first_copy.proofs.line_cells.read_field.Goals as goal

pub returns-then-is_empty-clause-only : goal.returns-then-is_empty-clause-only
returns-then-is_empty-clause-only c field rest cell separates is e =
    let cut = cut_at c.split_field.result.0.now c.split_field.result.1.now field rest c.args.text.now c.args.end separates c.split_field.ensures.whole c.split_field.ensures.inner c.split_field.ensures.end is.0 e in
    absurd (c.in_default.ensures.only rest cut.1)

pub returns-in_default-clause-only : goal.returns-in_default-clause-only
returns-in_default-clause-only c field rest cell separates is e =
    let cut = cut_at c.split_field.result.0.now c.split_field.result.1.now field rest c.args.text.now c.args.end separates c.split_field.ensures.whole c.split_field.ensures.inner c.split_field.ensures.end is.0 e in
    absurd (c.in_default.ensures.only rest cut.1)

pub returns-in-Err-Text-clause-only : goal.returns-in-Err-Text-clause-only
returns-in-Err-Text-clause-only c field rest cell separates is e =
    let cut = cut_at c.split_field.result.0.now c.split_field.result.1.now field rest c.args.text.now c.args.end separates c.split_field.ensures.whole c.split_field.ensures.inner c.split_field.ensures.end is.0 e in
    let memory = c.in-Err-Text.ensures.only cell (of_cut c.args.column.now _ field cell cut.0 is) in cc

pub returns-in-Err-Range-clause-only : goal.returns-in-Err-Range-clause-only
returns-in-Err-Range-clause-only c field rest cell separates is e =
    let cut = cut_at c.split_field.result.0.now c.split_field.result.1.now field rest c.args.text.now c.args.end separates c.split_field.ensures.whole c.split_field.ensures.inner c.split_field.ensures.end is.0 e in
    let memory = c.in-Err-Range.ensures.only cell (of_cut c.args.column.now _ field cell cut.0 is) in cc

pub returns-clause-only : goal.returns-clause-only
returns-clause-only c field rest cell separates is e =
    let cut = cut_at c.split_field.result.0.now c.split_field.result.1.now field rest c.args.text.now c.args.end separates c.split_field.ensures.whole c.split_field.ensures.inner c.split_field.ensures.end is.0 e in
    ap (λ xs. drop 1 xs) (sym c.in-Some.ensures.some ∙ cut.1)
