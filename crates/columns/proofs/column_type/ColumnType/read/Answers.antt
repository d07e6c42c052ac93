use Rattle.columns.proofs.Names.{List, ℕ, ap, ◌∙◌, codes, bytes_eq}
use Rattle.columns.specs.ColumnTypes.TypeValue.{scalar, enumeration, choices}
use Rattle.columns.proofs.MemberTypes.{name_cut, enum_letters, set_letters}
use Rattle.columns.proofs.Types.{never}
use Rattle.columns.proofs.column_type.ColumnType.read.Goals as goal

pub returns-in-Err-clause-only : goal.returns-in-Err-clause-only
returns-in-Err-clause-only c (scalar name numbers sign) lawful e = absurd (c.in-Err.ensures.only name numbers sign lawful e)
returns-in-Err-clause-only c (enumeration members) lawful e =
    let cut = name_cut c.split_word.result.0.now c.split_word.result.1.now c.args.text.now (codes "enum") members enum_letters c.split_word.ensures.whole c.split_word.ensures.letters c.split_word.ensures.end e in
    absurd (never (c.if-eq.ensures ∙ ap (λ (xs : List ℕ). bytes_eq xs (codes "enum")) cut.0))
returns-in-Err-clause-only c (choices members) lawful e =
    let cut = name_cut c.split_word.result.0.now c.split_word.result.1.now c.args.text.now (codes "set") members set_letters c.split_word.ensures.whole c.split_word.ensures.letters c.split_word.ensures.end e in
    absurd (never (c.if-eq-2.ensures ∙ ap (λ (xs : List ℕ). bytes_eq xs (codes "set")) cut.0))
