use Rattle.columns.proofs.Names.{refl, ap, sym, ◌∙◌, get_or, arith, codes, members_text}
use Rattle.std.proofs.Common.{drop}
use Rattle.columns.specs.ColumnTypes.TypeValue.{scalar, enumeration, choices}
use Rattle.columns.proofs.Types.{both_hold}
use Rattle.columns.proofs.MemberLists.{same_members}
use Rattle.columns.proofs.MemberTypes.{no_enum, no_set, enum_letters, set_letters}
use Rattle.columns.proofs.laws.one_column_type.Goals as goal

pub returns : goal.returns
returns c (scalar name numbers sign) (scalar other others that) lawful also is are =
    both_hold _ _ _ c.read-found.result (c.read-found.ensures.only name numbers sign lawful is) (c.read-found.ensures.only other others that also are)
    (λ made p q. (λ i. scalar ((sym p.0 ∙ q.0) i) ((sym p.1 ∙ q.1) i) ((sym p.2 ∙ q.2) i)))
returns c (scalar name numbers sign) (enumeration members) lawful also is are =
    absurd (no_enum (codes "enum") (members_text members) c.args.text.now name numbers sign are enum_letters refl is refl)
returns c (scalar name numbers sign) (choices members) lawful also is are =
    absurd (no_set (codes "set") (members_text members) c.args.text.now name numbers sign are set_letters refl is refl)
returns c (enumeration members) (scalar name numbers sign) lawful also is are =
    absurd (no_enum (codes "enum") (members_text members) c.args.text.now name numbers sign is enum_letters refl are refl)
returns c (choices members) (scalar name numbers sign) lawful also is are =
    absurd (no_set (codes "set") (members_text members) c.args.text.now name numbers sign is set_letters refl are refl)
returns c (enumeration members) (enumeration others) lawful also is are =
    sym (ap enumeration (same_members 65535 members others lawful also (ap (λ xs. drop 4 xs) (sym is ∙ are))))
returns c (choices members) (choices others) lawful also is are =
    sym (ap choices (same_members 64 members others lawful also (ap (λ xs. drop 3 xs) (sym is ∙ are))))
returns c (enumeration members) (choices others) lawful also is are = absurd (omega (arith, ap (λ xs. get_or xs 0 0) (sym is ∙ are)))
returns c (choices members) (enumeration others) lawful also is are = absurd (omega (arith, ap (λ xs. get_or xs 0 0) (sym is ∙ are)))
