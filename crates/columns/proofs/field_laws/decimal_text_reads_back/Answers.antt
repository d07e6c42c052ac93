use Rattle.std.proofs.Common.{refl, subst, sym}
use Rattle.std.specs.Prelude.{Result, Ok, Err, IfOk, IsOkAnd}
use Rattle.columns.specs.FieldDecimals.{IsDecimalField}
use Rattle.columns.proofs.DecimalFields.{shown_is}
use Rattle.columns.proofs.field_laws.decimal_text_reads_back.Goals as goal

-- more of the value in an `Ok`
with_both : {A E : Type 0} (P Q R S : A → Type 0) (r : Result A E) → IsOkAnd r P → IfOk r Q → IfOk r R → ((a : A) → P a → Q a → R a → S a) → IsOkAnd r S
with_both P Q R S (Ok a) p q t leads = leads a p q t
with_both P Q R S (Err e) p q t leads = absurd p

pub returns : goal.returns
returns c =
    let is = subst (IsDecimalField c.args.decimal) (sym c.requires.text) (shown_is c.args.sign c.args.decimal c.requires.plain c.requires.filled) in
    with_both _ _ _ _ c.read_field.result (c.read_field.ensures.only c.args.decimal refl refl is) c.read_field.ensures.precision c.read_field.ensures.scale
    (λ made same precision scale. (precision, scale, same.0, same.1))
