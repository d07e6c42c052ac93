use Rattle.std.proofs.Common.{Bool, refl, subst, ◌∙◌}
use Rattle.std.specs.Prelude.{MatchBool}
use Rattle.columns.specs.Padding.{padding, IsPadded}
use Rattle.columns.specs.FieldCells.{HasLength, IsHexFieldCell, AreHexDigits}
use Rattle.columns.proofs.FieldWrites.{written_field}
use Rattle.columns.proofs.field_cell.write_hex.Goals as goal

pub returns : goal.returns
returns c =
    let pad = padding c.args.kind.name c.args.set in
    written_field (IsHexFieldCell c.args.most c.args.kind.name c.args.set c.args.field.now) (AreHexDigits c.args.field.now) (c.unpadded.result.now) c.args.out.now.items c.append.new.out.items c.append.result c.appended.result c.appended.ensures c.append.ensures.ok c.append.ensures.err (
      c.in-Ok.bytes.items,
      c.unpadded.result.now,
      c.in-Ok.ensures.found,
      subst (HasLength c.args.kind.name c.args.most) (c.len.ensures ∙ c.in-Ok.bytes.ok.0) (subst (λ (b : Bool). MatchBool b (HasLength c.args.kind.name c.args.most c.len.result) (HasLength c.args.kind.name c.args.most c.len.result → ⊥)) c.if-not-has_length.false c.has_length.ensures),
      subst (IsPadded pad c.unpadded.result.now) c.deref.ensures.value c.unpadded.ensures.padded,
      c.unpadded.ensures.sent,
      refl,
    )
