use Rattle.std.proofs.Common.{◌∙◌, ◌++◌, refl, sym, string_bytes}
use Rattle.std.proofs.lemmas.Result.{err_from_is_err_and}
use Rattle.columns.specs.Lines.{option_bytes}
use Rattle.columns.specs.ColumnTypes.{type_value}
use Rattle.columns.proofs.LineFaults.{at_key}
use Rattle.columns.specs.Lines.{field, set_text}
use Rattle.columns.specs.Keys.{key_text}
use Rattle.columns.specs.ColumnTypes.{column_type_text}
use Rattle.columns.proofs.Types.{never}
use Rattle.columns.proofs.FieldCuts.{spread, same_given}
use Rattle.columns.proofs.fields.read_column.Goals as goal

pub returns-then-not-fits_set-clause-only : goal.returns-then-not-fits_set-clause-only
returns-then-not-fits_set-clause-only c column rest lawful e =
    let name = c.in_ok-name.ensures.only column.name (field (column_type_text column.kind) 9 ++ (field (set_text column.set) 9 ++ (field (key_text column.key) 10 ++ rest))) lawful.name (e ∙ spread (field column.name 9) (field (column_type_text column.kind) 9) (field (set_text column.set) 9) (field (key_text column.key) 10) rest) in
    let kind = c.in_ok-kind.ensures.only column.kind (field (set_text column.set) 9 ++ (field (key_text column.key) 10 ++ rest)) lawful.kind name.1 in
    let set = c.in_ok-character_set.ensures.only column.set (field (key_text column.key) 10 ++ rest) lawful.set kind.1 in
    let given = c.is_some.ensures ∙ same_given c.in_ok-character_set.character_set column.set set.0 in
    absurd (never (c.if-not-fits_set.ensures.1 (rw (kind.0, given) lawful.fits)))

pub returns-clause-only : goal.returns-clause-only
returns-clause-only c column rest lawful e =
    let name = c.in_ok-name.ensures.only column.name (field (column_type_text column.kind) 9 ++ (field (set_text column.set) 9 ++ (field (key_text column.key) 10 ++ rest))) lawful.name (e ∙ spread (field column.name 9) (field (column_type_text column.kind) 9) (field (set_text column.set) 9) (field (key_text column.key) 10) rest) in
    let kind = c.in_ok-kind.ensures.only column.kind (field (set_text column.set) 9 ++ (field (key_text column.key) 10 ++ rest)) lawful.kind name.1 in
    let set = c.in_ok-character_set.ensures.only column.set (field (key_text column.key) 10 ++ rest) lawful.set kind.1 in
    let key = c.in_ok-key.ensures.only column.key rest set.1 in
    ((λ i. record { name = name.0 i; kind = kind.0 i; set = set.0 i; key = key.0 i }), key.1)

pub returns-in_err-key-clause-only : goal.returns-in_err-key-clause-only
returns-in_err-key-clause-only c column rest lawful e =
    let name = c.in_ok-name.ensures.only column.name (field (column_type_text column.kind) 9 ++ (field (set_text column.set) 9 ++ (field (key_text column.key) 10 ++ rest))) lawful.name (e ∙ spread (field column.name 9) (field (column_type_text column.kind) 9) (field (set_text column.set) 9) (field (key_text column.key) 10) rest) in
    let kind = c.in_ok-kind.ensures.only column.kind (field (set_text column.set) 9 ++ (field (key_text column.key) 10 ++ rest)) lawful.kind name.1 in
    let set = c.in_ok-character_set.ensures.only column.set (field (key_text column.key) 10 ++ rest) lawful.set kind.1 in
    let p = err_from_is_err_and c.from_residual-in_err-key.result c.from_residual-in_err-key.ensures.1 in
    rw (p.1, p.2) (c.in_err-key.ensures.only column.key rest set.1)

pub returns-in_err-key-clause-fault : goal.returns-in_err-key-clause-fault
returns-in_err-key-clause-fault c =
    let p = err_from_is_err_and c.from_residual-in_err-key.result c.from_residual-in_err-key.ensures.1 in
    rw (p.1, p.2) (at_key c.args.text.now (string_bytes c.in_ok-name.name) c.in_ok-name.rest.now (column_type_text (type_value c.in_ok-kind.kind)) c.in_ok-kind.rest.now
    (set_text (option_bytes c.in_ok-character_set.character_set)) c.in_ok-character_set.rest.now _ c.in_ok-name.ensures.found c.in_ok-kind.ensures.found c.in_ok-character_set.ensures.found c.in_err-key.ensures.fault)

pub returns-then-not-fits_set-clause-fault : goal.returns-then-not-fits_set-clause-fault
returns-then-not-fits_set-clause-fault c =
    let name = field (string_bytes c.in_ok-name.name) 9 in
    let kind = field (column_type_text (type_value c.in_ok-kind.kind)) 9 in
    let set = field (set_text (option_bytes c.in_ok-character_set.character_set)) 9 in
    let given = c.is_some.ensures ∙ same_given c.in_ok-character_set.character_set (option_bytes c.in_ok-character_set.character_set) refl in (
      record { name = string_bytes c.in_ok-name.name; kind = type_value c.in_ok-kind.kind; set = option_bytes c.in_ok-character_set.character_set; key = c.in_ok-key.key },
      c.in_ok-key.rest.now,
      c.in_ok-name.ensures.found ∙ (λ i. name ++ (c.in_ok-kind.ensures.found ∙ (λ j. kind ++ (c.in_ok-character_set.ensures.found ∙ (λ k. set ++ c.in_ok-key.ensures.found k)) j)) i)
          ∙ sym (spread name kind set (field (key_text c.in_ok-key.key) 10) c.in_ok-key.rest.now),
      λ fits. never (c.if-not-fits_set.ensures.1 (rw given fits)),
    )
