-- What writing the cell of a field gives.
use Rattle.std.proofs.Common.{◌≡◌, ℕ, List, ◌++◌, Result, Ok, Err, refl, sym, subst, arith}
use Rattle.std.specs.Prelude.{IfOk, IfErr, OnOk, OnErr, MatchResult, ⊤}
use Rattle.binlog.specs.Cell.{CellValue}
use Rattle.binlog.specs.Cell.CellValue.{bytes_cell}
use Rattle.columns.specs.WrittenCells.{IsWritten}
use Rattle.columns.specs.Fields.{IsFormFault}
use Rattle.columns.specs.FieldReals.{IsRealFault}
use Rattle.columns.specs.FieldCells.{IsCellFieldFault, IsReal}
use Rattle.columns.specs.FieldWrites.{HasNone, WritesField}
use Rattle.columns.specs.declared.written_cell.WrittenCell.{WrittenCell}
use Rattle.columns.specs.declared.written_cell.WrittenCell.TheVariants.{Bytes}
use Rattle.columns.specs.declared.value.field_fault.FieldFault.{FieldFault}
use Rattle.columns.specs.declared.value.field_fault.FieldFault.TheVariants.{Text, Range, Memory}

-- a field that was refused
pub refused : (Is : CellValue → Type 0) (Form : List ℕ → Type 0) (field old : List ℕ) (fault : FieldFault) → IsFormFault Form field fault → HasNone Is →
    WritesField Is (Form field) (Err fault) old old
refused Is Form field old Text wrong none = (refl, none, wrong)
refused Is Form field old Range wrong none = (refl, none, wrong)
refused Is Form field old Memory wrong none = absurd wrong

-- no number
pub refused_real : (Is : CellValue → Type 0) (field old : List ℕ) (fault : FieldFault) → IsRealFault field fault → HasNone Is → WritesField Is (IsReal field) (Err fault) old old
refused_real Is field old Text wrong none = (refl, none, λ form. grind (arith, wrong, form))
refused_real Is field old Range wrong none = (refl, none, wrong)
refused_real Is field old Memory wrong none = absurd wrong

-- the bytes of a cell were appended, or memory was refused
pub written_field : {D E : Type 0} (Is : CellValue → Type 0) (Form : Type 0) (bytes old new : List ℕ) (done : Result D E) (result : Result WrittenCell FieldFault) →
    MatchResult done (λ _. result ≡ Ok Bytes) (λ _. result ≡ Err Memory) → OnOk done (new ≡ old ++ bytes) → OnErr done (new ≡ old) → Is (bytes_cell bytes) →
    WritesField Is Form result old new
written_field Is Form bytes old new (Ok value) result is ok err known =
    subst (λ (r : Result WrittenCell FieldFault). WritesField Is Form r old new) (sym is) (bytes_cell bytes, (bytes, ok, refl), known)
written_field Is Form bytes old new (Err error) result is ok err known = subst (λ (r : Result WrittenCell FieldFault). WritesField Is Form r old new) (sym is) err

-- what the caller is promised
pub gives_found : (Is : CellValue → Type 0) (Form : Type 0) (result : Result WrittenCell FieldFault) (old new : List ℕ) → WritesField Is Form result old new →
    IfOk result (λ made. (cell : CellValue) × IsWritten made old new cell × Is cell)
gives_found Is Form (Ok made) old new h = h
gives_found Is Form (Err fault) old new h = tt

pub gives_only : (Is : CellValue → Type 0) (Form : Type 0) (result : Result WrittenCell FieldFault) (old new : List ℕ) → WritesField Is Form result old new →
    (cell : CellValue) → Is cell → MatchResult result (λ _. ⊤) (λ fault. fault ≡ Memory)
gives_only Is Form (Ok made) old new h cell is = tt
gives_only Is Form (Err Text) old new h cell is = absurd (h.1 cell is)
gives_only Is Form (Err Range) old new h cell is = absurd (h.1 cell is)
gives_only Is Form (Err Memory) old new h cell is = refl

pub gives_kept : (Is : CellValue → Type 0) (Form : Type 0) (result : Result WrittenCell FieldFault) (old new : List ℕ) → WritesField Is Form result old new → OnErr result (new ≡ old)
gives_kept Is Form (Ok made) old new h = tt
gives_kept Is Form (Err Text) old new h = h.0
gives_kept Is Form (Err Range) old new h = h.0
gives_kept Is Form (Err Memory) old new h = h

pub gives_fault : (Is : CellValue → Type 0) (Form : Type 0) (result : Result WrittenCell FieldFault) (old new : List ℕ) → WritesField Is Form result old new → IfErr result (IsCellFieldFault Form)
gives_fault Is Form (Ok made) old new h = tt
gives_fault Is Form (Err Text) old new h = h.2
gives_fault Is Form (Err Range) old new h = h.2
gives_fault Is Form (Err Memory) old new h = tt
