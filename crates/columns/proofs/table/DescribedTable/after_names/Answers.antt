use Rattle.columns.proofs.Names.{◌++◌, ◌∙◌, sym, string_bytes}
use Rattle.columns.specs.Lines.{field}
use Rattle.columns.proofs.NameCodes.{behind_first}
use Rattle.columns.proofs.table.DescribedTable.after_names.Goals as goal

pub returns-in_err-rest-clause-none : goal.returns-in_err-rest-clause-none
returns-in_err-rest-clause-none c =
    rw c.from_residual-in_err-rest.ensures (λ rest e.
    c.in_err-rest.ensures.none rest (behind_first (field (string_bytes c.args.self.now.schema) 9) (field (string_bytes c.args.self.now.name) 9) c.args.line.now c.in_ok-behind.behind.now rest
    (c.in_ok-behind.ensures.some ∙ (λ i. field (c.as_bytes.ensures.value i) 9 ++ c.in_ok-behind.behind.now)) e ∙ (λ i. field (sym c.as_bytes-2.ensures.value i) 9 ++ rest)))
