use Rattle.gather.proofs.Names.{Some, ap, sym, ◌∙◌, on_ok_weaker, rows_value}
use Rattle.gather.proofs.Maps.{reported, keeps_other, adds_rows, maps_stay}
use Rattle.gather.proofs.open_transaction.OpenTransaction.take_rows.Goals as goal

pub returns-in-Some-None-clause-keeps : goal.returns-in-Some-None-clause-keeps
returns-in-Some-None-clause-keeps c = λ body keeps.
    keeps_other body c.args.self.now (rows_value c.args.event.now) keeps (sym c.in-Some-None.ensures.value ∙ ap Some c.in-Some-None.field-0-is)

pub returns-in-Some-Some-clause-keeps : goal.returns-in-Some-Some-clause-keeps
returns-in-Some-Some-clause-keeps c = λ body keeps.
    let r = rows_value c.args.event.now in
    let kept = sym c.in-Some-Some.ensures.value ∙ ap Some c.in-Some-Some.field-0-is in
    on_ok_weaker c.push_changes.result
    (λ adds. record {
      maps = maps_stay body c.args.self.now r keeps;
      changes = adds_rows body c.args.self.now r c.in-Some-Some.table _ keeps kept adds;
    })
    (c.push_changes.ensures.ok c.args.event.now.id)

pub returns-in-Some-Some-clause-fault : goal.returns-in-Some-Some-clause-fault
returns-in-Some-Some-clause-fault c = λ body keeps.
    let said = reported body c.args.self.now c.args.event.now.id (Some c.in-Some-Some.table) keeps (sym c.in-Some-Some.ensures.value ∙ ap Some c.in-Some-Some.field-0-is) in
    rw said (c.push_changes.ensures.fault c.args.event.now.id)

pub returns-in-None-clause-memory : goal.returns-in-None-clause-memory
returns-in-None-clause-memory c = λ body keeps wanted. absurd cc

pub returns-in-Some-Some-clause-memory : goal.returns-in-Some-Some-clause-memory
returns-in-Some-Some-clause-memory c = λ body keeps.
    let said = reported body c.args.self.now c.args.event.now.id (Some c.in-Some-Some.table) keeps (sym c.in-Some-Some.ensures.value ∙ ap Some c.in-Some-Some.field-0-is) in
    rw said (c.push_changes.ensures.memory c.args.event.now.id)
