use Rattle.gather.proofs.changes.push_pair.Goals as goal

pub returns-clause-ok : goal.returns-clause-ok
returns-clause-ok c = λ id. rw c.in_ok-table.ensures.cases at (c.append_pair.ensures.ok id)
