use Rattle.replica.proofs.file.close_file.Goals as goal

pub returns-clause-err : goal.returns-clause-err
returns-clause-err g c = rw c.close.ensures.same at c.close_files.ensures.err
