use Rattle.replica.proofs.RestartFiles.{files_never_fall, files_hold_all}
use Rattle.replica.proofs.laws.restarted_files.Goals as goal

pub returns-clause-never_falls : goal.returns-clause-never_falls
returns-clause-never_falls g c only names history j held before images reached hold starts = files_never_fall c.dumps.ensures.one _ _ _ only names history j held before images reached hold starts

pub returns-clause-whole : goal.returns-clause-whole
returns-clause-whole g c only names history j held before next reached hold start uncut = files_hold_all c.dumps.ensures.one _ _ _ only names history j held before next reached hold start uncut
