use Rattle.replica.proofs.Notices.{all_applied, one_led}
use Rattle.replica.proofs.laws.led.Goals as goal

pub returns-clause-applied : goal.returns-clause-applied
returns-clause-applied c names old new notices l = all_applied names old notices new l

pub returns-clause-one : goal.returns-clause-one
returns-clause-one c names old new other notices l m = one_led names old notices new other l m
