use Rattle.store.specs.Open.{nothing}
use Rattle.replica.specs.SourceLog.{IsKeptTable}
use Rattle.replica.proofs.SourceLogs.{log_applied, copy_loaded, copy_loading, cleared_at, given_up, skipped_at, adopted_at, marked_at, one_at, lost_at}
use Rattle.replica.proofs.laws.at_source.Goals as goal

pub returns-clause-applied : goal.returns-clause-applied
returns-clause-applied c names log old new part more n logged at of applies = log_applied names (IsKeptTable names) (λ schema table is. is) log nothing old part more n new logged at of applies

pub returns-clause-loaded : goal.returns-clause-loaded
returns-clause-loaded c names tables log old new ids first ds rows number n = copy_loaded names tables log old new ids first ds rows number n

pub returns-clause-cleared : goal.returns-clause-cleared
returns-clause-cleared c names log clear old new logged at is may cleared = cleared_at names clear log nothing old new logged at is may.to_be.fresh may.just cleared

pub returns-clause-skipped : goal.returns-clause-skipped
returns-clause-skipped c names log d old new logged at of none skipped = skipped_at names log nothing old new d logged at of none skipped

pub returns-clause-marked : goal.returns-clause-marked
returns-clause-marked c names log ids old copies at = marked_at (IsKeptTable names) log nothing old ids copies at

pub returns-clause-loading : goal.returns-clause-loading
returns-clause-loading c names tables log old mid ids first part more rows number n = copy_loading names tables log old mid ids first part more rows number n

pub returns-clause-given_up : goal.returns-clause-given_up
returns-clause-given_up c names tables log clear old new of_copy one at cleared = given_up names tables clear of_copy one log nothing old new at cleared

pub returns-clause-lost : goal.returns-clause-lost
returns-clause-lost c names log d old new after = lost_at names log d old new after

pub returns-clause-one : goal.returns-clause-one
returns-clause-one c names log a b logged at_a at_b same = one_at names log nothing a b logged at_a at_b same

pub returns-clause-adopted : goal.returns-clause-adopted
returns-clause-adopted c names log ds ids old = adopted_at names log ds ids old
