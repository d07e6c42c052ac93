use Rattle.replica.proofs.SourceLogs.{admitted_alone, admitted_beside, admitted_begun, found_begun}
use Rattle.replica.proofs.laws.admitted_at_source.Goals as goal

pub returns-clause-alone : goal.returns-clause-alone
returns-clause-alone c names more log old some has = admitted_alone names more some log old has

pub returns-clause-with_copy : goal.returns-clause-with_copy
returns-clause-with_copy c names more tables log old some has = admitted_beside names more some tables log old has

pub returns-clause-begun : goal.returns-clause-begun
returns-clause-begun c names tables log old ids first rows = admitted_begun names tables log old ids first rows

pub returns-clause-found : goal.returns-clause-found
returns-clause-found c old ids first = found_begun old ids first
