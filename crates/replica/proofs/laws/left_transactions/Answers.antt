use Rattle.replica.proofs.CrashPrefixes as lemma
use Rattle.replica.proofs.laws.left_transactions.Goals as goal

pub returns : goal.returns
returns c limit names was old b new end left = lemma.left_transactions limit names old b new end left was
