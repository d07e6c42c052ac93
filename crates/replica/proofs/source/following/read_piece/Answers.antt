use Rattle.replica.proofs.Keeps.{keeps_same, keeps_noticed, keeps_then}
use Rattle.replica.proofs.source.following.read_piece.Goals as goal

pub returns-in-Err-clause-keeps : goal.returns-in-Err-clause-keeps
returns-in-Err-clause-keeps g c = keeps_same g.S.Store

pub returns-in-Ok-eq0-clause-keeps : goal.returns-in-Ok-eq0-clause-keeps
returns-in-Ok-eq0-clause-keeps g c = keeps_same g.S.Store

pub returns-in-Ok-clause-keeps : goal.returns-in-Ok-clause-keeps
returns-in-Ok-clause-keeps g c =
    keeps_then g.S.Store (keeps_noticed g.S.Store c.received.ensures.noticed) c.feed_observed.ensures.keeps
