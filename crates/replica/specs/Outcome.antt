-- Ends of connections: which of them are equal, and that there is one.
use Rattle.std.specs.Prelude.{◌≡◌, ℕ, false, List, Option, Some, None}
use Rattle.binlog.specs.Filter.{Names}
use Rattle.store.specs.State.{Content}
use Rattle.replica.specs.declared.session.end.Refusal.{Refusal}
use Rattle.replica.specs.declared.session.end.Reason.{Reason}
use Rattle.replica.specs.declared.session.end.Reason.TheVariants.{Refused}
use Rattle.replica.specs.declared.session.end.Ended.{Ended}
use Rattle.replica.specs.Report.{report_of}
use Rattle.replica.specs.Conn.{Conn}
use Rattle.replica.specs.Follow.{IsInFull}

-- the refusal of a transaction, if that is the reason
abbrev pub refused_by : Reason → Option Refusal
refused_by (Refused refusal) = Some refusal
refused_by _ = None

-- The same end, wherever a message of the source is held in memory.
pub record IsSameEnd (end last : Ended) : Type 0 where
  pub reported : report_of end.reason ≡ report_of last.reason
  pub refused : refused_by end.reason ≡ refused_by last.reason
  pub at : end.at ≡ last.at
  pub applied : end.applied ≡ last.applied

-- A connection with these bytes, for a store that had not failed, leads from old to some content, and ends by its bytes
-- or by a transaction that is refused.
pub record HasEnd (limit : ℕ) (names : Names) (old : Content) (b : List ℕ) : Type 0 where
  pub new : Content
  pub end : Ended
  pub in_full : IsInFull end.reason
  pub conn : Conn limit names false old b new end
