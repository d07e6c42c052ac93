-- What the end of a connection reports of its bytes, apart from the memory that holds it.
use Rattle.wire.specs.declared.fault.WireFault.{WireFault}
use Rattle.greet.specs.Refusal.{Refusal, server_error, protocol, truncated, capabilities, plugin, old_auth, unexpected}
use Rattle.greet.specs.declared.fault.GreetFault.{GreetFault}
use Rattle.greet.specs.declared.fault.GreetFault.TheVariants as greet
use Rattle.binlog.specs.declared.fault.EventFault.{EventFault}
use Rattle.gather.specs.declared.fault.GatherFault.{GatherFault}
use Rattle.replica.specs.declared.session.end.Reason.{Reason}
use Rattle.replica.specs.declared.session.end.Reason.TheVariants.{EndOfInput, SourceEof, SourceError, Wire, Greet, Event, Gather}

-- What a payload that ends the connection means: the log ends; the payload is not the expected message; its event has a
-- fault, or may not follow those before it.
pub data Verdict : Type 0 where
  EndsLog : Verdict
  IsRefused : Refusal → Verdict
  HasFault : EventFault → Verdict
  IsOutOfOrder : GatherFault → Verdict

-- No payload is whole; a header is wrong, or the payload ends too far on; or this is what the next payload means.
pub data Report : Type 0 where
  Nothing : Report
  IsWrongHeader : WireFault → Report
  Says : Verdict → Report

-- the refusal of a message with this fault; the last two do not come in a reason Greet: an ERR is SourceError, running out of memory
-- is Memory
abbrev pub reported_refusal : GreetFault → Refusal
reported_refusal (greet.Protocol byte) = protocol byte
reported_refusal greet.Truncated = truncated
reported_refusal (greet.Capabilities bits) = capabilities bits
reported_refusal greet.Plugin = plugin
reported_refusal greet.OldAuth = old_auth
reported_refusal (greet.Unexpected byte) = unexpected byte
reported_refusal (greet.ServerError code state message) = server_error code state message.items
reported_refusal greet.Memory = truncated

-- what a reason reports of the bytes; the last ones are not caused by them
abbrev pub report_of : Reason → Report
report_of EndOfInput = Nothing
report_of SourceEof = Says EndsLog
report_of (SourceError code state message) = Says (IsRefused (server_error code state message.items))
report_of (Wire fault) = IsWrongHeader fault
report_of (Greet fault) = Says (IsRefused (reported_refusal fault))
report_of (Event fault) = Says (HasFault fault)
report_of (Gather fault) = Says (IsOutOfOrder fault)
report_of _ = Nothing
