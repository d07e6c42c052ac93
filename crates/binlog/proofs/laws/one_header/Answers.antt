use Rattle.binlog.proofs.Names.{get_or, nat_le, IsBytes-all}
use Rattle.std.proofs.Common.{drop}
use Rattle.binlog.proofs.Headers.{is_framed, stated, no_fault, one_frame}
use Rattle.binlog.proofs.laws.one_header.Goals as goal

pub returns-clause-some : goal.returns-clause-some
returns-clause-some c bytes all none = let s = stated bytes none in record { code = get_or bytes 4 0; may_ignore = nat_le 128 (get_or bytes 17 0); body = drop 19 bytes; framed = is_framed bytes (IsBytes-all bytes all) s.0 s.1 }

pub returns-clause-no_fault : goal.returns-clause-no_fault
returns-clause-no_fault c = no_fault

pub returns-clause-one : goal.returns-clause-one
returns-clause-one c = one_frame
