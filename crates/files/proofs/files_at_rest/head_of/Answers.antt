use Rattle.std.proofs.Common.{rules}
use Rattle.sqlite_wal.specs.Format.{part}
use Rattle.files.specs.Copying.{header_of}
use Rattle.files.proofs.files_at_rest.head_of.Goals as goal

pub returns-then-log-lt-WAL_HEADER : goal.returns-then-log-lt-WAL_HEADER
unfolding header_of
returns-then-log-lt-WAL_HEADER c = search rules

pub returns : goal.returns
unfolding header_of part
returns c = search rules
