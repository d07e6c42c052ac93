use Rattle.replica.proofs.FilterSkips.{all_changes, whole_or_not, read_parts, unread_parts}
use Rattle.replica.proofs.laws.filtered.Goals as goal

pub returns : goal.returns
returns c = record {
  all = all_changes;
  read = λ names script schema table read. read_parts names schema table script.parts read;
  unread = λ names script schema table unread. unread_parts names schema table script.parts unread;
  taken = whole_or_not;
}
