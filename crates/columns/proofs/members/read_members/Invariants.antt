use Rattle.columns.proofs.Names.{◌≡◌, ◌<◌, ◌≤◌, ◌++◌, length, vec_len, AllByRecursion, Ends, AreBytes, members_front, member_bytes}
use Rattle.columns.specs.Members.{is_quote}
use Rattle.columns.proofs.members.read_members.Given as goal

abbrev pub invariant-loop-more : goal.invariant-loop-more
invariant-loop-more l = record {
  some : 0 < vec_len l.members;
  few : vec_len l.members ≤ l.most;
  text : l.text ≡ members_front (member_bytes l.members.items) ++ l.left;
  bytes : AllByRecursion AreBytes (member_bytes l.members.items);
  end : Ends is_quote l.left;
}

abbrev pub decreases-loop-more : goal.decreases-loop-more
decreases-loop-more l = length l.left
