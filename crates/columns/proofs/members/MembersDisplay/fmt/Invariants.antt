use Rattle.columns.proofs.Names.{take, flat_map, HasWritten, IsPlainFormatter, member_bytes}
use Rattle.columns.proofs.MemberLists.{item}
use Rattle.columns.proofs.members.MembersDisplay.fmt.Given as goal

abbrev pub invariant-loop-member : goal.invariant-loop-member
invariant-loop-member g l =
    IsPlainFormatter l.initial.f → HasWritten g.W.Write.write_str_gives l.initial.f (flat_map item (member_bytes (take l.member-index l.others))) l.f
