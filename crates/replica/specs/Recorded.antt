-- The notices that an observer has kept.
use Rattle.std.specs.Prelude.{Vec, true, List, map, Option, Some, None}
use Rattle.std.specs.declared.alloc.Global.{Global}
use Rattle.gather.specs.View.{delivery_value}
use Rattle.replica.specs.declared.recorder.Recorded.{Recorded}
use Rattle.replica.specs.declared.recorder.Recorded.TheVariants.{Opened, Connected, Before, After, Ended}
use Rattle.replica.specs.Noted.{Notice, opened, connected, before, after, ended}

-- the notice that was kept
abbrev pub notice_of : Recorded → Notice
notice_of (Opened executed) = opened executed
notice_of Connected = connected
notice_of (Before delivery) = before (delivery_value delivery)
notice_of (After delivery outcome) = after (delivery_value delivery) outcome
notice_of (Ended end) = ended end true

-- all of them, if none was lost
abbrev pub notices_in : Option (Vec Recorded Global) → Option (List Notice)
notices_in None = None
notices_in (Some kept) = Some (map notice_of kept.items)
