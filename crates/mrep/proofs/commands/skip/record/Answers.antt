use Rattle.std.proofs.Common.{None, map, subst}
use Rattle.std.specs.FinSet as set
use Rattle.sqlite_wal.specs.Files.{image_at}
use Rattle.gather.specs.Given.{listed}
use Rattle.gather.specs.View.{delivery_value}
use Rattle.replica.specs.ChangeFile.{ChangesFile}
use Rattle.replica.specs.File.{OfHeld}
use Rattle.mrep.proofs.commands.skip.record.Goals as goal

pub returns-in-Ok : goal.returns-in-Ok
returns-in-Ok g c = record {
  records =
      let made = c.in_ok-list.ensures.listed in
      let none = c.new-none.ensures in
      subst (λ ds. OfHeld None (image_at g.P.Start) (λ names content. ChangesFile (listed ds) names content set.empty c.in-Ok.done)) made
      (subst (λ ids. OfHeld None (image_at g.P.Start) (λ names content. ChangesFile (listed (map delivery_value c.in_ok-list.list.items)) names content ids c.in-Ok.done)) none c.in-Ok.ensures.changes);
}
