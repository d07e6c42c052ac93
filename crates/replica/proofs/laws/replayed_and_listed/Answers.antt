use Rattle.sqlite_trees.specs.View.{IsClean}
use Rattle.sqlite_store.specs.FileStore.{view}
use Rattle.replica.specs.Capture.{Reads}
use Rattle.replica.specs.Replay.{MayLeave}
use Rattle.replica.specs.Work.{WorksInFiles}
use Rattle.replica.proofs.ListedAgain.{listed_again}
use Rattle.replica.proofs.laws.replayed_and_listed.Goals as goal

pub returns : goal.returns
returns g c limit wanted only first next none replays works =
    listed_again g.D.Disk g.R.Read.remaining limit wanted only first next c.args._captures.now
    (λ names content. WorksInFiles names (g.K.Work.leads c.args._was.now c.args._is.now names content c.args._made.now.done) (g.K.Work.leaves c.args._was.now c.args._is.now names content c.args._made.now.done) c.args._made.now.closed)
    (λ names content e ends read. IsClean (view e.1) → Reads g.R.Read.remaining (MayLeave g.D.Disk limit names content e.1) c.args._captures.now ends read)
    c.args._replayed.now.ends.items c.args._replayed.now.read c.args._replayed.now.closed none replays works
