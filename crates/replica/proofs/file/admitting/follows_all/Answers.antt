use Rattle.store.proofs.MoreNames.{no_names}
use Rattle.replica.proofs.file.admitting.follows_all.Goals as goal

pub returns : goal.returns
returns c = no_names c.names.result.now c.args.following.now c.names.ensures.set
