use Rattle.replica.proofs.ClearStore.{image_copied}
use Rattle.replica.proofs.recorder.copy_image.Goals as goal

pub returns-in-Ok : goal.returns-in-Ok
returns-in-Ok c = image_copied c.in-Ok.copied c.args.image.now c.bytes.result.now c.in-Ok.ensures.found c.bytes.ensures
