use Rattle.gather.proofs.Names.{◌≡◌, ◌-◌, are_images}
use Rattle.gather.proofs.image_check.are_images.Given as goal

abbrev pub invariant-loop : goal.invariant-loop
invariant-loop l = are_images l.count l.bytes ≡ are_images (l.count - l.counter) l.left
