use Rattle.std.proofs.Common.{◌≡◌, length, ap, ◌∙◌, ◌==◌, arith}
use Rattle.std.specs.Vec.{vec_len}
use Rattle.gather.proofs.ImagePacking.{count_is}
use Rattle.gather.proofs.changes.Changes.is_empty.Goals as goal

pub returns : goal.returns
returns c =
    let same : vec_len c.self.inside.entries ≡ length c.args.self.now = omega (arith, count_is c.self.inside.entries.items c.self.inside.images.items, ap length c.self.view_is) in
    c.is_empty.ensures ∙ ap (λ n. n == 0) same
