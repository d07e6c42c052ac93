use Rattle.std.proofs.Common.{[], arith, ap, length, take, flat_map}
use Rattle.std.proofs.lemmas.List.{length-append}
use Rattle.greet.proofs.PartLists.{parts_fit}
use Rattle.greet.proofs.parts.append.Goals as goal

pub unwrap-requires : goal.unwrap-requires
unwrap-requires c =
    let fits = parts_fit (λ (part : _). part.now) c.args.parts.now c.loop-part.part-index (record { ref_ptr = (0, 0); now = [] }) c.loop-part-test.true in
    let so_far = length-append c.args.out.now.items (flat_map (λ part. part.now) (take c.loop-part.part-index c.args.parts.now)) in
    c.extend_from_slice.ensures.succeeds (omega (arith, fits, ap length c.loop-part.invariant.0, c.loop-part.invariant.1, so_far))
