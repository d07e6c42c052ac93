use Rattle.gtid.proofs.Names.{inl, inr, arith, take_rest}
use Rattle.std.proofs.lemmas.Bool.{ltb-true}
use Rattle.gtid.proofs.IntervalUnion.{cut_from_start, cut_on, piece_on, cut_all}
use Rattle.gtid.proofs.combination.difference.Goals as goal
use Rattle.gtid.proofs.combination.difference.Goals.{in_default-cuts-via-then-cuts-lt1, in_default-cuts-via-in-len1-up-cuts+else-cut-piece}

pub loop-pieces-init : goal.loop-pieces-init
loop-pieces-init c = cut_from_start c.requires.left c.requires.right c.in_ok-kept.ensures.items

pub loop-pieces-preserved-then-cut-piece : goal.loop-pieces-preserved-then-cut-piece
loop-pieces-preserved-then-cut-piece c =
    let e = c.in_ok-push_some-in-len1-up-cuts.ensures in
    rw take_rest
    (cut_on c.loop-pieces.pieces.now c.loop-pieces.cuts.now c.max-lo.result (record { lo = 0; hi = 0 }) c.loop-pieces.invariant c.in-len1-up.len_at_least c.in-len1-up-cuts.len_at_least
    c.if-cut-piece.true c.max-lo.ensures (record { least = e.least; same = e.ok }))

pub loop-pieces-preserved : goal.loop-pieces-preserved
loop-pieces-preserved c =
    let e = c.in_ok-push_some-in_default-cuts.ensures in
    rw take_rest
    (piece_on c.loop-pieces.pieces.now c.loop-pieces.cuts.now c.max-lo.result (record { lo = 0; hi = 0 }) c.loop-pieces.invariant c.in-len1-up.len_at_least
    (elim c.in_default-cuts.branch [ in_default-cuts-via-then-cuts-lt1 w ↦ inl (omega (arith, ltb-true)) | in_default-cuts-via-in-len1-up-cuts+else-cut-piece w ↦ inr w.if-cut-piece.false ])
    c.max-lo.ensures (record { least = e.least; same = e.ok }))

pub returns-clause-least : goal.returns-clause-least
returns-clause-least c = (cut_all c.loop-pieces.pieces.now c.loop-pieces.cuts.now c.loop-pieces.invariant c.in_default.len_below).0

pub returns-clause-ok : goal.returns-clause-ok
returns-clause-ok c = (cut_all c.loop-pieces.pieces.now c.loop-pieces.cuts.now c.loop-pieces.invariant c.in_default.len_below).1
