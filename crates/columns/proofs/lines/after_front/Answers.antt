use Rattle.columns.proofs.Names.{ap, sym, ◌∙◌, take, length, take-append_seam, other_text}
use Rattle.columns.proofs.Ahead.{not_not}
use Rattle.columns.proofs.lines.after_front.Goals as goal

pub returns-then-ne-clause-none : goal.returns-then-ne-clause-none
returns-then-ne-clause-none c rest e =
    let same = c.split_at.ensures.front ∙ ap (take (length c.args.front.now)) e ∙ take-append_seam c.args.front.now rest in
    other_text c.split_at.result.0.now c.args.front.now (sym (not_not _ c.if-ne.ensures)) same
