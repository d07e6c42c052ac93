use Rattle.gtid.proofs.Names.{ap, sym, ◌∙◌, codes, join_by, block_text}
use Rattle.gtid.specs.Encoding.{grouped}
use Rattle.gtid.proofs.OneLeastList.{one_least_list}
use Rattle.gtid.proofs.laws.one_text.Goals as goal

pub returns : goal.returns
returns c ids a b is_a is_b =
    is_a.printed ∙ ap (λ spans. join_by block_text (codes ",") (grouped spans)) (one_least_list ids is_a.spans is_b.spans is_a.least is_b.least) ∙ sym is_b.printed
