use Rattle.std.proofs.Common.{ap, sym, ◌∙◌}
use Rattle.gtid.specs.Encoding.{blocks_bytes, grouped}
use Rattle.gtid.proofs.OneLeastList.{one_least_list}
use Rattle.gtid.proofs.laws.one_encoding.Goals as goal

pub returns : goal.returns
returns c ids a b is_a is_b = is_a.spelled ∙ ap (λ spans. blocks_bytes (grouped spans)) (one_least_list ids is_a.spans is_b.spans is_a.least is_b.least) ∙ sym is_b.spelled
