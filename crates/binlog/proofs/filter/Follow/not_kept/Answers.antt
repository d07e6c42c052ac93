use Rattle.binlog.proofs.Names.{ap, ◌∙◌, admits, name_cmp, name_list}
use Rattle.std.specs.FinSet as set
use Rattle.std.proofs.lemmas.Result.{IfOk-weaker}
use Rattle.binlog.specs.Filter.{Names, is_read}
use Rattle.binlog.proofs.Unkept.{none_kept, reads_asked}
use Rattle.binlog.proofs.filter.Follow.not_kept.Goals as goal

pub returns-clause-reads : goal.returns-clause-reads
returns-clause-reads c =
    let asked = name_list c.args.names.now in
    IfOk-weaker c.new.result _ _ (λ follow same schema table short.
    ap (λ (n : Names). is_read n schema table) (same ∙ ap (λ l. set.from_list {R = name_cmp} l) (ap name_list c.deref.ensures.value ∙ c.in_ok-unkept.ensures.ok)) ∙ reads_asked asked schema table short) c.new.ensures.ok

pub returns-clause-keeps : goal.returns-clause-keeps
returns-clause-keeps c =
    let asked = name_list c.args.names.now in
    IfOk-weaker c.new.result _ _ (λ follow same schema table short.
    ap (λ (n : Names). admits n schema table) (same ∙ ap (λ l. set.from_list {R = name_cmp} l) (ap name_list c.deref.ensures.value ∙ c.in_ok-unkept.ensures.ok)) ∙ none_kept asked schema table short) c.new.ensures.ok
