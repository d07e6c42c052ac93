use Rattle.gtid.proofs.Names.{◌≡◌, ◌∙◌, not, nat_eq, IfOk, ap, sym, subst, true≢false, on_err_weaker, Ascend}
use Rattle.std.proofs.lemmas.Result.{on_ok_weaker}
use Rattle.gtid.specs.Group.{sources}
use Rattle.gtid.proofs.GroupLookUp.{ascend_set, listed_set, listed_same, listed_at, listed_gap, listed_insert, ascend_insert, any_default}
use Rattle.gtid.proofs.groups.insert.Goals as goal

pub returns-in-Ok-clause-ascend : goal.returns-in-Ok-clause-ascend
returns-in-Ok-clause-ascend c =
    let found = rw c.deref.ensures.value at c.in-Ok.ensures.found in
    ascend_set c.args.groups.now.items c.in-Ok.at c.index_mut.result.now c.insert.new.self found.0 c.index_mut.ensures.value c.insert.ensures.source c.requires.ascend

pub returns-in-Ok-clause-answer : goal.returns-in-Ok-clause-answer
returns-in-Ok-clause-answer c =
    let found = rw c.deref.ensures.value at c.in-Ok.ensures.found in
    let old = c.index_mut.result.now in
    let at = any_default c.args.groups.now.items c.in-Ok.at old found.0 c.index_mut.ensures.value in
    subst (λ b. IfOk c.insert.result (λ new. new ≡ not b))
    (sym (listed_at c.args.groups.now.items c.in-Ok.at old c.args.gtid.source c.requires.ascend found.0 at (ap (λ g. g.source) (sym (at old)) ∙ found.1 old) c.args.gtid.number))
    c.insert.ensures.answer

pub returns-in-Ok-clause-ok : goal.returns-in-Ok-clause-ok
returns-in-Ok-clause-ok c =
    let found = rw c.deref.ensures.value at c.in-Ok.ensures.found in
    let old = c.index_mut.result.now in
    let at = any_default c.args.groups.now.items c.in-Ok.at old found.0 c.index_mut.ensures.value in
    let same = ap (λ g. g.source) (sym (at old)) ∙ found.1 old in
    on_ok_weaker c.insert.result (λ adds. listed_set c.args.groups.now.items c.in-Ok.at old c.insert.new.self c.args.gtid.source (λ n. nat_eq n c.args.gtid.number) found.0 at same
    (c.insert.ensures.source ∙ same) adds) c.insert.ensures.ok

pub returns-in-Ok-clause-there : goal.returns-in-Ok-clause-there
returns-in-Ok-clause-there c there =
    let found = rw c.deref.ensures.value at c.in-Ok.ensures.found in
    let old = c.index_mut.result.now in
    let at = any_default c.args.groups.now.items c.in-Ok.at old found.0 c.index_mut.ensures.value in
    c.insert.ensures.there
    (sym (listed_at c.args.groups.now.items c.in-Ok.at old c.args.gtid.source c.requires.ascend found.0 at (ap (λ g. g.source) (sym (at old)) ∙ found.1 old) c.args.gtid.number) ∙ there)

pub returns-in-Ok-clause-err : goal.returns-in-Ok-clause-err
returns-in-Ok-clause-err c =
    let found = rw c.deref.ensures.value at c.in-Ok.ensures.found in
    let old = c.index_mut.result.now in
    let at = any_default c.args.groups.now.items c.in-Ok.at old found.0 c.index_mut.ensures.value in
    let same = ap (λ g. g.source) (sym (at old)) ∙ found.1 old in
    on_err_weaker c.insert.result (λ kept. (kept.0, listed_same c.args.groups.now.items c.in-Ok.at old c.insert.new.self c.args.gtid.source found.0 at same (c.insert.ensures.source ∙ same) kept.1)) c.insert.ensures.err

pub returns-in_err-group-in-Err-clause-there : goal.returns-in_err-group-in-Err-clause-there
returns-in_err-group-in-Err-clause-there c there =
    absurd (true≢false (sym there ∙ listed_gap c.args.groups.now.items c.in-Err.at c.args.gtid.source (rw c.deref.ensures.value at c.in-Err.ensures.absent) c.args.gtid.number))

pub returns-in_err-insert-in-Err-clause-there : goal.returns-in_err-insert-in-Err-clause-there
returns-in_err-insert-in-Err-clause-there c there =
    absurd (true≢false (sym there ∙ listed_gap c.args.groups.now.items c.in-Err.at c.args.gtid.source (rw c.deref.ensures.value at c.in-Err.ensures.absent) c.args.gtid.number))

pub returns-in_ok-insert-in-Err-clause-ascend : goal.returns-in_ok-insert-in-Err-clause-ascend
returns-in_ok-insert-in-Err-clause-ascend c =
    let gap = rw c.deref.ensures.value at c.in-Err.ensures.absent in
    subst (λ gs. Ascend (sources gs)) (sym c.in_ok-insert-in-Err.ensures.items)
    (ascend_insert c.args.groups.now.items c.in-Err.at c.in_ok-group-in-Err.group c.args.gtid.source c.requires.ascend gap c.in_ok-group-in-Err.ensures.source)

pub returns-in_ok-insert-in-Err-clause-answer : goal.returns-in_ok-insert-in-Err-clause-answer
returns-in_ok-insert-in-Err-clause-answer c =
    sym (ap not (listed_gap c.args.groups.now.items c.in-Err.at c.args.gtid.source (rw c.deref.ensures.value at c.in-Err.ensures.absent) c.args.gtid.number))

pub returns-in_ok-insert-in-Err-clause-ok : goal.returns-in_ok-insert-in-Err-clause-ok
returns-in_ok-insert-in-Err-clause-ok c =
    listed_insert c.args.groups.now.items c.in-Err.at c.in_ok-group-in-Err.group c.args.gtid.source c.args.gtid.number c.in_ok-group-in-Err.ensures.source c.in_ok-group-in-Err.ensures.numbers
    c.insert-in-Err.new.self.items c.in_ok-insert-in-Err.ensures.items

pub returns-in_ok-insert-in-Err-clause-there : goal.returns-in_ok-insert-in-Err-clause-there
returns-in_ok-insert-in-Err-clause-there c there =
    absurd (true≢false (sym there ∙ listed_gap c.args.groups.now.items c.in-Err.at c.args.gtid.source (rw c.deref.ensures.value at c.in-Err.ensures.absent) c.args.gtid.number))

pub returns-in-Ok-clause-near : goal.returns-in-Ok-clause-near
returns-in-Ok-clause-near c n beside one =
    let found = rw c.deref.ensures.value at c.in-Ok.ensures.found in
    let old = c.index_mut.result.now in
    let at = any_default c.args.groups.now.items c.in-Ok.at old found.0 c.index_mut.ensures.value in
    c.insert.ensures.near n beside
    (sym (listed_at c.args.groups.now.items c.in-Ok.at old c.args.gtid.source c.requires.ascend found.0 at (ap (λ g. g.source) (sym (at old)) ∙ found.1 old) n) ∙ one)

pub returns-in_err-group-in-Err-clause-near : goal.returns-in_err-group-in-Err-clause-near
returns-in_err-group-in-Err-clause-near c n beside one =
    absurd (true≢false (sym one ∙ listed_gap c.args.groups.now.items c.in-Err.at c.args.gtid.source (rw c.deref.ensures.value at c.in-Err.ensures.absent) n))

pub returns-in_err-insert-in-Err-clause-near : goal.returns-in_err-insert-in-Err-clause-near
returns-in_err-insert-in-Err-clause-near c n beside one =
    absurd (true≢false (sym one ∙ listed_gap c.args.groups.now.items c.in-Err.at c.args.gtid.source (rw c.deref.ensures.value at c.in-Err.ensures.absent) n))
