use Rattle.gtid.proofs.Names.{◌∙◌, ap, sym, true≢false, has}
use Rattle.gtid.proofs.GroupLookUp.{any_default, ascend_set, listed_at, listed_gap, same_set}
use Rattle.gtid.proofs.groups.reserve.Goals as goal

pub returns-in_err-reserve-in-Ok-clause-ascend : goal.returns-in_err-reserve-in-Ok-clause-ascend
returns-in_err-reserve-in-Ok-clause-ascend c =
    let found = rw c.deref.ensures.value at c.in-Ok.ensures.found in
    ascend_set c.args.groups.now.items c.in-Ok.at c.index_mut.result.now c.reserve.new.self found.0 c.index_mut.ensures.value c.reserve.ensures.source c.requires.ascend

pub returns-in_err-reserve-in-Ok-clause-same : goal.returns-in_err-reserve-in-Ok-clause-same
returns-in_err-reserve-in-Ok-clause-same c =
    same_set c.args.groups.now.items c.in-Ok.at c.index_mut.result.now c.reserve.new.self c.args.gtid.source (rw c.deref.ensures.value at c.in-Ok.ensures.found) c.index_mut.ensures.value c.reserve.ensures.source c.reserve.ensures.same

pub returns-in_ok-reserve-in-Ok-clause-ascend : goal.returns-in_ok-reserve-in-Ok-clause-ascend
returns-in_ok-reserve-in-Ok-clause-ascend c =
    let found = rw c.deref.ensures.value at c.in-Ok.ensures.found in
    ascend_set c.args.groups.now.items c.in-Ok.at c.index_mut.result.now c.reserve.new.self found.0 c.index_mut.ensures.value c.reserve.ensures.source c.requires.ascend

pub returns-in_ok-reserve-in-Ok-clause-same : goal.returns-in_ok-reserve-in-Ok-clause-same
returns-in_ok-reserve-in-Ok-clause-same c =
    same_set c.args.groups.now.items c.in-Ok.at c.index_mut.result.now c.reserve.new.self c.args.gtid.source (rw c.deref.ensures.value at c.in-Ok.ensures.found) c.index_mut.ensures.value c.reserve.ensures.source c.reserve.ensures.same

pub returns-in_default-clause-there : goal.returns-in_default-clause-there
returns-in_default-clause-there c =
    let groups = c.args.groups.now.items in
    let g = c.index.result.now in
    let found = rw c.deref.ensures.value at c.in-Ok.ensures.found in
    let at = any_default groups c.in-Ok.at g found.0 c.index.ensures in
    let listed = listed_at groups c.in-Ok.at g c.args.gtid.source c.requires.ascend found.0 at (ap (λ x. x.source) (sym (at g)) ∙ found.1 g) c.args.gtid.number ∙ ap (λ l. has l c.args.gtid.number) (sym c.deref-in-Ok.ensures.value) in
    listed ∙ c.in_default.ensures.none

pub returns-in_err-reserve-in-Ok-clause-known : goal.returns-in_err-reserve-in-Ok-clause-known
returns-in_err-reserve-in-Ok-clause-known c known =
    let groups = c.args.groups.now.items in
    let g = c.index.result.now in
    let found = rw c.deref.ensures.value at c.in-Ok.ensures.found in
    let at = any_default groups c.in-Ok.at g found.0 c.index.ensures in
    let listed = listed_at groups c.in-Ok.at g c.args.gtid.source c.requires.ascend found.0 at (ap (λ x. x.source) (sym (at g)) ∙ found.1 g) c.args.gtid.number ∙ ap (λ l. has l c.args.gtid.number) (sym c.deref-in-Ok.ensures.value) in
    absurd (true≢false (sym known ∙ listed ∙ c.in-Some.ensures.some.new))

pub returns-in_ok-reserve-in-Ok-clause-known : goal.returns-in_ok-reserve-in-Ok-clause-known
returns-in_ok-reserve-in-Ok-clause-known c known =
    let groups = c.args.groups.now.items in
    let g = c.index.result.now in
    let found = rw c.deref.ensures.value at c.in-Ok.ensures.found in
    let at = any_default groups c.in-Ok.at g found.0 c.index.ensures in
    let listed = listed_at groups c.in-Ok.at g c.args.gtid.source c.requires.ascend found.0 at (ap (λ x. x.source) (sym (at g)) ∙ found.1 g) c.args.gtid.number ∙ ap (λ l. has l c.args.gtid.number) (sym c.deref-in-Ok.ensures.value) in
    absurd (true≢false (sym known ∙ listed ∙ c.in-Some.ensures.some.new))

pub returns-in_err-group-in-Err-clause-known : goal.returns-in_err-group-in-Err-clause-known
returns-in_err-group-in-Err-clause-known c known =
    absurd (true≢false (sym known ∙ listed_gap c.args.groups.now.items c.in-Err.at c.args.gtid.source (rw c.deref.ensures.value at c.in-Err.ensures.absent) c.args.gtid.number))

pub returns-in_err-reserve-in-Err-clause-known : goal.returns-in_err-reserve-in-Err-clause-known
returns-in_err-reserve-in-Err-clause-known c known =
    absurd (true≢false (sym known ∙ listed_gap c.args.groups.now.items c.in-Err.at c.args.gtid.source (rw c.deref.ensures.value at c.in-Err.ensures.absent) c.args.gtid.number))

pub returns-in_ok-reserve-in-Err-clause-known : goal.returns-in_ok-reserve-in-Err-clause-known
returns-in_ok-reserve-in-Err-clause-known c known =
    absurd (true≢false (sym known ∙ listed_gap c.args.groups.now.items c.in-Err.at c.args.gtid.source (rw c.deref.ensures.value at c.in-Err.ensures.absent) c.args.gtid.number))

pub returns-in_err-reserve-in-Ok-clause-near : goal.returns-in_err-reserve-in-Ok-clause-near
returns-in_err-reserve-in-Ok-clause-near c n beside one =
    let groups = c.args.groups.now.items in
    let old = c.index_mut.result.now in
    let found = rw c.deref.ensures.value at c.in-Ok.ensures.found in
    let at = any_default groups c.in-Ok.at old found.0 c.index_mut.ensures.value in
    let listed = listed_at groups c.in-Ok.at old c.args.gtid.source c.requires.ascend found.0 at (ap (λ x. x.source) (sym (at old)) ∙ found.1 old) n in
    absurd (true≢false (sym (c.in_err-reserve-in-Ok.ensures.near n beside (sym listed ∙ one))))

pub returns-in_err-group-in-Err-clause-near : goal.returns-in_err-group-in-Err-clause-near
returns-in_err-group-in-Err-clause-near c n beside one =
    absurd (true≢false (sym one ∙ listed_gap c.args.groups.now.items c.in-Err.at c.args.gtid.source (rw c.deref.ensures.value at c.in-Err.ensures.absent) n))

pub returns-in_err-reserve-in-Err-clause-near : goal.returns-in_err-reserve-in-Err-clause-near
returns-in_err-reserve-in-Err-clause-near c n beside one =
    absurd (true≢false (sym one ∙ listed_gap c.args.groups.now.items c.in-Err.at c.args.gtid.source (rw c.deref.ensures.value at c.in-Err.ensures.absent) n))
