use Rattle.gtid.proofs.Names.{ap, sym, ◌∙◌, has}
use Rattle.gtid.proofs.GroupLookUp.{any_default, listed_at, listed_gap}
use Rattle.gtid.proofs.Around.{among_at, among_gap}
use Rattle.gtid.proofs.groups.intervals_of.Goals as goal

pub returns-in-Ok-clause-listed : goal.returns-in-Ok-clause-listed
returns-in-Ok-clause-listed c n =
    let groups = c.args.groups.now in
    let g = c.index-groups-at.result in
    let found = c.in-Ok.ensures.found in
    let at = any_default groups c.in-Ok.at g found.0 c.index-groups-at.is in
    ap (λ is. has is n) (c.deref.ensures.value ∙ ap (λ x. x.intervals.items) (at g))
    ∙ sym (listed_at groups c.in-Ok.at g c.args.source.now c.requires found.0 at (ap (λ x. x.source) (sym (at g)) ∙ found.1 g) n)

pub returns-in-Err-clause-listed : goal.returns-in-Err-clause-listed
returns-in-Err-clause-listed c n = sym (listed_gap c.args.groups.now c.in-Err.field-0 c.args.source.now c.in-Err.ensures.absent n)

pub returns-in-Ok-clause-among : goal.returns-in-Ok-clause-among
returns-in-Ok-clause-among c =
    let groups = c.args.groups.now in
    let g = c.index-groups-at.result in
    let found = c.in-Ok.ensures.found in
    let at = any_default groups c.in-Ok.at g found.0 c.index-groups-at.is in
    among_at groups c.in-Ok.at g c.args.source.now c.deref.result.now c.requires found.0 at (ap (λ x. x.source) (sym (at g)) ∙ found.1 g) (c.deref.ensures.value ∙ ap (λ x. x.intervals.items) (at g))

pub returns-in-Err-clause-among : goal.returns-in-Err-clause-among
returns-in-Err-clause-among c = among_gap c.args.groups.now c.in-Err.field-0 c.args.source.now c.requires c.in-Err.ensures.absent
