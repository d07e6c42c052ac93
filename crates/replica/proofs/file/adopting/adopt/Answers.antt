use Rattle.std.proofs.Common.{◌≡◌, true, false, ◌∙◌, subst}
use Rattle.std.specs.FinSet as set
use Rattle.replica.specs.Marks.{is_unfinished}
use Rattle.replica.proofs.LoadFiles.{unfinished_by}
use Rattle.replica.proofs.AdoptStore.{all_added, none_added, not_added, is_refused, would_begin, none_by, still_none_by}
use Rattle.replica.proofs.file.adopting.adopt.Goals as goal

pub returns-in_default-copy-clause-adopts : goal.returns-in_default-copy-clause-adopts
returns-in_default-copy-clause-adopts g c clean old holds = none_added g.S.Store (λ h db is_open may. g.met.S.Store.settled h.store db is_open may) c.args.store.now old c.args.gtids.now (none_by old c.executed.result.now (c.executed.ensures.value false old holds) c.in_default.ensures.none) holds

pub returns-in_default-subtract-clause-adopts : goal.returns-in_default-subtract-clause-adopts
returns-in_default-subtract-clause-adopts g c clean old holds = none_added g.S.Store (λ h db is_open may. g.met.S.Store.settled h.store db is_open may) c.args.store.now old c.args.gtids.now (none_by old c.executed.result.now (c.executed.ensures.value false old holds) c.in_default.ensures.none) holds

pub returns-in-Some-clause-adopts : goal.returns-in-Some-clause-adopts
returns-in-Some-clause-adopts g c clean old holds =
    is_refused g.S.Store (λ h db is_open may. g.met.S.Store.settled h.store db is_open may) c.args.store.now old c.args.gtids.now c.in-Some.source (unfinished_by old c.in-Some.source (c.executed.ensures.value false old holds) c.in-Some.ensures.some) holds

pub returns-in-Some-unfinished_with-clause-adopts : goal.returns-in-Some-unfinished_with-clause-adopts
returns-in-Some-unfinished_with-clause-adopts g c clean old holds =
    would_begin g.S.Store (λ h db is_open may. g.met.S.Store.settled h.store db is_open may) c.args.store.now old c.args.gtids.now c.in-Some-unfinished_with.source
    (none_by old c.executed.result.now (c.executed.ensures.value false old holds) c.in_default.ensures.none)
    (subst (λ x. is_unfinished (set.union x c.args.gtids.now) c.in-Some-unfinished_with.source ≡ true) (c.executed-2.ensures.value false old holds) c.in-Some-unfinished_with.ensures.some) holds

pub returns-in-Ok-adopt-clause-adopts : goal.returns-in-Ok-adopt-clause-adopts
returns-in-Ok-adopt-clause-adopts g c clean old holds =
    all_added g.S.Store (λ h db is_open may. g.met.S.Store.settled h.store db is_open may) c.adopt.new.self old c.args.gtids.now c.subtract.new.self
    (c.in-Ok-subtract.ensures.ok ∙ (λ i. set.difference (c.in-Ok.ensures.ok i) (c.executed-3.ensures.value false old holds i))) (none_by old c.executed.result.now (c.executed.ensures.value false old holds) c.in_default.ensures.none) (still_none_by old c.args.gtids.now c.executed-2.result.now (c.executed-2.ensures.value false old holds) c.in_default-unfinished_with.ensures.none (none_by old c.executed.result.now (c.executed.ensures.value false old holds) c.in_default.ensures.none)) (c.in-Ok-adopt.ensures.adopts clean old holds)

pub returns-in-Err-clause-adopts : goal.returns-in-Err-clause-adopts
returns-in-Err-clause-adopts g c clean old holds =
    not_added g.S.Store c.args.store.now c.adopt.new.self old c.args.gtids.now c.in-Err.fault c.adopt.ensures.rest.following (c.in-Err.ensures.adopts clean old holds) (c.in-Err.ensures.crash clean old holds) (none_by old c.executed.result.now (c.executed.ensures.value false old holds) c.in_default.ensures.none)
