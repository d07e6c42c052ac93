use Rattle.replica.proofs.Names.{false, refl, subst}
use Rattle.replica.specs.Admit.{IsNotAdmitted, MayAdmit}
use Rattle.replica.specs.declared.file.admitting.AdmitFault.TheVariants.{Failed}
use Rattle.store.specs.declared.fault.StoreFault.TheVariants as fault
use Rattle.replica.proofs.AdmitStore.{is_refused, is_admitted, not_admitted}
use Rattle.replica.proofs.file.admitting.admit.Goals as goal

pub returns-in-Some-clause-admits : goal.returns-in-Some-clause-admits
returns-in-Some-clause-admits g c clean old holds =
    is_refused g.S.Store c.args.store.now.following c.args.ask.now.tables.now c.args.ask.now.unkept.now c.args.ask.now.copy (λ h db is_open may. g.met.S.Store.settled h.store db is_open may) c.args.store.now old c.in-Some.why refl
    (subst (λ ids. IsNotAdmitted c.args.store.now.following ids c.args.ask.now.tables.now c.args.ask.now.copy c.in-Some.why) (c.executed.ensures.value false old holds) (rw c.following.ensures at c.in-Some.ensures.some)) holds

pub returns-in_default-begun_set-clause-admits : goal.returns-in_default-begun_set-clause-admits
returns-in_default-begun_set-clause-admits g c clean old holds =
    is_refused g.S.Store c.args.store.now.following c.args.ask.now.tables.now c.args.ask.now.unkept.now c.args.ask.now.copy (λ h db is_open may. g.met.S.Store.settled h.store db is_open may) c.args.store.now old (Failed fault.Memory) refl tt holds

pub returns-in-Ok-admit-clause-admits : goal.returns-in-Ok-admit-clause-admits
returns-in-Ok-admit-clause-admits g c clean old holds =
    is_admitted g.S.Store c.args.store.now.following c.args.ask.now.tables.now c.args.ask.now.unkept.now c.args.ask.now.copy c.args.store.now c.admit.new.self old c.in-Ok.gtids c.standing-names.result.now
    (rw c.following-2.ensures at c.standing-names.ensures) (c.in-Ok.ensures old) refl
    (subst (λ ids. MayAdmit c.args.store.now.following ids c.args.ask.now.tables.now c.args.ask.now.copy) (c.executed.ensures.value false old holds) (rw c.following.ensures at c.in_default.ensures.none))
    c.in-Ok-admit.ensures.rest.following (c.in-Ok-admit.ensures.admits clean old holds) (c.in-Ok-admit.ensures.crash clean old holds)

pub returns-clause-admits : goal.returns-clause-admits
returns-clause-admits g c clean old holds =
    not_admitted g.S.Store c.args.store.now.following c.args.ask.now.tables.now c.args.ask.now.unkept.now c.args.ask.now.copy c.args.store.now c.admit.new.self old c.in-Ok.gtids c.standing-names.result.now
    (rw c.following-2.ensures at c.standing-names.ensures) (c.in-Ok.ensures old) refl
    c.in-Err.fault c.in-Err.ensures.rest.following (c.in-Err.ensures.admits clean old holds) (c.in-Err.ensures.crash clean old holds)
