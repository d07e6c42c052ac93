use Rattle.store.proofs.Names.{refl, ◌≡◌, subst, true, OnOk, OnErr, rules, arith, HasCleanDisk, KeepsCommit, Survives, survives_begin, survives_then, LiesBeside, IsAtRest, Rested, MayStandFor}
use Rattle.sqlite.specs.Held.{state}
use Rattle.store.specs.Open.{nothing}
use Rattle.store.proofs.Ran.{survives_rolled}
use Rattle.store.proofs.CreationCommit.{making_inside, committed, rested_rolled, rested_begun, rested_unless, may_stand}
use Rattle.store.proofs.make.make.Goals as goal

pub returns-in_err-fill-clause-refused : goal.returns-in_err-fill-clause-refused
returns-in_err-fill-clause-refused g c clean =
    let h = c.args.conn.now in
    let m = state g.S.Store c.fill.new.tx.conn.now in
    let n = state g.S.Store c.drop-tx.new.self.0 in
    let late : HasCleanDisk n = search (rules, clean) in
    let early : HasCleanDisk m = omega (arith, c.drop-tx.ensures.survives.clean, late) in
    let t = state g.S.Store (record h { in_transaction = true }) in
    let rested : Rested (state g.S.Store h) n = rested_begun g.S.Store h n (rested_rolled t m n ((rw c.transaction-tx.ensures.begun at c.in_err-fill.ensures.stays.kept) early refl) (c.drop-tx.ensures.undone late)) in
    search (rules, rested)

pub returns-clause-made : goal.returns-clause-made
returns-clause-made g c clean blank =
    let h = c.args.conn.now in
    let n = state g.S.Store c.commit.new.self.0 in
    let begun = making_inside g.S.Store h c.schema.ensures.live blank in
    let late : HasCleanDisk n = search (rules, clean) in
    let rest : OnOk c.commit.result (IsAtRest n c.args.filter.now nothing × LiesBeside (state g.S.Store h).now n.now) = committed g.S.Store h c.args.filter.now nothing (state g.S.Store c.fill.new.tx.conn.now) n blank.settled
    (λ early. (rw c.transaction-tx.ensures.begun at c.in_ok-fill.ensures.stays.kept) early refl) (λ early. (rw c.transaction-tx.ensures.begun at c.in_ok-fill.ensures.made) early begun) c.commit.result c.commit.ensures.survives c.commit.ensures.ok late in
    search (rules, rest)

pub returns-clause-refused : goal.returns-clause-refused
returns-clause-refused g c clean =
    let h = c.args.conn.now in
    let t = state g.S.Store (record h { in_transaction = true }) in
    let m = state g.S.Store c.fill.new.tx.conn.now in
    let n = state g.S.Store c.commit.new.self.0 in
    let late : HasCleanDisk n = search (rules, clean) in
    let early : HasCleanDisk m = omega (arith, c.commit.ensures.survives.clean, late) in
    let kept : KeepsCommit t m = (rw c.transaction-tx.ensures.begun at c.in_ok-fill.ensures.stays.kept) early refl in
    let inside : m.in_transaction ≡ true = (rw c.transaction-tx.ensures.begun at c.in_ok-fill.ensures.stays.inside) early in
    let refused : OnErr c.commit.result (Rested (state g.S.Store h) n) = rested_unless g.S.Store h m n c.commit.result kept inside (c.commit.ensures.err late) in
    search (rules, refused)

pub returns-in_err-fill-clause-crash : goal.returns-in_err-fill-clause-crash
returns-in_err-fill-clause-crash g c blank =
    let h = c.args.conn.now in
    let n = state g.S.Store c.drop-tx.new.self.0 in
    let may = MayStandFor (state g.S.Store h).now c.args.filter.now nothing in
    let survives : Survives (state g.S.Store h) n may = survives_rolled g.S.Store h (state g.S.Store c.fill.new.tx.conn.now) n may
    (rw c.transaction-tx.ensures.begun at c.in_err-fill.ensures.stays.survives) c.drop-tx.ensures.survives in
    let same : c.drop-tx.new.self.0 ≡ c.conn-1.given.0 = search rules in
    subst (λ x. Survives (state g.S.Store h) (state g.S.Store x) may) same survives

pub returns-clause-crash : goal.returns-clause-crash
returns-clause-crash g c blank =
    let h = c.args.conn.now in
    let t = state g.S.Store (record h { in_transaction = true }) in
    let m = state g.S.Store c.fill.new.tx.conn.now in
    let n = state g.S.Store c.commit.new.self.0 in
    let begun = making_inside g.S.Store h c.schema.ensures.live blank in
    let may = MayStandFor (state g.S.Store h).now c.args.filter.now nothing in
    let survives : Survives (state g.S.Store h) n may =
    survives_begin g.S.Store h n may (survives_then t m n (λ _. ⊥) (λ db. db ≡ m.now.trees) may (λ _ db none. absurd none)
    (may_stand g.S.Store h c.args.filter.now nothing m n blank.settled
    (λ early. (rw c.transaction-tx.ensures.begun at c.in_ok-fill.ensures.stays.kept) early refl) (λ early. (rw c.transaction-tx.ensures.begun at c.in_ok-fill.ensures.made) early begun) c.commit.result c.commit.ensures.survives)
    (rw c.transaction-tx.ensures.begun at c.in_ok-fill.ensures.stays.survives) c.commit.ensures.survives) in
    let same : c.commit.new.self.0 ≡ c.conn-2-1.given.0 = search rules in
    subst (λ x. Survives (state g.S.Store h) (state g.S.Store x) may) same survives
