use Rattle.store.proofs.Names.{refl, ◌≡◌, subst, true, OnOk, OnErr, rules, arith, HasCleanDisk, KeepsCommit, Survives, survives_begin, survives_then, Trees, LiesBeside, IsAtRest, Rested}
use Rattle.sqlite.specs.Held.{state}
use Rattle.store.specs.Open.{all, MayMigrate}
use Rattle.store.proofs.Ran.{survives_rolled}
use Rattle.store.proofs.CreationCommit.{first_inside, committed, rested_rolled, rested_begun, rested_unless, may_stand}
use Rattle.store.proofs.migrate.migrate.Goals as goal

pub returns-in_err-convert-clause-refused : goal.returns-in_err-convert-clause-refused
returns-in_err-convert-clause-refused g c clean =
    let h = c.args.conn.now in
    let m = state g.S.Store c.convert.new.tx.conn.now in
    let n = state g.S.Store c.drop-tx.new.self.0 in
    let late : HasCleanDisk n = search (rules, clean) in
    let early : HasCleanDisk m = omega (arith, c.drop-tx.ensures.survives.clean, late) in
    let t = state g.S.Store (record h { in_transaction = true }) in
    let rested : Rested (state g.S.Store h) n = rested_begun g.S.Store h n (rested_rolled t m n ((rw c.transaction-tx.ensures.begun at c.in_err-convert.ensures.stays.kept) early refl) (c.drop-tx.ensures.undone late)) in
    search (rules, rested)

pub returns-clause-migrated : goal.returns-clause-migrated
returns-clause-migrated g c clean content rest is =
    let h = c.args.conn.now in
    let n = state g.S.Store c.commit.new.self.0 in
    let begun = first_inside g.S.Store h content rest in
    let late : HasCleanDisk n = search (rules, clean) in
    let rested : OnOk c.commit.result (IsAtRest n all content × LiesBeside (state g.S.Store h).now n.now) = committed g.S.Store h all content (state g.S.Store c.convert.new.tx.conn.now) n rest.settled
    (λ early. (rw c.transaction-tx.ensures.begun at c.in_ok-convert.ensures.stays.kept) early refl) (λ early. (rw c.transaction-tx.ensures.begun at c.in_ok-convert.ensures.made) early content begun is) c.commit.result c.commit.ensures.survives c.commit.ensures.ok late in
    search (rules, rested)

pub returns-clause-refused : goal.returns-clause-refused
returns-clause-refused g c clean =
    let h = c.args.conn.now in
    let t = state g.S.Store (record h { in_transaction = true }) in
    let m = state g.S.Store c.convert.new.tx.conn.now in
    let n = state g.S.Store c.commit.new.self.0 in
    let late : HasCleanDisk n = search (rules, clean) in
    let early : HasCleanDisk m = omega (arith, c.commit.ensures.survives.clean, late) in
    let kept : KeepsCommit t m = (rw c.transaction-tx.ensures.begun at c.in_ok-convert.ensures.stays.kept) early refl in
    let inside : m.in_transaction ≡ true = (rw c.transaction-tx.ensures.begun at c.in_ok-convert.ensures.stays.inside) early in
    let refused : OnErr c.commit.result (Rested (state g.S.Store h) n) = rested_unless g.S.Store h m n c.commit.result kept inside (c.commit.ensures.err late) in
    search (rules, refused)

pub returns-in_err-convert-clause-crash : goal.returns-in_err-convert-clause-crash
returns-in_err-convert-clause-crash g c =
    let h = c.args.conn.now in
    let n = state g.S.Store c.drop-tx.new.self.0 in
    let may : Trees → Type 0 = MayMigrate (state g.S.Store h) c.args.executed.now in
    let survives : Survives (state g.S.Store h) n may = survives_rolled g.S.Store h (state g.S.Store c.convert.new.tx.conn.now) n may
    (rw c.transaction-tx.ensures.begun at c.in_err-convert.ensures.stays.survives) c.drop-tx.ensures.survives in
    let same : c.drop-tx.new.self.0 ≡ c.conn-1.given.0 = search rules in
    subst (λ x. Survives (state g.S.Store h) (state g.S.Store x) may) same survives

pub returns-clause-crash : goal.returns-clause-crash
returns-clause-crash g c =
    let h = c.args.conn.now in
    let t = state g.S.Store (record h { in_transaction = true }) in
    let m = state g.S.Store c.convert.new.tx.conn.now in
    let n = state g.S.Store c.commit.new.self.0 in
    let may : Trees → Type 0 = MayMigrate (state g.S.Store h) c.args.executed.now in
    let survives : Survives (state g.S.Store h) n may =
    survives_begin g.S.Store h n may (survives_then t m n (λ _. ⊥) (λ db. db ≡ m.now.trees) may (λ _ db none. absurd none)
    (λ clean db same content rest is. let begun = first_inside g.S.Store h content rest in
    may_stand g.S.Store h all content m n rest.settled
    (λ early. (rw c.transaction-tx.ensures.begun at c.in_ok-convert.ensures.stays.kept) early refl) (λ early. (rw c.transaction-tx.ensures.begun at c.in_ok-convert.ensures.made) early content begun is) c.commit.result c.commit.ensures.survives clean db same)
    (rw c.transaction-tx.ensures.begun at c.in_ok-convert.ensures.stays.survives) c.commit.ensures.survives) in
    let same : c.commit.new.self.0 ≡ c.conn-2-1.given.0 = search rules in
    subst (λ x. Survives (state g.S.Store h) (state g.S.Store x) may) same survives
