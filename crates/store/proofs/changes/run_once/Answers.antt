use Rattle.store.proofs.Names.{refl, ◌≡◌, true, Some, None, Ok, is_none, subst, rules, arith, HasCleanDisk, Survives, Error, survives_weaker, delivery_value, Content, IsAtRest, IsNew, RunsTransaction, MayCommit}
use Rattle.sqlite.specs.Held.{state}
use Rattle.store.specs.Apply.{IsRefusedIn, Fills}
use Rattle.store.proofs.Ran.{begun_working, rolled, runs_err, may_commit_err, taken, untaken, may_take}
use Rattle.store.proofs.changes.run_once.Goals as goal

pub returns-in_err-refused : goal.returns-in_err-refused
returns-in_err-refused g c =
    let h = c.args.conn.now in
    let sorted = is_none c.args.sorted in
    let names = c.args.filter.now in
    let d = delivery_value c.args.delivery.now in
    let n = state g.S.Store c.drop-tx.new.self.0 in
    let same : c.drop-tx.new.self.0 ≡ c.conn-1.given.0 = search rules in
    record {
      runs = λ clean content rest it.
          subst (λ k. HasCleanDisk (state g.S.Store k) → RunsTransaction sorted names content d (state g.S.Store h) (state g.S.Store k) c.from_residual.result) same
          (λ late. runs_err names content d sorted (state g.S.Store h) n c.from_residual.result c.from_residual.ensures.0
          (rolled g.S.Store h (state g.S.Store c.fill.new.tx.conn.now) n rest.settled (λ early. (rw c.transaction-tx.ensures.begun at c.in_err-refused.ensures.stays.kept) early refl) c.drop-tx.ensures.survives c.drop-tx.ensures.undone late)) clean;
      opened = search rules;
      done = search rules;
      lives = search rules;
      autocommit = search rules;
      crash = search rules;
    }

pub returns-in-Some : goal.returns-in-Some
returns-in-Some g c =
    let h = c.args.conn.now in
    let m = state g.S.Store c.fill.new.tx.conn.now in
    let sorted = is_none c.args.sorted in
    let names = c.args.filter.now in
    let d = delivery_value c.args.delivery.now in
    let n = state g.S.Store c.drop-tx-in-Some.new.self.0 in
    let same : c.drop-tx-in-Some.new.self.0 ≡ c.conn-in-Some-1.given.0 = search rules in
    record {
      runs = λ clean content rest it.
          let working = begun_working g.S.Store h names content rest in
          let refused : HasCleanDisk m → IsRefusedIn sorted names content d c.in-Some.refused = λ early. rw c.in-Some.is at ((rw c.transaction-tx.ensures.begun at c.in_ok-refused.ensures.fills) early working content it) in
          subst (λ k. HasCleanDisk (state g.S.Store k) → RunsTransaction {E = Error} sorted names content d (state g.S.Store h) (state g.S.Store k) (Ok (Some c.in-Some.refused))) same
          (λ late. (
            refused (omega (arith, c.drop-tx-in-Some.ensures.survives.clean, late)),
            rolled g.S.Store h m n rest.settled (λ early. (rw c.transaction-tx.ensures.begun at c.in_ok-refused.ensures.stays.kept) early refl) c.drop-tx-in-Some.ensures.survives c.drop-tx-in-Some.ensures.undone late,
          )) clean;
      opened = search rules;
      done = search rules;
      lives = search rules;
      autocommit = search rules;
      crash = search rules;
    }

pub returns-in_err-commit : goal.returns-in_err-commit
returns-in_err-commit g c =
    let h = c.args.conn.now in
    let t = state g.S.Store (record h { in_transaction = true }) in
    let m = state g.S.Store c.fill.new.tx.conn.now in
    let n = state g.S.Store c.commit.new.self.0 in
    let sorted = is_none c.args.sorted in
    let names = c.args.filter.now in
    let d = delivery_value c.args.delivery.now in
    let r = c.from_residual-in_err-commit.result in
    let same : c.commit.new.self.0 ≡ c.conn-2-1.given.0 = search rules in
    let fills : (content : Content) → IsAtRest (state g.S.Store h) names content → IsNew t.now names content d c.args.beside.now → HasCleanDisk m → Fills sorted names content d t m None =
    λ content rest it early. rw c.in_default.is at ((rw c.transaction-tx.ensures.begun at c.in_ok-refused.ensures.fills) early (begun_working g.S.Store h names content rest) content it) in
    record {
      runs = λ clean content rest it.
          subst (λ k. HasCleanDisk (state g.S.Store k) → RunsTransaction sorted names content d (state g.S.Store h) (state g.S.Store k) r) same
          (λ late. runs_err names content d sorted (state g.S.Store h) n r c.from_residual-in_err-commit.ensures.0
          (untaken g.S.Store h names content d m n rest (fills content rest it) c.commit.ensures.survives c.in_err-commit.field-0.0 c.in_err-commit.ensures.err late)) clean;
      opened = search rules;
      done = search rules;
      lives = search rules;
      autocommit = search rules;
      crash = λ content rest it.
          let may = MayCommit names content d t.now r in
          subst (λ k. Survives (state g.S.Store h) (state g.S.Store k) may) same
          (survives_weaker (state g.S.Store h) n _ may (λ _ db applied. may_commit_err names content d t.now r db c.from_residual-in_err-commit.ensures.0 applied)
          (may_take g.S.Store h names content d m n rest (fills content rest it) c.commit.ensures.survives (rw c.transaction-tx.ensures.begun at c.in_ok-refused.ensures.stays.survives)));
    }

pub returns : goal.returns
returns g c =
    let h = c.args.conn.now in
    let t = state g.S.Store (record h { in_transaction = true }) in
    let m = state g.S.Store c.fill.new.tx.conn.now in
    let n = state g.S.Store c.commit.new.self.0 in
    let sorted = is_none c.args.sorted in
    let names = c.args.filter.now in
    let d = delivery_value c.args.delivery.now in
    let same : c.commit.new.self.0 ≡ c.conn-2-1.given.0 = search rules in
    let fills : (content : Content) → IsAtRest (state g.S.Store h) names content → IsNew t.now names content d c.args.beside.now → HasCleanDisk m → Fills sorted names content d t m None =
    λ content rest it early. rw c.in_default.is at ((rw c.transaction-tx.ensures.begun at c.in_ok-refused.ensures.fills) early (begun_working g.S.Store h names content rest) content it) in
    record {
      runs = λ clean content rest it.
          subst (λ k. HasCleanDisk (state g.S.Store k) → RunsTransaction {E = Error} sorted names content d (state g.S.Store h) (state g.S.Store k) (Ok None)) same
          (taken g.S.Store h names content d m n rest (fills content rest it) c.commit.ensures.survives (λ late. (c.in_ok-commit.ensures.ok late).1)) clean;
      opened = search rules;
      done = search rules;
      lives = search rules;
      autocommit = search rules;
      crash = λ content rest it.
          subst (λ k. Survives (state g.S.Store h) (state g.S.Store k) (MayCommit {E = Error} names content d t.now (Ok None))) same
          (may_take g.S.Store h names content d m n rest (fills content rest it) c.commit.ensures.survives (rw c.transaction-tx.ensures.begun at c.in_ok-refused.ensures.stays.survives));
    }
