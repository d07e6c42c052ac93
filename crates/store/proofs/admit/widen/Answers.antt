use Rattle.store.proofs.Names.{◌≡◌, true, refl, subst, rules, arith, HasCleanDisk, KeepsCommit, Survives, survives_begin, survives_then, Trees, Content, with_executed, AreOf, IsAtRest, Rests, SparesBeside}
use Rattle.sqlite.specs.Held.{state}
use Rattle.store.specs.Apply.{Replaces}
use Rattle.store.specs.Changes.{widened}
use Rattle.store.specs.Inside.{HasWidened}
use Rattle.store.proofs.Ran.{begun_working, rolled, survives_rolled}
use Rattle.store.proofs.MoreNames.{stored_of, widened_end, may_widen}
use Rattle.store.proofs.admit.widen.Goals as goal

pub returns-in_err-fill : goal.returns-in_err-fill
returns-in_err-fill g c =
    let h = c.args.conn.now in
    let m = state g.S.Store c.fill.new.tx.conn.now in
    let n = state g.S.Store c.drop-tx.new.self.0 in
    let names = widened c.args.following.now c.args.more.now in
    let stays = c.in_err-fill.ensures.stays in
    let same : c.drop-tx.new.self.0 ≡ c.conn-1.given.0 = search rules in
    record {
      widens = λ clean content rest is.
          let late : HasCleanDisk n = search (rules, clean) in
          let rests : Rests (state g.S.Store h) n = rolled g.S.Store h m n rest.settled (λ early. (rw c.transaction-tx.ensures.begun at stays.kept) early refl) c.drop-tx.ensures.survives c.drop-tx.ensures.undone late in
          search (rules, rests);
      opened = search rules;
      done = search rules;
      lives = search rules;
      crash = λ content rest is.
          let may : Trees → Type 0 = λ db. AreOf h.schema names (with_executed c.args.after.now content) db × SparesBeside (state g.S.Store h).now db in
          let survives : Survives (state g.S.Store h) n may = survives_rolled g.S.Store h m n may (rw c.transaction-tx.ensures.begun at stays.survives) c.drop-tx.ensures.survives in
          subst (λ x. Survives (state g.S.Store h) (state g.S.Store x) may) same survives;
      autocommit = search rules;
    }

pub returns : goal.returns
returns g c =
    let h = c.args.conn.now in
    let t = state g.S.Store (record h { in_transaction = true }) in
    let m = state g.S.Store c.fill.new.tx.conn.now in
    let n = state g.S.Store c.commit.new.self.0 in
    let after = c.args.after.now in
    let following = c.args.following.now in
    let more = c.args.more.now in
    let names = widened following more in
    let lawful = c.in_ok-fill.ensures.lawful in
    let stays = c.in_ok-fill.ensures.stays in
    let fills : (content : Content) → IsAtRest (state g.S.Store h) following content → c.args.executed.now ≡ content.executed → HasCleanDisk m → HasWidened t m names after =
    λ content rest is early. (rw c.transaction-tx.ensures.begun at c.in_ok-fill.ensures.fills) early (begun_working g.S.Store h following content rest) rest.stands.follow rest.stands.executed.spans (stored_of g.S.Store h following more content rest c.args.executed.now is) in
    let same : c.commit.new.self.0 ≡ c.conn-2-1.given.0 = search rules in
    record {
      widens = λ clean content rest is.
          let late : HasCleanDisk n = search (rules, clean) in
          let early : HasCleanDisk m = omega (arith, c.commit.ensures.survives.clean, late) in
          let kept : KeepsCommit t m = (rw c.transaction-tx.ensures.begun at stays.kept) early refl in
          let done : Replaces names (with_executed after content) (state g.S.Store h) n c.commit.result =
          widened_end g.S.Store h following more content rest after m lawful (fills content rest is early) n c.commit.result kept (c.commit.ensures.ok late) (c.commit.ensures.err late) in
          subst (λ x. Replaces names (with_executed after content) (state g.S.Store h) (state g.S.Store x) c.commit.result) same done;
      opened = search rules;
      done = search rules;
      lives = search rules;
      crash = λ content rest is.
          let may : Trees → Type 0 = λ db. AreOf h.schema names (with_executed after content) db × SparesBeside (state g.S.Store h).now db in
          let survives : Survives (state g.S.Store h) n may =
          survives_begin g.S.Store h n may (survives_then t m n (λ _. ⊥) (λ db. db ≡ m.now.trees) may (λ _ db none. absurd none)
          (λ clean db at. may_widen g.S.Store h following more content rest after m lawful (fills content rest is (omega (arith, c.commit.ensures.survives.clean, clean))) db at)
          (rw c.transaction-tx.ensures.begun at stays.survives) c.commit.ensures.survives) in
          subst (λ x. Survives (state g.S.Store h) (state g.S.Store x) may) same survives;
      autocommit = search rules;
    }
