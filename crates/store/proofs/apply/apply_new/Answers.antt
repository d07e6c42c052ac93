use Rattle.store.proofs.Names.{◌≡◌, Ok, Err, ap, sym, ◌∙◌, rules, arith, false≢true, HasCleanDisk, delivery_value, Content, IsAtRest, IsNew}
use Rattle.sqlite.specs.Held.{state}
use Rattle.gather.proofs.RowItems.{ok_not_err}
use Rattle.store.proofs.ExecutedInMemory.{is_new, moved, came, given_up, fault_in, shut_after, refused_shut}
use Rattle.store.proofs.Lives.{over_any, any_then}
use Rattle.store.proofs.apply.apply_new.Goals as goal

pub returns-in-Ok-None : goal.returns-in-Ok-None
returns-in-Ok-None g c =
    let names = c.args.filter.now in
    let d = delivery_value c.args.delivery.now in
    let old = state g.S.Store c.args.conn.now in
    let fresh : (content : Content) → IsAtRest old names content → c.args.reserved.0 ≡ content.executed → IsNew old.now names content d c.beside.result =
    λ content rest same. is_new old.now names content d c.args.reserved.0 c.beside.result rest.stands same (rw c.requires.of at c.requires.new) (rw c.requires.of at c.beside.ensures.joins) in
    record {
      comes = λ clean content rest same.
          moved names content d old (state g.S.Store c.run.new.conn) c.args.reserved.0 c.insert.result same (rw c.requires.of at c.insert.ensures) (rw c.in-Ok-None.field-0-is at (c.in-Ok-None.ensures.runs clean content rest (fresh content rest same)));
      crash = λ content rest same. rw c.in-Ok-None.field-0-is at (c.in-Ok-None.ensures.crash content rest (fresh content rest same));
      lives = c.run.ensures.lives;
      shut = λ clean shut. absurd (false≢true (sym shut ∙ c.run.ensures.opened clean (c.in-Ok-None.ensures.done clean (ap Ok c.in-Ok-None.field-0-is))));
      other = λ is. absurd (ok_not_err _ _ is);
      fault = tt;
      autocommit = c.run.ensures.autocommit;
    }

pub returns-in-Ok-Some : goal.returns-in-Ok-Some
returns-in-Ok-Some g c =
    let names = c.args.filter.now in
    let d = delivery_value c.args.delivery.now in
    let old = state g.S.Store c.args.conn.now in
    let mid = state g.S.Store c.run.new.conn in
    let new = state g.S.Store c.refuse.new.conn in
    let early : HasCleanDisk new → HasCleanDisk mid = λ clean. omega (arith, c.refuse.ensures.survives.clean, clean) in
    let fresh : (content : Content) → IsAtRest old names content → c.args.reserved.0 ≡ content.executed → IsNew old.now names content d c.beside.result =
    λ content rest same. is_new old.now names content d c.args.reserved.0 c.beside.result rest.stands same (rw c.requires.of at c.requires.new) (rw c.requires.of at c.beside.ensures.joins) in
    record {
      comes = λ clean content rest same.
          let ran = rw c.in-Ok-Some.field-0-is at (c.in-Ok-Some.ensures.runs (early clean) content rest (fresh content rest same)) in
          let kept : c.release.result ≡ content.executed = c.release.ensures ∙ same in
          came names content d old mid new c.release.result c.in-Ok-Some.at c.in-Ok-Some.why c.refuse.result kept rest ran (c.refuse.ensures.reported clean);
      crash = λ content rest same. given_up names content d old mid new (Err c.refuse.result) (rw c.in-Ok-Some.field-0-is at (c.in-Ok-Some.ensures.crash content rest (fresh content rest same))) c.refuse.ensures.survives;
      lives = any_then old mid new _ c.run.ensures.lives (over_any mid new _ c.refuse.ensures.survives);
      shut = λ clean shut. refused_shut c.in-Ok-Some.at c.in-Ok-Some.why old mid new c.args.reserved.0 c.release.result c.refuse.result (c.run.ensures.opened (early clean)) shut (c.refuse.ensures.reported clean) c.release.ensures;
      other = λ is. absurd (c.refuse.ensures.other (ap fault_in is));
      fault = c.refuse.ensures.fault;
      autocommit = c.refuse.ensures.autocommit c.run.ensures.autocommit;
    }

pub returns-in-Err : goal.returns-in-Err
returns-in-Err g c =
    let names = c.args.filter.now in
    let d = delivery_value c.args.delivery.now in
    let old = state g.S.Store c.args.conn.now in
    let fresh : (content : Content) → IsAtRest old names content → c.args.reserved.0 ≡ content.executed → IsNew old.now names content d c.beside.result =
    λ content rest same. is_new old.now names content d c.args.reserved.0 c.beside.result rest.stands same (rw c.requires.of at c.requires.new) (rw c.requires.of at c.beside.ensures.joins) in
    record {
      comes = λ clean content rest same. (c.in-Err.ensures.runs clean content rest (fresh content rest same), c.release-in-Err.ensures ∙ same);
      crash = λ content rest same. c.in-Err.ensures.crash content rest (fresh content rest same);
      lives = c.run.ensures.lives;
      shut = λ clean shut. (shut_after old (state g.S.Store c.run.new.conn) (c.run.ensures.opened clean) shut, c.release-in-Err.ensures);
      other = search rules;
      fault = tt;
      autocommit = c.run.ensures.autocommit;
    }
