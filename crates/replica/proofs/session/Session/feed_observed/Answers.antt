use Rattle.replica.proofs.Names.{rules, ◌≡◌, ◌+◌, ◌≤◌, ℕ, List, None, length, sym, ◌∙◌, subst, room_of}
use Rattle.std.proofs.lemmas.List.{take_rest}
use Rattle.replica.proofs.Advance.{over-append}
use Rattle.replica.proofs.BytesSoFar.{Fed, fed_none, fed_more, fed_all, room_more}
use Rattle.replica.proofs.Keeps.{keeps_same, keeps_then}
use Rattle.replica.proofs.session.Session.feed_observed.Goals as goal

pub returns-then-is_some-clause-stands : goal.returns-then-is_some-clause-stands
returns-then-is_some-clause-stands g c clean schema pos s =
    over-append g.S.Store c.args.store.now schema pos c.args.self.now c.args.bytes.now (sym c.is_some.ensures ∙ c.if-is_some.true) s

pub loop-used-init : goal.loop-used-init
loop-used-init g c = record {
  fed = fed_none g.S.Store c.args.self.now c.args.store.now c.args.bytes.now;
  keeps = keeps_same g.S.Store;
  config = search rules;
  may_end = λ h. h;
  room = search rules;
}

pub loop-used-preserved : goal.loop-used-preserved
loop-used-preserved g c =
    let used = c.in-Some.used in
    let rest = c.loop-used.rest.now in
    let inv = c.loop-used.invariant in
    record {
      fed = subst (λ (l : List ℕ). Fed g.S.Store c.args.self.now c.args.store.now c.advance.new.self c.advance.new.store c.args.bytes.now l) (sym (take_rest rest used))
          (fed_more g.S.Store c.args.self.now c.args.store.now c.loop-used.self c.loop-used.store c.advance.new.self c.advance.new.store c.args.bytes.now rest used inv.fed c.advance.ensures.keeps.store.clean c.in-Some.ensures.stands);
      keeps = keeps_then g.S.Store inv.keeps c.advance.ensures.keeps;
      config = search rules;
      may_end = λ h. c.advance.ensures.may_end (inv.may_end h);
      room = subst (λ (l : List ℕ). c.advance.new.self.ended ≡ None → room_of c.advance.new.self + length c.args.bytes.now ≤ room_of c.args.self.now + length l) (sym (take_rest rest used))
          (room_more c.loop-used.self c.advance.new.self rest used (room_of c.args.self.now) (length c.args.bytes.now) c.in-Some.ensures.used.1 c.in-Some.ensures.room inv.room);
    }

pub returns-clause-stands : goal.returns-clause-stands
returns-clause-stands g c =
    fed_all g.S.Store c.args.self.now c.args.store.now c.loop-used.self c.loop-used.store c.advance.new.self c.advance.new.store c.args.bytes.now c.loop-used.rest.now c.loop-used.invariant.fed c.advance.ensures.keeps.store.clean c.in_default.ensures.stands

pub returns-then-is_some-clause-keeps : goal.returns-then-is_some-clause-keeps
returns-then-is_some-clause-keeps g c = keeps_same g.S.Store

pub returns-clause-keeps : goal.returns-clause-keeps
returns-clause-keeps g c = keeps_then g.S.Store c.loop-used.invariant.keeps c.advance.ensures.keeps
