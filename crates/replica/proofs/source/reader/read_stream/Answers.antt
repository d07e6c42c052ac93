use Rattle.replica.proofs.Names.{rules, length, inl, ◌≡◌, ◌++◌, ◌∙◌, ℕ, List, [], take, refl, sym, ap, subst, append-nil, Consumes-nil, Consumes, EndOfInput, Ended, end_of, StandsOver, MayEnd}
use Rattle.std.proofs.KnownBytes.{Keeps-refl}
use Rattle.sqlite.specs.Held.{state}
use Rattle.replica.specs.Standing.{from_start, having_read}
use Rattle.replica.proofs.ObserverEnds.{may_later}
use Rattle.replica.proofs.Advance.{none_after}
use Rattle.replica.proofs.Runs.{begins}
use Rattle.replica.specs.Over.{taken_from}
use Rattle.replica.proofs.FromReader.{taking_more, taken, no_end, is_ended, not_ended, going_on, Keeps-from_none}
use Rattle.replica.proofs.Keeps.{keeps_noticed, keeps_then}
use Rattle.replica.proofs.source.reader.read_stream.Goals as goal

pub loop-reader-init : goal.loop-reader-init
loop-reader-init g c = record {
  some = search rules;
  may = c.feed_observed.ensures.may_end (rw c.new-session.ensures.ended tt);
  keeps = keeps_then g.S.Store (keeps_noticed g.S.Store c.received.ensures.noticed) c.feed_observed.ensures.keeps;
  taking = record {
    read = [];
    consumes = Consumes-nil (g.R.Read.remaining c.args.reader.now);
    limit_is = ap (λ s. s.limit) (c.feed_observed.ensures.config ∙ c.new-session.ensures.config);
    keeps = c.feed_observed.ensures.keeps.store;
    stands = λ h was old holds. subst (λ (l : List ℕ). StandsOver g.S.Store c.feed_observed.new.self c.feed_observed.new.store (state g.S.Store c.args.store.now.conn).now.schema (having_read was old l)) (sym (append-nil c.args.first.now))
        (c.feed_observed.ensures.stands h (state g.S.Store c.args.store.now.conn).now.schema (from_start was old)
        (begins g.S.Store (λ h db is_open may. g.met.S.Store.settled h.store db is_open may) c.new-session.result c.args.store.now was old holds (c.new-session.ensures.stands c.args.store.now.following was old)));
    last = λ h was old holds. inl refl;
  };
}

pub loop-reader-preserved : goal.loop-reader-preserved
loop-reader-preserved g c = record {
  some = search rules;
  may = c.feed_observed-in-Ok.ensures.may_end
      (may_later (end_of c.loop-reader.session).reason (g.W.Observer.account c.loop-reader.observer) (g.W.Observer.account c.received-in-Ok.new.self) [] c.received-in-Ok.ensures.noticed.stays c.received-in-Ok.ensures.noticed.waits c.loop-reader.invariant.may);
  keeps = keeps_then g.S.Store c.loop-reader.invariant.keeps
      (keeps_then g.S.Store (keeps_noticed g.S.Store c.received-in-Ok.ensures.noticed) c.feed_observed-in-Ok.ensures.keeps);
  taking = taking_more g.S.Store c.args.config.limit (taken_from g.R.Read.remaining c.args.first.now (length c.args.piece.now) c.args.reader.now c.loop-reader.reader) c.args.store.now c.loop-reader.session c.loop-reader.store
      c.feed_observed-in-Ok.new.self c.feed_observed-in-Ok.new.store (g.R.Read.remaining c.read_some.new.reader) (take c.in-Ok.count c.read_some.new.piece) c.loop-reader.invariant.taking
      (none_after c.loop-reader.session.ended (not_ended (λ e. e.now) c.ended.result c.loop-reader.session.ended c.ended.ensures c.loop-reader-test.ensures)) (search rules) c.in-Ok.ensures.bytes.0
      c.feed_observed-in-Ok.ensures.config c.feed_observed-in-Ok.ensures.keeps.store c.feed_observed-in-Ok.ensures.stands;
}

pub returns-in-Ok-eq0-clause-read : goal.returns-in-Ok-eq0-clause-read
returns-in-Ok-eq0-clause-read g c clean was old holds =
    let zero : c.in-Ok-eq0.field-0 ≡ 0 = search rules in
    taken g.S.Store c.args.config.limit (taken_from g.R.Read.remaining c.args.first.now (length c.args.piece.now) c.args.reader.now c.loop-reader.reader) c.args.store.now c.loop-reader.session c.loop-reader.store
    (g.R.Read.remaining c.read_some.new.reader) was old c.finish.result c.loop-reader.invariant.taking
    (Keeps-from_none (g.R.Read.remaining c.loop-reader.reader) (g.R.Read.remaining c.read_some.new.reader) (subst (λ (n : ℕ). Consumes (g.R.Read.remaining c.loop-reader.reader) (g.R.Read.remaining c.read_some.new.reader) (take n c.read_some.new.piece)) zero c.in-Ok-eq0.ensures.bytes.0)) c.finish.ensures.end clean holds

pub returns-in-Err-clause-failed : goal.returns-in-Err-clause-failed
returns-in-Err-clause-failed g c clean was old holds = (
  end_of c.loop-reader.session,
  going_on c.loop-reader.session (not_ended (λ e. e.now) c.ended.result c.loop-reader.session.ended c.ended.ensures c.loop-reader-test.ensures),
  taken g.S.Store c.args.config.limit (taken_from g.R.Read.remaining c.args.first.now (length c.args.piece.now) c.args.reader.now c.loop-reader.reader) c.args.store.now c.loop-reader.session c.loop-reader.store
      (g.R.Read.remaining c.read_some.new.reader) was old (end_of c.loop-reader.session) c.loop-reader.invariant.taking c.in-Err.ensures.bytes refl clean holds,
)

pub returns-clause-read : goal.returns-clause-read
returns-clause-read g c clean was old holds =
    taken g.S.Store c.args.config.limit (taken_from g.R.Read.remaining c.args.first.now (length c.args.piece.now) c.args.reader.now c.loop-reader.reader) c.args.store.now c.loop-reader.session c.loop-reader.store
    (g.R.Read.remaining c.loop-reader.reader) was old c.finish-2.result c.loop-reader.invariant.taking (Keeps-refl (g.R.Read.remaining c.loop-reader.reader)) c.finish-2.ensures.end clean holds

pub returns-clause-all : goal.returns-clause-all
returns-clause-all g c clean was old holds same =
    let s = c.loop-reader.invariant.taking.stands clean was old holds in
    absurd (no_end c.loop-reader.session c.loop-reader.store.following (having_read was old (c.args.first.now ++ c.loop-reader.invariant.taking.read)) s.is s.now
    (is_ended (λ e. e.now) c.ended.result c.loop-reader.session.ended c.ended.ensures c.loop-reader-test.ensures) s.stands
    (subst (λ (e : Ended). e.reason ≡ EndOfInput) c.finish-2.ensures.end same))

pub returns-clause-may_end : goal.returns-clause-may_end
returns-clause-may_end g c = subst (λ (e : Ended). MayEnd e.reason (g.W.Observer.account c.loop-reader.observer)) (sym c.finish-2.ensures.end) c.loop-reader.invariant.may
