use Rattle.replica.proofs.Names.{◌+◌, Bool, length, arith, ◌≡◌, ◌≢◌, ◌++◌, true, Option, None, is_some, unwrap_or, sym, ap, ◌∙◌, subst, refl, rules, false≢true, reported_as, Ended, EndOfInput, Memory, WriteFailed, ReadFailed, Until, Session, HaveFailed, database, IsNoStreamFailure, MayEnd, end_of}
use Rattle.std.proofs.Common.{if◌then◌else◌}
use Rattle.std.proofs.KnownBytes.{Appends-kept, Keeps-trans}
use Rattle.replica.specs.declared.source.following.Turn.{Turn}
use Rattle.replica.specs.declared.source.following.Turn.TheVariants as turn
use Rattle.replica.specs.Follow.{Follows, exchange, reads_failed, ReportsFailures}
use Rattle.replica.proofs.ObserverEnds.{asked, not_of_stream}
use Rattle.replica.proofs.StreamFailures.{none_failed, failed_later, reports, reports_none}
use Rattle.replica.proofs.Advance.{none_after}
use Rattle.replica.proofs.FollowEnds.{follows-memory, follows-until, follows-sends_no_more, follows-write_failed, follows-ended, follows-read_failed, following-begins, following-sent, following-read, follows-same, some_after, ended_early, over-out, length_kept}
use Rattle.replica.proofs.Keeps.{keeps_same, keeps_then}
use Rattle.replica.proofs.source.following.follow_observed.Goals as goal

pub returns-then-is_done-clause-follows : goal.returns-then-is_done-clause-follows
returns-then-is_done-clause-follows g c clean was old holds =
    let session = c.new-session.result in
    let reason : (end_of session).reason ≡ EndOfInput = ap (λ (v : Option Ended). (unwrap_or v (record { reason = EndOfInput; at = session.at; applied = session.applied })).reason) c.new-session.ensures.ended in
    follows-same g.S.Store session.config c.args.config c.args.store.now c.args.store.now was old (exchange g.T.Read.remaining g.T.Write.contents c.args.stream.now.stream c.args.stream.now.stream) (reported_as Until (end_of session)) c.ended_with.result c.new-session.ensures.config (sym c.ended_with.ensures)
    (follows-until g.S.Store session c.args.store.now c.args.store.now was old (exchange g.T.Read.remaining g.T.Write.contents c.args.stream.now.stream c.args.stream.now.stream) refl
    (following-begins g.S.Store (λ h db is_open may. g.met.S.Store.settled h.store db is_open may) session c.args.store.now was old (g.T.Read.remaining c.args.stream.now.stream) (g.T.Write.contents c.args.stream.now.stream) c.new-session.ensures.ended holds (c.new-session.ensures.stands c.args.store.now.following was old)) reason)

pub returns-in_default-clause-follows : goal.returns-in_default-clause-follows
returns-in_default-clause-follows g c clean was old holds =
    let session = c.new-session.result in
    let reason : (end_of session).reason ≡ EndOfInput = ap (λ (v : Option Ended). (unwrap_or v (record { reason = EndOfInput; at = session.at; applied = session.applied })).reason) c.new-session.ensures.ended in
    follows-same g.S.Store session.config c.args.config c.args.store.now c.args.store.now was old (exchange g.T.Read.remaining g.T.Write.contents c.args.stream.now.stream c.args.stream.now.stream) (reported_as Memory (end_of session)) c.ended_with-in_default.result c.new-session.ensures.config (sym c.ended_with-in_default.ensures)
    (follows-memory g.S.Store session c.args.store.now c.args.store.now was old (exchange g.T.Read.remaining g.T.Write.contents c.args.stream.now.stream c.args.stream.now.stream) refl
    (following-begins g.S.Store (λ h db is_open may. g.met.S.Store.settled h.store db is_open may) session c.args.store.now was old (g.T.Read.remaining c.args.stream.now.stream) (g.T.Write.contents c.args.stream.now.stream) c.new-session.ensures.ended holds (c.new-session.ensures.stands c.args.store.now.following was old)) reason)

pub turns-init : goal.turns-init
turns-init g c = record {
  config = c.new-session.ensures.config;
  piece = search rules;
  reads = refl;
  writes = refl;
  reported = none_failed (g.T.Duplex.failures c.args.stream.now.stream);
  keeps = keeps_same g.S.Store;
  may_end = rw c.new-session.ensures.ended tt;
  may = rw c.new-session.ensures.ended tt;
  following = λ clean was old holds.
      following-begins g.S.Store (λ h db is_open may. g.met.S.Store.settled h.store db is_open may) c.new-session.result c.args.store.now was old (g.T.Read.remaining c.args.stream.now.stream) (g.T.Write.contents c.args.stream.now.stream) c.new-session.ensures.ended holds (c.new-session.ensures.stands c.args.store.now.following was old);
}

pub returns-then-sends_no_more-clause-follows : goal.returns-then-sends_no_more-clause-follows
returns-then-sends_no_more-clause-follows g c clean was old holds =
    let session = c.turns.session in
    let inv = c.turns.invariant in
    follows-same g.S.Store session.config c.args.config c.args.store.now c.turns.store was old (exchange g.T.Read.remaining g.T.Write.contents c.args.stream.now.stream c.turns.stream.stream) (end_of session) c.finish.result inv.config (sym c.finish.ensures.end)
    (follows-sends_no_more g.S.Store session c.args.store.now c.turns.store was old (exchange g.T.Read.remaining g.T.Write.contents c.args.stream.now.stream c.turns.stream.stream) inv.keeps.store.following (inv.following clean was old holds) (sym c.sends_no_more.ensures ∙ c.if-sends_no_more.true) inv.may_end)

pub returns-then-not-send_pending-clause-follows : goal.returns-then-not-send_pending-clause-follows
returns-then-not-send_pending-clause-follows g c clean was old holds =
    let session = c.turns.session in
    let inv = c.turns.invariant in
    let sent = c.send_pending.ensures.sent in
    follows-same g.S.Store session.config c.args.config c.args.store.now c.turns.store was old (exchange g.T.Read.remaining g.T.Write.contents c.args.stream.now.stream c.send_pending.new.stream.stream) (reported_as WriteFailed (end_of session)) c.ended_with-then-not-send_pending.result inv.config
    (sym (c.ended_with-then-not-send_pending.ensures ∙ ap (λ (e : Ended). reported_as WriteFailed e) sent.4.end))
    (follows-write_failed g.S.Store session c.args.store.now c.turns.store was old (exchange g.T.Read.remaining g.T.Write.contents c.args.stream.now.stream c.turns.stream.stream) inv.keeps.store.following (inv.following clean was old holds)
    c.send_pending.new.session (g.T.Read.remaining c.send_pending.new.stream.stream) (g.T.Write.contents c.send_pending.new.stream.stream) sent.0 sent.1 c.send_pending.ensures.apart sent.2 sent.4 (sym c.sends_no_more.ensures ∙ c.if-sends_no_more.false) inv.may_end)

pub returns-then-is_some-clause-follows : goal.returns-then-is_some-clause-follows
returns-then-is_some-clause-follows g c clean was old holds =
    let session = c.turns.session in
    let inv = c.turns.invariant in
    let sent = c.send_pending.ensures.sent in
    let after = c.send_pending.new.session in
    let f = inv.following clean was old holds in
    let some : is_some after.ended ≡ true = some_after c.ended.result after.ended c.ended.ensures ∙ sym c.is_some.ensures ∙ c.if-is_some.true in
    let s = over-out g.S.Store session after c.turns.store (database g.S.Store c.args.store.now).now.schema (record { was = was; old = old; read = f.read; sent = f.sent }) (sent.0 ++ sent.1) sent.4 f.stands in
    let early : (end_of session).reason ≢ EndOfInput = λ h. ended_early after c.turns.store.following (record { was = was; old = old; read = f.read; sent = f.sent ++ (sent.0 ++ sent.1) }) s.is s.now some s.stands (ap (λ (e : Ended). e.reason) sent.4.end ∙ h) in
    follows-same g.S.Store session.config c.args.config c.args.store.now c.turns.store was old (exchange g.T.Read.remaining g.T.Write.contents c.args.stream.now.stream c.send_pending.new.stream.stream) (end_of session) c.finish-then-is_some.result inv.config (sym (c.finish-then-is_some.ensures.end ∙ sent.4.end))
    (follows-ended g.S.Store session c.args.store.now c.turns.store was old (exchange g.T.Read.remaining g.T.Write.contents c.args.stream.now.stream c.turns.stream.stream) inv.keeps.store.following f
    after (g.T.Read.remaining c.send_pending.new.stream.stream) (g.T.Write.contents c.send_pending.new.stream.stream) sent.0 sent.1 c.send_pending.ensures.apart sent.2 sent.4 (sent.3 c.if-not-send_pending.false) inv.may_end (λ h. absurd (early h)))

pub read_piece-requires-clause-going : goal.read_piece-requires-clause-going
read_piece-requires-clause-going g c =
    none_after c.send_pending.new.session.ended (some_after c.ended.result c.send_pending.new.session.ended c.ended.ensures ∙ sym c.is_some.ensures ∙ c.if-is_some.false)

pub turns-preserved : goal.turns-preserved
turns-preserved g c =
    let session = c.turns.session in
    let inv = c.turns.invariant in
    let sent = c.send_pending.ensures.sent in
    let after = c.send_pending.new.session in
    let read = c.read_piece.ensures.read c.in-Read.is in
    let going : after.ended ≡ None = none_after after.ended (some_after c.ended.result after.ended c.ended.ensures ∙ sym c.is_some.ensures ∙ c.if-is_some.false) in
    let long : length c.deref_mut.result.now ≡ 65536 = search (rules, inv.piece) in
    let may = c.read_piece.ensures.may_end (subst (λ (e : Ended). MayEnd e.reason (g.W.Observer.account c.turns.observer)) (sym sent.4.end) inv.may) in
    record {
      config = c.read_piece.ensures.config ∙ sent.4.config ∙ inv.config;
      piece = length_kept c.turns.buffer.len c.read_piece.new.buffer c.turns.buffer.items (search rules) (search rules) ∙ inv.piece;
      reads = search rules;
      writes = search rules;
      reported = failed_later (g.T.Duplex.failures c.args.stream.now.stream) (g.T.Duplex.failures c.turns.stream.stream) (g.T.Duplex.failures c.read_piece.new.stream.stream) 0 0 inv.reported
          (failed_later (g.T.Duplex.failures c.turns.stream.stream) (g.T.Duplex.failures c.send_pending.new.stream.stream) (g.T.Duplex.failures c.read_piece.new.stream.stream) 0 0 (search (rules, c.send_pending.ensures.reported)) (search (rules, c.read_piece.ensures.reported)));
      keeps = keeps_then g.S.Store inv.keeps c.read_piece.ensures.keeps;
      may_end = not_of_stream (end_of c.read_piece.new.session).reason (g.W.Observer.account c.read_piece.new.observer) may;
      may = may;
      following = λ clean was old holds.
          let f = inv.following (c.read_piece.ensures.keeps.store.clean clean) was old holds in
          let sent_f = following-sent g.S.Store session c.args.store.now c.turns.store was old (exchange g.T.Read.remaining g.T.Write.contents c.args.stream.now.stream c.turns.stream.stream) inv.keeps.store.following f
          after (g.T.Read.remaining c.send_pending.new.stream.stream) (g.T.Write.contents c.send_pending.new.stream.stream) sent.0 sent.1 c.send_pending.ensures.apart sent.2 sent.4 (sent.3 c.if-not-send_pending.false) in
          following-read g.S.Store after c.read_piece.new.session c.args.store.now c.turns.store c.read_piece.new.store was old (exchange g.T.Read.remaining g.T.Write.contents c.args.stream.now.stream c.send_pending.new.stream.stream) (g.T.Read.remaining c.read_piece.new.stream.stream) (g.T.Write.contents c.read_piece.new.stream.stream) read.0
          sent_f inv.keeps.store.following going (c.read_piece.ensures.config) (omega (arith, read.1, long)) read.2 c.read_piece.ensures.apart (read.3 clean (database g.S.Store c.args.store.now).now.schema (record { was = was; old = old; read = sent_f.read; sent = sent_f.sent }) sent_f.stands);
    }

pub returns-in-AtEnd-clause-follows : goal.returns-in-AtEnd-clause-follows
returns-in-AtEnd-clause-follows g c clean was old holds =
    let session = c.turns.session in
    let inv = c.turns.invariant in
    let sent = c.send_pending.ensures.sent in
    let after = c.send_pending.new.session in
    let not_read : c.read_piece.result ≢ turn.Read = λ h. let bad : turn.AtEnd ≡ turn.Read = sym c.in-AtEnd.is ∙ h in cc in
    let still = c.read_piece.ensures.still not_read in
    let f = inv.following (c.read_piece.ensures.keeps.store.clean clean) was old holds in
    subst (λ s. Follows g.S.Store c.args.config c.args.store.now s was old (exchange g.T.Read.remaining g.T.Write.contents c.args.stream.now.stream c.read_piece.new.stream.stream) c.finish-in-AtEnd.result) (sym still.1)
    (follows-same g.S.Store session.config c.args.config c.args.store.now c.turns.store was old (exchange g.T.Read.remaining g.T.Write.contents c.args.stream.now.stream c.read_piece.new.stream.stream) (end_of session) c.finish-in-AtEnd.result inv.config
    (sym (c.finish-in-AtEnd.ensures.end ∙ ap (λ (s : Session). end_of s) still.0 ∙ sent.4.end))
    (follows-ended g.S.Store session c.args.store.now c.turns.store was old (exchange g.T.Read.remaining g.T.Write.contents c.args.stream.now.stream c.turns.stream.stream) inv.keeps.store.following f
    after (g.T.Read.remaining c.read_piece.new.stream.stream) (g.T.Write.contents c.read_piece.new.stream.stream) sent.0 sent.1 (Keeps-trans (g.T.Read.remaining c.turns.stream.stream) (g.T.Read.remaining c.send_pending.new.stream.stream) (g.T.Read.remaining c.read_piece.new.stream.stream) c.send_pending.ensures.apart still.3) (Appends-kept (g.T.Write.contents c.turns.stream.stream) (g.T.Write.contents c.send_pending.new.stream.stream) (g.T.Write.contents c.read_piece.new.stream.stream) sent.0 sent.2 c.read_piece.ensures.apart)
    sent.4 (sent.3 c.if-not-send_pending.false) inv.may_end (λ h. c.read_piece.ensures.at_end c.in-AtEnd.is)))

pub returns-in-Failed-clause-follows : goal.returns-in-Failed-clause-follows
returns-in-Failed-clause-follows g c clean was old holds =
    let session = c.turns.session in
    let inv = c.turns.invariant in
    let sent = c.send_pending.ensures.sent in
    let after = c.send_pending.new.session in
    let not_read : c.read_piece.result ≢ turn.Read = λ h. let bad : turn.Failed ≡ turn.Read = sym c.in-Failed.is ∙ h in cc in
    let still = c.read_piece.ensures.still not_read in
    let f = inv.following (c.read_piece.ensures.keeps.store.clean clean) was old holds in
    let none : after.ended ≡ None = none_after after.ended (some_after c.ended.result after.ended c.ended.ensures ∙ sym c.is_some.ensures ∙ c.if-is_some.false) in
    let at_end : (end_of session).reason ≡ EndOfInput =
    ap (λ (e : Ended). e.reason) (sym sent.4.end ∙ ap (λ (v : Option Ended). unwrap_or v (record { reason = EndOfInput; at = after.at; applied = after.applied })) none) in
    subst (λ s. Follows g.S.Store c.args.config c.args.store.now s was old (exchange g.T.Read.remaining g.T.Write.contents c.args.stream.now.stream c.read_piece.new.stream.stream) c.ended_with-in-Failed.result) (sym still.1)
    (follows-same g.S.Store session.config c.args.config c.args.store.now c.turns.store was old (exchange g.T.Read.remaining g.T.Write.contents c.args.stream.now.stream c.read_piece.new.stream.stream) (reported_as ReadFailed (end_of session)) c.ended_with-in-Failed.result inv.config
    (sym (c.ended_with-in-Failed.ensures ∙ ap (λ (s : Session). reported_as ReadFailed (end_of s)) still.0 ∙ ap (λ (e : Ended). reported_as ReadFailed e) sent.4.end))
    (follows-read_failed g.S.Store session c.args.store.now c.turns.store was old (exchange g.T.Read.remaining g.T.Write.contents c.args.stream.now.stream c.turns.stream.stream) inv.keeps.store.following f
    after (g.T.Read.remaining c.read_piece.new.stream.stream) (g.T.Write.contents c.read_piece.new.stream.stream) sent.0 sent.1 (Keeps-trans (g.T.Read.remaining c.turns.stream.stream) (g.T.Read.remaining c.send_pending.new.stream.stream) (g.T.Read.remaining c.read_piece.new.stream.stream) c.send_pending.ensures.apart still.3) (Appends-kept (g.T.Write.contents c.turns.stream.stream) (g.T.Write.contents c.send_pending.new.stream.stream) (g.T.Write.contents c.read_piece.new.stream.stream) sent.0 sent.2 c.read_piece.ensures.apart)
    sent.4 (sent.3 c.if-not-send_pending.false) at_end))

pub returns-then-sends_no_more-clause-asked : goal.returns-then-sends_no_more-clause-asked
returns-then-sends_no_more-clause-asked g c =
    asked c.finish.result.reason (g.W.Observer.account c.turns.observer) (subst (λ (e : Ended). MayEnd e.reason (g.W.Observer.account c.turns.observer)) (sym c.finish.ensures.end) c.turns.invariant.may)

pub returns-then-is_some-clause-asked : goal.returns-then-is_some-clause-asked
returns-then-is_some-clause-asked g c =
    asked c.finish-then-is_some.result.reason (g.W.Observer.account c.turns.observer)
    (subst (λ (e : Ended). MayEnd e.reason (g.W.Observer.account c.turns.observer)) (sym (c.finish-then-is_some.ensures.end ∙ c.send_pending.ensures.sent.4.end)) c.turns.invariant.may)

pub returns-in-AtEnd-clause-asked : goal.returns-in-AtEnd-clause-asked
returns-in-AtEnd-clause-asked g c =
    let not_read : c.read_piece.result ≢ turn.Read = λ h. let bad : turn.AtEnd ≡ turn.Read = sym c.in-AtEnd.is ∙ h in cc in
    let still = c.read_piece.ensures.still not_read in
    let same = sym (c.finish-in-AtEnd.ensures.end ∙ ap (λ (s : Session). end_of s) still.0 ∙ c.send_pending.ensures.sent.4.end) in
    asked c.finish-in-AtEnd.result.reason (g.W.Observer.account c.read_piece.new.observer)
    (subst (λ o. MayEnd c.finish-in-AtEnd.result.reason (g.W.Observer.account o)) (sym still.2) (subst (λ (e : Ended). MayEnd e.reason (g.W.Observer.account c.turns.observer)) same c.turns.invariant.may))

pub returns-then-is_done-clause-until : goal.returns-then-is_done-clause-until
returns-then-is_done-clause-until g c none =
    let session = c.new-session.result in
    let end : end_of session ≡ record { reason = EndOfInput; at = session.at; applied = session.applied } =
    ap (λ (v : Option Ended). unwrap_or v (record { reason = EndOfInput; at = session.at; applied = session.applied })) c.new-session.ensures.ended in (
      c.ended_with.ensures ∙ ap (λ (e : Ended). reported_as Until e) end
          ∙ (λ i. record { reason = Until; at = c.new-session.ensures.none.0 i; applied = c.new-session.ensures.none.1 i }),
      refl,
      refl,
      refl,
    )

pub returns-in_default-clause-until : goal.returns-in_default-clause-until
returns-in_default-clause-until g c none = absurd (false≢true (sym c.if-is_done.false ∙ c.is_done.ensures.done ∙ none))

pub returns-then-sends_no_more-clause-until : goal.returns-then-sends_no_more-clause-until
returns-then-sends_no_more-clause-until g c none = absurd (false≢true (sym c.if-is_done.false ∙ c.is_done.ensures.done ∙ none))

pub returns-then-not-send_pending-clause-until : goal.returns-then-not-send_pending-clause-until
returns-then-not-send_pending-clause-until g c none = absurd (false≢true (sym c.if-is_done.false ∙ c.is_done.ensures.done ∙ none))

pub returns-then-is_some-clause-until : goal.returns-then-is_some-clause-until
returns-then-is_some-clause-until g c none = absurd (false≢true (sym c.if-is_done.false ∙ c.is_done.ensures.done ∙ none))

pub returns-in-AtEnd-clause-until : goal.returns-in-AtEnd-clause-until
returns-in-AtEnd-clause-until g c none = absurd (false≢true (sym c.if-is_done.false ∙ c.is_done.ensures.done ∙ none))

pub returns-in-Failed-clause-until : goal.returns-in-Failed-clause-until
returns-in-Failed-clause-until g c none = absurd (false≢true (sym c.if-is_done.false ∙ c.is_done.ensures.done ∙ none))

pub returns-then-is_done-clause-keeps : goal.returns-then-is_done-clause-keeps
returns-then-is_done-clause-keeps g c = keeps_same g.S.Store

pub returns-in_default-clause-keeps : goal.returns-in_default-clause-keeps
returns-in_default-clause-keeps g c = keeps_same g.S.Store

pub returns-in-AtEnd-clause-keeps : goal.returns-in-AtEnd-clause-keeps
returns-in-AtEnd-clause-keeps g c = keeps_then g.S.Store c.turns.invariant.keeps c.read_piece.ensures.keeps

pub returns-in-Failed-clause-keeps : goal.returns-in-Failed-clause-keeps
returns-in-Failed-clause-keeps g c = keeps_then g.S.Store c.turns.invariant.keeps c.read_piece.ensures.keeps

pub returns-then-is_done-clause-failures : goal.returns-then-is_done-clause-failures
returns-then-is_done-clause-failures g c =
    subst (ReportsFailures g.T.Duplex.failures c.args.stream.now c.args.stream.now) (sym (ap (λ (e : Ended). e.reason) c.ended_with.ensures))
    (reports_none g.T.Duplex.failures c.args.stream.now c.args.stream.now Until tt refl refl (none_failed (g.T.Duplex.failures c.args.stream.now.stream)))

pub returns-in_default-clause-failures : goal.returns-in_default-clause-failures
returns-in_default-clause-failures g c =
    subst (ReportsFailures g.T.Duplex.failures c.args.stream.now c.args.stream.now) (sym (ap (λ (e : Ended). e.reason) c.ended_with-in_default.ensures))
    (reports_none g.T.Duplex.failures c.args.stream.now c.args.stream.now Memory tt refl refl (none_failed (g.T.Duplex.failures c.args.stream.now.stream)))

pub returns-then-sends_no_more-clause-failures : goal.returns-then-sends_no_more-clause-failures
returns-then-sends_no_more-clause-failures g c =
    let inv = c.turns.invariant in
    reports_none g.T.Duplex.failures c.args.stream.now c.turns.stream c.finish.result.reason (subst (λ (e : Ended). IsNoStreamFailure e.reason) (sym c.finish.ensures.end) inv.may_end) inv.reads inv.writes inv.reported

pub returns-then-not-send_pending-clause-failures : goal.returns-then-not-send_pending-clause-failures
returns-then-not-send_pending-clause-failures g c =
    let inv = c.turns.invariant in
    let start = g.T.Duplex.failures c.args.stream.now.stream in
    let before = g.T.Duplex.failures c.turns.stream.stream in
    let after = g.T.Duplex.failures c.send_pending.new.stream.stream in
    let reported : HaveFailed before after 0 1 = subst (λ (b : Bool). HaveFailed before after 0 (if b then 0 else 1)) c.if-not-send_pending.true c.send_pending.ensures.reported in
    let one : c.send_pending.new.stream.failed_writes ≡ c.turns.stream.failed_writes + 1 = subst (λ (b : Bool). c.send_pending.new.stream.failed_writes ≡ c.turns.stream.failed_writes + (if b then 0 else 1)) c.if-not-send_pending.true c.send_pending.ensures.writes in
    subst (ReportsFailures g.T.Duplex.failures c.args.stream.now c.send_pending.new.stream) (sym (ap (λ (e : Ended). e.reason) c.ended_with-then-not-send_pending.ensures))
    (reports g.T.Duplex.failures c.args.stream.now c.send_pending.new.stream WriteFailed (omega (arith, c.send_pending.ensures.reads, inv.reads)) (omega (arith, one, inv.writes)) (failed_later start before after 0 1 inv.reported reported))

pub returns-then-is_some-clause-failures : goal.returns-then-is_some-clause-failures
returns-then-is_some-clause-failures g c =
    let inv = c.turns.invariant in
    let start = g.T.Duplex.failures c.args.stream.now.stream in
    let before = g.T.Duplex.failures c.turns.stream.stream in
    let after = g.T.Duplex.failures c.send_pending.new.stream.stream in
    let reported : HaveFailed before after 0 0 = subst (λ (b : Bool). HaveFailed before after 0 (if b then 0 else 1)) c.if-not-send_pending.false c.send_pending.ensures.reported in
    let none : c.send_pending.new.stream.failed_writes ≡ c.turns.stream.failed_writes + 0 = subst (λ (b : Bool). c.send_pending.new.stream.failed_writes ≡ c.turns.stream.failed_writes + (if b then 0 else 1)) c.if-not-send_pending.false c.send_pending.ensures.writes in
    let may_end = subst (λ (e : Ended). IsNoStreamFailure e.reason) (sym (c.finish-then-is_some.ensures.end ∙ c.send_pending.ensures.sent.4.end)) inv.may_end in
    reports_none g.T.Duplex.failures c.args.stream.now c.send_pending.new.stream c.finish-then-is_some.result.reason may_end (c.send_pending.ensures.reads ∙ inv.reads) (omega (arith, none, inv.writes)) (failed_later start before after 0 0 inv.reported reported)

pub returns-in-AtEnd-clause-failures : goal.returns-in-AtEnd-clause-failures
returns-in-AtEnd-clause-failures g c =
    let inv = c.turns.invariant in
    let start = g.T.Duplex.failures c.args.stream.now.stream in
    let before = g.T.Duplex.failures c.turns.stream.stream in
    let mid = g.T.Duplex.failures c.send_pending.new.stream.stream in
    let after = g.T.Duplex.failures c.read_piece.new.stream.stream in
    let not_read : c.read_piece.result ≢ turn.Read = λ h. let bad : turn.AtEnd ≡ turn.Read = sym c.in-AtEnd.is ∙ h in cc in
    let still = c.read_piece.ensures.still not_read in
    let sent : HaveFailed before mid 0 0 = subst (λ (b : Bool). HaveFailed before mid 0 (if b then 0 else 1)) c.if-not-send_pending.false c.send_pending.ensures.reported in
    let none : c.send_pending.new.stream.failed_writes ≡ c.turns.stream.failed_writes + 0 = subst (λ (b : Bool). c.send_pending.new.stream.failed_writes ≡ c.turns.stream.failed_writes + (if b then 0 else 1)) c.if-not-send_pending.false c.send_pending.ensures.writes in
    let reported : HaveFailed mid after 0 0 = subst (λ (t : Turn). HaveFailed mid after (reads_failed t) 0) c.in-AtEnd.is c.read_piece.ensures.reported in
    let reads : c.read_piece.new.stream.failed_reads ≡ c.send_pending.new.stream.failed_reads + 0 = subst (λ (t : Turn). c.read_piece.new.stream.failed_reads ≡ c.send_pending.new.stream.failed_reads + reads_failed t) c.in-AtEnd.is c.read_piece.ensures.reads in
    let may_end = subst (λ (e : Ended). IsNoStreamFailure e.reason) (sym (c.finish-in-AtEnd.ensures.end ∙ ap (λ (s : Session). end_of s) still.0 ∙ c.send_pending.ensures.sent.4.end)) inv.may_end in
    reports_none g.T.Duplex.failures c.args.stream.now c.read_piece.new.stream c.finish-in-AtEnd.result.reason may_end (omega (arith, reads, c.send_pending.ensures.reads, inv.reads)) (omega (arith, c.read_piece.ensures.writes, none, inv.writes))
    (failed_later start before after 0 0 inv.reported (failed_later before mid after 0 0 sent reported))

pub returns-in-Failed-clause-failures : goal.returns-in-Failed-clause-failures
returns-in-Failed-clause-failures g c =
    let inv = c.turns.invariant in
    let start = g.T.Duplex.failures c.args.stream.now.stream in
    let before = g.T.Duplex.failures c.turns.stream.stream in
    let mid = g.T.Duplex.failures c.send_pending.new.stream.stream in
    let after = g.T.Duplex.failures c.read_piece.new.stream.stream in
    let sent : HaveFailed before mid 0 0 = subst (λ (b : Bool). HaveFailed before mid 0 (if b then 0 else 1)) c.if-not-send_pending.false c.send_pending.ensures.reported in
    let none : c.send_pending.new.stream.failed_writes ≡ c.turns.stream.failed_writes + 0 = subst (λ (b : Bool). c.send_pending.new.stream.failed_writes ≡ c.turns.stream.failed_writes + (if b then 0 else 1)) c.if-not-send_pending.false c.send_pending.ensures.writes in
    let reported : HaveFailed mid after 1 0 = subst (λ (t : Turn). HaveFailed mid after (reads_failed t) 0) c.in-Failed.is c.read_piece.ensures.reported in
    let reads : c.read_piece.new.stream.failed_reads ≡ c.send_pending.new.stream.failed_reads + 1 = subst (λ (t : Turn). c.read_piece.new.stream.failed_reads ≡ c.send_pending.new.stream.failed_reads + reads_failed t) c.in-Failed.is c.read_piece.ensures.reads in
    subst (ReportsFailures g.T.Duplex.failures c.args.stream.now c.read_piece.new.stream) (sym (ap (λ (e : Ended). e.reason) c.ended_with-in-Failed.ensures))
    (reports g.T.Duplex.failures c.args.stream.now c.read_piece.new.stream ReadFailed (omega (arith, reads, c.send_pending.ensures.reads, inv.reads)) (omega (arith, c.read_piece.ensures.writes, none, inv.writes))
    (failed_later start before after 1 0 inv.reported (failed_later before mid after 1 0 sent reported)))
