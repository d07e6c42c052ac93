use Rattle.std.proofs.Common.{◌≡◌, ℕ, List, take, drop, arith, subst, sym, ◌∙◌}
use Rattle.std.proofs.lemmas.List.{take-append-drop, drop_all}
use Rattle.replica.specs.Follow.{HandsOut}
use Rattle.replica.proofs.FollowEnds.{same_turns}
use Rattle.replica.proofs.source.following.send_pending.Goals as goal

pub returns-clause-sent : goal.returns-clause-sent
returns-clause-sent g c =
    let out = c.take_out-out.result.items in
    let n = c.send_all.ensures.sent.0 in
    let same : c.as_slice.result.now ≡ out = c.as_slice.ensures.value in
    let hands : HandsOut c.args.session.now c.take_out-out.new.self out = record {
      stands = c.take_out-out.ensures.stands;
      sent = c.take_out-out.ensures.sent;
      config = c.take_out-out.ensures.config;
      ended = c.take_out-out.ensures.ended;
      end = c.take_out-out.ensures.end;
      turns = same_turns c.args.session.now c.take_out-out.new.self c.take_out-out.ensures.ended c.take_out-out.ensures.room;
    } in (
      take n c.as_slice.result.now,
      drop n c.as_slice.result.now,
      c.send_all.ensures.sent.2,
      (λ h. drop_all n c.as_slice.result.now (omega (arith, c.send_all.ensures.sent.3 h))),
      subst (λ (l : List ℕ). HandsOut c.args.session.now c.take_out-out.new.self l) (sym (take-append-drop n c.as_slice.result.now ∙ same)) hands,
    )
