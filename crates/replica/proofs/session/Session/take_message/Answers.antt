use Rattle.replica.proofs.Names.{◌≡◌, ◌+◌, unwrap_or, refl, sym, ap, subst, ◌∙◌, length, arith, IsInDump, next_due, due_at, due_of, end_of, HasEnded, Ended, EndOfInput, IsOwn, IsAnswered, EndsAt}
use Rattle.replica.specs.Standing.{parts_of, sends_on}
use Rattle.replica.proofs.PayloadSteps.{stands_going, stands_ended, nothing_taken, message_goes_on, message_ends_it, rest_length, not_dump, some-none}
use Rattle.replica.proofs.session.Session.take_message.Goals as goal

pub returns-in-Ok : goal.returns-in-Ok
returns-in-Ok c = record {
  config = refl;
  may_end = subst (λ v. IsOwn (unwrap_or {T = Ended} v (record { reason = EndOfInput; at = c.args.end; applied = c.args.self.now.applied })).reason) (sym c.requires.going) tt;
  further = λ _. (refl, ap (λ a. a.held) c.expect.ensures ∙ c.requires.between.0);
  takes = λ names pos is now executed ends meets.
      let s = c.args.self.now in
      let p = c.args.payload.now in
      let due : due_of s.phase ≡ due_at c.args.login = ap due_of c.requires.at_login in
      let n : IsInDump (due_of s.phase) → ⊥ = not_dump s.phase c.args.login c.requires.at_login in
      let same = executed ∙ ap (λ x. x.executed) (nothing_taken (parts_of s) names (sends_on pos s.out.items) is now p meets n) in
      let end_is : c.args.end ≡ s.at + length meets.reading.rest = ends ∙ ap (λ k. s.at + k) (sym (rest_length (parts_of s) names (sends_on pos s.out.items) is now p meets)) in
      stands_going _ names pos is now c.requires.going
      (subst (λ a. Rattle.replica.specs.Standing.GoesOn (record { settings = s.config; assembly = a; gatherer = s.gatherer; phase = c.in-Ok.phase; at = c.args.end; applied = s.applied }) names (sends_on pos c.answer.new.out.items) is now) (sym (c.expect.ensures ∙ ap (λ k. record s.assembler { due = k }) c.first_id.ensures))
      (message_goes_on (parts_of s) names (sends_on pos s.out.items) is now p meets c.in-Ok.phase c.args.end s.out.items s.out.items c.answer.new.out.items pos.sent n end_is (omega (arith, c.ranges.end.fits)) refl
      (subst (λ e. IsAnswered s.config names e (due_of s.phase) p s.out.items c.answer.new.out.items) same (subst (λ d. IsAnswered s.config names c.args.executed.now d p s.out.items c.answer.new.out.items) (sym due) (c.in-Ok.ensures.ok names)))
      (c.in-Ok.ensures.due ∙ ap (λ d. next_due d p) (sym due))));
}

pub returns-in-Err : goal.returns-in-Err
returns-in-Err c = record {
  config = ap (λ x. x.config) c.end.ensures;
  may_end = subst (λ x. IsOwn (end_of x).reason) (sym c.end.ensures) c.in-Err.ensures.may_end;
  further = λ none. absurd (some-none _ (sym (ap (λ x. x.ended) c.end.ensures) ∙ none));
  takes = λ names pos is now executed ends meets.
      let s = c.args.self.now in
      let p = c.args.payload.now in
      let due : due_of s.phase ≡ due_at c.args.login = ap due_of c.requires.at_login in
      let n : IsInDump (due_of s.phase) → ⊥ = not_dump s.phase c.args.login c.requires.at_login in
      let same = executed ∙ ap (λ x. x.executed) (nothing_taken (parts_of s) names (sends_on pos s.out.items) is now p meets n) in
      let end_is : c.args.end ≡ s.at + length meets.reading.rest = ends ∙ ap (λ k. s.at + k) (sym (rest_length (parts_of s) names (sends_on pos s.out.items) is now p meets)) in
      let end : Ended = record { reason = c.in-Err.reason; at = s.at; applied = s.applied } in
      stands_ended c.end.new.self names pos is now end (ap (λ x. x.ended) c.end.ensures)
      (subst (λ x. HasEnded x.config names (sends_on pos x.out.items) is now end) (sym c.end.ensures)
      (subst (λ l. HasEnded s.config names (sends_on pos l) is now end) (sym c.in-Err.ensures.kept)
      (message_ends_it (parts_of s) names (sends_on pos s.out.items) is now p meets c.in-Err.reason (omega (arith, end_is, c.ranges.end.fits))
      (subst (λ e. EndsAt names e (due_of s.phase) p c.in-Err.reason) same (subst (λ d. EndsAt names c.args.executed.now d p c.in-Err.reason) (sym due) (c.in-Err.ensures.err names))))));
}
