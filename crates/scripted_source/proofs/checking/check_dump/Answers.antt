use Rattle.scripted_source.proofs.Names.{◌≡◌, ℕ, [], ◌∙◌, length, ap, sym, subst, arith, err_from_is_err_and, Asks, TakesPayload}
use Rattle.std.proofs.Common.{◌≤◌}
use Rattle.std.proofs.lemmas.List.{nil_from_length}
use Rattle.scripted_source.proofs.checking.check_dump.Goals as goal

none_left : (n : ℕ) → n ≤ 0 → n ≡ 0
none_left n h = omega (arith, h)

pub returns-in_err-command-clause-only : goal.returns-in_err-command-clause-only
returns-in_err-command-clause-only c executed last =
    let p = err_from_is_err_and c.from_residual.result c.from_residual.ensures.1 in
    rw (p.1, p.2) (c.in_err-command.ensures.only last.command [] last.taken)

pub returns-then-rest-gt0-clause-only : goal.returns-then-rest-gt0-clause-only
returns-then-rest-gt0-clause-only c executed last =
    let same = c.in_ok-command.ensures.only last.command [] last.taken in
    let none : length c.in_ok-command.rest.now ≡ 0 = ap length same.1 in
    absurd (omega arith)

pub returns-in_err-executed-clause-only : goal.returns-in_err-executed-clause-only
returns-in_err-executed-clause-only c executed last =
    let p = err_from_is_err_and c.from_residual-in_err-executed.result c.from_residual-in_err-executed.ensures.1 in
    let same = c.in_ok-command.ensures.only last.command [] last.taken in
    rw (p.1, p.2) (c.in_err-executed.ensures.only last.dump executed (subst (λ l. Asks l last.dump executed) (sym (c.deref.ensures.value ∙ same.0)) last.asks))

pub returns-clause-only : goal.returns-clause-only
returns-clause-only c executed last =
    let same = c.in_ok-command.ensures.only last.command [] last.taken in
    c.in_ok-executed.ensures.only last.dump executed (subst (λ l. Asks l last.dump executed) (sym (c.deref.ensures.value ∙ same.0)) last.asks)

pub returns-clause-found : goal.returns-clause-found
returns-clause-found c = record {
  command = c.in_ok-command.command.items;
  taken = subst (λ r. TakesPayload 0 c.args.bytes.now c.in_ok-command.command.items r) (nil_from_length c.in_ok-command.rest.now (none_left (length c.in_ok-command.rest.now) c.if-rest-gt0.false)) c.in_ok-command.ensures.found;
  dump = c.in_ok-executed.ensures.found.dump;
  asks = subst (λ l. Asks l c.in_ok-executed.ensures.found.dump c.in_ok-executed.executed) c.deref.ensures.value c.in_ok-executed.ensures.found.asks;
}
