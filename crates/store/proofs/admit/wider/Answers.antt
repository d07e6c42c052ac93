use Rattle.store.proofs.Names.{◌≡◌, ◌==◌, true, false, IfOk, length, ne_eqb, sym, ap, subst, ◌∙◌}
use Rattle.std.specs.FinSet as set
use Rattle.store.proofs.MoreNames.{no_names, none_is, widened_all, widened_some}
use Rattle.store.proofs.admit.wider.Goals as goal

pub returns-then-names-eq0-clause-ok : goal.returns-then-names-eq0-clause-ok
returns-then-names-eq0-clause-ok c =
    let all : set.is_subset c.args.following.now set.empty ≡ true = sym (no_names c.names.result.now c.args.following.now c.names.ensures.set) ∙ ap (λ n. n == 0) c.if-names-eq0.true in
    c.all.ensures ∙ sym (none_is c.args.following.now all) ∙ sym (widened_all c.args.following.now c.args.more.now all)

pub returns-clause-ok : goal.returns-clause-ok
returns-clause-ok c =
    let some : set.is_subset c.args.following.now set.empty ≡ false = sym (no_names c.names.result.now c.args.following.now c.names.ensures.set) ∙ ne_eqb (length c.names.result.now) 0 c.if-names-eq0.false in
    subst (λ n. IfOk c.both.result (λ names. names ≡ n)) (sym (widened_some c.args.following.now c.args.more.now some)) c.both.ensures.ok
