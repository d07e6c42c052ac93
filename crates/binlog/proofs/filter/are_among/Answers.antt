use Rattle.binlog.proofs.Names.{◌≡◌, false, true, take, sym, subst, ◌∙◌, arith, false≢true, take_all, is_named_in, AreAmong, name_list}
use Rattle.std.proofs.lemmas.Grind.{common_steps}
use Rattle.binlog.proofs.SameNames.{among_more, among_at, one_on}
use Rattle.binlog.proofs.filter.are_among.Goals as goal

pub loop-name-init : goal.loop-name-init
loop-name-init c = tt

pub returns-then-not-is_listed-clause-some : goal.returns-then-not-is_listed-clause-some
returns-then-not-is_listed-clause-some c never all =
    let of = name_list c.args.of.now in
    let x = c.name-item.result in
    let asked : is_named_in (x.0.items, x.1.items) of ≡ false = rw (c.deref.ensures.value, c.deref-in-loop-name.ensures.value) at (sym c.is_listed.ensures ∙ c.if-not-is_listed.true) in
    false≢true (sym asked ∙ among_at of c.args.names.now c.loop-name.name-index x (grind (arith, common_steps)) c.name-item.is all)

pub loop-name-preserved : goal.loop-name-preserved
loop-name-preserved c =
    let of = name_list c.args.of.now in
    let x = c.name-item.result in
    let asked : is_named_in (x.0.items, x.1.items) of ≡ true = rw (c.deref.ensures.value, c.deref-in-loop-name.ensures.value) at (sym c.is_listed.ensures ∙ c.if-not-is_listed.false) in
    subst (λ k. AreAmong (name_list (take k c.args.names.now)) of) (one_on c.loop-name.name-index) (among_more of c.args.names.now c.loop-name.name-index x (grind (arith, common_steps)) c.name-item.is c.loop-name.invariant asked)

pub returns-clause-all : goal.returns-clause-all
returns-clause-all c good = subst (λ l. AreAmong (name_list l) (name_list c.args.of.now)) (take_all c.loop-name.name-index c.args.names.now (grind (arith, common_steps))) c.loop-name.invariant
