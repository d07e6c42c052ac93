use Rattle.store.proofs.Names.{◌≡◌, ap, ◌∙◌, name_list}
use Rattle.store.proofs.MoreNames.{both_are}
use Rattle.store.proofs.admit.both.Goals as goal

pub returns-in-Ok-clause-ok : goal.returns-in-Ok-clause-ok
returns-in-Ok-clause-ok c =
    (rw c.deref.ensures.value at c.in-Ok.ensures.ok)
    ∙ both_are (name_list c.new-all.result.items) (name_list c.append.new.all.items) (name_list c.append-2.new.all.items) (name_list c.names.result.now) (name_list c.names-2.result.now) c.args.following.now c.args.more.now
    (ap (λ l. name_list l) c.new-all.ensures.items) c.in_ok-append.ensures.ok c.in_ok-append-2.ensures.ok c.names.ensures.set c.names-2.ensures.set
