use Rattle.std.proofs.lemmas.Result.{on_ok_weaker}
use Rattle.gather.proofs.ImagePacking.{pushes_insert, pushes_delete, pushes_update}
use Rattle.gather.proofs.changes.append_pair.Goals as goal

pub returns-in_ok-after-in-Insert-clause-ok : goal.returns-in_ok-after-in-Insert-clause-ok
returns-in_ok-after-in-Insert-clause-ok c = λ id.
    let has = rw c.in-Insert.is at c.requires.images in
    let image = c.in_ok-after-in-Insert.ensures in
    rw c.in-Insert.is
    (on_ok_weaker c.push_entry.result (pushes_insert c.args.entries.now.items c.args.images.now.items c.requires.entries c.args.table.value c.in_ok-after-in-Insert.after c.in-Insert.after has image.size image.image)
    c.push_entry.ensures.ok)

pub returns-in_ok-before-in-Delete-clause-ok : goal.returns-in_ok-before-in-Delete-clause-ok
returns-in_ok-before-in-Delete-clause-ok c = λ id.
    let has = rw c.in-Delete.is at c.requires.images in
    let image = c.in_ok-before-in-Delete.ensures in
    rw c.in-Delete.is
    (on_ok_weaker c.push_entry-in-Delete.result
    (pushes_delete c.args.entries.now.items c.args.images.now.items c.requires.entries c.args.table.value c.in_ok-before-in-Delete.before c.in-Delete.before has image.size image.image) c.push_entry-in-Delete.ensures.ok)

pub returns-in_ok-after-in-Update-clause-ok : goal.returns-in_ok-after-in-Update-clause-ok
returns-in_ok-after-in-Update-clause-ok c = λ id.
    let has = rw c.in-Update.is at c.requires.images in
    let first = c.in_ok-before-in-Update.ensures in
    let second = c.in_ok-after-in-Update.ensures in
    rw c.in-Update.is
    (on_ok_weaker c.push_entry-in-Update.result
    (pushes_update c.args.entries.now.items c.args.images.now.items c.requires.entries c.args.table.value c.in_ok-before-in-Update.before c.in_ok-after-in-Update.after c.in-Update.before c.in-Update.after has.0 has.1 first.size second.size first.image second.image)
    c.push_entry-in-Update.ensures.ok)
