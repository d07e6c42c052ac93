use Rattle.std.proofs.Common.{◌≡◌, ◌∷◌, [], ◌++◌, ◌∙◌, List, ℕ, ap, is_ok}
use Rattle.gather.specs.declared.changes.Entry.{Entry}
use Rattle.gather.proofs.ImagePacking.{packs}
use Rattle.gather.proofs.changes.append_change.Goals as goal

pub returns-clause-entries : goal.returns-clause-entries
returns-clause-entries c =
    let e : Entry = record { table = c.args.table; before = c.in_ok-size_of.field-0; after = c.in_ok-size_of-2.field-0 } in
    let entries : c.push_reserved.new.self.items ≡ c.args.entries.now.items ++ e ∷ [] = c.push_reserved.ensures.items ∙ ap (λ (l : List Entry). l ++ e ∷ []) c.reserve-2.ensures.items in
    let first : c.extend_from_slice.new.self.items ≡ c.args.images.now.items ++ c.args.before.now =
    (rw (ap is_ok c.unwrap.ensures) at c.extend_from_slice.ensures.items) ∙ ap (λ (l : List ℕ). l ++ c.args.before.now) c.reserve.ensures.items in
    let images : c.extend_from_slice-2.new.self.items ≡ c.extend_from_slice.new.self.items ++ c.args.after.now = rw (ap is_ok c.unwrap-2.ensures) at c.extend_from_slice-2.ensures.items in
    (packs c.args.entries.now.items c.args.images.now.items e c.args.before.now c.args.after.now c.in_ok-size_of.ensures.ok c.in_ok-size_of-2.ensures.ok c.requires.before c.requires.after c.requires.some c.requires.entries entries first images).0

pub returns-clause-ok : goal.returns-clause-ok
returns-clause-ok c =
    let e : Entry = record { table = c.args.table; before = c.in_ok-size_of.field-0; after = c.in_ok-size_of-2.field-0 } in
    let entries : c.push_reserved.new.self.items ≡ c.args.entries.now.items ++ e ∷ [] = c.push_reserved.ensures.items ∙ ap (λ (l : List Entry). l ++ e ∷ []) c.reserve-2.ensures.items in
    let first : c.extend_from_slice.new.self.items ≡ c.args.images.now.items ++ c.args.before.now =
    (rw (ap is_ok c.unwrap.ensures) at c.extend_from_slice.ensures.items) ∙ ap (λ (l : List ℕ). l ++ c.args.before.now) c.reserve.ensures.items in
    let images : c.extend_from_slice-2.new.self.items ≡ c.extend_from_slice.new.self.items ++ c.args.after.now = rw (ap is_ok c.unwrap-2.ensures) at c.extend_from_slice-2.ensures.items in
    (packs c.args.entries.now.items c.args.images.now.items e c.args.before.now c.args.after.now c.in_ok-size_of.ensures.ok c.in_ok-size_of-2.ensures.ok c.requires.before c.requires.after c.requires.some c.requires.entries entries first images).1
