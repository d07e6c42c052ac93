-- What an opening reads of a file.
use Rattle.replica.proofs.Names.{◌≡◌, ◌<◌, ◌≤◌, ◌∷◌, ◌++◌, ℕ, Bool, List, Option, inl, inr, [], Some, length, take, true, false, refl, sym, ap, subst, ◌∙◌, arith, Image, Trees, Schema, Names, Content, IsLeft, FilesHold}
use Rattle.std.proofs.Common.{codes, slice_index, get_or-take, length-take}
use Rattle.std.specs.Prelude.{unwrap_or}
use Rattle.std.proofs.Math.Logic.{∥∥₁_elim}
use Rattle.sqlite_disk.specs.Events.{Event, Model, settled, replay}
use Rattle.sqlite_disk.specs.History.{MayLeave}
use Rattle.sqlite_wal.proofs.AppendLemmas.{some_value}
use Rattle.sqlite_wal.proofs.CreateLemmas.{begun_is_not_blank}
use Rattle.sqlite_pages.specs.PageMap.{PageMap}
use Rattle.sqlite_pool.specs.Header.{first_page}
use Rattle.sqlite_pool.specs.File.{header_in, IsSoundFile}
use Rattle.sqlite_pool.specs.Stored.{Adopts, stored_size, used_size, sealed}
use Rattle.sqlite_pool.specs.StoredLaws.{trimmed_some}
use Rattle.sqlite_pool.proofs.ProbeLemmas.{first_byte}
use Rattle.sqlite_trees.specs.Objects.{catalog_tree}
use Rattle.sqlite_trees.specs.Props.{Trees-set, rows_set}
use Rattle.sqlite.specs.Files.{HoldsDatabase, IsNothing, AreFoundIn}
use Rattle.sqlite_schema.specs.Names.{table_named}
use Rattle.sqlite.specs.Effect.{Database}
use Rattle.sqlite.specs.State.{State, Opens, Survives}
use Rattle.sqlite.specs.Start.{FindsIn}
use Rattle.sqlite.proofs.ListingLemmas.{empty_is_sound}
use Rattle.store.specs.Layout.{IsLaidOut, IsVacant, no_schema}
use Rattle.store.specs.Open.{nothing}
use Rattle.store.specs.Entering.{ReadsLeft}
use Rattle.replica.specs.File.{HoldNone, LeavesContent}

not_laid_out : (schema : Schema) → schema ≡ no_schema → ¬ IsLaidOut schema
not_laid_out schema none laid =
    let found : table_named no_schema (codes "held") ≡ Some laid.held.at = ap (λ s. table_named s (codes "held")) (sym none) ∙ laid.held.found.by_name in
    absurd (cc)

-- a page that begins as a database does is no shorter
sixteen : (size : ℕ) (page : List ℕ) → take 16 (take 100 (take size page)) ≡ codes "SQLite format 3" ++ 0 ∷ [] → (16 ≤ size) × (16 ≤ length page)
sixteen size page magic =
    let len : length (take 16 (take 100 (take size page))) ≡ 16 = ap length magic in
    let short = simp length-take at len in (omega (arith, short), omega (arith, short))

no_table : IsVacant no_schema
no_table = record {
  no_meta = refl;
  no_executed = refl;
  no_held = refl;
  no_spans = refl;
  no_follow = refl;
  held_free = tt;
  spans_free = tt;
  counted = refl;
  room = omega arith;
}

-- a file that was settled, and to which nothing has happened since
pub settled_model : (start : List ℕ) (key : ℕ) (events : List Event) → events ≡ settled key ∷ [] → replay start events ≡ record (replay start []) { is_usable = true; key = key }
settled_model start key events is = ap (replay start) is

-- a crash leaves it as it is
pub left_settled : (mixes : Bool) (start : List ℕ) (key : ℕ) (events : List Event) (after : List ℕ) → events ≡ settled key ∷ []
    → MayLeave mixes (replay start events).seen (replay start events).synced (replay start events).steps after → after ≡ start
left_settled mixes start key events after is may =
    let now : MayLeave mixes start start [] after = subst (λ (m : Model). MayLeave mixes m.seen m.synced m.steps after) (settled_model start key events is) may in
    elim now [ inl seen ↦ seen | inr synced ↦ synced ]

-- trees with nothing in them are those of a database to be made
left_empty : (only names : Names) (content : Content) (trees : Trees) → names ≡ only → content ≡ nothing → trees catalog_tree ≡ [] → IsLeft only names content trees
left_empty only names content trees names_is content_is none = record {
  db = record { schema = no_schema; trees = trees };
  trees_are = refl;
  sound = empty_is_sound trees none;
  of = inl ((no_table, content_is), names_is);
  spans_apart = λ laid. absurd (not_laid_out no_schema refl laid);
}

-- files that are adopted as a database hold something
pub adopted_is_something : (size : ℕ) (image : Image) (pages : PageMap) → Adopts size image pages → IsSoundFile size pages → ¬ IsNothing image
adopted_is_something size image pages found sound made =
    let (page, is) = some_value (found.stored 1) found.whole.first in
    let used : pages 1 ≡ Some (take size page) = ap (λ (p : PageMap). p 1) (sym found.shows) ∙ trimmed_some size _ 1 page is in
    let head : header_in pages ≡ take 100 (take size page) = ap (λ (o : Option (List ℕ)). take 100 (unwrap_or o [])) used in
    let magic : take 16 (take 100 (take size page)) ≡ codes "SQLite format 3" ++ 0 ∷ [] = ap (take 16) (sym head) ∙ sound.header.0.magic in
    let long : (16 ≤ size) × (16 ≤ length page) = sixteen size page magic in
    let byte : slice_index page 0 ≡ 83 =
    sym (get_or-take size page 0 0 (omega arith)) ∙ sym (get_or-take 100 (take size page) 0 0 (omega arith)) ∙ sym (get_or-take 16 (take 100 (take size page)) 0 0 (omega arith)) ∙ ap (λ (b : List ℕ). slice_index b 0) magic in
    let never = λ (other : ℕ) (some : 0 < other). let gate = first_byte other some in
    begun_is_not_blank (sealed (first_page other)) page (stored_size size) image found.stored found.found is (found.whole.sized 1 page is) (omega arith) (byte ∙ sym gate) (λ none. let bad = sym gate ∙ none in omega arith) in
    elim made [ inl plain ↦ never (used_size 4096 false) (omega arith) plain | inr summed ↦ never (used_size 4096 true) (omega arith) summed ]

-- where no database is in the files, what was found of them is empty
pub none_found : (image : Image) (trees : Trees) → HoldNone image → AreFoundIn image trees → ((db : Trees) → HoldsDatabase image db → trees ≡ db) → trees catalog_tree ≡ []
none_found image trees (inl made) (inl some) holds = absurd (∥∥₁_elim some.4 (λ a b. absurd a) (λ ours. adopted_is_something some.0 image some.1 some.3 ours.file.sound made))
none_found image trees (inl made) (inr empty) holds = empty.1.1
none_found image trees (inr held) found holds = ∥∥₁_elim held (rows_set _ _) (λ it. ap (λ (t : Trees). t catalog_tree) (holds it.0 it.1) ∙ it.2.1)

pub reads_left : (image : Image) (only names : Names) (content : Content) (s : State) → FilesHold only names content image → Opens s → FindsIn image s → ReadsLeft only names content s
reads_left image only names content s (inl none) opens found = record {
  is_open = opens.is_open;
  settled = opens.clean;
  left = left_empty only names content s.now.trees none.1 none.2 (ap (λ (db : Database). db.trees catalog_tree) opens.clean ∙ none_found image s.committed.trees none.0 found.reads found.holds);
}
reads_left image only names content s (inr some) opens found =
    let trees : s.committed.trees ≡ some.0 = ∥∥₁_elim some.1 (Trees-set _ _) (found.holds some.0) in
    record {
      is_open = opens.is_open;
      settled = opens.clean;
      left = subst (λ t. IsLeft only names content t) (sym trees ∙ ap (λ (db : Database). db.trees) (sym opens.clean)) some.2;
    }

-- a store that survives leaves what was there or what it made of it, which is the same content
pub leaves_left : (only names : Names) (content : Content) (s n : State) → ReadsLeft only names content s → ((trees : Trees) → s.may_leave trees → trees ≡ s.committed.trees) → Survives s n (IsLeft only names content)
    → LeavesContent only names content n
leaves_left only names content s n reads settled survives clean trees may = elim (survives.crash clean trees may) [
  | inl old ↦ subst (λ t. IsLeft only names content t) (ap (λ (db : Database). db.trees) reads.settled ∙ sym (settled trees old)) reads.left
  | inr new ↦ new
]
