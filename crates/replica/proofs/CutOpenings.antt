-- Openings that were cut.
use Rattle.replica.proofs.Names.{◌≡◌, ◌≤◌, ℕ, false, inl, inr, sym, subst, ◌∙◌, arith, IsTrue, cases_eq, false_from_ne_true, Files, Image, Trees, Names, Content, FilesHold}
use Rattle.std.proofs.Math.Logic.{∥∥₁_elim, ∥∥₁_map, ∥∥₁_prop}
use Rattle.sqlite_disk.specs.declared.Disk.{Ghosts}
use Rattle.sqlite_wal.specs.PageSize.{IsPageSize}
use Rattle.sqlite_wal.specs.Recovery.{IsIgnored}
use Rattle.sqlite_wal.specs.Recovery as raw
use Rattle.sqlite_pool.specs.Stored.{reserved, is_summed, stored_size, StandsAs}
use Rattle.sqlite_pool.proofs.ProbeLemmas.{size_by_log, size_by_file, reserved_word}
use Rattle.sqlite_trees.specs.Props.{Trees-set}
use Rattle.sqlite_store.specs.Unopened.{state_of}
use Rattle.sqlite.specs.Opening.{HoldsIn}
use Rattle.sqlite.specs.declared.file.Leftover.{Leftover}
use Rattle.sqlite.specs.declared.file.Leftover.TheVariants as left
use Rattle.sqlite.specs.Files.{HoldsDatabase, IsNothing, NamesSize, SaysSums, image_of, LeavesFiles}
use Rattle.sqlite.proofs.FileLemmas.{is_something}
use Rattle.replica.specs.File.{HoldNone, AreJustOpened, HaveNoSums, MayFindLeft}
use Rattle.replica.proofs.OpeningReads.{adopted_is_something}

no_sum : (size : ℕ) → is_summed size ≡ false → reserved size ≡ 0
no_sum size none = grind arith

-- an opening takes a database for one of its size, if this has no sums
same_size : (size taken : ℕ) (before : Image) (trees : Trees) → IsPageSize (stored_size size) → HoldsIn size before trees → is_summed size ≡ false
    → NamesSize before (stored_size taken) → (IsTrue (is_summed taken) → SaysSums (stored_size taken) before) → taken ≡ size
same_size size taken before trees valid held none named says =
    let plain : reserved size ≡ 0 = no_sum size none in
    let large : 504 ≤ size = omega (arith, valid.0) in
    let sound = held.ours.file.sound in
    let maybe : ¬ (¬ (stored_size taken ≡ stored_size size)) = λ never.
    let read = λ (seen : ¬ IsIgnored before.log). never (named.0 seen ∙ size_by_log size before held.pages held.found seen) in
    read (λ ignored. never (named.1 ignored ∙ size_by_file size before held.pages held.found large sound ignored)) in
    let stored : stored_size taken ≡ stored_size size = elim (cases_eq (stored_size taken) (stored_size size)) [ inl same ↦ same | inr other ↦ absurd (maybe other) ] in
    let unsummed : is_summed taken ≡ false = false_from_ne_true (is_summed taken) (λ summed.
    let word = reserved_word size before held.pages held.found large sound in
    let said = says summed held.found.stored word.0 (subst (λ n. raw.Recovers n before held.found.stored) (sym stored) held.found.found) word.1 (word.2 ∙ sym stored) in
    omega (arith, word.3, said)) in
    let same : reserved taken ≡ 0 = no_sum taken unsummed in
    omega (arith, stored)

-- what stands as a database does holds it
stands_held : (taken : ℕ) (before next : Image) (trees : Trees) → HoldsDatabase before trees → HaveNoSums before → NamesSize before (stored_size taken) → (IsTrue (is_summed taken) → SaysSums (stored_size taken) before)
    → StandsAs taken before next → HoldsDatabase next trees
stands_held taken before next trees (size, valid, held) sums named says stands =
    let same : taken ≡ size = same_size size taken before trees valid held (sums size trees held) named says in
    let now : StandsAs size before next = subst (λ n. StandsAs n before next) same stands in
    (size, valid, record { pages = held.pages; wanted = held.wanted; schema = held.schema; found = now.1 held.pages held.found; ours = held.ours; reads = held.reads; sound = held.sound })

module _ {D : Type 0} {g : Ghosts D} (files : Files D) (before : Image) (have : AreJustOpened g before files) where
  held_is_something : (trees : Trees) → ∥ HoldsDatabase before trees ∥₁ → ¬ IsNothing before
  held_is_something trees held nothing = absurd (∥∥₁_elim held (λ a b. absurd a) (λ it. is_something before trees it nothing))

  -- a database in the files is still there
  pub still_held : (next : Image) (left : Leftover D g) (trees : Trees) → ∥ HoldsDatabase before trees ∥₁ → LeavesFiles files left → MayFindLeft before left next → ∥ HoldsDatabase next trees ∥₁
  still_held next (left.Files now) trees held leaves may = subst (λ i. ∥ HoldsDatabase i trees ∥₁) (sym (have.left next (leaves next may))) held
  still_held next (left.Unopened now) trees held (inl none) may = absurd (held_is_something trees held (subst (λ i. IsNothing i) have.seen none.0))
  still_held next (left.Unopened now) trees held (inr some) may = elim (some.4 next may.1).same [
    | inl was ↦ subst (λ i. ∥ HoldsDatabase i trees ∥₁) (sym (have.left next was)) held
    | inr stands ↦ ∥∥₁_map held (λ it.
        stands_held (state_of now).page_size before next trees it may.0 (subst (λ i. NamesSize i (stored_size (state_of now).page_size)) have.seen some.1)
        (λ summed. subst (λ i. SaysSums (stored_size (state_of now).page_size) i) have.seen (some.3 summed)) (subst (λ i. StandsAs (state_of now).page_size i next) have.seen stands))
  ]
  still_held next (left.Store it) trees held leaves may =
      let found = leaves may.0 may.1 in
      let same : may.0 ≡ trees = ∥∥₁_elim held (Trees-set _ _) (λ h. found.1 trees (subst (λ i. HoldsDatabase i trees) (sym have.seen) h)) in
      subst (λ t. ∥ HoldsDatabase next t ∥₁) same may.2

  -- where there was none, there is none still
  pub still_none : (next : Image) (left : Leftover D g) → HoldNone before → LeavesFiles files left → MayFindLeft before left next → HoldNone next
  still_none next (left.Files now) none leaves may = subst (λ i. HoldNone i) (sym (have.left next (leaves next may))) none
  still_none next (left.Unopened now) none (inl made) may = elim (made.1 next may.1) [
    | inl was ↦ subst (λ i. HoldNone i) (sym (have.left next was)) none
    | inr under ↦ under
  ]
  still_none next (left.Unopened now) (inl nothing) (inr some) may = absurd (some.0 (subst (λ i. IsNothing i) (sym have.seen) nothing))
  still_none next (left.Unopened now) (inr held) (inr some) may = elim (some.4 next may.1).same [
    | inl was ↦ subst (λ i. HoldNone i) (sym (have.left next was)) (inr held)
    | inr stands ↦ inr (∥∥₁_map held (λ it. (
      it.0,
      stands_held (state_of now).page_size before next it.0 it.1 may.0 (subst (λ i. NamesSize i (stored_size (state_of now).page_size)) have.seen some.1)
          (λ summed. subst (λ i. SaysSums (stored_size (state_of now).page_size) i) have.seen (some.3 summed)) (subst (λ i. StandsAs (state_of now).page_size i next) have.seen stands),
      it.2,
    )))
  ]
  still_none next (left.Store it) (inl nothing) leaves may =
      let found = (leaves may.0 may.1).0 in
      elim found [
        | inl some ↦ absurd (∥∥₁_elim some.4 (λ a b. absurd a) (λ ours. adopted_is_something some.0 (image_of g files) some.1 some.3 ours.file.sound (subst (λ i. IsNothing i) (sym have.seen) nothing)))
        | inr empty ↦ inr (∥∥₁_map may.2 (λ h. (may.0, h, empty.1)))
      ]
  still_none next (left.Store it) (inr held) leaves may =
      let found = leaves may.0 may.1 in
      inr (∥∥₁_elim held ∥∥₁_prop (λ h.
      let same : may.0 ≡ h.0 = found.1 h.0 (subst (λ i. HoldsDatabase i h.0) (sym have.seen) h.1) in
      ∥∥₁_map may.2 (λ now. (h.0, subst (λ t. HoldsDatabase next t) same now, h.2))))

  -- what the files held they hold still
  pub still_hold : (only names : Names) (content : Content) (next : Image) (left : Leftover D g) → FilesHold only names content before → LeavesFiles files left → MayFindLeft before left next → FilesHold only names content next
  still_hold only names content next left (inl none) leaves may = inl (still_none next left none.0 leaves may, none.1, none.2)
  still_hold only names content next left (inr some) leaves may = inr (some.0, still_held next left some.0 some.1 leaves may, some.2)
