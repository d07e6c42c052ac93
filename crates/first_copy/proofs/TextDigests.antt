-- What was read of a text, and what is hashed of it.
use Rattle.first_copy.proofs.Names.{◌≡◌, ℕ, Bool, true, false, List, [], ◌++◌, Option, Some, None, subst, sym, ap, ◌∙◌, append-nil, append_assoc, IfSome, Consumes, prepend_known, Sha1, DescribedTable, Ids, DeliveryValue, IsGiven, IsFinished}
use Rattle.std.specs.Prelude.{IfNone, is_some, not}
use Rattle.std.proofs.lemmas.Bool.{true≢false, false≢true}
use Rattle.std.proofs.KnownBytes.{Consumes-nil, Consumes-trans}
use Rattle.sha1.specs.Sha1.{Holds, sha1}
use Rattle.first_copy.specs.CopySources.{IsMadeOf}

-- These bytes were read, and hashed.
pub record HasHashed (text left : Option (List ℕ)) (hasher : Sha1) : Type 0 where
  pub read : List ℕ
  pub consumes : Consumes text left read
  pub holds : Holds hasher read

-- These bytes were taken, and hashed after those before.
pub record HasTaken (text left : Option (List ℕ)) (hasher new_hasher : Sha1) : Type 0 where
  pub lines : List ℕ
  pub took : Consumes text left lines
  pub hashed : (m : List ℕ) → Holds hasher m → Holds new_hasher (m ++ lines)

pub none_taken : (text : Option (List ℕ)) (hasher : Sha1) → HasTaken text text hasher hasher
none_taken text hasher = record { lines = []; took = Consumes-nil text; hashed = λ m holds. subst (λ (x : List ℕ). Holds hasher x) (sym (append-nil m)) holds }

pub one_taken : (tables : List DescribedTable) (source : List ℕ) (given rows new_given new_rows : ℕ) (d : DeliveryValue) (text mid left : Option (List ℕ)) (hasher mid_hasher new_hasher : Sha1)
    → HasTaken text mid hasher mid_hasher → IsGiven tables source given rows new_given new_rows mid left mid_hasher new_hasher d → HasTaken text left hasher new_hasher
one_taken tables source given rows new_given new_rows d text mid left hasher mid_hasher new_hasher so_far it = record {
  lines = so_far.lines ++ it.lines;
  took = Consumes-trans text mid left so_far.lines it.lines so_far.took it.took;
  hashed = λ m holds. subst (λ (x : List ℕ). Holds new_hasher x) (append_assoc m so_far.lines it.lines) (it.hashed (m ++ so_far.lines) (so_far.hashed m holds));
}

pub all_taken : (given rows new_given new_rows : ℕ) (text mid : Option (List ℕ)) (hasher mid_hasher new_hasher : Sha1)
    → HasTaken text mid hasher mid_hasher → IsFinished given rows new_given new_rows mid mid_hasher new_hasher → (m : List ℕ) → Holds hasher m → IfSome text (λ rest. Holds new_hasher (m ++ rest))
all_taken given rows new_given new_rows None mid hasher mid_hasher new_hasher so_far it m holds = tt
all_taken given rows new_given new_rows (Some xs) None hasher mid_hasher new_hasher so_far it m holds = absurd so_far.took
all_taken given rows new_given new_rows (Some xs) (Some ys) hasher mid_hasher new_hasher so_far it m holds =
    subst (λ (x : List ℕ). Holds new_hasher (m ++ x)) (sym so_far.took)
    (subst (λ (x : List ℕ). Holds new_hasher x) (append_assoc m so_far.lines ys) (it.hashed (m ++ so_far.lines) (so_far.hashed m holds)))

-- the source is made of the digest of all that was left
pub made_of : (ids : Ids) (source digest described : List ℕ) (left text : Option (List ℕ)) (hasher : Sha1) → text ≡ prepend_known [] left → IsMadeOf ids source digest described → IfSome text (λ rest. Holds hasher rest) → ((m : List ℕ) → Holds hasher m → digest ≡ sha1 m)
    → IfSome left (λ lines. IsMadeOf ids source (sha1 lines) described)
made_of ids source digest described None text hasher is made holds hashes = tt
made_of ids source digest described (Some lines) text hasher is made holds hashes =
    subst (λ (x : List ℕ). IsMadeOf ids source x described) (hashes lines (subst (λ (t : Option (List ℕ)). IfSome t (λ rest. Holds hasher rest)) is holds)) made

-- what `is_none` says of an option
pub of_none : {D : Type 0} (next : Option D) (none : Bool) (X : Type 0) → is_some next ≡ not none → none ≡ true → IfNone next X → X
of_none None none X says is h = h
of_none (Some d) none X says is h = absurd (true≢false (says ∙ ap not is))

pub of_some : {D : Type 0} (next : Option D) (none : Bool) (P : D → Type 0) → is_some next ≡ not none → none ≡ false → IfSome next P → (d : D) × P d
of_some (Some d) none P says is h = (d, h)
of_some None none P says is h = absurd (false≢true (says ∙ ap not is))
