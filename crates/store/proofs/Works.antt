-- No foreign key acts on a write of the store.
use Rattle.store.proofs.Names.{◌≡◌, ◌≢◌, ◌⊎◌, inl, inr, ℕ, ◌==◌, List, [], ◌∷◌, Bool, true, false, cond, ◌&&◌, Some, None, Option, length, refl, ap, ◌∙◌, ne_eqb, AllByRecursion, Row, Table, Schema, Reference, Enforced, parent_key, IsApart}
use Rattle.std.proofs.Common.{IfSome}
use Rattle.std.specs.List.{filter_map, flat_map}
use Rattle.sqlite_schema.specs.Rules.{ParentKey}
use Rattle.sqlite_rules.specs.declared.action.Deed.{Deed}
use Rattle.sqlite_rules.specs.Action.{Work, works, work_for, work_by, deed_for, pairs}

apart_by : (tree : ℕ) (moves : List (Row × Row)) (child : Table) (ref : Reference) (deed : Option Deed) (key : Option ParentKey) → IfSome key (λ k. k.0 ≢ tree) → work_by 0 tree moves child ref deed key ≡ None
apart_by tree moves child ref None key apart = refl
apart_by tree moves child ref (Some deed) None apart = refl
apart_by tree moves child ref (Some deed) (Some key) apart = rw (ne_eqb key.0 tree apart) refl

none_moved : (tree : ℕ) (child : Table) (ref : Reference) (deed : Option Deed) (key : Option ParentKey) → work_by 0 tree [] child ref deed key ≡ None
none_moved tree child ref None key = refl
none_moved tree child ref (Some deed) None = refl
none_moved tree child ref (Some deed) (Some key) = go (key.0 == tree) _
  where
    go : (b : Bool) (w : Work) → cond (b && false) (Some w) None ≡ None
    go true w = refl
    go false w = refl

module _ (schema : Schema) (tree : ℕ) (olds news : List Row) where
  abbrev may : Table → Type 0
  may child = (olds ≡ []) ⊎ AllByRecursion (λ ref. IfSome (parent_key schema.tables ref) (λ key. key.0 ≢ tree)) child.references

  of_ref : (child : Table) (ref : Reference) → (olds ≡ []) ⊎ IfSome (parent_key schema.tables ref) (λ key. key.0 ≢ tree) → work_for schema Enforced 0 tree olds news child ref ≡ None
  of_ref child ref (inl none) = ap (λ l. work_by 0 tree (pairs l news) child ref (deed_for Enforced (length news == 0) ref) (parent_key schema.tables ref)) none ∙ none_moved tree child ref _ _
  of_ref child ref (inr apart) = apart_by tree (pairs olds news) child ref _ (parent_key schema.tables ref) apart

  of_refs : (child : Table) (refs : List Reference) → (olds ≡ []) ⊎ AllByRecursion (λ ref. IfSome (parent_key schema.tables ref) (λ key. key.0 ≢ tree)) refs → filter_map (work_for schema Enforced 0 tree olds news child) refs ≡ []
  of_refs child [] h = refl
  of_refs child (ref ∷ refs) (inl none) = rw (of_ref child ref (inl none)) (of_refs child refs (inl none))
  of_refs child (ref ∷ refs) (inr all) = rw (of_ref child ref (inr all.0)) (of_refs child refs (inr all.1))

  of_tables : (tables : List Table) → (olds ≡ []) ⊎ AllByRecursion (IsApart schema tree) tables → flat_map (λ child. filter_map (work_for schema Enforced 0 tree olds news child) child.references) tables ≡ []
  of_tables [] h = refl
  of_tables (t ∷ tables) (inl none) = rw (of_refs t t.references (inl none)) (of_tables tables (inl none))
  of_tables (t ∷ tables) (inr all) = rw (of_refs t t.references (inr all.0)) (of_tables tables (inr all.1))

-- nothing is taken out, or no table refers to the one that is written
pub no_works : (schema : Schema) (tree : ℕ) (olds news : List Row) → (olds ≡ []) ⊎ AllByRecursion (IsApart schema tree) schema.tables → works schema Enforced 0 tree olds news ≡ []
no_works schema tree olds news h = of_tables schema tree olds news schema.tables h
