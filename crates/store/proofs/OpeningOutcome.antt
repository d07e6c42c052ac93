-- What opening a database comes to.
use Rattle.store.proofs.Names.{◌≡◌, inl, inr, Option, None, Some, arith, refl, sym, subst, ◌∙◌, Trees, State, Survives, IsUnchanged, HasCleanDisk, survives_then, Ids, Names, IsVacant, StandsFor, StandsForFirst, LiesBeside, IsAtRest, Rests, MayStandFor, IsReady, IsTurned, IsWanted, MayEnter, names_for}
use Rattle.std.proofs.Common.{IsSome}
use Rattle.sqlite.specs.Effect.{Database as Stored}
use Rattle.store.specs.declared.fault.StoreFault.TheVariants.{Follows}
use Rattle.store.specs.Load.{IsLoaded, IsFirstLoaded}
use Rattle.store.proofs.BesideStays.{beside_unchanged}
use Rattle.store.specs.Open.{nothing, all, IsBlank, MayMigrate}
use Rattle.store.specs.Entering.{IsEntered}
use Rattle.store.proofs.PlainQueries.{rests_unchanged}

pub weaken : (a b : State) (P Q : Trees → Type 0) → ((db : Trees) → P db → Q db) → Survives a b P → Survives a b Q
weaken a b P Q f s = record {
  clean = s.clean;
  shield = s.shield;
  counts = s.counts;
  limit = s.limit;
  closes = s.closes;
  crash = λ clean db left. elim (s.crash clean db left) [ inl was ↦ inl was | inr made ↦ inr (f db made) ];
}

pub blank : (s : State) → IsReady s → IsVacant s.now.schema → IsBlank s
blank s ready none = record { is_open = ready.is_open; settled = ready.settled; vacant = none }

-- the names that a new database is made for are wanted
wanted_new : (only : Option Names) (following : Names) → following ≡ names_for only → IsWanted only following
wanted_new None following same = tt
wanted_new (Some names) following same = same

-- where some names will not do, others are wanted
pub some_wanted : (only : Option Names) (names : Names) → (¬ IsWanted only names) → IsSome only
some_wanted None names other = absurd (other tt)
some_wanted (Some wanted) names other = refl

pub entered_new : (only : Option Names) (following : Names) (executed : Ids) (old new : State) → IsVacant old.now.schema → following ≡ names_for only → executed ≡ nothing.executed
    → IsAtRest new following nothing × LiesBeside old.now new.now → IsEntered only old new executed following
entered_new only following executed old new none same empty rest = record {
  content = nothing;
  of = inl ((none, refl), same);
  rest = rest.0;
  executed_is = empty;
  wanted = wanted_new only following same;
  beside = rest.1;
  same = λ l. let bad = sym none.no_meta ∙ l.meta.found.by_name in absurd (cc);
}

pub may_new : (only following : Names) (old new : State) → IsVacant old.now.schema → following ≡ only → Survives old new (MayStandFor old.now following nothing) → Survives old new (MayEnter only old)
may_new only following old new none same s = weaken old new (MayStandFor old.now following nothing) (MayEnter only old) (λ db may. record { names = following; content = nothing; of = inl ((none, refl), same); may = may }) s

pub rests_after : (old mid new : State) → IsUnchanged old mid → Rests mid new → Rests old new
rests_after old mid new same rests is_open = let r = rests is_open in (r.0 ∙ same.0.now_is, r.1 ∙ same.0.committed_is)

-- ---- layout 1
module _ (only : Option Names) (following : Names) (executed : Ids) (old mid new : State) where
  stood_first : IsUnchanged old mid → (l : IsFirstLoaded mid executed) → StandsForFirst old.now l.content
  stood_first same l = subst (λ (db : Stored). StandsForFirst db l.content) same.0.now_is l.rest.stands

  pub entered_first : IsUnchanged old mid → (l : IsFirstLoaded mid executed) → following ≡ all → IsWanted only following → IsAtRest new all l.content × LiesBeside mid.now new.now → IsEntered only old new executed following
  entered_first same l is wanted rest = record {
    content = l.content;
    of = inr (inr (is, stood_first same l));
    rest = subst (λ n. IsAtRest new n l.content) (sym is) rest.0;
    executed_is = l.executed_is;
    wanted = wanted;
    beside = subst (λ (db : Stored). LiesBeside db new.now) same.0.now_is rest.1;
    same = λ laid. let bad = sym (stood_first same l).laid_out.no_spans ∙ laid.spans.found.by_name in absurd (cc);
  }

  pub other_first : IsUnchanged old mid → IsFirstLoaded mid executed → following ≡ all → (¬ IsWanted only following) → IsTurned only old mid Follows
  other_first same l is other = ((following, l.content, inr (is, stood_first same l), other), rests_unchanged old mid same)

  pub may_first : Survives old mid (λ _. ⊥) → Survives mid new (MayMigrate mid executed) → (HasCleanDisk mid → IsUnchanged old mid) → (HasCleanDisk mid → IsFirstLoaded mid executed) → Survives old new (MayEnter (names_for only) old)
  may_first one two same loaded =
      survives_then old mid new (λ _. ⊥) (MayMigrate mid executed) (MayEnter (names_for only) old) (λ _ db none. absurd none)
      (λ clean db may.
      let early : HasCleanDisk mid = omega (arith, two.clean, clean) in
      let l = loaded early in
      record { names = all; content = l.content; of = inr (inr (refl, stood_first (same early) l)); may = subst (λ (b : Stored). MayStandFor b all l.content db) (same early).0.now_is (may l.content l.rest l.executed_is) })
      one two

-- ---- layout 2
module _ (only : Option Names) (following : Names) (executed : Ids) (old new : State) where
  stood : IsUnchanged old new → (l : IsLoaded new executed following) → StandsFor old.now following l.content
  stood same l = subst (λ (db : Stored). StandsFor db following l.content) same.0.now_is l.rest.stands

  pub entered_second : IsUnchanged old new → IsLoaded new executed following → IsWanted only following → IsEntered only old new executed following
  entered_second same l wanted = record {
    content = l.content;
    of = inr (inl (stood same l));
    rest = l.rest;
    executed_is = l.executed_is;
    wanted = wanted;
    beside = beside_unchanged old.now new.now same.0.now_is;
    same = λ _. same.0.now_is;
  }

  pub other_second : IsUnchanged old new → IsLoaded new executed following → (¬ IsWanted only following) → IsTurned only old new Follows
  other_second same l other = ((following, l.content, inl (stood same l), other), rests_unchanged old new same)
