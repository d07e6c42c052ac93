use Rattle.replica.proofs.Names.{◌≡◌, ◌∙◌, inl, inr, false, Ok, ap, refl, subst, Ids, Names}
use Rattle.replica.proofs.ClearStore.{stays_whole, stays_listed}
use Rattle.replica.proofs.file.listing.list.Goals as goal

pub returns-in-Ok-true-clause-lists : goal.returns-in-Ok-true-clause-lists
returns-in-Ok-true-clause-lists g c clean content holds = record {
  new = content;
  leads = (
    inl (
      c.begin.new.self,
      subst (λ r. g.L.Lister.begun c.args.lister.now content.executed c.args.store.now.following r c.begin.new.self) (c.in-Ok-true.is ∙ ap Ok c.in-Ok-true.field-0-test)
          (subst (λ (names : Names). g.L.Lister.begun c.args.lister.now content.executed names c.begin.result c.begin.new.self) c.following.ensures
          (subst (λ (ids : Ids). g.L.Lister.begun c.args.lister.now ids c.following.result.now c.begin.result c.begin.new.self) (c.executed.ensures.value false content holds) c.begin.ensures)),
      (c.list.ensures.lists clean content holds).0,
    ),
    refl,
  );
  stays = stays_listed g.S.Store (λ h db is_open may. g.met.S.Store.settled h.store db is_open may) g.L.Visitor.row_gives c.args.store.now c.list.new.self content c.begin.new.self c.list.new.visitor c.list.result c.list.ensures.following
      (c.list.ensures.lists clean content holds) (c.list.ensures.crash clean content holds);
}

pub returns-in-Ok-false-clause-lists : goal.returns-in-Ok-false-clause-lists
returns-in-Ok-false-clause-lists g c clean content holds = record {
  new = content;
  leads = (
    inr (inl (
      subst (λ r. g.L.Lister.begun c.args.lister.now content.executed c.args.store.now.following r c.begin.new.self) (c.in-Ok-false.is ∙ ap Ok c.in-Ok-false.field-0-test)
          (subst (λ (names : Names). g.L.Lister.begun c.args.lister.now content.executed names c.begin.result c.begin.new.self) c.following.ensures
          (subst (λ (ids : Ids). g.L.Lister.begun c.args.lister.now ids c.following.result.now c.begin.result c.begin.new.self) (c.executed.ensures.value false content holds) c.begin.ensures)),
      refl,
    )),
    refl,
  );
  stays = stays_whole g.S.Store (λ h db is_open may. g.met.S.Store.settled h.store db is_open may) c.args.store.now content (λ left. left ≡ content) refl holds;
}

pub returns-in-Err-clause-lists : goal.returns-in-Err-clause-lists
returns-in-Err-clause-lists g c clean content holds = record {
  new = content;
  leads = (
    inr (inr (
      c.in-Err.cause,
      subst (λ r. g.L.Lister.begun c.args.lister.now content.executed c.args.store.now.following r c.begin.new.self) c.in-Err.is
          (subst (λ (names : Names). g.L.Lister.begun c.args.lister.now content.executed names c.begin.result c.begin.new.self) c.following.ensures
          (subst (λ (ids : Ids). g.L.Lister.begun c.args.lister.now ids c.following.result.now c.begin.result c.begin.new.self) (c.executed.ensures.value false content holds) c.begin.ensures)),
      refl,
    )),
    refl,
  );
  stays = stays_whole g.S.Store (λ h db is_open may. g.met.S.Store.settled h.store db is_open may) c.args.store.now content (λ left. left ≡ content) refl holds;
}
