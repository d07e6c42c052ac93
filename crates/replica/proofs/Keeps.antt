-- What a call keeps that may change a store: of one that does nothing, and of one after another.
use Rattle.replica.proofs.Names.{◌≡◌, ◌≢◌, ◌∙◌, Option, List, [], ◌∷◌, ◌++◌, Bool, false, refl, sym, subst, Ghosts, HasCleanDisk, Ids, Content, Store, HoldsAs, database, Ended, Account, HasNotices, WasMissing, IsLedSinceOpening, ended, KeepsStore, KeepsObserved, KeepsSinceOpening}
use Rattle.std.specs.Prelude.{not}
use Rattle.store.specs.Store.{IsBroken, names_of}
use Rattle.replica.specs.Noted.{HasNoNotice, HasGrown, HasBeenNoted, Notice, Excludes, opened, connected}
use Rattle.replica.proofs.ObserverEnds.{still}
use Rattle.replica.proofs.Notices.{noted_none, noted_more, led_nowhere, led_to_source, led_through, led_to_end, since_from, since_through, no_notice}
use Rattle.replica.proofs.WaitSets.{missing_later}

pub grown_more : (first middle last : Account) → HasGrown first middle → HasGrown middle last → HasGrown first last
grown_more first middle last a b = (a.0 ++ b.0, noted_more first.noted middle.noted last.noted a.0 b.0 a.1 b.1)

module _ {S : Type 0} (g : Ghosts S) where
  pub store_same : {store : Store S g} → KeepsStore g store store
  store_same = record { following = refl; broken = λ b. refl; clean = λ clean. clean }

  pub store_then : {first middle last : Store S g} → KeepsStore g first middle → KeepsStore g middle last → KeepsStore g first last
  store_then {first} {middle} {last} a b = record {
    following = b.following ∙ a.following;
    broken = λ h. still (IsBroken g) first middle last (a.broken h) h b.broken;
    clean = λ clean. a.clean (b.clean clean);
  }

  -- ---- of a call that reports to an observer

  -- where the store stays as it is, and nothing is reported of a transaction
  pub keeps_noticed : {store : Store S g} {was is : Account} → HasNoNotice was is → KeepsObserved g store store was is []
  keeps_noticed {store} {was} {is} noticed = record {
    store = store_same;
    stays = noticed.stays;
    heeds = λ broken content holds on. refl;
    grows = ([], subst (λ (n : Option (List Notice)). HasBeenNoted was.noted n []) (sym noticed.noted) (noted_none was.noted));
    notes = λ clean broken content holds. led_nowhere g broken content store was is holds noticed;
  }

  -- where that the source was reached is reported
  pub keeps_connected : {store : Store S g} {was is : Account} → HasNotices was is (connected ∷ []) → KeepsObserved g store store was is []
  keeps_connected {store} {was} {is} noticed = record {
    store = store_same;
    stays = noticed.stays;
    heeds = λ broken content holds on. refl;
    grows = (connected ∷ [], noticed.noted);
    notes = λ clean broken content holds. led_to_source g broken content store was is holds noticed;
  }

  -- where nothing is done
  pub keeps_same : {store : Store S g} {is : Account} → KeepsObserved g store store is is []
  keeps_same {store} {is} = keeps_noticed no_notice

  -- where the end of a connection is reported
  pub keeps_ended : {store : Store S g} {was is : Account} {end : Ended} {goes_on : Bool} → HasNotices was is (ended end goes_on ∷ []) → goes_on ≡ not is.has_stopped → KeepsObserved g store store was is (end ∷ [])
  keeps_ended {store} {was} {is} {end} {goes_on} noticed asks = record {
    store = store_same;
    stays = noticed.stays;
    heeds = λ broken content holds on. refl;
    grows = (ended end goes_on ∷ [], noticed.noted);
    notes = λ clean broken content holds. led_to_end g broken content store end goes_on was is holds noticed asks;
  }

  pub keeps_then : {first middle last : Store S g} {t0 t1 t2 : Account} {ends : List Ended} → KeepsObserved g first middle t0 t1 [] → KeepsObserved g middle last t1 t2 ends → KeepsObserved g first last t0 t2 ends
  keeps_then {first} {middle} {last} {t0} {t1} {t2} {ends} a b = record {
    store = store_then a.store b.store;
    stays = λ on. b.stays (a.stays on);
    heeds = λ broken content holds on. still (HoldsAs g broken content) first middle last (a.heeds broken content holds on) holds (λ h. b.heeds broken content h (a.stays on));
    grows = grown_more t0 t1 t2 a.grows b.grows;
    notes = λ clean broken content holds.
        led_through g broken content first middle last t0 t1 t2 [] ends a.store.following (λ some. absurd (some refl)) (a.notes (b.store.clean clean) broken content holds) (λ is now held. b.notes clean is now held);
  }

  -- ---- since a store was opened

  -- something is missing of what the observer waited for
  abbrev pub MissesSince : Store S g → Store S g → Account → Account → Type 0
  MissesSince first last was is = HasCleanDisk (database g last) → (broken : Bool) (content : Content) → HoldsAs g broken content first → WasMissing was.waits is.waits content.executed

  pub since_opened : {store : Store S g} {was is : Account} {ids : Ids} → ((broken : Bool) (content : Content) → HoldsAs g broken content store → ids ≡ content.executed) → HasNotices was is (opened ids ∷ []) → Excludes was ids (names_of g store) is → KeepsSinceOpening g store store was is []
  since_opened {store} {was} {is} {ids} same noticed excludes = record {
    store = store_same;
    stays = noticed.stays;
    heeds = λ broken content holds on. refl;
    notes = λ clean broken content holds. since_from g broken content store ids was is holds (same broken content holds) noticed excludes;
  }

  pub misses_then : {first middle last : Store S g} {t0 t1 t2 : Account} {ends more : List Ended} → KeepsSinceOpening g first middle t0 t1 ends → KeepsObserved g middle last t1 t2 more → MissesSince first middle t0 t1 → MissesSince first last t0 t2
  misses_then {first} {middle} {last} {t0} {t1} {t2} a b missed clean broken content holds =
      let led = a.notes (b.store.clean clean) broken content holds in
      let next = b.notes clean led.now_broken led.new led.holds in
      missing_later t0.waits t1.waits t2.waits next.led.noted_of.notices content.executed next.led.noted_of.waits (missed (b.store.clean clean) broken content holds)

  -- then comes a call with more ends; the first of them was read only if something was missing
  pub since_then : {first middle last : Store S g} {t0 t1 t2 : Account} {ends more all : List Ended} → (ends ≢ [] → t1.has_stopped ≡ false) → all ≡ ends ++ more → (all ≢ [] → MissesSince first middle t0 t1)
      → KeepsSinceOpening g first middle t0 t1 ends → KeepsObserved g middle last t1 t2 more → KeepsSinceOpening g first last t0 t2 all
  since_then {first} {middle} {last} {t0} {t1} {t2} {ends} {more} {all} going same missed a b = record {
    store = store_then a.store b.store;
    stays = λ on. b.stays (a.stays on);
    heeds = λ broken content holds on. still (HoldsAs g broken content) first middle last (a.heeds broken content holds on) holds (λ h. b.heeds broken content h (a.stays on));
    notes = λ clean broken content holds.
        subst (λ (l : List Ended). IsLedSinceOpening g first last broken content t0 t2 l) (sym same)
        (since_through g broken content first middle last t0 t1 t2 ends more a.store.following going (a.notes (b.store.clean clean) broken content holds) (λ is now held. b.notes clean is now held)
        (λ some. misses_then a b (missed (λ none. some (sym same ∙ none))) clean broken content holds));
  }
