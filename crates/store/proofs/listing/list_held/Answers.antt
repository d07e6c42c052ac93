use Rattle.store.proofs.Names.{◌≡◌, ◌∙◌, List, [], inl, refl, sym, subst, Err, rules, false≢true, Row, survives_then, HasCleanDisk, Survives, held_tree, listed_text}
use Rattle.sqlite.proofs.Callers.{begun_plain}
use Rattle.sqlite.specs.Held.{state}
use Rattle.store.specs.Listing.{KeepsListed}
use Rattle.store.proofs.ExecutedInMemory.{shut_after}
use Rattle.store.proofs.Keeps.{opened_query}
use Rattle.store.proofs.Readings.{all_rests, all_survives}
use Rattle.store.proofs.Steps.{clean_before}
use Rattle.store.proofs.PlainQueries.{rest_unchanged}
use Rattle.store.proofs.RowVisits.{kept_after, begun_open}
use Rattle.store.proofs.Listings.{listed_asks, listed_survives}
use Rattle.store.proofs.listing.list_held.Goals as goal

pub returns-in-Err : goal.returns-in-Err
returns-in-Err g c =
    let s = state g.S.Store in
    let old = s c.args.conn.now in
    let new = s c.query.follows.lender-at-none in
    let refused = rw c.in-Err.is at c.query.follows.holds-at-none in
    record {
      hands = λ clean names content rest. (inl refl, all_rests listed_text (held_tree old.now.schema) old new (listed_asks old.now.schema rest.stands.laid_out) {X = Unit {0}} (Err c.in-Err.error) tt (refused.err clean));
      survives = λ laid. listed_survives old new laid (all_survives listed_text old new refused.survives);
      clean = λ clean. clean_before old new _ refused.survives clean;
      shut = λ clean shut. (shut_after old new (opened_query {X = List Row} (λ rows. rows) listed_text [] old new (Err c.in-Err.error) tt (refused.err clean)) shut, refl);
      fault = search rules;
      autocommit = search rules;
    }

pub returns : goal.returns
returns g c =
    let s = state g.S.Store in
    let old = c.args.conn.now in
    let mid = c.in-Ok.rows.conn.now in
    let new = c.hand_all.new.rows.conn.now in
    let end = c.conn-2-1.given.0 in
    let same : new ≡ end = search rules in
    let early : HasCleanDisk (s end) → HasCleanDisk (s mid) = λ clean. clean_before (s mid) (s new) _ c.hand_all.ensures.reads.survives (subst (λ k. HasCleanDisk (s k)) (sym same) clean) in
    record {
      hands = λ clean names content rest.
          let asks = listed_asks (s old).now.schema rest.stands.laid_out in
          let first = begun_plain g.S.Store listed_text [] old mid asks.plain (c.in-Ok.ensures.begun (early clean)) in
          let handed = c.hand_all.ensures.hands (subst (λ k. HasCleanDisk (s k)) (sym same) clean) first.0 names content (rest_unchanged (s old) (s mid) names content first.1 rest) in
          (handed.0, subst (λ k. KeepsListed (s old) (s k) c.hand_all.result) same (kept_after (s old) (s mid) (s new) c.hand_all.result first.1 handed.1));
      survives = λ laid.
          let first = listed_survives (s old) (s mid) laid (all_survives listed_text (s old) (s mid) c.in-Ok.ensures.survives) in
          subst (λ k. Survives (s old) (s k) (λ _. ⊥)) same (survives_then (s old) (s mid) (s new) (λ _. ⊥) (λ _. ⊥) (λ _. ⊥) (λ _ db none. absurd none) (λ _ db none. absurd none) first c.hand_all.ensures.reads.survives);
      clean = λ clean. clean_before (s old) (s mid) _ c.in-Ok.ensures.survives (early clean);
      shut = λ clean shut. absurd (false≢true (sym shut ∙ begun_open g.S.Store listed_text old mid (c.in-Ok.ensures.begun (early clean))));
      fault = c.hand_all.ensures.fault;
      autocommit = search rules;
    }
