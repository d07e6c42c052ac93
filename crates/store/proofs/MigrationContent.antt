-- From the statements of the migration to what the database stands for.
use Rattle.store.proofs.Names.{◌≡◌, List, [], map, pos, Ok, Err, Result, OnOk, append-nil, refl, sym, ap, subst, ◌∙◌, IsPermutation, State, Ids, IsLeastList, Span, Content, span_rows, bag_of, count, shown_spans, stored_span, IsWorking, HasLeft, HasMade, HasBare}
use Rattle.store.specs.Open.{all}
use Rattle.store.specs.Migrating.{IsMigrating}
use Rattle.store.proofs.NewTables.{no_rowids}

module _ (content : Content) (s : State) (was : IsMigrating HasBare (pos 2) content s) where
  pub now_working : IsWorking s
  now_working = record {
    is_open = was.is_open;
    inside = was.inside;
    laid_out = was.tables.laid_out;
    held_apart = was.held_apart;
    spans_apart = rw was.tables.spans no_rowids;
    lawful = was.held;
    sound = was.sound;
    beside = was.beside;
  }

  module _ (new : State) (spans : List Span) (least : IsLeastList spans content.executed) (h : HasLeft s new spans []) where
    rows_are : IsPermutation (map stored_span spans) (shown_spans (span_rows new.now))
    rows_are = subst (IsPermutation (map stored_span spans)) (append-nil (shown_spans (span_rows new.now))) (rw was.tables.spans at h.stored)

    pub has_migrated : HasMade new all content
    has_migrated = record {
      working = h.on.working;
      stands = record {
        laid_out = h.on.working.laid_out;
        says = rw h.on.meta was.says;
        meta = rw h.on.meta was.meta;
        follow = rw (h.on.follow ∙ was.tables.follow) (record { lawful = tt; names_are = refl });
        held = h.on.working.lawful;
        executed = record { spans = spans; least = least; lawful = was.lawful; rows_are = rows_are };
        rows = was.rows ∙ ap (λ l. bag_of (count l)) (sym h.held);
      };
    }

pub migrated_of : {E : Type 0} (content : Content) (s new : State) (spans : List Span) (executed : Ids) (r : Result (Unit {0}) E) → IsMigrating HasBare (pos 2) content s → IsLeastList spans executed → executed ≡ content.executed
    → OnOk r (HasLeft s new spans []) → OnOk r (HasMade new all content)
migrated_of content s new spans executed (Ok u) was least is h = has_migrated content s was new spans (subst (IsLeastList spans) is least) h
migrated_of content s new spans executed (Err e) was least is h = tt
