-- What a crash leaves is what the first transactions of a connection make, some number of them.
use Rattle.replica.proofs.Names.{ℕ, ◌+◌, ◌^◌, ◌<◌, Bool, List, [], ◌∷◌, ◌++◌, length, inl, inr, refl, sym, ap, subst, ◌∙◌, append_assoc, length-append, Names, Content, Ended, Hello, Reading, next_id, due_after, Conn, AppliesFirst, IsLeftOfOne}
use Rattle.replica.specs.Crash.{IsOneMore, LeavesFirst}
use Rattle.replica.proofs.Push.{talks_push, applies_push}
use Rattle.replica.proofs.OneOutcome.{in_dump_answer}

module _ (limit : ℕ) (names : Names) (old : Content) (b : List ℕ) (new : Content) (end : Ended) (left : Content) where
  -- the reading with the payload that ends the one more
  abbrev one_more : IsOneMore limit names old b new end left → Reading limit names b
  one_more m =
      let r = m.reading in
      let due = due_after r.payloads in
      let p = m.ends.payload in
      let next = m.ends.stops.next in
      record {
        payloads = r.payloads ++ p ∷ [];
        front = r.front ++ next.packing;
        events = r.events ++ m.ends.event ∷ [];
        deliveries = r.deliveries ++ m.next ∷ [];
        id = next_id due p next.after;
        rest = next.more;
        bytes = r.bytes ∙ ap (λ (l : List ℕ). r.front ++ l) next.bytes ∙ sym (append_assoc r.front next.packing next.more);
        talk = record {
          talks = talks_push limit names Hello 0 r.payloads r.front r.events r.id p next.packing next.after (m.ends.event ∷ []) r.talk.talks next.whole
              (in_dump_answer names due p m.ends.event m.ends.in_dump m.ends.carries);
          within = subst (λ n. n < 2 ^ 64) (sym (length-append r.front next.packing)) m.ends.stops.within;
          delivers = m.ends.delivers;
        };
      }

  more_begun : (m : IsOneMore limit names old b new end left) → AppliesFirst limit names old b (length m.reading.deliveries + 1) (end.applied + 1) left
  more_begun m = record {
    reading = one_more m;
    counted = length-append m.reading.deliveries (m.next ∷ []);
    has_applied = record {
      applies = applies_push names old m.reading.deliveries end.applied new (m.next ∷ []) 1 left m.has_applied.applies (inl (left, 0, m.outcome, refl, (refl, refl)));
      asked = λ i. m.has_applied.asked m.ends.in_dump;
    };
  }

  pub left_transactions : (was : Bool) → Conn limit names was old b new end → IsLeftOfOne limit names old b new end left → LeavesFirst limit names old b new end left
  left_transactions was c (inl same) = record {
    count = length c.reading.deliveries;
    begun = record { reading = c.reading; counted = refl; has_applied = c.has_applied };
    left_is = inl same;
  }
  left_transactions was c (inr m) = record {
    count = length m.reading.deliveries;
    begun = record { reading = m.reading; counted = refl; has_applied = m.has_applied };
    left_is = inr (m.cause, m.failed, more_begun m);
  }
