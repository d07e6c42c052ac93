-- The changes and then the record of a transaction.
use Rattle.store.proofs.Names.{AllByRecursion, inl, inr, pos, ◌≡◌, ℕ, Bool, true, false, Some, ◌&&◌, ◌||◌, bytes_eq, None, refl, sym, ap, subst, subst₂, ◌∙◌, cases_Bool, and_parts, bytes_eq-Decides, State, Id, Ids, IsGtid, AreGtids, id_cmp_total, Names, DeliveryValue, Refusal, Content, is_executed, AreDone, StandsFor, SaysLayout, IsMetaRow, AreNames, bag_of, count, held_rows, span_rows, StaysOpen, DoesAll, Records}
use Rattle.std.proofs.Common.{nat_eq}
use Rattle.std.specs.FinSet as set
use Rattle.std.proofs.lemmas.Bool.{eqb-true}
use Rattle.gtid.proofs.Sets.{tied}
use Rattle.store.specs.Changes.{IsRefusedAt}
use Rattle.store.specs.Inside.{Goes, DoesIn, Shows}
use Rattle.store.specs.Apply.{IsApplied, IsRefusedIn}
use Rattle.store.proofs.BetweenCalls.{goes_then}

-- one more GTID
gtids_more : (ids : Ids) (x : Id) → AreGtids ids → IsGtid x → AreGtids (set.insert ids x)
gtids_more ids x all is q has =
    let either : ((bytes_eq q.0 x.0 && nat_eq q.1 x.1) || set.contains ids q) ≡ true = ap (λ b. b || set.contains ids q) (sym (tied q x)) ∙ sym (set.contains-insert id_cmp_total ids x q) ∙ has in
    elim (cases_Bool (bytes_eq q.0 x.0 && nat_eq q.1 x.1)) [
      | inl same ↦ (
          let p = and_parts _ _ same in
          let source : x.0 ≡ q.0 = sym ((bytes_eq-Decides q.0 x.0).0 p.0) in
          let number : x.1 ≡ q.1 = sym (eqb-true q.1 x.1 p.1) in
          subst₂ (λ s n. IsGtid (s, n)) source number is)
      | inr other ↦ all q (rw other at either)
    ]

module _ (old mid new : State) (names : Names) (d : DeliveryValue) (content : Content) (stands : StandsFor old.now names content) (out : is_executed content d ≡ false) where
  pub shows_mid : Goes old mid → Shows (span_rows mid.now) stands.executed.spans content.executed
  shows_mid goes = subst (λ rows. Shows rows stands.executed.spans content.executed) (sym goes.spans) (record { least = stands.executed.least; rows_are = stands.executed.rows_are })

  pub filled : IsGtid (d.source, d.number) → DoesAll names d.changes old mid None → Records mid new (set.insert content.executed (d.source, d.number)) → StaysOpen old new × IsApplied names content d new.now.schema new.now.trees
  filled is does done =
      let on : StaysOpen old new = goes_then old mid new does.0.on done.on in (
        on,
        record {
          after = record { executed = set.insert content.executed (d.source, d.number); rows = bag_of (count (held_rows new.now)) };
          outcome = (
            out,
            subst₂ (AreDone names d.changes) (sym stands.rows) (ap (λ rows. bag_of (count rows)) (sym done.held)) does.1,
            refl,
          );
          stands = record {
            stands = record {
              laid_out = on.working.laid_out;
              says = subst (SaysLayout (pos 2)) (sym on.meta) stands.says;
              meta = subst (AllByRecursion IsMetaRow) (sym on.meta) stands.meta;
              follow = subst (λ rows. AreNames rows names) (sym on.follow) stands.follow;
              held = on.working.lawful;
              executed = record {
                spans = done.spans;
                least = done.shows.least;
                lawful = gtids_more content.executed (d.source, d.number) stands.executed.lawful is;
                rows_are = done.shows.rows_are;
              };
              rows = refl;
            };
            sound = on.working.sound;
            spans_apart = on.working.spans_apart;
          };
        },
      )

  pub refused_in : (in_order : Bool) (why : ℕ × Refusal) → DoesIn in_order names d.changes old mid (Some why) → IsRefusedIn in_order names content d why
  refused_in true why does = (out, subst (λ rows. IsRefusedAt names d.changes rows why.0 why.1) (sym stands.rows) does)
  refused_in false why does = tt
