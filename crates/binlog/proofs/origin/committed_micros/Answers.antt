use Rattle.binlog.proofs.Names.{◌≡◌, ◌∙◌, ℕ, ◌-◌, ◌^◌, Some, sym, ap, subst, inl, inr, arith, take_rest, little_number}
use Rattle.std.proofs.Common.{drop}
use Rattle.binlog.specs.Origin.{IsCommittedAt}
use Rattle.binlog.proofs.Origins.{is_committed_at, is_committed_again, committed_at}
use Rattle.binlog.proofs.origin.committed_micros.Goals as goal

pub returns-then-time-ge-ORIGINAL_FOLLOWS-clause-found : goal.returns-then-time-ge-ORIGINAL_FOLLOWS-clause-found
returns-then-time-ge-ORIGINAL_FOLLOWS-clause-found c =
    let bytes = c.args.event.now in
    let time : little_number 7 (drop 61 bytes) ≡ c.read_uint-time.result = sym (c.read_uint-time.ensures ∙ ap (little_number 7) (take_rest bytes 61)) in
    subst (λ (t : ℕ). IsCommittedAt (t - 2 ^ 55) bytes) time
    (is_committed_again bytes (λ i. omega (arith, c.type_inv.event i)) (omega arith) c.if-event-ne-GTID.false c.if-event-ne-LOGICAL_TIMESTAMPS.false (omega (arith, time)))

pub returns-then-time-ge-ORIGINAL_FOLLOWS-clause-only : goal.returns-then-time-ge-ORIGINAL_FOLLOWS-clause-only
returns-then-time-ge-ORIGINAL_FOLLOWS-clause-only c micros is =
    let bytes = c.args.event.now in
    let time : little_number 7 (drop 61 bytes) ≡ c.read_uint-time.result = sym (c.read_uint-time.ensures ∙ ap (little_number 7) (take_rest bytes 61)) in
    elim (committed_at micros bytes is) as (λ _. Some (c.read_uint-time.result - 2 ^ 55) ≡ Some micros) [
      | inl plain ↦ absurd (omega (arith, time, plain.number_is, is.fits))
      | inr again ↦ ap Some (omega (arith, time, again.number_is))
    ]

pub returns-clause-found : goal.returns-clause-found
returns-clause-found c =
    let bytes = c.args.event.now in
    let time : little_number 7 (drop 61 bytes) ≡ c.read_uint-time.result = sym (c.read_uint-time.ensures ∙ ap (little_number 7) (take_rest bytes 61)) in
    subst (λ (t : ℕ). IsCommittedAt t bytes) time
    (is_committed_at bytes (λ i. omega (arith, c.type_inv.event i)) (omega arith) c.if-event-ne-GTID.false c.if-event-ne-LOGICAL_TIMESTAMPS.false (omega (arith, time)))

pub returns-clause-only : goal.returns-clause-only
returns-clause-only c micros is =
    let bytes = c.args.event.now in
    let time : little_number 7 (drop 61 bytes) ≡ c.read_uint-time.result = sym (c.read_uint-time.ensures ∙ ap (little_number 7) (take_rest bytes 61)) in
    elim (committed_at micros bytes is) as (λ _. Some c.read_uint-time.result ≡ Some micros) [
      | inl plain ↦ ap Some (sym time ∙ plain.number_is)
      | inr again ↦ absurd (omega (arith, time, again.number_is))
    ]
