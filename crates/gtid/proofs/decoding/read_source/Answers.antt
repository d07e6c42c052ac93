use Rattle.gtid.proofs.Names.{◌≡◌, ℕ, ◌-◌, ◌≤◌, ◌<◌, true, false, not, ◌==◌, nat_lt, List, ◌++◌, Option, Some, length, take, sym, ap, ◌∙◌, append_assoc, arith, nat_tests, take-append-drop, take_rest, little_bytes, little_number, is_above, source_fault, Truncated}
use Rattle.std.proofs.Common.{drop, length-drop}
use Rattle.gtid.specs.declared.fault.GtidFault.TheVariants.{Order, Interval}
use Rattle.gtid.proofs.OneEncoding.{source_table, not_less}
use Rattle.gtid.proofs.decoding.read_source.Goals as goal

less : (a b : ℕ) → a < b → nat_lt a b ≡ true
less a b h = grind (arith, nat_tests)

is_zero : (a : ℕ) → a ≡ 0 → (a == 0) ≡ true
is_zero a h = grind (arith, nat_tests)

module _ (before : Option (List ℕ)) (bytes : List ℕ) where
  no_source : length bytes < 16 → source_fault before bytes ≡ Some Truncated
  no_source h = ap (λ b. source_table b (not (is_above before (take 16 bytes))) (nat_lt (length bytes) 24) (little_number 8 (drop 16 bytes) == 0)) (less (length bytes) 16 h)

  no_order : 16 ≤ length bytes → is_above before (take 16 bytes) ≡ false → source_fault before bytes ≡ Some Order
  no_order long below = (λ k. source_table (not_less (length bytes) 16 long k) (ap not below k) (nat_lt (length bytes) 24) (little_number 8 (drop 16 bytes) == 0))

  no_number : 16 ≤ length bytes → is_above before (take 16 bytes) ≡ true → length bytes < 24 → source_fault before bytes ≡ Some Truncated
  no_number long above h = (λ k. source_table (not_less (length bytes) 16 long k) (ap not above k) (less (length bytes) 24 h k) (little_number 8 (drop 16 bytes) == 0))

  no_intervals : 24 ≤ length bytes → is_above before (take 16 bytes) ≡ true → little_number 8 (drop 16 bytes) ≡ 0 → source_fault before bytes ≡ Some Interval
  no_intervals long above none = (λ k. source_table (not_less (length bytes) 16 (omega (arith, long)) k) (ap not above k) (not_less (length bytes) 24 long k) (is_zero (little_number 8 (drop 16 bytes)) none k))

parts : (bytes source number rest : List ℕ) → source ≡ take 16 bytes → take (length bytes - 16) (drop 16 bytes) ≡ number ++ rest → bytes ≡ source ++ number ++ rest
parts bytes source number rest is more =
    sym (append_assoc source number rest ∙ (ap (λ l. source ++ l) (sym more ∙ take_rest bytes 16) ∙ (ap (λ l. l ++ drop 16 bytes) is ∙ take-append-drop 16 bytes)))

within : (bytes : List ℕ) → length (take (length bytes - 16) (drop 16 bytes)) < 8 → length bytes < 24
within bytes h = omega (arith, h, ap length (take_rest bytes 16), length-drop 16 bytes)

beyond : (bytes : List ℕ) → 8 ≤ length (take (length bytes - 16) (drop 16 bytes)) → 24 ≤ length bytes
beyond bytes h = omega (arith, h, ap length (take_rest bytes 16), length-drop 16 bytes)

pub returns-clause-split : goal.returns-clause-split
returns-clause-split c = parts c.args.bytes.now c.source_of-source.result (little_bytes 8 c.in-Some.size) c.in-Some.rest.now c.source_of-source.ensures c.in-Some.ensures.split

pub returns-then-bytes-lt16-clause-err : goal.returns-then-bytes-lt16-clause-err
returns-then-bytes-lt16-clause-err c = no_source c.args.before c.args.bytes.now c.if-bytes-lt16.true

pub returns-then-not-ascends-clause-err : goal.returns-then-not-ascends-clause-err
returns-then-not-ascends-clause-err c = no_order c.args.before c.args.bytes.now c.if-bytes-lt16.false (ap (is_above c.args.before) (sym c.source_of-source.ensures) ∙ sym c.if-not-ascends.ensures)

pub returns-in_default-clause-err : goal.returns-in_default-clause-err
returns-in_default-clause-err c =
    no_number c.args.before c.args.bytes.now c.if-bytes-lt16.false (ap (is_above c.args.before) (sym c.source_of-source.ensures) ∙ sym c.if-not-ascends.ensures) (within c.args.bytes.now c.in_default.ensures.none)

pub returns-then-size-eq0-clause-err : goal.returns-then-size-eq0-clause-err
returns-then-size-eq0-clause-err c =
    no_intervals c.args.before c.args.bytes.now (beyond c.args.bytes.now c.in-Some.ensures.enough) (ap (is_above c.args.before) (sym c.source_of-source.ensures) ∙ sym c.if-not-ascends.ensures) (ap (little_number 8) (sym (take_rest c.args.bytes.now 16)) ∙ (sym c.in-Some.ensures.number ∙ c.if-size-eq0.true))
