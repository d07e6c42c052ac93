-- Vectors to which bytes are appended, part by part.
use Rattle.std.proofs.Common.{◌≡◌, ℕ, ◌+◌, ◌-◌, ◌^◌, ◌≤◌, min, List, [], ◌++◌, length, Vec, vec_len, vec_capacity, sym, ap, ◌∙◌, append_assoc, arith}
use Rattle.std.proofs.lemmas.List.{append-nil, length-append}
use Rattle.std.specs.declared.alloc.Global.{Global}
use Rattle.gtid.specs.Appending.{AppendsBytes}

-- one part and then the next
pub appends_then : {old next new : Vec ℕ Global} {a b : List ℕ} → AppendsBytes old next a → AppendsBytes next new b → AppendsBytes old new (a ++ b)
appends_then {old} {next} {new} {a} {b} first second = record {
  items = second.items ∙ ap (λ l. l ++ b) first.items ∙ append_assoc old.items a b;
  len = omega (arith, first.len, second.len, length-append a b);
  capacity = omega (arith, first.capacity, second.capacity);
}

-- ---- Items written one after another: what is written, and then what is left, is all.

pub record Writes (old now : Vec ℕ Global) (left all : List ℕ) : Type 0 where
  pub whole : now.items ++ left ≡ old.items ++ all
  pub len : vec_len now + length left ≡ vec_len old + length all
  pub capacity : vec_capacity old ≤ vec_capacity now

pub first_write : (old : Vec ℕ Global) (left all : List ℕ) → left ≡ all → Writes old old left all
first_write old left all is = record { whole = ap (λ l. old.items ++ l) is; len = ap (λ l. vec_len old + length l) is; capacity = omega arith }

-- there is room for the next part
pub next_fits : {old now : Vec ℕ Global} {left all : List ℕ} (part rest : List ℕ) → Writes old now left all → left ≡ part ++ rest → vec_len old + length all ≤ vec_capacity old → vec_len now + length part ≤ vec_capacity now
next_fits part rest w first room = omega (arith, w.len, w.capacity, ap length first, length-append part rest, room)

pub next_write : {old now new : Vec ℕ Global} {left all : List ℕ} (part rest : List ℕ) → Writes old now left all → left ≡ part ++ rest → AppendsBytes now new part → Writes old new rest all
next_write {old} {now} {new} {left} {all} part rest w first is = record {
  whole = ap (λ l. l ++ rest) is.items ∙ append_assoc now.items part rest ∙ ap (λ l. now.items ++ l) (sym first) ∙ w.whole;
  len = omega (arith, w.len, is.len, ap length first, length-append part rest);
  capacity = omega (arith, w.capacity, is.capacity);
}

pub last_write : {old now : Vec ℕ Global} {left all : List ℕ} → Writes old now left all → left ≡ [] → AppendsBytes old now all
last_write {old} {now} {left} {all} w none = record {
  items = sym (append-nil now.items) ∙ ap (λ l. now.items ++ l) (sym none) ∙ w.whole;
  len = omega (arith, w.len, ap length none);
  capacity = w.capacity;
}

-- ---- Lengths that are summed up to the highest number.

-- the sum so far and the length that is left
pub record Sums (sum left all : ℕ) : Type 0 where
  pub is : min (sum + left) (2 ^ 64 - 1) ≡ min all (2 ^ 64 - 1)
  pub small : sum ≤ 2 ^ 64 - 1

pub sum_next : {sum left all : ℕ} (part rest next total : ℕ) → Sums sum left all → left ≡ part + rest → next ≡ min part (2 ^ 64 - 1) → total ≡ min (sum + next) (2 ^ 64 - 1) → Sums total rest all
sum_next part rest next total so_far first is more = record { is = omega (arith, so_far.is, so_far.small, first, is, more); small = omega (arith, more) }

pub sum_all : {sum left all : ℕ} → Sums sum left all → left ≡ 0 → sum ≡ min all (2 ^ 64 - 1)
sum_all so_far none = omega (arith, so_far.is, so_far.small, none)
