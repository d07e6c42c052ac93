use Rattle.binlog.proofs.Names.{◌≡◌, ℕ, ◌/◌, ◌%◌, ◌^◌, ◌<◌, false, List, length, get_or, ap, ◌∙◌, arith, inl, inr, cases_lt, is_set}
use Rattle.std.specs.Prelude.{◌==◌}
use Rattle.std.proofs.Math.Nat.{zero-div}
use Rattle.std.proofs.lemmas.List.{get_or_past}
use Rattle.binlog.proofs.bitmap.has_set.Goals as goal

-- no bit of zeros is set
none_set : (bitmap : List ℕ) → ((k : ℕ) → k < length bitmap → get_or bitmap k 0 ≡ 0) → (i : ℕ) → is_set bitmap i ≡ false
none_set bitmap zeros i =
    let byte : get_or bitmap (i / 8) 0 ≡ 0 = elim (cases_lt (i / 8) (length bitmap)) as (λ _. get_or bitmap (i / 8) 0 ≡ 0) [
      | inl short ↦ zeros (i / 8) short
      | inr past ↦ get_or_past bitmap (i / 8) 0 past
    ] in
    ap (λ b. b / 2 ^ (i % 8) % 2 == 1) byte ∙ ap (λ b. b % 2 == 1) (zero-div (2 ^ (i % 8)))

pub returns : goal.returns
returns c = λ i no. none_set c.args.bitmap.now (λ k short. c.loop-byte.invariant k (omega (arith, c.loop-byte-test.false, short))) i
