-- Bytes have one fault at most.
use Rattle.gtid.proofs.Names.{◌≡◌, ℕ, ◌<◌, inl, inr, List, ◌++◌, length, flat_map, append_assoc, None, Some, refl, ap, sym, ◌∙◌, arith, cases_order, little_bytes, interval_bytes, block_bytes, interval_fault, source_fault, last_hi, last_source, IsDecodeFault, at_source, at_interval, GtidFault}
use Rattle.gtid.specs.Encoding.{FaultsAtSource, FaultsAtInterval}
use Rattle.gtid.specs.Encoding.IsDecodeFault.{no_count}
use Rattle.gtid.proofs.OneEncoding.{same_front, same_number, lawful_source, pair_end, ends_at, next_interval, none_some, no_interval_fault, same_intervals, next_block, no_source_fault, no_block_fault, same_blocks, flatten}

same_some : {X : Type 0} {x y : X} → Some x ≡ Some y → x ≡ y
same_some e = Prim.cc

too_short : (n : ℕ) (x bytes : List ℕ) → length bytes < 8 → little_bytes 8 n ++ x ≡ bytes → ⊥
too_short n x bytes short is = omega (arith, ap length is)

-- ---- The bytes, from left to right.

at_source_bytes : (bytes : List ℕ) (a : GtidFault) (f : FaultsAtSource bytes a) → little_bytes 8 f.count ++ (flat_map block_bytes f.blocks ++ f.rest) ≡ bytes
at_source_bytes bytes a f = sym (append_assoc (little_bytes 8 f.count) (flat_map block_bytes f.blocks) f.rest) ∙ sym f.bytes_are

-- the source at fault, and what follows it
abbrev faulty_block : (bytes : List ℕ) (a : GtidFault) → FaultsAtInterval bytes a → List ℕ
faulty_block bytes a f = f.source ++ (little_bytes 8 f.size ++ (flat_map interval_bytes f.intervals ++ f.rest))

at_interval_bytes : (bytes : List ℕ) (a : GtidFault) (f : FaultsAtInterval bytes a) → little_bytes 8 f.count ++ (flat_map block_bytes f.blocks ++ faulty_block bytes a f) ≡ bytes
at_interval_bytes bytes a f =
    sym (flatten (little_bytes 8 f.count) (flat_map block_bytes f.blocks) f.source (little_bytes 8 f.size) (flat_map interval_bytes f.intervals) f.rest) ∙ sym f.bytes_are

-- ---- Two faults of the same bytes.

both_sources : (bytes : List ℕ) (a b : GtidFault) → FaultsAtSource bytes a → FaultsAtSource bytes b → a ≡ b
both_sources bytes a b f g =
    let n = same_number f.count g.count (flat_map block_bytes f.blocks ++ f.rest) (flat_map block_bytes g.blocks ++ g.rest) f.counted.1 g.counted.1 (at_source_bytes bytes a f ∙ sym (at_source_bytes bytes b g)) in
    elim (cases_order (length f.blocks) (length g.blocks)) [
      | inl same ↦
          let s = same_blocks None None f.blocks g.blocks f.rest g.rest f.lawful g.lawful same n.1 in
          same_some (sym f.faulty ∙ (λ i. source_fault (last_source (s.0 i)) (s.1 i)) ∙ g.faulty)
      | inr (inl less) ↦ absurd (no_source_fault (last_source f.blocks) g.rest f.rest a (next_block None None f.blocks g.blocks f.rest g.rest f.lawful g.lawful less n.1) f.faulty)
      | inr (inr more) ↦ absurd (no_source_fault (last_source g.blocks) f.rest g.rest b (next_block None None g.blocks f.blocks g.rest f.rest g.lawful f.lawful more (sym n.1)) g.faulty)
    ]

not_at_both : (bytes : List ℕ) (a b : GtidFault) → FaultsAtSource bytes a → FaultsAtInterval bytes b → ⊥
not_at_both bytes a b f g =
    let rest = faulty_block bytes b g in
    let n = same_number f.count g.count (flat_map block_bytes f.blocks ++ f.rest) (flat_map block_bytes g.blocks ++ rest) f.counted.1 g.counted.1 (at_source_bytes bytes a f ∙ sym (at_interval_bytes bytes b g)) in
    elim (cases_order (length f.blocks) (length g.blocks)) [
      | inl same ↦
          let s = same_blocks None None f.blocks g.blocks f.rest rest f.lawful g.lawful same n.1 in
          none_some
          (lawful_source (last_source g.blocks) g.source g.size (flat_map interval_bytes g.intervals ++ g.rest) rest g.above.0 g.above.1 (omega (arith, g.some.0)) g.some.1 refl)
          ((λ i. source_fault (last_source (sym s.0 i)) (sym s.1 i)) ∙ f.faulty)
      | inr (inl less) ↦ no_source_fault (last_source f.blocks) rest f.rest a (next_block None None f.blocks g.blocks f.rest rest f.lawful g.lawful less n.1) f.faulty
      | inr (inr more) ↦
          no_block_fault (last_source g.blocks) f.rest g.source g.size g.intervals g.rest b (next_block None None g.blocks f.blocks rest f.rest g.lawful f.lawful more (sym n.1))
          g.above.0 g.some.1 g.some.0 g.so_far g.faulty
    ]

both_in_one : (bytes : List ℕ) (a b : GtidFault) (f : FaultsAtInterval bytes a) (g : FaultsAtInterval bytes b) → faulty_block bytes a f ≡ faulty_block bytes b g → a ≡ b
both_in_one bytes a b f g same_rest =
    let x = flat_map interval_bytes f.intervals ++ f.rest in
    let y = flat_map interval_bytes g.intervals ++ g.rest in
    let s = same_front f.source g.source (little_bytes 8 f.size ++ x) (little_bytes 8 g.size ++ y) (f.above.0 ∙ sym g.above.0) same_rest in
    let n = same_number f.size g.size x y f.some.1 g.some.1 s.1 in
    elim (cases_order (length f.intervals) (length g.intervals)) [
      | inl same ↦
          let t = same_intervals 0 0 f.intervals g.intervals f.rest g.rest f.so_far g.so_far same n.1 in
          same_some (sym f.faulty ∙ (λ i. interval_fault (last_hi (t.0 i)) (t.1 i)) ∙ g.faulty)
      | inr (inl less) ↦
          absurd (no_interval_fault (pair_end 0 f.intervals) g.rest f.rest a (next_interval 0 0 f.intervals g.intervals f.rest g.rest f.so_far g.so_far less n.1)
          (ap (λ e. interval_fault e f.rest) (sym (ends_at f.intervals)) ∙ f.faulty))
      | inr (inr more) ↦
          absurd (no_interval_fault (pair_end 0 g.intervals) f.rest g.rest b (next_interval 0 0 g.intervals f.intervals g.rest f.rest g.so_far f.so_far more (sym n.1))
          (ap (λ e. interval_fault e g.rest) (sym (ends_at g.intervals)) ∙ g.faulty))
    ]

both_intervals : (bytes : List ℕ) (a b : GtidFault) → FaultsAtInterval bytes a → FaultsAtInterval bytes b → a ≡ b
both_intervals bytes a b f g =
    let x = faulty_block bytes a f in
    let y = faulty_block bytes b g in
    let n = same_number f.count g.count (flat_map block_bytes f.blocks ++ x) (flat_map block_bytes g.blocks ++ y) f.counted.1 g.counted.1 (at_interval_bytes bytes a f ∙ sym (at_interval_bytes bytes b g)) in
    elim (cases_order (length f.blocks) (length g.blocks)) [
      | inl same ↦ both_in_one bytes a b f g (same_blocks None None f.blocks g.blocks x y f.lawful g.lawful same n.1).1
      | inr (inl less) ↦
          absurd (no_block_fault (last_source f.blocks) y f.source f.size f.intervals f.rest a (next_block None None f.blocks g.blocks x y f.lawful g.lawful less n.1)
          f.above.0 f.some.1 f.some.0 f.so_far f.faulty)
      | inr (inr more) ↦
          absurd (no_block_fault (last_source g.blocks) x g.source g.size g.intervals g.rest b (next_block None None g.blocks f.blocks y x g.lawful f.lawful more (sym n.1))
          g.above.0 g.some.1 g.some.0 g.so_far g.faulty)
    ]

pub one_fault : (bytes : List ℕ) (a b : GtidFault) → IsDecodeFault bytes a → IsDecodeFault bytes b → a ≡ b
one_fault bytes _ _ (no_count short) (no_count also) = refl
one_fault bytes _ b (no_count short) (at_source _ g) = absurd (too_short g.count _ bytes short (at_source_bytes bytes b g))
one_fault bytes _ b (no_count short) (at_interval _ g) = absurd (too_short g.count _ bytes short (at_interval_bytes bytes b g))
one_fault bytes a _ (at_source _ f) (no_count short) = absurd (too_short f.count _ bytes short (at_source_bytes bytes a f))
one_fault bytes a b (at_source _ f) (at_source _ g) = both_sources bytes a b f g
one_fault bytes a b (at_source _ f) (at_interval _ g) = absurd (not_at_both bytes a b f g)
one_fault bytes a _ (at_interval _ f) (no_count short) = absurd (too_short f.count _ bytes short (at_interval_bytes bytes a f))
one_fault bytes a b (at_interval _ f) (at_source _ g) = absurd (not_at_both bytes b a g f)
one_fault bytes a b (at_interval _ f) (at_interval _ g) = both_intervals bytes a b f g
