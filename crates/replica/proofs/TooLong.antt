-- Whether the dump command for a set would be too long: a set has one encoding or none.
use Rattle.replica.proofs.Names.{◌≡◌, ℕ, ◌+◌, ◌^◌, ◌<◌, ◌⊎◌, List, [], ◌∷◌, length, Option, Some, None, refl, sym, ap, subst, ◌∙◌, inl, inr, arith, cases_lt, cases_Bool, cases_eq, Ids, IsEncoding, IsDumpTooLong}
use Rattle.std.proofs.Common.{true≢false}
use Rattle.gtid.specs.Encoding.{SidBlock, grouped, blocks_bytes, is_above, AreIntervals, AreSidBlocks}
use Rattle.gtid.proofs.OneLeastList.{one_least_list}
use Rattle.gtid.proofs.SomeLeastList.{some_least_list}
use Rattle.wire.specs.Packet.{largest_payload}
use Rattle.replica.specs.Conn.{dump_lead}

abbrev Decided : Type 0 → Type 0
Decided P = P ⊎ (P → ⊥)

below : (m n : ℕ) → Decided (m < n)
below m n = elim (cases_lt m n) [ inl less ↦ inl less | inr over ↦ inr (λ h. omega (arith, over, h)) ]

intervals : (after : ℕ) (xs : List (ℕ × ℕ)) → Decided (AreIntervals after xs)
intervals after [] = inl tt
intervals after (i ∷ xs) = elim (below after i.0) [
  | inr not ↦ inr (λ h. not h.0)
  | inl a ↦ elim (below i.0 i.1) [
    | inr not ↦ inr (λ h. not h.1)
    | inl b ↦ elim (below i.1 (2 ^ 63)) [
      | inr not ↦ inr (λ h. not h.2)
      | inl c ↦ elim (intervals i.1 xs) [ inr not ↦ inr (λ h. not h.3) | inl d ↦ inl (a, b, c, d) ]
    ]
  ]
]

blocks : (before : Option (List ℕ)) (xs : List SidBlock) → Decided (AreSidBlocks before xs)
blocks before [] = inl tt
blocks before (block ∷ xs) = elim (cases_eq (length block.source) 16) [
  | inr not ↦ inr (λ h. not h.0)
  | inl a ↦ elim (cases_Bool (is_above before block.source)) [
    | inr not ↦ inr (λ h. true≢false (sym h.1 ∙ not))
    | inl b ↦ elim (below 0 (length block.intervals)) [
      | inr not ↦ inr (λ h. not h.2)
      | inl c ↦ elim (below (length block.intervals) (2 ^ 64)) [
        | inr not ↦ inr (λ h. not h.3)
        | inl d ↦ elim (intervals 0 block.intervals) [
          | inr not ↦ inr (λ h. not h.4)
          | inl e ↦ elim (blocks (Some block.source) xs) [ inr not ↦ inr (λ h. not h.5) | inl f ↦ inl (a, b, c, d, e, f) ]
        ]
      ]
    ]
  ]
]

encoded : (ids : Ids) → ((set : List ℕ) × IsEncoding ids set) ⊎ ((set : List ℕ) → IsEncoding ids set → ⊥)
encoded ids =
    let l = some_least_list ids in
    elim (blocks None (grouped l.spans)) [
      | inr not ↦ inr (λ set e. not (subst (λ s. AreSidBlocks None (grouped s)) (one_least_list ids e.spans l.spans e.least l.is_least) e.lawful))
      | inl lawful ↦ elim (below (length (grouped l.spans)) (2 ^ 64)) [
        | inr not ↦ inr (λ set e. not (subst (λ s. length (grouped s) < 2 ^ 64) (one_least_list ids e.spans l.spans e.least l.is_least) e.counted))
        | inl counted ↦ inl (blocks_bytes (grouped l.spans), record { spans = l.spans; least = l.is_least; lawful = lawful; counted = counted; spelled = refl })
      ]
    ]

pub too_long : (ids : Ids) → IsDumpTooLong ids ⊎ (IsDumpTooLong ids → ⊥)
too_long ids = elim (encoded ids) [
  | inr none ↦ inr (λ t. none t.set t.encodes)
  | inl e ↦ elim (cases_lt largest_payload (dump_lead + length e.0)) [
    | inl long ↦ inl (record { set = e.0; encodes = e.1; long = long })
    | inr short ↦ inr (λ t.
        let same : t.set ≡ e.0 = t.encodes.spelled ∙ ap (λ s. blocks_bytes (grouped s)) (one_least_list ids t.encodes.spans e.1.spans t.encodes.least e.1.least) ∙ sym e.1.spelled in
        let size : length t.set ≡ length e.0 = ap length same in
        absurd (omega (arith, short, size, t.long)))
  ]
]
