-- A text has only one meaning.
use Rattle.gtid.proofs.Names.{◌≡◌, ℕ, List, map, refl, ap, sym, ◌∙◌, inl, inr, Some, None, cases_order, Ids, list_any, SidBlock, span_of, IsList, list_fault, written_spans, first_some, IsRead, IsOutsideFrom, outside, written, GtidFault, Text}
use Rattle.std.specs.FinSet as set
use Rattle.gtid.specs.Span.{is_in}
use Rattle.gtid.specs.Text.{IsParseFault}
use Rattle.gtid.proofs.Sets.{id_cmp_total, id_cmp-same}
use Rattle.gtid.proofs.TextFaults.{faults_of, item_faults, item_spans}
use Rattle.gtid.proofs.TextItems.{read_list, zeros}

-- all items of a text have the same fault
same_fault : (text : List ℕ) (i j : List SidBlock) → IsList text i → IsList text j → list_fault i ≡ list_fault j
same_fault text i j is_i is_j =
    sym (ap first_some (item_faults i))
    ∙ ap (λ fs. first_some (faults_of fs)) (sym (read_list i text zeros refl is_i) ∙ read_list j text zeros refl is_j)
    ∙ ap first_some (item_faults j)

-- and the same spans, if there is none
same_spans : (text : List ℕ) (i j : List SidBlock) → IsList text i → IsList text j → list_fault i ≡ None → list_fault j ≡ None → written_spans i ≡ written_spans j
same_spans text i j is_i is_j none_i none_j =
    sym (item_spans i none_i) ∙ ap (map span_of) (sym (read_list i text zeros refl is_i) ∙ read_list j text zeros refl is_j) ∙ item_spans j none_j

pub one_set : (text : List ℕ) (a b : Ids) → IsRead text a → IsRead text b → a ≡ b
one_set text a b r s = set.same_set id_cmp_total id_cmp-same a b (λ q.
    r.union q ∙ ap (list_any (is_in q)) (same_spans text r.items s.items r.is_list s.is_list r.lawful s.lawful) ∙ sym (s.union q))

pub no_fault : (text : List ℕ) (ids : Ids) (fault : GtidFault) → IsRead text ids → IsParseFault text fault → ⊥
no_fault text ids fault r (outside offset o) = o.outside r.items r.is_list
no_fault text ids fault r (written f w) = absurd (none_some (sym r.lawful ∙ same_fault text r.items w.items r.is_list w.is_list ∙ w.faulty))
  where
    none_some : {X : Type 0} {x : X} → None ≡ Some x → ⊥
    none_some e = cc

one_offset : (text : List ℕ) (m n : ℕ) → IsOutsideFrom text m → IsOutsideFrom text n → m ≡ n
one_offset text m n a b = elim (cases_order m n) [
  | inl same ↦ same
  | inr (inl less) ↦ absurd (a.no_longer n less b.within b.begins)
  | inr (inr more) ↦ absurd (b.no_longer m more a.within a.begins)
]

pub one_fault : (text : List ℕ) (a b : GtidFault) → IsParseFault text a → IsParseFault text b → a ≡ b
one_fault text a b (outside m x) (outside n y) = ap Text (one_offset text m n x y)
one_fault text a b (outside m x) (written f w) = absurd (x.outside w.items w.is_list)
one_fault text a b (written f w) (outside m x) = absurd (x.outside w.items w.is_list)
one_fault text a b (written f v) (written g w) = same (sym v.faulty ∙ same_fault text v.items w.items v.is_list w.is_list ∙ w.faulty)
  where
    same : {X : Type 0} {x y : X} → Some x ≡ Some y → x ≡ y
    same e = Prim.cc
