-- What was read of a text.
use Rattle.gtid.proofs.Names.{◌≡◌, ℕ, ◌<◌, length, arith, [], ◌∷◌, List, ap, sym, ◌∙◌, inl, inr, ◌⊎◌, Some, None, list_any, Id, Ids, is_listed, SidBlock, IsList, list_fault, written_spans, IsInGrammar, IsRead, IsOutsideFrom, outside, written, GtidFault, Text, Memory, Group, Span}
use Rattle.gtid.specs.Span.{is_in}
use Rattle.gtid.specs.Group.{ids_of}
use Rattle.gtid.specs.Text.{IsParseFault}
use Rattle.gtid.proofs.Sets.{contains_listed, same_ids}

-- the spans of each list of items that the text has
abbrev pub AreRead : List ℕ → List Span → Type 0
AreRead text spans = (items : List SidBlock) → IsList text items → (list_fault items ≡ None) × (spans ≡ written_spans items)

pub is_read : (text : List ℕ) (spans : List Span) (groups : List Group) → IsInGrammar text → AreRead text spans → ((q : Id) → is_listed q groups ≡ list_any (is_in q) spans) → IsRead text (ids_of groups)
is_read text spans groups g read listed =
    let r = read g.items g.is_list in
    record {
      items = g.items;
      is_list = g.is_list;
      lawful = r.0;
      union = λ q. contains_listed groups q ∙ listed q ∙ ap (list_any (is_in q)) r.1;
    }

pub only_read : (text : List ℕ) (spans : List Span) (groups : List Group) → AreRead text spans → ((q : Id) → is_listed q groups ≡ list_any (is_in q) spans) → (ids : Ids) → IsRead text ids → ids_of groups ≡ ids
only_read text spans groups read listed ids r = same_ids ids groups (λ q. listed q ∙ ap (list_any (is_in q)) ((read r.items r.is_list).1) ∙ sym (r.union q))

-- a fault of each list of items that the text has
pub written_fault : (text : List ℕ) (fault : GtidFault) → IsInGrammar text → (fault ≡ Memory) ⊎ ((items : List SidBlock) → IsList text items → list_fault items ≡ Some fault) → (fault ≡ Memory) ⊎ IsParseFault text fault
written_fault text fault g (inl memory) = inl memory
written_fault text fault g (inr faulty) = inr (written fault (record { items = g.items; is_list = g.is_list; faulty = faulty g.items g.is_list }))

pub text_fault : (text : List ℕ) (offset : ℕ) → IsOutsideFrom text offset → (Text offset ≡ Memory) ⊎ IsParseFault text (Text offset)
text_fault text offset is = inr (outside offset is)

-- spans come of items
pub items_of_spans : (items : List SidBlock) (spans : List Span) → spans ≡ written_spans items → 0 < length spans → 0 < length items
items_of_spans [] spans is some = absurd (omega (arith, ap length is, some))
items_of_spans (item ∷ items) spans is some = omega arith
