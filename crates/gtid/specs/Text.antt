-- A set of GTIDs as text, and one GTID. MySQL Reference Manual, "GTID Format and Storage": the syntax of a GTID set, and
-- GTIDs as `source_id:transaction_id`.
use Rattle.std.specs.Prelude.{◌≡◌, ℕ, ◌+◌, ◌*◌, ◌-◌, ◌<◌, ◌≤◌, ◌^◌, ◌⊎◌, ◌&&◌, not, List, [], ◌∷◌, ◌++◌, length, take, ◌==◌, nat_lt, nat_le, if◌then◌else◌, Bool, Option, Some, None, fold, flat_map, decimal, codes, map}
use Rattle.std.specs.List.{join_by, AllByRecursion}
use Rattle.std.specs.Str.{str_to_ascii_lowercase, byte}
use Rattle.std.specs.Char.{IsAsciiDigit}
use Rattle.uuid.specs.Text.{hyphenated_text, lower}
use Rattle.gtid.specs.Identifier.{Id, Ids, IsSource, IsGtid, AreGtids}
use Rattle.gtid.specs.Span.{IsLeastList, Covers}
use Rattle.gtid.specs.declared.span.Span.{Span}
use Rattle.gtid.specs.Encoding.{SidBlock, grouped}
use Rattle.gtid.specs.declared.fault.GtidFault.{GtidFault}
use Rattle.gtid.specs.declared.fault.GtidFault.TheVariants.{Text, Number, Interval}

-- ---- The printed form: lower case, ascending, least intervals, no blanks.

-- `:n`, or `:n-m` with the last number m
abbrev pub interval_text : ℕ × ℕ → List ℕ
interval_text i =
    if i.1 == i.0 + 1 then byte ":" ∷ decimal i.0
    else byte ":" ∷ decimal i.0 ++ byte "-" ∷ decimal (i.1 - 1)

abbrev pub block_text : SidBlock → List ℕ
block_text block = hyphenated_text lower block.source ++ flat_map interval_text block.intervals

-- The members of the set are GTIDs of transactions, and the text is its printed form.
pub record IsSetText (ids : Ids) (text : List ℕ) : Type 0 where
  pub lawful : AreGtids ids
  pub spans : List Span
  pub least : IsLeastList spans ids
  pub printed : text ≡ join_by block_text (codes ",") (grouped spans)

-- The new text is the old one and then the printed form of the set.
pub record AppendsText (ids : Ids) (old new : List ℕ) : Type 0 where
  pub text : List ℕ
  pub is_text : IsSetText ids text
  pub appended : new ≡ old ++ text

-- A text of this length and this capacity lacks the room for the printed form of the set.
pub record LacksTextRoom (ids : Ids) (len capacity : ℕ) : Type 0 where
  pub spans : List Span
  pub least : IsLeastList spans ids
  pub lacks : capacity < len + length (join_by block_text (codes ",") (grouped spans))

-- ---- The grammar that is read.

-- from 1 to 2 ^ 63 - 2
abbrev pub is_number : ℕ → Bool
is_number n = nat_le 1 n && nat_lt n (2 ^ 63 - 1)

-- the digits, at least one, are this number
abbrev pub IsNumeral : List ℕ → ℕ → Type 0
IsNumeral digits n = (0 < length digits) × AllByRecursion IsAsciiDigit digits × (n ≡ fold (λ so_far digit. so_far * 10 + (digit - byte "0")) 0 digits)

-- `:n`, read as from n to n, or `:n-m`, read as from n to m
abbrev pub IsIntervalText : List ℕ → ℕ × ℕ → Type 0
IsIntervalText text i = (digits : List ℕ) × IsNumeral digits i.0 ×
    (((text ≡ byte ":" ∷ digits) × (i.1 ≡ i.0))
    ⊎ ((others : List ℕ) × IsNumeral others i.1 × (text ≡ byte ":" ∷ digits ++ byte "-" ∷ others)))

-- the intervals, one text after the other
abbrev pub AreIntervalTexts : List ℕ → List (ℕ × ℕ) → Type 0
AreIntervalTexts text [] = text ≡ []
AreIntervalTexts text (i ∷ intervals) = (first : List ℕ) × (others : List ℕ) × (text ≡ first ++ others) × IsIntervalText first i × AreIntervalTexts others intervals

abbrev pub IsBlankByte : ℕ → Type 0
IsBlankByte c = (c ≡ 0x20) ⊎ ((c ≡ 0x0A) ⊎ (c ≡ 0x0D))

-- a hyphenated UUID in either case and at least one interval, with blanks before and after
pub record IsItem (text : List ℕ) (item : SidBlock) : Type 0 where
  pub before : List ℕ
  pub uuid : List ℕ
  pub numbers : List ℕ
  pub after : List ℕ
  pub text_is : text ≡ before ++ uuid ++ numbers ++ after
  pub blanks : AllByRecursion IsBlankByte before × AllByRecursion IsBlankByte after
  pub a_source : IsSource item.source
  pub a_uuid : str_to_ascii_lowercase uuid ≡ hyphenated_text lower item.source
  pub some : 0 < length item.intervals
  pub intervals : AreIntervalTexts numbers item.intervals

-- The text is the items, separated by commas. Without items it is empty or only blanks.
abbrev pub IsList : List ℕ → List SidBlock → Type 0
IsList text [] = AllByRecursion IsBlankByte text
IsList text (item ∷ []) = IsItem text item
IsList text (item ∷ next ∷ items) = (first : List ℕ) × (others : List ℕ) × (text ≡ first ++ byte "," ∷ others) × IsItem first item × IsList others (next ∷ items)

-- The text is in the grammar.
pub record IsInGrammar (text : List ℕ) : Type 0 where
  pub items : List SidBlock
  pub is_list : IsList text items

-- The text is in the grammar, and has at least one item.
pub record HasItem (text : List ℕ) : Type 0 where
  pub items : List SidBlock
  pub is_list : IsList text items
  pub some : 0 < length items

-- what is wrong with an interval as it is written
abbrev pub written_fault : ℕ × ℕ → Option GtidFault
written_fault i =
    if not (is_number i.0 && is_number i.1) then Some Number
    else if nat_lt i.1 i.0 then Some Interval
    else None

abbrev pub first_some : List (Option GtidFault) → Option GtidFault
first_some [] = None
first_some (None ∷ others) = first_some others
first_some (Some fault ∷ others) = Some fault

-- the first interval in the text that is at fault
abbrev pub list_fault : List SidBlock → Option GtidFault
list_fault items = first_some (flat_map (λ item. map written_fault item.intervals) items)

-- the numbers of the items, as spans that end one past the last number
abbrev pub written_spans : List SidBlock → List Span
written_spans items = flat_map (λ item. map (λ i. record { source = item.source; lo = i.0; hi = i.1 + 1 }) item.intervals) items

-- The text is in the grammar, has no interval at fault, and the set is the union of its intervals.
pub record IsRead (text : List ℕ) (ids : Ids) : Type 0 where
  pub items : List SidBlock
  pub is_list : IsList text items
  pub lawful : list_fault items ≡ None
  pub union : Covers (written_spans items) ids

-- The text stands for some set.
pub record HasReading (text : List ℕ) : Type 0 where
  pub ids : Ids
  pub is_read : IsRead text ids

-- The text is in the grammar, and the first interval at fault has this fault.
pub record IsWrittenFault (text : List ℕ) (fault : GtidFault) : Type 0 where
  pub items : List SidBlock
  pub is_list : IsList text items
  pub faulty : list_fault items ≡ Some fault

-- some text of the grammar begins like this
abbrev pub BeginsText : List ℕ → Type 0
BeginsText front = (rest : List ℕ) × (items : List SidBlock) × IsList (front ++ rest) items

-- The text is outside the grammar, and its longest prefix that begins some text of the grammar has this length.
pub record IsOutsideFrom (text : List ℕ) (offset : ℕ) : Type 0 where
  pub outside : (items : List SidBlock) → IsList text items → ⊥
  pub within : offset ≤ length text
  pub begins : BeginsText (take offset text)
  pub no_longer : (n : ℕ) → offset < n → n ≤ length text → BeginsText (take n text) → ⊥

-- what is wrong with a text
pub data IsParseFault (text : List ℕ) : GtidFault → Type 0 where
  outside : (offset : ℕ) → IsOutsideFrom text offset → IsParseFault text (Text offset)
  written : (fault : GtidFault) → IsWrittenFault text fault → IsParseFault text fault

-- Something is wrong with the text.
pub record HasParseFault (text : List ℕ) : Type 0 where
  pub fault : GtidFault
  pub is_fault : IsParseFault text fault

-- ---- One GTID.

-- the printed form: the source in lower case, `:`, and the number
abbrev pub gtid_text : Id → List ℕ
gtid_text q = hyphenated_text lower q.0 ++ byte ":" ∷ decimal q.1

-- The text is the source as a hyphenated UUID in either case, `:`, and the number, which is from 1 to 2 ^ 63 - 2.
pub record IsGtidText (text : List ℕ) (q : Id) : Type 0 where
  pub uuid : List ℕ
  pub digits : List ℕ
  pub text_is : text ≡ uuid ++ byte ":" ∷ digits
  pub a_uuid : str_to_ascii_lowercase uuid ≡ hyphenated_text lower q.0
  pub a_numeral : IsNumeral digits q.1
  pub lawful : IsGtid q
