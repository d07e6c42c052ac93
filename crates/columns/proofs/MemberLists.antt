-- A member is cut off a text in one way, and so are members in a row.
use Rattle.columns.proofs.Names.{◌≡◌, ℕ, ◌+◌, ◌/◌, ◌<◌, ◌≤◌, ◌⊎◌, inl, inr, Bool, true, false, if◌then◌else◌, List, [], ◌∷◌, ◌++◌, length, get_or, refl, ap, sym, subst, ◌∙◌, arith, append_assoc, append-nil, length-append, ◌-◌, take, codes, flat_map, AllByRecursion, IsUtf8, map-append, flat_map-append, Ends, hex_text, AreBytes, members_text, members_front, member_bytes, Member, Quoted}
use Rattle.std.proofs.Common.{drop, add-one}
use Rattle.std.specs.Prelude.{◌==◌, nat_lt, IsSomeAnd, Option, Some, None}
use Rattle.std.specs.List.{join_by}
use Rattle.std.specs.Char.{digit_char}
use Rattle.std.specs.Str.{is_utf8}
use Rattle.std.proofs.lemmas.Str.{IsUtf8-from_is_utf8}
use Rattle.std.proofs.lemmas.List.{take_rest, take_all}
use Rattle.std.proofs.Math.Seq.{take-suc}
use Rattle.columns.specs.Escapes.{escape, escaped, hex_pair, BeginsWithNone, BeginsWithNoPair}
use Rattle.columns.specs.Members.{is_quote, is_comma, member_text, members_before, AreMembers}
use Rattle.columns.proofs.Codes.{IsCode, goes_on, one_way, begins}
use Rattle.columns.proofs.Types.{never}
use Rattle.columns.proofs.EscapeCodes.{same_bytes, hex_cut, one_or_two, two_ahead, quote_twice}

same_end : (kind : ℕ → Bool) (b c : ℕ) → kind b ≡ false → b ≡ c → kind c ≡ true → ⊥
same_end kind b c other same is = never (sym other ∙ ap kind same ∙ is)

-- a quote after which no other stands
pub lone_quote : (rest : List ℕ) → Ends is_quote rest → BeginsWithNone Quoted (39 ∷ rest)
lone_quote rest end b tail e = by rest end e (one_or_two Quoted b)
  where
    by : (rest : List ℕ) → Ends is_quote rest → 39 ∷ rest ≡ escape Quoted b ++ tail → (escape Quoted b ≡ b ∷ []) ⊎ (length (escape Quoted b) ≡ 2) → ⊥
    by rest end e (inl one) =
        let heads : 39 ≡ b = ap (λ text. get_or text 0 0) (e ∙ ap (λ (text : List ℕ). text ++ tail) one) in
        omega (arith, ap (λ (n : ℕ). length (escape Quoted n)) heads, ap length one)
    by [] end e (inr two) = omega (arith, ap length e, length-append (escape Quoted b) tail, two)
    by (c ∷ rest) end e (inr two) =
        let both = two_ahead (escape Quoted b) tail 39 c rest two e in
        let second : c ≡ 39 = sym (ap (λ text. get_or text 1 0) both.0) ∙ quote_twice b two (ap (λ text. get_or text 0 0) both.0) in
        same_end is_quote c 39 end second refl

digit_high : (d : ℕ) → 48 ≤ digit_char d
digit_high d = by (nat_lt d 10)
  where
    by : (t : Bool) → 48 ≤ (if t then 48 + d else 87 + d)
    by true = omega arith
    by false = omega arith

pub no_digits : (rest : List ℕ) → BeginsWithNoPair (39 ∷ rest)
no_digits rest b tail small e = omega (arith, digit_high (b / 16), ap (λ text. get_or text 0 0) e)

pub hex_code : IsCode ℕ (λ b. b < 256) (λ _. Unit {0}) hex_pair
hex_code = record {
  starts = λ a x. tt;
  cut = λ a b x y _ _ _ _ e. hex_cut a b x y e;
}

pub same_hex : (done whole x y : List ℕ) → AreBytes done → AreBytes whole → BeginsWithNoPair x → BeginsWithNoPair y → hex_text done ++ x ≡ hex_text whole ++ y → (done ≡ whole) × (x ≡ y)
same_hex done whole x y these those stops none e =
    one_way ℕ (λ b. b < 256) (λ _. Unit {0}) hex_pair hex_code done whole x y these those tt tt
    (λ a rest one _ is. stops a rest one is) (λ a rest one _ is. none a rest one is) e

-- what stands in quotes
pub in_quotes : (bytes : List ℕ) → is_utf8 bytes ≡ true → (rest : List ℕ) → member_text bytes ++ rest ≡ 39 ∷ (escaped Quoted bytes ++ 39 ∷ rest)
in_quotes bytes text rest = rw text (ap (λ (xs : List ℕ). 39 ∷ xs) (append_assoc (escaped Quoted bytes) (39 ∷ []) rest))

pub in_digits : (bytes : List ℕ) → is_utf8 bytes ≡ false → (rest : List ℕ) → member_text bytes ++ rest ≡ 120 ∷ (39 ∷ (hex_text bytes ++ 39 ∷ rest))
in_digits bytes text rest = rw text (ap (λ (xs : List ℕ). 120 ∷ (39 ∷ xs)) (append_assoc (hex_text bytes) (39 ∷ []) rest))

member_cut : (a b x y : List ℕ) → AreBytes a → AreBytes b → Ends is_quote x → Ends is_quote y → member_text a ++ x ≡ member_text b ++ y → (a ≡ b) × (x ≡ y)
member_cut a b x y these those end stop e = by (is_utf8 a) (is_utf8 b) refl refl
  where
    by : (s t : Bool) → is_utf8 a ≡ s → is_utf8 b ≡ t → (a ≡ b) × (x ≡ y)
    by true true p q =
        let inner : escaped Quoted a ++ 39 ∷ x ≡ escaped Quoted b ++ 39 ∷ y = ap (λ text. drop 1 text) (sym (in_quotes a p x) ∙ e ∙ in_quotes b q y) in
        let both = same_bytes Quoted a b (39 ∷ x) (39 ∷ y) (lone_quote x end) (lone_quote y stop) inner in
        (both.0, ap (λ text. drop 1 text) both.1)
    by true false p q = absurd (omega (arith, ap (λ text. get_or text 0 0) (sym (in_quotes a p x) ∙ e ∙ in_digits b q y)))
    by false true p q = absurd (omega (arith, ap (λ text. get_or text 0 0) (sym (in_digits a p x) ∙ e ∙ in_quotes b q y)))
    by false false p q =
        let inner : hex_text a ++ 39 ∷ x ≡ hex_text b ++ 39 ∷ y = ap (λ text. drop 2 text) (sym (in_digits a p x) ∙ e ∙ in_digits b q y) in
        let both = same_hex a b (39 ∷ x) (39 ∷ y) these those (no_digits x) (no_digits y) inner in
        (both.0, ap (λ text. drop 1 text) both.1)

-- a member and the comma before it
abbrev pub item : List ℕ → List ℕ
item bytes = codes "," ++ member_text bytes

pub item_code : IsCode (List ℕ) AreBytes (Ends is_quote) item
item_code = record {
  starts = λ a x. refl;
  cut = λ a b x y these those end stop e. member_cut a b x y these those end stop (ap (λ text. drop 1 text) e);
}

-- members that were read begin those of the text
pub members_begin : (done whole : List (List ℕ)) (left y : List ℕ) → 0 < length done → 0 < length whole → AllByRecursion AreBytes done → AllByRecursion AreBytes whole →
    Ends is_quote left → Ends is_comma y → Ends is_quote y → join_by member_text (codes ",") done ++ left ≡ join_by member_text (codes ",") whole ++ y →
    (more : List (List ℕ)) × (whole ≡ done ++ more) × (left ≡ flat_map item more ++ y) × AllByRecursion AreBytes more
members_begin [] whole left y some any these those end stop goes e = absurd (omega (arith, some))
members_begin (a ∷ done) [] left y some any these those end stop goes e = absurd (omega (arith, any))
members_begin (a ∷ done) (b ∷ whole) left y some any these those end stop goes e =
    begins (List ℕ) AreBytes (Ends is_quote) item item_code (a ∷ done) (b ∷ whole) left y these those end goes
    (λ bytes rest one on is. no_comma y stop (member_text bytes ++ rest) is)
    (ap (λ (xs : List ℕ). 44 ∷ xs) e)
  where
    no_comma : (y : List ℕ) → Ends is_comma y → (tail : List ℕ) → y ≡ 44 ∷ tail → ⊥
    no_comma [] stop tail is = omega (arith, ap length is)
    no_comma (c ∷ y) stop tail is = same_end is_comma c 44 stop (ap (λ text. get_or text 0 0) is) refl

-- the text after an opening quote: the bytes up to the quote that closes it
pub quoted_only : (text bytes rest done left : List ℕ) → AreBytes bytes → Ends is_quote rest → 39 ∷ text ≡ member_text bytes ++ rest →
    text ≡ escaped Quoted done ++ left → BeginsWithNone Quoted left → (done ≡ bytes) × (left ≡ 39 ∷ rest) × (is_utf8 bytes ≡ true)
quoted_only text bytes rest done left small end e read stops = by (is_utf8 bytes) refl
  where
    by : (t : Bool) → is_utf8 bytes ≡ t → (done ≡ bytes) × (left ≡ 39 ∷ rest) × (is_utf8 bytes ≡ true)
    by true h =
        let both = same_bytes Quoted done bytes left (39 ∷ rest) stops (lone_quote rest end) (sym read ∙ ap (λ text. drop 1 text) (e ∙ in_quotes bytes h rest)) in
        (both.0, both.1, h)
    by false h = absurd (omega (arith, ap (λ text. get_or text 0 0) (e ∙ in_digits bytes h rest)))

-- the text after `x`
pub digits_first : (text bytes rest : List ℕ) → 120 ∷ text ≡ member_text bytes ++ rest → (text ≡ 39 ∷ (hex_text bytes ++ 39 ∷ rest)) × (is_utf8 bytes ≡ false)
digits_first text bytes rest e = by (is_utf8 bytes) refl
  where
    by : (t : Bool) → is_utf8 bytes ≡ t → (text ≡ 39 ∷ (hex_text bytes ++ 39 ∷ rest)) × (is_utf8 bytes ≡ false)
    by true h = absurd (omega (arith, ap (λ text. get_or text 0 0) (e ∙ in_quotes bytes h rest)))
    by false h = (ap (λ text. drop 1 text) (e ∙ in_digits bytes h rest), h)

pub some_then : {A : Type 0} (P Q : A → Type 0) (r : Option A) → IsSomeAnd r P → ((a : A) → P a → Q a) → IsSomeAnd r Q
some_then P Q None p leads = absurd p
some_then P Q (Some a) p leads = leads a p

pub no_utf8 : (bytes : List ℕ) → (IsUtf8 bytes → ⊥) → is_utf8 bytes ≡ false
no_utf8 bytes never = by (is_utf8 bytes) refl
  where
    by : (test : Bool) → is_utf8 bytes ≡ test → is_utf8 bytes ≡ false
    by true h = absurd (never (IsUtf8-from_is_utf8 bytes h))
    by false h = h

-- what stands after the first byte
pub tail_of : (text : List ℕ) (a : ℕ) (rest : List ℕ) → text ≡ a ∷ rest → take (length text - 1) (drop 1 text) ≡ rest
tail_of text a rest e = take_rest text 1 ∙ ap (λ xs. drop 1 xs) e

pub opened : (text : List ℕ) (a : ℕ) → 0 < length text → get_or text 0 0 ≡ a → text ≡ a ∷ take (length text - 1) (drop 1 text)
opened [] a some first = absurd (omega (arith, some))
opened (b ∷ text) a some first = (λ i. first i ∷ sym (take_rest (b ∷ text) 1) i)

-- the first member of a list
pub first_member : (most : ℕ) (members : List (List ℕ)) (text inner : List ℕ) → AreMembers most members → text ≡ members_text members → text ≡ 40 ∷ inner →
    (member : List ℕ) × (rest : List ℕ) × AreBytes member × Ends is_quote rest × (inner ≡ member_text member ++ rest)
first_member most [] text inner lawful e is = absurd (omega (arith, lawful.some))
first_member most (member ∷ members) text inner lawful e is = (
  member,
  flat_map item members ++ 41 ∷ [],
  lawful.bytes.0,
  goes_on (List ℕ) AreBytes (Ends is_quote) item item_code members (41 ∷ []) refl,
  ap (λ xs. drop 1 xs) (sym is ∙ e) ∙ append_assoc (member_text member) (flat_map item members) (41 ∷ []),
)

pub other_byte : (b : ℕ) (text rest : List ℕ) → Ends (λ a. a == b) text → (b == b) ≡ true → text ≡ b ∷ rest → ⊥
other_byte b [] rest end same e = omega (arith, ap length e)
other_byte b (a ∷ text) rest end same e = same_end (λ a. a == b) a b end (ap (λ xs. get_or xs 0 0) e) same

-- what follows members that were read: the end, or one more
pub members_more : (most : ℕ) (done whole : List (List ℕ)) (text left : List ℕ) → AllByRecursion AreBytes done → 0 < length done → Ends is_quote left →
    text ≡ members_front done ++ left → AreMembers most whole → text ≡ members_text whole →
    ((whole ≡ done) × (left ≡ 41 ∷ []))
    ⊎ ((member : List ℕ) × (rest : List ℕ) × AreBytes member × Ends is_quote rest × (left ≡ 44 ∷ (member_text member ++ rest)) × (length done < length whole))
members_more most done whole text left bytes some end read lawful e =
    let found = members_begin done whole left (41 ∷ []) some lawful.some bytes lawful.bytes end refl refl (ap (λ xs. drop 1 xs) (sym read ∙ e)) in
    by found.0 found.1 found.2 found.3
  where
    by : (more : List (List ℕ)) → whole ≡ done ++ more → left ≡ flat_map item more ++ 41 ∷ [] → AllByRecursion AreBytes more →
        ((whole ≡ done) × (left ≡ 41 ∷ []))
        ⊎ ((member : List ℕ) × (rest : List ℕ) × AreBytes member × Ends is_quote rest × (left ≡ 44 ∷ (member_text member ++ rest)) × (length done < length whole))
    by [] is left_is all = inl (is ∙ append-nil done, left_is)
    by (member ∷ more) is left_is all = inr (member, flat_map item more ++ 41 ∷ [], all.0, goes_on (List ℕ) AreBytes (Ends is_quote) item item_code more (41 ∷ []) refl, left_is ∙ append_assoc (item member) (flat_map item more) (41 ∷ []), omega (arith, ap length is, length-append done (member ∷ more)))

-- a text is that of one list at most
pub same_members : (most : ℕ) (a b : List (List ℕ)) → AreMembers most a → AreMembers most b → members_text a ≡ members_text b → b ≡ a
same_members most a b these those e =
    elim (members_more most a b (members_text a) (41 ∷ []) these.bytes these.some refl refl those e) [
      | inl same ↦ same.0
      | inr more ↦ absurd (omega (arith, ap (λ xs. get_or xs 0 0) more.4))
    ]

-- one more member
pub front_more : (done : List (List ℕ)) (member rest : List ℕ) → 0 < length done → members_front (done ++ member ∷ []) ++ rest ≡ members_front done ++ 44 ∷ (member_text member ++ rest)
front_more [] member rest some = absurd (omega (arith, some))
front_more (first ∷ done) member rest some =
    let inner : flat_map item (done ++ member ∷ []) ≡ flat_map item done ++ item member = flat_map-append item done (member ∷ []) ∙ (λ i. flat_map item done ++ append-nil (item member) i) in
    (λ i. 40 ∷ ((member_text first ++ inner i) ++ rest)) ∙
    (λ i. 40 ∷ (sym (append_assoc (member_text first) (flat_map item done) (item member)) i ++ rest)) ∙
    (λ i. 40 ∷ append_assoc (member_text first ++ flat_map item done) (item member) rest i)

pub all_more : (done : List (List ℕ)) (member : List ℕ) → AllByRecursion AreBytes done → AreBytes member → AllByRecursion AreBytes (done ++ member ∷ [])
all_more [] member all one = (one, tt)
all_more (first ∷ done) member all one = (all.0, all_more done member all.1 one)

pub before_is : (done : List (List ℕ)) (left rest : List ℕ) → 0 < length done → left ≡ 44 ∷ rest → members_front done ++ left ≡ members_before done ++ rest
before_is [] left rest some e = absurd (omega (arith, some))
before_is (first ∷ done) left rest some e =
    (λ i. members_front (first ∷ done) ++ e i) ∙ sym (append_assoc (members_front (first ∷ done)) (44 ∷ []) rest)

pub pushed_front : (members pushed : List Member) (member : Member) (left inner rest : List ℕ) → 0 < length (member_bytes members) → left ≡ 44 ∷ inner →
    inner ≡ member_text member.text.items ++ rest → pushed ≡ members ++ member ∷ [] → members_front (member_bytes members) ++ left ≡ members_front (member_bytes pushed) ++ rest
pushed_front members pushed member left inner rest some left_is inner_is is =
    (λ i. members_front (member_bytes members) ++ (left_is ∙ ap (λ (xs : List ℕ). 44 ∷ xs) inner_is) i) ∙
    sym (front_more (member_bytes members) member.text.items rest some) ∙
    (λ i. members_front (sym (map-append (λ (m : Member). m.text.items) members (member ∷ [])) i) ++ rest) ∙
    (λ i. members_front (member_bytes (sym is i)) ++ rest)

pub pushed_all : (members pushed : List Member) (member : Member) → AllByRecursion AreBytes (member_bytes members) → AreBytes member.text.items → pushed ≡ members ++ member ∷ [] →
    AllByRecursion AreBytes (member_bytes pushed)
pushed_all members pushed member all one is =
    subst (AllByRecursion AreBytes) (sym (map-append (λ (m : Member). m.text.items) members (member ∷ [])) ∙ ap member_bytes (sym is)) (all_more (member_bytes members) member.text.items all one)

-- members that are written
pub item_more : (members : List Member) (i : ℕ) (d member : Member) → i < length members → member ≡ get_or members i member →
    flat_map item (member_bytes (take i members)) ++ item member.text.items ≡ flat_map item (member_bytes (take (i + 1) members))
item_more members i d member within is =
    sym ((λ j. flat_map item (member_bytes (take (add-one i j) members))) ∙ (λ j. flat_map item (member_bytes (take-suc members i member within j))) ∙
    (λ j. flat_map item (map-append (λ member. member.text.items) (take i members) (get_or members i member ∷ []) j)) ∙
    flat_map-append item (member_bytes (take i members)) ((get_or members i member).text.items ∷ []) ∙
    (λ j. flat_map item (member_bytes (take i members)) ++ append-nil (item (sym is j).text.items) j))

pub all_written : (members : List Member) (n : ℕ) (first : Member) → 0 < length members → first ≡ get_or members 0 first →
    length (take (length members - 1) (drop 1 members)) ≤ n → n ≤ length (take (length members - 1) (drop 1 members)) →
    ((40 ∷ member_text first.text.items) ++ flat_map item (member_bytes (take n (take (length members - 1) (drop 1 members))))) ++ 41 ∷ [] ≡ members_text (member_bytes members)
all_written [] n first some is most least = absurd (omega (arith, some))
all_written (member ∷ members) n first some is most least =
    let rest : take (length (member ∷ members) - 1) (drop 1 (member ∷ members)) ≡ members = take_rest (member ∷ members) 1 in
    let whole : take n (take (length (member ∷ members) - 1) (drop 1 (member ∷ members))) ≡ members =
    (λ i. take n (rest i)) ∙ take_all n members (omega (arith, ap length rest, most, least)) in
    (λ i. ((40 ∷ member_text (is i).text.items) ++ flat_map item (member_bytes (whole i))) ++ 41 ∷ [])
