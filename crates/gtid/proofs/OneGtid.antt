-- The text of one GTID, by its parts.
use Rattle.gtid.proofs.Names.{◌≡◌, ◌≢◌, ℕ, ◌+◌, ◌*◌, ◌-◌, ◌<◌, ◌≤◌, ◌^◌, ◌==◌, ◌&&◌, ◌||◌, Bool, true, false, if◌then◌else◌, inl, inr, Option, Some, None, IfSome, Result, Ok, Err, IfOk, List, [], ◌∷◌, ◌++◌, length, get_or, slice_index, fold, refl, ap, sym, subst, ◌∙◌, arith, rules, AllByRecursion, IsAsciiDigit, str_to_ascii_lowercase, and_parts, or_cases, nat_tests, All-from_recursion, hyphenated_text, lower, is_hyphen_place, digit_place, by_index_at, by_index_length, Id, id, IsSource, IsGtid, stands_at, IsNumeral}
use Rattle.std.proofs.Common.{◌↔◌, IsSome, IsSomeAnd, MatchOption, Bor, IsOk, unwrap_or, true≢false, lit<}
use Rattle.std.specs.List.{list_all}
use Rattle.std.specs.Result.{result_ok}
use Rattle.std.specs.Str.Parse.{ParsesUnsigned}
use Rattle.std.proofs.lemmas.Str.Parse.{IsNumeralModel, numerals_by_fold, parse_plain, parse_gives}
use Rattle.std.proofs.lemmas.Str.Pattern.{IsSplitOnceResult, split_after}
use Rattle.uuid.specs.Text.{is_hex_digit, hex_digit_value, byte_of_digits, by_index, digits_of, has_hyphens, parsed_simple, parsed_hyphenated, hyphen_place}
use Rattle.uuid.proofs.TextLemmas.{simple_some, simple_none, hyphens_pass}
use Rattle.uuid.proofs.RoundTrips.{parses_hyphenated_text}
use Rattle.gtid.specs.Text.{IsGtidText}
use Rattle.gtid.specs.declared.identifier.Gtid.{Gtid}
use Rattle.gtid.proofs.SourceText.{StandFrom, stands_in, source_length, source_stands, stand_by_place, bytes_of, digit_stands, spelled_source, spelled_text}

-- ---- The source, as `uuid` reads it.

-- no two sources have the same text
one_source : (a b : List ℕ) → IsSource a → IsSource b → hyphenated_text lower a ≡ hyphenated_text lower b → a ≡ b
one_source a b is_a is_b same =
    let read : Some a ≡ Some b =
    parses_hyphenated_text lower a (inl refl) is_a.0 (All-from_recursion (λ b. b < 256) a is_a.1)
    ∙ ap parsed_hyphenated same
    ∙ sym (parses_hyphenated_text lower b (inl refl) is_b.0 (All-from_recursion (λ b. b < 256) b is_b.1)) in
    ap (λ (o : Option (List ℕ)). unwrap_or o []) read

hyphens_stand : (text : List ℕ) → length text ≡ 36 → StandFrom 0 text → has_hyphens text ≡ true
hyphens_stand text long stand =
    rw (stands_in text stand 8 (omega arith), stands_in text stand 13 (omega arith), stands_in text stand 18 (omega arith), stands_in text stand 23 (omega arith)) refl

-- a text of the form is read
read_spelled : (text : List ℕ) → length text ≡ 36 → StandFrom 0 text → Some (bytes_of text) ≡ parsed_hyphenated text
read_spelled text long stand =
    simple_some (digits_of text) (bytes_of text) (by_index_length 32 _) (by_index_length 16 _) (digit_stands text long stand) (λ i d small. by_index_at 16 _ i d small)
    ∙ hyphens_pass text long (hyphens_stand text long stand)

source_read : (text source : List ℕ) → IsSource source → str_to_ascii_lowercase text ≡ hyphenated_text lower source → Some source ≡ parsed_hyphenated text
source_read text source lawful e =
    let long = source_length text source e in
    let stand = source_stands text source e in
    ap Some (one_source source (bytes_of text) lawful (spelled_source text long stand) (sym e ∙ spelled_text text long stand)) ∙ read_spelled text long stand

-- what is read has the form
record HasForm (text source : List ℕ) : Type 0 where
  pub long : length text ≡ 36
  pub hyphens : has_hyphens text ≡ true
  pub simple : Some source ≡ parsed_simple (digits_of text)

has_form : (text source : List ℕ) → Some source ≡ parsed_hyphenated text → HasForm text source
has_form text source e = by ((length text == 36) && has_hyphens text) refl e
  where
    by : (c : Bool) → ((length text == 36) && has_hyphens text) ≡ c → Some source ≡ (if c then parsed_simple (digits_of text) else None) → HasForm text source
    by true is e =
        let both = and_parts (length text == 36) (has_hyphens text) is in
        record { long = grind (arith, nat_tests, both.0); hyphens = both.1; simple = e }
    by false is e = cc

spelled : (hex source : List ℕ) → Some source ≡ parsed_simple hex → source ≡ by_index 16 (byte_of_digits hex)
spelled hex source e = by ((length hex == 32) && list_all is_hex_digit hex) e
  where
    by : (c : Bool) → Some source ≡ (if c then Some (by_index 16 (byte_of_digits hex)) else None) → source ≡ by_index 16 (byte_of_digits hex)
    by true e = cc
    by false e = cc

digit_reads : (hex source : List ℕ) → Some source ≡ parsed_simple hex → (k : ℕ) → k < length hex → is_hex_digit (get_or hex k 0) ≡ true
digit_reads hex source e k short = by (is_hex_digit (get_or hex k 0)) refl
  where
    by : (c : Bool) → is_hex_digit (get_or hex k 0) ≡ c → c ≡ true
    by true is = refl
    by false is =
        let none : hex_digit_value (get_or hex k 0) ≡ None = rw is refl in
        cc (e, simple_none hex k short none)

hyphen_stands : (text : List ℕ) (k : ℕ) → has_hyphens text ≡ true → is_hyphen_place k ≡ true → (get_or text k 0 == 45) ≡ true
hyphen_stands text k hyphens is =
    let four = and_parts ((slice_index text 8 == 45) && (slice_index text 13 == 45) && (slice_index text 18 == 45)) (slice_index text 23 == 45) hyphens in
    let three = and_parts ((slice_index text 8 == 45) && (slice_index text 13 == 45)) (slice_index text 18 == 45) four.0 in
    let two = and_parts (slice_index text 8 == 45) (slice_index text 13 == 45) three.0 in
    elim (or_cases ((k == 8) || (k == 13) || (k == 18)) (k == 23) is) [
      | inl below ↦
          elim (or_cases ((k == 8) || (k == 13)) (k == 18) below) [
            | inl low ↦
                elim (or_cases (k == 8) (k == 13) low) [
                  | inl at ↦ same 8 at two.0
                  | inr at ↦ same 13 at two.1
                ]
            | inr at ↦ same 18 at three.1
          ]
      | inr at ↦ same 23 at four.1
    ]
  where
    same : (place : ℕ) → (k == place) ≡ true → (get_or text place 0 == 45) ≡ true → (get_or text k 0 == 45) ≡ true
    same place at e =
        let there : place ≡ k = grind (arith, nat_tests) in
        subst (λ j. (get_or text j 0 == 45) ≡ true) there e

form_stands : (text source : List ℕ) → HasForm text source → StandFrom 0 text
form_stands text source h = stand_by_place text 0 (λ k short.
    let place : k ≡ 0 + k = omega arith in
    subst (λ p. stands_at p (get_or text k 0) ≡ true) place (by k (omega (arith, h.long)) (is_hyphen_place k) refl))
  where
    by : (k : ℕ) → k < 36 → (hyphen : Bool) → is_hyphen_place k ≡ hyphen → (if hyphen then get_or text k 0 == 45 else is_hex_digit (get_or text k 0)) ≡ true
    by k small true is = hyphen_stands text k h.hyphens is
    by k small false is =
        let back : hyphen_place (digit_place k) ≡ k = grind (arith, nat_tests) in
        let short : digit_place k < 32 = grind (arith, nat_tests) in
        let digit : get_or (digits_of text) (digit_place k) 0 ≡ get_or text k 0 =
        by_index_at 32 (λ i. slice_index text (hyphen_place i)) (digit_place k) 0 short ∙ ap (λ (i : ℕ). get_or text i 0) back in
        let within : digit_place k < length (digits_of text) = omega (arith, by_index_length 32 (λ i. slice_index text (hyphen_place i))) in
        ap is_hex_digit (sym digit) ∙ digit_reads (digits_of text) source h.simple (digit_place k) within

pub record IsSpelled (text source : List ℕ) : Type 0 where
  pub lawful : IsSource source
  pub lowered : str_to_ascii_lowercase text ≡ hyphenated_text lower source

source_found : (text source : List ℕ) → Some source ≡ parsed_hyphenated text → IsSpelled text source
source_found text source e =
    let form = has_form text source e in
    let stand = form_stands text source form in
    let same = sym (spelled (digits_of text) source form.simple) in
    record {
      lawful = subst IsSource same (spelled_source text form.long stand);
      lowered = subst (λ s. str_to_ascii_lowercase text ≡ hyphenated_text lower s) same (spelled_text text form.long stand);
    }

-- ---- The number.

numerals : IsNumeralModel (AllByRecursion IsAsciiDigit) (fold (λ so_far digit. so_far * 10 + (digit - 48)) 0)
numerals = numerals_by_fold _ (search rules) (fold (λ so_far digit. so_far * 10 + (digit - 48))) (search rules)

no_plus : (digits : List ℕ) (n : ℕ) → IsNumeral digits n → get_or digits 0 0 ≢ 43
no_plus [] n h e = absurd (omega (arith, h.0))
no_plus (d ∷ digits) n h e = absurd (omega (arith, h.1.0.0, h.1.0.1))

number_found : {E : Type 0} (r : Result ℕ E) (digits : List ℕ) → ParsesUnsigned 64 10 digits r → get_or digits 0 0 ≢ 43 → IfOk r (IsNumeral digits)
number_found {E = E} (Ok n) digits h plain = let p = parse_plain numerals {E = E} 64 digits (Ok n) h plain in (p.0.1, p.0.0, p.1)
number_found (Err e) digits h plain = tt

number_read : {E : Type 0} (r : Result ℕ E) (digits : List ℕ) (n : ℕ) → ParsesUnsigned 64 10 digits r → IsNumeral digits n → n < 2 ^ 64 → r ≡ Ok n
number_read r digits n h numeral small = parse_gives numerals 64 digits r h numeral.1 numeral.0 (subst (λ m. m < 2 ^ 64) numeral.2 small) ∙ ap Ok (sym numeral.2)

-- ---- Both, around the first colon.

-- The one text is that of the source, and the other that of the number.
pub record AreParts (source number : List ℕ) (q : Id) : Type 0 where
  pub a_source : Some q.0 ≡ parsed_hyphenated source
  pub a_numeral : IsNumeral number q.1
  pub small : q.1 < 2 ^ 64

no_colon : (source uuid : List ℕ) → str_to_ascii_lowercase uuid ≡ hyphenated_text lower source → (k : ℕ) → k < length uuid → get_or uuid k 0 ≢ 58
no_colon source uuid e k short colon =
    let stand : stands_at k 58 ≡ true = subst (λ b. stands_at k b ≡ true) colon (stands_in uuid (source_stands uuid source e) k short) in
    by (is_hyphen_place k) stand
  where
    by : (hyphen : Bool) → (if hyphen then 58 == 45 else is_hex_digit 58) ≡ true → ⊥
    by true stand = cc
    by false stand = cc

pub parts_of : (text : List ℕ) (r : Option (Bor (List ℕ) × Bor (List ℕ))) (q : Id) → IsSplitOnceResult 58 text r → IsGtidText text q → MatchOption r ⊥ (λ x. AreParts x.0.now x.1.now q)
parts_of text r q h t =
    by r (split_after 58 text t.uuid t.digits r h (lit< tt) t.text_is (no_colon q.0 t.uuid t.a_uuid))
  where
    by : (r : Option (Bor (List ℕ) × Bor (List ℕ))) → MatchOption r ⊥ (λ x. (x.0.now ≡ t.uuid) × (x.1.now ≡ t.digits)) → MatchOption r ⊥ (λ x. AreParts x.0.now x.1.now q)
    by None is = is
    by (Some x) is = record {
      a_source = source_read x.0.now q.0 t.lawful.0 (ap str_to_ascii_lowercase is.0 ∙ t.a_uuid);
      a_numeral = subst (λ digits. IsNumeral digits q.1) (sym is.1) t.a_numeral;
      small = omega (arith, t.lawful.2);
    }

pub no_sign : (source number : List ℕ) (q : Id) → AreParts source number q → get_or number 0 0 ≢ 43
no_sign source number q parts = no_plus number q.1 parts.a_numeral

-- what `parse` says of a UUID
abbrev pub ReadsSource : {E : Type 0} → List ℕ → Result (List ℕ) E → Type 0
ReadsSource text r = (IsOk r ↔ ((u : List ℕ) × (parsed_hyphenated text ≡ Some u))) × IfOk r (λ u. Some u ≡ parsed_hyphenated text)

-- what reads both parts reads the GTID
pub source_given : {E : Type 0} (r : Result (List ℕ) E) (o : Option (List ℕ)) (source number : List ℕ) (q : Id) → ReadsSource source r → o ≡ result_ok r → AreParts source number q → o ≡ Some q.0
source_given (Ok u) o source number q h is parts = is ∙ h.1 ∙ sym parts.a_source
source_given (Err e) o source number q h is parts = absurd (true≢false (sym (h.0.1 (q.0, sym parts.a_source))))

pub number_given : {E : Type 0} (r : Result ℕ E) (o : Option ℕ) (source number : List ℕ) (q : Id) → ParsesUnsigned 64 10 number r → o ≡ result_ok r → AreParts source number q → o ≡ Some q.1
number_given r o source number q h is parts = is ∙ ap result_ok (number_read r number q.1 h parts.a_numeral parts.small)

-- what was read is the text's
pub source_kept : {E : Type 0} (r : Result (List ℕ) E) (text u : List ℕ) → ReadsSource text r → Some u ≡ result_ok r → IsSpelled text u
source_kept (Ok v) text u h is = source_found text u (is ∙ h.1)
source_kept (Err e) text u h is = cc

pub number_kept : {E : Type 0} (r : Result ℕ E) (digits : List ℕ) (n : ℕ) → ParsesUnsigned 64 10 digits r → get_or digits 0 0 ≢ 43 → Some n ≡ result_ok r → IsNumeral digits n
number_kept {E = E} (Ok m) digits n h plain is =
    let same : n ≡ m = cc in
    subst (IsNumeral digits) (sym same) (number_found {E = E} (Ok m) digits h plain)
number_kept (Err e) digits n h plain is = cc

pub gtid_found : (text source number bytes : List ℕ) (n : ℕ) (o : Option Gtid) → text ≡ source ++ 58 ∷ number → IsSpelled source bytes → IsNumeral number n → IfSome o (λ g. (g.source ≡ bytes) × (g.number ≡ n)) → IfSome o (λ g. IsGtidText text (id g))
gtid_found text source number bytes n None is spelled numeral parts = tt
gtid_found text source number bytes n (Some g) is spelled numeral parts = record {
  uuid = source;
  digits = number;
  text_is = is;
  a_uuid = spelled.lowered ∙ ap (hyphenated_text lower) (sym parts.0);
  a_numeral = subst (IsNumeral number) (sym parts.1) numeral;
  lawful = (subst IsSource (sym parts.0) spelled.lawful, g.at_least_one, g.at_most);
}

pub gtid_given : (bytes : List ℕ) (n : ℕ) (o : Option Gtid) (q : Id) → Some bytes ≡ Some q.0 → Some n ≡ Some q.1 → IsGtid q → (((1 ≤ n) × (n ≤ 2 ^ 63 - 2)) → IsSome o) → IfSome o (λ g. (g.source ≡ bytes) × (g.number ≡ n)) →
    IsSomeAnd o (λ g. id g ≡ q)
gtid_given bytes n None q source number lawful some parts =
    let same : n ≡ q.1 = cc in
    absurd (true≢false (sym (some (omega (arith, lawful.1), omega (arith, lawful.2)))))
gtid_given bytes n (Some g) q source number lawful some parts =
    let first : g.source ≡ q.0 = cc (source, parts.0) in
    let second : g.number ≡ q.1 = cc (number, parts.1) in
    (λ i. (first i, second i))
