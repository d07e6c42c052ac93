-- Texts character by character.
use Rattle.columns.proofs.Names.{◌≡◌, ℕ, zero, suc, ◌+◌, ◌<◌, Bool, true, false, List, [], ◌∷◌, ◌++◌, length, length-append, nat_lt, refl, sym, ◌∙◌, ap, subst, append_assoc, arith, IsUtf8, latin1_character}
use Rattle.std.specs.Char.{encode_utf8}
use Rattle.std.proofs.lemmas.List.{append-nil}
use Rattle.std.specs.Bool.{IsTrue}
use Rattle.std.specs.List.{list_all}
use Rattle.std.specs.Str.{IsAscii}
use Rattle.std.proofs.lemmas.Str.{IsUtf8-from_ascii}
use Rattle.columns.specs.CharacterSets.{written, wide_bytes, has_character, IsSpelled}
use Rattle.columns.specs.declared.wide.Wide.{Wide}
use Rattle.columns.specs.declared.wide.Wide.TheVariants.{TwoBytes, Units, LittleUnits, FourBytes}

pub written-append : (f : ℕ → List ℕ) (xs ys : List ℕ) → written f (xs ++ ys) ≡ written f xs ++ written f ys
written-append f [] ys = refl
written-append f (x ∷ xs) ys = ap (λ zs. f x ++ zs) (written-append f xs ys) ∙ sym (append_assoc (f x) (written f xs) (written f ys))

-- ASCII is itself
pub ascii_latin1 : (bytes : List ℕ) → list_all (λ byte. nat_lt byte 128) bytes ≡ true → bytes ≡ written (λ byte. encode_utf8 (latin1_character byte)) bytes
unfolding encode_utf8
ascii_latin1 [] all = refl
ascii_latin1 (byte ∷ bytes) all = grind (arith, ascii_latin1 bytes, all)

-- a character in front of a text
pub spelled-cons : (form : Wide) (c : ℕ) (rest end : List ℕ) → has_character form c ≡ true → IsSpelled form rest end → IsSpelled form (wide_bytes form c ++ rest) (encode_utf8 c ++ end)
spelled-cons form c rest end has spelled = record {
  characters = c ∷ spelled.characters;
  are = grind (arith, has, spelled.are);
  bytes_are = ap (λ zs. wide_bytes form c ++ zs) spelled.bytes_are;
  text_is = ap (λ zs. encode_utf8 c ++ zs) spelled.text_is;
}

-- nothing, or a character in front of a text
pub data BeginsWithCode (form : Wide) (bytes whole : List ℕ) : Type 0 where
  ends : bytes ≡ [] → whole ≡ [] → BeginsWithCode form bytes whole
  begins : (c : ℕ) (rest end : List ℕ) → has_character form c ≡ true → bytes ≡ wide_bytes form c ++ rest → IsSpelled form rest end → whole ≡ encode_utf8 c ++ end → BeginsWithCode form bytes whole

spelled_by : (form : Wide) (cs bytes whole : List ℕ) → list_all (has_character form) cs ≡ true → bytes ≡ written (wide_bytes form) cs → whole ≡ written encode_utf8 cs → BeginsWithCode form bytes whole
spelled_by form [] bytes whole all is text = ends is text
spelled_by form (c ∷ cs) bytes whole all is text =
    begins c (written (wide_bytes form) cs) (written encode_utf8 cs) (grind (arith, all)) is
    record { characters = cs; are = grind (arith, all); bytes_are = refl; text_is = refl } text

pub spelled_begins : (form : Wide) (bytes whole : List ℕ) → IsSpelled form bytes whole → BeginsWithCode form bytes whole
spelled_begins form bytes whole spelled = spelled_by form spelled.characters bytes whole spelled.are spelled.bytes_are spelled.text_is

-- a character takes a byte at least
wide_long : (form : Wide) (c : ℕ) → 0 < length (wide_bytes form c)
wide_long TwoBytes c = omega arith
wide_long Units c = grind arith
wide_long LittleUnits c = grind arith
wide_long FourBytes c = omega arith

-- no bytes are no text
ends_empty : (form : Wide) (bytes whole : List ℕ) → bytes ≡ [] → BeginsWithCode form bytes whole → whole ≡ []
ends_empty form bytes whole none (ends _ empty) = empty
ends_empty form bytes whole none (begins c rest end has is spelled text) =
    let long = wide_long form c in
    let all : length bytes ≡ length (wide_bytes form c) + length rest = ap length is ∙ length-append (wide_bytes form c) rest in
    let no : length bytes ≡ 0 = ap length none in
    absurd (omega (arith, long, all, no))

-- Of the bytes a part has been read as this text, and the rest is left.
pub record IsUpTo (form : Wide) (bytes rest text : List ℕ) : Type 0 where
  pub found : (end : List ℕ) → IsSpelled form rest end → IsSpelled form bytes (text ++ end)
  pub only : (whole : List ℕ) → IsSpelled form bytes whole → (end : List ℕ) × IsSpelled form rest end × (whole ≡ text ++ end)

pub starts_at : (form : Wide) (bytes text : List ℕ) → text ≡ [] → IsUpTo form bytes bytes text
starts_at form bytes text none = record {
  found = λ end spelled. subst (λ t. IsSpelled form bytes (t ++ end)) (sym none) spelled;
  only = λ whole spelled. (whole, spelled, ap (λ t. t ++ whole) (sym none));
}

goes_from : (form : Wide) (rest after text new whole end : List ℕ) (c : ℕ) → (length rest ≡ 0 → ⊥) → new ≡ text ++ encode_utf8 c →
    ((other : ℕ) (tail : List ℕ) → IsTrue (has_character form other) → rest ≡ wide_bytes form other ++ tail → (c ≡ other) × (after ≡ tail)) →
    whole ≡ text ++ end → BeginsWithCode form rest end → (tail : List ℕ) × IsSpelled form after tail × (whole ≡ new ++ tail)
goes_from form rest after text new whole end c some is next whole_is (ends none _) = absurd (some (ap length none))
goes_from form rest after text new whole end c some is next whole_is (begins other tail tail_text has bytes_are spelled text_is) =
    let found = next other tail has bytes_are in
    (tail_text, subst (λ bytes. IsSpelled form bytes tail_text) (sym found.1) spelled, grind (arith, whole_is, text_is, is, found.0, append_assoc text (encode_utf8 c) tail_text))

pub goes_on : (form : Wide) (bytes rest after text new : List ℕ) (c : ℕ) → (length rest ≡ 0 → ⊥) → IsTrue (has_character form c) →
    rest ≡ wide_bytes form c ++ after → new ≡ text ++ encode_utf8 c →
    ((other : ℕ) (tail : List ℕ) → IsTrue (has_character form other) → rest ≡ wide_bytes form other ++ tail → (c ≡ other) × (after ≡ tail)) →
    IsUpTo form bytes rest text → IsUpTo form bytes after new
goes_on form bytes rest after text new c some has is new_is next upto = record {
  found = λ end spelled.
      let whole = upto.found (encode_utf8 c ++ end) (subst (λ b. IsSpelled form b (encode_utf8 c ++ end)) (sym is) (spelled-cons form c after end has spelled)) in
      subst (λ t. IsSpelled form bytes t) (sym (append_assoc text (encode_utf8 c) end) ∙ ap (λ t. t ++ end) (sym new_is)) whole;
  only = λ whole spelled.
      let before = upto.only whole spelled in
      goes_from form rest after text new whole before.0 c some new_is next before.2 (spelled_begins form rest before.0 before.1);
}

empty_spelled : (form : Wide) (rest : List ℕ) → rest ≡ [] → IsSpelled form rest []
empty_spelled form rest none = record { characters = []; are = refl; bytes_are = none; text_is = refl }

pub ends_at : (form : Wide) (bytes rest text : List ℕ) → rest ≡ [] → IsUpTo form bytes rest text → IsSpelled form bytes text
ends_at form bytes rest text none upto = subst (λ t. IsSpelled form bytes t) (append-nil text) (upto.found [] (empty_spelled form rest none))

pub ends_with : (form : Wide) (bytes rest text whole : List ℕ) → rest ≡ [] → IsUpTo form bytes rest text → IsSpelled form bytes whole → text ≡ whole
ends_with form bytes rest text whole none upto spelled =
    let end = upto.only whole spelled in
    let empty = ends_empty form rest end.0 none (spelled_begins form rest end.0 end.1) in
    sym (end.2 ∙ ap (λ t. text ++ t) empty ∙ append-nil text)

stops_from : (form : Wide) (rest end : List ℕ) → (length rest ≡ 0 → ⊥) →
    ((other : ℕ) (tail : List ℕ) → IsTrue (has_character form other) → rest ≡ wide_bytes form other ++ tail → ⊥) → BeginsWithCode form rest end → ⊥
stops_from form rest end some none (ends empty _) = some (ap length empty)
stops_from form rest end some none (begins other tail tail_text has bytes_are spelled text_is) = none other tail has bytes_are

pub stops_at : (form : Wide) (bytes rest text whole : List ℕ) → (length rest ≡ 0 → ⊥) →
    ((other : ℕ) (tail : List ℕ) → IsTrue (has_character form other) → rest ≡ wide_bytes form other ++ tail → ⊥) →
    IsUpTo form bytes rest text → IsSpelled form bytes whole → ⊥
stops_at form bytes rest text whole some none upto spelled =
    let end = upto.only whole spelled in stops_from form rest end.0 some none (spelled_begins form rest end.0 end.1)

ascii_each : (bytes : List ℕ) → list_all (λ byte. nat_lt byte 128) bytes ≡ true → IsAscii bytes
ascii_each [] all i = grind arith
ascii_each (byte ∷ bytes) all zero = grind (arith, all)
ascii_each (byte ∷ bytes) all (suc i) = ascii_each bytes (grind (arith, all)) i

-- bytes that are not UTF-8 and ASCII are not ASCII
pub not_ascii : (bytes : List ℕ) → (IsUtf8 bytes → list_all (λ byte. nat_lt byte 128) bytes ≡ true → ⊥) → list_all (λ byte. nat_lt byte 128) bytes ≡ false
not_ascii bytes none = by (list_all (λ byte. nat_lt byte 128) bytes) refl
  where
    by : (all : Bool) → list_all (λ byte. nat_lt byte 128) bytes ≡ all → list_all (λ byte. nat_lt byte 128) bytes ≡ false
    by true all = absurd (none (IsUtf8-from_ascii bytes (ascii_each bytes all)) all)
    by false all = all
