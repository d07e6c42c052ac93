-- The fields of a line are cut in one way.
use Rattle.columns.proofs.Names.{◌≡◌, ℕ, Bool, true, false, not, if◌then◌else◌, List, [], ◌∷◌, ◌++◌, refl, ap, sym, ◌∙◌, arith, append_assoc, IsTrue, codes, bytes_eq, other_text, list_any, Bor, HasSeen, Are, Ends, is_inner, set_text, Client}
use Rattle.std.specs.Prelude.{◌==◌, ◌||◌, Option, Some, None, is_some, cond}
use Rattle.std.proofs.Common.{String}
use Rattle.std.proofs.Common.{Global}
use Rattle.std.specs.Str.{is_utf8, chars}
use Rattle.std.specs.Ordering.{is_eq, nat_cmp}
use Rattle.std.specs.Cmp.Lexicographic.{slice_cmp, same_text}
use Rattle.std.proofs.lemmas.Map.Text.{is_eq-slice_cmp}
use Rattle.std.proofs.lemmas.List.Folds.{list_any-append}
use Rattle.columns.specs.Escapes.{escape, escaped}
use Rattle.columns.specs.Lines.{is_separator, field, option_bytes, IsSet, IsName}
use Rattle.columns.proofs.Words.{one_cut}
use Rattle.columns.proofs.Types.{never}

which : (a n : ℕ) (x y : List ℕ) (P : List ℕ → Type 0) → P x → ((a == n) ≡ false → P y) → P (if a == n then x else y)
which a n x y P p q = by (a == n) refl
  where
    by : (t : Bool) → (a == n) ≡ t → P (if t then x else y)
    by true h = p
    by false h = q h

are_both : (kind : ℕ → Bool) (a b : List ℕ) → Are kind a → Are kind b → Are kind (a ++ b)
are_both kind [] b p q = q
are_both kind (c ∷ a) b p q = (p.0, are_both kind a b p.1 q)

inner_escape : (b : ℕ) → Are is_inner (escape Client b)
inner_escape b =
    let P : List ℕ → Type 0 = λ text. Are is_inner text in
    which b 9 _ _ P (refl, (refl, tt)) (λ tab. which b 10 _ _ P (refl, (refl, tt)) (λ newline. which b 92 _ _ P (refl, (refl, tt)) (λ _. which b 0 _ _ P (refl, (refl, tt)) (λ _. (rw (tab, newline) refl, tt)))))

pub inner_escaped : (bytes : List ℕ) → Are is_inner (escaped Client bytes)
inner_escaped [] = tt
inner_escaped (b ∷ bytes) = are_both is_inner (escape Client b) (escaped Client bytes) (inner_escape b) (inner_escaped bytes)

no_inner : (t : Bool) → t ≡ true → not t ≡ false
no_inner true h = refl
no_inner false h = absurd (never h)

-- a text that is cut at its first separator, and begins with a field
pub field_cut : (front rest bytes tail text : List ℕ) (end : ℕ) → IsTrue (is_separator end) → text ≡ front ++ rest → Are is_inner front → Ends is_inner rest →
    text ≡ field bytes end ++ tail → (front ≡ escaped Client bytes) × (rest ≡ end ∷ tail)
field_cut front rest bytes tail text end separates whole inner stops is =
    one_cut is_inner front (escaped Client bytes) rest (end ∷ tail) inner (inner_escaped bytes) stops (no_inner (is_separator end) separates)
    (sym whole ∙ is ∙ append_assoc (escaped Client bytes) (end ∷ []) tail)

pub spread : (a b c d rest : List ℕ) → (a ++ (b ++ (c ++ d))) ++ rest ≡ a ++ (b ++ (c ++ (d ++ rest)))
spread a b c d rest = simp append_assoc

pub same_given : (set : Option (String Global)) (value : Option (List ℕ)) → option_bytes set ≡ value → is_some set ≡ is_some value
same_given None value same = ap is_some same
same_given (Some name) value same = ap is_some same

none_utf8 : is_utf8 (codes "NULL") ≡ true
unfolding is_utf8 chars lib.Utf8.encode
none_utf8 = refl

-- what stands for a character set, or for none, is a name
pub name_of_set : (set : Option (List ℕ)) → IsSet set → IsName (set_text set)
name_of_set None lawful = record { some = omega arith; text = none_utf8 }
name_of_set (Some name) lawful = lawful.0

-- keys of a set, and the texts that it has seen
pub seen_before : (keys : List (Bor (List ℕ))) (text : List ℕ) (texts : List (List ℕ)) → HasSeen keys texts →
    list_any (λ key. is_eq (slice_cmp nat_cmp text key.now)) keys ≡ list_any (bytes_eq text) texts
seen_before keys text texts seen = (λ i. list_any (λ (key : Bor (List ℕ)). is_eq-slice_cmp text key.now i) keys) ∙ seen text

pub same_test : (a b : List ℕ) → bytes_eq a b ≡ bytes_eq b a
same_test a b = by (bytes_eq a b) (bytes_eq b a) refl refl
  where
    by : (s t : Bool) → bytes_eq a b ≡ s → bytes_eq b a ≡ t → s ≡ t
    by true true h k = refl
    by false false h k = refl
    by true false h k = absurd (other_text b a (sym k) (sym (same_text a b (sym h))))
    by false true h k = absurd (other_text a b (sym h) (sym (same_text b a (sym k))))

or_last : (a b : Bool) → cond b true a ≡ (a || (b || false))
or_last true true = refl
or_last true false = refl
or_last false true = refl
or_last false false = refl

pub seen_more : (keys more : List (Bor (List ℕ))) (key : Bor (List ℕ)) (texts : List (List ℕ)) → HasSeen keys texts →
    ((other : Bor (List ℕ)) → list_any (λ k. is_eq (slice_cmp nat_cmp other.now k.now)) more ≡ cond (is_eq (slice_cmp nat_cmp key.now other.now)) true (list_any (λ k. is_eq (slice_cmp nat_cmp other.now k.now)) keys)) →
    HasSeen more (texts ++ key.now ∷ [])
seen_more keys more key texts seen updates text =
    sym (λ i. list_any (λ (k : Bor (List ℕ)). is_eq-slice_cmp text k.now i) more) ∙ updates (record key { now = text }) ∙
    (λ i. cond ((is_eq-slice_cmp key.now text ∙ same_test key.now text) i) true (seen_before keys text texts seen i)) ∙
    or_last (list_any (bytes_eq text) texts) (bytes_eq text key.now) ∙
    sym (list_any-append (bytes_eq text) texts (key.now ∷ []))
