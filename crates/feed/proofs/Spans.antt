-- Spans of places.
use Rattle.std.proofs.Common.{◌≡◌, ℕ, ◌<◌, ◌≤◌, ◌+◌, ◌-◌, List, [], ◌∷◌, ◌++◌, Option, Some, None, length, take, take_all, get_or, subst, sym, ap, ◌∙◌, arith, refl}
use Rattle.std.specs.Prelude.{if◌then◌else◌, nat_le, slice_get}
use Rattle.std.proofs.lemmas.List.{take_more}
use Rattle.std.proofs.lemmas.Option.{slice_get_within, get_or_from_slice_get, slice_get-get_or}
use Rattle.feed.specs.Seconds.{seconds_after, seconds_at, BeginAt}

-- a span that begins later does not count
pub not_later : (known : Option ℕ) (span : ℕ × Option ℕ) (rest : List (ℕ × Option ℕ)) (n : ℕ) → n < span.0 →
    seconds_after known (span ∷ rest) n ≡ seconds_after known rest n
not_later known span rest n later = grind (arith, later)

-- one that begins there or before does
pub begun : (known : Option ℕ) (span : ℕ × Option ℕ) (rest : List (ℕ × Option ℕ)) (n : ℕ) → span.0 ≤ n →
    seconds_after known (span ∷ rest) n ≡ seconds_after span.1 rest n
begun known span rest n there = grind (arith, there)

-- no span that begins later counts
pub none_later : (known : Option ℕ) (spans : List (ℕ × Option ℕ)) (least n : ℕ) → n < least → BeginAt least spans → seconds_after known spans n ≡ known
none_later known [] least n less begin = refl
none_later known (span ∷ rest) least n less begin =
    not_later known span rest n (omega (arith, less, begin.0)) ∙ none_later known rest span.0 n (omega (arith, less, begin.0)) begin.1

-- the last one
pub last_later : (known : Option ℕ) (spans : List (ℕ × Option ℕ)) (span : ℕ × Option ℕ) (n : ℕ) → n < span.0 →
    seconds_after known (spans ++ span ∷ []) n ≡ seconds_after known spans n
last_later known [] span n later = not_later known span [] n later
last_later known (first ∷ rest) span n later = last_later (if nat_le first.0 n then first.1 else known) rest span n later

pub last_begun : (known : Option ℕ) (spans : List (ℕ × Option ℕ)) (span : ℕ × Option ℕ) (n : ℕ) → span.0 ≤ n →
    seconds_after known (spans ++ span ∷ []) n ≡ span.1
last_begun known [] span n there = begun known span [] n there
last_begun known (first ∷ rest) span n there = last_begun (if nat_le first.0 n then first.1 else known) rest span n there

-- spans that begin later begin earlier
pub begin_earlier : (spans : List (ℕ × Option ℕ)) (least less : ℕ) → less ≤ least → BeginAt least spans → BeginAt less spans
begin_earlier [] least less le begin = tt
begin_earlier (span ∷ rest) least less le begin = (omega (arith, le, begin.0), begin.1)

-- without the last one
pub begin_front : (spans : List (ℕ × Option ℕ)) (span : ℕ × Option ℕ) (least : ℕ) → BeginAt least (spans ++ span ∷ []) → BeginAt least spans
begin_front [] span least begin = tt
begin_front (first ∷ rest) span least begin = (begin.0, begin_front rest span first.0 begin.1)

-- with one more after the last one
pub begin_more : (spans : List (ℕ × Option ℕ)) (last span : ℕ × Option ℕ) (least : ℕ) → last.0 ≤ span.0 → BeginAt least (spans ++ last ∷ []) →
    BeginAt least ((spans ++ last ∷ []) ++ span ∷ [])
begin_more [] last span least le begin = (begin.0, (le, tt))
begin_more (first ∷ rest) last span least le begin = (begin.0, begin_more rest last span first.0 le begin.1)

-- a list by its last element
pub ends_with : (spans : List (ℕ × Option ℕ)) (span : ℕ × Option ℕ) → slice_get spans (length spans - 1) ≡ Some span →
    spans ≡ take (length spans - 1) spans ++ span ∷ []
ends_with spans span e =
    let within = slice_get_within spans (length spans - 1) span e in
    sym (take_all (length spans - 1 + 1) spans (omega (arith, within))) ∙ take_more spans (length spans - 1) span within
    ∙ ap (λ x. take (length spans - 1) spans ++ x ∷ []) (get_or_from_slice_get spans (length spans - 1) span span e)

-- one is cut off that begins later
pub cut_one : (spans cut : List (ℕ × Option ℕ)) (span : ℕ × Option ℕ) → slice_get spans (length spans - 1) ≡ Some span →
    cut ≡ take (length spans - 1) spans → BeginAt 0 spans → BeginAt 0 cut × ((n : ℕ) → n < span.0 → seconds_at cut n ≡ seconds_at spans n)
cut_one spans cut span e is begin =
    let parts : spans ≡ cut ++ span ∷ [] = ends_with spans span e ∙ ap (λ (xs : List (ℕ × Option ℕ)). xs ++ span ∷ []) (sym is) in
    (begin_front cut span 0 (subst (BeginAt 0) parts begin), λ n later. sym (last_later None cut span n later) ∙ ap (λ xs. seconds_at xs n) (sym parts))

-- a change after the last span
pub has_last : (spans : List (ℕ × Option ℕ)) (span : ℕ × Option ℕ) → slice_get spans (length spans - 1) ≡ Some span →
    (n : ℕ) → span.0 ≤ n → seconds_at spans n ≡ span.1
has_last spans span e n there = ap (λ xs. seconds_at xs n) (ends_with spans span e) ∙ last_begun None (take (length spans - 1) spans) span n there

-- a span after all others
pub push_begins : (spans : List (ℕ × Option ℕ)) (place : ℕ) (seconds : Option ℕ) →
    ((span : ℕ × Option ℕ) → slice_get spans (length spans - 1) ≡ Some span → span.0 < place) →
    BeginAt 0 spans → BeginAt 0 (spans ++ (place, seconds) ∷ [])
push_begins [] place seconds ends begin = (omega arith, tt)
push_begins (first ∷ rest) place seconds ends begin =
    let spans = first ∷ rest in
    let d = get_or spans (length spans - 1) first in
    let e : slice_get spans (length spans - 1) ≡ Some d = slice_get-get_or spans (length spans - 1) first (omega arith) in
    let parts = ends_with spans d e in
    subst (λ xs. BeginAt 0 (xs ++ (place, seconds) ∷ [])) (sym parts)
    (begin_more (take (length spans - 1) spans) d (place, seconds) 0 (omega (arith, ends d e)) (subst (BeginAt 0) parts begin))

-- where the first span that is left begins later
pub stops : (known : Option ℕ) (spans : List (ℕ × Option ℕ)) (place : ℕ) → (1 ≤ length spans → place < (get_or spans 0 (0, None)).0) → BeginAt 0 spans →
    known ≡ seconds_after known spans place
stops known [] place later begin = refl
stops known (span ∷ rest) place later begin =
    sym (none_later known (span ∷ rest) span.0 place (later (omega arith)) (omega arith, begin.1))
