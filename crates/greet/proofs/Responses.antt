-- Responses: what they say, and that anything else is refused.
use Rattle.std.proofs.Common.{◌≡◌, ◌≢◌, ℕ, suc, ◌+◌, ◌<◌, ◌≤◌, ◌==◌, true, false, List, [], ◌∷◌, ◌++◌, length, get_or, take, drop, Some, None, refl, sym, ap, ◌∙◌, arith, inl, inr}
use Rattle.std.proofs.Math.ListN.{drop_of_length-le}
use Rattle.std.proofs.lemmas.Bool.{cases_Bool, ne_eqb, eq-eqb, eqb-true, le-ltb, lt-ltb}
use Rattle.std.proofs.lemmas.List.{drop_more, length-append, take-append-drop, take_at, drop_at}
use Rattle.std.specs.Str.{bytes_eq}
use Rattle.greet.specs.Message.{IsText, plugin_name, response_lead, ResponseValue, IsResponse}
use Rattle.greet.specs.Refusal.{protocol, truncated, plugin, after_zero, before_zero, first_difference, end_refusal, response_refusal}
use Rattle.wire.proofs.Cuts.{right_5}
use Rattle.greet.proofs.Cuts.{IsText-by, has_zero-text, has_zero-none, after_zero-text, before_zero-text}

-- ---- The leading bytes.

pub differs : (xs ys : List ℕ) (i : ℕ) → i < length xs → i < length ys → get_or xs i 0 ≢ get_or ys i 0 → first_difference (drop i xs) (drop i ys) ≡ Some (protocol (get_or xs i 0))
differs xs ys i short few other = rw (drop_more xs i 0 short, drop_more ys i 0 few, ne_eqb _ _ other) refl

pub agrees : (xs ys : List ℕ) (i : ℕ) → i < length xs → i < length ys → get_or xs i 0 ≡ get_or ys i 0 → first_difference (drop i xs) (drop i ys) ≡ first_difference (drop (i + 1) xs) (drop (i + 1) ys)
agrees xs ys i short few same = rw (drop_more xs i 0 short, drop_more ys i 0 few, eq-eqb _ _ same) refl

pub no_difference : (xs ys : List ℕ) → length xs ≡ length ys → first_difference xs ys ≡ None → xs ≡ ys
no_difference [] [] long none = refl
no_difference [] (y ∷ ys) long none = absurd (omega (arith, long))
no_difference (x ∷ xs) [] long none = absurd (omega (arith, long))
no_difference (x ∷ xs) (y ∷ ys) long none = elim (cases_Bool (x == y)) [
  | inl same ↦
      let e = eqb-true x y same in
      let rest : first_difference xs ys ≡ None = rw same at none in
      let others = no_difference xs ys (omega (arith, long)) rest in
      λ i. e i ∷ others i
  | inr other ↦ absurd (let one : Some (protocol x) ≡ None = rw other at none in some_none one)
]
  where
    some_none : {X : Type 0} {x : X} → Some x ≡ None → ⊥
    some_none e = cc

pub itself : (xs : List ℕ) → first_difference xs xs ≡ None
itself [] = refl
itself (x ∷ xs) = rw (eq-eqb x x refl) (itself xs)

-- ---- The end.

pub no_name : (lead name : List ℕ) → IsText name → end_refusal lead name ≡ Some truncated
unfolding end_refusal
no_name lead name text = rw (has_zero-none name text) refl

pub left_over : (lead name rest : List ℕ) → IsText name → (length rest == 0) ≡ false → end_refusal lead (name ++ 0 ∷ rest) ≡ Some truncated
unfolding end_refusal
left_over lead name rest text some = rw (has_zero-text name rest, after_zero-text name rest text, some) refl

pub other_plugin : (lead name rest : List ℕ) → IsText name → (length rest == 0) ≡ true → bytes_eq name plugin_name ≡ false → end_refusal lead (name ++ 0 ∷ rest) ≡ Some plugin
unfolding end_refusal
other_plugin lead name rest text none other = rw (has_zero-text name rest, after_zero-text name rest text, none, before_zero-text name rest text, other) refl

pub whole_name : (lead name rest : List ℕ) → IsText name → (length rest == 0) ≡ true → bytes_eq name plugin_name ≡ true → end_refusal lead (name ++ 0 ∷ rest) ≡ first_difference lead response_lead
unfolding end_refusal
whole_name lead name rest text none same = rw (has_zero-text name rest, after_zero-text name rest text, none, before_zero-text name rest text, same) refl

-- ---- The whole.

pub no_lead : (payload : List ℕ) → length payload < 32 → response_refusal payload ≡ Some truncated
unfolding response_refusal
no_lead payload few = let short : length payload ≤ 32 = omega (arith, few) in let none : drop 32 payload ≡ [] = drop_of_length-le payload short in rw none refl

pub no_user : (payload : List ℕ) → IsText (drop 32 payload) → response_refusal payload ≡ Some truncated
unfolding response_refusal
no_user payload text = rw (has_zero-none (drop 32 payload) text) refl

pub no_size : (payload user : List ℕ) → drop 32 payload ≡ user ++ 0 ∷ [] → IsText user → response_refusal payload ≡ Some truncated
unfolding response_refusal
no_size payload user parts text = rw (parts, has_zero-text user [], after_zero-text user [] text) refl

pub short_answer : (payload user : List ℕ) (size : ℕ) (rest : List ℕ) → drop 32 payload ≡ user ++ 0 ∷ (size ∷ rest) → IsText user → length rest < size → response_refusal payload ≡ Some truncated
unfolding response_refusal
short_answer payload user size rest parts text short = rw (parts, has_zero-text user (size ∷ rest), after_zero-text user (size ∷ rest) text, lt-ltb (suc (length rest)) (1 + size) (omega (arith, short))) refl

drop_one_more : (n x : ℕ) (xs : List ℕ) → drop (1 + n) (x ∷ xs) ≡ drop n xs
drop_one_more n x xs = let e : 1 + n ≡ suc n = omega arith in ap (λ k. drop k (x ∷ xs)) e

pub then_end : (payload user : List ℕ) (size : ℕ) (rest : List ℕ) → drop 32 payload ≡ user ++ 0 ∷ (size ∷ rest) → IsText user → size ≤ length rest → response_refusal payload ≡ end_refusal (take 32 payload) (drop size rest)
unfolding response_refusal
then_end payload user size rest parts text long =
    rw (parts, has_zero-text user (size ∷ rest), after_zero-text user (size ∷ rest) text, le-ltb (suc (length rest)) (1 + size) (omega (arith, long)), drop_one_more size size rest) refl

pub is_response : (payload user auth : List ℕ) → take 32 payload ≡ response_lead → drop 32 payload ≡ user ++ 0 ∷ (length auth ∷ (auth ++ (plugin_name ++ 0 ∷ []))) → IsText user → length auth < 256 →
    IsResponse (record { user = user; auth = auth }) payload
is_response payload user auth lead rest text small = record {
  payload_is = sym (take-append-drop 32 payload) ∙ (λ i. lead i ++ rest i) ∙ sym (right_5 response_lead user (0 ∷ length auth ∷ auth) plugin_name (0 ∷ []));
  fits = (text, small);
}

pub parts_of : (r : ResponseValue) (payload : List ℕ) → IsResponse r payload → payload ≡ response_lead ++ (r.user ++ 0 ∷ (length r.auth ∷ (r.auth ++ (plugin_name ++ 0 ∷ []))))
parts_of r payload is = is.payload_is ∙ right_5 response_lead r.user (0 ∷ length r.auth ∷ r.auth) plugin_name (0 ∷ [])

-- A response is not refused,
pub not_refused : (r : ResponseValue) (payload : List ℕ) → IsResponse r payload → response_refusal payload ≡ None
not_refused r payload is =
    let tail = plugin_name ++ 0 ∷ [] in
    let lead : take 32 payload ≡ response_lead = ap (take 32) (parts_of r payload is) in
    let rest : drop 32 payload ≡ r.user ++ 0 ∷ (length r.auth ∷ (r.auth ++ tail)) = ap (drop 32) (parts_of r payload is) in
    then_end payload r.user (length r.auth) (r.auth ++ tail) rest is.fits.0 (omega (arith, length-append r.auth tail))
    ∙ (λ i. end_refusal (lead i) (drop_at r.auth tail (length r.auth) refl i))
    ∙ whole_name response_lead plugin_name [] (IsText-by plugin_name refl) refl refl
    ∙ itself response_lead

-- and has one meaning.
pub one_value : (a b : ResponseValue) (payload : List ℕ) → IsResponse a payload → IsResponse b payload → a ≡ b
one_value a b payload is_a is_b =
    let ta = length a.auth ∷ (a.auth ++ (plugin_name ++ 0 ∷ [])) in
    let tb = length b.auth ∷ (b.auth ++ (plugin_name ++ 0 ∷ [])) in
    let same : a.user ++ 0 ∷ ta ≡ b.user ++ 0 ∷ tb = ap (drop 32) (sym (parts_of a payload is_a) ∙ parts_of b payload is_b) in
    let user = sym (before_zero-text a.user ta is_a.fits.0) ∙ ap before_zero same ∙ before_zero-text b.user tb is_b.fits.0 in
    let after : ta ≡ tb = sym (after_zero-text a.user ta is_a.fits.0) ∙ ap after_zero same ∙ after_zero-text b.user tb is_b.fits.0 in
    let size : length a.auth ≡ length b.auth = ap (λ l. get_or l 0 0) after in
    let auth : a.auth ≡ b.auth = sym (take_at a.auth (plugin_name ++ 0 ∷ []) (length a.auth) refl) ∙ (λ i. take (size i) (drop 1 (after i))) ∙ take_at b.auth (plugin_name ++ 0 ∷ []) (length b.auth) refl in
    λ i. record { user = user i; auth = auth i }
