-- Counts: length-encoded integers inside an event.
use Rattle.binlog.proofs.Names.{◌≡◌, ℕ, suc, ◌+◌, ◌-◌, ◌<◌, ◌≤◌, ◌==◌, List, ◌∷◌, ◌++◌, length, get_or, take, Some, None, refl, sym, ap, subst, ◌∙◌, arith, inl, inr, nat_le, false≢true, cases_eq, cases_lt, le-leb, le-ltb, lt-ltb, ne_eqb, length-append, length-drop, get_or-drop, little_number, little_number-reads_back, little_from-lt, IsLengthEncoded, count_width, count_at, EventFaultKind, Truncated, IsBytes, drop_drop}
use Rattle.std.proofs.Common.{drop}
use Rattle.std.specs.Prelude.{if◌then◌else◌}
use Rattle.binlog.specs.Count.{width_of, no_count}
use Rattle.binlog.proofs.Tables.{passes, not_refused, is_there}
use Rattle.wire.proofs.Cuts.{one, take_is_number}

-- ---- By the bytes from the offset on.

first_at : (bytes : List ℕ) (place : ℕ) → get_or bytes place 0 ≡ get_or (drop place bytes) 0 0
first_at bytes place = let e : place ≡ place + 0 = omega arith in rw get_or-drop (ap (λ k. get_or bytes k 0) e)

abbrev value_by : ℕ → List ℕ → ℕ
value_by first after = if nat_le first 250 then first else little_number (width_of first - 1) after

value_at : (bytes : List ℕ) (place : ℕ) → count_at bytes place ≡ count_at (drop place bytes) 0
value_at bytes place =
    let first = first_at bytes place in
    let after : drop (place + 1) bytes ≡ drop 1 (drop place bytes) = sym (drop_drop place 1 bytes) in
    let a : count_at bytes place ≡ value_by (get_or bytes place 0) (drop (place + 1) bytes) = refl in
    let b : value_by (get_or (drop place bytes) 0 0) (drop 1 (drop place bytes)) ≡ count_at (drop place bytes) 0 = refl in
    a ∙ ap (λ f. value_by f (drop (place + 1) bytes)) first ∙ ap (value_by (get_or (drop place bytes) 0 0)) after ∙ b

front_reported : (n : ℕ) (front rest : List ℕ) → IsLengthEncoded n front → (count_width (front ++ rest) 0 ≡ length front) × (count_at (front ++ rest) 0 ≡ n)
front_reported n front rest (inl (fits, is)) = ((λ i. count_width (is i ++ rest) 0) ∙ rw (le-leb n 250 fits) refl ∙ sym (ap length is), (λ i. count_at (is i ++ rest) 0) ∙ rw (le-leb n 250 fits) refl)
front_reported n front rest (inr (inl (fits, is))) = ((λ i. count_width (is i ++ rest) 0) ∙ sym (ap length is), (λ i. count_at (is i ++ rest) 0) ∙ little_number-reads_back 2 n rest fits)
front_reported n front rest (inr (inr (inl (fits, is)))) = ((λ i. count_width (is i ++ rest) 0) ∙ sym (ap length is), (λ i. count_at (is i ++ rest) 0) ∙ little_number-reads_back 3 n rest fits)
front_reported n front rest (inr (inr (inr (fits, is)))) = ((λ i. count_width (is i ++ rest) 0) ∙ sym (ap length is), (λ i. count_at (is i ++ rest) 0) ∙ little_number-reads_back 8 n rest fits)

-- ---- A count at an offset.

pub counted : (n : ℕ) (front rest bytes : List ℕ) (place : ℕ) → IsLengthEncoded n front → drop place bytes ≡ front ++ rest → (count_width bytes place ≡ length front) × (count_at bytes place ≡ n)
counted n front rest bytes place is stands =
    let t = front_reported n front rest is in
    (ap width_of (first_at bytes place) ∙ ap (λ l. count_width l 0) stands ∙ t.0, value_at bytes place ∙ ap (λ l. count_at l 0) stands ∙ t.1)

-- no encoding is empty
pub some_bytes : (n : ℕ) (front : List ℕ) → IsLengthEncoded n front → 1 ≤ length front
some_bytes n front (inl (fits, is)) = omega (arith, ap length is)
some_bytes n front (inr (inl (fits, is))) = omega (arith, ap length is)
some_bytes n front (inr (inr (inl (fits, is)))) = omega (arith, ap length is)
some_bytes n front (inr (inr (inr (fits, is)))) = omega (arith, ap length is)

pub count_not_refused : (n : ℕ) (front rest bytes : List ℕ) (place : ℕ) (kind : EventFaultKind) → place ≤ length bytes → IsLengthEncoded n front → drop place bytes ≡ front ++ rest → no_count bytes place kind ≡ None
unfolding no_count
count_not_refused n front rest bytes place kind within is stands =
    let width = (counted n front rest bytes place is stands).0 in
    let some = some_bytes n front is in
    let long : length front + length rest ≡ length bytes - place = sym (length-append front rest) ∙ sym (ap length stands) ∙ length-drop place bytes in
    let there : place + 1 ≤ length bytes = omega (arith, some, long, within) in
    let whole : place + count_width bytes place ≤ length bytes = omega (arith, width, long, within) in
    let begins : count_width bytes place ≡ 0 → ⊥ = λ zero. omega (arith, zero, width, some) in
    rw (le-ltb _ _ there, ne_eqb _ _ begins, le-ltb _ _ whole) refl

-- ---- Counts by the first byte.

data Begins (first : ℕ) : Type 0 where
  small : first ≤ 250 → Begins first
  two : first ≡ 252 → Begins first
  three : first ≡ 253 → Begins first
  eight : first ≡ 254 → Begins first

begins : (first : ℕ) → first < 256 → (first ≡ 251 → ⊥) → (first ≡ 255 → ⊥) → Begins first
begins first byte not_null not_last =
    elim (cases_lt first 251) as (λ _. Begins first) [
      | inl lt ↦ small (omega (arith, lt))
      | inr ge ↦ elim (cases_eq first 252) as (λ _. Begins first) [
        | inl e ↦ two e
        | inr n2 ↦ elim (cases_eq first 253) as (λ _. Begins first) [
          | inl e ↦ three e
          | inr n3 ↦ elim (cases_eq first 254) as (λ _. Begins first) [
            | inl e ↦ eight e
            | inr n4 ↦ absurd (omega (arith, ge, byte, not_null, not_last, n2, n3, n4))
          ]
        ]
      ]
    ]

width_is_not_0 : (first : ℕ) → Begins first → width_of first ≡ 0 → ⊥
width_is_not_0 first (small s) zero = let e : width_of first ≡ 1 = rw (le-leb first 250 s) refl in absurd (omega (arith, e, zero))
width_is_not_0 first (two e) zero = let w = ap width_of e in absurd (omega (arith, w, zero))
width_is_not_0 first (three e) zero = let w = ap width_of e in absurd (omega (arith, w, zero))
width_is_not_0 first (eight e) zero = let w = ap width_of e in absurd (omega (arith, w, zero))

front_is : (first : ℕ) (more : List ℕ) → IsBytes more → Begins first → width_of first ≤ length (first ∷ more) → IsLengthEncoded (count_at (first ∷ more) 0) (take (width_of first) (first ∷ more))
front_is first more fits (small s) long = rw (le-leb first 250 s) (inl (s, refl))
front_is first more fits (two e) long =
    let enough : 2 ≤ length more = omega (arith, long, ap width_of e) in
    rw e (inr (inl (little_from-lt 0 2 more fits, ap (λ l. 252 ∷ l) (take_is_number 2 more enough fits))))
front_is first more fits (three e) long =
    let enough : 3 ≤ length more = omega (arith, long, ap width_of e) in
    rw e (inr (inr (inl (little_from-lt 0 3 more fits, ap (λ l. 253 ∷ l) (take_is_number 3 more enough fits)))))
front_is first more fits (eight e) long =
    let enough : 8 ≤ length more = omega (arith, long, ap width_of e) in
    rw e (inr (inr (inr (little_from-lt 0 8 more fits, ap (λ l. 254 ∷ l) (take_is_number 8 more enough fits)))))

-- from an offset on, if there is a byte
encoded_at : (bytes : List ℕ) (place : ℕ) → IsBytes bytes → Begins (get_or bytes place 0) → place + 1 ≤ length bytes → place + count_width bytes place ≤ length bytes →
    IsLengthEncoded (count_at bytes place) (take (count_width bytes place) (drop place bytes))
encoded_at bytes place fits begin there whole =
    let first = get_or bytes place 0 in
    let more = drop (suc place) bytes in
    let stands : drop place bytes ≡ first ∷ more = one place bytes (omega (arith, there)) in
    let bytes_more : IsBytes more = λ i. rw get_or-drop (fits (suc place + i)) in
    let long : width_of first ≤ length (first ∷ more) = omega (arith, whole, there, length-drop (suc place) bytes) in
    let value : count_at bytes place ≡ count_at (first ∷ more) 0 = value_at bytes place ∙ ap (λ l. count_at l 0) stands in
    subst (λ (q : ℕ × List ℕ). IsLengthEncoded q.0 q.1) (λ i. (sym value i, take (width_of first) (sym stands i))) (front_is first more bytes_more begin long)

-- If none is refused, there is a count.
pub record Counted (bytes : List ℕ) (place : ℕ) : Type 0 where
  pub whole : place + count_width bytes place ≤ length bytes
  pub encoded : IsLengthEncoded (count_at bytes place) (take (count_width bytes place) (drop place bytes))

pub is_counted : (bytes : List ℕ) (place : ℕ) (kind : EventFaultKind) → IsBytes bytes → no_count bytes place kind ≡ None → Counted bytes place
unfolding no_count
is_counted bytes place kind fits none =
    let a = passes _ _ none in
    let b = passes _ _ a.1 in
    let c = passes _ _ b.1 in
    let there = is_there bytes place 1 a.0 in
    let nonzero = not_refused (count_width bytes place == 0) kind place b.0 in
    let whole = is_there bytes place (count_width bytes place) c.0 in
    let first = get_or bytes place 0 in
    let not_null : first ≡ 251 → ⊥ = λ e. false≢true (sym nonzero ∙ ap (λ f. width_of f == 0) e) in
    let not_last : first ≡ 255 → ⊥ = λ e. false≢true (sym nonzero ∙ ap (λ f. width_of f == 0) e) in
    record { whole = whole; encoded = encoded_at bytes place fits (begins first (fits place) not_null not_last) there whole }

-- There is no count, although its first byte, if there is one, begins one.
pub too_few : (bytes : List ℕ) (place : ℕ) (kind : EventFaultKind) → IsBytes bytes → ((n len : ℕ) → IsLengthEncoded n (take len (drop place bytes)) → ⊥) →
    (place + 1 ≤ length bytes → (get_or bytes place 0 ≡ 251 → ⊥) × (get_or bytes place 0 ≡ 255 → ⊥)) → no_count bytes place kind ≡ Some (record { kind = Truncated; at = place })
unfolding no_count
too_few bytes place kind fits not first =
    elim (cases_lt (length bytes) (place + 1)) [
      | inl short ↦ rw (lt-ltb _ _ short) refl
      | inr there ↦
          let begin = begins (get_or bytes place 0) (fits place) (first there).0 (first there).1 in
          elim (cases_lt (length bytes) (place + count_width bytes place)) [
            | inl short ↦ rw (le-ltb _ _ there, ne_eqb _ _ (width_is_not_0 (get_or bytes place 0) begin), lt-ltb _ _ short) refl
            | inr whole ↦ absurd (not _ _ (encoded_at bytes place fits begin there whole))
          ]
    ]

-- A first byte that begins no count.
pub none_begins : (bytes : List ℕ) (place : ℕ) (kind : EventFaultKind) → place + 1 ≤ length bytes → width_of (get_or bytes place 0) ≡ 0 → no_count bytes place kind ≡ Some (record { kind = kind; at = place })
unfolding no_count
none_begins bytes place kind there zero = rw (le-ltb _ _ there, zero) refl
