-- Texts that are codes in a row: they are read in one way.
use Rattle.columns.proofs.Names.{◌≡◌, ℕ, List, [], ◌∷◌, ◌++◌, refl, sym, subst, ◌∙◌, append_assoc, flat_map, AllByRecursion}

-- A text that begins with the code of one and goes on well is cut after that code in one way.
pub record IsCode (A : Type 0) (IsOne : A → Type 0) (GoesOn : List ℕ → Type 0) (code : A → List ℕ) : Type 0 where
  pub starts : (a : A) (x : List ℕ) → GoesOn (code a ++ x)
  pub cut : (a b : A) (x y : List ℕ) → IsOne a → IsOne b → GoesOn x → GoesOn y → code a ++ x ≡ code b ++ y → (a ≡ b) × (x ≡ y)

-- No code stands at the front.
abbrev pub NoCode : (A : Type 0) (IsOne : A → Type 0) (GoesOn : List ℕ → Type 0) (code : A → List ℕ) → List ℕ → Type 0
NoCode A IsOne GoesOn code text = (a : A) (rest : List ℕ) → IsOne a → GoesOn rest → text ≡ code a ++ rest → ⊥

pub goes_on : (A : Type 0) (IsOne : A → Type 0) (GoesOn : List ℕ → Type 0) (code : A → List ℕ) → IsCode A IsOne GoesOn code →
    (those : List A) (x : List ℕ) → GoesOn x → GoesOn (flat_map code those ++ x)
goes_on A IsOne GoesOn code is [] x on = on
goes_on A IsOne GoesOn code is (a ∷ those) x on = subst GoesOn (sym (append_assoc (code a) (flat_map code those) x)) (is.starts a (flat_map code those ++ x))

-- codes that were read begin the whole
pub begins : (A : Type 0) (IsOne : A → Type 0) (GoesOn : List ℕ → Type 0) (code : A → List ℕ) → IsCode A IsOne GoesOn code →
    (done whole : List A) (x y : List ℕ) → AllByRecursion IsOne done → AllByRecursion IsOne whole → GoesOn x → GoesOn y → NoCode A IsOne GoesOn code y →
    flat_map code done ++ x ≡ flat_map code whole ++ y →
    (more : List A) × (whole ≡ done ++ more) × (x ≡ flat_map code more ++ y) × AllByRecursion IsOne more
begins A IsOne GoesOn code is [] whole x y these those on goes none e = (whole, refl, e, those)
begins A IsOne GoesOn code is (a ∷ done) [] x y these those on goes none e =
    absurd (none a (flat_map code done ++ x) these.0 (goes_on A IsOne GoesOn code is done x on) (sym e ∙ append_assoc (code a) (flat_map code done) x))
begins A IsOne GoesOn code is (a ∷ done) (b ∷ whole) x y these those on goes none e =
    let both = is.cut a b (flat_map code done ++ x) (flat_map code whole ++ y) these.0 those.0 (goes_on A IsOne GoesOn code is done x on) (goes_on A IsOne GoesOn code is whole y goes)
    (sym (append_assoc (code a) (flat_map code done) x) ∙ e ∙ append_assoc (code b) (flat_map code whole) y) in
    let rest = begins A IsOne GoesOn code is done whole x y these.1 those.1 on goes none both.1 in
    (rest.0, (λ i. sym both.0 i ∷ rest.1 i), rest.2, rest.3)

-- codes that were read as far as there are any are the whole
pub one_way : (A : Type 0) (IsOne : A → Type 0) (GoesOn : List ℕ → Type 0) (code : A → List ℕ) → IsCode A IsOne GoesOn code →
    (done whole : List A) (x y : List ℕ) → AllByRecursion IsOne done → AllByRecursion IsOne whole → GoesOn x → GoesOn y → NoCode A IsOne GoesOn code x →
    NoCode A IsOne GoesOn code y → flat_map code done ++ x ≡ flat_map code whole ++ y → (done ≡ whole) × (x ≡ y)
one_way A IsOne GoesOn code is [] [] x y these those on goes stops none e = (refl, e)
one_way A IsOne GoesOn code is [] (b ∷ whole) x y these those on goes stops none e =
    absurd (stops b (flat_map code whole ++ y) those.0 (goes_on A IsOne GoesOn code is whole y goes) (e ∙ append_assoc (code b) (flat_map code whole) y))
one_way A IsOne GoesOn code is (a ∷ done) [] x y these those on goes stops none e =
    absurd (none a (flat_map code done ++ x) these.0 (goes_on A IsOne GoesOn code is done x on) (sym e ∙ append_assoc (code a) (flat_map code done) x))
one_way A IsOne GoesOn code is (a ∷ done) (b ∷ whole) x y these those on goes stops none e =
    let both = is.cut a b (flat_map code done ++ x) (flat_map code whole ++ y) these.0 those.0 (goes_on A IsOne GoesOn code is done x on) (goes_on A IsOne GoesOn code is whole y goes)
    (sym (append_assoc (code a) (flat_map code done) x) ∙ e ∙ append_assoc (code b) (flat_map code whole) y) in
    let rest = one_way A IsOne GoesOn code is done whole x y these.1 those.1 on goes stops none both.1 in
    ((λ i. both.0 i ∷ rest.0 i), rest.1)
