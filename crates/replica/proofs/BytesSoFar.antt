-- Bytes that were fed to a session, and more of them.
use Rattle.replica.proofs.Names.{◌≡◌, ℕ, ◌+◌, ◌≤◌, List, [], ◌++◌, length, take, refl, sym, ap, ◌∙◌, subst, append_assoc, append-nil, None, arith, ◌-◌, take-append-drop, Ghosts, Schema, HasCleanDisk, Store, Session, room_of, StandsOver}
use Rattle.std.proofs.Common.{drop}
use Rattle.std.proofs.lemmas.List.{length-take-le, length-drop}
use Rattle.sqlite.specs.Held.{state}
use Rattle.replica.specs.Standing.{Position, reads_on}

module _ {S : Type 0} (g : Ghosts S) where
  -- over a clean disk, bytes lead from one session and store to another
  abbrev pub Leads : Session → Store S g → Session → Store S g → List ℕ → Type 0
  Leads before old after new bytes = HasCleanDisk (state g new.conn) → (schema : Schema) (pos : Position) → StandsOver g before old schema pos → StandsOver g after new schema (reads_on pos bytes)

  -- bytes were fed up to the rest
  pub record Fed (entry : Session) (entry_store : Store S g) (session : Session) (store : Store S g) (bytes rest : List ℕ) : Type 0 where
    pub front : List ℕ
    pub bytes_are : bytes ≡ front ++ rest
    pub leads : Leads entry entry_store session store front

  pub fed_none : (session : Session) (store : Store S g) (bytes : List ℕ) → Fed session store session store bytes bytes
  fed_none session store bytes = record {
    front = [];
    bytes_are = refl;
    leads = λ clean schema pos s. subst (λ (l : List ℕ). StandsOver g session store schema (record pos { read = l })) (sym (append-nil pos.read)) s;
  }

  then : (entry : Session) (entry_store : Store S g) (session : Session) (store : Store S g) (after : Session) (new : Store S g) (x y : List ℕ)
      → Leads entry entry_store session store x → (HasCleanDisk (state g new.conn) → HasCleanDisk (state g store.conn)) → Leads session store after new y → Leads entry entry_store after new (x ++ y)
  then entry entry_store session store after new x y h clean k is_clean schema pos s =
      subst (λ (l : List ℕ). StandsOver g after new schema (record pos { read = l })) (append_assoc pos.read x y) (k is_clean schema (reads_on pos x) (h (clean is_clean) schema pos s))

  pub fed_more : (entry : Session) (entry_store : Store S g) (session : Session) (store : Store S g) (after : Session) (new : Store S g) (bytes rest : List ℕ) (used : ℕ)
      → Fed entry entry_store session store bytes rest → (HasCleanDisk (state g new.conn) → HasCleanDisk (state g store.conn)) → Leads session store after new (take used rest) → Fed entry entry_store after new bytes (drop used rest)
  fed_more entry entry_store session store after new bytes rest used f clean k = record {
    front = f.front ++ take used rest;
    bytes_are = f.bytes_are ∙ ap (λ (l : List ℕ). f.front ++ l) (sym (take-append-drop used rest)) ∙ sym (append_assoc f.front (take used rest) (drop used rest));
    leads = then entry entry_store session store after new f.front (take used rest) f.leads clean k;
  }

  pub fed_all : (entry : Session) (entry_store : Store S g) (session : Session) (store : Store S g) (after : Session) (new : Store S g) (bytes rest : List ℕ)
      → Fed entry entry_store session store bytes rest → (HasCleanDisk (state g new.conn) → HasCleanDisk (state g store.conn)) → Leads session store after new rest → Leads entry entry_store after new bytes
  fed_all entry entry_store session store after new bytes rest f clean k =
      subst (λ (l : List ℕ). Leads entry entry_store after new l) (sym f.bytes_are) (then entry entry_store session store after new f.front rest f.leads clean k)

-- what room there is for
less_room : (a b n r l u : ℕ) → u ≤ l → a + u ≤ b → b + n ≤ r + l → a + n ≤ r + (l - u)
less_room a b n r l u within step before = omega arith

pub room_more : (before after : Session) (rest : List ℕ) (used r n : ℕ) → used ≤ length rest → (after.ended ≡ None → (before.ended ≡ None) × (room_of after + length (take used rest) ≤ room_of before))
    → (before.ended ≡ None → room_of before + n ≤ r + length rest) → after.ended ≡ None → room_of after + n ≤ r + length (drop used rest)
room_more before after rest used r n within step inv still =
    let s = step still in
    subst (λ (k : ℕ). room_of after + n ≤ r + k) (sym (length-drop used rest))
    (less_room (room_of after) (room_of before) n r (length rest) used within (subst (λ (k : ℕ). room_of after + k ≤ room_of before) (length-take-le used rest within) s.1) (inv s.0))
