-- Rows events after a BEGIN.
use Rattle.gather.proofs.Names.{◌≡◌, ◌⊎◌, ℕ, true, not, List, [], ◌∷◌, None, Result, Ok, Err, refl, ap, sym, ◌∙◌, subst, ⊎_elim, inl, inr, RowsValue, TableValue, EventValue, gtid, table_map, other_map, ChangeValue, map_of, AreChanges, is_open, IsRowsFault, GatherFault}
use Rattle.std.proofs.Common.{IfErr}
use Rattle.binlog.specs.Event.{begin, rows}
use Rattle.gather.specs.Fault.{HasChange}
use Rattle.gather.specs.OpenTransaction.{HasTaken}
use Rattle.gather.specs.State.{IsAt, BreaksOff, FaultsAt, AddsInside}
use Rattle.gather.specs.declared.open_transaction.OpenTransaction.{OpenTransaction}
use Rattle.gather.specs.declared.fault.GatherFault.TheVariants.{Memory}
use Rattle.gather.specs.declared.state.State.{State}
use Rattle.gather.specs.declared.state.State.TheVariants.{Inside}
use Rattle.gather.proofs.Maps.{or_none, no_end}

-- a block that has begun is open
pub open_block : (source : List ℕ) (number : ℕ) (body : List EventValue) (changes : List ChangeValue) → AreChanges [] body changes → is_open (gtid source number ∷ begin ∷ body) ≡ true
open_block source number body changes are = ap not (no_end [] body changes are)

-- the GTID and BEGIN say nothing of tables
pub map_of_body : (source : List ℕ) (number : ℕ) (body : List EventValue) (id : ℕ) → map_of (gtid source number ∷ begin ∷ body) id ≡ map_of body id
map_of_body source number body id = or_none _ ∙ or_none (map_of body id)

pub breaks_off : (current : OpenTransaction) (r : RowsValue) (fault : GatherFault) → ((body : List EventValue) → HasTaken body current → (fault ≡ Memory) ⊎ IsRowsFault (map_of body r.id) r fault) →
    (block : List EventValue) → IsAt block (Inside current) → (fault ≡ Memory) ⊎ BreaksOff block (rows r) fault
breaks_off current r fault faults block (body, is, keeps) =
    let source = current.gtid.source in
    let number = current.gtid.number in
    let whole = gtid source number ∷ begin ∷ body in
    let at : (fault ≡ Memory) ⊎ BreaksOff whole (rows r) fault =
    ⊎_elim inl
    (λ f. inr (inr (r, refl, open_block source number body current.changes keeps.changes, subst (λ m. IsRowsFault m r fault) (sym (map_of_body source number body r.id)) f)))
    (faults body keeps) in
    subst (λ b. (fault ≡ Memory) ⊎ BreaksOff b (rows r) fault) (sym is) at

pub rows_break_off : {T : Type 0} (current : OpenTransaction) (r : RowsValue) (state : State) (result : Result T GatherFault) → state ≡ Inside current →
    ((body : List EventValue) → HasTaken body current → IfErr result (λ fault. (fault ≡ Memory) ⊎ IsRowsFault (map_of body r.id) r fault)) → IfErr result (FaultsAt (rows r) state)
rows_break_off current r state (Ok x) is faults = tt
rows_break_off current r state (Err fault) is faults = subst (λ p. FaultsAt (rows r) p fault) (sym is) (breaks_off current r fault faults)

-- ---- What is added.

pub map_adds : (current : OpenTransaction) (t : TableValue) (state : State) → state ≡ Inside current → AddsInside (table_map t) state
map_adds current t state is = ((current, is), λ block at. tt)

pub other_adds : (current : OpenTransaction) (id : ℕ) (state : State) → state ≡ Inside current → ((body : List EventValue) → HasTaken body current → map_of body id ≡ None) → AddsInside (other_map id) state
other_adds current id state is new = ((current, is), λ block at. added block (subst (IsAt block) is at))
  where
    added : (block : List EventValue) → IsAt block (Inside current) → map_of block id ≡ None
    added block (body, block_is, keeps) = ap (λ b. map_of b id) block_is ∙ map_of_body current.gtid.source current.gtid.number body id ∙ new body keeps

pub rows_add : (current : OpenTransaction) (r : RowsValue) (state : State) → state ≡ Inside current → ((body : List EventValue) → HasTaken body current → HasChange (map_of body r.id) r) → AddsInside (rows r) state
rows_add current r state is change = ((current, is), λ block at. added block (subst (IsAt block) is at))
  where
    added : (block : List EventValue) → IsAt block (Inside current) → HasChange (map_of block r.id) r
    added block (body, block_is, keeps) =
        subst (λ m. HasChange m r) (sym (ap (λ b. map_of b r.id) block_is ∙ map_of_body current.gtid.source current.gtid.number body r.id)) (change body keeps)
