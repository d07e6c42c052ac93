-- Captured connections that are read in order.
use Rattle.replica.proofs.Names.{◌≡◌, ℕ, Bool, true, List, [], ◌∷◌, ◌++◌, Option, Some, None, Result, Ok, Err, IfOk, IfErr, MatchOption, IsTrue, refl, ap, subst, Consumes-nil, Ghosts, Trees, Schema, HasCleanDisk, Held, Content, Store, HoldsAs, database, Capture, EndOfInput, Memory, Ended, HasReadAll, AreRead}
use Rattle.std.specs.Prelude.{option_to_list}
use Rattle.std.specs.Io.KnownBytes.{IsAtEnd}
use Rattle.sqlite.specs.Held.{state}
use Rattle.replica.specs.declared.source.captures.Halt.{Halt}
use Rattle.replica.specs.declared.source.captures.Halt.TheVariants.{Reader, Observer}
use Rattle.replica.specs.Over.{HasRead, HasReadOf}
use Rattle.replica.specs.Capture.{IsReadAs, AreReadAs, HasReadOne, HasBrokenOff, AreReadUpTo, Reads}
use Rattle.replica.proofs.Runs.{read_none, none_read, more_read}

-- the first byte, as a slice
pub first_of : (first : Option ℕ) (slice : List ℕ) → MatchOption first (slice ≡ []) (λ x. slice ≡ x ∷ []) → slice ≡ option_to_list first
first_of None slice is = is
first_of (Some x) slice is = is

module _ {R : Type 0} (left : R → Option (List ℕ)) where
  one_more : (captures : List (Capture R)) (bs : List (List ℕ)) (ends : List Ended) (capture : Capture R) (b : List ℕ) (end : Ended)
      → AreReadAs left captures bs ends → IsReadAs left capture b end → AreReadAs left (captures ++ capture ∷ []) (bs ++ b ∷ []) (ends ++ end ∷ [])
  one_more [] [] [] capture b end all one = (one, tt)
  one_more [] [] (e ∷ ends) capture b end all one = absurd all
  one_more [] (x ∷ bs) ends capture b end all one = absurd all
  one_more (c ∷ captures) [] ends capture b end all one = absurd all
  one_more (c ∷ captures) (x ∷ bs) [] capture b end all one = absurd all
  one_more (c ∷ captures) (x ∷ bs) (e ∷ ends) capture b end all one = (all.0, one_more captures bs ends capture b end all.1 one)

module _ {S : Type 0} (g : Ghosts S) {R : Type 0} (left : R → Option (List ℕ)) where
  pub read_one : {E : Type 0} (limit other most : ℕ) (before after : Store S g) (capture : Capture R) (first : List ℕ) (rest : Option (List ℕ)) (result : Result Ended E) → other ≡ limit → first ≡ option_to_list capture.first
      → IfOk result (λ end. HasCleanDisk (database g after) → (was : Bool) (old : Content) → HoldsAs g was old before → HasReadOf g other before after was old (record { first = first; most = most; left = left capture.reader; left_after = rest }) end)
      → IfOk result (λ end. HasCleanDisk (database g after) → (was : Bool) (old : Content) → HoldsAs g was old before → end.reason ≡ EndOfInput → IsAtEnd rest)
      → IfOk result (λ end. HasCleanDisk (database g after) → (was : Bool) (old : Content) → HoldsAs g was old before → HasReadOne g left limit before after (record { broken = was; content = old }) capture end)
  read_one limit other most before after capture first rest (Ok end) same is read all = λ clean was old holds.
      let r = read clean was old holds in
      record {
        b = first ++ r.read;
        is_read = record { comes = record { rest = rest; read = r.read; consumes = r.consumes; bytes = ap (λ (l : List ℕ). l ++ r.read) is }; all = all clean was old holds };
        has_read = subst (λ n. HasRead g n before after was old (first ++ r.read) end) same r.has_read;
      }
  read_one limit other most before after capture first rest (Err e) same is read all = tt

  pub broken_off : {E : Type 0} (limit other most : ℕ) (before after : Store S g) (capture : Capture R) (first : List ℕ) (rest : Option (List ℕ)) (result : Result Ended E) → other ≡ limit → first ≡ option_to_list capture.first
      → IfErr result (λ e. HasCleanDisk (database g after) → (was : Bool) (old : Content) → HoldsAs g was old before → (end : Ended) × (end.reason ≡ EndOfInput) × HasReadOf g other before after was old (record { first = first; most = most; left = left capture.reader; left_after = rest }) end)
      → IfErr result (λ e. HasCleanDisk (database g after) → (was : Bool) (old : Content) → HoldsAs g was old before → HasBrokenOff g left limit before after was old capture)
  broken_off limit other most before after capture first rest (Ok end) same is failed = tt
  broken_off limit other most before after capture first rest (Err e) same is failed = λ clean was old holds.
      let (end, unended, r) = failed clean was old holds in
      record {
        b = first ++ r.read;
        end = end;
        comes = record { rest = rest; read = r.read; consumes = r.consumes; bytes = ap (λ (l : List ℕ). l ++ r.read) is };
        unended = unended;
        has_read = subst (λ n. HasRead g n before after was old (first ++ r.read) end) same r.has_read;
      }

  pub unread_one : ((h : Held S) (db : Trees) → IsTrue (state g h).is_open → (state g h).may_leave db → db ≡ (state g h).committed.trees) → (limit : ℕ) (store : Store S g) (was : Bool) (old : Content) (capture : Capture R) → HoldsAs g was old store
      → HasReadOne g left limit store store (record { broken = was; content = old }) capture (record { reason = Memory; at = 0; applied = 0 })
  unread_one settled limit store was old capture holds = record {
    b = option_to_list capture.first ++ [];
    is_read = record { comes = record { rest = left capture.reader; read = []; consumes = Consumes-nil (left capture.reader); bytes = refl }; all = λ bad. cc };
    has_read = read_none g settled limit store was old (option_to_list capture.first ++ []) holds;
  }

  pub no_captures : ((h : Held S) (db : Trees) → IsTrue (state g h).is_open → (state g h).may_leave db → db ≡ (state g h).committed.trees) → (limit : ℕ) (store : Store S g) (was : Bool) (old : Content) → HoldsAs g was old store
      → AreRead left (HasReadAll g limit store (state g store.conn).now.schema was old) [] []
  no_captures settled limit store was old holds = record { bs = []; are_read = tt; holds = none_read g settled limit store was old holds }

  -- one capture more
  pub captures_more : (limit : ℕ) (before after : Store S g) (schema : Schema) (was : Bool) (old : Content) (captures : List (Capture R)) (ends : List Ended) (capture : Capture R) (end : Ended) → (before.broken ≡ true → after ≡ before)
      → (t : AreRead left (HasReadAll g limit before schema was old) captures ends) → HasReadOne g left limit before after (record { broken = t.holds.is; content = t.holds.new }) capture end
      → AreRead left (HasReadAll g limit after schema was old) (captures ++ capture ∷ []) (ends ++ end ∷ [])
  captures_more limit before after schema was old captures ends capture end broken t one = record {
    bs = t.bs ++ one.b ∷ [];
    are_read = one_more left captures t.bs ends capture one.b end t.are_read one.is_read;
    holds = more_read g limit before after schema was old t.bs ends one.b end broken t.holds one.has_read;
  }

  pub breaks_off : (limit : ℕ) (before after : Store S g) (schema : Schema) (was : Bool) (old : Content) (captures : List (Capture R)) (ends : List Ended) (next : Option (Capture R)) (capture : Capture R) → (before.broken ≡ true → after ≡ before) → next ≡ Some capture
      → (t : AreRead left (HasReadAll g limit before schema was old) captures ends) → HasBrokenOff g left limit before after t.holds.is t.holds.new capture
      → AreReadUpTo left (HasReadAll g limit after schema was old) captures next ends
  breaks_off limit before after schema was old captures ends next capture broken is t one = record {
    bs = t.bs;
    are_read = t.are_read;
    capture = capture;
    is_next = is;
    b = one.b;
    end = one.end;
    comes = one.comes;
    unended = one.unended;
    holds = more_read g limit before after schema was old t.bs ends one.b one.end broken t.holds one.has_read;
  }

-- what follows from what holds of the bytes and ends that were read
pub reads_weaker : {R : Type 0} (left : R → Option (List ℕ)) (P Q : List (List ℕ) → List Ended → Type 0) → ((bs : List (List ℕ)) (ends : List Ended) → P bs ends → Q bs ends)
    → (captures : List (Capture R)) (ends : List Ended) (result : Result (Unit {0}) Halt) → Reads left P captures ends result → Reads left Q captures ends result
reads_weaker left P Q so captures ends (Ok x) r = record { bs = r.bs; are_read = r.are_read; holds = so r.bs ends r.holds }
reads_weaker left P Q so captures ends (Err (Reader e)) r = record {
  bs = r.bs;
  are_read = r.are_read;
  capture = r.capture;
  is_next = r.is_next;
  b = r.b;
  end = r.end;
  comes = r.comes;
  unended = r.unended;
  holds = so (r.bs ++ r.b ∷ []) (ends ++ r.end ∷ []) r.holds;
}
reads_weaker left P Q so captures ends (Err Observer) r = record { bs = r.bs; are_read = r.are_read; holds = so r.bs ends r.holds }
