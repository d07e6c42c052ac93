-- A session with its store, and a list of connections with a store.
use Rattle.std.specs.Prelude.{◌≡◌, ℕ, ◌⊎◌, Bool, false, IsTrue, List, [], ◌++◌, Option}
use Rattle.std.specs.Io.KnownBytes.{Consumes}
use Rattle.sqlite_trees.specs.declared.store.Store.{Ghosts}
use Rattle.sqlite_trees.specs.Tree.{Trees}
use Rattle.sqlite_schema.specs.declared.schema.Schema.{Schema}
use Rattle.wire.specs.Payload.{Payload}
use Rattle.store.specs.State.{Content}
use Rattle.store.specs.Apply.{IsAtRest}
use Rattle.store.specs.declared.store.Store.{Store}
use Rattle.store.specs.Store.{HoldsAs, AreOf, database, names_of}
use Rattle.replica.specs.declared.session.end.Ended.{Ended}
use Rattle.replica.specs.declared.session.Session.{Session}
use Rattle.replica.specs.Conn.{Conn, EndsInLast, BreaksStore, History}
use Rattle.replica.specs.Standing.{Position, Stands, Meets, end_of}
use Rattle.replica.specs.Crash.{IsLeftOfOne, IsLeftOfAll}

-- First bytes, and a reader of more, from which pieces of at most so many bytes are taken: what it has left before and after.
pub record Taking : Type 0 where
  pub first : List ℕ
  pub most : ℕ
  pub left : Option (List ℕ)
  pub left_after : Option (List ℕ)

-- of a reader, by what it says that it has left
abbrev pub taken_from : {R : Type 0} → (R → Option (List ℕ)) → List ℕ → ℕ → R → R → Taking
taken_from left first most before after = record { first = first; most = most; left = left before; left_after = left after }

module _ {S : Type 0} (g : Ghosts S) where
  -- Whatever a crash may leave of the store's database stands, under the schema, for one of these contents.
  pub record LeavesOnly (schema : Schema) (store : Store S g) (left : Content → Type 0) : Type 0 where
    pub each : (trees : Trees) → (database g store).may_leave trees → (content : Content) × AreOf schema (names_of g store) content trees × left content

  -- The store's set stands for this content, and so do its tables if the connection is still open; and whatever a crash may leave
  -- is one of these contents.
  pub record HasStayed (store : Store S g) (content : Content) (left : Content → Type 0) : Type 0 where
    pub executed : store.executed ≡ content.executed
    pub rest : IsTrue (database g store).is_open → IsAtRest (database g store) (names_of g store) content
    pub schema : Schema
    pub leaves : LeavesOnly schema store left

  -- The session is at this position over the store, whose tables had this schema when the session was begun.
  pub record StandsOver (session : Session) (store : Store S g) (schema : Schema) (pos : Position) : Type 0 where
    pub is : Bool
    pub now : Content
    pub holds : HoldsAs g is now store
    pub stands : Stands session (names_of g store) pos is now
    pub schema_is : is ≡ false → (database g store).now.schema ≡ schema
    pub leaves : pos.was ≡ false → LeavesOnly schema store (IsLeftOfOne session.config.limit (names_of g store) pos.old pos.read now (end_of session))

  -- As StandsOver, with a payload that has come and is still to be taken.
  pub record MeetsOver (session : Session) (store : Store S g) (schema : Schema) (pos : Position) (p : Payload) : Type 0 where
    pub is : Bool
    pub now : Content
    pub holds : HoldsAs g is now store
    pub meets : Meets session (names_of g store) pos is now p
    pub schema_is : is ≡ false → (database g store).now.schema ≡ schema
    pub leaves : pos.was ≡ false → LeavesOnly schema store (λ left. left ≡ now)

  -- A store that held this content, and had failed or not, has read one connection with this end.
  pub record HasRead (limit : ℕ) (before after : Store S g) (was : Bool) (old : Content) (b : List ℕ) (end : Ended) : Type 0 where
    pub is : Bool
    pub new : Content
    pub holds : HoldsAs g is new after
    pub following : names_of g after ≡ names_of g before
    pub conn : Conn limit (names_of g before) was old b new end
    pub breaks : BreaksStore end.reason was is
    pub schema_is : is ≡ false → (database g after).now.schema ≡ (database g before).now.schema
    pub leaves : was ≡ false → LeavesOnly (database g before).now.schema after (IsLeftOfOne limit (names_of g before) old b new end)

  -- A store that held this content, and had failed or not, has read a connection with this end: the first bytes, and those that were
  -- taken from the reader.
  pub record HasReadOf (limit : ℕ) (before after : Store S g) (was : Bool) (old : Content) (taking : Taking) (end : Ended) : Type 0 where
    pub read : List ℕ
    pub consumes : Consumes taking.left taking.left_after read
    pub has_read : HasRead limit before after was old (taking.first ++ read) end
    -- none were taken after the piece in which the connection ended
    pub last : (read ≡ []) ⊎ EndsInLast limit taking.most (names_of g before) was old taking.first read

  -- A store that held this content under this schema, and had failed or not, has read these connections with these
  -- ends.
  pub record HasReadAll (limit : ℕ) (store : Store S g) (schema : Schema) (was : Bool) (old : Content) (bs : List (List ℕ)) (ends : List Ended) : Type 0 where
    pub is : Bool
    pub new : Content
    pub holds : HoldsAs g is new store
    pub history : History limit (names_of g store) (record { broken = was; content = old }) bs (record { broken = is; content = new }) ends
    pub schema_is : is ≡ false → (database g store).now.schema ≡ schema
    pub leaves : was ≡ false → LeavesOnly schema store (IsLeftOfAll limit (names_of g store) (record { broken = was; content = old }) bs new ends)
