-- A replica that is stopped anywhere, and started again any number of times.
use Rattle.replica.proofs.Names.{◌≡◌, ℕ, ◌+◌, List, [], ◌∷◌, inl, inr, sym, subst, DumpValue, IsDump, Names, Content, ScriptValue}
use Rattle.replica.specs.Resume.{Reaches, Restarts, AreRestarts, NeverFalls}
use Rattle.replica.proofs.CrashPrefixes.{left_transactions}
use Rattle.replica.proofs.Resumption.{cut}

module _ (one_dump : (a b : DumpValue) (payload : List ℕ) → IsDump a payload → IsDump b payload → a ≡ b) (limit : ℕ) (names : Names) (history : List ScriptValue) where
  pub restarted : (j : ℕ) (held left : Content) → Reaches names history j held → Restarts limit names history held left → (i : ℕ) × Reaches names history (j + i) left
  restarted j held left reached s =
      let r = s.asked j reached in
      let l = left_transactions limit names held s.part s.new s.end left s.was s.conn s.leaves in
      elim l.left_is [
        | inl same ↦ (l.count, subst (λ c. Reaches names history (j + l.count) c) (sym same) (cut one_dump limit names history j held s.last s.dialogue r s.fewer s.are_bytes s.part s.more l.count s.end.applied s.new s.cut l.begun))
        | inr one ↦ (l.count + 1, cut one_dump limit names history j held s.last s.dialogue r s.fewer s.are_bytes s.part s.more (l.count + 1) (s.end.applied + 1) left s.cut one.2)
      ]

  pub never_falls : (j : ℕ) (held : Content) (lefts : List Content) → Reaches names history j held → AreRestarts limit names history held lefts → NeverFalls names history j lefts
  never_falls j held [] reached steps = tt
  never_falls j held (left ∷ lefts) reached steps =
      let one = restarted j held left reached steps.0 in
      (one.0, one.1, never_falls (j + one.0) left lefts one.1 steps.1)
