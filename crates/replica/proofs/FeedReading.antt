-- A reader of all lines of a change feed uses what was applied.
use Rattle.replica.proofs.Names.{◌≡◌, ◌⊎◌, inl, inr, Bool, true, false, List, [], ◌∷◌, ◌++◌, map, length, Option, Some, None, Result, Ok, Err, refl, sym, ap, ap₂, subst, ◌∙◌, append_assoc, append-nil, arith, if◌then◌else◌, eq_by_cmp, false≢true, false_from_ne_true, or_cases, or_left, or_right, Id, Ids, id_cmp, id_cmp_total, Names, ChangeValue, DeliveryValue, Content, HasOutcome, done, StoreFault, Reason, Database, Memory, AppliesAll, Notice, stopped, ended, applied_in, IsMadeBy, LeadsBy, fails_by, EndsAtFailure, IsOneMoreNoted, IsLeftOfNoted}
use Rattle.std.specs.FinSet as set
use Rattle.replica.specs.Noted.{opened, connected, before, after, IsDatabaseFailure}
use Rattle.replica.specs.Feed.{Line, open_line, change_line, commit_line, rollback_line, gtid_of, lines_after, lines_of, Reader, kept_changes, with_used, after_open, read_line, read_lines, has_change, with_changes}
use Rattle.replica.proofs.Notices.{unchanged, unapplied, lets_none_applied, none_left_more}
use Rattle.replica.proofs.Transactions.{itself, still}

-- ---- What a reader keeps.

-- a reader that keeps nothing
abbrev pub begun : Ids → List DeliveryValue → Reader
begun used taken = record { used = used; taken = taken; kept = None }

-- what is used is executed
abbrev pub Within : Ids → Content → Type 0
Within used now = (q : Id) → set.contains used q ≡ true → set.contains now.executed q ≡ true

pub with_changes-append : (xs ys : List DeliveryValue) → with_changes (xs ++ ys) ≡ with_changes xs ++ with_changes ys
with_changes-append [] ys = refl
with_changes-append (d ∷ xs) ys =
    ap (λ (l : List DeliveryValue). (if has_change d.changes then d ∷ [] else []) ++ l) (with_changes-append xs ys)
    ∙ sym (append_assoc (if has_change d.changes then d ∷ [] else []) (with_changes xs) (with_changes ys))

-- what is kept after the lines of these changes
abbrev keep_all : Id → List ChangeValue → Option (Id × List ChangeValue) → Option (Id × List ChangeValue)
keep_all id [] kept = kept
keep_all id (c ∷ cs) kept = keep_all id cs (Some (id, kept_changes kept ++ c ∷ []))

read_changes : (id : Id) (cs : List ChangeValue) (rest : List Line) (r : Reader) → read_lines r (map (λ c. change_line id c) cs ++ rest) ≡ read_lines (record r { kept = keep_all id cs r.kept }) rest
read_changes id [] rest r = refl
read_changes id (c ∷ cs) rest r = read_changes id cs rest (record r { kept = Some (id, kept_changes r.kept ++ c ∷ []) })

kept_all : (id : Id) (cs xs : List ChangeValue) → keep_all id cs (Some (id, xs)) ≡ Some (id, xs ++ cs)
kept_all id [] xs = ap (λ (l : List ChangeValue). Some (id, l)) (sym (append-nil xs))
kept_all id (c ∷ cs) xs = kept_all id cs (xs ++ c ∷ []) ∙ ap (λ (l : List ChangeValue). Some (id, l)) (append_assoc xs (c ∷ []) cs)

kept_from : (id : Id) (cs : List ChangeValue) → kept_changes (keep_all id cs None) ≡ cs
kept_from id [] = refl
kept_from id (c ∷ cs) = ap kept_changes (kept_all id cs (c ∷ []))

-- nothing, where there is no change, or all
kept_two : (id : Id) (cs : List ChangeValue) → ((cs ≡ []) × (keep_all id cs None ≡ None)) ⊎ (keep_all id cs None ≡ Some (id, cs))
kept_two id [] = inl (refl, refl)
kept_two id (c ∷ cs) = inr (kept_all id cs (c ∷ []))

-- ---- What a line does.

-- a commit of a transaction that was not used
committed : (id : Id) (cs : List ChangeValue) (used : Ids) (taken : List DeliveryValue) (kept : Option (Id × List ChangeValue)) → kept_changes kept ≡ cs → set.contains used id ≡ false
    → read_line (record { used = used; taken = taken; kept = kept }) (commit_line id) ≡ begun (set.insert used id) (taken ++ record { source = id.0; number = id.1; changes = cs } ∷ [])
committed id cs used taken kept same fresh =
    ap (λ (b : Bool). if b then begun used taken else begun (set.insert used id) (taken ++ record { source = id.0; number = id.1; changes = kept_changes kept } ∷ [])) fresh
    ∙ ap (λ (l : List ChangeValue). begun (set.insert used id) (taken ++ record { source = id.0; number = id.1; changes = l } ∷ [])) same

-- an open drops what is kept of a transaction that is not executed
pub taken_dropped : (ids : Ids) (used : Ids) (taken : List DeliveryValue) (kept : Option (Id × List ChangeValue)) (id : Id) (cs : List ChangeValue) → kept ≡ Some (id, cs) → set.contains ids id ≡ false
    → (read_line (record { used = used; taken = taken; kept = kept }) (open_line ids)).taken ≡ taken
taken_dropped ids used taken kept id cs is fresh =
    ap (λ (k : Option (Id × List ChangeValue)). (after_open ids k (record { used = used; taken = taken; kept = k })).taken) is
    ∙ ap (λ (b : Bool). (if b then with_used id cs (record { used = used; taken = taken; kept = Some (id, cs) }) else begun used taken).taken) fresh

-- and uses it of one that is
pub taken_used : (ids : Ids) (used : Ids) (taken : List DeliveryValue) (kept : Option (Id × List ChangeValue)) (id : Id) (cs : List ChangeValue) → kept ≡ Some (id, cs) → set.contains ids id ≡ true
    → (read_line (record { used = used; taken = taken; kept = kept }) (open_line ids)).taken ≡ (with_used id cs (begun used taken)).taken
taken_used ids used taken kept id cs is known =
    ap (λ (k : Option (Id × List ChangeValue)). (after_open ids k (record { used = used; taken = taken; kept = k })).taken) is
    ∙ ap (λ (b : Bool). (if b then with_used id cs (record { used = used; taken = taken; kept = Some (id, cs) }) else begun used taken).taken) known

pub taken_new : (used : Ids) (taken : List DeliveryValue) (id : Id) (cs : List ChangeValue) → set.contains used id ≡ false → (with_used id cs (begun used taken)).taken ≡ taken ++ record { source = id.0; number = id.1; changes = cs } ∷ []
taken_new used taken id cs fresh = ap (λ (b : Bool). (if b then begun used taken else begun (set.insert used id) (taken ++ record { source = id.0; number = id.1; changes = cs } ∷ [])).taken) fresh

-- ---- What is read of what was reported.

-- A reader that had used the transactions from before has used those that were applied, but for what an open says of the last one.
pub record Reads (names : Names) (old left : Content) (r : Reader) (taken : List DeliveryValue) : Type 0 where
  pub more : List DeliveryValue
  pub applies : AppliesAll names old more (length more) left
  pub up_to : with_changes (read_line r (open_line left.executed)).taken ≡ with_changes (taken ++ more)
  pub within : Within r.used left

within_on : (used : Ids) (old left : Content) → left ≡ old → Within used old → Within used left
within_on used old left same within q has = ap (λ (c : Content). set.contains c.executed q) same ∙ within q has

nothing : (names : Names) (old left : Content) (used : Ids) (taken : List DeliveryValue) → left ≡ old → Within used old → Reads names old left (begun used taken) taken
nothing names old left used taken same within = record {
  more = [];
  applies = (refl, same);
  up_to = ap with_changes (sym (append-nil taken));
  within = within_on used old left same within;
}

pub within_open : (used ids : Ids) (old : Content) → ids ≡ old.executed → Within used old → Within (set.union used ids) old
within_open used ids old same within q has = elim (or_cases (set.contains used q) (set.contains ids q) (sym (set.contains-union id_cmp_total used ids q) ∙ has)) [
  | inl before_it ↦ within q before_it
  | inr now ↦ ap (λ (x : Ids). set.contains x q) (sym same) ∙ now
]

within_one : (used : Ids) (old new : Content) (id : Id) → new.executed ≡ set.insert old.executed id → Within used old → Within used new
within_one used old new id is within q has = ap (λ (x : Ids). set.contains x q) is ∙ still old.executed id q (within q has)

is_new : (used : Ids) (old : Content) (id : Id) → set.contains old.executed id ≡ false → Within used old → set.contains used id ≡ false
is_new used old id fresh within = false_from_ne_true (set.contains used id) (λ has. false≢true (sym fresh ∙ within id has))

within_used : (used : Ids) (old new : Content) (id : Id) → new.executed ≡ set.insert old.executed id → Within used old → Within (set.insert used id) new
within_used used old new id is within q has =
    ap (λ (x : Ids). set.contains x q) is ∙ set.contains-insert id_cmp_total old.executed id q
    ∙ elim (or_cases (eq_by_cmp id_cmp q id) (set.contains used q) (sym (set.contains-insert id_cmp_total used id q) ∙ has)) [
      | inl same ↦ or_left (eq_by_cmp id_cmp q id) (set.contains old.executed q) same
      | inr has_it ↦ or_right (eq_by_cmp id_cmp q id) (set.contains old.executed q) (within q has_it)
    ]

-- which of the three ways there are for a transaction that was not applied
pub kind_of : (id : Id) (reason : Reason) → ((cause : StoreFault) × (reason ≡ Database cause)) ⊎ ((reason ≡ Memory) ⊎ ((lines_after id (Err reason) ≡ rollback_line id ∷ []) × (fails_by (Err reason) ≡ false) × (IsDatabaseFailure (Err reason) → ⊥)))
kind_of id (Database cause) = inl (cause, refl)
kind_of id Memory = inr (inl refl)
kind_of id _ = inr (inr (refl, refl, λ bad. bad))

-- a transaction with changes, or none
pub up_to_one : (t : List DeliveryValue) (d : DeliveryValue) → d.changes ≡ [] → with_changes t ≡ with_changes (t ++ d ∷ [])
up_to_one t d none =
    sym (append-nil (with_changes t))
    ∙ ap (λ (cs : List ChangeValue). with_changes t ++ ((if has_change cs then d ∷ [] else []) ++ [])) (sym none)
    ∙ sym (with_changes-append t (d ∷ []))

module _ (names : Names) (ns : List Notice) (old new left : Content) (used : Ids) (taken : List DeliveryValue) (within : Within used old)
    (next : (mid : Content) (u : Ids) (t : List DeliveryValue) → LeadsBy names mid ns new → IsLeftOfNoted names ns new left → Within u mid → Reads names mid left (read_lines (begun u t) (lines_of ns)) t) where
  -- the lines of a new transaction with this answer, and what comes after it
  abbrev lines_with : DeliveryValue → Result Bool Reason → List Line
  lines_with d answer = lines_after (gtid_of d) answer ++ (if fails_by answer then [] else lines_of ns)

  -- what is known of it
  abbrev Answered : DeliveryValue → Result Bool Reason → Type 0
  Answered d answer = (mid : Content) → IsMadeBy names old d answer mid → LeadsBy names mid ns new → (fails_by answer ≡ true → applied_in ns ≡ []) → IsLeftOfNoted names (before d ∷ after d answer ∷ ns) new left
      → Reads names old left (read_lines (begun used taken) (map (λ c. change_line (gtid_of d) c) d.changes ++ lines_with d answer)) taken

  -- it is applied
  applied_one : (d : DeliveryValue) → Answered d (Ok true)
  applied_one d mid made leads last is =
      let id = gtid_of d in
      let kept = keep_all id d.changes None in
      let fresh = is_new used old id made.0 within in
      let rest = next mid (set.insert used id) (taken ++ d ∷ []) leads (elim is [ inl same ↦ inl same | inr more ↦ elim more [ inl bad ↦ absurd bad.0 | inr later ↦ inr later.1 ] ]) (within_used used old mid id made.2 within) in
      let reads : read_lines (begun used taken) (map (λ c. change_line id c) d.changes ++ lines_with d (Ok true)) ≡ read_lines (begun (set.insert used id) (taken ++ d ∷ [])) (lines_of ns) =
      read_changes id d.changes (lines_with d (Ok true)) (begun used taken)
      ∙ ap (λ (r : Reader). read_lines r (lines_of ns)) (committed id d.changes used taken kept (kept_from id d.changes) fresh) in
      subst (λ (r : Reader). Reads names old left r taken) (sym reads) (record {
        more = d ∷ rest.more;
        applies = inl (mid, length rest.more, made, omega arith, rest.applies);
        up_to = rest.up_to ∙ ap with_changes (append_assoc taken (d ∷ []) rest.more);
        within = rest.within;
      })

  -- the database fails in it: what is kept of it is used if it is executed afterwards
  fails_in : (d : DeliveryValue) (cause : StoreFault) → Answered d (Err (Database cause))
  fails_in d cause mid made leads last is =
      let id = gtid_of d in
      let kept = keep_all id d.changes None in
      let r : Reader = record { used = used; taken = taken; kept = kept } in
      let reads = read_changes id d.changes [] (begun used taken) in
      let stays : new ≡ old = unapplied names mid ns new leads (last refl) ∙ made.1 in
      let dropped : left ≡ old → (read_line r (open_line left.executed)).taken ≡ taken = λ same. elim (kept_two id d.changes) [
        | inl none ↦ ap (λ (k : Option (Id × List ChangeValue)). (read_line (record { used = used; taken = taken; kept = k }) (open_line left.executed)).taken) none.1
        | inr all ↦ taken_dropped left.executed used taken kept id d.changes all (ap (λ (c : Content). set.contains c.executed id) same ∙ made.0)
      ] in
      let there : left ≡ old → Reads names old left r taken = λ same. record {
        more = [];
        applies = (refl, same);
        up_to = ap with_changes (dropped same ∙ sym (append-nil taken));
        within = within_on used old left same within;
      } in
      let one : HasOutcome names old d (done left) → Reads names old left r taken = λ outcome. record {
        more = d ∷ [];
        applies = inl (left, 0, outcome, refl, (refl, refl));
        up_to = elim (kept_two id d.changes) [
          | inl none ↦
              ap with_changes (ap (λ (k : Option (Id × List ChangeValue)). (read_line (record { used = used; taken = taken; kept = k }) (open_line left.executed)).taken) none.1)
              ∙ up_to_one taken d none.0
          | inr all ↦ ap with_changes (taken_used left.executed used taken kept id d.changes all (ap (λ (x : Ids). set.contains x id) outcome.2 ∙ itself old.executed id) ∙ taken_new used taken id d.changes (is_new used old id made.0 within))
        ];
        within = within_one used old left id outcome.2 within;
      } in
      subst (λ (x : Reader). Reads names old left x taken) (sym reads) (elim is [
        | inl same ↦ there (same ∙ stays)
        | inr more ↦ elim more [ inl it ↦ one (subst (λ c. HasOutcome names c d (done left)) stays it.1) | inr later ↦ absurd (false≢true (sym later.0)) ]
      ])

  -- memory runs out in it
  without_memory : (d : DeliveryValue) → Answered d (Err Memory)
  without_memory d mid made leads last is =
      let stays : new ≡ old = unapplied names mid ns new leads (last refl) ∙ made.1 in
      subst (λ (x : Reader). Reads names old left x taken) (sym (read_changes (gtid_of d) d.changes (lines_with d (Err Memory)) (begun used taken)))
      (nothing names old left used taken (elim is [ inl same ↦ same ∙ stays | inr more ↦ elim more [ inl bad ↦ absurd bad.0 | inr later ↦ absurd (false≢true (sym later.0)) ] ]) within)

  -- it is refused
  refused_one : (d : DeliveryValue) (reason : Reason) → lines_after (gtid_of d) (Err reason) ≡ rollback_line (gtid_of d) ∷ [] → fails_by (Err reason) ≡ false → (IsDatabaseFailure (Err reason) → ⊥) → Answered d (Err reason)
  refused_one d reason line goes_on other mid made leads last is =
      let id = gtid_of d in
      let stays : mid ≡ old = unchanged names old d reason mid made in
      let reads : read_lines (begun used taken) (map (λ c. change_line id c) d.changes ++ lines_with d (Err reason)) ≡ read_lines (begun used taken) (lines_of ns) =
      ap₂ (λ (l : List Line) (b : Bool). read_lines (begun used taken) (map (λ c. change_line id c) d.changes ++ (l ++ (if b then [] else lines_of ns)))) line goes_on
      ∙ read_changes id d.changes (rollback_line id ∷ lines_of ns) (begun used taken) in
      subst (λ (x : Reader). Reads names old left x taken) (sym reads) (next old used taken (subst (λ c. LeadsBy names c ns new) stays leads)
      (elim is [ inl same ↦ inl same | inr more ↦ elim more [ inl bad ↦ absurd (other bad.0) | inr later ↦ inr later.1 ] ]) within)

  answered_one : (d : DeliveryValue) (answer : Result Bool Reason) → Answered d answer
  answered_one d (Ok true) = applied_one d
  answered_one d (Ok false) = λ mid made leads last is. absurd made
  answered_one d (Err reason) = elim (kind_of (gtid_of d) reason) [
    | inl database ↦ subst (λ (x : Reason). Answered d (Err x)) (sym database.1) (fails_in d database.0)
    | inr rest ↦ elim rest [
      | inl memory ↦ subst (λ (x : Reason). Answered d (Err x)) (sym memory) (without_memory d)
      | inr other ↦ refused_one d reason other.0 other.1 other.2
    ]
  ]

  -- what is known of one that was executed
  abbrev Known : DeliveryValue → Result Bool Reason → Type 0
  Known d answer = LeadsBy names old ns new → (fails_by answer ≡ true → applied_in ns ≡ []) → IsLeftOfNoted names (after d answer ∷ ns) new left → Reads names old left (read_lines (begun used taken) (lines_with d answer)) taken

  known_failed : (d : DeliveryValue) (cause : StoreFault) → Known d (Err (Database cause))
  known_failed d cause leads last is = nothing names old left used taken (elim is [ inl same ↦ same ∙ unapplied names old ns new leads (last refl) | inr more ↦ absurd (false≢true (sym more.0)) ]) within

  known_without_memory : (d : DeliveryValue) → Known d (Err Memory)
  known_without_memory d leads last is = nothing names old left used taken (elim is [ inl same ↦ same ∙ unapplied names old ns new leads (last refl) | inr more ↦ absurd (false≢true (sym more.0)) ]) within

  known_one : (d : DeliveryValue) (reason : Reason) → Known d (Err reason)
  known_one d reason = elim (kind_of (gtid_of d) reason) [
    | inl database ↦ subst (λ (x : Reason). Known d (Err x)) (sym database.1) (known_failed d database.0)
    | inr rest ↦ elim rest [
      | inl memory ↦ subst (λ (x : Reason). Known d (Err x)) (sym memory) (known_without_memory d)
      | inr other ↦ λ leads last is.
          subst (λ (x : Reader). Reads names old left x taken)
          (sym (ap₂ (λ (l : List Line) (b : Bool). read_lines (begun used taken) (l ++ (if b then [] else lines_of ns))) other.0 other.1))
          (next old used taken leads (elim is [ inl same ↦ inl same | inr more ↦ inr more.1 ]) within)
    ]
  ]

-- all lines of what was reported
pub reads_all : (names : Names) (ns : List Notice) (old new left : Content) → LeadsBy names old ns new → EndsAtFailure ns → IsLeftOfNoted names ns new left → (used : Ids) (taken : List DeliveryValue) → Within used old
    → Reads names old left (read_lines (begun used taken) (lines_of ns)) taken
reads_all names [] old new left leads fails (inl same) used taken within = nothing names old left used taken (same ∙ leads) within
reads_all names [] old new left leads fails (inr bad) used taken within = absurd bad
reads_all names (opened ids ∷ ns) old new left leads fails is used taken within = reads_all names ns old new left leads.1 fails is (set.union used ids) taken (within_open used ids old leads.0 within)
reads_all names (before d ∷ []) old new left leads fails is used taken within = absurd leads
reads_all names (before d ∷ after e answer ∷ ns) old new left leads fails is used taken within =
    subst (λ (x : DeliveryValue). Reads names old left (read_lines (begun used taken) (map (λ c. change_line (gtid_of d) c) d.changes ++ (lines_after (gtid_of x) answer ++ (if fails_by answer then [] else lines_of ns)))) taken) (sym leads.0)
    (answered_one names ns old new left used taken within (λ mid u t l i w. reads_all names ns mid new left l fails.1 i u t w) d answer leads.1 leads.2 leads.3 fails.0 is)
reads_all names (before d ∷ opened ids ∷ ns) old new left leads fails is used taken within = absurd leads
reads_all names (before d ∷ before e ∷ ns) old new left leads fails is used taken within = absurd leads
reads_all names (before d ∷ stopped e ∷ ns) old new left leads fails is used taken within = absurd leads
reads_all names (before d ∷ connected ∷ ns) old new left leads fails is used taken within = absurd leads
reads_all names (before d ∷ ended end goes_on ∷ ns) old new left leads fails is used taken within = absurd leads
reads_all names (stopped d ∷ ns) old new left leads fails (inl same) used taken within =
    nothing names old left used taken (same ∙ unapplied names old ns new leads.2 (lets_none_applied names old ns new leads.2 leads.1)) within
reads_all names (stopped d ∷ ns) old new left leads fails (inr more) used taken within = absurd (none_left_more names new left ns leads.1 more)
reads_all names (after d (Ok true) ∷ ns) old new left leads fails is used taken within = absurd leads
reads_all names (after d (Ok false) ∷ ns) old new left leads fails (inl same) used taken within = reads_all names ns old new left leads.1 fails.1 (inl same) used taken within
reads_all names (after d (Ok false) ∷ ns) old new left leads fails (inr more) used taken within = reads_all names ns old new left leads.1 fails.1 (inr more.1) used taken within
reads_all names (after d (Err reason) ∷ ns) old new left leads fails is used taken within =
    known_one names ns old new left used taken within (λ mid u t l i w. reads_all names ns mid new left l fails.1 i u t w) d reason leads.1 fails.0 is
reads_all names (connected ∷ ns) old new left leads fails is used taken within = reads_all names ns old new left leads fails is used taken within
reads_all names (ended end true ∷ ns) old new left leads fails is used taken within = reads_all names ns old new left leads fails is used taken within
reads_all names (ended end false ∷ ns) old new left leads fails is used taken within =
    subst (λ (l : List Notice). Reads names old left (read_lines (begun used taken) (lines_of l)) taken) (sym leads.0)
    (nothing names old left used taken (elim is [ inl same ↦ same ∙ leads.1 | inr more ↦ absurd (subst (λ (l : List Notice). IsOneMoreNoted names new l left) leads.0 more) ]) within)
