-- Lines that are missing or broken at the end of a run make no difference to a reader of the next open.
use Rattle.replica.proofs.Names.{◌≡◌, inl, inr, Bool, true, false, List, [], ◌∷◌, ◌++◌, map, length, Option, Some, None, Result, Ok, Err, refl, sym, ap, subst, ◌∙◌, append_assoc, append-nil, if◌then◌else◌, AllByRecursion, eq_by_cmp, Equal-is, cases_Bool, false≢true, or_cases, or_left, Id, Ids, id_cmp, id_cmp_total, id_cmp-same, Names, ChangeValue, DeliveryValue, Content, Reason, AppliesAll, Notice, stopped, ended, applied_in, IsMadeBy, LeadsBy, BeginsWith, fails_by, EndsAtFailure, IsLeftOfNoted, IsOneMoreNoted}
use Rattle.std.proofs.Common.{length-append}
use Rattle.std.specs.Prelude.{◌||◌}
use Rattle.std.specs.FinSet as set
use Rattle.replica.specs.Noted.{opened, connected, before, after}
use Rattle.replica.specs.Feed.{Line, open_line, change_line, commit_line, rollback_line, gtid_of, lines_after, lines_of, Reader, kept_changes, with_used, after_open, read_line, read_lines, FileLine, whole_line, cut_line, HaveNoOpen, unbroken, read_file, at_first, with_changes, MayBeMissing, IsHole, AreFed, all_lines}
use Rattle.replica.proofs.Notices.{all_applied}
use Rattle.replica.proofs.Push.{applies_push}
use Rattle.replica.proofs.Transactions.{itself, still}
use Rattle.replica.proofs.CopyLoads.{stays}
use Rattle.replica.proofs.FeedReading.{begun, Within, with_changes-append, taken_dropped, taken_used, up_to_one, within_open, kind_of, Reads, reads_all}

-- ---- Lines of one transaction stand together.

-- the GTID of what is kept
abbrev group_of : Option (Id × List ChangeValue) → Option Id
group_of None = None
group_of (Some (id, changes)) = Some id

abbrev OfOne : Option Id → Id → Type 0
OfOne None id = Unit {0}
OfOne (Some kept) id = kept ≡ id

-- After the changes of a transaction comes another one of it, or its end; a commit is of a transaction that is executed.
abbrev Grouped : Ids → Option Id → List Line → Type 0
Grouped executed kept [] = Unit {0}
Grouped executed kept (open_line ids ∷ lines) = Grouped executed None lines
Grouped executed kept (change_line id change ∷ lines) = OfOne kept id × Grouped executed (Some id) lines
Grouped executed kept (commit_line id ∷ lines) = OfOne kept id × (set.contains executed id ≡ true) × Grouped executed None lines
Grouped executed kept (rollback_line id ∷ lines) = OfOne kept id × Grouped executed None lines

none_by : (b : Bool) (x y : Reader) → x.kept ≡ None → y.kept ≡ None → (if b then x else y).kept ≡ None
none_by true x y p q = p
none_by false x y p q = q

used_none : (id : Id) (cs : List ChangeValue) (r : Reader) → (with_used id cs r).kept ≡ None
used_none id cs r = none_by (set.contains r.used id) _ _ refl refl

open_none : (ids : Ids) (kept : Option (Id × List ChangeValue)) (r : Reader) → r.kept ≡ kept → (after_open ids kept r).kept ≡ None
open_none ids None r same = same
open_none ids (Some (id, cs)) r same = none_by (set.contains ids id) _ _ (used_none id cs r) refl

grouped_rest : (executed : Ids) (r : Reader) (xs ys : List Line) → Grouped executed (group_of r.kept) (xs ++ ys) → Grouped executed (group_of (read_lines r xs).kept) ys
grouped_rest executed r [] ys g = g
grouped_rest executed r (open_line ids ∷ xs) ys g =
    grouped_rest executed (read_line r (open_line ids)) xs ys (subst (λ (k : Option (Id × List ChangeValue)). Grouped executed (group_of k) (xs ++ ys)) (sym (open_none ids r.kept r refl)) g)
grouped_rest executed r (change_line id c ∷ xs) ys g = grouped_rest executed (read_line r (change_line id c)) xs ys g.1
grouped_rest executed r (commit_line id ∷ xs) ys g =
    grouped_rest executed (read_line r (commit_line id)) xs ys (subst (λ (k : Option (Id × List ChangeValue)). Grouped executed (group_of k) (xs ++ ys)) (sym (used_none id (kept_changes r.kept) r)) g.2)
grouped_rest executed r (rollback_line id ∷ xs) ys g = grouped_rest executed (read_line r (rollback_line id)) xs ys g.1

grouped_changes : (executed : Ids) (id : Id) (cs : List ChangeValue) (rest : List Line) → ((kept : Option Id) → OfOne kept id → Grouped executed kept rest) → (kept : Option Id) → OfOne kept id
    → Grouped executed kept (map (λ c. change_line id c) cs ++ rest)
grouped_changes executed id [] rest f kept of = f kept of
grouped_changes executed id (c ∷ cs) rest f kept of = (of, grouped_changes executed id cs rest f (Some id) refl)

-- the end of a transaction that was not applied
grouped_end : (executed : Ids) (id : Id) (reason : Reason) (rest : List Line) → Grouped executed None rest → (kept : Option Id) → OfOne kept id → Grouped executed kept (lines_after id (Err reason) ++ (if fails_by (Err reason) then [] else rest))
grouped_end executed id reason rest g kept of = elim (kind_of id reason) [
  | inl database ↦ subst (λ (x : Reason). Grouped executed kept (lines_after id (Err x) ++ (if fails_by (Err x) then [] else rest))) (sym database.1) tt
  | inr others ↦ elim others [
    | inl memory ↦ subst (λ (x : Reason). Grouped executed kept (lines_after id (Err x) ++ (if fails_by (Err x) then [] else rest))) (sym memory) (of, tt)
    | inr other ↦ subst (λ (l : List Line). Grouped executed kept (l ++ (if fails_by (Err reason) then [] else rest))) (sym other.0)
        (subst (λ (b : Bool). Grouped executed kept (rollback_line id ∷ (if b then [] else rest))) (sym other.1) (of, g))
  ]
]

grouped_answer : (names : Names) (ns : List Notice) (old mid new : Content) (executed : Ids) (d : DeliveryValue) (answer : Result Bool Reason) → IsMadeBy names old d answer mid → LeadsBy names mid ns new
    → ((q : Id) → set.contains new.executed q ≡ true → set.contains executed q ≡ true) → Grouped executed None (lines_of ns) → (kept : Option Id) → OfOne kept (gtid_of d)
    → Grouped executed kept (lines_after (gtid_of d) answer ++ (if fails_by answer then [] else lines_of ns))
grouped_answer names ns old mid new executed d (Ok true) made leads has g kept of = (
  of,
  has (gtid_of d) (stays names mid (applied_in ns) (length (applied_in ns)) new (all_applied names mid ns new leads) (gtid_of d) (ap (λ (ids : Ids). set.contains ids (gtid_of d)) made.2 ∙ itself old.executed (gtid_of d))),
  g,
)
grouped_answer names ns old mid new executed d (Ok false) made leads has g kept of = absurd made
grouped_answer names ns old mid new executed d (Err reason) made leads has g kept of = grouped_end executed (gtid_of d) reason (lines_of ns) g kept of

grouped_all : (names : Names) (ns : List Notice) (old new : Content) (executed : Ids) → LeadsBy names old ns new → ((q : Id) → set.contains new.executed q ≡ true → set.contains executed q ≡ true) → Grouped executed None (lines_of ns)
grouped_all names [] old new executed leads has = tt
grouped_all names (opened ids ∷ ns) old new executed leads has = grouped_all names ns old new executed leads.1 has
grouped_all names (before d ∷ []) old new executed leads has = absurd leads
grouped_all names (before d ∷ after e answer ∷ ns) old new executed leads has =
    grouped_changes executed (gtid_of d) d.changes (lines_after (gtid_of e) answer ++ (if fails_by answer then [] else lines_of ns))
    (λ kept of. subst (λ (x : DeliveryValue). Grouped executed kept (lines_after (gtid_of x) answer ++ (if fails_by answer then [] else lines_of ns))) (sym leads.0)
    (grouped_answer names ns old leads.1 new executed d answer leads.2 leads.3 has (grouped_all names ns leads.1 new executed leads.3 has) kept of)) None tt
grouped_all names (before d ∷ opened ids ∷ ns) old new executed leads has = absurd leads
grouped_all names (before d ∷ before e ∷ ns) old new executed leads has = absurd leads
grouped_all names (before d ∷ stopped e ∷ ns) old new executed leads has = absurd leads
grouped_all names (before d ∷ connected ∷ ns) old new executed leads has = absurd leads
grouped_all names (before d ∷ ended end goes_on ∷ ns) old new executed leads has = absurd leads
grouped_all names (stopped d ∷ ns) old new executed leads has = tt
grouped_all names (after d (Ok true) ∷ ns) old new executed leads has = absurd leads
grouped_all names (after d (Ok false) ∷ ns) old new executed leads has = grouped_all names ns old new executed leads.1 has
grouped_all names (after d (Err reason) ∷ ns) old new executed leads has = grouped_end executed (gtid_of d) reason (lines_of ns) (grouped_all names ns old new executed leads.1 has) None tt
grouped_all names (connected ∷ ns) old new executed leads has = grouped_all names ns old new executed leads has
grouped_all names (ended end true ∷ ns) old new executed leads has = grouped_all names ns old new executed leads has
grouped_all names (ended end false ∷ ns) old new executed leads has = subst (λ (l : List Notice). Grouped executed None (lines_of l)) (sym leads.0) tt

-- ---- A line that is missing.

-- what is kept of a transaction that is not executed is dropped
drops : (executed used : Ids) (taken : List DeliveryValue) (kept : Option (Id × List ChangeValue)) (id : Id) → OfOne (group_of kept) id → set.contains executed id ≡ false
    → (read_line (record { used = used; taken = taken; kept = kept }) (open_line executed)).taken ≡ taken
drops executed used taken None id of fresh = refl
drops executed used taken (Some (i, cs)) id of fresh = taken_dropped executed used taken (Some (i, cs)) i cs refl (ap (λ (x : Id). set.contains executed x) of ∙ fresh)

-- a commit without changes
no_changes : (id : Id) (used : Ids) (taken : List DeliveryValue) → with_changes (with_used id [] (begun used taken)).taken ≡ with_changes taken
no_changes id used taken = elim (cases_Bool (set.contains used id)) [
  | inl has ↦ ap (λ (b : Bool). with_changes (if b then begun used taken else begun (set.insert used id) (taken ++ record { source = id.0; number = id.1; changes = [] } ∷ [])).taken) has
  | inr new ↦
      ap (λ (b : Bool). with_changes (if b then begun used taken else begun (set.insert used id) (taken ++ record { source = id.0; number = id.1; changes = [] } ∷ [])).taken) new
      ∙ sym (up_to_one taken (record { source = id.0; number = id.1; changes = [] }) refl)
]

-- and one of what is kept, which the open uses too
commits : (executed used : Ids) (taken : List DeliveryValue) (kept : Option (Id × List ChangeValue)) (id : Id) → OfOne (group_of kept) id → set.contains executed id ≡ true
    → with_changes (with_used id (kept_changes kept) (begun used taken)).taken ≡ with_changes (read_line (record { used = used; taken = taken; kept = kept }) (open_line executed)).taken
commits executed used taken None id of known = no_changes id used taken
commits executed used taken (Some (i, cs)) id of known =
    ap with_changes (ap (λ (x : Id). (with_used x cs (begun used taken)).taken) (sym of) ∙ sym (taken_used executed used taken (Some (i, cs)) i cs refl (ap (λ (x : Id). set.contains executed x) of ∙ known)))

one_missing : (executed : Ids) (r : Reader) (line : Line) (rest : List Line) → Grouped executed (group_of r.kept) (line ∷ rest) → MayBeMissing executed line
    → with_changes (read_line (read_line r line) (open_line executed)).taken ≡ with_changes (read_line r (open_line executed)).taken
one_missing executed r (open_line ids) rest g may =
    ap (λ (x : Ids). with_changes (read_line (read_line r (open_line x)) (open_line executed)).taken) may
    ∙ ap (λ (k : Option (Id × List ChangeValue)). with_changes (after_open executed k (record (after_open executed r.kept r) { used = set.union (after_open executed r.kept r).used executed; kept = k })).taken) (open_none executed r.kept r refl)
one_missing executed r (change_line id c) rest g may =
    ap with_changes (drops executed r.used r.taken (Some (id, kept_changes r.kept ++ c ∷ [])) id refl may ∙ sym (drops executed r.used r.taken r.kept id g.0 may))
one_missing executed r (commit_line id) rest g may =
    ap (λ (k : Option (Id × List ChangeValue)). with_changes (after_open executed k (record (with_used id (kept_changes r.kept) r) { kept = k })).taken) (used_none id (kept_changes r.kept) r)
    ∙ commits executed r.used r.taken r.kept id g.0 g.1
one_missing executed r (rollback_line id) rest g may = ap with_changes (sym (drops executed r.used r.taken r.kept id g.0 may))

all_missing : (executed : Ids) (lost : List Line) (r : Reader) → Grouped executed (group_of r.kept) lost → AllByRecursion (MayBeMissing executed) lost
    → with_changes (read_line (read_lines r lost) (open_line executed)).taken ≡ with_changes (read_line r (open_line executed)).taken
all_missing executed [] r g may = refl
all_missing executed (line ∷ lost) r g may = all_missing executed lost (read_line r line) (grouped_rest executed r (line ∷ []) lost g) may.1 ∙ one_missing executed r line lost g may.0

or_again : (a b : Bool) → ((a || b) || b) ≡ (a || b)
or_again true b = refl
or_again false true = refl
or_again false false = refl

-- ---- What grows.

read_lines-append : (r : Reader) (xs ys : List Line) → read_lines r (xs ++ ys) ≡ read_lines (read_lines r xs) ys
read_lines-append r [] ys = refl
read_lines-append r (x ∷ xs) ys = read_lines-append (read_line r x) xs ys

used_by : (b : Bool) (x y : Reader) (q : Id) → set.contains x.used q ≡ true → set.contains y.used q ≡ true → set.contains (if b then x else y).used q ≡ true
used_by true x y q p r = p
used_by false x y q p r = r

used_one : (id : Id) (cs : List ChangeValue) (r : Reader) (q : Id) → set.contains r.used q ≡ true → set.contains (with_used id cs r).used q ≡ true
used_one id cs r q has = used_by (set.contains r.used id) _ _ q has (still r.used id q has)

used_open : (ids : Ids) (kept : Option (Id × List ChangeValue)) (r : Reader) (q : Id) → set.contains r.used q ≡ true → set.contains (after_open ids kept r).used q ≡ true
used_open ids None r q has = has
used_open ids (Some (id, cs)) r q has = used_by (set.contains ids id) _ _ q (used_one id cs r q has) has

used_grows : (r : Reader) (lines : List Line) (q : Id) → set.contains r.used q ≡ true → set.contains (read_lines r lines).used q ≡ true
used_grows r [] q has = has
used_grows r (open_line ids ∷ lines) q has =
    used_grows (read_line r (open_line ids)) lines q (set.contains-union id_cmp_total (after_open ids r.kept r).used ids q ∙ or_left _ _ (used_open ids r.kept r q has))
used_grows r (change_line id c ∷ lines) q has = used_grows (read_line r (change_line id c)) lines q has
used_grows r (commit_line id ∷ lines) q has = used_grows (read_line r (commit_line id)) lines q (used_one id (kept_changes r.kept) r q has)
used_grows r (rollback_line id ∷ lines) q has = used_grows (read_line r (rollback_line id)) lines q has

taken_by : (b : Bool) (x y : Reader) (t : List DeliveryValue) → ((more : List DeliveryValue) × (x.taken ≡ t ++ more)) → ((more : List DeliveryValue) × (y.taken ≡ t ++ more)) → (more : List DeliveryValue) × ((if b then x else y).taken ≡ t ++ more)
taken_by true x y t p q = p
taken_by false x y t p q = q

taken_one : (id : Id) (cs : List ChangeValue) (r : Reader) → (more : List DeliveryValue) × ((with_used id cs r).taken ≡ r.taken ++ more)
taken_one id cs r = taken_by (set.contains r.used id) _ _ r.taken ([], sym (append-nil r.taken)) (record { source = id.0; number = id.1; changes = cs } ∷ [], refl)

taken_open : (ids : Ids) (kept : Option (Id × List ChangeValue)) (r : Reader) → (more : List DeliveryValue) × ((after_open ids kept r).taken ≡ r.taken ++ more)
taken_open ids None r = ([], sym (append-nil r.taken))
taken_open ids (Some (id, cs)) r = taken_by (set.contains ids id) _ _ r.taken (taken_one id cs r) ([], sym (append-nil r.taken))

taken_then : (t mid last : List DeliveryValue) → ((more : List DeliveryValue) × (mid ≡ t ++ more)) → ((more : List DeliveryValue) × (last ≡ mid ++ more)) → (more : List DeliveryValue) × (last ≡ t ++ more)
taken_then t mid last p q = (p.0 ++ q.0, q.1 ∙ ap (λ (l : List DeliveryValue). l ++ q.0) p.1 ∙ append_assoc t p.0 q.0)

-- what was used stays used, in order
pub taken_grows : (r : Reader) (lines : List Line) → (more : List DeliveryValue) × ((read_lines r lines).taken ≡ r.taken ++ more)
taken_grows r [] = ([], sym (append-nil r.taken))
taken_grows r (open_line ids ∷ lines) = taken_then r.taken (read_line r (open_line ids)).taken (read_lines (read_line r (open_line ids)) lines).taken (taken_open ids r.kept r) (taken_grows (read_line r (open_line ids)) lines)
taken_grows r (change_line id c ∷ lines) = taken_grows (read_line r (change_line id c)) lines
taken_grows r (commit_line id ∷ lines) = taken_then r.taken (read_line r (commit_line id)).taken (read_lines (read_line r (commit_line id)) lines).taken (taken_one id (kept_changes r.kept) r) (taken_grows (read_line r (commit_line id)) lines)
taken_grows r (rollback_line id ∷ lines) = taken_grows (read_line r (rollback_line id)) lines

grows : (r : Reader) (xs ys : List Line) → (more : List DeliveryValue) × ((read_lines r (xs ++ ys)).taken ≡ (read_lines r xs).taken ++ more)
grows r xs ys =
    let g = taken_grows (read_lines r xs) ys in
    (g.0, ap (λ (s : Reader). s.taken) (read_lines-append r xs ys) ∙ g.1)

-- ---- Runs.

-- An open with the executed set of this content leaves a reader that has used what has changes of these transactions.
record IsUpTo (r : Reader) (now : Content) (ds : List DeliveryValue) : Type 0 where
  pub taken : with_changes (read_line r (open_line now.executed)).taken ≡ with_changes ds
  pub within : Within r.used now

within_by : (b : Bool) (x y : Reader) (now : Content) → Within x.used now → Within y.used now → Within (if b then x else y).used now
within_by true x y now p q = p
within_by false x y now p q = q

-- the transactions that an open has used are executed
within_after : (ids : Ids) (kept : Option (Id × List ChangeValue)) (r : Reader) (now : Content) → ids ≡ now.executed → Within r.used now → Within (after_open ids kept r).used now
within_after ids None r now same within = within
within_after ids (Some (id, cs)) r now same within = elim (cases_Bool (set.contains ids id)) [
  | inl has ↦ within_by (set.contains ids id) _ _ now
      (within_by (set.contains r.used id) _ _ now within (λ q is. elim (or_cases (eq_by_cmp id_cmp q id) (set.contains r.used q) (sym (set.contains-insert id_cmp_total r.used id q) ∙ is)) [
        | inl it ↦ ap (λ (x : Id). set.contains now.executed x) (id_cmp-same q id ((Equal-is (id_cmp q id)).0 it)) ∙ ap (λ (x : Ids). set.contains x id) (sym same) ∙ has
        | inr earlier ↦ within q earlier
      ]))
      within
  | inr fresh ↦ subst (λ (b : Bool). Within (if b then with_used id cs r else record r { kept = None }).used now) (sym fresh) within
]

-- what is executed after all that was reported is executed in what is left
executed_more : (names : Names) (ns : List Notice) (new left : Content) → IsOneMoreNoted names new ns left → (q : Id) → set.contains new.executed q ≡ true → set.contains left.executed q ≡ true
executed_more names [] new left more q has = absurd more
executed_more names (opened ids ∷ ns) new left more q has = executed_more names ns new left more q has
executed_more names (before d ∷ ns) new left (inl one) q has = ap (λ (ids : Ids). set.contains ids q) one.1.2 ∙ still new.executed (gtid_of d) q has
executed_more names (before d ∷ ns) new left (inr more) q has = executed_more names ns new left more q has
executed_more names (stopped d ∷ ns) new left more q has = executed_more names ns new left more q has
executed_more names (after d answer ∷ ns) new left more q has = executed_more names ns new left more.1 q has
executed_more names (connected ∷ ns) new left more q has = executed_more names ns new left more q has
executed_more names (ended end goes_on ∷ ns) new left more q has = executed_more names ns new left more q has

executed_left : (names : Names) (ns : List Notice) (new left : Content) → IsLeftOfNoted names ns new left → (q : Id) → set.contains new.executed q ≡ true → set.contains left.executed q ≡ true
executed_left names ns new left (inl same) q has = ap (λ (c : Content). set.contains c.executed q) same ∙ has
executed_left names ns new left (inr more) q has = executed_more names ns new left more q has

lengths : (names : Names) (old mid new : Content) (xs ys : List DeliveryValue) → AppliesAll names old xs (length xs) mid → AppliesAll names mid ys (length ys) new → AppliesAll names old (xs ++ ys) (length (xs ++ ys)) new
lengths names old mid new xs ys a b = subst (λ n. AppliesAll names old (xs ++ ys) n new) (sym (length-append xs ys)) (applies_push names old xs (length xs) mid ys (length ys) new a b)

module _ (names : Names) (old new left : Content) (lines lost : List Line) (r : Reader) (ds : List DeliveryValue) (is : IsUpTo r old ds) where
  -- what was reported since the opening
  run_of : (ids : Ids) (ns : List Notice) → LeadsBy names old (opened ids ∷ ns) new → EndsAtFailure ns → IsLeftOfNoted names ns new left → lines_of (opened ids ∷ ns) ≡ lines ++ lost → AllByRecursion (MayBeMissing left.executed) lost
      → (more : List DeliveryValue) × AppliesAll names old more (length more) left × IsUpTo (read_lines r lines) left (ds ++ more)
  run_of ids ns leads fails left_is are may =
      let first = read_line r (open_line ids) in
      let nothing_kept : first ≡ begun first.used first.taken = λ i. record { used = first.used; taken = first.taken; kept = open_none ids r.kept r refl i } in
      let all = subst (λ (x : Reader). Reads names old left (read_lines x (lines_of ns)) first.taken) (sym nothing_kept)
      (reads_all names ns old new left leads.1 fails left_is first.used first.taken (within_open (after_open ids r.kept r).used ids old leads.0 (within_after ids r.kept r old leads.0 is.within))) in
      let same : read_lines r (open_line ids ∷ lines_of ns) ≡ read_lines (read_lines r lines) lost = ap (λ (l : List Line). read_lines r l) are ∙ read_lines-append r lines lost in
      let has = executed_left names ns new left left_is in
      let grouped : Grouped left.executed (group_of (read_lines r lines).kept) lost =
      grouped_rest left.executed r lines lost (subst (λ (l : List Line). Grouped left.executed (group_of r.kept) l) are (grouped_all names ns old new left.executed leads.1 has)) in (
        all.more,
        all.applies,
        record {
          taken = sym (all_missing left.executed lost (read_lines r lines) grouped may)
              ∙ ap (λ (x : Reader). with_changes (read_line x (open_line left.executed)).taken) (sym same)
              ∙ all.up_to
              ∙ with_changes-append first.taken all.more
              ∙ ap (λ (l : List DeliveryValue). l ++ with_changes all.more) (ap (λ (x : Ids). with_changes (read_line r (open_line x)).taken) leads.0 ∙ is.taken)
              ∙ sym (with_changes-append ds all.more);
          within = λ q used. all.within q (ap (λ (x : Reader). set.contains x.used q) same ∙ used_grows (read_lines r lines) lost q used);
        },
      )

  by_notices : (notices : List Notice) → LeadsBy names old notices new → BeginsWith old.executed notices → EndsAtFailure notices → IsLeftOfNoted names notices new left → lines_of notices ≡ lines ++ lost → AllByRecursion (MayBeMissing left.executed) lost
      → (more : List DeliveryValue) × AppliesAll names old more (length more) left × IsUpTo (read_lines r lines) left (ds ++ more)
  by_notices [] leads begins fails left_is are may = absurd begins
  by_notices (opened ids ∷ ns) leads begins fails left_is are may = run_of ids ns leads fails left_is are may
  by_notices (before d ∷ ns) leads begins fails left_is are may = absurd begins
  by_notices (stopped d ∷ ns) leads begins fails left_is are may = absurd begins
  by_notices (after d answer ∷ ns) leads begins fails left_is are may = absurd begins
  by_notices (connected ∷ ns) leads begins fails left_is are may = absurd begins
  by_notices (ended end goes_on ∷ ns) leads begins fails left_is are may = absurd begins

-- ---- Lines of a file.

-- A part of a file and what follows it are read one after the other.
split_file : (drops : Bool) (part more : List FileLine) → (later : Bool) × (unbroken drops (part ++ more) ≡ unbroken drops part ++ unbroken later more)
split_file drops [] more = (drops, refl)
split_file drops (cut_line ∷ part) more = split_file true part more
split_file drops (whole_line (open_line ids) ∷ part) more = let s = split_file false part more in (s.0, ap (λ (l : List Line). open_line ids ∷ l) s.1)
split_file true (whole_line (change_line id c) ∷ part) more = split_file true part more
split_file true (whole_line (commit_line id) ∷ part) more = split_file true part more
split_file true (whole_line (rollback_line id) ∷ part) more = split_file true part more
split_file false (whole_line (change_line id c) ∷ part) more = let s = split_file false part more in (s.0, ap (λ (l : List Line). change_line id c ∷ l) s.1)
split_file false (whole_line (commit_line id) ∷ part) more = let s = split_file false part more in (s.0, ap (λ (l : List Line). commit_line id ∷ l) s.1)
split_file false (whole_line (rollback_line id) ∷ part) more = let s = split_file false part more in (s.0, ap (λ (l : List Line). rollback_line id ∷ l) s.1)

-- after a part of a file a reader has used a part of what it has used after more of it
pub file_grows : (r : Reader) (part more : List FileLine) → (ds : List DeliveryValue) × ((read_file r (part ++ more)).taken ≡ (read_file r part).taken ++ ds)
file_grows r part more =
    let s = split_file false part more in
    let g = grows r (unbroken false part) (unbroken s.0 more) in
    (g.0, ap (λ (l : List Line). (read_lines r l).taken) s.1 ∙ g.1)

-- lines that are whole are all read, after an open
all_whole : (lines : List Line) (rest : List FileLine) → unbroken false (map whole_line lines ++ rest) ≡ lines ++ unbroken false rest
all_whole [] rest = refl
all_whole (open_line ids ∷ lines) rest = ap (λ (l : List Line). open_line ids ∷ l) (all_whole lines rest)
all_whole (change_line id c ∷ lines) rest = ap (λ (l : List Line). change_line id c ∷ l) (all_whole lines rest)
all_whole (commit_line id ∷ lines) rest = ap (λ (l : List Line). commit_line id ∷ l) (all_whole lines rest)
all_whole (rollback_line id ∷ lines) rest = ap (λ (l : List Line). rollback_line id ∷ l) (all_whole lines rest)

-- no line is read after one that is cut, up to an open
none_read : (lines rest : List FileLine) → HaveNoOpen lines → unbroken true (lines ++ rest) ≡ unbroken true rest
none_read [] rest none = refl
none_read (cut_line ∷ lines) rest none = none_read lines rest none
none_read (whole_line (open_line ids) ∷ lines) rest none = absurd none
none_read (whole_line (change_line id c) ∷ lines) rest none = none_read lines rest none
none_read (whole_line (commit_line id) ∷ lines) rest none = none_read lines rest none
none_read (whole_line (rollback_line id) ∷ lines) rest none = none_read lines rest none

after_broken : (drops : Bool) (broken rest : List FileLine) → IsHole broken → (later : Bool) × (unbroken drops (broken ++ rest) ≡ unbroken later rest)
after_broken drops [] rest is = (drops, refl)
after_broken drops (cut_line ∷ lines) rest is = (true, none_read lines rest is)
after_broken drops (whole_line line ∷ lines) rest is = absurd is

-- no lines, or lines whose first is an open
abbrev BeginOpen : List Line → Type 0
BeginOpen [] = Unit {0}
BeginOpen (open_line ids ∷ lines) = Unit {0}
BeginOpen (change_line id c ∷ lines) = ⊥
BeginOpen (commit_line id ∷ lines) = ⊥
BeginOpen (rollback_line id ∷ lines) = ⊥

begin_open : (lines more : List Line) → BeginOpen (lines ++ more) → BeginOpen lines
begin_open [] more is = tt
begin_open (open_line ids ∷ lines) more is = tt
begin_open (change_line id c ∷ lines) more is = is
begin_open (commit_line id ∷ lines) more is = is
begin_open (rollback_line id ∷ lines) more is = is

noted_open : (ids : Ids) (notices : List Notice) → BeginsWith ids notices → BeginOpen (lines_of notices)
noted_open ids [] begins = absurd begins
noted_open ids (opened others ∷ ns) begins = tt
noted_open ids (before d ∷ ns) begins = absurd begins
noted_open ids (stopped d ∷ ns) begins = absurd begins
noted_open ids (after d answer ∷ ns) begins = absurd begins
noted_open ids (connected ∷ ns) begins = absurd begins
noted_open ids (ended end goes_on ∷ ns) begins = absurd begins

-- what is read of a run, whatever was cut before it
read_run : (drops : Bool) (lines : List Line) (broken rest : List FileLine) → BeginOpen lines → IsHole broken → (later : Bool) × (unbroken drops (map whole_line lines ++ (broken ++ rest)) ≡ lines ++ unbroken later rest)
read_run drops [] broken rest begin is = after_broken drops broken rest is
read_run drops (open_line ids ∷ lines) broken rest begin is =
    let s = after_broken false broken rest is in
    (s.0, ap (λ (l : List Line). open_line ids ∷ l) (all_whole lines (broken ++ rest) ∙ ap (λ (l : List Line). lines ++ l) s.1))
read_run drops (change_line id c ∷ lines) broken rest begin is = absurd begin
read_run drops (commit_line id ∷ lines) broken rest begin is = absurd begin
read_run drops (rollback_line id ∷ lines) broken rest begin is = absurd begin

all_runs : (names : Names) (old last : Content) (runs : List (List FileLine)) → AreFed names old runs last → (drops : Bool) (r : Reader) (ds : List DeliveryValue) → IsUpTo r old ds
    → (more : List DeliveryValue) × AppliesAll names old more (length more) last × (with_changes (read_lines r (unbroken drops (all_lines runs ++ whole_line (open_line last.executed) ∷ []))).taken ≡ with_changes (ds ++ more))
all_runs names old last [] fed drops r ds is = (
  [],
  (refl, fed),
  ap (λ (c : Content). with_changes (read_line r (open_line c.executed)).taken) fed ∙ is.taken ∙ ap with_changes (sym (append-nil ds)),
)
all_runs names old last (lines ∷ runs) (left, fed, rest) drops r ds is =
    let begin : BeginOpen fed.written = begin_open fed.written fed.missing (subst BeginOpen fed.lines_are (noted_open old.executed fed.notices fed.begins)) in
    let one = by_notices names old fed.new left fed.written fed.missing r ds is fed.notices fed.leads fed.begins fed.fails fed.left_is fed.lines_are fed.may in
    let last_open = whole_line (open_line last.executed) ∷ [] in
    let run = read_run drops fed.written fed.broken (all_lines runs ++ last_open) begin fed.is_broken in
    let file : (lines ++ all_lines runs) ++ last_open ≡ map whole_line fed.written ++ (fed.broken ++ (all_lines runs ++ last_open)) =
    append_assoc lines (all_lines runs) last_open
    ∙ ap (λ (l : List FileLine). l ++ (all_lines runs ++ last_open)) fed.in_file
    ∙ append_assoc (map whole_line fed.written) fed.broken (all_lines runs ++ last_open) in
    let two = all_runs names left last runs rest run.0 (read_lines r fed.written) (ds ++ one.0) one.2 in (
      one.0 ++ two.0,
      lengths names old left last one.0 two.0 one.1 two.1,
      ap (λ (l : List FileLine). with_changes (read_lines r (unbroken drops l)).taken) file
          ∙ ap (λ (l : List Line). with_changes (read_lines r l).taken) run.1
          ∙ ap (λ (x : Reader). with_changes x.taken) (read_lines-append r fed.written (unbroken run.0 (all_lines runs ++ last_open)))
          ∙ two.2
          ∙ ap with_changes (append_assoc ds one.0 two.0),
    )

-- A reader of all runs, and of the set that is executed after them, has used exactly what was applied.
pub consumed : (names : Names) (first last : Content) (runs : List (List FileLine)) → AreFed names first runs last
    → (ds : List DeliveryValue) × AppliesAll names first ds (length ds) last × (with_changes (read_file at_first (all_lines runs ++ whole_line (open_line last.executed) ∷ [])).taken ≡ with_changes ds)
consumed names first last runs fed =
    all_runs names first last runs fed false at_first [] (record { taken = refl; within = λ q used. absurd (false≢true (sym (set.contains-empty id_cmp q) ∙ used)) })

-- An open that comes again changes nothing.
pub again : (r : Reader) (ids : Ids) → read_line (read_line r (open_line ids)) (open_line ids) ≡ read_line r (open_line ids)
again r ids =
    let s = read_line r (open_line ids) in
    let none : s.kept ≡ None = open_none ids r.kept r refl in
    let same : set.union s.used ids ≡ s.used = set.same_set id_cmp_total id_cmp-same _ _ (λ q.
    set.contains-union id_cmp_total s.used ids q
    ∙ ap (λ (b : Bool). b || set.contains ids q) (set.contains-union id_cmp_total (after_open ids r.kept r).used ids q)
    ∙ or_again (set.contains (after_open ids r.kept r).used q) (set.contains ids q)
    ∙ sym (set.contains-union id_cmp_total (after_open ids r.kept r).used ids q)) in
    let first : read_line s (open_line ids) ≡ record { used = set.union s.used ids; taken = s.taken; kept = None } =
    ap (λ (k : Option (Id × List ChangeValue)). record (after_open ids k (record { used = s.used; taken = s.taken; kept = k })) { used = set.union (after_open ids k (record { used = s.used; taken = s.taken; kept = k })).used ids }) none in
    first ∙ (λ i. record { used = same i; taken = s.taken; kept = sym none i })
