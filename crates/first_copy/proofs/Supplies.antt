-- The transactions that a copy still gives.
use Rattle.first_copy.proofs.Names.{◌≡◌, ℕ, ◌+◌, Bool, true, false, List, [], ◌∷◌, ◌++◌, length, Option, Some, None, arith, refl, sym, ap, subst, ◌∙◌, IfSome, Sha1, DescribedTable, DeliveryValue, IsEndLine, IsGiven, IsFinished}
use Rattle.std.proofs.Common.{Result, Ok, Err}
use Rattle.std.specs.Prelude.{MatchBool, IfNone}
use Rattle.std.proofs.lemmas.Bool.{true≢false, false≢true}
use Rattle.std.proofs.lemmas.List.{length-append}
use Rattle.gather.specs.View.{delivery_value}
use Rattle.gather.specs.declared.transaction.Delivery.{Delivery}
use Rattle.gather.specs.Transaction.{ChangeValue}
use Rattle.binlog.specs.Filter.{Names}
use Rattle.gather.specs.Given.{Supply, BeginWith, GivesFirst, GivesOne}
use Rattle.first_copy.specs.Supplied.{all_changes, AreOfTables, within, HaveLines, supply_of}

-- ---- The tables of what is given.

of_both : (names : Names) (xs ys : List ChangeValue) → AreOfTables names xs → AreOfTables names ys → AreOfTables names (xs ++ ys)
of_both names [] ys first rest = rest
of_both names (x ∷ xs) ys first rest = (first.0, of_both names xs ys first.1 rest)

begins_within : (names : Names) (left : Supply) (ds : List DeliveryValue) → BeginWith (within names left) ds → BeginWith left ds × AreOfTables names (all_changes ds)
begins_within names left [] begin = (tt, tt)
begins_within names left (d ∷ ds) begin = begin

to_within : (names : Names) (left : Supply) (ds : List DeliveryValue) → BeginWith left ds → AreOfTables names (all_changes ds) → BeginWith (within names left) ds
to_within names left [] begin are = tt
to_within names left (d ∷ ds) begin are = (begin, are)

pub nothing_within : (names : Names) (before after : Supply) → GivesFirst before [] after → GivesFirst (within names before) [] (within names after)
nothing_within names before after gives = record {
  begins = λ more begin. let b = begins_within names after more begin in to_within names before more (gives.begins more b.0) b.1;
  are_all = λ more all. (gives.are_all more all.0, all.1);
}

-- one transaction of these tables, or none
pub one_within : (names : Names) (before after : Supply) (found : Option Delivery) → GivesOne before after found → IfSome found (λ d. AreOfTables names (delivery_value d).changes) → GivesOne (within names before) (within names after) found
one_within names before after (Some d) gives are = record {
  begins = λ more begin. let b = begins_within names after more begin in (gives.begins more b.0, of_both names (delivery_value d).changes (all_changes more) are b.1);
  are_all = λ more all. (gives.are_all more all.0, of_both names (delivery_value d).changes (all_changes more) are all.1);
}
one_within names before after None gives are = (nothing_within names before after gives.0, (gives.1, tt))

-- ---- What is given.

pub not_err : {T E : Type 0} (t : T) (e : E) → Path (Result T E) (Ok t) (Err e) → ⊥
not_err t e is = cc

if_known : (text : Option (List ℕ)) → IfSome text (λ bs. Unit {0})
if_known None = tt
if_known (Some bs) = tt

of_open : (ended : Bool) (X Y : Type 0) → ended ≡ false → MatchBool ended X Y → Y
of_open false X Y is h = h
of_open true X Y is h = absurd (true≢false is)

to_open : (ended : Bool) (X Y : Type 0) → ended ≡ false → Y → MatchBool ended X Y
to_open false X Y is h = h
to_open true X Y is h = absurd (true≢false is)

of_ended : (ended : Bool) (X Y : Type 0) → ended ≡ true → MatchBool ended X Y → X
of_ended true X Y is h = h
of_ended false X Y is h = absurd (false≢true is)

to_ended : (ended : Bool) (X Y : Type 0) → ended ≡ true → X → MatchBool ended X Y
to_ended true X Y is h = h
to_ended false X Y is h = absurd (false≢true is)

module _ (tables : List DescribedTable) (source : List ℕ) where
  weaker : (ds : List DeliveryValue) (text : List ℕ) (n m : ℕ) (New Left : List ℕ → Type 0) → ((bs : List ℕ) → New bs → Left bs) → n ≡ m → HaveLines tables source n New ds text → HaveLines tables source m Left ds text
  weaker [] text n m New Left left same have = left text have
  weaker (d ∷ ds) text n m New Left left same have = (
    have.0,
    have.1,
    have.2,
    have.3,
    have.4,
    have.5,
    have.6 ∙ same,
    weaker ds have.1 (n + 1) (m + 1) New Left left (ap (λ k. k + 1) same) have.7,
  )

  -- the first transaction, and then others
  first_lines : (given rows new_given new_rows : ℕ) (hasher new_hasher : Sha1) (d : DeliveryValue) (more : List DeliveryValue) (text new_text : Option (List ℕ)) (New Left : List ℕ → Type 0)
      → IsGiven tables source given rows new_given new_rows text new_text hasher new_hasher d → ((bs : List ℕ) → New bs → Left bs) → IfSome new_text (λ bs. HaveLines tables source (new_given + 1) New more bs)
      → IfSome text (λ bs. HaveLines tables source (given + 1) Left (d ∷ more) bs)
  first_lines given rows new_given new_rows hasher new_hasher d more None new_text New Left it left rest = tt
  first_lines given rows new_given new_rows hasher new_hasher d more (Some bs) None New Left it left rest = absurd it.took
  first_lines given rows new_given new_rows hasher new_hasher d more (Some bs) (Some ys) New Left it left rest = (
    it.lines,
    ys,
    it.took,
    it.chunk,
    it.full,
    it.source_is,
    it.number_is,
    weaker more ys (new_given + 1) (given + 1 + 1) New Left left (ap (λ n. n + 1) (it.given_is ∙ it.number_is)) rest,
  )

  begun : (failed ended : Bool) (given rows : ℕ) (text : Option (List ℕ)) (more : List DeliveryValue) → BeginWith (supply_of failed ended tables source given rows text) more
      → IfSome text (λ bs. HaveLines tables source (given + 1) (λ _. Unit {0}) more bs)
  begun failed ended given rows text [] begin = if_known text
  begun failed ended given rows text (d ∷ more) begin = begin.2

  counted : (d : DeliveryValue) (more : List DeliveryValue) (rows new_rows : ℕ) → new_rows ≡ rows + length d.changes → new_rows + length (all_changes more) ≡ rows + length (all_changes (d ∷ more))
  counted d more rows new_rows is = omega (arith, is, length-append d.changes (all_changes more))

  none_begins : (failed ended new_failed new_ended : Bool) (given rows new_given new_rows : ℕ) (text new_text : Option (List ℕ)) → new_ended ≡ true
      → (more : List DeliveryValue) → BeginWith (supply_of new_failed new_ended tables source new_given new_rows new_text) more → BeginWith (supply_of failed ended tables source given rows text) more
  none_begins failed ended new_failed new_ended given rows new_given new_rows text new_text end [] begin = tt
  none_begins failed ended new_failed new_ended given rows new_given new_rows text new_text end (d ∷ more) begin = absurd (false≢true (sym begin.1 ∙ end))

  no_begin : (failed ended new_failed new_ended : Bool) (given rows new_given new_rows : ℕ) (text new_text : Option (List ℕ)) → new_failed ≡ true
      → (more : List DeliveryValue) → BeginWith (supply_of new_failed new_ended tables source new_given new_rows new_text) more → BeginWith (supply_of failed ended tables source given rows text) more
  no_begin failed ended new_failed new_ended given rows new_given new_rows text new_text has [] begin = tt
  no_begin failed ended new_failed new_ended given rows new_given new_rows text new_text has (d ∷ more) begin = absurd (false≢true (sym begin.0 ∙ has))

  end_of : (rows : ℕ) (text : Option (List ℕ)) → IfSome text (IsEndLine rows) → IfSome text (λ bs. IsEndLine (rows + 0) bs)
  end_of rows None is = tt
  end_of rows (Some bs) is = subst (λ n. IsEndLine n bs) (omega arith) is

  none_left : (ended : Bool) (given rows new_given new_rows : ℕ) (hasher new_hasher : Sha1) (text : Option (List ℕ)) (more : List DeliveryValue) → more ≡ [] → (ended ≡ false → IsFinished given rows new_given new_rows text hasher new_hasher)
      → MatchBool ended (more ≡ []) (IfSome text (λ bs. HaveLines tables source (given + 1) (IsEndLine (rows + length (all_changes more))) more bs))
  none_left true given rows new_given new_rows hasher new_hasher text more none it = none
  none_left false given rows new_given new_rows hasher new_hasher text [] none it = end_of rows text (it refl).end
  none_left false given rows new_given new_rows hasher new_hasher text (d ∷ more) none it = absurd (cc)

  -- one transaction was given
  gives_one : (failed ended new_failed new_ended : Bool) (given rows new_given new_rows : ℕ) (hasher new_hasher : Sha1) (d : DeliveryValue) (text new_text : Option (List ℕ)) → failed ≡ false → ended ≡ false → new_ended ≡ false
      → IsGiven tables source given rows new_given new_rows text new_text hasher new_hasher d
      → GivesFirst (supply_of failed ended tables source given rows text) (d ∷ []) (supply_of new_failed new_ended tables source new_given new_rows new_text)
  gives_one failed ended new_failed new_ended given rows new_given new_rows hasher new_hasher d text new_text whole unended still it = record {
    begins = λ more begin. (
      whole,
      unended,
      first_lines given rows new_given new_rows hasher new_hasher d more text new_text (λ _. Unit {0}) (λ _. Unit {0}) it (λ bs u. u) (begun new_failed new_ended new_given new_rows new_text more begin),
    );
    are_all = λ more all. (
      whole,
      to_open ended (d ∷ more ≡ []) _ unended
          (first_lines given rows new_given new_rows hasher new_hasher d more text new_text (IsEndLine (new_rows + length (all_changes more))) (IsEndLine (rows + length (all_changes (d ∷ more)))) it
          (λ bs is. subst (λ n. IsEndLine n bs) (counted d more rows new_rows it.rows_are) is) (of_open new_ended (more ≡ []) _ still all.1)),
    );
  }

  -- none was given, and the text has ended
  gives_none : (failed ended new_failed new_ended : Bool) (given rows new_given new_rows : ℕ) (hasher new_hasher : Sha1) (text new_text : Option (List ℕ)) → failed ≡ false → new_failed ≡ false → new_ended ≡ true
      → (ended ≡ false → IsFinished given rows new_given new_rows text hasher new_hasher)
      → GivesOne (supply_of failed ended tables source given rows text) (supply_of new_failed new_ended tables source new_given new_rows new_text) None
  gives_none failed ended new_failed new_ended given rows new_given new_rows hasher new_hasher text new_text whole still end it = (
    record {
      begins = λ more begin. none_begins failed ended new_failed new_ended given rows new_given new_rows text new_text end more begin;
      are_all = λ more all. (whole, none_left ended given rows new_given new_rows hasher new_hasher text more (of_ended new_ended (more ≡ []) _ end all.1) it);
    },
    (still, to_ended new_ended _ _ end refl),
  )

  -- after an error it gives nothing
  pub gives_nothing : (failed ended new_failed new_ended : Bool) (given rows new_given new_rows : ℕ) (text new_text : Option (List ℕ)) → new_failed ≡ true
      → GivesFirst (supply_of failed ended tables source given rows text) [] (supply_of new_failed new_ended tables source new_given new_rows new_text)
  gives_nothing failed ended new_failed new_ended given rows new_given new_rows text new_text has = record {
    begins = λ more begin. no_begin failed ended new_failed new_ended given rows new_given new_rows text new_text has more begin;
    are_all = λ more all. absurd (false≢true (sym all.0 ∙ has));
  }

  -- what a call gives that is no error
  pub gives_next : (failed ended new_failed new_ended : Bool) (given rows new_given new_rows : ℕ) (hasher new_hasher : Sha1) (text new_text : Option (List ℕ)) (found : Option Delivery) → failed ≡ false → new_failed ≡ false
      → IfSome found (λ d. IsGiven tables source given rows new_given new_rows text new_text hasher new_hasher (delivery_value d)) → IfSome found (λ d. (ended ≡ false) × (new_ended ≡ false))
      → IfNone found (ended ≡ false → IsFinished given rows new_given new_rows text hasher new_hasher) → IfNone found (new_ended ≡ true)
      → GivesOne (supply_of failed ended tables source given rows text) (supply_of new_failed new_ended tables source new_given new_rows new_text) found
  gives_next failed ended new_failed new_ended given rows new_given new_rows hasher new_hasher text new_text (Some d) whole still it going finished end =
      gives_one failed ended new_failed new_ended given rows new_given new_rows hasher new_hasher (delivery_value d) text new_text whole going.0 going.1 it
  gives_next failed ended new_failed new_ended given rows new_given new_rows hasher new_hasher text new_text None whole still it going finished end =
      gives_none failed ended new_failed new_ended given rows new_given new_rows hasher new_hasher text new_text whole still end finished
