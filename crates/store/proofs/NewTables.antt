-- From the tables of a new database to what it stands for.
use Rattle.store.proofs.Names.{◌≡◌, ◌+◌, ◌<◌, ℕ, Bool, true, false, cond, List, [], ◌∷◌, ◌++◌, take, length, codes, pos, Ok, Err, Result, OnOk, refl, sym, ap, subst, ◌∙◌, IsPermutation-refl, State, id_cmp, Names, name_list, name_cmp_total, name_cmp-same, IsLeastList, AreSpans, HasRowids, bag_of, count, has_image, IsNaming, HasMade}
use Rattle.std.proofs.Common.{Vec, get_or, add-one}
use Rattle.std.proofs.Math.Seq.{take-suc}
use Rattle.std.proofs.Math.ListN.{get_or-map}
use Rattle.std.proofs.lemmas.List.{length-map}
use Rattle.std.specs.List.{IsDistinct}
use Rattle.std.specs.FinSet as set
use Rattle.binlog.specs.Filter.{Name, name_cmp}
use Rattle.store.specs.Open.{nothing}
use Rattle.store.proofs.RowLemmas.{same_function}

-- ---- the names so far

abbrev name_of : {A : Type 0} → Vec ℕ A × Vec ℕ A → Name
name_of p = (p.0.items, p.1.items)

module _ {A : Type 0} (names : List (Vec ℕ A × Vec ℕ A)) (at : ℕ) (name : Vec ℕ A × Vec ℕ A) (low : at < length names) (is : name ≡ get_or names at name) where
  value_is : name_of name ≡ get_or (name_list names) at (name_of name)
  value_is = ap name_of is ∙ sym (get_or-map name_of names at name)

  within : at < length (name_list names)
  within = rw (length-map names name_of) low

  one_more : take (at + 1) (name_list names) ≡ take at (name_list names) ++ name_of name ∷ []
  one_more = rw add-one (take-suc (name_list names) at (name_of name) within ∙ ap (λ v. take at (name_list names) ++ v ∷ []) (sym value_is))

  pub one_name : set.from_list {R = name_cmp} (take (at + 1) (name_list names)) ≡ set.insert (set.from_list (take at (name_list names))) (name_of name)
  one_name = ap (λ l. set.from_list {R = name_cmp} l) one_more ∙ set.from_list_push name_cmp_total name_cmp-same (take at (name_list names)) (name_of name)

-- ---- a database with no rows

pub no_rows : nothing.rows ≡ bag_of (count [])
no_rows = same_function nothing.rows (bag_of (count [])) (λ r. go (has_image r.cells))
  where
    go : (b : Bool) → ◌≡◌ {A = ℕ} 0 (cond b 0 0)
    go true = refl
    go false = refl

none_least : IsLeastList [] set.empty
none_least = record { least = tt; covers = λ q. set.contains-empty id_cmp q }

pub no_spans : AreSpans [] set.empty
no_spans = record {
  spans = [];
  least = none_least;
  lawful = λ q there. absurd (let out = set.contains-empty id_cmp q in cc);
  rows_are = IsPermutation-refl [];
}

pub no_rowids : HasRowids []
unfolding IsDistinct
no_rowids = record { apart = tt; keyed = tt }

module _ (s : State) (names : Names) (was : IsNaming names s) where
  pub has_made : HasMade s names nothing
  has_made = record {
    working = record {
      is_open = was.is_open;
      inside = was.inside;
      laid_out = was.laid_out;
      held_apart = rw (was.held) no_rowids;
      spans_apart = rw (was.spans) no_rowids;
      lawful = rw (was.held) tt;
      sound = was.sound;
      beside = was.beside;
    };
    stands = record {
      laid_out = was.laid_out;
      says = rw (was.meta) refl;
      meta = rw (was.meta) ((pos 1, codes "layout", pos 2, refl), tt);
      follow = was.follow;
      held = rw (was.held) tt;
      executed = rw (was.spans) no_spans;
      rows = rw (was.held) no_rows;
    };
  }

pub made_of : {E : Type 0} (s : State) (a b : Names) (r : Result (Unit {0}) E) → a ≡ b → OnOk r (IsNaming a s) → OnOk r (HasMade s b nothing)
made_of s a b (Ok u) same was = has_made s b (subst (λ n. IsNaming n s) same was)
made_of s a b (Err e) same was = tt
