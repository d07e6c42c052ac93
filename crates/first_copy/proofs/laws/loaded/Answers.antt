use Rattle.first_copy.proofs.Names.{sym, ap, subst, ◌∙◌}
use Rattle.first_copy.specs.Supplied.{all_changes}
use Rattle.first_copy.proofs.TextRows.{Admitted, admits_all, changes_of, loaded_all}
use Rattle.first_copy.proofs.laws.loaded.Goals as goal

pub returns : goal.returns
returns c names copied tables source text old new ids ds n all few admitted none applies =
    loaded_all names tables source text old new ids ds all.0 n all.1.0.1 all.2 few
    (subst (Admitted names) (sym (ap all_changes all.2 ∙ changes_of all.0 source)) (admits_all names copied (all_changes all.0) admitted all.1.1)) none applies
