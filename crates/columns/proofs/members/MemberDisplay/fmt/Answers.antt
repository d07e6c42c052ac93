use Rattle.columns.proofs.Names.{subst, ◌∷◌, ◌++◌, [], ◌∙◌, sym, IsUtf8, has_written_of_eq, hex_text, Quoted}
use Rattle.std.proofs.lemmas.Str.{is_utf8-from_IsUtf8}
use Rattle.columns.specs.Escapes.{escaped}
use Rattle.columns.proofs.MemberLists.{no_utf8}
use Rattle.columns.proofs.members.MemberDisplay.fmt.Goals as goal

pub returns-in-Ok-clause-writes : goal.returns-in-Ok-clause-writes
returns-in-Ok-clause-writes g c plain ok =
    rw (is_utf8-from_IsUtf8 c.args.self.now.text.items (subst IsUtf8 c.deref.ensures.value c.in-Ok.ensures.cases.1))
    (has_written_of_eq _ _ _ _ _ (λ i. 39 ∷ (escaped Quoted ((c.in-Ok.ensures.cases.0 ∙ c.deref.ensures.value) i) ++ 39 ∷ [])) (c.write.ensures.writes plain ok))

pub returns-in-Err-clause-writes : goal.returns-in-Err-clause-writes
returns-in-Err-clause-writes g c plain ok =
    rw (no_utf8 c.args.self.now.text.items (λ text. c.in-Err.ensures.cases.0 (subst IsUtf8 (sym c.deref.ensures.value) text)))
    (has_written_of_eq _ _ _ _ _ (λ i. 120 ∷ (39 ∷ (hex_text (c.deref-in-Err.ensures.value i) ++ 39 ∷ []))) (c.write-in-Err.ensures.writes plain ok))
