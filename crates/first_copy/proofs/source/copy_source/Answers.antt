use Rattle.std.proofs.Common.{◌≡◌, ℕ, List, [], ◌∷◌, ◌++◌, ap, ◌∙◌, append_assoc}
use Rattle.std.specs.Prelude.{take, codes}
use Rattle.sha1.specs.Sha1.{sha1}
use Rattle.uuid.specs.Uuid.{namespace_oid}
use Rattle.uuid.specs.Parts.{with_variant, with_version}
use Rattle.uuid.specs.declared.Variant.TheVariants.{RFC4122}
use Rattle.uuid.specs.declared.Version.TheVariants.{Sha1}
use Rattle.first_copy.proofs.source.copy_source.Goals as goal

name_is : (first set digest described none one two three four : List ℕ) → none ≡ [] → one ≡ none ++ first → two ≡ one ++ set → three ≡ two ++ digest → four ≡ three ++ described → four ≡ first ++ (set ++ (digest ++ described))
name_is first set digest described none one two three four zero a b d e =
    e ∙ ap (λ (x : List ℕ). x ++ described) (d ∙ ap (λ (x : List ℕ). x ++ digest) (b ∙ ap (λ (x : List ℕ). x ++ set) (a ∙ ap (λ (x : List ℕ). x ++ first) zero)))
    ∙ append_assoc (first ++ set) digest described ∙ append_assoc first set (digest ++ described)

pub returns-clause-value : goal.returns-clause-value
returns-clause-value c =
    c.into_bytes.ensures ∙ c.new_v5.ensures.value
    ∙ ap (λ (name : List ℕ). with_version (with_variant (take 16 (sha1 (namespace_oid ++ name))) RFC4122) Sha1)
    (c.deref.ensures.value ∙ name_is (codes "mrep copy 1" ++ 10 ∷ []) c.args.executed.now c.args.digest.now c.args.described.now c.new-name.result.items c.extend_from_slice.new.self.items c.extend_from_slice-2.new.self.items c.extend_from_slice-3.new.self.items c.extend_from_slice-4.new.self.items
    c.new-name.ensures.items c.in_ok-extend_from_slice.ensures.items (c.in_ok-extend_from_slice-2.ensures.items ∙ ap (λ (x : List ℕ). c.extend_from_slice.new.self.items ++ x) c.as_bytes.ensures.value) c.in_ok-extend_from_slice-3.ensures.items c.in_ok-extend_from_slice-4.ensures.items)
