use Rattle.columns.proofs.Names.{◌≡◌, ℕ, ◌⊎◌, inl, inr, List, refl, sym, ap, ◌∙◌, arith, Result, Ok, Err, IfOk, IfErr, MatchResult}
use Rattle.std.specs.Result.{result_unwrap_or}
use Rattle.hex.specs.Hex.{IsBytes, decode_of, encode_upper, encode_lower}
use Rattle.hex.proofs.HexLemmas.{decode_of-encode_upper, decode_of-encode_lower}
use Rattle.columns.specs.Fields.{IsHexFault}
use Rattle.columns.specs.declared.value.field_fault.FieldFault.{FieldFault}
use Rattle.columns.specs.declared.value.field_fault.FieldFault.TheVariants.{Text, Range, Memory}
use Rattle.columns.proofs.field_laws.hex_text_reads_back.Goals as goal

decoded : (bytes text : List ℕ) → IsBytes bytes → (text ≡ encode_upper bytes) ⊎ (text ≡ encode_lower bytes) → decode_of text ≡ Ok bytes
decoded bytes text fits (inl upper) = ap decode_of upper ∙ decode_of-encode_upper bytes fits
decoded bytes text fits (inr lower) = ap decode_of lower ∙ decode_of-encode_lower bytes fits

only_memory : (bytes text : List ℕ) (fault : FieldFault) → decode_of text ≡ Ok bytes → IsHexFault text fault → fault ≡ Memory
only_memory bytes text Text e h = absurd (grind (arith, rw e at h))
only_memory bytes text Range e h = absurd h
only_memory bytes text Memory e h = refl

by_result : {T E : Type 0} (result : Result T E) (A P : T → Type 0) (B Q : E → Type 0) → IfOk result A → IfErr result B → ((x : T) → A x → P x) → ((e : E) → B e → Q e) → MatchResult result P Q
by_result (Ok x) A P B Q a b p q = p x a
by_result (Err e) A P B Q a b p q = q e b

pub returns : goal.returns
returns c =
    let bytes = c.args.bytes.now in
    let text = c.args.field.now in
    let fits : IsBytes bytes = λ i. let f = c.type_inv.bytes i in omega arith in
    let is = decoded bytes text fits c.requires in
    by_result c.read_hex_field.result _ _ _ _ c.read_hex_field.ensures.found c.read_hex_field.ensures.fault
    (λ read found. ap (λ (r : Result (List ℕ) _). result_unwrap_or r bytes) (sym found ∙ is))
    (λ fault wrong. only_memory bytes text fault is wrong)
