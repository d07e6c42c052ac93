use Rattle.gather.proofs.Names.{arith, ◌++◌, ◌∷◌, [], take, ap, ◌∙◌, append_assoc, err_from_is_err_and, little_bytes}
use Rattle.std.proofs.lemmas.List.{length-take}
use Rattle.gather.proofs.ImageParts.{number_size}
use Rattle.byteorder.proofs.Bytes.{take-bytes_low_first}
use Rattle.gather.proofs.image_writing.write_number.Goals as goal

pub returns-in_ok-extend_from_slice-in_default-2-clause-ok :
    goal.returns-in_ok-extend_from_slice-in_default-2-clause-ok
returns-in_ok-extend_from_slice-in_default-2-clause-ok c =
    let old = c.args.out.now.items in
    let n = c.args.value in
    let width = c.args.width in
    c.in_ok-extend_from_slice-in_default-2.ensures.items
    ∙ ap (λ xs. c.extend_from_slice-in_default.new.self.items ++ take width xs) c.to_le_bytes-bytes.ensures
    ∙ ap (λ xs. xs ++ take width (little_bytes 8 n)) c.in_ok-extend_from_slice-in_default.ensures.items
    ∙ ap (λ xs. (old ++ 1 ∷ width ∷ []) ++ xs) (take-bytes_low_first 0 8 width n c.requires.1)
    ∙ append_assoc old (1 ∷ width ∷ []) (little_bytes width n)

pub returns-in_err-extend_from_slice-in_default-2-clause-full :
    goal.returns-in_err-extend_from_slice-in_default-2-clause-full
returns-in_err-extend_from_slice-in_default-2-clause-full c =
    let r = c.from_residual-in_err-extend_from_slice-in_default-2 in
    let e = c.in_err-extend_from_slice-in_default-2.ensures in
    let before = c.in_ok-extend_from_slice-in_default.ensures in
    rw (err_from_is_err_and r.result r.ensures.1).1 (omega (arith, e.full, before.len, before.capacity, number_size c.args.value c.args.width, length-take c.args.width c.to_le_bytes-bytes.result))
