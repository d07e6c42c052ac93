use Rattle.binlog.proofs.Names.{◌≡◌, ◌∙◌, sym, ap, Some, refl, arith, ne_eqb, take_rest, none-some, little_number, number_at, length_refusals, read_lengths}
use Rattle.binlog.proofs.Formats.{first_front, first_after, format_then, are_lengths, none_wrong, is_format, format_reported}
use Rattle.binlog.proofs.body.format.read_format.Goals as goal

pub returns-then-bytes-clause-only : goal.returns-then-bytes-clause-only
returns-then-bytes-clause-only c is = absurd (c.if-bytes.true (format_reported c.args.bytes.now is).header)

pub returns-then-bytes-lt116-clause-only : goal.returns-then-bytes-lt116-clause-only
returns-then-bytes-lt116-clause-only c is = let t = format_reported c.args.bytes.now is in absurd (omega (arith, t.long, c.if-bytes-lt116.true))

pub returns-in-Some-clause-only : goal.returns-in-Some-clause-only
returns-in-Some-clause-only c is = absurd (none-some _ (sym (none_wrong c.args.bytes.now (format_reported c.args.bytes.now is).are) ∙ c.in-Some.ensures.some))

pub returns-in-Some-clause-fault : goal.returns-in-Some-clause-fault
returns-in-Some-clause-fault c =
    let version : number_at 2 c.args.bytes.now 19 ≡ 4 = sym (c.read_u16.ensures ∙ ap (little_number 2) (take_rest c.args.bytes.now 19)) ∙ c.if-read_u16-ne4.false in
    format_then c.args.bytes.now c.if-bytes-lt116.false version c.if-bytes.false ∙ first_front (length_refusals c.args.bytes.now read_lengths) _ _ c.in-Some.ensures.some
    ∙ ap Some (sym c.new-in-Some.ensures)

pub returns-then-algorithm-ne0-clause-only : goal.returns-then-algorithm-ne0-clause-only
returns-then-algorithm-ne0-clause-only c is = absurd (c.if-algorithm-ne0.true (format_reported c.args.bytes.now is).algorithm)

pub returns-then-algorithm-ne0-clause-fault : goal.returns-then-algorithm-ne0-clause-fault
returns-then-algorithm-ne0-clause-fault c =
    let version : number_at 2 c.args.bytes.now 19 ≡ 4 = sym (c.read_u16.ensures ∙ ap (little_number 2) (take_rest c.args.bytes.now 19)) ∙ c.if-read_u16-ne4.false in
    format_then c.args.bytes.now c.if-bytes-lt116.false version c.if-bytes.false
    ∙ first_after (length_refusals c.args.bytes.now read_lengths) _ c.in_default-wrong_length.ensures.none
    ∙ rw (c.new-then-algorithm-ne0.ensures, ne_eqb _ _ c.if-algorithm-ne0.true) refl

pub returns-clause-found : goal.returns-clause-found
returns-clause-found c =
    let version : number_at 2 c.args.bytes.now 19 ≡ 4 = sym (c.read_u16.ensures ∙ ap (little_number 2) (take_rest c.args.bytes.now 19)) ∙ c.if-read_u16-ne4.false in
    is_format c.args.bytes.now (λ i. omega (arith, c.type_inv.bytes i)) c.if-bytes-lt116.false version c.if-bytes.false (are_lengths c.args.bytes.now c.in_default-wrong_length.ensures.none) c.if-algorithm-ne0.false
