use Rattle.greet.proofs.Names.{◌≡◌, ◌-◌, ◌∷◌, length, get_or, take, sym, ap, ◌∙◌, subst, refl, arith, ne_eqb, le-leb, lt-leb, lt-ltb, IsEofPacket, first_and_rest, begun_by}
use Rattle.std.proofs.Common.{drop}
use Rattle.greet.specs.Refusal.{eof_refusal}
use Rattle.greet.proofs.Replies.{is_eof, eof_nothing}
use Rattle.greet.proofs.ErrBytes.{some_err}
use Rattle.greet.proofs.reply.read_eof.Goals as goal

pub returns-in-empty-clause-fault : goal.returns-in-empty-clause-fault
returns-in-empty-clause-fault c = eof_nothing c.args.payload.now c.in-empty.len_below

pub returns-in-255-clause-fault : goal.returns-in-255-clause-fault
unfolding eof_refusal
returns-in-255-clause-fault c =
    let first : get_or c.args.payload.now 0 0 ≡ 255 = omega arith in
    rw (begun_by 255 c.args.payload.now c.in-255.len_at_least first) c.server_error.ensures.fault

pub returns-in-254-clause-fault : goal.returns-in-254-clause-fault
unfolding eof_refusal
returns-in-254-clause-fault c =
    let first : get_or c.args.payload.now 0 0 ≡ 254 = omega arith in
    let body = take (length c.args.payload.now - 1) (drop 1 c.args.payload.now) in
    let parts : c.args.payload.now ≡ 254 ∷ body = begun_by 254 c.args.payload.now c.in-254.len_at_least first in
    ap eof_refusal parts ∙ rw (le-leb 8 (length body) (omega (arith, c.if-payload-ge-EOF_END.true, ap length parts))) refl

pub returns-in-254-2-clause-fault : goal.returns-in-254-2-clause-fault
unfolding eof_refusal
returns-in-254-2-clause-fault c =
    let first : get_or c.args.payload.now 0 0 ≡ 254 = omega arith in
    let body = take (length c.args.payload.now - 1) (drop 1 c.args.payload.now) in
    let parts : c.args.payload.now ≡ 254 ∷ body = begun_by 254 c.args.payload.now c.in-254.len_at_least first in
    ap eof_refusal parts ∙ rw (lt-leb 8 (length body) (omega (arith, c.if-payload-ge-EOF_END.false, ap length parts)), lt-ltb _ _ c.if-body-lt4.true) refl

pub returns-in-254-3-clause-ok : goal.returns-in-254-3-clause-ok
returns-in-254-3-clause-ok c =
    let first : get_or c.args.payload.now 0 0 ≡ 254 = omega arith in
    let body = take (length c.args.payload.now - 1) (drop 1 c.args.payload.now) in
    let parts : c.args.payload.now ≡ 254 ∷ body = begun_by 254 c.args.payload.now c.in-254.len_at_least first in
    subst IsEofPacket (sym parts) (is_eof body c.if-body-lt4.false (omega (arith, c.if-payload-ge-EOF_END.false, ap length parts)))

pub returns-in-len1-up-clause-fault : goal.returns-in-len1-up-clause-fault
unfolding eof_refusal
returns-in-len1-up-clause-fault c =
    let no_error : get_or c.args.payload.now 0 0 ≡ 255 → ⊥ = omega arith in
    let no_eof : get_or c.args.payload.now 0 0 ≡ 254 → ⊥ = omega arith in
    ap eof_refusal (first_and_rest c.args.payload.now c.in-len1-up.len_at_least) ∙ rw (ne_eqb _ _ no_error, ne_eqb _ _ no_eof) refl

pub returns-in-255-clause-memory : goal.returns-in-255-clause-memory
returns-in-255-clause-memory c is =
    let first : get_or c.args.payload.now 0 0 ≡ 255 = omega arith in
    some_err _ c.args.payload.now (begun_by 255 c.args.payload.now c.in-255.len_at_least first) (λ i. omega (arith, c.type_inv.payload i)) (c.server_error.ensures.memory (cc))
