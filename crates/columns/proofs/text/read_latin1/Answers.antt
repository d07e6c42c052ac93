use Rattle.columns.proofs.Names.{sym, ◌∙◌, arith, take, get_or, [], ◌∷◌, latin1_character}
use Rattle.std.specs.Char.{encode_utf8}
use Rattle.std.proofs.lemmas.List.{take_more, append-nil}
use Rattle.columns.proofs.Characters.{ascii_latin1, written-append}
use Rattle.columns.proofs.Characters.{not_ascii}
use Rattle.columns.proofs.Types.{never}
use Rattle.columns.proofs.Refusals.{refused}
use Rattle.columns.proofs.text.read_latin1.Goals as goal

pub returns-in-Some-clause-ok : goal.returns-in-Some-clause-ok
returns-in-Some-clause-ok c =
    let found = c.in-Some.ensures.found in
    found.0 ∙ ascii_latin1 c.args.bytes.now (sym c.is_ascii.ensures ∙ found.2)

pub loop-byte-preserved : goal.loop-byte-preserved
loop-byte-preserved c =
    let more = take_more c.args.bytes.now c.loop-byte.byte-index 0 (omega (arith, c.loop-byte-test.true)) in
    let grown = written-append (λ byte. encode_utf8 (latin1_character byte)) (take c.loop-byte.byte-index c.args.bytes.now) (get_or c.args.bytes.now c.loop-byte.byte-index 0 ∷ []) in
    grind (arith, c.loop-byte.invariant, c.in_ok-push.ensures.bytes, c.character_of.ensures, more, grown, append-nil)

pub returns-in_err-text-clause-full : goal.returns-in_err-text-clause-full
returns-in_err-text-clause-full c = refused c.from_residual.result (not_ascii c.args.bytes.now (λ utf8 all. never (c.in_default.ensures.only utf8 (c.is_ascii.ensures ∙ all))))

pub returns-in_err-push-clause-full : goal.returns-in_err-push-clause-full
returns-in_err-push-clause-full c = refused c.from_residual-in_err-push.result (not_ascii c.args.bytes.now (λ utf8 all. never (c.in_default.ensures.only utf8 (c.is_ascii.ensures ∙ all))))
