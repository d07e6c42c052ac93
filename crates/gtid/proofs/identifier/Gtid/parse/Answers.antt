use Rattle.std.proofs.Common.{Some, None, true≢false, sym, ◌∙◌, lit<}
use Rattle.std.proofs.lemmas.Str.Pattern.{starts_char, split_parts}
use Rattle.gtid.proofs.OneGtid.{parts_of, no_sign, source_given, number_given, source_kept, number_kept, gtid_found, gtid_given}
use Rattle.gtid.proofs.identifier.Gtid.parse.Goals as goal

pub returns-in_err-source-clause-only : goal.returns-in_err-source-clause-only
returns-in_err-source-clause-only c q t =
    absurd (rw c.in_err-source.was at (parts_of c.args.text.now c.split_once.result q c.split_once.ensures.cases t))

pub returns-then-starts_with-clause-only : goal.returns-then-starts_with-clause-only
returns-then-starts_with-clause-only c q t =
    let parts = rw c.in_ok-source.was at (parts_of c.args.text.now c.split_once.result q c.split_once.ensures.cases t) in
    no_sign _ _ q parts ((starts_char 43 c.in_ok-source.number.now c.starts_with.result c.starts_with.ensures.cases (lit< tt) (lit< tt)).0 c.if-starts_with.true)

pub returns-in_err-source-2-clause-only : goal.returns-in_err-source-2-clause-only
returns-in_err-source-2-clause-only c q t =
    let parts = rw c.in_ok-source.was at (parts_of c.args.text.now c.split_once.result q c.split_once.ensures.cases t) in
    let given = source_given c.parse.result None c.in_ok-source.source.now c.in_ok-source.number.now q c.parse.ensures.value c.in_err-source-2.ensures.value parts in
    cc

pub returns-in_err-number-clause-only : goal.returns-in_err-number-clause-only
returns-in_err-number-clause-only c q t =
    let parts = rw c.in_ok-source.was at (parts_of c.args.text.now c.split_once.result q c.split_once.ensures.cases t) in
    let given = number_given c.parse-2.result None c.in_ok-source.source.now c.in_ok-source.number.now q c.parse-2.ensures.value.0 c.in_err-number.ensures.value parts in
    cc

pub returns-clause-found : goal.returns-clause-found
returns-clause-found c =
    let halves = rw c.in_ok-source.was at (split_parts 58 c.args.text.now c.split_once.result c.split_once.ensures.cases (lit< tt)) in
    let plus = starts_char 43 c.in_ok-source.number.now c.starts_with.result c.starts_with.ensures.cases (lit< tt) (lit< tt) in
    gtid_found c.args.text.now c.in_ok-source.source.now c.in_ok-source.number.now _ c.in_ok-number.number c.new.result halves.0
    (source_kept c.parse.result c.in_ok-source.source.now _ c.parse.ensures.value c.in_ok-source-2.ensures.value)
    (number_kept c.parse-2.result c.in_ok-source.number.now _ c.parse-2.ensures.value.0 (λ e. true≢false (sym (plus.1 e) ∙ c.if-starts_with.false)) c.in_ok-number.ensures.value)
    (rw (c.into_bytes.ensures ∙ c.into_uuid.ensures) at c.new.ensures.parts)

pub returns-clause-only : goal.returns-clause-only
returns-clause-only c q t =
    let parts = rw c.in_ok-source.was at (parts_of c.args.text.now c.split_once.result q c.split_once.ensures.cases t) in
    gtid_given c.in_ok-source-2.source c.in_ok-number.number c.new.result q
    (source_given c.parse.result (Some c.in_ok-source-2.source) c.in_ok-source.source.now c.in_ok-source.number.now q c.parse.ensures.value c.in_ok-source-2.ensures.value parts)
    (number_given c.parse-2.result (Some c.in_ok-number.number) c.in_ok-source.source.now c.in_ok-source.number.now q c.parse-2.ensures.value.0 c.in_ok-number.ensures.value parts)
    t.lawful c.new.ensures.in_range.1 (rw (c.into_bytes.ensures ∙ c.into_uuid.ensures) at c.new.ensures.parts)
