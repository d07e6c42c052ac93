use Rattle.columns.proofs.Names.{◌≡◌, ◌++◌, sym, ◌∙◌, subst, IsTrue, is_type, sign_text, arguments_text}
use Rattle.columns.proofs.Types.{same_head, none_some, some_is, no_letter}
use Rattle.columns.proofs.data_type.DataType.read.Goals as goal

pub returns-in_default-clause-only : goal.returns-in_default-clause-only
returns-in_default-clause-only c name numbers sign lawful e =
    let cut = same_head c.split_word.result.0.now c.split_word.result.1.now c.args.text.now name (arguments_text numbers ++ sign_text sign)
    c.split_word.ensures.whole c.split_word.ensures.letters c.split_word.ensures.end (no_letter numbers sign) e in
    none_some name (c.in_default.ensures.only name cut.0)

pub returns-in_default-clause-fault : goal.returns-in_default-clause-fault
returns-in_default-clause-fault c name rest end e =
    let cut = same_head c.split_word.result.0.now c.split_word.result.1.now c.args.text.now name rest
    c.split_word.ensures.whole c.split_word.ensures.letters c.split_word.ensures.end end e in
    none_some name (c.in_default.ensures.only name cut.0)

pub returns-in_default-read_rest-clause-only : goal.returns-in_default-read_rest-clause-only
returns-in_default-read_rest-clause-only c name numbers sign lawful e =
    let cut = same_head c.split_word.result.0.now c.split_word.result.1.now c.args.text.now name (arguments_text numbers ++ sign_text sign)
    c.split_word.ensures.whole c.split_word.ensures.letters c.split_word.ensures.end (no_letter numbers sign) e in
    let same : name ≡ c.in-Some.name = sym (some_is c.in-Some.name name (c.in-Some.ensures.only name cut.0)) in
    c.in_default-read_rest.ensures.only numbers sign (subst (λ n. IsTrue (is_type n numbers sign)) same lawful) cut.1

pub returns-clause-only : goal.returns-clause-only
returns-clause-only c name numbers sign lawful e =
    let cut = same_head c.split_word.result.0.now c.split_word.result.1.now c.args.text.now name (arguments_text numbers ++ sign_text sign)
    c.split_word.ensures.whole c.split_word.ensures.letters c.split_word.ensures.end (no_letter numbers sign) e in
    let same : name ≡ c.in-Some.name = sym (some_is c.in-Some.name name (c.in-Some.ensures.only name cut.0)) in
    let rest = c.in-Some-read_rest.ensures.only numbers sign (subst (λ n. IsTrue (is_type n numbers sign)) same lawful) cut.1 in
    (c.in-Some-read_rest.ensures.name ∙ sym same, rest.0, rest.1)
