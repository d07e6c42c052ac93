use Rattle.greet.proofs.Names.{◌≡◌, Some, sym, ap, ◌∙◌, take, arith, le-ltb, little_number, server_error, state_of, message_of}
use Rattle.std.proofs.Common.{drop}
use Rattle.std.proofs.lemmas.List.{take_min}
use Rattle.byteorder.specs.Numbers.{little_from-take}
use Rattle.greet.specs.Refusal.{error_of, kept_message}
use Rattle.greet.proofs.error.server_error.Goals as goal

pub returns-in-Ok-clause-fault : goal.returns-in-Ok-clause-fault
unfolding error_of
returns-in-Ok-clause-fault c =
    let code : little_number 2 c.args.bytes.now ≡ c.read_u16-code.result = sym (c.read_u16-code.ensures ∙ ap (little_number 2) c.split_at.ensures.front ∙ little_from-take 0 2 2 c.args.bytes.now (omega arith)) in
    let text : drop 2 c.args.bytes.now ≡ c.split_at.result.1.now = sym c.split_at.ensures.back in
    let state : state_of (drop 2 c.args.bytes.now) ≡ c.split_state-state.result.0 = ap state_of text ∙ sym c.split_state-state.ensures.state in
    let message : take kept_message (message_of (drop 2 c.args.bytes.now)) ≡ c.in-Ok.message.items =
    ap (λ t. take kept_message (message_of t)) text
    ∙ ap (take kept_message) (sym c.split_state-state.ensures.message)
    ∙ sym (take_min kept_message c.split_state-state.result.1.now)
    ∙ sym (c.in-Ok.ensures.items ∙ ap (λ k. take k c.split_state-state.result.1.now) c.min.ensures) in
    rw (le-ltb _ _ c.if-bytes-lt2.false) (λ i. Some (server_error (code i) (state i) (message i)))
