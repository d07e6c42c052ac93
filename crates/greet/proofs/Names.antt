-- The names of other modules that the proofs use, in one place.
pub use Rattle.byteorder.specs.Endian.{little_number, little_bytes}
pub use Rattle.byteorder.specs.Numbers.{little_from-lt}
pub use Rattle.greet.specs.Complete.{HasGreeting}
pub use Rattle.greet.specs.Message.{IsText, needed, plugin_name, response_lead, IsGreeting, IsSwitch, IsOkPacket, IsEofPacket, IsDump, GreetingValue}
pub use Rattle.greet.specs.Refusal.{Refusal, truncated, protocol, plugin, before_zero, after_zero, dump_name_size, dump_set_size, server_error, state_of, message_of, first_difference}
pub use Rattle.greet.specs.declared.fault.GreetFault.{GreetFault}
pub use Rattle.std.proofs.Common.{◌≡◌, ℕ, ◌+◌, ◌*◌, ◌-◌, ◌<◌, ◌≤◌, ◌^◌, ◌==◌, max, Bool, true, false, cond, List, [], ◌∷◌, ◌++◌, length, get_or, take, Option, Some, None, bit_and, refl, sym, ap, subst, ◌∙◌, arith, inl, inr, append_assoc, Result, Ok, Err, suc, flat_map, ◌≢◌}
pub use Rattle.std.proofs.lemmas.Bool.{not-false, eqb-true, ne_eqb, le-ltb, lt-ltb, le-leb, lt-leb}
pub use Rattle.std.proofs.lemmas.List.{drop-drop, nil_from_length, length-append, length-drop, length-take, take-append-drop, take_at, take_rest}
pub use Rattle.std.proofs.lemmas.Result.{err_from_is_err_and}
pub use Rattle.std.specs.Prelude.{nat_le, ◌⊎◌, IfOk, IfErr, OnOk}
pub use Rattle.std.specs.Str.{bytes_eq}
pub use Rattle.wire.proofs.Cuts.{IsBytes, IsBytes-rest, IsBytes-after, IsBytes-drop, IsBytes-all, first_and_rest, begun_by}
