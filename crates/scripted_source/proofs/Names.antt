-- The names of other modules that the proofs use, in one place.
pub use Rattle.binlog.specs.Writing.{IsWritable}
pub use Rattle.greet.specs.Message.{DumpValue}
pub use Rattle.gtid.specs.Encoding.{IsEncoding}
pub use Rattle.scripted_source.specs.Script.{part_value, part_values, script_values}
pub use Rattle.scripted_source.specs.Source.{Asks, TakesPayload}
pub use Rattle.scripted_source.specs.declared.fault.ForgeFault.TheVariants.{Memory}
pub use Rattle.std.proofs.Common.{◌≡◌, ℕ, true, false, List, [], ◌∷◌, ◌++◌, length, refl, sym, ap, subst, ◌∙◌, inl, arith}
pub use Rattle.std.proofs.lemmas.Bool.{false≢true}
pub use Rattle.std.proofs.lemmas.Result.{IfOk-from_err, err_from_is_err_and}
