-- The names of other modules that the proofs use, in one place.
pub use Rattle.binlog.specs.Cell.CellValue.{bytes_cell}
pub use Rattle.byteorder.specs.Endian.{big_bytes}
pub use Rattle.columns.specs.Calendar.{year_length, month_length, year_of, month_of}
pub use Rattle.columns.specs.CharacterSets.{latin1_character}
pub use Rattle.columns.specs.DataType.{is_type}
pub use Rattle.columns.specs.Decimals.{are_digits, digits_text, sign_part, digits_number, group_size, groups_size, group_digits, are_zeros, decimal_bytes}
pub use Rattle.columns.specs.Descriptions.{DescribedTableValue, described_tables, table_names, table_front, description_text, IsTable, AreTables, BeginsNot, lines_text, column_values, column_names, AreDescribedColumns}
pub use Rattle.columns.specs.Escapes.{hex_text, AreBytes}
pub use Rattle.columns.specs.FieldCells.{IsReal}
pub use Rattle.columns.specs.FieldForms.{IsClockRange, IsMomentForm}
pub use Rattle.columns.specs.FieldWrites.{WritesField}
pub use Rattle.columns.specs.Fields.{IsDigitsOf}
pub use Rattle.columns.specs.Lines.{is_inner, set_text, ColumnValue, column_text, IsDescribedColumn}
pub use Rattle.columns.specs.Members.{members_text, members_front, member_bytes}
pub use Rattle.columns.specs.Seen.{HasSeen}
pub use Rattle.columns.specs.StampRange.{is_stamp}
pub use Rattle.columns.specs.Text.{zero_padded}
pub use Rattle.columns.specs.TimeRange.{is_time}
pub use Rattle.columns.specs.Times.{clock_text, fraction_text, clock_number, even_digits, fraction_size, is_fraction}
pub use Rattle.columns.specs.TypeText.{arguments_text, sign_text, first_number}
pub use Rattle.columns.specs.Word.{Are, Ends}
pub use Rattle.columns.specs.declared.arguments.Arguments.{Arguments}
pub use Rattle.columns.specs.declared.escape.Layer.TheVariants.{Client, Quoted}
pub use Rattle.columns.specs.declared.member.Member.{Member}
pub use Rattle.columns.specs.declared.sign.Sign.{Sign}
pub use Rattle.std.proofs.Common.{◌≡◌, ℕ, ◌+◌, ◌-◌, ◌<◌, Bool, List, [], ◌∷◌, ◌++◌, length, take, refl, sym, ap, ◌∙◌, arith, length-append, subst, zero, suc, ◌*◌, ◌/◌, ◌%◌, ◌^◌, ◌≤◌, T, ◌&&◌, ◌⊎◌, inl, inr, replicate, true, false, not, if◌then◌else◌, append_assoc, Bor, ◌||◌, ◌==◌, nat_lt, get_or, append-nil, set, sum, take_all, Option, Some, None, map, ◌≢◌, nat_le, rules, to_bits, string_bytes, vec_len}
pub use Rattle.std.proofs.Math.Nat.{pow-le-pow_right, one-le-pow}
pub use Rattle.std.proofs.Math.Seq.{take-append_seam}
pub use Rattle.std.proofs.Output.{has_written_of_eq}
pub use Rattle.std.proofs.lemmas.Bool.{cases_lt, ne_eqb, lt-ltb, eqb-true}
pub use Rattle.std.proofs.lemmas.Fmt.{decimal_digit, length-decimal-le}
pub use Rattle.std.proofs.lemmas.Grind.{flat_map-append}
pub use Rattle.std.proofs.lemmas.List.{length-replicate, map-append, length-take-le, length-drop, take-append-drop, length-map}
pub use Rattle.std.proofs.lemmas.List.Sums.{sum_by-cons}
pub use Rattle.std.proofs.lemmas.Nat.{div-mul-add}
pub use Rattle.std.specs.Cmp.Lexicographic.{other_text}
pub use Rattle.std.specs.Float.{binary32, binary64}
pub use Rattle.std.specs.Float.Ieee.{Float}
pub use Rattle.std.specs.Fmt.{HasWritten, IsPlainFormatter}
pub use Rattle.std.specs.List.{list_any, AllByRecursion, flat_map}
pub use Rattle.std.specs.Prelude.{IsTrue, codes, Result, Ok, Err, IfErr, MatchResult, IfOk}
pub use Rattle.std.specs.Str.{bytes_eq, IsUtf8}
pub use Rattle.std.specs.Str.Parse.{AllDigits, IsNumeral}
pub use lib.Ieee.Bits.{of_bits-to_bits, to_bits-lt}
