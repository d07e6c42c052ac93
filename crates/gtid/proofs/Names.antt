-- The names of other modules that the proofs use, in one place.
pub use Rattle.byteorder.specs.Endian.{little_bytes, little_number}
pub use Rattle.gtid.specs.Blocks.{of_group}
pub use Rattle.gtid.specs.Encoding.{SidBlock, join_block, blocks_bytes, AreSidBlocks, IsEncoding, IsDecodeFault, interval_bytes, block_bytes, interval_fault, source_fault, last_hi, last_source, is_above, AreIntervals}
pub use Rattle.gtid.specs.Encoding.IsDecodeFault.{at_source, at_interval}
pub use Rattle.gtid.specs.Group.{Ascend, is_listed, IsNext, IsNoHigher, IsBelow, is_of, IsGap, AreBelow}
pub use Rattle.gtid.specs.Identifier.{Id, Ids, IsSource, IsGtid, id_cmp, id}
pub use Rattle.gtid.specs.Interval.{is_within, has, AreLeast}
pub use Rattle.gtid.specs.Reading.{judge, collected, span_of}
pub use Rattle.gtid.specs.Reading.Part.{Source}
pub use Rattle.gtid.specs.Scan.{is_digit, stands_at, ends, IsPlaced, IsPassed}
pub use Rattle.gtid.specs.Span.{IsLeast, IsLawfulSpan, IsBefore, IsLeastList}
pub use Rattle.gtid.specs.Spans.{spans_of}
pub use Rattle.gtid.specs.Text.{interval_text, block_text, IsNumeral, IsIntervalText, AreIntervalTexts, IsItem, IsList, first_some, list_fault, written_spans, IsRead, IsBlankByte, IsInGrammar, IsOutsideFrom}
pub use Rattle.gtid.specs.Text.IsParseFault.{outside, written}
pub use Rattle.gtid.specs.declared.fault.GtidFault.{GtidFault}
pub use Rattle.gtid.specs.declared.fault.GtidFault.TheVariants.{Memory, Text, Truncated}
pub use Rattle.gtid.specs.declared.grammar.State.{State}
pub use Rattle.gtid.specs.declared.grammar.State.TheVariants.{Start, Item, First, Lo, Second, Hi, After}
pub use Rattle.gtid.specs.declared.group.Group.{Group}
pub use Rattle.gtid.specs.declared.interval.Interval.{Interval}
pub use Rattle.gtid.specs.declared.span.Span.{Span}
pub use Rattle.std.proofs.Common.{◌≡◌, Result, Ok, Err, if◌then◌else◌, sym, ℕ, ◌⊎◌, inl, inr, Bool, true, false, ◌&&◌, ◌||◌, ◌<◌, ◌≤◌, List, [], ◌∷◌, length, slice_index_or, refl, ap, ◌∙◌, arith, ◌+◌, ◌-◌, ◌*◌, ◌/◌, ◌%◌, ◌^◌, ◌==◌, nat_lt, None, ◌++◌, map, flat_map, fold, codes, subst, append-nil, ◌≢◌, Some, append_assoc, not, Option, get_or, take, set, add-one, nat_eq, ltb, zero, suc, slice_index, IfOk, nat_le, IfSome, rules}
pub use Rattle.std.proofs.Math.Bool.{or-false}
pub use Rattle.std.proofs.Math.Seq.{drop-cons}
pub use Rattle.std.proofs.lemmas.Bool.{true≢false, false≢true, and_right, leb-false, cases_order, or_cases, and_parts, cases_lt}
pub use Rattle.std.proofs.lemmas.Bool.Decides.{nat_tests}
pub use Rattle.std.proofs.lemmas.Grind.{common_steps}
pub use Rattle.std.proofs.lemmas.List.{get_or-map, length-map, length-append, take-append-drop, take_all, get_or_default, take_rest}
pub use Rattle.std.proofs.lemmas.List.Elements.{All-from_recursion}
pub use Rattle.std.proofs.lemmas.List.Folds.{list_any-append}
pub use Rattle.std.proofs.lemmas.Result.{err_from_is_err_and, on_err_weaker}
pub use Rattle.std.proofs.lemmas.Slice.Eq.{bytes_eq-Decides}
pub use Rattle.std.specs.Bool.{IsTrue}
pub use Rattle.std.specs.Char.{to_ascii_lowercase, IsAsciiDigit}
pub use Rattle.std.specs.Cmp.Lexicographic.{slice_cmp, nat_list_cmp_total}
pub use Rattle.std.specs.List.{list_any, join_by, AllByRecursion, AllWithin, last_or}
pub use Rattle.std.specs.Ordering.{nat_cmp, is_lt, ordering_then, eq_by_cmp, ordering_reverse}
pub use Rattle.std.specs.Prelude.{vec_capacity}
pub use Rattle.std.specs.Str.{bytes_eq, str_to_ascii_lowercase}
pub use Rattle.std.specs.String.{string_bytes, string_capacity}
pub use Rattle.std.specs.declared.cmp.Ordering.{Ordering}
pub use Rattle.std.specs.declared.cmp.Ordering.TheVariants.{Less, Equal, Greater}
pub use Rattle.uuid.proofs.TextLemmas.{by_index_at, by_index_length, nibble_small}
pub use Rattle.uuid.specs.Text.{hyphenated_text, lower, hex_digit, nibble, digit_place, is_hyphen_place}
