-- The names of other modules that the proofs use, in one place.
pub use Rattle.binlog.proofs.TableSets.{name_cmp_total, name_cmp-same}
pub use Rattle.binlog.specs.Cell.{CellValue}
pub use Rattle.binlog.specs.Filter.{Names}
pub use Rattle.binlog.specs.FilterView.{name_list}
pub use Rattle.gather.specs.Image.{IsSomeImage, IsImage, HasImage, image}
pub use Rattle.gather.specs.Transaction.{DeliveryValue}
pub use Rattle.gather.specs.View.{delivery_value}
pub use Rattle.gtid.proofs.Sets.{id_cmp_total, id_cmp-same}
pub use Rattle.gtid.specs.Identifier.{Ids, AreGtids, Id, IsSource, IsGtid, id_cmp}
pub use Rattle.gtid.specs.Span.{IsLeastList, IsLeast, IsLawfulSpan}
pub use Rattle.gtid.specs.declared.beside.Beside.{Beside}
pub use Rattle.gtid.specs.declared.span.Span.{Span}
pub use Rattle.sqlite.proofs.Callers.{one_permutation, command_of, runs_as, unchanged_then, survives_begin, IsPlain}
pub use Rattle.sqlite.proofs.StateLemmas.{survives_then, survives_weaker}
pub use Rattle.sqlite.specs.Does.{lacks_sequence, Tally}
pub use Rattle.sqlite.specs.Effect.{Database, IsDatabase, SparesFrozen}
pub use Rattle.sqlite.specs.Given.{Advances}
pub use Rattle.sqlite.specs.Held.{Held}
pub use Rattle.sqlite.specs.State.{State, KeepsCommit, Survives, ExecutesInside, IsUnchanged, HasCleanDisk, Executes, IsRolledBack, IsLive}
pub use Rattle.sqlite.specs.Steps.{FailsToCommit}
pub use Rattle.sqlite.specs.declared.error.Error.{Error}
pub use Rattle.sqlite_ast.specs.declared.Core.{Core}
pub use Rattle.sqlite_ast.specs.declared.Expr.{Expr}
pub use Rattle.sqlite_catalog.proofs.StepLemmas.{table_below}
pub use Rattle.sqlite_catalog.specs.Change.{without_table, next_tree, past_views, KeepsRows, created}
pub use Rattle.sqlite_catalog.specs.Listing.{IsSound, IsIndexRow}
pub use Rattle.sqlite_resolve.specs.Compile.{with_command}
pub use Rattle.sqlite_resolve.specs.Expr.{lower}
pub use Rattle.sqlite_resolve.specs.Lowering.{nothing, max_budget}
pub use Rattle.sqlite_resolve.specs.Scope.{Name, Context}
pub use Rattle.sqlite_resolve.specs.declared.compiled.Compiled.{Compiled}
pub use Rattle.sqlite_resolve.specs.declared.scope.Output.{Output}
pub use Rattle.sqlite_resolve.specs.declared.state.Carried.{Carried}
pub use Rattle.sqlite_rules.proofs.ListLemmas.{all_has, some_from, has_filtered, has_kept}
pub use Rattle.sqlite_rules.proofs.TableLemmas.{int_is}
pub use Rattle.sqlite_rules.specs.Edit.{Edit, edit_of, are_fresh, is_taken, put_all, without_all, next_rowid}
pub use Rattle.sqlite_rules.specs.declared.error.Rowids.TheVariants.{Chosen, Given}
pub use Rattle.sqlite_schema.specs.Names.{table_named}
pub use Rattle.sqlite_schema.specs.Rules.{parent_key, clashes}
pub use Rattle.sqlite_schema.specs.declared.command.Command.{Command}
pub use Rattle.sqlite_schema.specs.declared.command.Command.TheVariants.{Select, Insert, Update}
pub use Rattle.sqlite_schema.specs.declared.command.Source.TheVariants.{Values}
pub use Rattle.sqlite_schema.specs.declared.schema.Column.{Column}
pub use Rattle.sqlite_schema.specs.declared.schema.Index.{Index}
pub use Rattle.sqlite_schema.specs.declared.schema.Keys.TheVariants.{Enforced}
pub use Rattle.sqlite_schema.specs.declared.schema.Reference.{Reference}
pub use Rattle.sqlite_schema.specs.declared.schema.Schema.{Schema}
pub use Rattle.sqlite_schema.specs.declared.schema.Table.{Table}
pub use Rattle.sqlite_sql.specs.Program.{overlay}
pub use Rattle.sqlite_sql.specs.Term.{Term, col, lit, op2, eval_all}
pub use Rattle.sqlite_sql.specs.declared.ops.BinaryOp.TheVariants.{Compare}
pub use Rattle.sqlite_sql.specs.declared.ops.CompareOp.TheVariants.{Eq}
pub use Rattle.sqlite_syntax.specs.declared.statement.Parsed.{Parsed}
pub use Rattle.sqlite_trees.proofs.ListLemmas.{all-permutation, IsPermutation-filter}
pub use Rattle.sqlite_trees.proofs.TreeLemmas.{all-put_row}
pub use Rattle.sqlite_trees.specs.Tree.{Trees, rowid, put_row, without_rowid, has_rowid}
pub use Rattle.sqlite_trees.specs.View.{is_int}
pub use Rattle.sqlite_trees.specs.declared.store.Store.{Ghosts}
pub use Rattle.sqlite_value.proofs.OrderLemmas.{value_cmp_total}
pub use Rattle.sqlite_value.specs.Keys.{plain}
pub use Rattle.sqlite_value.specs.Order.{Row}
pub use Rattle.sqlite_value.specs.declared.keys.Collation.TheVariants.{Binary}
pub use Rattle.sqlite_value.specs.declared.value.Value.{Value}
pub use Rattle.sqlite_value.specs.declared.value.Value.TheVariants.{Int, Blob, Null, Real, Text}
pub use Rattle.std.proofs.Common.{◌≡◌, pos, true, Ok, Err, Result, OnOk, IfErr, sym, ap, subst, subst₂, ◌∙◌, ◌<◌, ◌≤◌, ◌-◌, ◌^◌, inl, inr, ◌≢◌, ℕ, zero, suc, ℤ, ◌||◌, List, [], ◌∷◌, length, map, flat_map, IsTrue, refl, ap₂, arith, ◌+◌, ◌==◌, ◌&&◌, not, Bool, false, is_some, Option, Some, None, filter, slice_get, codes, ◌⊎◌, MatchBool, ◌++◌, append-nil, Bor, IfOk, nat_lt, take, unwrap_or, cond, bytes_eq, is_none, append_assoc, nat_le, OnErr, rules, w64}
pub use Rattle.std.proofs.Math.Bool.{and-true}
pub use Rattle.std.proofs.lemmas.Bool.{false≢true, cases_Bool, le-leb, lt-ltb, true≢false, ne_eqb, eq-eqb, and_parts, and_from, not-true, false_from_ne_true, or_parts, ltb-true, leb-true, not-false}
pub use Rattle.std.proofs.lemmas.Bool.Decides.{nat_tests}
pub use Rattle.std.proofs.lemmas.Cmp.{tied_itself}
pub use Rattle.std.proofs.lemmas.Int.{to_z_pos, to_z-of_z}
pub use Rattle.std.proofs.lemmas.List.{map-append}
pub use Rattle.std.proofs.lemmas.List.Folds.{list_any-append}
pub use Rattle.std.proofs.lemmas.List.Sorted.{IsPermutation-sym, IsPermutation-trans, IsPermutation-map, list_any-IsPermutation, IsPermutation-cons, IsPermutation-refl}
pub use Rattle.std.proofs.lemmas.Map.Keys.{IsDistinct-IsPermutation}
pub use Rattle.std.proofs.lemmas.Map.Text.{is_eq-slice_cmp}
pub use Rattle.std.proofs.lemmas.Result.{err_from_is_err_and}
pub use Rattle.std.proofs.lemmas.Slice.Eq.{bytes_eq-Decides}
pub use Rattle.std.specs.Cmp.{IsTotalOrder}
pub use Rattle.std.specs.List.{AllByRecursion, list_any, position_from, list_all}
pub use Rattle.std.specs.List.Sorted.{IsPermutation}
pub use Rattle.std.specs.Ordering.{eq_by_cmp, is_eq, match_ordering, is_lt, ordering_reverse}
pub use Rattle.std.specs.Prelude.{option_and_then, IfSome}
pub use Rattle.std.specs.declared.cmp.Ordering.{Ordering}
pub use Rattle.std.specs.declared.cmp.Ordering.TheVariants.{Less, Equal, Greater}
pub use Rattle.store.specs.AnyOrder.{AddsRows}
pub use Rattle.store.specs.Apply.{AreOf, IsAtRest, SparesBeside, IsNew, Rests, RunsTransaction, MayCommit}
pub use Rattle.store.specs.Beside.{LiesBeside, has_other_key}
pub use Rattle.store.specs.Changes.{with_executed, most, AreDone, is_executed}
pub use Rattle.store.specs.Entering.{IsOf, tables_of, has_any, IsReady, IsWanted, IsTurned, MayEnter, names_for, wanted_of}
pub use Rattle.store.specs.Inside.{Records, Moves, HasLeft, AreRowsOf, IsWorking, HasCounts, DoesAll, StaysOpen, Appear, WasOpen, Adds, added, Counted}
pub use Rattle.store.specs.Judge.{RowidsRise, span_of_id, IsOnly, layouts}
pub use Rattle.store.specs.Layout.{IsFirstLaidOut, IsLaidOut, IsVacant, meta, held, executed_tree, meta_tree, held_tree, meta_at, held_at, IsFound, HasTable, IsApart, spans, follow, spans_tree, follow_tree, read_text, insert_text, insert_eight_text, update_text, delete_text, follow_at, HasMeta, spans_text, follow_text, has_key, has_count, has_start, add_span_text, drop_span_text, set_end_text}
pub use Rattle.store.specs.Listing.{key_cmp, listed_text}
pub use Rattle.store.specs.Load.{AsksAll, all_meta_text, all_held_text, by_order, Rested, Judges, OnSeen}
pub use Rattle.store.specs.Making.{HasMade, with_tables, IsNaming}
pub use Rattle.store.specs.Migrating.{IsCut, HasBare}
pub use Rattle.store.specs.Open.{MayStandFor}
pub use Rattle.store.specs.Rows.{SaysLayout, IsMetaRow, AreNames, bag_of, count, span_rows, StandsFor, StandsForFirst, AreSpans, HasRowids, IsSpanRow, meta_rows, follow_rows, held_rows, name_in, span_in, stored_span, shown_span, shown_spans, touches, blob_in, alike, IsFollowRow, IsExecutedRow, IsHeldRow, id_in, Key, Finds, is_at, has_n, with_one, without_one, same_key, KeyCounts, is_blob, begins_at, key_in}
pub use Rattle.store.specs.State.{Content, row_of, has_image}
pub use Rattle.store.specs.declared.fault.StoreFault.{StoreFault}
pub use Rattle.store.specs.declared.fault.StoreFault.TheVariants.{Memory, Damaged}
pub use Rattle.store.specs.declared.row_change.Refusal.{Refusal}
