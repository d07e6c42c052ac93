-- The names of other modules that the proofs use, in one place.
pub use Rattle.binlog.specs.Cell.{CellValue}
pub use Rattle.binlog.specs.Event.{EventValue, IsEvent}
pub use Rattle.binlog.specs.Filter.{Names, admits, is_read, Name}
pub use Rattle.binlog.specs.FilterView.{name_list}
pub use Rattle.binlog.specs.Table.{TableValue}
pub use Rattle.byteorder.specs.Endian.{little_bytes}
pub use Rattle.gather.proofs.OneList.{one_list_of_deliveries}
pub use Rattle.gather.specs.Fault.{IsFromBytes}
pub use Rattle.gather.specs.Transaction.{ChangeValue, DeliveryValue, AreDeliveries}
pub use Rattle.gather.specs.View.{delivery_value}
pub use Rattle.gather.specs.declared.gatherer.Gatherer.{Gatherer}
pub use Rattle.greet.specs.Message.{DumpValue, IsDump}
pub use Rattle.gtid.proofs.Sets.{id_cmp_total, id_cmp-same}
pub use Rattle.gtid.specs.Encoding.{IsEncoding}
pub use Rattle.gtid.specs.Identifier.{Ids, Id, id_cmp, id}
pub use Rattle.replica.specs.Alone.{TakesAlone}
pub use Rattle.replica.specs.Capture.{AreRead}
pub use Rattle.replica.specs.Changing.{HasChanged}
pub use Rattle.replica.specs.Conn.{Conn, BreaksStore, AppliesFirst, History, AppliesAll, IsDumpTooLong, Why, IsRefusedBy, IsNoStreamFailure, reported_as, IsOwn}
pub use Rattle.replica.specs.Crash.{IsLeftOfOne, IsLeftOfAll}
pub use Rattle.replica.specs.End.{IsWrong, HasNext, StopsAt, Denies, End, StopsFor, EndsLog}
pub use Rattle.replica.specs.Failing.{HaveFailed}
pub use Rattle.replica.specs.File.{FilesHold, AreClosedWith, KeepsContent}
pub use Rattle.replica.specs.Follow.{IsInFull}
pub use Rattle.gather.specs.Given.{Supply}
pub use Rattle.replica.specs.Keeps.{KeepsStore, KeepsObserved, KeepsSinceOpening}
pub use Rattle.replica.specs.Message.{begins_event, refusal_of, IsNoEvent}
pub use Rattle.replica.specs.Missing.{is_over, waits_for_none}
pub use Rattle.replica.specs.Noted.{Account, HasNotices, StillWaits, WereMissed, has_failure, IsLeftOfNoted, IsNotedSinceOpening, IsLedOver, IsLedSinceOpening, Notice, stopped, ended, applied_in, IsMadeBy, LeadsBy, fails_by, EndsAtFailure, IsOneMoreNoted, WasMissing, BeginsWith, MayEnd}
pub use Rattle.replica.specs.Over.{StandsOver, LeavesOnly, HasReadAll, HasStayed}
pub use Rattle.replica.specs.PayloadStep.{GathersMore, Sends, IsAnswered, EndsAt, EndsDump, outcome_of}
pub use Rattle.replica.specs.Pieces.{streams_of}
pub use Rattle.replica.specs.Resume.{transaction, transactions}
pub use Rattle.replica.specs.Sent.{SentFor}
pub use Rattle.replica.specs.Settings.{Settings}
pub use Rattle.replica.specs.Standing.{GoesOn, HasEnded, end_of, HasPayload, room_of, due_of, due_at}
pub use Rattle.replica.specs.Stream.{Reading, Hello, next_id, due_after, Due, SecondReply, QueryReply, InDump, next_due, due_from, Carries, Answers, Talks, Reply, IsInDump}
pub use Rattle.replica.specs.declared.source.captures.Capture.{Capture}
pub use Rattle.replica.specs.declared.change.changing.ChangeEnd.TheVariants.{NotAdopted}
pub use Rattle.replica.specs.declared.session.end.Ended.{Ended}
pub use Rattle.replica.specs.declared.session.end.Reason.{Reason}
pub use Rattle.replica.specs.declared.session.end.Reason.TheVariants.{EndOfInput, Memory, Wire, SourceEof, SourceError, Greet, Event, Gather, Refused, Database, ReadFailed, WriteFailed, Halted, Until}
pub use Rattle.replica.specs.declared.session.end.Refusal.TheVariants.{NoSuchRow, CountFull}
pub use Rattle.replica.specs.declared.session.phase.Phase.{Phase}
pub use Rattle.replica.specs.declared.session.Session.{Session}
pub use Rattle.scripted_source.specs.Script.{ScriptValue, PartValue}
pub use Rattle.scripted_source.specs.Source.{events_of, CanSend}
pub use Rattle.sqlite.specs.Closing.{IsCopied}
pub use Rattle.sqlite.specs.Files.{over_files, IsClosed, FailsToClose, file_state}
pub use Rattle.sqlite.specs.Held.{Held}
pub use Rattle.sqlite.specs.State.{HasCleanDisk}
pub use Rattle.sqlite.specs.declared.error.Error.{Error}
pub use Rattle.sqlite_disk.specs.declared.Files.{Files}
pub use Rattle.sqlite_schema.specs.declared.schema.Schema.{Schema}
pub use Rattle.sqlite_store.specs.Laws.{settled_at}
pub use Rattle.sqlite_store.specs.declared.store.FileStore.{FileStore}
pub use Rattle.sqlite_trees.specs.Tree.{Trees}
pub use Rattle.sqlite_trees.specs.View.{IsClean}
pub use Rattle.sqlite_trees.specs.declared.store.Store.{Ghosts}
pub use Rattle.sqlite_wal.proofs.LogLemmas.{SeenMayStay}
pub use Rattle.sqlite_wal.specs.Files.{image_at}
pub use Rattle.sqlite_wal.specs.Reads.{AreClean}
pub use Rattle.sqlite_wal.specs.Recovery.{Image}
pub use Rattle.std.proofs.Common.{◌≡◌, ℕ, Bool, true, false, List, [], ◌++◌, refl, sym, ap, ◌∙◌, inl, Some, None, is_some, MatchOption, unwrap_or, append-nil, subst, Vec, Global, Option, arith, ◌≢◌, ◌⊎◌, inr, zero, suc, ◌+◌, ◌≤◌, ◌∷◌, length, ap₂, replicate, ◌^◌, ◌<◌, append_assoc, Result, Ok, Err, IsTrue, take, map, flat_map, MatchBool, not, ◌-◌, ◌||◌, ◌&&◌, get_or, IfOk, IfErr, subst₂, All, rules}
pub use Rattle.std.proofs.KnownBytes.{Consumes-nil}
pub use Rattle.std.proofs.lemmas.Bool.{false≢true, cases_Bool, true≢false, cases_lt, cases_eq, false_from_ne_true, or_cases, or_left, or_right}
pub use Rattle.std.proofs.lemmas.List.{length-append, map-append, take-append-drop, take_more}
pub use Rattle.std.proofs.lemmas.Slice.Eq.{bytes_eq-Decides}
pub use Rattle.std.specs.Cmp.{Equal-is}
pub use Rattle.std.specs.Io.KnownBytes.{Consumes, Appends, Keeps}
pub use Rattle.std.specs.List.{AllByRecursion}
pub use Rattle.std.specs.Ordering.{eq_by_cmp}
pub use Rattle.std.specs.Prelude.{if◌then◌else◌}
pub use Rattle.store.specs.Changes.{most, IsRemoved, IsRefused, AreDone, IsRefusedAt, adopted, IsMade, HasOutcome, done, is_admitted, is_executed}
pub use Rattle.store.specs.Entering.{names_for, IsLeft, wanted_of}
pub use Rattle.store.specs.Listing.{Entry}
pub use Rattle.store.specs.State.{Content, TableRow, row_of, Bag}
pub use Rattle.store.specs.Store.{AreOf, HoldsAs, HasFailed, database, Applies}
pub use Rattle.store.specs.declared.fault.Applied.{Applied}
pub use Rattle.store.specs.declared.fault.StoreFault.{StoreFault}
pub use Rattle.store.specs.declared.listing.ListError.{ListError}
pub use Rattle.store.specs.declared.store.Store.{Store}
pub use Rattle.wire.proofs.OnePacking.{length_packing}
pub use Rattle.wire.proofs.OneReading.{nothing_yet}
pub use Rattle.wire.specs.Packet.{packing_length}
pub use Rattle.wire.specs.Payload.{ReaderState, IsUnfinished, IsWholePayload, Payload}
pub use Rattle.wire.specs.declared.fault.WireFault.{WireFault}
