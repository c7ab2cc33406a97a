-- What nearly every proof of the core uses: the words of its model, and laws on lists, options and names.
pub use Rattle.std.proofs.lemmas.Bool.{and_parts, cases_Bool, cases_lt, eq-eqb, eqb-true, le-ltb, lt-ltb, ltb-false, ltb-true, or_parts}
pub use Rattle.std.proofs.lemmas.Bool.Decides.{eqb_tells}
pub use Rattle.std.proofs.lemmas.List.{append-nil, get_or-replicate, get_or-take, get_or_past, length-replicate, reverse-append}
pub use Rattle.std.proofs.lemmas.Option.{same_Some}
pub use Rattle.std.specs.List.{AllByRecursion}
pub use Rattle.plain_laws.proofs.ListLaws.{Each-put, Each-put_other, each_at, each_both, every-append, every-front, every-get, every-map, every_both, get-put_other, get-put_same, length-put, nobody_else, total-append, total-get, total-set, total_alone, total_zero}
pub use Rattle.plain_laws.proofs.OptionLaws.{none_is, none_of, not_both, option_cases, some_is, some_of}
pub use Rattle.plain_laws.specs.Sums.{Each, bit, total}
pub use Rattle.blk_base.specs.declared.geometry.Geometry.{Geometry}
pub use Rattle.blk_base.specs.declared.journal_entry.Entry.{Entry}
pub use Rattle.blk_base.specs.declared.place.Lba.{Lba}
pub use Rattle.blk_base.specs.declared.place.Mapping.{Mapping}
pub use Rattle.blk_base.specs.declared.place.Pbn.{Pbn}
pub use Rattle.blk_base.specs.declared.place.ZoneId.{ZoneId}
pub use Rattle.blk_base.specs.declared.request.Answer.{Answer}
pub use Rattle.blk_base.specs.declared.request.Request.{Request}
pub use Rattle.blk_base.specs.declared.request.Writer.{Writer}
pub use Rattle.core_model.proofs.FairLaws.{fair_before, fair_part}
pub use Rattle.core_model.specs.DeskFacts.{HasEarned, IsEarned, MayReply}
pub use Rattle.core_model.specs.DeviceFacts.{IsToInside}
pub use Rattle.core_model.specs.Facts.{Answers, BlockOk, Carries, DataOk, HasLists, ItemOk, KeptEach, KeptOk, WasTold, ZoneOk, arrival, arriving, made_by, name_of}
pub use Rattle.core_model.specs.JournalFacts.{HasPendingEntry, IsEntered, IsLogOf, IsSealed, JournalLists, RestsAt, StandsAt}
pub use Rattle.core_model.specs.LogicalFacts.{Holds, InLine, IsInTurn, IsPlaced, IsReport, IsUndrawn, LockOk, LocksOk, Looks, MapOk, Rises, WaitsOk}
pub use Rattle.core_model.specs.PhysicalFacts.{IsDecrement}
pub use Rattle.core_model.specs.RequestFacts.{ClaimOk, HasAddress, IsChange, IsForBlock, IsToBlock, IsToData, VioOk, zone_at, zone_of_stage}
pub use Rattle.core_model.specs.RightTraces.{AllBelow, CommitMayFollow, EntryMayFollow, FailureMayFollow, GiftMayFollow, GivesRight, HadNoFree, HasBelow, HasCause, HasFullJournal, HasPlace, IsCommitted, IsHeldBack, IsMadeFor, IsOpen, IsPending, IsReported, IsStoppedAtOnce, IsUnused, IsWrite, MapsTo, MayAnswer, MayFollow, NeedsBlock, PageMayFollow, PassMayFollow, PlaceMayFollow, Quiet, RightTrace, SealMayFollow, SlotMayFollow, StopsAtFailure, TakeMayFollow}
pub use Rattle.core_model.specs.Sessions.{AreAllThere, AtRest, ComesLast, HasBlocks, HasHonestReads, IsAsOpened, IsFair, IsHonestRead, IsSession, KeptStands, MapStands, NewReads, NewStands, OnBlock, OnItsWay, PagesStand, ReadsAs, ReadsBlock, Session, Shown, Stands, bytes_of, content_of, log, mapped_or, mapping_by, opened_at, opened_image, opened_uses, value_at, value_from}
pub use Rattle.core_model.specs.Tokens.{AtMost, Balanced, Token, answers_of, as_items, begins_of, block_token, claim_token, claim_weight, damage_token, ended_at, entered_at, entry_token, given, has_entry, has_old, heard_at, held_at, holder_token, holder_weight, holds, idle_at, in_log, is_answer, is_begin, is_block, is_committed, is_entry, is_old, is_sealed, is_word, journal_token, kept_by, leads_to, lease_token, lock_weight, locks_at, notice_token, notified_by, of_vio, one_journal, owes, queued, report_token, request_token, room_token, waiter_token, waiter_weight, weight}
pub use Rattle.core_model.specs.Trace.{Aborts, Adds, Calls, Commits, Draws, Drops, Enters, Fails, Flushes, Gift, Gives, Happening, Harms, Hears, Passes, Removes, Says, Seals, Sets, Strays, Takes, Trace, aborted, added, all_of, applied, calls, claimed, committed, done, dropped, durable, entered, entry_of, filled, gift_of, gifts, has_read_fault, has_stopped, has_taken, is_harmed, is_read, journaled, lines, linked, logged_of, marks, moments, new_of, new_pages, newest, of_address, passed, places, remappings, removed, request_in, sealed, strayed, unclaimed}
pub use Rattle.data_vio.specs.Vios.{Post, all_logged, asked, begun_vio, ended, gift, logged, remapping, request_of, staged, turned}
pub use Rattle.data_vio.specs.Zones.{IsZone, desk_number, device_number, journal_number, logical_number, logical_zones, notified, notified_zones, physical_number, physical_zones, zone_count, zone_number}
pub use Rattle.data_vio.specs.declared.items.Asks.{Asks}
pub use Rattle.data_vio.specs.declared.items.Item.{Item}
pub use Rattle.data_vio.specs.declared.items.Phase.{Phase}
pub use Rattle.data_vio.specs.declared.items.SealedBlock.{SealedBlock}
pub use Rattle.data_vio.specs.declared.items.Stage.{Stage}
pub use Rattle.data_vio.specs.declared.items.Vio.{Vio}
pub use Rattle.data_vio.specs.declared.sizes.Sizes.{Sizes}
pub use Rattle.core_model.specs.DeskData.{Desk}
pub use Rattle.core_model.specs.declared.zones.DeviceZone.{DeviceZone}
pub use Rattle.core_model.specs.declared.zones.SuperblockStage.{SuperblockStage}
pub use Rattle.core_model.specs.Superblocks.{superblock_bytes, superblock_stage}
pub use Rattle.core_model.specs.JournalData.{JournalZone}
pub use Rattle.core_model.specs.LogicalData.{Lock}
pub use Rattle.data_vio.specs.declared.logged.Logged.{Logged}
pub use Rattle.data_vio.specs.declared.logged.Logged.TheVariants.{Remaps, Makes}
pub use Rattle.data_vio.specs.declared.logged.NewPage.{NewPage}
pub use Rattle.data_vio.specs.declared.logged.Remapping.{Remapping}
pub use Rattle.core_model.specs.LogicalData.{LogicalZone}
pub use Rattle.core_model.specs.declared.zones.PhysicalZone.{PhysicalZone}
pub use Rattle.core_model.specs.declared.zones.Zone.{Zone}
pub use Rattle.core_model.specs.declared.zones.ZoneData.{ZoneData}
pub use Rattle.disk_model.specs.Log.{is_ok}
pub use Rattle.disk_model.specs.declared.call.Call.{Call}
pub use Rattle.vdo_model.proofs.NameLaws.{same_self, same_tells}
pub use Rattle.vdo_model.specs.DeskLog.{AllAnswered, IsDeskLog, IsNextLine, answer_of, answered, before_begin, begun}
pub use Rattle.vdo_model.specs.Places.{AreDrawn, Follows, IsAnsweredAtOnce, IsNextPlace, IsOfZone, drawn, place_of, zone_of}
pub use Rattle.vdo_model.specs.Scripts.{IsServed, Script, address_of, request_at, same_writer, value_written}
pub use Rattle.vdo_model.specs.declared.report.DeskLine.{DeskLine}
pub use Rattle.vdo_model.specs.declared.report.FlushMark.{FlushMark}
pub use Rattle.vdo_model.specs.declared.report.HistoryEntry.{HistoryEntry}
pub use Rattle.vdo_model.specs.declared.report.Mark.{Mark}
pub use Rattle.vdo_model.specs.declared.report.Placed.{Placed}
pub use Rattle.vdo_model.specs.declared.report.RunReport.{RunReport}
