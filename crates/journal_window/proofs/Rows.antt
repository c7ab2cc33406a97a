-- For each clause of this crate's definitions a small case that it accepts, and one that breaks it alone and is refused. The
-- journals have eight slots.
use Rattle.std.proofs.Common.{ℕ, ◌≡◌, ◌+◌, ◌%◌, true, false, Option, None, Some, List, [], ◌∷◌, length, refl, sym, get_or, inl, inr, arith}
use Rattle.std.proofs.Math.Nat.{mod-lt}
use Rattle.std.proofs.lemmas.List.Elements.{All-cons, All-nil}
use Rattle.blk_base.specs.Sectors.{sector, zero_block}
use Rattle.blk_base.specs.declared.geometry.Geometry.{Geometry}
use Rattle.blk_base.specs.declared.geometry.Super.{Super}
use Rattle.blk_base.specs.declared.journal_entry.CommittedEntry.{CommittedEntry}
use Rattle.blk_base.specs.declared.journal_entry.Entry.{Entry}
use Rattle.blk_base.proofs.Example.{maps}
use Rattle.disk_model.specs.Seen.{Seen}
use Rattle.disk_model.specs.Trust.{trust_of}
use Rattle.disk_model.proofs.SeenLaws.{stays_yet, later_yet}
use Rattle.image_layout.specs.declared.fault.Field.TheVariants.{Start, Nonce}
use Rattle.image_layout.specs.declared.fault.SuperFault.TheVariants.{BadField}
use Rattle.image_model.specs.Windows.{IsThere, IsLast, IsReplayable, AreReplayable, entries_from, IsOfImage, IsWindow, IsFaulty}
use Rattle.image_model.specs.declared.fault.ImageFault.TheVariants.{Super as Superblock, Window, Device, Memory}
use Rattle.image_model.proofs.Example.{small, one, block, holds, has_sector, only_sector, zeros}
use Rattle.image_model.proofs.WindowLaws.{one_last, one_window, one_fault}
use Rattle.image_model.proofs.ZeroLaws.{of_eight}
use Rattle.image_model.proofs.ReadExample.{zero_journal, none_there}
use Rattle.image_model.proofs.WindowExample.{data_86}
use Rattle.journal_codec.specs.Grammar.{IsSector}
use Rattle.journal_codec.proofs.PrefixLaws.{written_prefix}
use Rattle.journal_window.proofs.ReplayLaws.{no_prefix}
use Rattle.journal_window.specs.declared.newest.Newest.{Newest}
use Rattle.journal_window.specs.Newest.{IsNewest, AreReplayed}
use Rattle.journal_window.specs.Reads.{IsJournalRead, HasReadFailed, JournalFails, Fails}
use Rattle.journal_window.specs.Replays.{CantReplay, IsBad, IsFirstBad, IsStopped}
use Rattle.journal_window.specs.Windows.{IsWindowOf, IsUsedUp, IsRefused}
use Rattle.journal_window.proofs.ReadRows.{no_entries}

last_of_empty : (start last : ℕ) → last + 1 ≡ start → IsLast small start zero_journal last
last_of_empty start last behind = record { there = inl behind; none = λ s h from later below there. none_there s h there }

window_of_empty : (start last : ℕ) → last + 1 ≡ start → IsWindow small start zero_journal last []
window_of_empty start last behind = record {
  is_last = last_of_empty start last behind;
  first = start;
  is_first = inl (behind, refl);
  blocks = [];
  count = omega (arith, behind);
  replayable = tt;
  entries = refl;
}

-- A journal with block 2 alone, whose head is 1: so block 1 is missing.
abbrev gap : List (List ℕ)
gap = zero_block ∷ zero_block ∷ block 2 1 ∷ zero_block ∷ zero_block ∷ zero_block ∷ zero_block ∷ zero_block ∷ []

there_2 : IsThere small gap 2 1
there_2 = (one, has_sector 2 1 (omega arith) (omega arith) (omega arith))

only_2 : (s h : ℕ) → IsThere small gap s h → s ≡ 2
only_2 s h there =
    of_eight (λ k. (s h : ℕ) (entries : List Entry) → IsSector 1 0 (sector 0 (get_or gap k zero_block)) s h entries → s ≡ 2)
    (λ s h entries is. absurd (zeros 1 s h entries is)) (λ s h entries is. absurd (zeros 1 s h entries is))
    (λ s h entries is. sym (only_sector 2 1 s h entries (omega arith) (omega arith) (omega arith) is).0)
    (λ s h entries is. absurd (zeros 1 s h entries is)) (λ s h entries is. absurd (zeros 1 s h entries is))
    (λ s h entries is. absurd (zeros 1 s h entries is)) (λ s h entries is. absurd (zeros 1 s h entries is))
    (λ s h entries is. absurd (zeros 1 s h entries is))
    (s % 8) (mod-lt s (omega arith)) s h there.0 there.1

last_of_gap : IsLast small 1 gap 2
last_of_gap = record {
  there = inr (omega arith, omega arith, (1, there_2));
  none = λ s h from later below there. let same = only_2 s h there in omega (arith, same, later);
}

bad_1 : IsBad small gap 2 1
bad_1 entries is = no_prefix small gap 2 1 zero_block (omega arith) refl (zeros 1) entries is

good_2 : IsReplayable small gap 2 2 one
good_2 = record {
  whole = true;
  has = (1, written_prefix 1 2 1 one (holds 2 1 (omega arith) (omega arith) (omega arith)));
  complete = λ below. absurd (omega (arith, below));
  each = All-cons (IsOfImage small) (maps 86) [] (omega arith, tt, data_86) (All-nil (IsOfImage small));
}

faulty_1 : IsFaulty small 1 gap 1
faulty_1 = record {
  last = 2;
  is_last = last_of_gap;
  first = 1;
  is_first = inr (omega arith, there_2);
  inside = (omega arith, omega arith);
  bad = bad_1;
  good = λ earlier from before. absurd (omega (arith, from, before));
}

-- Windows.

abbrev head_from : ℕ → Super
head_from start = record { geometry = small; clean = false; start = start }

-- the greatest first sequence that a superblock has
abbrev final : ℕ
final = 18014398509481983

window_is : IsWindowOf (head_from 1) zero_journal (no_entries 0)
window_is = record { sequences = λ unclean. omega arith; is_window = window_of_empty 1 0 refl }

-- sequences
window_has_sequences : IsWindow small final zero_journal 18014398509481982 [] × (IsWindowOf (head_from final) zero_journal (no_entries 18014398509481982) → ⊥)
window_has_sequences = (window_of_empty final 18014398509481982 refl, λ is. let below = is.sequences refl in omega (arith, below))

window_of_closed : IsWindowOf (record { geometry = small; clean = true; start = final }) zero_journal (no_entries 18014398509481982)
window_of_closed = record { sequences = λ unclean. absurd (cc unclean); is_window = window_of_empty final 18014398509481982 refl }

-- is_window
window_is_window : IsWindowOf (head_from 1) zero_journal (no_entries 1) → ⊥
window_is_window is = let same = (one_window small 1 zero_journal 1 0 [] [] is.is_window (window_of_empty 1 0 refl)).0 in omega (arith, same)

-- The sequences are used up.
used_up : IsUsedUp (head_from final) zero_journal
used_up = record { unclean = refl; last = 18014398509481982; is_last = last_of_empty final 18014398509481982 refl; past = omega arith }

used_up_unclean : IsUsedUp (record { geometry = small; clean = true; start = final }) zero_journal → ⊥
used_up_unclean used = let unclean = used.unclean in absurd (cc unclean)

-- is_last, past: 0 is the last one, and 2^54 isn't
used_up_past : IsUsedUp (head_from 1) zero_journal → ⊥
used_up_past used =
    let same = one_last small 1 zero_journal used.last 0 used.is_last (last_of_empty 1 0 refl) in
    let past = used.past in omega (arith, same, past)

-- The refusals.
refused_used_up : IsRefused (head_from final) zero_journal (Superblock (BadField Start))
refused_used_up = (refl, used_up)

refused_other_field : IsRefused (head_from final) zero_journal (Superblock (BadField Nonce)) → ⊥
refused_other_field is = let same = is.0 in absurd (cc same)

refused_with_room : IsRefused (head_from 1) zero_journal (Superblock (BadField Start)) → ⊥
refused_with_room is = used_up_past is.1

refused_faulty : IsRefused (head_from 1) gap (Window 1)
refused_faulty = (
  λ used. let same = one_last small 1 gap used.last 2 used.is_last last_of_gap in let past = used.past in omega (arith, same, past),
  faulty_1,
)

refused_faulty_first : IsRefused (head_from 1) gap (Window 2) → ⊥
refused_faulty_first is = let same = one_fault small 1 gap 2 1 is.1 faulty_1 in omega (arith, same)

-- the block isn't named where the sequences are used up
refused_before_faulty : (sequence : ℕ) → IsRefused (head_from final) zero_journal (Window sequence) → ⊥
refused_before_faulty sequence is = is.0 used_up

refused_memory : IsRefused (head_from 1) zero_journal Memory
refused_memory = tt

refused_device : IsRefused (head_from 1) zero_journal Device → ⊥
refused_device is = is

-- The newest block.
abbrev newest_at : ℕ → ℕ → Option Newest
newest_at sequence head = Some (record { sequence = sequence; head = head })

newest_is : IsNewest small 1 gap 8 (newest_at 2 1)
newest_is = record {
  there = (omega arith, omega arith, there_2);
  greatest = λ s h inside from below there. let same = only_2 s h there in omega (arith, same);
}

newest_there : IsNewest small 1 gap 8 (newest_at 3 1) → ⊥
newest_there is = let same = only_2 3 1 is.there.2 in omega (arith, same)

newest_greatest : IsNewest small 1 gap 8 None → ⊥
newest_greatest is = is.greatest 2 1 (omega arith) (omega arith) (omega arith) there_2

-- of the first two slots it isn't one
newest_of_slots : IsNewest small 1 gap 2 None
newest_of_slots = record {
  there = tt;
  greatest = λ s h inside from below there. let same = only_2 s h there in absurd (omega (arith, same, inside));
}

-- Blocks that can be replayed.
replayed_is : AreReplayed small gap 2 2 3 (record { entry = maps 86; point = record { 0 = 1024 } } ∷ [])
replayed_is = record { blocks = one ∷ []; count = refl; replayable = (good_2, tt); all = refl }

replayed_count : AreReplayed small gap 2 2 1 [] → ⊥
replayed_count are = let count = are.count in omega (arith, count)

replayed_all : AreReplayed small gap 2 2 2 (record { entry = maps 86; point = record { 0 = 1024 } } ∷ []) → ⊥
replayed_all are = no_more are.blocks are.count are.all
  where
    no_more : (blocks : List (List Entry)) → 2 + length blocks ≡ 2 → ◌≡◌ {A = List CommittedEntry} (record { entry = maps 86; point = record { 0 = 1024 } } ∷ []) (entries_from 2 blocks) → ⊥
    no_more [] count all = absurd (cc all)
    no_more (entries ∷ older) count all = omega (arith, count)

replayed_replayable : AreReplayed small gap 2 1 2 [] → ⊥
replayed_replayable are = of_blocks are.blocks are.count are.replayable
  where
    of_blocks : (blocks : List (List Entry)) → 1 + length blocks ≡ 2 → AreReplayable small gap 2 1 blocks → ⊥
    of_blocks [] count replayable = omega (arith, count)
    of_blocks (entries ∷ []) count replayable = bad_1 entries replayable.0
    of_blocks (entries ∷ other ∷ older) count replayable = omega (arith, count)

-- The first block that can't be.
stopped_is : IsFirstBad small gap 2 1 1
stopped_is = record {
  inside = (omega arith, omega arith);
  bad = bad_1;
  good = λ earlier from before. absurd (omega (arith, from, before));
}

stopped_inside : IsFirstBad small gap 2 2 1 → ⊥
stopped_inside is = let inside = is.inside in omega (arith, inside)

stopped_bad : IsFirstBad small gap 2 2 2 → ⊥
stopped_bad is = is.bad one good_2

stopped_good : IsFirstBad small zero_journal 2 1 2 → ⊥
stopped_good is =
    let good = is.good 1 (omega arith) (omega arith) in
    no_prefix small zero_journal 2 1 zero_block (omega arith) refl (zeros 1) good.0 good.1

cant_replay : CantReplay small gap 2 1 (Window 1)
cant_replay = (refl, bad_1)

cant_replay_other : CantReplay small gap 2 1 (Window 2) → ⊥
cant_replay_other is = let same = is.0 in omega (arith, same)

cant_replay_good : CantReplay small gap 2 2 (Window 2) → ⊥
cant_replay_good is = is.1 one good_2

stopped_fault : IsStopped small gap 2 1 (Window 1)
stopped_fault = stopped_is

stopped_device : IsStopped small gap 2 1 Device → ⊥
stopped_device is = is

-- Reads: of a device that doesn't tell, and a journal of one block.
abbrev single : Geometry
single = record small { journal = 1 }

abbrev pub seen_with : ℕ → Seen
seen_with faults = record { opening = []; size = 154; log = []; faults = faults; unkept = 0 }

journal_read : IsJournalRead (trust_of false false) (seen_with 0) (seen_with 0) single (zero_block ∷ [])
unfolding zero_block
journal_read = record {
  count = refl;
  read = record {
    told = λ told. absurd (cc told);
    stays = stays_yet (seen_with 0);
    later = later_yet (seen_with 0);
    given = (refl, λ told. absurd (cc told), tt);
    logged = λ told. absurd (cc told);
  };
}

journal_read_count : IsJournalRead (trust_of false false) (seen_with 0) (seen_with 0) small (zero_block ∷ []) → ⊥
journal_read_count is = let count = is.count in omega (arith, count)

journal_read_read : IsJournalRead (trust_of false false) (seen_with 0) (seen_with 0) single ((0 ∷ []) ∷ []) → ⊥
journal_read_read is = let size = is.read.given.0 in omega (arith, size)

read_failed : HasReadFailed (trust_of false false) (seen_with 0) (seen_with 1) single
read_failed = (
  [],
  omega arith,
  record {
    stays = record { opening = refl; size = refl };
    later = record { faults = omega arith; unkept = omega arith };
    given = tt;
    rose = omega arith;
    logged = λ told. absurd (cc told);
  },
)

-- no read failed where the count didn't rise, or where there is no block to be read
read_failed_rose : HasReadFailed (trust_of false false) (seen_with 0) (seen_with 0) single → ⊥
read_failed_rose failed = let rose = failed.2.rose in omega (arith, rose)

read_failed_few : HasReadFailed (trust_of false false) (seen_with 0) (seen_with 1) (record small { journal = 0 }) → ⊥
read_failed_few failed = let few = failed.1 in omega (arith, few)

device_fails : Fails (trust_of false false) (seen_with 0) (seen_with 1) (record { geometry = single; clean = false; start = 1 }) Device
device_fails = read_failed

device_fails_alone : JournalFails (trust_of false false) (seen_with 0) (seen_with 1) single (Window 1) → ⊥
device_fails_alone is = is
