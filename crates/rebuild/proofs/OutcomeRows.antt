-- How a recovery ends: for each clause a small case that it accepts, and one that breaks it and is refused.
use Rattle.std.proofs.Common.{ℕ, ◌≡◌, ◌+◌, ◌≤◌, Bool, true, false, List, [], ◌∷◌, ◌++◌, length, length-append, reverse, Ok, Err, refl, sym, ap, subst, inl, inr, arith, ◌<◌}
use Rattle.audit.specs.Audits.{BothShow}
use Rattle.audit.specs.Reports.{HasNoFault}
use Rattle.blk_base.specs.declared.geometry.Geometry.{Geometry}
use Rattle.blk_base.specs.declared.geometry.Super.{Super as Superblock}
use Rattle.blk_base.specs.declared.journal_entry.Entry.TheVariants.{NewPage}
use Rattle.blk_base.specs.declared.place.Mapping.TheVariants.{At}
use Rattle.blk_base.specs.Regions.{IndexBlock, block_of}
use Rattle.blk_base.specs.Forms.{page, pbn}
use Rattle.blk_base.proofs.Example.{root}
use Rattle.disk_model.proofs.OneImageLaws.{one_image-unique}
use Rattle.disk_model.proofs.SinceLaws.{untouched_yet}
use Rattle.disk_model.specs.declared.call.Call.{Call}
use Rattle.disk_model.specs.declared.call.Call.TheVariants.{Flush, Write}
use Rattle.disk_model.specs.declared.call.Failed.{Failed}
use Rattle.disk_model.specs.Images.{HasOneImage, IsImage}
use Rattle.disk_model.specs.Log.{Blocks}
use Rattle.disk_model.specs.Seen.{Seen}
use Rattle.disk_model.specs.Trust.{Trust, trust_of}
use Rattle.disk_model.specs.Since.{reads_of}
use Rattle.image_layout.specs.Superblock.{super_of}
use Rattle.image_layout.specs.declared.fault.SuperFault.{SuperFault}
use Rattle.image_layout.specs.declared.fault.SuperFault.TheVariants.{NotAnImage}
use Rattle.image_model.proofs.Example.{small}
use Rattle.image_model.proofs.MapExample.{logged, with_root}
use Rattle.image_model.proofs.WindowLaws.{one_last, one_window}
use Rattle.image_model.specs.Maps.{Image}
use Rattle.image_model.specs.Sound.{IsSound, image_of}
use Rattle.image_model.specs.Windows.{IsFaulty}
use Rattle.image_model.specs.declared.fault.ImageFault.{ImageFault}
use Rattle.image_model.specs.declared.fault.ImageFault.TheVariants.{Super, Window, Counts, Device, Unclean, Memory}
use Rattle.image_model.proofs.ReadExample.{next_failed, failed}
use Rattle.image_model.proofs.FaultExample.{nothing as blank}
use Rattle.journal_window.specs.States.{WindowState}
use Rattle.journal_window.specs.Windows.{IsWindowOf}
use Rattle.recovery_laws.proofs.KeptRows.{kept_by_itself, kept_by_nothing}
use Rattle.recovery_laws.proofs.RecoverableRows.{nothing_says, says_itself}
use Rattle.recovery_laws.specs.Calls.{ArePuts, IsPut, recovery_calls, some_puts}
use Rattle.recovery_laws.specs.Kept.{AreKept, image_in, AreStopsKept}
use Rattle.recovery_laws.specs.Recoverable.{IsRecoverable, StillSays, recoverable_image}
use Rattle.replay_counts.specs.Recovered.{Holds}
use Rattle.replay_counts.proofs.ReadRows.{no_entries}
use Rattle.replay_map.specs.Reads.{Shows}
use Rattle.rebuild.proofs.ActLaws.{none_made}
use Rattle.audit.proofs.ReadExample.{head_of, window_is_read, window_of_none, without_journal}
use Rattle.rebuild.proofs.Rows.{call_failed, called_after, flushed, last_is_failed, last_is_not, none_flushed, seen}
use Rattle.rebuild.proofs.ShownLaws.{both_logged, both_read, unclean_last}
use Rattle.rebuild.specs.Acts.{IsStart}
use Rattle.rebuild.specs.Outcomes.{Ends, HasEntries, IsAllMade, IsBegunSince, IsKeptSince, IsStillSince, RecoversUnclean, UncleanFails, WritesAll, WritesNothing}

-- The length of a window: that of a journal of zeros is 0, and that of a journal without slots isn't 1.
pub none_of_zeros : (honest clean : Bool) → BothShow (trust_of false honest) (head_of clean) no_entries seen seen HasNoFault → HasEntries (trust_of false honest) (head_of clean) seen seen 0
none_of_zeros honest clean right = record {
  middle = seen;
  behind = seen;
  window = no_entries;
  read = window_is_read honest clean;
  right = right;
  stays = record { opening = refl; size = refl };
  later = record { faults = omega arith; unkept = omega arith };
  grows = λ told. absurd (cc told);
  number = refl;
}

only_none : (journal : Blocks) (window : WindowState) → length journal ≡ 0 → IsWindowOf without_journal journal window → window.entries ≡ []
only_none [] window none is = (one_window (record small { journal = 0 }) 1 [] window.last 0 window.entries [] is.is_window window_of_none).1
only_none (block ∷ journal) window none is = absurd (omega (arith, none))

pub not_one : (trust : Trust) (now : Seen) → HasEntries trust without_journal seen now 1 → ⊥
not_one trust now has =
    let size = ap length (only_none has.read.0 has.window has.read.1.count has.read.2) in let number = has.number in omega (arith, number, size)

-- grows: what a device that tells has in its log stays there
entries_without_log : (honest : Bool) (head : Superblock) (count : ℕ) → HasEntries (trust_of true honest) head flushed seen count → ⊥
entries_without_log honest head count has =
    let reads = ap length (has.read.1.read.logged refl) in
    let more = ap length (has.grows refl).1 in
    let first = length-append (reads_of 1 (reverse has.read.0)) flushed.log in
    let second = length-append (has.grows refl).0 has.behind.log in
    let goes_on = both_logged honest head has.window has.middle has.behind HasNoFault has.right in
    let third = ap length goes_on.1 in
    let fourth = length-append goes_on.0 has.middle.log in
    omega (arith, reads, more, first, second, third, fourth)

-- stays, later: and it is that device, of which no count fell
entries_of_other_size : (honest : Bool) (head : Superblock) (count : ℕ) → HasEntries (trust_of false honest) head seen (record seen { size = 3 }) count → ⊥
entries_of_other_size honest head count has =
    let size = has.stays.size in
    let first = has.read.1.read.stays.size in
    let second = (both_read (trust_of false honest) head has.window has.middle has.behind HasNoFault has.right).stays.size in omega (arith, size, first, second)

entries_with_fewer_faults : (honest : Bool) (head : Superblock) (count : ℕ) → HasEntries (trust_of false honest) head failed seen count → ⊥
entries_with_fewer_faults honest head count has =
    let less = has.later.faults in
    let first = has.read.1.read.later.faults in
    let second = (both_read (trust_of false honest) head has.window has.middle has.behind HasNoFault has.right).later.faults in omega (arith, less, first, second)

-- right: an image that has what was read has no fault
entries_of_a_faulty_image : (trust : Trust) (head : Superblock) (before now : Seen) (count : ℕ) (blocks : Blocks) (has : HasEntries trust head before now count)
    → (HasNoFault (image_of head blocks has.window.entries) → ⊥) → Shows blocks has.right.0 → Holds head.geometry blocks has.right.1 → ⊥
entries_of_a_faulty_image trust head before now count blocks has faulty shows holds = faulty (has.right.3 blocks shows holds)

-- Why an image isn't recovered. The journal isn't read; or it is, and the map or the counts aren't; or the last call failed.
journal_failed : (honest : Bool) → UncleanFails (trust_of false honest) (head_of false) seen failed Device
journal_failed honest = inl ([], omega arith, next_failed honest 1)

no_memory_behind : (honest : Bool) → UncleanFails (trust_of false honest) (head_of false) seen seen Memory
no_memory_behind honest = inr (inl (seen, no_entries, window_is_read honest false, tt))

pub write_failed : (trust : Trust) → UncleanFails trust (head_of false) seen call_failed Device
write_failed trust = inr (inr (refl, last_is_failed trust.tells))

-- Device: no count of faults rose; or another call was made behind the one that failed
module _ (trust : Trust) (head : Superblock) (before now : Seen) where
  none_failed : before.faults + 1 ≤ 5 → now.faults ≤ before.faults → UncleanFails trust head before now Device → ⊥
  none_failed few less fails = let rose = (unclean_last trust head before now fails).rose in omega (arith, few, less, rose)

  -- Unclean, Counts: it mends what is unclean, and looks at no number of mappings
  pub never_unclean : UncleanFails trust head before now Unclean → ⊥
  never_unclean fails = elim fails [ inl none ↦ none | inr later ↦ elim later [ inl behind ↦ behind.3 | inr call ↦ absurd (cc call.0) ] ]

  never_counts : UncleanFails trust head before now (Counts (pbn 86) 2 1) → ⊥
  never_counts fails = elim fails [ inl none ↦ none | inr later ↦ elim later [ inl behind ↦ behind.3 | inr call ↦ absurd (cc call.0) ] ]

  -- Super: that it is used up, and nothing else of a superblock that was read
  never_no_image : UncleanFails trust head before now (Super NotAnImage) → ⊥
  never_no_image fails = elim fails [ inl refused ↦ absurd (cc refused.2.0) | inr later ↦ elim later [ inl behind ↦ behind.3 | inr call ↦ absurd (cc call.0) ] ]

went_on : (honest : Bool) (head : Superblock) → UncleanFails (trust_of true honest) head seen called_after Device → ⊥
went_on honest head fails = last_is_not (unclean_last (trust_of true honest) head seen called_after fails)

-- Window: a journal without slots has no block that can't be replayed
not_faulty : (journal : Blocks) → length journal ≡ 0 → IsFaulty (record small { journal = 0 }) 1 journal 7 → ⊥
not_faulty (block ∷ journal) none is = omega (arith, none)
not_faulty [] none is =
    let last = one_last (record small { journal = 0 }) 1 [] is.last 0 is.is_last window_of_none.is_last in
    let inside = is.inside in
    omega (arith, last, inside)

no_window_fault : (trust : Trust) → UncleanFails trust without_journal seen seen (Window 7) → ⊥
no_window_fault trust fails = elim fails [
  | inl refused ↦ not_faulty refused.0 refused.1.count refused.2.1
  | inr later ↦ elim later [ inl behind ↦ behind.3 | inr call ↦ absurd (cc call.0) ]
]

-- Nothing is written before a refusal but that of a device; of one that doesn't tell no more is said than that no count fell.
written_before : WritesNothing true seen flushed Memory → ⊥
written_before nothing = elim nothing [
  | inl device ↦ absurd (cc device)
  | inr untouched ↦ let since = untouched.reads refl in none_flushed since.0 since.1 since.2
]

read_before : WritesNothing true seen seen Memory
read_before = inr (untouched_yet true seen)

untold_before : WritesNothing false seen flushed Memory
untold_before = inr (record { stays = record { opening = refl; size = refl }; later = record { faults = omega arith; unkept = omega arith }; reads = λ told. absurd (cc told) })

-- All is made. An image of no slab and no entry needs no write but that of its superblock.
abbrev still : Image
still = record { geometry = record small { slabs = 0 }; blocks = []; window = [] }

abbrev with_all : Image → Seen
with_all image = record seen { log = recovery_calls image 7 [] }

nothing_to_write : ArePuts still []
nothing_to_write = record {
  each = tt;
  pages = λ page at slot mapping there below put. absurd (cc put);
  counters = λ slab n point inside below above is. absurd (omega (arith, inside));
}

all_made : IsAllMade still 7 seen (with_all still)
all_made = ([], nothing_to_write, refl)

-- its superblock isn't written
only_flushed : (image : Image) (last : ℕ) → IsAllMade image last seen flushed → ⊥
only_flushed image last (puts, are, log) = let size = ap (λ (l : List Call). length l) log in omega (arith, size)

-- a page isn't, into which the window puts something
abbrev grown : Image
grown = with_root [] (logged (NewPage (page 0 0 3) (pbn 86)) ∷ [])

page_left_out : IsAllMade grown 7 seen (with_all grown) → ⊥
page_left_out (puts, are, log) = of_puts puts are (let size = ap (λ (l : List Call). length l) log in omega (arith, size, length-append puts []))
  where
    of_puts : (puts : List Call) → ArePuts grown puts → length puts ≡ 0 → ⊥
    of_puts [] are none = are.pages root (pbn 9) 3 (At (pbn 86)) refl (omega arith) refl
    of_puts (call ∷ puts) are none = omega (arith, none)

-- Whatever a stop leaves is kept: a sound image keeps itself, where nothing was done; what has no superblock keeps none.
no_older : (newer older : List Call) → [] ≡ newer ++ older → older ≡ []
no_older [] older same = sym same
no_older (call ∷ newer) older same = absurd (cc same)

abbrev pub opened : Blocks → Seen
opened blocks = record seen { opening = blocks }

module _ (blocks : Blocks) (sound : IsSound blocks) (one : HasOneImage blocks [] blocks) where
  pub kept_yet : IsKeptSince blocks sound (opened blocks) (opened blocks)
  kept_yet = (
    [],
    refl,
    record {
      kept = λ newer older now same is.
          let none = no_older newer older same in
          let here : IsImage blocks [] now = subst (λ (calls : List Call). IsImage blocks (calls ++ []) now) none is in
          subst (AreKept (image_in blocks sound)) (sym (one_image-unique blocks [] blocks now one here)) (kept_by_itself blocks sound);
      heads = tt;
      index = λ i below. tt;
      inside = tt;
    },
  )

-- The same where it can be recovered, sound or not.
pub still_yet : (blocks : Blocks) (able : IsRecoverable blocks) → HasOneImage blocks [] blocks → IsStillSince blocks able (opened blocks) (opened blocks)
still_yet blocks able one = (
  [],
  refl,
  record {
    still = λ newer older now same is.
        let none = no_older newer older same in
        let here : IsImage blocks [] now = subst (λ (calls : List Call). IsImage blocks (calls ++ []) now) none is in
        subst (StillSays (recoverable_image blocks able)) (sym (one_image-unique blocks [] blocks now one here)) (says_itself blocks able);
    index = λ i below. tt;
  },
)

pub none_still : (blocks : Blocks) (able : IsRecoverable blocks) → IsStillSince blocks able seen seen → ⊥
none_still blocks able since =
    nothing_says (recoverable_image blocks able)
    (since.2.still [] since.0 [] refl (record { size = refl; whole = λ b below. absurd (omega (arith, below)); sectors = λ b below. absurd (omega (arith, below)) }))

still_lost : (blocks : Blocks) (able : IsRecoverable blocks) → IsStillSince blocks able flushed seen → ⊥
still_lost blocks able since = let size = ap (λ (l : List Call). length l) since.1 in omega (arith, size, length-append since.0 (Flush true ∷ []))

-- Begun: nothing was called; and the log goes on
begun_yet : (image : Image) (now : Seen) → IsBegunSince image 7 now now
begun_yet image now = ([], refl, some_puts tt)

begun_lost : (image : Image) → IsBegunSince image 7 flushed seen → ⊥
begun_lost image since = let size = ap (λ (l : List Call). length l) since.1 in omega (arith, size, length-append since.0 (Flush true ∷ []))

-- Ends: after a refusal that is all; after an answer all was made
refused_end : (image : Image) (now : Seen) (fault : ImageFault) → Ends {T = ℕ} {E = ImageFault} image 7 now now (Err fault)
refused_end image now fault = begun_yet image now

answered_early : (image : Image) (n : ℕ) → Ends {T = ℕ} {E = ImageFault} image 7 seen seen (Ok n) → ⊥
answered_early image n (puts, are, log) = let size = ap (λ (l : List Call). length l) log in omega (arith, size)

none_kept : (blocks : Blocks) (sound : IsSound blocks) → IsKeptSince blocks sound seen seen → ⊥
none_kept blocks sound since =
    kept_by_nothing (image_in blocks sound) (since.2.kept [] since.0 [] refl (record { size = refl; whole = λ b below. absurd (omega (arith, below)); sectors = λ b below. absurd (omega (arith, below)) }))

-- nor is a write of the index among the calls
index_written : (blocks : Blocks) (sound : IsSound blocks) (bytes : List ℕ) (ok : Bool) → 0 < sound.head.geometry.index
    → AreStopsKept blocks sound [] [] (Write (pbn (block_of sound.head.geometry (IndexBlock 0))) bytes ok ∷ []) → ⊥
index_written blocks sound bytes ok some stops = (stops.index 0 some).0 refl

-- nor one of block 0 that is no superblock
head_lost : (blocks : Blocks) (sound : IsSound blocks) (bytes : List ℕ) (fault : SuperFault) (ok : Bool) → super_of bytes (length blocks) ≡ Err fault
    → AreStopsKept blocks sound [] [] (Write (pbn 0) bytes ok ∷ []) → ⊥
head_lost blocks sound bytes fault ok is stops = elim (stops.heads.0 refl) [
  | inl was ↦ absurd (cc (is, was))
  | inr now ↦ let written = now.1 in absurd (cc (is, written))
]

-- and the log goes on
log_lost : (blocks : Blocks) (sound : IsSound blocks) → IsKeptSince blocks sound flushed seen → ⊥
log_lost blocks sound since = let size = ap (λ (l : List Call). length l) since.1 in omega (arith, size, length-append since.0 (Flush true ∷ []))

all_end : (image : Image) → ArePuts image [] → Ends {T = ℕ} {E = ImageFault} image 7 seen (record seen { log = recovery_calls image 7 [] }) (Ok 0)
all_end image are = ([], are, refl)

lost_end : (image : Image) (fault : ImageFault) → Ends {T = ℕ} {E = ImageFault} image 7 flushed seen (Err fault) → ⊥
lost_end image fault = begun_lost image

-- Writing all. An image of the default sizes that needs no other write: its superblock is written, with flushes around it.
abbrev Blank : Image → Type 0
Blank image = ArePuts image [] × (image.geometry ≡ small)

all_is_written : WritesAll (trust_of true true) seen (with_all blank) Blank 7 (Ok tt)
all_is_written = record {
  stays = record { opening = refl; size = refl };
  later = record { faults = omega arith; unkept = omega arith };
  grows = λ told. (recovery_calls blank 7 [], refl);
  failed = tt;
  ends = λ first blocks start calls made needs same.
      let none = no_older calls first.log made.logged in
      let sizes = needs.1 in
      ([], needs.0, calls_of start.to.is.head.geometry start.to.is.last first.log sizes same none);
}
  where
    calls_of : (g : Geometry) (last : ℕ) (log : List Call) → g ≡ small → last ≡ 7 → log ≡ []
        → recovery_calls blank 7 [] ≡ recovery_calls (record { geometry = g; blocks = []; window = [] }) last [] ++ log
    calls_of g last log sizes same none = rw (sizes, same, none) refl

abbrev any : Image → Type 0
any image = Unit {0}

-- ends: from a start on nothing was written
none_is_written : (first : Seen) (blocks : Blocks) (start : IsStart (trust_of true true) first blocks) → WritesAll (trust_of true true) first first any start.to.is.last (Ok tt) → ⊥
none_is_written first blocks start writes =
    let all = writes.ends first blocks start [] (none_made (IsPut (recoverable_image blocks start.to.is)) first) tt refl in
    let size = ap (λ (l : List Call). length l) all.2 in
    omega (arith, size, length-append (recovery_calls (recoverable_image blocks start.to.is) start.to.is.last all.0) first.log)

-- stays, later, grows, failed
other_size : (honest : Bool) (last : ℕ) → WritesAll (trust_of false honest) seen (record seen { size = 3 }) any last (Ok tt) → ⊥
other_size honest last writes = let size = writes.stays.size in omega (arith, size)

fewer_faults : (honest : Bool) (last : ℕ) → WritesAll (trust_of false honest) failed seen any last (Ok tt) → ⊥
fewer_faults honest last writes = let less = writes.later.faults in omega (arith, less)

log_is_lost : (honest : Bool) (last : ℕ) → WritesAll (trust_of true honest) flushed seen any last (Ok tt) → ⊥
log_is_lost honest last writes =
    let since = writes.grows refl in let size = ap (λ (l : List Call). length l) since.1 in omega (arith, size, length-append since.0 (Flush true ∷ []))

failed_for_nothing : (honest : Bool) (last : ℕ) (fault : Failed) → WritesAll (trust_of false honest) seen seen any last (Err fault) → ⊥
failed_for_nothing honest last fault writes = let rose = writes.failed.rose in omega (arith, rose)

one_write_failed : (last : ℕ) (fault : Failed) → WritesAll (trust_of true false) seen call_failed any last (Err fault)
one_write_failed last fault = record {
  stays = record { opening = refl; size = refl };
  later = record { faults = omega arith; unkept = omega arith };
  grows = λ told. (Flush false ∷ [], refl);
  failed = last_is_failed true;
  ends = λ first blocks start calls made needs same. let fair = start.fair in absurd (cc fair);
}

failed_and_went_on : (honest : Bool) (last : ℕ) (fault : Failed) → WritesAll (trust_of true honest) seen called_after any last (Err fault) → ⊥
failed_and_went_on honest last fault writes = last_is_not writes.failed

-- The whole, of a device that doesn't tell: an answer, and a refusal.
unclean_recovered : (honest : Bool) → BothShow (trust_of false honest) (head_of false) no_entries seen seen HasNoFault → RecoversUnclean (trust_of false honest) (head_of false) seen seen (Ok 0)
unclean_recovered honest right = record {
  stays = record { opening = refl; size = refl };
  later = record { faults = omega arith; unkept = omega arith };
  grows = λ told. absurd (cc told);
  entries = none_of_zeros honest false right;
  fails = tt;
  nothing = tt;
  ends = λ first blocks start untouched accepted. let told = start.told in absurd (cc told);
}

unclean_refused : (honest : Bool) → RecoversUnclean (trust_of false honest) (head_of false) seen failed (Err Device)
unclean_refused honest = record {
  stays = record { opening = refl; size = refl };
  later = record { faults = omega arith; unkept = omega arith };
  grows = λ told. absurd (cc told);
  entries = tt;
  fails = journal_failed honest;
  nothing = inl refl;
  ends = λ first blocks start untouched accepted. let told = start.told in absurd (cc told);
}

module _ (honest : Bool) (head : Superblock) (n : ℕ) where
  -- stays, later, grows
  unclean_of_other_size : RecoversUnclean (trust_of false honest) head seen (record seen { size = 3 }) (Ok n) → ⊥
  unclean_of_other_size is = let size = is.stays.size in omega (arith, size)

  unclean_with_fewer_faults : RecoversUnclean (trust_of false honest) head failed seen (Ok n) → ⊥
  unclean_with_fewer_faults is = let less = is.later.faults in omega (arith, less)

  unclean_without_log : RecoversUnclean (trust_of true honest) head flushed seen (Ok n) → ⊥
  unclean_without_log is = let since = is.grows refl in let size = ap (λ (l : List Call). length l) since.1 in omega (arith, size, length-append since.0 (Flush true ∷ []))

  -- fails
  unclean_never : RecoversUnclean (trust_of false honest) head seen seen (Err Unclean) → ⊥
  unclean_never is = never_unclean (trust_of false honest) head seen seen is.fails

  -- nothing
  unclean_written : RecoversUnclean (trust_of true honest) head seen flushed (Err Memory) → ⊥
  unclean_written is = written_before is.nothing

-- entries
unclean_of_one : (trust : Trust) (now : Seen) → RecoversUnclean trust without_journal seen now (Ok 1) → ⊥
unclean_of_one trust now is = not_one trust now is.entries

-- ends
unclean_left : (first : Seen) (blocks : Blocks) (start : IsStart (trust_of true true) first blocks) (n : ℕ) → RecoversUnclean (trust_of true true) start.to.is.head first first (Ok n) → ⊥
unclean_left first blocks start n is =
    let all = is.ends first blocks start (untouched_yet true first) start.to.is.opens.accepted in
    let size = ap (λ (l : List Call). length l) all.2 in
    omega (arith, size, length-append (recovery_calls (recoverable_image blocks start.to.is) start.to.is.last all.0) first.log)
