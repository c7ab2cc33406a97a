-- For each definition a small case that it accepts, and one that it refuses.
use Rattle.std.proofs.Common.{ℕ, ◌≡◌, Bool, true, false, List, [], ◌∷◌, ◌++◌, Ok, Err, length, length-append, refl, ap, subst, inl, inr, arith}
pub use Rattle.image_model.proofs.ReadExample.{seen}
use Rattle.audit.specs.Reports.{HasNoFault}
use Rattle.blk_base.specs.declared.geometry.Super.{Super as Superblock}
use Rattle.blk_base.specs.declared.journal_entry.CommittedEntry.{CommittedEntry}
use Rattle.blk_base.specs.Forms.{pbn}
use Rattle.disk_model.specs.declared.call.Call.{Call}
use Rattle.disk_model.specs.declared.call.Call.TheVariants.{Read, Write, Flush}
use Rattle.disk_model.specs.Causes.{Rose}
use Rattle.disk_model.specs.Log.{Blocks}
use Rattle.disk_model.specs.Seen.{Seen}
use Rattle.disk_model.specs.Trust.{trust_of}
use Rattle.disk_model.specs.Since.{OnlyReads}
use Rattle.disk_model.specs.LogSteps.{FailedInLog}
use Rattle.disk_model.proofs.SinceLaws.{untouched_yet}
use Rattle.image_format.specs.Formats.{IsFailed, LastFailed}
use Rattle.image_model.specs.Maps.{Image}
use Rattle.image_model.specs.Sound.{image_of}
use Rattle.image_model.specs.declared.fault.ImageFault.TheVariants.{Device, Unclean, Memory}
use Rattle.image_layout.specs.Opened.{super_of_image}
use Rattle.recovery_laws.specs.Calls.{IsPut}
use Rattle.rebuild.proofs.ActLaws.{none_made}
use Rattle.rebuild.specs.Acts.{AreMade, Grows, HasStopped, IsFlush}
use Rattle.rebuild.specs.Again.{FindsClosed, HasClosedImage}
use Rattle.rebuild.specs.Outcomes.{WritesNothing}
use Rattle.rebuild.specs.Recoveries.{IsAnswer, IsRecovery, IsRefusal}
use Rattle.rebuild.specs.declared.forms.Recovered.TheVariants.{Clean, Entries}

-- a flush, and a block of no page and no counters
abbrev pub flushed : Seen
flushed = record seen { log = Flush true ∷ [] }

-- a flush that failed, and one that was called behind it
abbrev pub call_failed : Seen
call_failed = record seen { log = Flush false ∷ []; faults = 4 }

abbrev pub called_after : Seen
called_after = record seen { log = Flush true ∷ Flush false ∷ []; faults = 4 }

-- the first is the last call and failed; the second isn't
pub last_is_failed : (tells : Bool) → LastFailed tells seen call_failed
last_is_failed tells = record { rose = omega arith; logged = λ told. (Flush false, [], refl, inl refl) }

pub last_is_not : LastFailed true seen called_after → ⊥
last_is_not failed = let last = failed.logged refl in of_last last.0 last.1 last.2 last.3
  where
    of_last : (call : Call) (done : List Call) → IsFailed call → FailedInLog (done ++ []) (Flush true ∷ Flush false ∷ []) call (Rose 0 0) → ⊥
    of_last call done is (inr lost) = let rose = lost.1 in omega (arith, rose)
    of_last (Read at bytes ok) done is (inl stands) = absurd (cc stands)
    of_last (Write at bytes ok) done is (inl stands) = absurd (cc stands)
    of_last (Flush ok) done is (inl stands) = let front : Flush true ≡ Flush ok = cc stands in absurd (cc (front, is))

-- logged, each: since a start only reads and recovery's writes were made, and these
nothing_made : (image : Image) → AreMade (IsPut image) seen seen []
nothing_made image = none_made (IsPut image) seen

read_made : (image : Image) → AreMade (IsPut image) seen (record seen { log = Read (pbn 0) [] true ∷ [] }) (Read (pbn 0) [] true ∷ [])
read_made image = record { stays = record { opening = refl; size = refl }; logged = refl; each = (tt, tt) }

not_logged : (image : Image) → AreMade (IsPut image) seen flushed [] → ⊥
not_logged image made = let same = ap (λ (log : List Call). length log) made.logged in omega (arith, same)

no_flush : (image : Image) → AreMade (IsPut image) seen flushed (Flush true ∷ []) → ⊥
no_flush image made = made.each.0

-- stays: the device has as many blocks
other_size : (image : Image) → AreMade (IsPut image) seen (record seen { size = 3 }) [] → ⊥
other_size image made = let size = made.stays.size in omega (arith, size)

-- kind: the call that failed may be a flush, and no write of another block
flush_failed : (image : Image) → HasStopped (IsPut image) IsFlush seen (record seen { log = Flush false ∷ [] })
flush_failed image = record { calls = []; each = tt; call = Flush true; kind = inr refl; logged = inl refl }

call_lost : (image : Image) → HasStopped (IsPut image) IsFlush seen seen
call_lost image = record { calls = []; each = tt; call = Flush true; kind = inr refl; logged = inr (refl, tt) }

-- A refusal wrote nothing, or a call failed.
refused : WritesNothing true seen seen Memory
refused = inr (untouched_yet true seen)

failed : WritesNothing true seen flushed Device
failed = inl refl

-- Answers by the image: a clean one isn't recovered, and an unclean one isn't clean.
module _ (blocks : Blocks) (head : Superblock) (accepted : super_of_image blocks ≡ Ok head) where
  same_superblock : (other : Superblock) → super_of_image blocks ≡ Ok other → other ≡ head
  same_superblock other is = cc (is, accepted)

  unclean_is_not_clean : head.clean ≡ false → IsAnswer blocks Clean → ⊥
  unclean_is_not_clean unclean (other, is, clean) =
      let same = ap (λ (h : Superblock). h.clean) (same_superblock other is) in absurd (cc (same, unclean, clean))

  clean_has_no_entries : (count : ℕ) → head.clean ≡ true → IsAnswer blocks (Entries count) → ⊥
  clean_has_no_entries count clean (other, last, window, opens, unclean, number, right) =
      let same = ap (λ (h : Superblock). h.clean) (same_superblock other opens.accepted) in absurd (cc (same, unclean, clean))

  -- and an image with a fault has no answer but a refusal
  faulty_has_no_entries : (count : ℕ) → ((window : List CommittedEntry) → HasNoFault (image_of head blocks window) → ⊥) → IsAnswer blocks (Entries count) → ⊥
  faulty_has_no_entries count faulty (other, last, window, opens, unclean, number, right) =
      faulty window (subst (λ (h : Superblock). HasNoFault (image_of h blocks window)) (same_superblock other opens.accepted) right)

  -- count: as many as the window has
  clean_answer : head.clean ≡ true → IsAnswer blocks Clean
  clean_answer clean = (head, accepted, clean)

  -- Refusals: want of memory comes for an unclean image alone, and a device's only where the last call failed.
  clean_has_memory : head.clean ≡ true → IsRefusal blocks seen seen Memory → ⊥
  clean_has_memory clean (other, is, unclean) =
      let same = ap (λ (h : Superblock). h.clean) (same_superblock other is) in absurd (cc (same, unclean, clean))

no_call_failed : (blocks : Blocks) → IsRefusal blocks seen seen Device → ⊥
no_call_failed blocks failed = let rose = failed.rose in omega (arith, rose)

a_call_failed : (blocks : Blocks) → IsRefusal blocks seen call_failed Device
a_call_failed blocks = last_is_failed true

another_was_made : (blocks : Blocks) → IsRefusal blocks seen called_after Device → ⊥
another_was_made blocks failed = last_is_not failed

-- it mends what is unclean, and looks at no number of mappings
never_unclean : (blocks : Blocks) → IsRefusal blocks seen seen Unclean → ⊥
never_unclean blocks none = none

pub none_flushed : (calls : List Call) → Flush true ∷ [] ≡ calls ++ [] → OnlyReads calls → ⊥
none_flushed [] same reads = absurd (cc same)
none_flushed (Flush ok ∷ calls) same reads = reads
none_flushed (Read at bytes ok ∷ calls) same reads = absurd (cc same)
none_flushed (Write at bytes ok ∷ calls) same reads = reads

-- grows: the log has what was in it before, whatever the device does
log_grew : Grows true seen flushed
log_grew = λ told. (Flush true ∷ [], refl)

log_lost : IsRecovery (trust_of true false) flushed seen (Err Device) → ⊥
log_lost is = let since = is.grows refl in let size = ap (λ (log : List Call). length log) since.1 in omega (arith, size, length-append since.0 (Flush true ∷ []))

-- nothing: after another refusal than a device's nothing was written
written_and_refused : IsRecovery (trust_of true true) seen flushed (Err Memory) → ⊥
written_and_refused is = elim is.nothing [
  | inl device ↦ absurd (cc device)
  | inr untouched ↦
      let since = untouched.reads refl in
      none_flushed since.0 since.1 since.2
]

-- A second recovery: an honest device has a closed image; it finds it closed, and writes nothing; or the last call
-- failed
not_honest : HasClosedImage (trust_of true false) seen → ⊥
not_honest has = let fair : false ≡ true = has.1.fair in absurd (cc fair)

found_clean : FindsClosed true seen seen (Ok Clean)
found_clean = (refl, untouched_yet true seen)

found_unclean : (count : ℕ) → FindsClosed true seen seen (Ok (Entries count)) → ⊥
found_unclean count found = absurd (cc found.0)

found_and_written : FindsClosed true seen flushed (Ok Clean) → ⊥
found_and_written found = let since = found.1.reads refl in none_flushed since.0 since.1 since.2

then_failed : FindsClosed true seen call_failed (Err Device)
then_failed = (refl, last_is_failed true)

then_refused : FindsClosed true seen seen (Err Memory) → ⊥
then_refused found = absurd (cc found.0)

then_none_failed : FindsClosed true seen seen (Err Device) → ⊥
then_none_failed found = let rose = found.1.rose in omega (arith, rose)

then_went_on : FindsClosed true seen called_after (Err Device) → ⊥
then_went_on found = last_is_not found.1
