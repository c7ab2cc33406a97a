-- How the recovery of an image ends whose superblock was read.
use Rattle.std.proofs.Common.{ℕ, ◌≡◌, ◌≤◌, true, List, [], ◌∷◌, ◌++◌, Result, Ok, Err, IsErr, IsErrAnd, reverse, refl, sym, subst, inl, inr, arith}
use Rattle.audit.proofs.AuditLaws.{both_follow}
use Rattle.audit.specs.Reports.{HasNoFault}
use Rattle.blk_base.specs.Regions.{needed_blocks}
use Rattle.blk_base.specs.declared.geometry.Geometry.{Geometry}
use Rattle.blk_base.specs.declared.geometry.Super.{Super as Superblock}
use Rattle.blk_base.specs.declared.place.Mapping.{Mapping}
use Rattle.disk_model.specs.declared.call.Call.{Call}
use Rattle.disk_model.specs.declared.call.Call.TheVariants.{Flush}
use Rattle.disk_model.specs.declared.call.Failed.{Failed}
use Rattle.disk_model.specs.Log.{Blocks}
use Rattle.disk_model.specs.Seen.{Seen}
use Rattle.disk_model.specs.Trust.{Trust}
use Rattle.disk_model.specs.Since.{IsUntouched}
use Rattle.disk_model.proofs.SeenLaws.{later_on, stays_on}
use Rattle.disk_model.proofs.SinceLaws.{untouched_on, were_only_read}
use Rattle.image_format.specs.Calls.{put}
use Rattle.image_format.specs.Runs.{Makes}
use Rattle.image_layout.specs.Opened.{super_of_image}
use Rattle.image_layout.specs.Superblock.{super_block}
use Rattle.image_model.specs.Maps.{Image}
use Rattle.image_model.specs.Sound.{Opens}
use Rattle.image_model.specs.declared.fault.ImageFault.{ImageFault}
use Rattle.image_model.specs.declared.fault.ImageFault.TheVariants.{Device}
use Rattle.image_model.specs.Looked.{HasOneImageButIndex}
use Rattle.journal_window.proofs.ReadWindowLaws.{window_shown}
use Rattle.journal_window.specs.Reads.{IsWindowRead}
use Rattle.journal_window.specs.States.{WindowState}
use Rattle.recovery_laws.specs.Calls.{ArePuts, IsPut}
use Rattle.recovery_laws.specs.Kept.{recovered_super}
use Rattle.recovery_laws.specs.Recoverable.{recoverable_image}
use Rattle.replay_counts.specs.Recovered.{HasCounts}
use Rattle.replay_map.specs.Changes.{AreNewest}
use Rattle.replay_map.specs.Replayed.{HasMap}
use Rattle.replay_map.specs.declared.changes.SlotId.{SlotId}
use Rattle.rebuild.proofs.ActLaws.{grows_on, made_grows, made_stays, none_made, read_made, untouched_grows}
use Rattle.rebuild.proofs.FailLaws.{failed_after, failed_on, makes_failed, on_err}
use Rattle.rebuild.proofs.KeptLaws.{closes_to, image_as, made_begun, opened_as, stopped_begun}
use Rattle.rebuild.proofs.ReadLaws.{both_shown, still}
use Rattle.rebuild.specs.Acts.{Acts, AreMade, IsStart, recovery}
use Rattle.rebuild.specs.Done.{AreBothDone, HasContents}
use Rattle.rebuild.specs.Outcomes.{Ends, IsBegunSince, RecoversUnclean, UncleanFails, WritesAll}
use Rattle.audit.specs.Reads.{AreContents}
use Rattle.audit.specs.declared.forms.Contents.{Contents}

ends_failed : {T E : Type 0} (image : Image) (last : ℕ) (first now : Seen) (result : Result T E) → IsErr result → IsBegunSince image last first now → Ends image last first now result
ends_failed image last first now (Ok _) is begun = absurd (cc is)
ends_failed image last first now (Err _) is begun = begun

-- Writing.

pub blocks_failed : (trust : Trust) (before now : Seen) (N : Image → Type 0) (last : ℕ) (fault : Failed) (result : Result (Unit {0}) Failed) → IsErr result
    → Acts trust.tells (recovery trust) before now N AreBothDone (Err fault) → WritesAll trust before now N last result
blocks_failed trust before now N last fault result is acts = record {
  stays = acts.stays;
  later = acts.later;
  grows = acts.grows;
  failed = on_err trust.tells before now result acts.failed;
  ends = λ first blocks start calls made has same.
      ends_failed (recoverable_image blocks start.to.is) start.to.is.last first now result is
      (stopped_begun trust first blocks start now (acts.writes start.told first (blocks, start) calls made has));
}

module _ (trust : Trust) (before middle now : Seen) (N : Image → Type 0) (last : ℕ) where
  abbrev closing : Geometry → List Call
  closing g = Flush true ∷ put 0 (super_block (recovered_super g last)) ∷ Flush true ∷ []

  pub all_written : (g : Geometry) (result : Result (Unit {0}) Failed) → ((image : Image) → N image → image.geometry ≡ g) → Acts trust.tells (recovery trust) before middle N AreBothDone (Ok tt)
      → Makes trust.tells middle now (closing g) result → WritesAll trust before now N last result
  all_written g result sizes acts makes =
      let parts = made_stays trust.tells middle now (closing g) result makes in record {
        stays = stays_on before middle now acts.stays parts.0;
        later = later_on before middle now acts.later parts.1;
        grows = grows_on trust.tells before middle now acts.grows (made_grows trust.tells middle now (closing g) result makes);
        failed = failed_on trust.tells before middle now result acts.later acts.grows (makes_failed trust.tells middle now (closing g) result makes);
        ends = λ first blocks start calls made has same.
            let image = recoverable_image blocks start.to.is in
            let went = acts.writes start.told first (blocks, start) calls made has in
            let are : ArePuts image (went.0 ++ calls) = record { each = went.1.each; pages = went.2.0; counters = went.2.1 } in
            closes_to trust first blocks start middle now (went.0 ++ calls) went.1 are result
            (subst (λ (n : ℕ). Makes trust.tells middle now (Flush true ∷ put 0 (super_block (recovered_super image.geometry n)) ∷ Flush true ∷ []) result) (sym same)
            (subst (λ (h : Geometry). Makes trust.tells middle now (closing h) result) (sym (sizes image has)) makes));
      }

-- Reading.

pub read_refused : (trust : Trust) (head : Superblock) (before now : Seen) (why : ImageFault) → UncleanFails trust head before now why → IsUntouched trust.tells before now
    → RecoversUnclean trust head before now (Err why)
read_refused trust head before now why fails untouched = record {
  stays = untouched.stays;
  later = untouched.later;
  grows = untouched_grows trust.tells before now untouched;
  entries = tt;
  fails = fails;
  nothing = inr untouched;
  ends = λ first blocks start before_it accepted.
      let image = recoverable_image blocks start.to.is in
      let made = read_made trust.tells (recovery trust) image first first now [] start.told (none_made (IsPut image) first) (untouched_on trust.tells first before now before_it untouched) in
      made_begun trust first blocks start now (made.0 ++ []) made.1;
}

pub passed_as : (trust : Trust) (head : Superblock) (before now : Seen) (why : ImageFault) (result : Result ℕ ImageFault) → IsErrAnd result (λ e. e ≡ why)
    → RecoversUnclean trust head before now (Err why) → RecoversUnclean trust head before now result
passed_as trust head before now why (Ok x) is recovers = absurd is
passed_as trust head before now why (Err e) is recovers = subst (λ (f : ImageFault). RecoversUnclean trust head before now (Err f)) (sym is) recovers

-- Both.

module _ (trust : Trust) (head : Superblock) (before second third now : Seen) (window : WindowState) (changes : List (SlotId × Mapping)) (contents : Contents)
    (read : IsWindowRead trust before second head window) (is : AreContents trust head window second third contents) (read_only : IsUntouched trust.tells second third)
    (newest : AreNewest window.entries changes) (room : needed_blocks head.geometry ≤ before.size) where
  abbrev Needs : Image → Type 0
  Needs = HasContents head.geometry changes contents.map.links.items contents.counts.counts.items contents.counts.sectors.items

  window_read : IsUntouched trust.tells before second
  window_read = were_only_read trust 1 before second (reverse read.0) read.1.read

  all_read : IsUntouched trust.tells before third
  all_read = untouched_on trust.tells before second third window_read read_only

  module _ (first : Seen) (blocks : Blocks) (start : IsStart trust first blocks) (before_it : IsUntouched trust.tells first before) (accepted : super_of_image blocks ≡ Ok head) where
    abbrev image : Image
    image = recoverable_image blocks start.to.is

    one_here : HasOneImageButIndex before.opening before.log blocks
    one_here = still trust blocks start.told start.fair first before before_it start.to.one

    opens : Opens blocks head window.last window.entries
    opens = window_shown trust before second blocks start.told start.fair one_here head room accepted window read

    one_there : HasOneImageButIndex second.opening second.log blocks
    one_there = still trust blocks start.told start.fair before second window_read one_here

    needs : Needs image
    needs =
        let room_there : needed_blocks head.geometry ≤ second.size = let size = window_read.stays.size in omega (arith, size, room) in
        let both = both_shown trust blocks start.told start.fair head window second third
        (λ i. HasMap i contents.map × HasCounts i contents.counts.counts.items contents.counts.sectors.items) accepted one_there room_there is.shown in
        subst Needs (image_as blocks start.to.is head window.last window.entries opens)
        (record { sizes = refl; newest = newest; links = both.0.links; counts = both.1 })

    last_is : start.to.is.last ≡ window.last
    last_is = sym (opened_as blocks start.to.is head window.last window.entries opens).1

    made : (reads : List Call) × AreMade (IsPut image) first third (reads ++ [])
    made = read_made trust.tells (recovery trust) image first first third [] start.told (none_made (IsPut image) first) (untouched_on trust.tells first before third before_it all_read)

    ends_so : (result : Result (Unit {0}) Failed) → WritesAll trust third now Needs window.last result → Ends image start.to.is.last first now result
    ends_so result writes = writes.ends first blocks start (made.0 ++ []) made.1 needs last_is

  pub write_failed : (fault : Failed) → WritesAll trust third now Needs window.last (Err fault) → RecoversUnclean trust head before now (Err Device)
  write_failed fault writes = record {
    stays = stays_on before third now all_read.stays writes.stays;
    later = later_on before third now all_read.later writes.later;
    grows = grows_on trust.tells before third now (untouched_grows trust.tells before third all_read) writes.grows;
    entries = tt;
    fails = inr (inr (refl, failed_after trust.tells before third now all_read writes.failed));
    nothing = inl refl;
    ends = λ first blocks start before_it accepted. ends_so first blocks start before_it accepted (Err fault) writes;
  }

  pub unclean_recovered : WritesAll trust third now Needs window.last (Ok tt) → RecoversUnclean trust head before now (Ok contents.map.entries)
  unclean_recovered writes = record {
    stays = stays_on before third now all_read.stays writes.stays;
    later = later_on before third now all_read.later writes.later;
    grows = grows_on trust.tells before third now (untouched_grows trust.tells before third all_read) writes.grows;
    entries = record {
      middle = second;
      behind = third;
      window = window;
      read = read;
      right = both_follow trust head window second third
          (λ image. HasMap image contents.map × HasCounts image contents.counts.counts.items contents.counts.sectors.items) HasNoFault
          (λ image same has. record { pages = has.0.pages; stored = λ place inside. (_, has.1.stored place inside); unshared = has.0.unshared }) is.shown;
      stays = writes.stays;
      later = writes.later;
      grows = writes.grows;
      number = is.entries;
    };
    fails = tt;
    nothing = tt;
    ends = λ first blocks start before_it accepted. ends_so first blocks start before_it accepted (Ok tt) writes;
  }

  -- by the sizes of a layout, and a last sequence that was asked for
  writes_as : (g : Geometry) (last : ℕ) (result : Result (Unit {0}) Failed) → g ≡ head.geometry → last ≡ window.last
      → WritesAll trust third now (HasContents g changes contents.map.links.items contents.counts.counts.items contents.counts.sectors.items) last result
      → WritesAll trust third now Needs window.last result
  writes_as g last result sizes same writes =
      subst (λ (n : ℕ). WritesAll trust third now Needs n result) same
      (subst (λ (h : Geometry). WritesAll trust third now (HasContents h changes contents.map.links.items contents.counts.counts.items contents.counts.sectors.items) last result) sizes writes)

  pub write_failed_as : (g : Geometry) (last : ℕ) (fault : Failed) → g ≡ head.geometry → last ≡ window.last
      → WritesAll trust third now (HasContents g changes contents.map.links.items contents.counts.counts.items contents.counts.sectors.items) last (Err fault)
      → RecoversUnclean trust head before now (Err Device)
  write_failed_as g last fault sizes same writes = write_failed fault (writes_as g last (Err fault) sizes same writes)

  pub recovered_as : (g : Geometry) (last : ℕ) → g ≡ head.geometry → last ≡ window.last
      → WritesAll trust third now (HasContents g changes contents.map.links.items contents.counts.counts.items contents.counts.sectors.items) last (Ok tt)
      → RecoversUnclean trust head before now (Ok contents.map.entries)
  recovered_as g last sizes same writes = unclean_recovered (writes_as g last (Ok tt) sizes same writes)
