-- What a forced rebuild promises, by how it ended.
use Rattle.std.proofs.Common.{ℕ, ◌≡◌, ◌≤◌, ◌<◌, ◌^◌, ◌++◌, Bool, IsTrue, List, [], Result, Ok, Err, IsErrAnd, length, reverse, refl, sym, ◌∙◌, ap, subst, inl, inr}
use Rattle.blk_base.specs.Limits.{IsGeometry}
use Rattle.blk_base.specs.Regions.{IndexBlock, block_of, needed_blocks, data_blocks as all_blocks}
use Rattle.blk_base.specs.declared.geometry.Geometry.{Geometry}
use Rattle.blk_base.specs.declared.geometry.Super.{Super as Superblock}
use Rattle.audit.specs.Tallies.{used_in}
use Rattle.blk_base.specs.declared.journal_entry.CommittedEntry.{CommittedEntry}
use Rattle.blk_base.specs.declared.place.Mapping.{Mapping}
use Rattle.disk_model.specs.declared.call.Call.{Call}
use Rattle.disk_model.specs.declared.call.Failed.{Failed}
use Rattle.disk_model.specs.Log.{Blocks}
use Rattle.disk_model.specs.Seen.{Seen}
use Rattle.disk_model.specs.Trust.{Trust}
use Rattle.disk_model.specs.Since.{IsUntouched, OnlyReads}
use Rattle.disk_model.proofs.LookedLaws.{one_in-since, one_in-unique}
use Rattle.disk_model.proofs.SeenLaws.{later_on, stays_on}
use Rattle.disk_model.proofs.SinceLaws.{untouched_on, were_only_read}
use Rattle.image_layout.specs.Opened.{super_of_image}
use Rattle.image_layout.specs.Values.{journal_of}
use Rattle.image_model.proofs.WindowLaws.{one_window}
use Rattle.image_model.specs.Looked.{HasOneImageButIndex, looked_in}
use Rattle.image_model.specs.Maps.{Image, image_with}
use Rattle.image_model.specs.Sound.{image_of}
use Rattle.image_model.specs.Windows.{IsWindow}
use Rattle.image_model.specs.declared.fault.ImageFault.{ImageFault}
use Rattle.image_model.specs.declared.fault.ImageFault.TheVariants.{Super, Window, Page, Counter, SharedPage, Counts, Device, Unclean, Memory}
use Rattle.image_opening.specs.Heads.{HeadFails, IsHeadRead}
use Rattle.journal_window.specs.Reads.{IsWindowRead}
use Rattle.journal_window.specs.States.{WindowState}
use Rattle.rebuild.proofs.ActLaws.{grows_on, none_made, read_made, untouched_grows}
use Rattle.rebuild.specs.Acts.{AreMade, IsPageCall, page_writing}
use Rattle.rebuild.proofs.FailLaws.{failed_after}
use Rattle.rebuild.proofs.KeptLaws.{reads_behind, reads_miss}
use Rattle.rebuild.proofs.ReadLaws.{still}
use Rattle.rebuild.specs.Recoveries.{IsTold}
use Rattle.replay_map.specs.Changes.{AreNewest}
use Rattle.replay_map.specs.Replayed.{HasMap, IsFound, IsMapRead, MapFails}
use Rattle.replay_map.specs.declared.changes.SlotId.{SlotId}
use Rattle.replay_map.specs.declared.recovered.RecoveredMap.{RecoveredMap}
use Rattle.force_rebuild.proofs.CountedLaws.{are_mappings, counted_to, uncountable}
use Rattle.force_rebuild.proofs.EndLaws.{all_kept, all_rebuilt, made_kept}
use Rattle.force_rebuild.proofs.ShownLaws.{accepted, forced_answer, found_here, head_refused, unclosed_refused, window_here}
use Rattle.force_rebuild.proofs.StopLaws.{alike_is_kept}
use Rattle.force_rebuild.specs.Starts.{IsStart, image_at}
use Rattle.force_rebuild.specs.Counted.{AreCounters, CountersFail}
use Rattle.force_rebuild.specs.ForcedRebuild.{CountingFails, ForcesUnclosed, IsForcing, IsToRebuild, UnclosedFails, unclosed}
use Rattle.force_rebuild.specs.Outcomes.{Ends, HasContents, IsKeptSince, WritesAll}
use Rattle.force_rebuild.specs.Rebuildable.{IsRebuildable, rebuildable_image}
use Rattle.force_rebuild.specs.declared.forms.Forced.{Forced}

-- Where there were only reads.

pub untouched_kept : (tells : Bool) (before now : Seen) (blocks : Blocks) (is : IsRebuildable blocks) → IsTrue tells
    → HasOneImageButIndex before.opening before.log blocks → IsUntouched tells before now → IsKeptSince (rebuildable_image blocks is) before now
untouched_kept tells before now blocks is told one untouched =
    let since = untouched.reads told in (
      since.0,
      since.1,
      record {
        kept = λ newer older image same left.
            let reads = reads_behind newer older (subst OnlyReads same since.2) in
            let still = one_in-since (looked_in blocks) before.opening before.log (older ++ before.log) blocks (older, refl, reads) one in
            alike_is_kept blocks is image (one_in-unique (looked_in blocks) before.opening (older ++ before.log) blocks image still left);
        index = λ i below. reads_miss (block_of is.head.geometry (IndexBlock i)) since.0 since.2;
      },
    )

-- An image has one window.

pub windows_alike : (blocks : Blocks) (is : IsRebuildable blocks) (head : Superblock) (last : ℕ) (window : List CommittedEntry) → super_of_image blocks ≡ Ok head
    → IsWindow head.geometry head.start (journal_of head.geometry blocks) last window → (is.head ≡ head) × (is.last ≡ last) × (is.window ≡ window)
windows_alike blocks is head last window there is_window =
    let here = is.accepted in
    let same : is.head ≡ head = cc (here, there) in
    let own = subst (λ (h : Superblock). IsWindow h.geometry h.start (journal_of h.geometry blocks) is.last is.window) same is.is_window in
    let one = one_window head.geometry head.start (journal_of head.geometry blocks) is.last last is.window window own is_window in
    (same, one.0, one.1)

-- Behind the superblock.

pub read_refused : (trust : Trust) (u : Superblock) (before now : Seen) (why : ImageFault) → UnclosedFails trust u before now why → IsUntouched trust.tells before now
    → ForcesUnclosed trust u before now (Err why)
read_refused trust u before now why fails untouched = record {
  stays = untouched.stays;
  later = untouched.later;
  grows = untouched_grows trust.tells before now untouched;
  answers = tt;
  fails = fails;
  nothing = inr untouched;
  ends = λ first blocks start before_it same.
      let image = image_at blocks start in
      let made = read_made trust.tells (page_writing trust.honest) image first first now [] start.told (none_made (IsPageCall image) first) (untouched_on trust.tells first before now before_it untouched) in
      made_kept trust first blocks start now (made.0 ++ []) made.1;
}

pub passed_as : (trust : Trust) (u : Superblock) (before now : Seen) (why : ImageFault) (result : Result Forced ImageFault) → IsErrAnd result (λ e. e ≡ why)
    → ForcesUnclosed trust u before now (Err why) → ForcesUnclosed trust u before now result
passed_as trust u before now why (Ok x) is forces = absurd is
passed_as trust u before now why (Err e) is forces = subst (λ (f : ImageFault). ForcesUnclosed trust u before now (Err f)) (sym is) forces

-- why there is no map, or no counts of it
pub map_refused : (trust : Trust) (g : Geometry) (window : WindowState) (before now : Seen) (why : ImageFault) → MapFails trust g window.entries before now why
    → CountingFails trust g window.entries before now why
map_refused trust g window before now (Page at fault) fails = fails
map_refused trust g window before now (SharedPage at) fails = fails
map_refused trust g window before now Device fails = fails
map_refused trust g window before now Memory fails = tt
map_refused trust g window before now (Super fault) fails = absurd fails
map_refused trust g window before now (Window sequence) fails = absurd fails
map_refused trust g window before now (Counter at point) fails = absurd fails
map_refused trust g window before now (Counts at stored mapped) fails = absurd fails
map_refused trust g window before now Unclean fails = absurd fails

pub counts_refused : (trust : Trust) (g : Geometry) (window : WindowState) (map : RecoveredMap) (before now : Seen) (why : ImageFault) → IsGeometry g
    → IsMapRead trust g window before now map → CountersFail g map why → CountingFails trust g window.entries before now why
counts_refused trust g window map before now (Counts at stored mapped) sizes read (counts, tallied, above) = (
  read.found.0,
  read.found.1,
  λ blocks shows. uncountable (image_with g blocks window.entries) map (read.found.2 blocks shows) counts tallied at stored mapped sizes above,
)
counts_refused trust g window map before now Memory sizes read fails = tt
counts_refused trust g window map before now (Page at fault) sizes read fails = absurd fails
counts_refused trust g window map before now (SharedPage at) sizes read fails = absurd fails
counts_refused trust g window map before now Device sizes read fails = absurd fails
counts_refused trust g window map before now (Super fault) sizes read fails = absurd fails
counts_refused trust g window map before now (Window sequence) sizes read fails = absurd fails
counts_refused trust g window map before now (Counter at point) sizes read fails = absurd fails
counts_refused trust g window map before now Unclean sizes read fails = absurd fails

-- Once all was read and counted.
module _ (trust : Trust) (u : Superblock) (before second third now : Seen) (window : WindowState) (changes : List (SlotId × Mapping)) (map : RecoveredMap) (counters : List ℕ)
    (read : IsWindowRead trust before second u window) (map_read : IsMapRead trust u.geometry window second third map) (read_only : IsUntouched trust.tells second third)
    (newest : AreNewest window.entries changes) (are : AreCounters u.geometry map counters) (room : needed_blocks u.geometry ≤ before.size) where
  abbrev Needs : Image → Type 0
  Needs = HasContents u.geometry changes map.links.items counters

  all_read : IsUntouched trust.tells before third
  all_read = untouched_on trust.tells before second third (were_only_read trust 1 before second (reverse read.0) read.1.read) read_only

  module _ (first : Seen) (blocks : Blocks) (start : IsStart trust first blocks) (before_it : IsUntouched trust.tells first before) (same : unclosed start.is.head ≡ u) where
    abbrev image : Image
    image = image_at blocks start

    sizes : start.is.head.geometry ≡ u.geometry
    sizes = ap (λ (h : Superblock). h.geometry) same

    one_here : HasOneImageButIndex before.opening before.log blocks
    one_here = still trust blocks start.told start.fair first before before_it start.one

    read_here : IsWindowRead trust before second (unclosed start.is.head) window
    read_here = subst (λ (h : Superblock). IsWindowRead trust before second h window) (sym same) read

    enough : needed_blocks start.is.head.geometry ≤ before.size
    enough = subst (λ (g : Geometry). needed_blocks g ≤ before.size) (sym sizes) room

    alike : (start.is.head ≡ start.is.head) × (start.is.last ≡ window.last) × (start.is.window ≡ window.entries)
    alike =
        windows_alike blocks start.is start.is.head window.last window.entries start.is.accepted
        (window_here trust blocks start.told start.fair before start.is.head start.is.accepted one_here enough second window read_here)

    has_map : HasMap image map
    has_map =
        let found = found_here trust blocks start.told start.fair before start.is.head start.is.accepted one_here enough second window read_here third (λ i. HasMap i map)
        (subst (λ (g : Geometry). IsFound trust g window.entries second third (λ i. HasMap i map)) (sym sizes) map_read.found) in
        subst (λ (entries : List CommittedEntry). HasMap (image_of start.is.head blocks entries) map) (sym alike.2) found

    needs : Needs image
    needs =
        let here : AreCounters image.geometry map counters = subst (λ (g : Geometry). AreCounters g map counters) (sym sizes) are in
        record {
          sizes = sizes;
          newest = subst (λ (entries : List CommittedEntry). AreNewest entries changes) (sym alike.2) newest;
          links = has_map.links;
          mappings = are_mappings image map has_map counters here.tallied here.limit;
        }

    made : (reads : List Call) × AreMade (IsPageCall image) first third (reads ++ [])
    made = read_made trust.tells (page_writing trust.honest) image first first third [] start.told (none_made (IsPageCall image) first) (untouched_on trust.tells first before third before_it all_read)

    ends_so : (result : Result (Unit {0}) Failed) → WritesAll trust third now Needs window.last result → Ends image start.is.last first now result
    ends_so result writes =
        subst (λ (n : ℕ). Ends image n first now result) (sym alike.1) (writes.ends first blocks start (made.0 ++ []) made.1 needs alike.1)

  write_failed : (fault : Failed) → WritesAll trust third now Needs window.last (Err fault) → ForcesUnclosed trust u before now (Err Device)
  write_failed fault writes = record {
    stays = stays_on before third now all_read.stays writes.stays;
    later = later_on before third now all_read.later writes.later;
    grows = grows_on trust.tells before third now (untouched_grows trust.tells before third all_read) writes.grows;
    answers = tt;
    fails = inr (inr (refl, failed_after trust.tells before third now all_read writes.failed));
    nothing = inl refl;
    ends = λ first blocks start before_it same. ends_so first blocks start before_it same (Err fault) writes;
  }

  all_forced : (forced : Forced) → forced.used ≡ used_in counters → forced.total ≡ all_blocks u.geometry → WritesAll trust third now Needs window.last (Ok tt)
      → ForcesUnclosed trust u before now (Ok forced)
  all_forced forced used all writes = record {
    stays = stays_on before third now all_read.stays writes.stays;
    later = later_on before third now all_read.later writes.later;
    grows = grows_on trust.tells before third now (untouched_grows trust.tells before third all_read) writes.grows;
    answers = record {
      middle = second;
      behind = third;
      window = window;
      read = read;
      counted = (
        map_read.found.0,
        map_read.found.1,
        λ blocks shows.
            counted_to (image_with u.geometry blocks window.entries) map (map_read.found.2 blocks shows) counters are.tallied forced are.limit used all,
      );
      stays = writes.stays;
      later = writes.later;
      grows = writes.grows;
    };
    fails = tt;
    nothing = tt;
    ends = λ first blocks start before_it same. ends_so first blocks start before_it same (Ok tt) writes;
  }

  -- by the sizes of a layout, and a last sequence that was asked for
  writes_as : (g : Geometry) (last : ℕ) (result : Result (Unit {0}) Failed) → g ≡ u.geometry → last ≡ window.last
      → WritesAll trust third now (HasContents g changes map.links.items counters) last result → WritesAll trust third now Needs window.last result
  writes_as g last result sizes same writes =
      subst (λ (n : ℕ). WritesAll trust third now Needs n result) same
      (subst (λ (h : Geometry). WritesAll trust third now (HasContents h changes map.links.items counters) last result) sizes writes)

  pub write_failed_as : (g : Geometry) (last : ℕ) (fault : Failed) → g ≡ u.geometry → last ≡ window.last
      → WritesAll trust third now (HasContents g changes map.links.items counters) last (Err fault) → ForcesUnclosed trust u before now (Err Device)
  write_failed_as g last fault sizes same writes = write_failed fault (writes_as g last (Err fault) sizes same writes)

  pub forced_as : (g : Geometry) (last : ℕ) (forced : Forced) → g ≡ u.geometry → last ≡ window.last → forced.used ≡ used_in counters → forced.total ≡ all_blocks u.geometry
      → WritesAll trust third now (HasContents g changes map.links.items counters) last (Ok tt) → ForcesUnclosed trust u before now (Ok forced)
  forced_as g last forced sizes same used all writes = all_forced forced used all (writes_as g last (Ok tt) sizes same writes)

-- The whole.

module _ (trust : Trust) (before : Seen) where
  pub head_failed : (now : Seen) (why : ImageFault) → (IsTrue trust.tells → length before.opening ≡ before.size) → HeadFails trust before now why → IsUntouched trust.tells before now
      → IsForcing trust before now (Err why)
  head_failed now why told fails untouched = record {
    stays = untouched.stays;
    later = untouched.later;
    grows = untouched_grows trust.tells before now untouched;
    answers = tt;
    fails = inl fails;
    nothing = inr untouched;
    says = λ blocks is. head_refused trust before blocks is now why (told is.told) fails;
    stops = λ blocks is to. untouched_kept trust.tells before now blocks to.is is.told is.one untouched;
    rebuilt = tt;
  }

  module _ (middle now : Seen) (head : Superblock) (read : IsHeadRead trust before middle head) (untouched : IsUntouched trust.tells before middle) (named : head.geometry.nonce < 2 ^ 64) where
    same_head : (blocks : Blocks) → IsTold trust before blocks → (is : IsRebuildable blocks) → is.head ≡ head
    same_head blocks told is = let here = accepted trust before blocks told middle head read in let own = is.accepted in cc (here, own)

    abbrev start_of : (blocks : Blocks) (told : IsTold trust before blocks) (to : IsToRebuild blocks) → IsStart trust before blocks
    start_of blocks told to =
        let same = same_head blocks told to.is in
        record {
          told = told.told;
          fair = told.fair;
          one = told.one;
          is = to.is;
          more = to.more;
          named = subst (λ (h : Superblock). h.geometry.nonce < 2 ^ 64) (sym same) named;
        }

    same_unclosed : (blocks : Blocks) → IsTold trust before blocks → (is : IsRebuildable blocks) → unclosed is.head ≡ unclosed head
    same_unclosed blocks told is = ap unclosed (same_head blocks told is)

    pub was_forced : (forced : Forced) → ForcesUnclosed trust (unclosed head) middle now (Ok forced) → IsForcing trust before now (Ok forced)
    was_forced forced is_so = record {
      stays = stays_on before middle now untouched.stays is_so.stays;
      later = later_on before middle now untouched.later is_so.later;
      grows = grows_on trust.tells before middle now (untouched_grows trust.tells before middle untouched) is_so.grows;
      answers = (head, middle, read, is_so.answers);
      fails = tt;
      nothing = tt;
      says = λ blocks told. forced_answer trust before blocks told middle head read now forced is_so.answers;
      stops = λ blocks told to.
          let start = start_of blocks told to in
          all_kept trust before blocks start now (is_so.ends before blocks start untouched (same_unclosed blocks told to.is));
      rebuilt = λ blocks told to.
          let start = start_of blocks told to in
          let made = is_so.ends before blocks start untouched (same_unclosed blocks told to.is) in
          let left = all_rebuilt trust before blocks start now made in
          let opening = untouched.stays.opening in
          let opening_too = is_so.stays.opening in
          (left.0, subst (λ (bs : Blocks). HasOneImageButIndex bs now.log left.0) (sym (opening_too ∙ opening)) left.1, left.2);
    }

    pub was_refused : (why : ImageFault) → ForcesUnclosed trust (unclosed head) middle now (Err why) → IsForcing trust before now (Err why)
    was_refused why is_so = record {
      stays = stays_on before middle now untouched.stays is_so.stays;
      later = later_on before middle now untouched.later is_so.later;
      grows = grows_on trust.tells before middle now (untouched_grows trust.tells before middle untouched) is_so.grows;
      answers = tt;
      fails = inr (head, middle, read, is_so.fails);
      nothing = elim is_so.nothing [ inl device ↦ inl device | inr more ↦ inr (untouched_on trust.tells before middle now untouched more) ];
      says = λ blocks told. unclosed_refused trust before blocks told middle head read now why is_so.fails;
      stops = λ blocks told to. is_so.ends before blocks (start_of blocks told to) untouched (same_unclosed blocks told to.is);
      rebuilt = tt;
    }

-- what holds of a refusal holds where it is passed on
pub refused_as : (trust : Trust) (before now : Seen) (why : ImageFault) (result : Result Forced ImageFault) → IsErrAnd result (λ e. e ≡ why) → IsForcing trust before now (Err why)
    → IsForcing trust before now result
refused_as trust before now why (Ok x) is forcing = absurd is
refused_as trust before now why (Err e) is forcing = subst (λ (f : ImageFault). IsForcing trust before now (Err f)) (sym is) forcing
