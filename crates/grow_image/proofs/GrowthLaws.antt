-- What growing promises, by how it ended.
use Rattle.std.proofs.Common.{ℕ, ◌≡◌, ◌≤◌, ◌<◌, ◌^◌, ◌++◌, Bool, true, List, [], ◌∷◌, All, Option, Some, None, Result, Ok, Err, length, refl, sym, ◌∙◌, ap, subst, inl, inr, arith, append_assoc}
use Rattle.blk_base.specs.Limits.{IsGeometry}
use Rattle.blk_base.specs.Regions.{needed_blocks}
use Rattle.blk_base.specs.declared.geometry.Geometry.{Geometry}
use Rattle.blk_base.specs.declared.geometry.Super.{Super as Superblock}
use Rattle.blk_base.specs.declared.journal_entry.CommittedEntry.{CommittedEntry}
use Rattle.blk_base.specs.declared.opened.Opened.{Opened}
use Rattle.blk_base.specs.declared.place.Lba.{Lba}
use Rattle.blk_base.specs.declared.place.Pbn.{Pbn}
use Rattle.page_codec.specs.declared.fault.PageFault.{PageFault}
use Rattle.image_layout.specs.PossibleSizes.{plan_of}
use Rattle.disk_model.specs.declared.call.Call.{Call}
use Rattle.disk_model.specs.Log.{Blocks}
use Rattle.disk_model.specs.Seen.{Seen, Stays}
use Rattle.disk_model.specs.Trust.{Trust}
use Rattle.disk_model.specs.Since.{IsUntouched, OnlyReads, SinceThen}
use Rattle.disk_model.proofs.LookedLaws.{one_in-since}
use Rattle.disk_model.proofs.SeenLaws.{later_on, stays_on}
use Rattle.disk_model.proofs.SinceLaws.{untouched_on}
use Rattle.image_format.specs.Formats.{LastFailed}
use Rattle.image_format.specs.Runs.{OneFailed, WereMade, as_failed}
use Rattle.image_layout.specs.Values.{journal_of}
use Rattle.image_model.proofs.LookedLaws.{looked_in_place}
use Rattle.image_model.proofs.WindowLaws.{one_window}
use Rattle.image_model.specs.Looked.{HasOneImageButIndex, looked_in}
use Rattle.image_model.specs.Maps.{Image as WholeImage}
use Rattle.image_model.specs.Sound.{IsSound, Opens, image_of}
use Rattle.image_model.specs.Windows.{IsWindow}
use Rattle.image_model.specs.declared.fault.ImageFault.{ImageFault}
use Rattle.image_model.specs.declared.fault.ImageFault.TheVariants.{Super, Window, Page, Counter, SharedPage, Counts, Device, Unclean, Memory}
use Rattle.image_opening.proofs.HeadLaws.{head_shown}
use Rattle.rebuild.proofs.ActLaws.{grows_on, made_grows, untouched_grows}
use Rattle.rebuild.proofs.FailLaws.{failed_after, makes_failed, read_is_last, told_failed}
use Rattle.rebuild.proofs.ReadLaws.{still}
use Rattle.rebuild.specs.Openings.{IsOpening, IsRight}
use Rattle.rebuild.specs.Recoveries.{IsTold}
use Rattle.recovery_laws.proofs.WindowFacts.{IsKnown, window_known}
use Rattle.recovery_laws.specs.Kept.{image_in}
use Rattle.replay_map.proofs.HonestLaws.{all_shown}
use Rattle.replay_map.proofs.ReadLaws.{blocks_untouched}
use Rattle.grow_image.proofs.FreshLaws.{mapped_at, none_unreadable, unmapped_before}
use Rattle.grow_image.proofs.StillLaws.{calls_right, reads_right}
use Rattle.grow_image.proofs.WholeLaws.{failures_of, fresh_zeros, grown_of as all_grown, stops_of}
use Rattle.grow_image.specs.Calls.{grow_calls}
use Rattle.grow_image.specs.Growth.{AreStopsSound, GrowStops, GrowsOpened, GrowsTo, HasNoFault, IsFirstNew, IsGrowing, IsRefusal, IsResult, IsSearched, LeavesGrown, OfImage, OpenedFails, SearchingFails, UnmappedFails, new_addresses}
use Rattle.grow_image.specs.Kept.{AreStopsRight, AreUnmapped, IsToGrow}
use Rattle.grow_image.specs.NewAddresses.{HasUnreadable, IsLeastMapped, IsShownBy}
use Rattle.grow_image.specs.Sizes.{CanGrow, IsMore, IsSmaller, PlanFails, grown_of, grown_sizes}
use Rattle.grow_image.specs.declared.fault.GrowFault.{GrowFault}
use Rattle.grow_image.specs.declared.fault.GrowFault.TheVariants.{Image, Smaller, Layout, Mapped}
use Rattle.grow_image.specs.declared.forms.Grown.{Grown}

-- Of any device.

pub searched_untouched : (trust : Trust) (opened : Opened) (logical : ℕ) (before now : Seen) (least : Option Lba) → IsSearched trust opened logical before now least → IsUntouched trust.tells before now
searched_untouched trust opened logical before now least (leaves, are, shown) = blocks_untouched trust opened.head.geometry before now shown.0 shown.1

-- a search whose read failed
searching_last : (trust : Trust) (opened : Opened) (logical : ℕ) (before now : Seen) → SearchingFails trust opened logical before now Device → LastFailed trust.tells before now
searching_last trust opened logical before now (leaves, are, fails) =
    failed_after trust.tells before fails.1 now (blocks_untouched trust opened.head.geometry before fails.1 fails.0 fails.3) (read_is_last trust fails.2.0 fails.1 now [] fails.4)

-- By the one image of an honest device.

module _ (trust : Trust) (before middle : Seen) (opened : Opened) (opening : IsOpening trust before middle (Ok opened)) (named : opened.head.geometry.nonce < 2 ^ 64)
    (blocks : Blocks) (told : IsTold trust before blocks) where
  -- the image is the one that was opened
  pub record IsThere (h : Superblock) : Type 0 where
    pub last : ℕ
    pub window : List CommittedEntry
    pub opens : Opens blocks h last window
    pub clean : h.clean ≡ true
    pub right : IsRight (image_of h blocks window) h opened

  pub there : IsThere opened.head
  there =
      let (head, last, window, opens, clean, right) = opening.says blocks told in
      subst IsThere (sym right.start.head_is) (record { last = last; window = window; opens = opens; clean = clean; right = right })

  abbrev g : Geometry
  g = opened.head.geometry

  abbrev image : WholeImage
  image = image_of opened.head blocks there.window

  no_fault : HasNoFault blocks opened.head image
  no_fault = record {
    last = there.last;
    opens = there.opens;
    is_image = refl;
    clean = there.clean;
    pages = there.right.pages;
    unshared = there.right.unshared;
    counts = there.right.counts;
  }

  one_there : HasOneImageButIndex middle.opening middle.log blocks
  one_there = still trust blocks told.told told.fair before middle opening.untouched told.one

  shown : (now : Seen) (Says : Blocks → Type 0) → IsShownBy trust g middle now Says → Says blocks
  shown now Says is =
      is.2 blocks (all_shown trust blocks told.told told.fair g middle now is.0 (looked_in_place blocks opened.head there.opens.accepted) one_there is.1)

  known : All (IsKnown g there.last) image.window
  known = window_known g (journal_of g blocks) there.last opened.head.start image.window there.opens.is_window

  tall : IsGeometry g → 2 ≤ g.height
  tall sizes = sizes.height.0

  -- what the search found holds of the image
  none_found : (now : Seen) (logical : ℕ) → IsGeometry g → IsSearched trust opened logical middle now None → AreUnmapped image logical
  none_found now logical sizes (leaves, are, searched) =
      let least = shown now (λ bs. IsLeastMapped g (new_addresses g logical) leaves bs None) searched in
      λ address behind below.
      unmapped_before image (tall sizes) there.right.pages there.last known opened.pages.items there.right.start.pages (new_addresses g logical) refl leaves are None least address (behind, below) tt

  one_found : (now : Seen) (logical : ℕ) (at : Lba) → IsGeometry g → IsSearched trust opened logical middle now (Some at) → IsFirstNew image logical at.0
  one_found now logical at sizes (leaves, are, searched) =
      let range = new_addresses g logical in
      let least = shown now (λ bs. IsLeastMapped g range leaves bs (Some at)) searched in
      let mapped = mapped_at image (tall sizes) there.right.pages there.last known opened.pages.items there.right.start.pages range refl leaves are at least in
      record {
        behind = mapped.0.0;
        below = mapped.0.1;
        mapped = mapped.1;
        first = λ address behind below.
            let most = mapped.0.1 in
            unmapped_before image (tall sizes) there.right.pages there.last known opened.pages.items there.right.start.pages range refl leaves are (Some at) least address
            (behind, omega (arith, below, most)) below;
      }

  none_refused : (now : Seen) (logical : ℕ) (at : Pbn) (fault : PageFault) → IsGeometry g → SearchingFails trust opened logical middle now (Page at fault) → ⊥
  none_refused now logical at fault sizes (leaves, are, fails) =
      let range = new_addresses g logical in
      none_unreadable image (tall sizes) there.right.pages there.last known opened.pages.items there.right.start.pages range refl leaves are at fault
      (shown now (λ bs. HasUnreadable g range leaves bs at fault) fails)

  last_here : (now : Seen) → LastFailed trust.tells middle now → LastFailed true before now
  last_here now failed = told_failed trust.tells before now told.told (failed_after trust.tells before middle now opening.untouched failed)

  of_image : (Says : Superblock → WholeImage → Type 0) → Says opened.head image → OfImage blocks Says
  of_image Says holds = (opened.head, image, no_fault, holds)

  same_size : middle.size ≡ before.size
  same_size = opening.untouched.stays.size

  -- What it is answered.

  plan_refused : (now : Seen) (logical slabs : ℕ) (why : GrowFault) → PlanFails g logical slabs middle.size why → IsRefusal blocks logical slabs before now why
  plan_refused now logical slabs (Smaller field) fails = of_image (λ head i. IsSmaller head.geometry logical slabs field) fails
  plan_refused now logical slabs (Layout fault) fails =
      of_image (λ head i. IsMore head.geometry logical slabs × (plan_of (grown_sizes head.geometry logical slabs) before.size ≡ Err fault))
      (fails.0, ap (plan_of (grown_sizes g logical slabs)) (sym same_size) ∙ fails.1)
  plan_refused now logical slabs (Image why) fails = absurd fails
  plan_refused now logical slabs (Mapped at) fails = absurd fails

  can_here : (logical slabs : ℕ) → CanGrow g logical slabs middle.size → CanGrow g logical slabs before.size
  can_here logical slabs can = subst (CanGrow g logical slabs) same_size can

  search_refused : (now : Seen) (logical slabs : ℕ) (why : GrowFault) → IsGeometry g → CanGrow g logical slabs middle.size → UnmappedFails trust opened logical middle now why
      → IsRefusal blocks logical slabs before now why
  search_refused now logical slabs (Mapped at) sizes can fails =
      of_image (λ head i. CanGrow head.geometry logical slabs before.size × IsFirstNew i logical at.0) (can_here logical slabs can, one_found now logical at sizes fails)
  search_refused now logical slabs (Image (Page at fault)) sizes can fails = absurd (none_refused now logical at fault sizes fails)
  search_refused now logical slabs (Image Device) sizes can fails = last_here now (searching_last trust opened logical middle now fails)
  search_refused now logical slabs (Image Memory) sizes can fails = (opened.head, there.opens.accepted, there.clean)
  search_refused now logical slabs (Image (Super fault)) sizes can (leaves, are, fails) = absurd fails
  search_refused now logical slabs (Image (Window sequence)) sizes can (leaves, are, fails) = absurd fails
  search_refused now logical slabs (Image (Counter at point)) sizes can (leaves, are, fails) = absurd fails
  search_refused now logical slabs (Image (SharedPage at)) sizes can (leaves, are, fails) = absurd fails
  search_refused now logical slabs (Image (Counts at stored mapped)) sizes can (leaves, are, fails) = absurd fails
  search_refused now logical slabs (Image Unclean) sizes can (leaves, are, fails) = absurd fails
  search_refused now logical slabs (Smaller field) sizes can fails = absurd fails
  search_refused now logical slabs (Layout fault) sizes can fails = absurd fails

  stop_refused : (now : Seen) (logical slabs : ℕ) (why : GrowFault) → why ≡ Image Device → GrowStops trust opened logical slabs middle now → IsRefusal blocks logical slabs before now why
  stop_refused now logical slabs why same stops =
      subst (IsRefusal blocks logical slabs before now) (sym same)
      (last_here now (failed_after trust.tells middle stops.middle now (searched_untouched trust opened logical middle stops.middle None stops.searched)
      (makes_failed trust.tells stops.middle now (grow_calls opened.head logical slabs) (Err (record {})) stops.failed)))

  pub is_result : (now : Seen) (logical slabs : ℕ) (result : Result Grown GrowFault) → IsGeometry g → GrowsOpened trust opened logical slabs middle now result
      → IsResult blocks logical slabs before now result
  is_result now logical slabs (Ok grown) sizes to =
      of_image (λ head i. CanGrow head.geometry logical slabs before.size × AreUnmapped i logical × (grown ≡ grown_of head.geometry logical slabs))
      (can_here logical slabs to.can, none_found to.middle logical sizes to.searched, to.grown_is)
  is_result now logical slabs (Err why) sizes (inl (fails, same)) = plan_refused now logical slabs why fails
  is_result now logical slabs (Err why) sizes (inr (inl (can, fails, untouched))) = search_refused now logical slabs why sizes can fails
  is_result now logical slabs (Err why) sizes (inr (inr (same, stops))) = stop_refused now logical slabs why same stops

  -- What a stop leaves.

  module _ (sound : IsSound blocks) where
    same_head : opened.head ≡ sound.head
    same_head = let here = there.opens.accepted in let own = sound.opens.accepted in cc (here, own)

    clean : sound.head.clean ≡ true
    clean = ap (λ (h : Superblock). h.clean) (sym same_head) ∙ there.clean

    same_window : there.window ≡ sound.window
    same_window =
        (one_window opened.head.geometry opened.head.start (journal_of opened.head.geometry blocks) there.last sound.last there.window sound.window there.opens.is_window
        (subst (λ (h : Superblock). IsWindow h.geometry h.start (journal_of h.geometry blocks) sound.last sound.window) (sym same_head) sound.opens.is_window)).1

    none_here : (logical : ℕ) → AreUnmapped image logical → AreUnmapped (image_in blocks sound) logical
    none_here logical none =
        subst (λ (w : List CommittedEntry). AreUnmapped (image_of sound.head blocks w) logical) same_window
        (subst (λ (h : Superblock). AreUnmapped (image_of h blocks there.window) logical) same_head none)

    module _ (logical slabs : ℕ) (can : CanGrow g logical slabs middle.size) where
      to_grow : IsToGrow blocks sound logical slabs
      to_grow =
          let (head, window, second, to, was_clean, rest) = opening.opened in
          let accepted = head_shown trust before to.middle blocks told.told told.fair told.one head to.head_read in
          let here = there.opens.accepted in
          let same : head ≡ opened.head = cc (accepted, here) in
          let early : (1 ≤ opened.head.start) × (opened.head.start < 2 ^ 54) = subst (λ (h : Superblock). (1 ≤ h.start) × (h.start < 2 ^ 54)) same to.head_read.is.start in
          let size = told.one.size in
          let opening_size = to.head_read.read.told told.told in
          let middle_size = same_size in
          let fits = can.fits in
          record {
            clean = clean;
            named = subst (λ (h : Superblock). h.geometry.nonce < 2 ^ 64) same_head named;
            early = subst (λ (h : Superblock). (1 ≤ h.start) × (h.start < 2 ^ 54)) same_head early;
            more = subst (λ (h : Superblock). IsMore h.geometry logical slabs) same_head can.more;
            sizes = subst (λ (h : Superblock). IsGeometry (grown_sizes h.geometry logical slabs)) same_head can.sizes;
            fits = subst (λ (h : Superblock). needed_blocks (grown_sizes h.geometry logical slabs) ≤ length blocks) same_head (omega (arith, size, opening_size, middle_size, fits));
          }

      module _ (third now : Seen) (searched : IsUntouched trust.tells middle third) where
        reads : IsUntouched trust.tells before third
        reads = untouched_on trust.tells before middle third opening.untouched searched

        read_log : SinceThen OnlyReads before.log third.log
        read_log = reads.reads told.told

        one_third : HasOneImageButIndex before.opening third.log blocks
        one_third = one_in-since (looked_in blocks) before.opening before.log third.log blocks read_log told.one

        abbrev calls : List Call
        calls = grow_calls sound.head logical slabs

        same_log : third.log ≡ read_log.0 ++ before.log
        same_log = read_log.1

        behind_reads : (more log : List Call) → log ≡ more ++ third.log → AreStopsRight blocks sound logical slabs before.opening third.log more
            → SinceThen (AreStopsRight blocks sound logical slabs before.opening before.log) before.log log
        behind_reads more log is right = (
          more ++ read_log.0,
          is ∙ ap (λ (l : List Call). more ++ l) same_log ∙ sym (append_assoc more read_log.0 before.log),
          calls_right blocks sound clean logical slabs before.opening before.log told.one more read_log.0 read_log.2
              (subst (λ (l : List Call). AreStopsRight blocks sound logical slabs before.opening l more) same_log right),
        )

        pub made_stops : WereMade trust.tells third now calls → SinceThen (AreStopsRight blocks sound logical slabs before.opening before.log) before.log now.log
        made_stops made =
            behind_reads calls now.log (made.logged told.told) (stops_of blocks sound logical slabs to_grow before.opening third.log [] calls one_third refl)

        pub failed_stops : OneFailed trust.tells third now calls → SinceThen (AreStopsRight blocks sound logical slabs before.opening before.log) before.log now.log
        failed_stops failed = elim (failed.logged told.told) [
          | inl is ↦
              behind_reads (as_failed failed.call ∷ failed.done) now.log is
              (failures_of blocks sound logical slabs to_grow before.opening third.log failed.newer failed.done failed.call one_third failed.parts)
          | inr lost ↦
              behind_reads failed.done now.log lost.0
              (stops_of blocks sound logical slabs to_grow before.opening third.log (failed.newer ++ (failed.call ∷ [])) failed.done one_third
              (failed.parts ∙ sym (append_assoc failed.newer (failed.call ∷ []) failed.done)))
        ]

        pub leaves_grown : AreUnmapped image logical → WereMade trust.tells third now calls → Stays third now → LeavesGrown blocks sound logical slabs now
        leaves_grown none made stays =
            let (left, one, is) = all_grown blocks sound logical slabs to_grow before.opening third.log one_third in
            let opening_is : now.opening ≡ before.opening = stays.opening ∙ reads.stays.opening in
            let log_is = made.logged told.told in
            record {
              image = left;
              one = subst (λ (o : Blocks). HasOneImageButIndex o now.log left) (sym opening_is) (subst (λ (l : List Call). HasOneImageButIndex before.opening l left) (sym log_is) one);
              is = is;
              fresh = fresh_zeros blocks left sound logical slabs is (none_here logical none);
            }

  untouched_stops : (now : Seen) (logical slabs : ℕ) → IsUntouched trust.tells before now → AreStopsSound blocks logical slabs before now
  untouched_stops now logical slabs untouched sound closed =
      let since = untouched.reads told.told in
      (since.0, since.1, reads_right blocks sound closed logical slabs before.opening before.log told.one since.0 since.2)

  pub are_stops : (now : Seen) (logical slabs : ℕ) (result : Result Grown GrowFault) → GrowsOpened trust opened logical slabs middle now result → AreStopsSound blocks logical slabs before now
  are_stops now logical slabs (Ok grown) to sound closed =
      made_stops sound logical slabs to.can to.middle now (searched_untouched trust opened logical middle to.middle None to.searched)
      (subst (λ (h : Superblock). WereMade trust.tells to.middle now (grow_calls h logical slabs)) (same_head sound) to.made)
  are_stops now logical slabs (Err why) (inl (fails, same)) sound closed =
      untouched_stops now logical slabs (subst (IsUntouched trust.tells before) (sym same) opening.untouched) sound closed
  are_stops now logical slabs (Err why) (inr (inl (can, fails, untouched))) sound closed =
      untouched_stops now logical slabs (untouched_on trust.tells before middle now opening.untouched untouched) sound closed
  are_stops now logical slabs (Err why) (inr (inr (same, stops))) sound closed =
      failed_stops sound logical slabs stops.can stops.middle now (searched_untouched trust opened logical middle stops.middle None stops.searched)
      (subst (λ (h : Superblock). OneFailed trust.tells stops.middle now (grow_calls h logical slabs)) (same_head sound) stops.failed)

  pub has_grown : (now : Seen) (logical slabs : ℕ) (grown : Grown) → IsGeometry g → GrowsTo trust opened logical slabs middle now grown → (sound : IsSound blocks)
      → LeavesGrown blocks sound logical slabs now
  has_grown now logical slabs grown sizes to sound =
      leaves_grown sound logical slabs to.can to.middle now (searched_untouched trust opened logical middle to.middle None to.searched) (none_found to.middle logical sizes to.searched)
      (subst (λ (h : Superblock). WereMade trust.tells to.middle now (grow_calls h logical slabs)) (same_head sound) to.made) to.made.stays

-- The whole.

module _ (trust : Trust) (logical slabs : ℕ) (before : Seen) where
  -- the image wasn't opened
  pub not_opened : (now : Seen) (why : ImageFault) → IsOpening trust before now (Err why) → IsGrowing trust logical slabs before now (Err (Image why))
  not_opened now why opening = record {
    stays = opening.untouched.stays;
    later = opening.untouched.later;
    grows = untouched_grows trust.tells before now opening.untouched;
    answers = tt;
    fails = inl opening.fails;
    nothing = inr opening.untouched;
    says = λ blocks told. opening.says blocks told;
    stops = λ blocks told sound closed.
        let since = opening.untouched.reads told.told in
        (since.0, since.1, reads_right blocks sound closed logical slabs before.opening before.log told.one since.0 since.2);
    grown = tt;
  }

  module _ (middle now : Seen) (opened : Opened) (opening : IsOpening trust before middle (Ok opened)) (named : opened.head.geometry.nonce < 2 ^ 64) where
    sizes : IsGeometry opened.head.geometry
    sizes = opening.fits.sizes

    pub has_ended : (grown : Grown) → GrowsTo trust opened logical slabs middle now grown → IsGrowing trust logical slabs before now (Ok grown)
    has_ended grown to =
        let searched = untouched_on trust.tells before middle to.middle opening.untouched (searched_untouched trust opened logical middle to.middle None to.searched) in
        record {
          stays = stays_on before to.middle now searched.stays to.made.stays;
          later = later_on before to.middle now searched.later to.made.later;
          grows = grows_on trust.tells before to.middle now (untouched_grows trust.tells before to.middle searched) (λ told. (grow_calls opened.head logical slabs, to.made.logged told));
          answers = (opened, middle, opening.opened, to);
          fails = tt;
          nothing = tt;
          says = λ blocks told. is_result trust before middle opened opening named blocks told now logical slabs (Ok grown) sizes to;
          stops = λ blocks told. are_stops trust before middle opened opening named blocks told now logical slabs (Ok grown) to;
          grown = λ blocks told sound. has_grown trust before middle opened opening named blocks told now logical slabs grown sizes to sound;
        }

    untouched_refused : (why : GrowFault) → IsUntouched trust.tells before now → OpenedFails trust opened logical slabs middle now why → IsGrowing trust logical slabs before now (Err why)
    untouched_refused why untouched fails = record {
      stays = untouched.stays;
      later = untouched.later;
      grows = untouched_grows trust.tells before now untouched;
      answers = tt;
      fails = inr (opened, middle, opening.opened, fails);
      nothing = inr untouched;
      says = λ blocks told. is_result trust before middle opened opening named blocks told now logical slabs (Err why) sizes fails;
      stops = λ blocks told. are_stops trust before middle opened opening named blocks told now logical slabs (Err why) fails;
      grown = tt;
    }

    pub was_refused : (why : GrowFault) → OpenedFails trust opened logical slabs middle now why → IsGrowing trust logical slabs before now (Err why)
    was_refused why (inl (fails, same)) = untouched_refused why (subst (IsUntouched trust.tells before) (sym same) opening.untouched) (inl (fails, same))
    was_refused why (inr (inl (can, fails, untouched))) = untouched_refused why (untouched_on trust.tells before middle now opening.untouched untouched) (inr (inl (can, fails, untouched)))
    was_refused why (inr (inr (same, stops))) =
        let searched = untouched_on trust.tells before middle stops.middle opening.untouched (searched_untouched trust opened logical middle stops.middle None stops.searched) in
        let fails : OpenedFails trust opened logical slabs middle now why = inr (inr (same, stops)) in
        record {
          stays = stays_on before stops.middle now searched.stays stops.failed.stays;
          later = later_on before stops.middle now searched.later stops.failed.later;
          grows = grows_on trust.tells before stops.middle now (untouched_grows trust.tells before stops.middle searched)
              (made_grows trust.tells stops.middle now (grow_calls opened.head logical slabs) (Err (record {})) stops.failed);
          answers = tt;
          fails = inr (opened, middle, opening.opened, fails);
          nothing = inl same;
          says = λ blocks told. is_result trust before middle opened opening named blocks told now logical slabs (Err why) sizes fails;
          stops = λ blocks told. are_stops trust before middle opened opening named blocks told now logical slabs (Err why) fails;
          grown = tt;
        }

    pub opened_ended : (result : Result Grown GrowFault) → GrowsOpened trust opened logical slabs middle now result → IsGrowing trust logical slabs before now result
    opened_ended (Ok grown) to = has_ended grown to
    opened_ended (Err why) fails = was_refused why fails
