-- Each image that a stop leaves of a fair session is sound.
use Rattle.std.proofs.Common.{ℕ, false, ◌+◌, ◌≡◌, ◌≢◌, ◌⊎◌, ◌≤◌, ◌^◌, IsTrue, List, [], ◌∷◌, ◌++◌, length, Ok, refl, sym, ◌∙◌, ap, ap₂, subst, subst₂, inl, inr, arith, append_assoc}
use Rattle.std.specs.List.{AllByRecursion}
use Rattle.blk_base.specs.declared.geometry.Geometry.{Geometry}
use Rattle.blk_base.specs.declared.geometry.Super.{Super}
use Rattle.blk_base.specs.declared.journal_entry.CommittedEntry.{CommittedEntry}
use Rattle.core_laws.proofs.Common.{AreAllThere, AtRest, ComesLast, IsFair, IsSession, Logged, OnItsWay, RightTrace, Session, Shown, Stands, SuperblockStage, Trace, all_of, calls, fair_part, filled, journaled, log, superblock_bytes, superblock_stage}
use Rattle.core_laws.proofs.kept.StandsOn.{entered_parts}
use Rattle.core_laws.proofs.trace.Cuts.{cut, right_part}
use Rattle.core_laws.proofs.trace.DeskOfTrace.{shown_of}
use Rattle.core_laws.proofs.trace.ReportOfTrace.{report_stops_right}
use Rattle.core_laws.proofs.trace.SuperblockOfTrace.{misses, writes_no_other}
use Rattle.core_model.specs.Reports.{opening_values, report_of}
use Rattle.core_model.specs.Sessions.{KeptStands, SuperblockStands, blocks_of, sealed_with}
use Rattle.core_model.specs.Superblocks.{WritesNoOther}
use Rattle.core_model.specs.declared.zones.SuperblockStage.TheVariants.{AsOpened, Durable, Written}
use Rattle.disk_model.specs.Images.{IsImage}
use Rattle.disk_model.specs.Log.{Blocks}
use Rattle.disk_model.specs.declared.call.Call.{Call}
use Rattle.disk_model.specs.declared.call.Call.TheVariants.{Flush, Read, Write}
use Rattle.image_layout.specs.Superblock.{super_block, super_of}
use Rattle.image_layout.specs.Values.{journal_of}
use Rattle.image_model.proofs.WindowLaws.{one_window}
use Rattle.image_model.specs.Looked.{HasOneImageButIndex, is_looked_at, looked_in}
use Rattle.image_model.specs.Maps.{image_with, value_of}
use Rattle.image_model.specs.Sound.{IsSound}
use Rattle.image_model.specs.Windows.{IsWindow}
use Rattle.recovery_laws.specs.Kept.{PutsOnly, image_in}
use Rattle.core_stops.proofs.SequenceLaws.{opened_next, rest_next, torn_next}
use Rattle.core_stops.specs.Sequences.{ShowsValues, next_start}
use Rattle.session_stops.proofs.BeginLaws.{beginning_goes_on, begins_with, head_is_read, image_is_as_opened}
use Rattle.session_stops.proofs.SoundImages.{rest_sound, way_sound}
use Rattle.session_stops.specs.Beginnings.{IsBeginning, IsHeadOf, IsToServe, head_in, opened_in}
use Rattle.session_stops.specs.Sessions.{ShowsSoundly, StandsAtRest, StandsUnderWay}
use Rattle.vdo_model.specs.Stops.{RightAfterStops}
use Rattle.core_stops.proofs.StandingBlocks.{rest_stands, way_stands}

-- an image is sound, of the session's sizes and first sequence, and the next session begins at most 2^18 behind that
pub record IsLeft (s : Session) (image : Blocks) : Type 0 where
  pub sound : IsSound image
  pub sizes : sound.head.geometry ≡ s.sizes.geometry
  pub start : sound.head.start ≡ s.sizes.start
  pub next : next_start image sound ≤ s.sizes.start + 2 ^ 18

module _ (s : Session) (u : Trace) (session : IsSession s) (fair : IsFair s u) (right : RightTrace s u) (to : IsToServe s.image)
    (sizes : to.sound.head.geometry ≡ s.sizes.geometry) (start : to.sound.head.start ≡ s.sizes.start) where
  -- Before the superblock lasts nothing else was written.

  looked_same : (b : ℕ) → looked_in s.image b ≡ is_looked_at s.sizes.geometry b
  looked_same b = let accepted = to.sound.opens.accepted in rw (accepted, looked_in) (ap (λ (h : Geometry). is_looked_at h b) sizes)

  one_image : HasOneImageButIndex s.blocks s.before s.image
  one_image = record {
    size = fair.opened.one_image.size;
    whole = fair.opened.one_image.whole;
    only = λ b below looked. fair.opened.one_image.only b below (subst IsTrue (looked_same b) looked);
  }

  session_bytes : super_block (head_in s.image to) ≡ superblock_bytes s.sizes
  session_bytes = ap₂ (λ (h : Geometry) (n : ℕ). super_block (record { geometry = h; clean = false; start = n })) sizes start

  puts_head : (call : Call) → WritesNoOther s.sizes call → PutsOnly 0 (IsHeadOf s.image to) call
  puts_head (Write at bytes ok) is =
      λ same. inr (subst (λ (content : List ℕ). super_of content (length s.image) ≡ Ok (head_in s.image to)) (session_bytes ∙ sym is.says) (head_is_read s.image to))
  puts_head (Read at bytes ok) is = tt
  puts_head (Flush ok) is = tt

  begins : (made : List Call) → AllByRecursion (WritesNoOther s.sizes) made → IsBeginning s.blocks (made ++ s.before) s.image to
  begins [] none = begins_with s.image to s.blocks s.before one_image
  begins (call ∷ older) none =
      beginning_goes_on s.image to s.blocks (older ++ s.before) call (puts_head call none.0) (λ b some. misses s.sizes call b (λ same. omega (arith, some, same)) none.0) (begins older none.1)

  module _ (image : Blocks) (is : IsImage s.blocks (log s u) image) where
    as_opened : superblock_stage u ≢ Durable → IsLeft s image
    as_opened not_yet =
        let shown = image_is_as_opened s.image to s.blocks (log s u) (begins (calls u) (writes_no_other s u right not_yet)) image is in
        let next = opened_next s.image to image shown in
        record {
          sound = shown.sound;
          sizes = elim shown.head [ inl was ↦ ap (λ (h : Super). h.geometry) was ∙ sizes | inr now ↦ ap (λ (h : Super). h.geometry) now ∙ sizes ];
          start = elim shown.head [ inl was ↦ ap (λ (h : Super). h.start) was ∙ start | inr now ↦ ap (λ (h : Super). h.start) now ∙ start ];
          next = omega (arith, next, start);
        }

    -- Then the session stands.

    shown_left : (entries : List CommittedEntry) (shows : ShowsSoundly (opened_in s.image to) (head_in s.image to) image entries)
        → next_start image shows.sound ≤ to.sound.head.start + 2 ^ 18 → IsLeft s image
    shown_left entries shows next = record {
      sound = shows.sound;
      sizes = ap (λ (h : Super). h.geometry) shows.is_head ∙ sizes;
      start = ap (λ (h : Super). h.start) shows.is_head ∙ start;
      next = omega (arith, next, start);
    }

    of_rest : (older : List (List Logged)) → StandsAtRest s.blocks (log s u) s.image to (blocks_of s older) → IsLeft s image
    of_rest older rest =
        let shows = rest_sound s.image to s.blocks (log s u) (blocks_of s older) rest image is in
        let next = rest_next s.image to s.blocks (log s u) (blocks_of s older) image is rest _ shows in
        let reach = rest.behind.reach in
        shown_left _ shows (omega (arith, next, reach))

    of_way : (older : List (List Logged)) (block : List Logged) → StandsUnderWay s.blocks (log s u) s.image to (blocks_of s older) (sealed_with s block) → IsLeft s image
    of_way older block way =
        let (entries, extends, within, shows) = way_sound s.image to s.blocks (log s u) (blocks_of s older) (sealed_with s block) way image is in
        let next = torn_next s.image to s.blocks (log s u) (blocks_of s older) image is (sealed_with s block) way entries shows in
        let reach = way.behind.reach in
        shown_left entries shows (omega (arith, next, reach))

    durable : KeptStands s u → AreAllThere s u ⊎ ComesLast s u → Stands s u 0 (superblock_bytes s.sizes) → IsLeft s image
    durable left (inl all) super = of_rest _ (rest_stands s u session fair right left to sizes start super (filled u) _ (entered_parts u) all.stands)
    durable left (inr last) super = by last.stands
      where
        parts : journaled u ≡ filled u ++ (last.block ++ all_of last.older)
        parts = entered_parts u ∙ ap (λ (all : List (List Logged)). filled u ++ all_of all) last.sealed_is

        by : AtRest s u last.older ⊎ OnItsWay s u last.older last.block → IsLeft s image
        by (inl rest) =
            of_rest last.older (rest_stands s u session fair right left to sizes start super (filled u ++ last.block) last.older (parts ∙ sym (append_assoc (filled u) last.block (all_of last.older))) rest)
        by (inr way) = of_way last.older last.block (way_stands s u session fair right left to sizes start super (filled u) last.older last.block parts way)

    pub is_left : Shown s u → IsLeft s image
    is_left shown = by (superblock_stage u) refl shown.superblock
      where
        by : (now : SuperblockStage) → superblock_stage u ≡ now → SuperblockStands s u now → IsLeft s image
        by AsOpened is stands = as_opened (λ durable. absurd cc)
        by Written is stands = as_opened (λ durable. absurd cc)
        by Durable is stands = durable shown.kept shown.journal stands

-- The values that its window gives are those of the sound image.
pub values_same : (s : Session) (image : Blocks) (left : IsLeft s image) (last : ℕ) (window : List CommittedEntry) → IsWindow s.sizes.geometry s.sizes.start (journal_of s.sizes.geometry image) last window
    → (a : ℕ) → value_of (image_with s.sizes.geometry image window) a ≡ value_of (image_in image left.sound) a
values_same s image left last window is a =
    let own = subst₂ (λ (h : Geometry) (n : ℕ). IsWindow h n (journal_of h image) left.sound.last left.sound.window) left.sizes left.start left.sound.opens.is_window in
    let one = one_window s.sizes.geometry s.sizes.start (journal_of s.sizes.geometry image) last left.sound.last window left.sound.window is own in
    ap₂ (λ (h : Geometry) (w : List CommittedEntry). value_of (image_with h image w) a) (sym left.sizes) one.1

-- So a stop leaves a sound image with right values.
pub sound_stops : (s : Session) (t : Trace) (to : IsToServe s.image) → IsSession s → RightTrace s t → IsFair s t → to.sound.head.geometry ≡ s.sizes.geometry → to.sound.head.start ≡ s.sizes.start
    → RightAfterStops (ShowsValues s.sizes.geometry (s.sizes.start + 2 ^ 18)) s.blocks s.before s.sizes.geometry.logical (opening_values s) (report_of s t) (calls t)
sound_stops s t to session right fair sizes start later prefix calls_are image is =
    let (values, has, shows) = report_stops_right s t session right fair later prefix calls_are image is in
    let c = cut t later prefix calls_are in
    let right_cut = right_part s c.newer c.older (subst (RightTrace s) c.parts right) in
    let fair_cut = fair_part s c.newer c.older (subst (IsFair s) c.parts fair) in
    let is_cut : IsImage s.blocks (log s c.older) image = subst (λ (made : List Call). IsImage s.blocks (made ++ s.before) image) (sym c.calls_are) is in
    let left = is_left s c.older session fair_cut right_cut to sizes start image is_cut (shown_of s c.older right_cut fair_cut) in (
      values,
      record {
        sound = left.sound;
        sizes = left.sizes;
        next = left.next;
        values_are = λ a. has.1.values_are a ∙ values_same s image left has.1.last has.1.window has.1.is_window a;
      },
      shows,
    )
