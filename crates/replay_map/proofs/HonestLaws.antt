-- What was read of an honest device on which nothing is pending but in the index is what its one image has.
use Rattle.std.proofs.Common.{ℕ, ◌≡◌, ◌+◌, ◌<◌, ◌≤◌, Bool, IsTrue, List, [], ◌∷◌, length, Ok, refl, sym, subst, inl, inr, arith}
use Rattle.blk_base.proofs.RegionLaws.{data_block_high}
use Rattle.blk_base.specs.Regions.{Root, needed_blocks}
use Rattle.blk_base.specs.declared.geometry.Geometry.{Geometry}
use Rattle.blk_base.specs.declared.geometry.Super.{Super as Superblock}
use Rattle.blk_base.specs.declared.place.Pbn.{Pbn}
use Rattle.disk_model.proofs.LookedLaws.{one_in-read, one_in-since}
use Rattle.disk_model.proofs.SinceLaws.{were_only_read}
use Rattle.disk_model.specs.Images.{IsMixOf}
use Rattle.disk_model.specs.Log.{Blocks, settled}
use Rattle.disk_model.specs.Seen.{Seen}
use Rattle.disk_model.specs.Trust.{Trust}
use Rattle.disk_model.specs.Since.{IsUntouched}
use Rattle.image_layout.specs.Opened.{super_of_image}
use Rattle.image_model.proofs.LookedLaws.{looked_high, looked_in_place, looked_place}
use Rattle.image_model.specs.Faults.{IsOpened, IsPageFault, IsShareFault}
use Rattle.image_model.specs.Looked.{HasOneImageButIndex, is_looked_at, looked_in}
use Rattle.image_model.specs.Maps.{ArePagesGood, Image}
use Rattle.image_model.specs.Sound.{Opens, image_of}
use Rattle.image_model.specs.declared.fault.ImageFault.{ImageFault}
use Rattle.image_model.specs.declared.fault.ImageFault.TheVariants.{Super, Window, Page, Counter, SharedPage, Counts, Device, Unclean, Memory}
use Rattle.journal_window.proofs.ReadWindowLaws.{fault_shown, window_shown}
use Rattle.journal_window.specs.Reads.{Fails, IsWindowRead}
use Rattle.journal_window.specs.States.{WindowState}
use Rattle.replay_map.proofs.ReadLaws.{blocks_untouched}
use Rattle.replay_map.specs.Reads.{BlocksRead, IsPageBlock, Reading, Shows}
use Rattle.replay_map.specs.Replayed.{HasMap, HasMapOf, IsFound, IsMapFault, IsReplayed, MapFails, ReplayFails}
use Rattle.replay_map.specs.declared.recovered.RecoveredMap.{RecoveredMap}

-- a page never stands in the index
page_is_looked_at : (g : Geometry) (at : Pbn) → IsPageBlock g at → IsTrue (is_looked_at g at.0)
page_is_looked_at g at (inl data_block) = looked_high g at.0 (data_block_high g at.0 data_block)
page_is_looked_at g at (inr (tree, below, same)) = subst (λ (b : ℕ). IsTrue (is_looked_at g b)) (sym same) (looked_place g (Root tree) below tt)

module _ (trust : Trust) (image : Blocks) (told : IsTrue trust.tells) (fair : IsTrue trust.honest) where
  -- it still has this image where blocks were read alone
  still : (before now : Seen) → IsUntouched trust.tells before now → HasOneImageButIndex before.opening before.log image → HasOneImageButIndex now.opening now.log image
  still before now untouched one =
      subst (λ (opening : Blocks). HasOneImageButIndex opening now.log image) (sym untouched.stays.opening)
      (one_in-since (looked_in image) before.opening before.log now.log image (untouched.reads told) one)

  pub all_shown : (g : Geometry) (before now : Seen) (reads : List Reading) → ((b : ℕ) → IsTrue (is_looked_at g b) → IsTrue (looked_in image b))
      → HasOneImageButIndex before.opening before.log image → BlocksRead trust g before now reads → Shows image reads
  all_shown g before now [] looks one read = tt
  all_shown g before now (reading ∷ older) looks one read =
      let middle = read.0 in
      let here = still before middle (blocks_untouched trust g before middle older read.1) one in
      let size = read.2.told told in
      let inside = read.3 in
      let below : reading.at.0 < length middle.opening = omega (arith, size, inside) in
      let place : reading.at.0 + 0 ≡ reading.at.0 = omega arith in
      let mix = subst (λ (b : ℕ). IsMixOf (settled middle.opening middle.log b) reading.bytes) place (read.2.given.1 told fair) in
      let same = one_in-read (looked_in image) middle.opening middle.log image reading.at.0 reading.bytes below (looks reading.at.0 (page_is_looked_at g reading.at read.4)) read.2.given.0 mix here in
      (sym same, all_shown g before middle older looks one read.1)

  module _ (before now : Seen) (head : Superblock) (one : HasOneImageButIndex before.opening before.log image) (room : needed_blocks head.geometry ≤ before.size)
      (accepted : super_of_image image ≡ Ok head) where
    found_shown : (middle : Seen) (window : WindowState) (Says : Image → Type 0) → IsWindowRead trust before middle head window
        → IsFound trust head.geometry window.entries middle now Says → Opens image head window.last window.entries × Says (image_of head image window.entries)
    found_shown middle window Says read found =
        let journal = were_only_read trust 1 before middle _ read.1.read in (
          window_shown trust before middle image told fair one head room accepted window read,
          found.2 image (all_shown head.geometry middle now found.0 (looked_in_place image head accepted) (still before middle journal one) found.1),
        )

    pub map_shown : (map : RecoveredMap) → IsReplayed trust head before now map → HasMapOf image head map
    map_shown map (middle, window, read, is) =
        let shown = found_shown middle window (λ i. HasMap i map) read is.found in
        record {
          window = window.entries;
          opens = subst (λ (last : ℕ). Opens image head last window.entries) (sym is.last) shown.0;
          entries = is.entries;
          has = shown.1;
        }

    opened : (window : WindowState) → Opens image head window.last window.entries → IsOpened image (image_of head image window.entries)
    opened window opens = record { head = head; last = window.last; opens = opens; is_image = refl }

    no_map : (middle : Seen) (window : WindowState) (why : ImageFault) → IsWindowRead trust before middle head window → MapFails trust head.geometry window.entries middle now why
        → IsMapFault image why
    no_map middle window (Page at fault) read fails =
        let shown = found_shown middle window (λ i. IsPageFault i at fault) read fails in (image_of head image window.entries, opened window shown.0, shown.1)
    no_map middle window (SharedPage at) read fails =
        let shown = found_shown middle window (λ i. ArePagesGood i × IsShareFault i at) read fails in
        (image_of head image window.entries, opened window shown.0, shown.1.0, shown.1.1)
    no_map middle window Device read fails = tt
    no_map middle window Memory read fails = tt
    no_map middle window (Super fault) read fails = absurd fails
    no_map middle window (Window sequence) read fails = absurd fails
    no_map middle window (Counter at point) read fails = absurd fails
    no_map middle window (Counts at stored mapped) read fails = absurd fails
    no_map middle window Unclean read fails = absurd fails

    no_window : (why : ImageFault) → Fails trust before now head why → IsMapFault image why
    no_window (Super fault) fails = fault_shown trust before now image told fair one head room accepted (Super fault) fails
    no_window (Window sequence) fails = fault_shown trust before now image told fair one head room accepted (Window sequence) fails
    no_window Device fails = tt
    no_window Memory fails = tt
    no_window (Page at fault) fails = absurd fails
    no_window (Counter at point) fails = absurd fails
    no_window (SharedPage at) fails = absurd fails
    no_window (Counts at stored mapped) fails = absurd fails
    no_window Unclean fails = absurd fails

    pub fault_of_map : (why : ImageFault) → ReplayFails trust head before now why → IsMapFault image why
    fault_of_map why (inl fails) = no_window why fails
    fault_of_map why (inr (middle, window, read, fails)) = no_map middle window why read fails
