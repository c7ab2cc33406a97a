-- What the reads say of an image whose map was read, and of its values.
use Rattle.std.proofs.Common.{ℕ, ◌≡◌, ◌+◌, ◌<◌, ◌≤◌, Bool, Option, Some, None, List, [], ◌∷◌, Contains, map, Result, Ok, Err, IfErr, IsErrAnd, slice_index_or, refl, sym, ◌∙◌, ap, subst, inl, inr, arith, mod-lt}
use Rattle.std.proofs.Math.Nat.{add-zero}
use Rattle.blk_base.proofs.RegionLaws.{data_block_high, data_block_inside}
use Rattle.blk_base.specs.Pages.{leaf_of, slot_of_address}
use Rattle.blk_base.specs.Regions.{IsDataBlock, needed_blocks}
use Rattle.blk_base.specs.declared.journal_entry.CommittedEntry.{CommittedEntry}
use Rattle.blk_base.specs.declared.place.Lba.{Lba}
use Rattle.blk_base.specs.declared.place.Mapping.{Mapping}
use Rattle.blk_base.specs.declared.place.Mapping.TheVariants.{Unmapped}
use Rattle.blk_base.specs.declared.place.PageId.{PageId}
use Rattle.blk_base.specs.declared.place.Pbn.{Pbn}
use Rattle.command_text.specs.declared.crashes.AddressValue.{AddressValue}
use Rattle.disk_model.proofs.LookedLaws.{one_in-read}
use Rattle.disk_model.proofs.SinceLaws.{untouched_on}
use Rattle.disk_model.specs.Images.{IsMixOf}
use Rattle.disk_model.specs.Log.{Blocks, block_at, settled}
use Rattle.disk_model.specs.Seen.{Seen}
use Rattle.disk_model.specs.Trust.{Trust}
use Rattle.disk_model.specs.Since.{IsUntouched, WereRead}
use Rattle.image_model.proofs.FaultLaws.{no_page_fault}
use Rattle.image_model.proofs.LookedLaws.{looked_high, looked_in_place}
use Rattle.image_model.specs.Faults.{HasFault}
use Rattle.image_model.specs.Looked.{looked_in}
use Rattle.image_model.specs.Maps.{Image, mapping_of, page_at, says, value_of, value_with}
use Rattle.image_model.specs.Sound.{image_of}
use Rattle.page_codec.specs.declared.fault.PageFault.{PageFault}
use Rattle.page_codec.specs.declared.forms.PageHead.{PageHead}
use Rattle.plain_laws.proofs.OptionLaws.{option_cases}
use Rattle.rebuild.proofs.ReadLaws.{still}
use Rattle.rebuild.proofs.ShownLaws.{accepted, head_untouched, one_behind, window_opens, window_untouched}
use Rattle.rebuild.specs.Recoveries.{IsTold}
use Rattle.replay_map.proofs.HonestLaws.{all_shown}
use Rattle.replay_map.proofs.ReadLaws.{blocks_untouched}
use Rattle.replay_map.specs.Pages.{IsReadAs, Stands}
use Rattle.replay_map.specs.declared.links.Link.{Link}
use Rattle.crash_images.specs.Maps.{Fits, IsMapIn, OfMap, ShowsMap}
use Rattle.crash_images.specs.Shows.{HasValues}
use Rattle.crash_images.specs.Values.{AreRefused, IsRefused, LinkTo, address_of, value_in}
use Rattle.crash_images.specs.declared.fault.ValueFault.{ValueFault}
use Rattle.crash_images.specs.declared.fault.ValueFault.TheVariants.{Device, Page, Memory}
use Rattle.crash_images.specs.declared.maps.ImageMap.{ImageMap}

-- after reads it is told still
pub told_on : (trust : Trust) (before now : Seen) (blocks : Blocks) → IsTold trust before blocks → IsUntouched trust.tells before now → IsTold trust now blocks
told_on trust before now blocks is untouched = record { told = is.told; fair = is.fair; one = still trust blocks is.told is.fair before now untouched is.one }

-- The map that was read.

module _ (trust : Trust) (before now : Seen) (found : ImageMap) (read : ShowsMap trust before now found) (blocks : Blocks) (is : IsTold trust before blocks) where
  abbrev window : List CommittedEntry
  window = read.window.entries

  -- of an honest device it is that of its image
  pub map_shown : IsMapIn found blocks window
  map_shown =
      let to = read.opened_to in
      let own = accepted trust before blocks is to.middle found.head to.head_read in
      record {
        accepted = own;
        newest = read.newest;
        has = read.pages.found.2 blocks
            (all_shown trust blocks is.told is.fair found.head.geometry read.middle now read.pages.found.0 (looked_in_place blocks found.head own)
            (one_behind trust before blocks is to.middle found.head to.head_read read.middle read.window to.window_read) read.pages.found.1);
      }

  -- and nothing was written
  pub map_untouched : IsUntouched trust.tells before now
  map_untouched =
      let to = read.opened_to in
      untouched_on trust.tells before read.middle now
      (untouched_on trust.tells before to.middle read.middle (head_untouched trust before blocks is to.middle found.head to.head_read)
      (window_untouched trust before blocks is to.middle found.head to.head_read read.middle read.window to.window_read))
      (blocks_untouched trust found.head.geometry read.middle now read.pages.found.0 read.pages.found.1)

  -- what was said of the map is said of the image
  pub said_of_map : (Says : Image → Type 0) → OfMap trust now found Says → Says (image_of found.head blocks window)
  said_of_map Says says = says blocks window (told_on trust before now blocks is map_untouched) map_shown

  -- so are its values
  pub has_values : (values : List AddressValue) → OfMap trust now found (λ image. values ≡ map (value_in image) (map address_of values)) → HasValues blocks found.head values
  has_values values right =
      let to = read.opened_to in
      record {
        last = read.window.last;
        window = window;
        opens = window_opens trust before blocks is to.middle found.head to.head_read read.middle read.window to.window_read;
        pages = map_shown.has.pages;
        right = said_of_map (λ image. values ≡ map (value_in image) (map address_of values)) right;
      }

-- By its links.

-- of any device: they lead to data blocks
pub link_is_data : (found : ImageMap) → Fits found → (page : PageId) (at : Pbn) → LinkTo found.pages.links.items page (Some at) → IsDataBlock found.head.geometry at.0
link_is_data found fits page at link = (fits.form.each (record { page = page; at = at }) link).data_block

pub link_inside : (found : ImageMap) → Fits found → (page : PageId) (at : Pbn) → LinkTo found.pages.links.items page (Some at) → at.0 < needed_blocks found.head.geometry
link_inside found fits page at link = data_block_inside found.head.geometry at.0 (link_is_data found fits page at link)

leaf_below : (found : ImageMap) → Fits found → (address : ℕ) → (leaf_of address).level + 1 < found.head.geometry.height
leaf_below found fits address = let height = fits.sizes.height.0 in omega (arith, height)

module _ (found : ImageMap) (blocks : Blocks) (entries : List CommittedEntry) (here : IsMapIn found blocks entries) where
  abbrev image : Image
  image = image_of found.head blocks entries

  -- a linked page stands where they lead
  stands_there : (page : PageId) (at : Pbn) → LinkTo found.pages.links.items page (Some at) → page_at image page ≡ Some at
  stands_there page at link = ((here.has.links (record { page = page; at = at })).0 link).1

  -- what an address is mapped to: what the slot of its leaf says
  slot_maps : (address : ℕ) (at : Pbn) (mapping : Mapping) → page_at image (leaf_of address) ≡ Some at → mapping ≡ says image (leaf_of address) at (slot_of_address address)
      → mapping ≡ mapping_of image address
  slot_maps address at mapping stands said =
      said
      ∙ sym (subst (λ (o : Option Pbn). elim o [ Some block ↦ says image (leaf_of address) block (slot_of_address address) | None ↦ Unmapped ] ≡ says image (leaf_of address) at (slot_of_address address)) (sym stands) refl)

  -- or nothing, where it has none
  nothing_maps : (address : ℕ) → page_at image (leaf_of address) ≡ None → Unmapped ≡ mapping_of image address
  nothing_maps address none =
      sym (subst (λ (o : Option Pbn). elim o [ Some block ↦ says image (leaf_of address) block (slot_of_address address) | None ↦ Unmapped ] ≡ Unmapped) (sym none) refl)

  no_leaf : Fits found → (address : ℕ) → LinkTo found.pages.links.items (leaf_of address) None → page_at image (leaf_of address) ≡ None
  no_leaf fits address missing = elim (option_cases (page_at image (leaf_of address))) [
    | inl gone ↦ gone
    | inr (at, stands) ↦
        let leaf : Link = record { page = leaf_of address; at = at } in
        absurd (missing leaf ((here.has.links leaf).1 (leaf_below found fits address, stands)) refl)
  ]

-- What each read says of an image that has the map.

pub mapping_behind : {trust : Trust} {before now : Seen} (found : ImageMap) (address : ℕ) (mapping : Mapping) (bytes : List ℕ) → IsUntouched trust.tells before now
    → OfMap trust before found (λ image. mapping ≡ mapping_of image address) → OfMap trust now found (λ image. bytes ≡ value_with image.blocks mapping)
    → OfMap trust before found (λ image. bytes ≡ value_of image address)
mapping_behind {trust} {before} {now} found address mapping bytes untouched first second blocks window is here =
    second blocks window (told_on trust before now blocks is untouched) here ∙ ap (value_with blocks) (first blocks window is here)

pub of_later : {trust : Trust} {before now : Seen} (found : ImageMap) (Says : Image → Type 0) → IsUntouched trust.tells before now → OfMap trust now found Says → OfMap trust before found Says
of_later {trust} {before} {now} found Says untouched says blocks window is here = says blocks window (told_on trust before now blocks is untouched) here

pub nothing_right : (trust : Trust) (before : Seen) (found : ImageMap) → Fits found → (address : ℕ) → LinkTo found.pages.links.items (leaf_of address) None
    → OfMap trust before found (λ image. Unmapped ≡ mapping_of image address)
nothing_right trust before found fits address missing blocks window is here = nothing_maps found blocks window here address (no_leaf found blocks window here fits address missing)

module _ (trust : Trust) (before now : Seen) (found : ImageMap) (room : needed_blocks found.head.geometry ≤ before.size) where
  -- a data block is read as it is in the image
  pub block_right : (at : ℕ) (bytes : List ℕ) → IsDataBlock found.head.geometry at → WereRead trust at before now (bytes ∷ []) → OfMap trust before found (λ image. bytes ≡ block_at image.blocks at)
  block_right at bytes is_data read blocks window is here =
      let inside = data_block_inside found.head.geometry at is_data in
      let looked = looked_in_place blocks found.head here.accepted at (looked_high found.head.geometry at (data_block_high found.head.geometry at is_data)) in
      let size = read.told is.told in
      one_in-read (looked_in blocks) before.opening before.log blocks at bytes (omega (arith, size, inside, room)) looked read.given.0
      (subst (λ (n : ℕ). IsMixOf (settled before.opening before.log n) bytes) (add-zero at) (read.given.1 is.told is.fair)) is.one

  module _ (fits : Fits found) (address : ℕ) (leaf : Pbn) (link : LinkTo found.pages.links.items (leaf_of address) (Some leaf))
      (bytes : List ℕ) (read : WereRead trust leaf.0 before now (bytes ∷ [])) where
    abbrev head : PageHead
    head = record { geometry = found.head.geometry; page = leaf_of address; at = leaf }

    -- its leaf stands there, with the changes of its window
    leaf_stands : (blocks : Blocks) (window : List CommittedEntry) → IsTold trust before blocks → IsMapIn found blocks window → Stands (image_of found.head blocks window) head bytes found.changes
    leaf_stands blocks window is here = record {
      geometry = refl;
      there = sym (block_right leaf.0 bytes (link_is_data found fits (leaf_of address) leaf link) read blocks window is here);
      newest = here.newest;
    }

    pub slot_right : (mappings : List Mapping) → ((image : Image) → Stands image head bytes found.changes → IsReadAs image head mappings)
        → OfMap trust before found (λ image. slice_index_or mappings (slot_of_address address) Unmapped ≡ mapping_of image address)
    slot_right mappings reads blocks window is here =
        let read_as = reads (image_of found.head blocks window) (leaf_stands blocks window is here) in
        slot_maps found blocks window here address leaf (slice_index_or mappings (slot_of_address address) Unmapped) (stands_there found blocks window here (leaf_of address) leaf link) (read_as.each (slot_of_address address) (mod-lt address (omega arith)))

    pub slot_undamaged : (fault : PageFault) → ((image : Image) → Stands image head bytes found.changes → HasFault image (leaf_of address) leaf fault) → OfMap trust before found (λ image. ⊥)
    slot_undamaged fault faulty blocks window is here =
        no_page_fault (image_of found.head blocks window) (leaf_of address) leaf fault
        (here.has.pages (leaf_of address) leaf (stands_there found blocks window here (leaf_of address) leaf link)) (faulty (image_of found.head blocks window) (leaf_stands blocks window is here))

-- Why a value wasn't read.

-- what holds of a fault holds of it where it is passed on
pub passed_on : {T : Type 0} (result : Result T ValueFault) (Is : ValueFault → Type 0) (why : ValueFault) → IsErrAnd result (λ e. e ≡ why) → Is why → IfErr result Is
passed_on (Ok x) Is why is has = tt
passed_on (Err e) Is why is has = rw is has

-- one of these addresses is refused
pub one_refused : (found : ImageMap) (addresses : List Lba) (at : Lba) (first before now : Seen) (why : ValueFault) → Contains addresses at → first.faults ≤ before.faults
    → IsRefused found at.0 before now why → AreRefused found addresses first now why
one_refused found addresses at first before now Device has later rose = omega (arith, later, rose)
one_refused found addresses at first before now (Page leaf fault) has later leads = (at, has, leads)
one_refused found addresses at first before now Memory has later none = absurd none
