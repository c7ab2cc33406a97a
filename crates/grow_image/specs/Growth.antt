-- What is promised of an image that grows.
use Rattle.std.specs.Prelude.{ℕ, ◌≡◌, ◌⊎◌, ◌<◌, ◌≤◌, Bool, true, List, Option, Some, None, Result, Ok, Err, IfOk, IfErr}
use Rattle.blk_base.specs.Sectors.{zero_block}
use Rattle.blk_base.specs.declared.geometry.Geometry.{Geometry}
use Rattle.blk_base.specs.declared.geometry.Super.{Super as Superblock}
use Rattle.blk_base.specs.declared.opened.Opened.{Opened}
use Rattle.blk_base.specs.declared.place.Lba.{Lba}
use Rattle.blk_base.specs.declared.place.Mapping.TheVariants.{Unmapped}
use Rattle.disk_model.specs.Log.{Blocks}
use Rattle.disk_model.specs.Seen.{Later, Seen, Stays}
use Rattle.disk_model.specs.Trust.{Trust}
use Rattle.disk_model.specs.Since.{IsUntouched, SinceThen}
use Rattle.image_format.specs.Runs.{OneFailed, WereMade}
use Rattle.image_layout.specs.PossibleSizes.{plan_of}
use Rattle.image_model.specs.Looked.{HasOneImageButIndex}
use Rattle.image_model.specs.Maps.{Image as WholeImage, ArePagesGood, mapping_of, value_of}
use Rattle.image_model.specs.Sound.{AreTrue, AreUnshared, IsSound, Opens, image_of}
use Rattle.image_model.specs.declared.fault.ImageFault.{ImageFault}
use Rattle.image_model.specs.declared.fault.ImageFault.TheVariants.{Device, Memory}
use Rattle.rebuild.specs.Acts.{Grows}
use Rattle.rebuild.specs.Openings.{IsOpenedFrom, IsOpeningRefusal, OpeningFails}
use Rattle.rebuild.specs.Recoveries.{IsTold}
use Rattle.recovery_laws.specs.Kept.{image_in}
use Rattle.replay_map.specs.declared.links.Link.{Link}
use Rattle.grow_image.specs.Calls.{grow_calls}
use Rattle.grow_image.specs.Kept.{AreStopsRight, AreUnmapped, IsGrown}
use Rattle.grow_image.specs.Searches.{SearchFails}
use Rattle.grow_image.specs.NewAddresses.{AreNewLeaves, IsLeastMapped, IsShownBy}
use Rattle.grow_image.specs.Sizes.{CanGrow, IsMore, IsSmaller, PlanFails, grown_of, grown_sizes}
use Rattle.grow_image.specs.declared.address_range.AddressRange.{AddressRange}
use Rattle.grow_image.specs.declared.fault.GrowFault.{GrowFault}
use Rattle.grow_image.specs.declared.fault.GrowFault.TheVariants.{Image, Smaller, Layout, Mapped}
use Rattle.grow_image.specs.declared.forms.Grown.{Grown}

-- Of any device, once the image was opened.

-- the addresses that are new
abbrev pub new_addresses : Geometry → ℕ → AddressRange
new_addresses g logical = record { first = g.logical; end = logical }

-- the leaves that have new addresses were read, and in all blocks that have what was read this is the least of them that is
-- mapped, if there is one
abbrev pub IsSearched : Trust → Opened → ℕ → Seen → Seen → Option Lba → Type 0
IsSearched trust opened logical before now least =
    (leaves : List Link) × AreNewLeaves (new_addresses opened.head.geometry logical) opened.pages.items leaves
    × IsShownBy trust opened.head.geometry before now (λ blocks. IsLeastMapped opened.head.geometry (new_addresses opened.head.geometry logical) leaves blocks least)

-- why it isn't known whether one is
abbrev pub SearchingFails : Trust → Opened → ℕ → Seen → Seen → ImageFault → Type 0
SearchingFails trust opened logical before now Memory = now ≡ before
SearchingFails trust opened logical before now why =
    (leaves : List Link) × AreNewLeaves (new_addresses opened.head.geometry logical) opened.pages.items leaves
    × SearchFails trust opened.head.geometry (new_addresses opened.head.geometry logical) leaves before now why

-- why they aren't known to be unmapped
abbrev pub UnmappedFails : Trust → Opened → ℕ → Seen → Seen → GrowFault → Type 0
UnmappedFails trust opened logical before now (Mapped at) = IsSearched trust opened logical before now (Some at)
UnmappedFails trust opened logical before now (Image why) = SearchingFails trust opened logical before now why
UnmappedFails trust opened logical before now (Smaller field) = ⊥
UnmappedFails trust opened logical before now (Layout fault) = ⊥

-- the new addresses were searched, and then the calls were made
pub record GrowsTo (trust : Trust) (opened : Opened) (logical slabs : ℕ) (before now : Seen) (grown : Grown) : Type 0 where
  pub can : CanGrow opened.head.geometry logical slabs before.size
  pub middle : Seen
  pub searched : IsSearched trust opened logical before middle None
  pub made : WereMade trust.tells middle now (grow_calls opened.head logical slabs)
  pub grown_is : grown ≡ grown_of opened.head.geometry logical slabs

-- they were, and one of the calls failed
pub record GrowStops (trust : Trust) (opened : Opened) (logical slabs : ℕ) (before now : Seen) : Type 0 where
  pub can : CanGrow opened.head.geometry logical slabs before.size
  pub middle : Seen
  pub searched : IsSearched trust opened logical before middle None
  pub failed : OneFailed trust.tells middle now (grow_calls opened.head logical slabs)

-- why an image that was opened didn't grow: the sizes can't be had, and no call was made; a new address is mapped, or it isn't
-- known; or a call failed
abbrev pub OpenedFails : Trust → Opened → ℕ → ℕ → Seen → Seen → GrowFault → Type 0
OpenedFails trust opened logical slabs before now why =
    (PlanFails opened.head.geometry logical slabs before.size why × (now ≡ before))
    ⊎ (CanGrow opened.head.geometry logical slabs before.size × UnmappedFails trust opened logical before now why × IsUntouched trust.tells before now)
    ⊎ ((why ≡ Image Device) × GrowStops trust opened logical slabs before now)

abbrev pub GrowsOpened : Trust → Opened → ℕ → ℕ → Seen → Seen → Result Grown GrowFault → Type 0
GrowsOpened trust opened logical slabs before now (Ok grown) = GrowsTo trust opened logical slabs before now grown
GrowsOpened trust opened logical slabs before now (Err why) = OpenedFails trust opened logical slabs before now why

-- Of any device.

-- the image was opened, and then it has grown
abbrev pub Answers : Trust → ℕ → ℕ → Seen → Seen → Grown → Type 0
Answers trust logical slabs before now grown =
    (opened : Opened) × (middle : Seen) × IsOpenedFrom trust before middle opened × GrowsTo trust opened logical slabs middle now grown

-- why it wasn't opened
abbrev pub NotOpened : Trust → Seen → Seen → GrowFault → Type 0
NotOpened trust before now (Image why) = OpeningFails trust before now why
NotOpened trust before now (Smaller field) = ⊥
NotOpened trust before now (Layout fault) = ⊥
NotOpened trust before now (Mapped at) = ⊥

-- why it didn't grow: it wasn't opened, or it was and then as above
abbrev pub GrowFails : Trust → ℕ → ℕ → Seen → Seen → GrowFault → Type 0
GrowFails trust logical slabs before now why =
    NotOpened trust before now why
    ⊎ ((opened : Opened) × (middle : Seen) × IsOpenedFrom trust before middle opened × OpenedFails trust opened logical slabs middle now why)

-- nothing was written, but where a call failed
abbrev pub WritesNothing : Bool → Seen → Seen → GrowFault → Type 0
WritesNothing tells before now why = (why ≡ Image Device) ⊎ IsUntouched tells before now

-- Of an honest device on which nothing is pending but in the index: by its one image.

-- the image has this superblock, was closed, and has none of the faults
pub record HasNoFault (blocks : Blocks) (head : Superblock) (image : WholeImage) : Type 0 where
  pub last : ℕ
  pub opens : Opens blocks head last image.window
  pub is_image : image ≡ image_of head blocks image.window
  pub clean : head.clean ≡ true
  pub pages : ArePagesGood image
  pub unshared : AreUnshared image
  pub counts : AreTrue image

-- the least new address that is mapped
pub record IsFirstNew (image : WholeImage) (logical at : ℕ) : Type 0 where
  pub behind : image.geometry.logical ≤ at
  pub below : at < logical
  pub mapped : mapping_of image at ≡ Unmapped → ⊥
  pub first : AreUnmapped image at

-- such an image, of which this holds
abbrev pub OfImage : Blocks → (Superblock → WholeImage → Type 0) → Type 0
OfImage blocks Says = (head : Superblock) × (image : WholeImage) × HasNoFault blocks head image × Says head image

-- why it didn't grow: the first of these
abbrev pub IsRefusal : Blocks → ℕ → ℕ → Seen → Seen → GrowFault → Type 0
IsRefusal blocks logical slabs before now (Image why) = IsOpeningRefusal blocks before now why
IsRefusal blocks logical slabs before now (Smaller field) = OfImage blocks (λ head image. IsSmaller head.geometry logical slabs field)
IsRefusal blocks logical slabs before now (Layout fault) =
    OfImage blocks (λ head image. IsMore head.geometry logical slabs × (plan_of (grown_sizes head.geometry logical slabs) before.size ≡ Err fault))
IsRefusal blocks logical slabs before now (Mapped at) =
    OfImage blocks (λ head image. CanGrow head.geometry logical slabs before.size × IsFirstNew image logical at.0)

-- what an honest device is answered
abbrev pub IsResult : Blocks → ℕ → ℕ → Seen → Seen → Result Grown GrowFault → Type 0
IsResult blocks logical slabs before now (Ok grown) =
    OfImage blocks (λ head image. CanGrow head.geometry logical slabs before.size × AreUnmapped image logical × (grown ≡ grown_of head.geometry logical slabs))
IsResult blocks logical slabs before now (Err why) = IsRefusal blocks logical slabs before now why

-- Each way it ends: where the image is sound and was closed, whatever a stop leaves at each moment since is sound, and is the
-- image as it was or the one that has grown.
abbrev pub AreStopsSound : Blocks → ℕ → ℕ → Seen → Seen → Type 0
AreStopsSound blocks logical slabs before now = (sound : IsSound blocks) → sound.head.clean ≡ true
    → SinceThen (AreStopsRight blocks sound logical slabs before.opening before.log) before.log now.log

-- Afterwards nothing is pending but in the index, and the image has grown; each new address has zeros.
pub record LeavesGrown (blocks : Blocks) (sound : IsSound blocks) (logical slabs : ℕ) (now : Seen) : Type 0 where
  pub image : Blocks
  pub one : HasOneImageButIndex now.opening now.log image
  pub is : IsGrown blocks sound logical slabs image
  pub fresh : (address : ℕ) → sound.head.geometry.logical ≤ address → address < logical → value_of (image_in image is.grown) address ≡ zero_block

-- what is promised of any device, and of an honest one
pub record IsGrowing (trust : Trust) (logical slabs : ℕ) (before now : Seen) (result : Result Grown GrowFault) : Type 0 where
  -- of any device
  pub stays : Stays before now
  pub later : Later before now
  pub grows : Grows trust.tells before now
  pub answers : IfOk result (Answers trust logical slabs before now)
  pub fails : IfErr result (GrowFails trust logical slabs before now)
  pub nothing : IfErr result (WritesNothing trust.tells before now)
  -- of an honest one, by its one image
  pub says : (blocks : Blocks) → IsTold trust before blocks → IsResult blocks logical slabs before now result
  pub stops : (blocks : Blocks) → IsTold trust before blocks → AreStopsSound blocks logical slabs before now
  pub grown : IfOk result (λ _. (blocks : Blocks) → IsTold trust before blocks → (sound : IsSound blocks) → LeavesGrown blocks sound logical slabs now)
