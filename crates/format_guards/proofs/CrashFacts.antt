-- What an image shows, of an honest device.
use Rattle.std.proofs.Common.{ℕ, ◌≡◌, List, Contains, Result, Ok, Err, IfOk, map, refl, ◌∙◌, ap, arith}
use Rattle.blk_base.specs.Forms.{lba}
use Rattle.blk_base.specs.declared.journal_entry.CommittedEntry.{CommittedEntry}
use Rattle.blk_base.specs.declared.place.Mapping.TheVariants.{At}
use Rattle.blk_base.specs.declared.place.Pbn.{Pbn}
use Rattle.blk_base.specs.declared.request.Request.{Request}
use Rattle.blk_base.specs.declared.request.Request.TheVariants.{Read}
use Rattle.crash_images.specs.Maps.{IsMapIn, OfMap}
use Rattle.crash_images.specs.Shows.{IsShown}
use Rattle.crash_images.specs.Values.{address_of}
use Rattle.crash_images.specs.declared.fault.ValueFault.{ValueFault}
use Rattle.crash_images.specs.declared.maps.ImageMap.{ImageMap}
use Rattle.crash_images.specs.declared.shown.Shown.{Shown}
use Rattle.disk_model.specs.Log.{Blocks, block_at}
use Rattle.disk_model.specs.Seen.{Seen}
use Rattle.disk_model.specs.Trust.{Trust}
use Rattle.image_model.specs.Maps.{mapping_of, value_of, value_with}
use Rattle.image_model.specs.Sound.{image_of}
use Rattle.rebuild.specs.Recoveries.{IsTold}
use Rattle.vdo_model.specs.Scripts.{Script}

-- a mapped address has what its block has
of_its_block : (trust : Trust) (before : Seen) (found : ImageMap) (address : ℕ) (block : List ℕ) → OfMap trust before found (λ image. block ≡ value_of image address)
    → (blocks : Blocks) (window : List CommittedEntry) (where_at : Pbn) → IsTold trust before blocks → IsMapIn found blocks window
    → mapping_of (image_of found.head blocks window) address ≡ At where_at → block ≡ block_at blocks where_at.0
of_its_block trust before found address block says blocks window where_at told has leads = says blocks window told has ∙ ap (value_with blocks) leads

pub of_its_value : (trust : Trust) (before : Seen) (found : ImageMap) (address : ℕ) (result : Result (List ℕ) ValueFault)
    → IfOk result (λ block. OfMap trust before found (λ image. block ≡ value_of image address))
    → IfOk result (λ block. (blocks : Blocks) (window : List CommittedEntry) (where_at : Pbn) → IsTold trust before blocks → IsMapIn found blocks window
    → mapping_of (image_of found.head blocks window) address ≡ At where_at → block ≡ block_at blocks where_at.0)
of_its_value trust before found address (Ok block) says = of_its_block trust before found address block says
of_its_value trust before found address (Err why) says = tt

-- address 0 is shown where a script reads it
pub first_shown : (trust : Trust) (script : Script) (before : Seen) (shown : Shown) → IsShown trust script before shown → (stream : List Request) → Contains script stream
    → Contains stream (Read (lba 0)) → Contains (map address_of shown.values.items) (lba 0)
first_shown trust script before shown is stream has reads =
    let some = is.values.read.opened_to.head_read.is.sizes.logical.0 in
    (is.values.named.each (lba 0)).1 (stream, Read (lba 0), has, reads, refl, omega (arith, some))
