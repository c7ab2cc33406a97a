-- A session over a device in memory is fair where that has the image that was opened, whatever was called: such a device tells, and
-- is honest. And a session for what was opened of a device is never fair where that says nothing of itself.
use Rattle.std.proofs.Common.{ℕ, ◌≡◌, ◌<◌, ◌≤◌, None, true, length, slice_index, refl, arith}
use Rattle.blk_base.specs.Regions.{needed_blocks}
use Rattle.blk_base.specs.declared.opened.Opened.{Opened}
use Rattle.blk_base.specs.declared.place.PageId.{PageId}
use Rattle.disk_model.specs.Log.{Blocks, block_at}
use Rattle.disk_model.specs.Memory.{fresh, seen_of}
use Rattle.disk_model.specs.Seen.{Seen}
use Rattle.disk_model.specs.Trust.{trust_of}
use Rattle.image_model.specs.Empty.{IsEmpty}
use Rattle.vdo_model.specs.Scripts.{Script}
use Rattle.data_vio.specs.declared.sizes.Sizes.{Sizes}
use Rattle.core_model.specs.PageLinks.{opened_page}
use Rattle.core_model.specs.Sessions.{IsAsOpened, IsFair, Session}
use Rattle.core_model.specs.Trace.{Trace}
use Rattle.core_laws.proofs.kept.NewImages.{new_opened}
use Rattle.step_parts.specs.DeviceLog.{HasCalled}
use Rattle.vdo_core.specs.Cores.{CanBegin}
use Rattle.vdo_core.proofs.SessionLaws.{bare, can_serve, honest_reads}

module _ (sizes : Sizes) (script : Script) (opened : Opened) (image : Blocks) where
  -- the session over this image on a device in memory
  abbrev in_memory : Session
  in_memory =
      let seen = seen_of (fresh image) in record {
        sizes = sizes;
        script = script;
        links = opened_page opened.pages.items;
        counters = opened.counters.items;
        blocks = seen.opening;
        before = seen.log;
        image = image;
      }

  fair-in_memory : (after : Seen) (t : Trace) → IsAsOpened in_memory → HasCalled (trust_of true true) (seen_of (fresh image)) after t → IsFair in_memory t
  fair-in_memory after t as_opened called = record { honest = honest_reads in_memory t (called.given refl refl); opened = as_opened }

  -- so where that is a new image, which links no page
  fair-over_a_new_image : (after : Seen) (t : Trace) → CanBegin sizes script opened → IsEmpty sizes.geometry image → needed_blocks sizes.geometry ≤ length image
      → ((b : ℕ) → b < length image → length (block_at image b) ≡ 4096) → ((page : PageId) → opened_page opened.pages.items page ≡ None) → ((k : ℕ) → slice_index opened.counters.items k ≡ 0)
      → HasCalled (trust_of true true) (seen_of (fresh image)) after t → IsFair in_memory t
  fair-over_a_new_image after t can empty room whole links uncounted called =
      let session = can_serve sizes script opened in_memory can (record { sizes_is = refl; script_is = refl; links_is = refl; counters_are = refl }) in
      fair-in_memory after t (new_opened in_memory session (record { empty = empty; room = room; whole = whole; blocks = refl; unwritten = refl; links = links; uncounted = uncounted })) called

fair-not_without_a_device : (sizes : Sizes) (script : Script) (opened : Opened) (t : Trace) → IsFair (bare sizes script opened) t → ⊥
fair-not_without_a_device sizes script opened t fair = let room = fair.opened.room in omega (arith, room)
