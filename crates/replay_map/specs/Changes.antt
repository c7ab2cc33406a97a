-- What the entries of a window put into slots.
use Rattle.std.specs.Prelude.{ℕ, ◌≡◌, ◌^◌, ◌<◌, ◌==◌, ◌&&◌, if◌then◌else◌, Bool, List, [], ◌∷◌, Option, Some, None}
use Rattle.blk_base.specs.declared.journal_entry.CommittedEntry.{CommittedEntry}
use Rattle.blk_base.specs.declared.place.Mapping.{Mapping}
use Rattle.blk_base.specs.declared.place.PageId.{PageId}
use Rattle.image_model.specs.Maps.{put_last}
use Rattle.image_model.specs.Pages.{is_page}
use Rattle.replay_map.specs.declared.changes.SlotId.{SlotId}

-- it is this slot of this page
abbrev pub is_slot : SlotId → PageId → ℕ → Bool
is_slot id page slot = is_page page id.page && (slot == id.slot)

-- what changes put into a slot
abbrev pub changed : List (SlotId × Mapping) → PageId → ℕ → Option Mapping
changed [] page slot = None
changed (change ∷ others) page slot = if is_slot change.0 page slot then Some change.1 else changed others page slot

-- They put into each slot what the newest entry for it does, and into no other. (Levels of pages are below 256.)
abbrev pub AreNewest : List CommittedEntry → List (SlotId × Mapping) → Type 0
AreNewest window changes = (page : PageId) (slot : ℕ) → page.level < 2 ^ 8 → changed changes page slot ≡ put_last window page slot
