-- What a trace says of a session: its report, and what an image shows.
use Rattle.std.specs.Prelude.{ℕ, suc, ◌≡◌, ◌≢◌, ◌⊎◌, ◌<◌, length, IsTrue, Bool, true, false, Option, None, Some, List}
use Rattle.blk_base.specs.Sectors.{sector}
use Rattle.blk_base.specs.declared.request.Writer.{Writer}
use Rattle.disk_model.specs.Log.{Blocks, block_at}
use Rattle.image_layout.specs.Values.{journal_of}
use Rattle.image_model.specs.Counts.{HasMappings}
use Rattle.image_model.specs.Maps.{image_with, value_of}
use Rattle.blk_base.specs.declared.place.Pbn.{Pbn}
use Rattle.vdo_model.specs.Histories.{Progress, histories_of}
use Rattle.vdo_model.specs.ZoneOrder.{by_zone}
use Rattle.vdo_model.specs.declared.report.HistoryEntry.{HistoryEntry}
use Rattle.vdo_model.specs.declared.report.Placed.{Placed}
use Rattle.vdo_model.specs.declared.report.RunReport.{RunReport}
use Rattle.data_vio.specs.declared.logged.Remapping.{Remapping}
use Rattle.core_model.specs.Sessions.{Session, opened_image}
use Rattle.core_model.specs.Superblocks.{superblock_bytes}
use Rattle.core_model.specs.Uses.{used_at}
use Rattle.core_model.specs.Trace.{Trace, lines, marks, receipts, places, damage_in, entered, done, logged_of}
use Rattle.image_model.specs.Windows.{IsWindow}
use Rattle.image_model.specs.Looked.{is_looked_at}
use Rattle.blk_base.specs.declared.journal_entry.CommittedEntry.{CommittedEntry}
use Rattle.blk_base.specs.declared.geometry.Geometry.{Geometry}
use Rattle.blk_base.specs.Regions.{data_blocks}

abbrev pub is_there : Option Remapping → Bool
is_there None = false
is_there (Some e) = true

abbrev pub set_in : Trace → Writer → Bool
set_in t w = is_there (logged_of (done t) w)

abbrev pub handed_in : Trace → Writer → Bool
handed_in t w = is_there (logged_of (entered t) w)

-- how far each write has come
abbrev pub progress_of : Trace → Progress
progress_of t = record { is_set = set_in t; is_handed = handed_in t }

-- the places that each logical zone drew, one zone's list behind the other's
abbrev pub listed_places : Session → Trace → List Placed
listed_places s t = by_zone s.sizes.zones (places t)

-- the histories, by the places in the order in which they were drawn
abbrev pub drawn_histories : Session → Trace → List HistoryEntry
drawn_histories s t = histories_of s.script (lines t) (progress_of t) (places t)

-- the report of a session at a moment
abbrev pub report_of : Session → Trace → RunReport
report_of s t = record {
  requests = s.script;
  desk = lines t;
  marks = marks t;
  receipts = receipts t;
  places = listed_places s t;
  histories = histories_of s.script (lines t) (progress_of t) (listed_places s t);
  damage = damage_in t;
  used = used_at s t;
  total = data_blocks s.sizes.geometry;
}

-- an image has a window, with which its addresses have these values
pub record GivesValues (g : Geometry) (start : ℕ) (image : Blocks) (values : ℕ → List ℕ) : Type 0 where
  pub last : ℕ
  pub window : List CommittedEntry
  pub is_window : IsWindow g start (journal_of g image) last window
  pub values_are : (a : ℕ) → values a ≡ value_of (image_with g image window) a

-- a block has mappings by the window of an image: so its counter isn't 0, once the image is recovered
pub record IsMappedIn (g : Geometry) (start : ℕ) (image : Blocks) (x : Pbn) : Type 0 where
  pub last : ℕ
  pub window : List CommittedEntry
  pub is_window : IsWindow g start (journal_of g image) last window
  pub more : ℕ
  pub mapped : HasMappings (image_with g image window) x (suc more)

-- nothing was written to an image since it was opened, the index and the other sectors of the superblock's block aside
pub record IsStillOpened (s : Session) (image : Blocks) : Type 0 where
  pub says : sector 0 (block_at image 0) ≡ sector 0 (block_at s.image 0)
  pub others : (x : ℕ) → x < length s.blocks → x ≢ 0 → IsTrue (is_looked_at s.sizes.geometry x) → block_at image x ≡ block_at s.image x

-- it is, or the first sector of the image says what the superblock of the session says there
abbrev pub SaysSuperblock : Session → Blocks → Type 0
SaysSuperblock s image = IsStillOpened s image ⊎ (sector 0 (block_at image 0) ≡ sector 0 (superblock_bytes s.sizes))

-- it says so, and its addresses have these values
abbrev pub ShowsValues : Session → Blocks → (ℕ → List ℕ) → Type 0
ShowsValues s image values = SaysSuperblock s image × GivesValues s.sizes.geometry s.sizes.start image values

-- the value of each address when the session began
abbrev pub opening_values : Session → ℕ → List ℕ
opening_values s = value_of (opened_image s)
