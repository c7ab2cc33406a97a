-- What an image shows of the entries that were handed in.
use Rattle.std.specs.Prelude.{ℕ, ◌≡◌, List, ◌++◌}
use Rattle.blk_base.specs.declared.geometry.Geometry.{Geometry}
use Rattle.blk_base.specs.declared.journal_entry.CommittedEntry.{CommittedEntry}
use Rattle.disk_model.specs.Log.{Blocks}
use Rattle.image_layout.specs.Values.{journal_of}
use Rattle.image_model.specs.Windows.{IsWindow}

-- the entries are these and newer ones; the newest stand first
abbrev pub Extends : List CommittedEntry → List CommittedEntry → Type 0
Extends entries older = (newer : List CommittedEntry) × (entries ≡ newer ++ older)

-- The window of an image has the newest of these entries; the others stand before its head.
pub record HasInWindow (g : Geometry) (start : ℕ) (image : Blocks) (entries : List CommittedEntry) : Type 0 where
  pub last : ℕ
  pub window : List CommittedEntry
  pub is_window : IsWindow g start (journal_of g image) last window
  pub reaped : List CommittedEntry
  pub all : entries ≡ window ++ reaped
