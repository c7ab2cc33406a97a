-- When a sector of a slab's journal is valid. No other sector is looked at.
use Rattle.std.specs.Prelude.{ℕ, ◌≡◌, ◌<◌, ◌≤◌, ◌^◌, List, length, All}
use Rattle.slab_codec.specs.declared.forms.SlabEntry.{SlabEntry}
use Rattle.slab_codec.specs.BlockBytes.{sector_bytes}

-- what the form can hold: a point, and a data block of a slab of this many
abbrev pub HoldsEntry : ℕ → SlabEntry → Type 0
HoldsEntry slab_blocks entry = (entry.point.0 < 2 ^ 64) × (entry.offset < 2 ^ 16) × (entry.offset < slab_blocks)

-- any sequence, and at most 320 entries
pub record HoldsBlock (slab_blocks sequence : ℕ) (entries : List SlabEntry) : Type 0 where
  pub named : sequence < 2 ^ 64
  pub few : length entries ≤ 320
  pub each : All (HoldsEntry slab_blocks) entries

-- The 512 bytes are a valid sector of this slab with this number, and say this sequence and these entries: they are
-- spelled so, and are of a kind that the form holds.
pub record IsSlabSector (nonce slab slab_blocks number : ℕ) (bytes : List ℕ) (sequence : ℕ) (entries : List SlabEntry) : Type 0 where
  pub spelled : bytes ≡ sector_bytes nonce sequence slab number entries
  pub named : sequence < 2 ^ 64
  pub few : length entries ≤ 40
  pub each : All (HoldsEntry slab_blocks) entries
