-- What a recovery journal knows: its entries with their points, what is committed and handed out, and what each zone
-- still needs.
use Rattle.std.specs.Prelude.{ℕ, ◌≡◌, ◌+◌, ◌/◌, ◌<◌, ◌≤◌, ◌⊎◌, List, [], ◌∷◌, ◌++◌, length, drop, replicate, All, Any}
use Rattle.blk_base.specs.Points.{point_of, raised}
use Rattle.blk_base.specs.declared.geometry.Geometry.{Geometry}
use Rattle.blk_base.specs.declared.point.Point.{Point}
use Rattle.blk_base.specs.declared.point.Half.TheVariants.{Increment}
use Rattle.blk_base.specs.declared.journal_entry.Entry.{Entry}
use Rattle.journal_codec.specs.declared.forms.JournalBlock.{JournalBlock}
use Rattle.blk_base.specs.declared.journal_entry.CommittedEntry.{CommittedEntry}
use Rattle.blk_base.specs.declared.sizes.TheConstants.{JOURNAL_ENTRIES}

-- `size` is how many blocks the ring on the device has. `sequence` is that of the block being filled, and `filling` its
-- entries. `entries` are those of sealed blocks that some zone still needs, in the order of their points; the first
-- `handed` of them were handed out. The blocks below `committed` are committed. Each zone's part of every entry below its
-- watermark is durable.
pub record Log : Type 0 where
  pub nonce : ℕ
  pub size : ℕ
  pub sequence : ℕ
  pub filling : List Entry
  pub entries : List CommittedEntry
  pub handed : ℕ
  pub committed : ℕ
  pub watermarks : List Point

-- the point of an entry of a block
abbrev pub point_at : ℕ → ℕ → ℕ
point_at sequence number = point_of sequence number Increment

-- an empty journal, of which no zone needs a block
abbrev pub opening : Geometry → ℕ → ℕ → Log
opening geometry start zones =
    record {
      nonce = geometry.nonce;
      size = geometry.journal;
      sequence = start;
      filling = [];
      entries = [];
      handed = 0;
      committed = start;
      watermarks = replicate zones (record { 0 = point_at start 0 });
    }

-- the entry's block has a sequence of at least 1
abbrev pub IsNamed : CommittedEntry → Type 0
IsNamed entry = point_at 1 0 ≤ entry.point.0

-- some zone's part of the entry at this point isn't durable
abbrev pub IsNeeded : List Point → Point → Type 0
IsNeeded watermarks point = Any (λ watermark. watermark.0 ≤ point.0) watermarks

-- every zone's part of it is
abbrev pub IsDurable : List Point → Point → Type 0
IsDurable watermarks point = All (λ watermark. point.0 < watermark.0) watermarks

-- the sequence of the first of these entries, or else this one
abbrev pub first_sequence : List CommittedEntry → ℕ → ℕ
first_sequence [] sequence = sequence
first_sequence (entry ∷ entries) sequence = entry.point.0 / 512

-- the head that a sealed block records
abbrev pub head_of : Log → ℕ
head_of log = first_sequence log.entries log.sequence

-- the least sequence with an entry that some zone still needs; where there is none, that of the block being filled
pub record IsHead (log : Log) (head : ℕ) : Type 0 where
  pub reached : head ≤ log.sequence
  pub least : All (λ entry. IsNeeded log.watermarks entry.point → point_at head 0 ≤ entry.point.0) log.entries
  pub needed : (head ≡ log.sequence) ⊎ Any (λ entry. IsNeeded log.watermarks entry.point × (entry.point.0 / 512 ≡ head)) log.entries

-- the block being filled takes one more entry, and its slot in the ring has a block that nobody needs
pub record HasRoom (log : Log) : Type 0 where
  pub fewer : length log.filling < JOURNAL_ENTRIES
  pub ring : log.sequence + 2 ≤ head_of log + log.size

-- it doesn't
abbrev pub HasNoRoom : Log → Type 0
HasNoRoom log = (length log.filling ≡ JOURNAL_ENTRIES) ⊎ (head_of log + log.size < log.sequence + 2)

-- a sealed block isn't committed yet
abbrev pub IsWriting : Log → Type 0
IsWriting log = log.committed < log.sequence

-- the entries of a block from this number on, with their points
abbrev pub placed : ℕ → ℕ → List Entry → List CommittedEntry
placed sequence number [] = []
placed sequence number (entry ∷ entries) = (record { entry = entry; point = record { 0 = point_at sequence number } }) ∷ placed sequence (number + 1) entries

-- the block being filled was sealed with the head of this moment, and the next one is filled
pub record Seals (old new : Log) (block : JournalBlock) : Type 0 where
  pub waits : 0 < length old.filling
  pub none_writing : old.committed ≡ old.sequence
  pub records : block ≡ record { nonce = old.nonce; sequence = old.sequence; head = head_of old; entries = old.filling }
  pub follows : new ≡ record old {
    sequence = old.sequence + 1;
    filling = [];
    entries = old.entries ++ placed old.sequence 0 old.filling;
  }

-- the entries that weren't handed out
abbrev pub unhanded : Log → List CommittedEntry
unhanded log = drop log.handed log.entries

-- the point of the first entry that wasn't handed out; where there is none, the first of the block being filled
abbrev pub first_point : List CommittedEntry → ℕ → ℕ
first_point [] sequence = point_at sequence 0
first_point (entry ∷ entries) sequence = entry.point.0

-- this is the next committed entry, and now it is handed out; those that are left have higher points
pub record HandsOut (old new : Log) (entry : CommittedEntry) : Type 0 where
  pub next : unhanded old ≡ entry ∷ unhanded new
  pub committed : entry.point.0 < point_at old.committed 0
  pub handed : new ≡ record old { handed = old.handed + 1 }
  pub order : All (λ later. entry.point.0 < later.point.0) (unhanded new)

-- every entry that wasn't handed out is of a block that isn't committed
abbrev pub NoneCommitted : Log → Type 0
NoneCommitted log = All (λ entry. point_at log.committed 0 ≤ entry.point.0) (unhanded log)

-- every entry below this point was handed out
pub record IsBehind (log : Log) (point : Point) : Type 0 where
  pub sealed : All (λ entry. point.0 ≤ entry.point.0) (unhanded log)
  pub filling : point.0 ≤ point_at log.sequence 0

-- the zone's watermark rose, and the entries of which every zone's part is durable are left out
pub record Advances (old new : Log) (zone : ℕ) (point : Point) : Type 0 where
  pub durable : List CommittedEntry
  pub watermarks : new.watermarks ≡ raised old.watermarks zone point
  pub parts : old.entries ≡ durable ++ new.entries
  pub done : All (λ entry. IsDurable new.watermarks entry.point) durable
  pub needed : All (λ entry. IsNeeded new.watermarks entry.point) new.entries
  pub handed : old.handed ≡ length durable + new.handed
  pub rest : new ≡ record old { watermarks = new.watermarks; entries = new.entries; handed = new.handed }
