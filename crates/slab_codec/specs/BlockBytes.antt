-- A block of a slab's journal as bytes. The reader goes by the same definitions as the writer.
use Rattle.std.specs.Prelude.{ℕ, ◌%◌, List, [], ◌∷◌, ◌++◌, length}
use Rattle.byte_fields.specs.Fields.{le}
use Rattle.sector_records.specs.SectorBytes.{sector_form, records_in, sector_of, eight_sectors}
use Rattle.slab_codec.specs.declared.forms.SlabEntry.{SlabEntry}

-- an entry, 12 bytes: its point, the data block's offset in the slab, the point's half, a zero
unfoldable pub entry_bytes : SlabEntry → List ℕ
entry_bytes entry = le 8 entry.point.0 ++ le 2 entry.offset ++ le 1 (entry.point.0 % 2) ++ le 1 0

-- a sector's first 32 bytes: nonce, sequence, slab, the sector's number, the number of entries, "VSS1", four zeros
unfoldable pub head_bytes : ℕ → ℕ → ℕ → ℕ → ℕ → List ℕ
head_bytes nonce sequence slab number count =
    le 8 nonce ++ le 8 sequence ++ le 4 slab ++ le 2 number ++ le 2 count ++ (86 ∷ 83 ∷ 83 ∷ 49 ∷ []) ++ le 4 0

-- a sector: behind its head its entries, at most 40, and zeros
abbrev pub sector_bytes : ℕ → ℕ → ℕ → ℕ → List SlabEntry → List ℕ
sector_bytes nonce sequence slab number entries = sector_form entry_bytes (head_bytes nonce sequence slab number (length entries)) entries

-- the entries of a block fill sector after sector, 40 of them in each
abbrev pub entries_in : ℕ → List SlabEntry → List SlabEntry
entries_in number entries = records_in 40 number entries

-- a block: its eight sectors
unfoldable pub block_bytes : ℕ → ℕ → ℕ → List SlabEntry → List ℕ
block_bytes nonce sequence slab entries = eight_sectors (sector_of entry_bytes (head_bytes nonce sequence slab) 40 entries)
