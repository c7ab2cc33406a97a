-- A block of the recovery journal as bytes. The reader goes by the same definitions as the writer.
use Rattle.std.specs.Prelude.{ℕ, List, [], ◌∷◌, ◌++◌, length}
use Rattle.blk_base.specs.declared.place.Mapping.{Mapping}
use Rattle.blk_base.specs.declared.place.Mapping.TheVariants.{Unmapped, At}
use Rattle.blk_base.specs.declared.journal_entry.Entry.{Entry}
use Rattle.blk_base.specs.declared.journal_entry.Entry.TheVariants.{Remap, NewPage}
use Rattle.byte_fields.specs.Fields.{le}
use Rattle.byte_fields.specs.Mappings.{mapping_bytes}
use Rattle.sector_records.specs.SectorBytes.{sector_form, records_in, sector_of, eight_sectors}

-- An entry, 20 bytes: its kind, the tree and level of a new page, a zero, a number, the old and the new mapping, two zeros.
unfoldable pub entry_form : ℕ → ℕ → ℕ → ℕ → Mapping → Mapping → List ℕ
entry_form kind tree level number old new =
    le 1 kind ++ le 1 tree ++ le 1 level ++ le 1 0 ++ le 4 number ++ mapping_bytes old ++ mapping_bytes new ++ le 2 0

-- kind 0 maps an address anew, kind 1 has a new page of the block map
abbrev pub entry_bytes : Entry → List ℕ
entry_bytes (Remap at old new) = entry_form 0 0 0 at.0 old new
entry_bytes (NewPage page at) = entry_form 1 page.tree page.level page.index Unmapped (At at)

-- a sector's first 32 bytes: nonce, sequence, the head of the journal, the sector's number, the number of entries, "VJS1"
unfoldable pub head_bytes : ℕ → ℕ → ℕ → ℕ → ℕ → List ℕ
head_bytes nonce sequence head number count =
    le 8 nonce ++ le 8 sequence ++ le 8 head ++ le 2 number ++ le 2 count ++ (86 ∷ 74 ∷ 83 ∷ 49 ∷ [])

-- a sector: behind its head its entries, at most 24, and zeros
abbrev pub sector_bytes : ℕ → ℕ → ℕ → ℕ → List Entry → List ℕ
sector_bytes nonce sequence head number entries = sector_form entry_bytes (head_bytes nonce sequence head number (length entries)) entries

-- the entries of a block fill sector after sector, 24 of them in each
abbrev pub entries_in : ℕ → List Entry → List Entry
entries_in number entries = records_in 24 number entries

-- a block: its eight sectors
unfoldable pub block_bytes : ℕ → ℕ → ℕ → List Entry → List ℕ
block_bytes nonce sequence head entries = eight_sectors (sector_of entry_bytes (head_bytes nonce sequence head) 24 entries)
