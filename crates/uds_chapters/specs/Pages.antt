-- A page of a chapter as bytes. The reader goes by the same definitions as the writer.
use Rattle.std.specs.Prelude.{ℕ, ◌≡◌, ◌<◌, ◌≤◌, ◌^◌, ◌-◌, ◌*◌, List, ◌++◌, length, replicate, flat_map, All}
use Rattle.byte_fields.specs.Fields.{le}
use Rattle.uds_chapters.specs.declared.entry.Record.{Record}
use Rattle.uds_chapters.specs.Names.{AreRising}

-- a record, 24 bytes: its name, and its location in 8
unfoldable pub record_bytes : Record → List ℕ
record_bytes one = one.name ++ le 8 one.at.0

-- the first 16 bytes of a page: the image's nonce, the chapter's number, the page's, that of its records, and two zeros
unfoldable pub head_bytes : ℕ → ℕ → ℕ → ℕ → List ℕ
head_bytes nonce number page count = le 8 nonce ++ le 4 number ++ le 1 page ++ le 1 count ++ le 2 0

-- a page, 4096 bytes: its head, its records, and zeros
unfoldable pub page_bytes : ℕ → ℕ → ℕ → List Record → List ℕ
page_bytes nonce number page records =
    head_bytes nonce number page (length records) ++ flat_map record_bytes records ++ replicate (4080 - 24 * length records) 0

-- what a record's bytes can hold: a name of 16 bytes, and a location of 4
abbrev pub HoldsRecord : Record → Type 0
HoldsRecord one = (length one.name ≡ 16) × (one.at.0 < 2 ^ 32)

-- the block is this page of the chapter with this number, and has these records
pub record IsPage (nonce number page : ℕ) (block : List ℕ) (records : List Record) : Type 0 where
  pub place : page < 4
  pub spelled : block ≡ page_bytes nonce number page records
  pub few : length records ≤ 170
  pub held : All HoldsRecord records
  pub rising : AreRising records
