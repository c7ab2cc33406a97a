-- What a page says of a name.
use Rattle.std.specs.Prelude.{ℕ, ◌≡◌, ◌<◌, List, length, All, Any, Option, Some, None}
use Rattle.blk_base.specs.declared.place.Pbn.{Pbn}
use Rattle.std.specs.declared.cmp.Ordering.TheVariants.{Less, Greater}
use Rattle.uds_chapters.specs.declared.entry.Record.{Record}
use Rattle.uds_chapters.specs.declared.found.PageFind.{PageFind}
use Rattle.uds_chapters.specs.declared.found.PageFind.TheVariants.{At, Before, After, Absent, NotAPage}
use Rattle.uds_chapters.specs.Names.{name_cmp}
use Rattle.uds_chapters.specs.Chapters.{location_of}
use Rattle.uds_chapters.specs.Pages.{IsPage}

-- the records whose names are below, and those whose names are above
abbrev pub IsUnder : List ℕ → Record → Type 0
IsUnder name one = name_cmp one.name name ≡ Less

abbrev pub IsOver : List ℕ → Record → Type 0
IsOver name one = name_cmp one.name name ≡ Greater

-- What records that rise say of a name: they have its location; or it is before all of them, also where there is none;
-- behind all of them; or between two of them, and not there.
abbrev pub Says : List Record → List ℕ → PageFind → Type 0
Says records name (At location) = location_of name records ≡ Some location
Says records name Before = All (IsOver name) records
Says records name After = (0 < length records) × All (IsUnder name) records
Says records name Absent = (location_of name records ≡ None) × Any (IsUnder name) records × Any (IsOver name) records
Says records name NotAPage = ⊥

-- what a block says of a name, taken for this page of this chapter
abbrev pub Finds : ℕ → ℕ → ℕ → List ℕ → List ℕ → PageFind → Type 0
Finds nonce number page block name NotAPage = (records : List Record) → IsPage nonce number page block records → ⊥
Finds nonce number page block name found = (records : List Record) × IsPage nonce number page block records × Says records name found

-- the location that an answer gives
abbrev pub location_in : PageFind → Option Pbn
location_in (At location) = Some location
location_in other = None
