-- The order of names, and of the records that have them.
use Rattle.std.specs.Prelude.{ℕ, ◌≡◌, ◌<◌, List, length, slice_index, All, AllPairs}
use Rattle.std.specs.Ordering.{nat_cmp}
use Rattle.std.specs.Cmp.Lexicographic.{slice_cmp}
use Rattle.std.specs.declared.cmp.Ordering.{Ordering}
use Rattle.std.specs.declared.cmp.Ordering.TheVariants.{Less}
use Rattle.uds_chapters.specs.declared.entry.Record.{Record}

-- names are ordered as lists of bytes: the first byte that differs decides
abbrev pub name_cmp : List ℕ → List ℕ → Ordering
name_cmp one other = slice_cmp nat_cmp one other

-- the name of one record is below that of the other
abbrev pub IsBelow : Record → Record → Type 0
IsBelow one other = name_cmp one.name other.name ≡ Less

-- each name is below those of all later records, so no name stands twice
abbrev pub AreRising : List Record → Type 0
AreRising records = AllPairs IsBelow records

-- a name has 16 bytes
pub record IsName (name : List ℕ) : Type 0 where
  pub size : length name ≡ 16
  pub bytes : (k : ℕ) → slice_index name k < 256

-- each record has a name
abbrev pub AreNamed : List Record → Type 0
AreNamed records = All (λ one. IsName one.name) records

-- the records of a chapter, whose names rise
pub record AreSorted (records : List Record) : Type 0 where
  pub rising : AreRising records
  pub named : AreNamed records
