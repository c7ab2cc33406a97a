-- Blocks of eight sectors with records, as bytes.
use Rattle.std.specs.Prelude.{ℕ, ◌-◌, ◌*◌, List, [], ◌∷◌, ◌++◌, length, take, drop, replicate, flat_map}

-- a sector, 512 bytes: its head, of 32, its records, each in its form, and zeros
unfoldable pub sector_form : {R : Type 0} → (R → List ℕ) → List ℕ → List R → List ℕ
sector_form form head records = head ++ flat_map form records ++ replicate (480 - length (flat_map form records)) 0

-- the records of a block fill sector after sector, so many in each
abbrev pub records_in : {R : Type 0} → ℕ → ℕ → List R → List R
records_in per number records = take per (drop (per * number) records)

-- one sector of a block; a head tells the number of its sector, and that of the records there
abbrev pub sector_of : {R : Type 0} → (R → List ℕ) → (ℕ → ℕ → List ℕ) → ℕ → List R → ℕ → List ℕ
sector_of form head per records number = sector_form form (head number (length (records_in per number records))) (records_in per number records)

unfoldable pub sector_numbers : List ℕ
sector_numbers = 0 ∷ 1 ∷ 2 ∷ 3 ∷ 4 ∷ 5 ∷ 6 ∷ 7 ∷ []

-- a block, 4096 bytes: its eight sectors
unfoldable pub eight_sectors : (ℕ → List ℕ) → List ℕ
eight_sectors sectors = flat_map sectors sector_numbers
