-- How what a zone tells comes to the journal.
use Rattle.std.specs.Prelude.{ℕ, ◌≡◌, List, ◌++◌, reverse}
use Rattle.part_laws.specs.Parts.{Told}
use Rattle.part_laws.specs.Trace.{Trace, told, heard}

-- in the order in which it was told: what was told is what was heard, then what is in the journal's inbox, then what is in the lane
abbrev pub Flows : ℕ → Trace → List Told → List Told → Type 0
Flows z t inbox lane = reverse (told z t) ≡ reverse (heard z t) ++ (inbox ++ lane)
