-- The lines that several commands print.
use Rattle.std.specs.Prelude.{ℕ, List, [], ◌∷◌, codes, decimal, Option, Some, None}
use Rattle.std.specs.List.{concat}
use Rattle.blk_base.specs.declared.place.Pbn.{Pbn}
use Rattle.rebuild.specs.declared.forms.Recovered.{Recovered}
use Rattle.rebuild.specs.declared.forms.Recovered.TheVariants.{Clean, Entries}
use Rattle.command_text.specs.declared.parts.Space.{Space}
use Rattle.command_text.specs.declared.parts.DamagedPlace.{DamagedPlace}
use Rattle.command_text.specs.declared.parts.DamagedPlace.TheVariants.{Page, Count}

-- `recovered 30 entries`, where there was something to recover
abbrev pub recovered_text : Option ℕ → List ℕ
recovered_text (Some entries) = concat (codes "recovered " ∷ decimal entries ∷ codes " entries\n" ∷ [])
recovered_text None = []

-- `clean` or `recovered 30 entries`
abbrev pub recovery_text : Recovered → List ℕ
recovery_text Clean = codes "clean\n"
recovery_text (Entries entries) = recovered_text (Some entries)

-- `used 2 of 64`, piece by piece
abbrev pub space_pieces : Space → List (List ℕ)
space_pieces space = codes "used " ∷ decimal space.used ∷ codes " of " ∷ decimal space.total ∷ codes "\n" ∷ []

-- `used 2 of 64`
abbrev pub space_text : Space → List ℕ
space_text space = concat (space_pieces space)

-- the same, where it is known
abbrev pub known_text : Option Space → List ℕ
known_text (Some space) = space_text space
known_text None = []

-- `damage: `, a word, and a block
abbrev pub damaged_text : List ℕ → Pbn → List ℕ
damaged_text place at = concat (codes "damage: " ∷ place ∷ decimal at.0 ∷ codes "\n" ∷ [])

-- `damage: page 85` or `damage: count 86`, where there is damage
abbrev pub damage_text : Option DamagedPlace → List ℕ
damage_text (Some (Page at)) = damaged_text (codes "page ") at
damage_text (Some (Count at)) = damaged_text (codes "count ") at
damage_text None = []
