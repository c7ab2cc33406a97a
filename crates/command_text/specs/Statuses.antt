-- What `status` prints.
use Rattle.std.specs.Prelude.{ℕ, Bool, List, [], ◌∷◌, ◌++◌, codes, decimal, if◌then◌else◌}
use Rattle.std.specs.List.{concat}
use Rattle.image_status.specs.declared.forms.ImageStatus.{ImageStatus}
use Rattle.command_text.specs.declared.parts.Space.{Space}
use Rattle.command_text.specs.Parts.{space_pieces}

-- the lines of the mode and of the recovery: an image whose last session was closed has no entries to recover
abbrev pub mode_text : Bool → ℕ → List ℕ
mode_text clean entries =
    if clean then codes "mode clean\nrecovery none\n"
    else concat (codes "mode unclean\nrecovery " ∷ decimal entries ∷ codes " entries\n" ∷ [])

-- how much of the space is used
abbrev pub space_of : ImageStatus → Space
space_of image = record { used = image.used; total = image.total }

-- the lines of the index, the compression, the space and the logical size
abbrev pub sizes_text : ImageStatus → List ℕ
sizes_text image =
    concat (codes "index " ∷ decimal image.chapters ∷ codes " chapters\ncompression refused\n"
    ∷ (space_pieces (space_of image) ++ (codes "logical " ∷ decimal image.logical ∷ codes "\n" ∷ [])))

-- the six lines
abbrev pub status_text : ImageStatus → List ℕ
status_text image = mode_text image.clean image.entries ++ sizes_text image
