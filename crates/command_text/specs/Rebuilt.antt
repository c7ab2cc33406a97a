-- What `force-rebuild` prints.
use Rattle.std.specs.Prelude.{ℕ, List, [], ◌∷◌, codes, decimal}
use Rattle.std.specs.List.{concat}
use Rattle.force_rebuild.specs.declared.forms.Forced.{Forced}

-- `rebuilt, used 2 of 64`
abbrev pub rebuilt_text : Forced → List ℕ
rebuilt_text forced = concat (codes "rebuilt, used " ∷ decimal forced.used ∷ codes " of " ∷ decimal forced.total ∷ codes "\n" ∷ [])
