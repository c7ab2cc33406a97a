-- Small command lines, and the word of each that is refused.
use Rattle.std.proofs.Common.{◌≡◌, List, [], ◌∷◌, codes, Some, None, refl}
use Rattle.vdo_words.specs.Refused.{first_refused}

-- no command
no_command : first_refused (codes "erase" ∷ codes "--depth" ∷ []) ≡ Some (codes "erase")
no_command = refl

-- an option of another command, one whose value is too large, one without a value, and one that stands again
another_option : first_refused (codes "audit" ∷ codes "--depth" ∷ codes "1" ∷ []) ≡ Some (codes "--depth")
another_option = refl

too_large : first_refused (codes "run" ∷ codes "--depth=16" ∷ codes "--cache=3" ∷ []) ≡ Some (codes "--cache")
too_large = refl

no_value : first_refused (codes "run" ∷ codes "--depth" ∷ []) ≡ Some (codes "--depth")
no_value = refl

twice : first_refused (codes "grow" ∷ codes "--slabs=1" ∷ codes "--slabs=1" ∷ []) ≡ Some (codes "--slabs")
twice = refl

-- nothing where every word may stand where it does
right : first_refused (codes "crash" ∷ codes "--after=1" ∷ []) ≡ None
right = refl

nothing : first_refused [] ≡ None
nothing = refl
