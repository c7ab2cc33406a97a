-- Requests that are served, one after another.
use Rattle.std.proofs.Common.{◌≡◌, List, [], ◌∷◌, ◌++◌}
use Rattle.std.specs.Prelude.{map}
use Rattle.std.specs.List.{AllByRecursion}
use Rattle.plain_laws.proofs.ListLaws.{every-append}

-- one more
pub one_more : {X : Type 0} (P : X → Type 0) (old new : List X) (x : X) → new ≡ old ++ x ∷ [] → AllByRecursion P old → P x → AllByRecursion P new
one_more P old new x is all one = rw is (every-append P old (x ∷ []) all (one, tt))

-- what each has by a name of it
pub each_named : {X Y : Type 0} (f : X → Y) (P : Y → Type 0) (xs : List X) → AllByRecursion (λ x. P (f x)) xs → AllByRecursion P (map f xs)
each_named f P [] all = tt
each_named f P (x ∷ xs) all = (all.0, each_named f P xs all.1)
