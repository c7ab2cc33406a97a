-- Options.
use Rattle.std.proofs.Common.{◌≡◌, ◌⊎◌, Option, Some, None, IsSome, IsNone, refl, inl, inr}

-- an option with a thing is Some
pub some_is : {X : Type 0} (o : Option X) (x : X) → o ≡ Some x → IsSome o
some_is o x is = rw is refl

-- an option without is None
pub none_is : {X : Type 0} (o : Option X) → o ≡ None → IsNone o
none_is o is = rw is refl

-- the thing of an option that is Some
pub some_of : {X : Type 0} (o : Option X) → IsSome o → (x : X) × (o ≡ Some x)
some_of (Some x) is = (x, refl)
some_of None is = absurd cc

-- an option that is None has none
pub none_of : {X : Type 0} (o : Option X) → IsNone o → o ≡ None
none_of (Some x) is = absurd cc
none_of None is = refl

-- an option is None or has something
pub option_cases : {X : Type 0} (o : Option X) → (o ≡ None) ⊎ ((x : X) × (o ≡ Some x))
option_cases None = inl refl
option_cases (Some x) = inr (x, refl)

-- it is not both
pub not_both : {X : Type 0} (o : Option X) (x : X) → IsNone o → o ≡ Some x → ⊥
not_both o x none some = let none_too = none_of o none in cc
