-- For each definition of a script's addresses a case that it accepts, and for each clause one that breaks it alone.
use Rattle.std.proofs.Common.{ℕ, ◌≡◌, ◌<◌, None, Some, [], ◌∷◌, Contains, refl, ap, inl, inr, arith}
use Rattle.blk_base.specs.declared.place.Lba.{Lba}
use Rattle.blk_base.specs.declared.request.Request.TheVariants as request
use Rattle.blk_base.specs.Forms.{lba}
use Rattle.image_model.proofs.CountLaws.{is_first_or_behind, none_in_nothing}
use Rattle.vdo_model.specs.Scripts.{Script}
use Rattle.crash_images.specs.Addresses.{AreAddresses, IsNamed, address_below, where_below}
use Rattle.crash_images.proofs.AddressLaws.{address_in, named_of, number_in, of_named, rising_too}

-- where_below: below the number, not at it
below : where_below 3 (Some 2) ≡ Some 2
below = refl

below-not_at_it : where_below 2 (Some 2) ≡ None
below-not_at_it = refl

below-none : where_below 3 None ≡ None
below-none = refl

-- lba: the address with the number, and with no other
lba_of_its_number : (lba 2).0 ≡ 2
lba_of_its_number = refl

lba_not_of_another : lba 2 ≡ lba 3 → ⊥
lba_not_of_another is = let same = ap (λ (at : Lba). at.0) is in omega (arith, same)

-- address_below: of a discard, and none of a flush
below_of_a_discard : address_below 3 (request.Discard (lba 2)) ≡ Some 2
below_of_a_discard = refl

below_of_a_flush : address_below 3 request.Flush ≡ None
below_of_a_flush = refl

-- One stream reads address 1 and flushes, the other one discards address 2.
abbrev script : Script
script = (request.Read (lba 1) ∷ request.Flush ∷ []) ∷ (request.Discard (lba 2) ∷ []) ∷ []

-- IsNamed
named : IsNamed script 3 2
named = (request.Discard (lba 2) ∷ [], request.Discard (lba 2), (1, omega arith, refl), (0, omega arith, refl), refl, omega arith)

named-not_at_the_size : IsNamed script 2 2 → ⊥
named-not_at_the_size is = let below = is.5 in omega (arith, below)

one_or_two : (address : ℕ) → Contains (1 ∷ 2 ∷ []) address → 0 < address
one_or_two address has = elim (is_first_or_behind 1 (2 ∷ []) address has) [
  | inl first ↦ omega (arith, first)
  | inr behind ↦ elim (is_first_or_behind 2 [] address behind) [ inl second ↦ omega (arith, second) | inr none ↦ absurd (none_in_nothing address none) ]
]

named-not_another_address : IsNamed script 3 0 → ⊥
named-not_another_address is = let more = one_or_two 0 (of_named script 3 0 is) in omega (arith, more)

-- AreAddresses: addresses 1 and 2
they_are : AreAddresses script 3 (lba 1 ∷ lba 2 ∷ [])
they_are = record {
  rising = rising_too (1 ∷ 2 ∷ []) (λ i j d less inside.
      let first : i ≡ 0 = omega (arith, less, inside) in
      let second : j ≡ 1 = omega (arith, less, inside) in
      rw (first, second) (omega arith));
  each = λ at. (λ has. named_of script 3 at.0 (number_in (1 ∷ 2 ∷ []) at has), λ is. address_in (1 ∷ 2 ∷ []) at (of_named script 3 at.0 is));
}

they_are-not_falling : AreAddresses script 3 (lba 2 ∷ lba 1 ∷ []) → ⊥
they_are-not_falling are = let rises = are.rising 0 1 (lba 0) (omega arith) (omega arith) in omega (arith, rises)

they_are-not_twice : AreAddresses script 3 (lba 1 ∷ lba 1 ∷ lba 2 ∷ []) → ⊥
they_are-not_twice are = let rises = are.rising 0 1 (lba 0) (omega arith) (omega arith) in omega (arith, rises)

they_are-not_without_one : AreAddresses script 3 (lba 1 ∷ []) → ⊥
they_are-not_without_one are = elim (is_first_or_behind (lba 1) [] (lba 2) ((are.each (lba 2)).1 named)) [
  | inl first ↦ let same = ap (λ (at : Lba). at.0) first in omega (arith, same)
  | inr none ↦ none_in_nothing (lba 2) none
]

they_are-not_with_one_more : AreAddresses script 2 (lba 1 ∷ lba 2 ∷ []) → ⊥
they_are-not_with_one_more are = named-not_at_the_size ((are.each (lba 2)).0 (1, omega arith, refl))
