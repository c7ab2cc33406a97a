-- For each definition of the values of an image a case that it accepts, and for each clause one that breaks it alone.
use Rattle.std.proofs.Common.{◌≡◌, None, Some, [], ◌∷◌, Contains, refl, ap, inl, inr, arith}
use Rattle.blk_base.specs.declared.place.Lba.{Lba}
use Rattle.blk_base.specs.declared.place.PageId.{PageId}
use Rattle.blk_base.specs.Forms.{pbn, lba}
use Rattle.blk_base.proofs.Example.{leaf}
use Rattle.image_model.proofs.CountLaws.{is_first, is_first_or_behind, none_in_nothing}
use Rattle.image_model.proofs.ReadExample.{failed, seen}
use Rattle.image_model.specs.Maps.{Image, value_of}
use Rattle.page_codec.specs.declared.fault.PageFault.TheVariants.{Header}
use Rattle.replay_map.specs.declared.links.Link.{Link}
use Rattle.crash_images.specs.declared.fault.ValueFault.TheVariants.{Device, Page, Memory}
use Rattle.crash_images.specs.declared.maps.ImageMap.{ImageMap}
use Rattle.crash_images.specs.Values.{AreRefused, IsNoDamage, IsRefused, LinkTo, address_of, value_in}

-- value_in, address_of
value_with_its_address : (image : Image) → ((value_in image (lba 3)).at ≡ lba 3) × ((value_in image (lba 3)).block ≡ value_of image 3)
value_with_its_address image = (refl, refl)

address_of_its_value : (image : Image) → address_of (value_in image (lba 3)) ≡ lba 4 → ⊥
address_of_its_value image is = let same = ap (λ (at : Lba). at.0) is in omega (arith, same)

-- LinkTo: the first leaf of tree 0 stands at block 90, and no other page is linked
abbrev link : Link
link = record { page = leaf; at = pbn 90 }

links : LinkTo (link ∷ []) leaf (Some (pbn 90))
links = is_first link []

link_alone : (other : Link) → Contains (link ∷ []) other → link ≡ other
link_alone other has = elim (is_first_or_behind link [] other has) [ inl same ↦ same | inr none ↦ absurd (none_in_nothing other none) ]

links_to_none : LinkTo (link ∷ []) (record leaf { index = 1 }) None
links_to_none other has named = let same = ap (λ (l : Link). l.page.index) (link_alone other has) in let index = ap (λ (p : PageId). p.index) named in omega (arith, same, index)

links-not_to_another_block : LinkTo (link ∷ []) leaf (Some (pbn 91)) → ⊥
links-not_to_another_block has = let same = ap (λ (l : Link). l.at.0) (link_alone (record { page = leaf; at = pbn 91 }) has) in omega (arith, same)

links-not_of_another_page : LinkTo (link ∷ []) (record leaf { index = 1 }) (Some (pbn 90)) → ⊥
links-not_of_another_page has = let same = ap (λ (l : Link). l.page.index) (link_alone (record { page = record leaf { index = 1 }; at = pbn 90 }) has) in omega (arith, same)

links-not_to_none : LinkTo (link ∷ []) leaf None → ⊥
links-not_to_none none = none link (is_first link []) refl

-- IsNoDamage
no_damage : IsNoDamage Device × IsNoDamage Memory
no_damage = (tt, tt)

no_damage-not_a_page : IsNoDamage (Page (pbn 90) Header) → ⊥
no_damage-not_a_page none = none

module _ (found : ImageMap) (one : found.pages.links.items ≡ link ∷ []) where
  -- IsRefused: the count of faults rose, or the leaf of the address is at the block
  refused_by_the_device : IsRefused found 5 seen failed Device
  refused_by_the_device = omega arith

  refused-not_without_a_fault : IsRefused found 5 seen seen Device → ⊥
  refused-not_without_a_fault rose = omega (arith, rose)

  refused_for_its_leaf : IsRefused found 5 seen seen (Page (pbn 90) Header)
  refused_for_its_leaf = rw one links

  refused-not_for_another_block : IsRefused found 5 seen seen (Page (pbn 91) Header) → ⊥
  refused-not_for_another_block to = links-not_to_another_block (rw one at to)

  refused-not_for_memory : IsRefused found 5 seen seen Memory → ⊥
  refused-not_for_memory none = none

  -- AreRefused: the same of one of the addresses, or want of memory
  one_is_refused : AreRefused found (lba 700 ∷ []) seen seen (Page (pbn 90) Header)
  one_is_refused = (lba 700, is_first (lba 700) [], rw one links)

  all_refused_by_the_device : AreRefused found [] seen failed Device
  all_refused_by_the_device = omega arith

  refused_for_memory : AreRefused found [] seen seen Memory
  refused_for_memory = tt

  are_refused-not_without_a_fault : AreRefused found (lba 5 ∷ []) seen seen Device → ⊥
  are_refused-not_without_a_fault rose = omega (arith, rose)

  are_refused-not_of_no_address : AreRefused found [] seen seen (Page (pbn 90) Header) → ⊥
  are_refused-not_of_no_address (at, has, to) = none_in_nothing at has
