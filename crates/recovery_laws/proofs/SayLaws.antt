-- Images that say the same have the same numbers of mappings, and are true alike.
use Rattle.std.proofs.Common.{ℕ, zero, suc, ◌≡◌, ◌+◌, ◌<◌, refl, sym, ◌∙◌, ap, ap₂, subst, inl, inr}
use Rattle.blk_base.specs.declared.geometry.Geometry.{Geometry}
use Rattle.blk_base.specs.declared.place.Mapping.{Mapping}
use Rattle.blk_base.specs.declared.place.Pbn.{Pbn}
use Rattle.image_model.specs.Counts.{HasMappings, block_of_data, leads_to, mapped_below}
use Rattle.image_model.specs.Maps.{Image, HaveSameMap, IsTreePage, mapping_of}
use Rattle.image_model.specs.Pages.{address_count}
use Rattle.image_model.specs.Sound.{AreTrue, IsDataPlace}
use Rattle.plain_laws.specs.Sums.{bit}
use Rattle.recovery_laws.specs.Kept.{SayTheSame}

below_alike : (old new : Image) (block : Pbn) (n : ℕ) → ((address : ℕ) → mapping_of old address ≡ mapping_of new address)
    → mapped_below (mapping_of old) block n ≡ mapped_below (mapping_of new) block n
unfolding mapped_below
below_alike old new block zero same = refl
below_alike old new block (suc n) same = ap₂ (λ (m : Mapping) (k : ℕ). bit (leads_to block m) + k) (same n) (below_alike old new block n same)

page_there : (old new : Image) (at : Pbn) → new.geometry ≡ old.geometry → HaveSameMap old new → IsTreePage old at → IsTreePage new at
page_there old new at sizes map (page, below, there) =
    (page, subst (λ (g : Geometry). page.level + 1 < g.height) (sym sizes) below, sym (map.pages page) ∙ there)

pub map_back : (old new : Image) → HaveSameMap old new → HaveSameMap new old
map_back old new map = record { pages = λ page. sym (map.pages page); mappings = λ address. sym (map.mappings address) }

-- a block is mapped as often
pub mappings_alike : (old new : Image) (block : Pbn) (count : ℕ) → new.geometry ≡ old.geometry → HaveSameMap old new → HasMappings old block count → HasMappings new block count
mappings_alike old new block count sizes map has = record {
  pages = has.pages;
  one_page = elim has.one_page [
    | inl one ↦ inl (one.0, page_there old new block sizes map one.1)
    | inr none ↦ inr (none.0, λ is. none.1 (page_there new old block (sym sizes) (map_back old new map) is))
  ];
  sum = has.sum
      ∙ ap (λ (n : ℕ). n + has.pages) (below_alike old new block (address_count old.geometry) map.mappings ∙ ap (λ (g : Geometry). mapped_below (mapping_of new) block (address_count g)) (sym sizes));
}

-- each stored count is the number of mappings where it was
pub true_alike : (old new : Image) → SayTheSame old new → AreTrue old → AreTrue new
true_alike old new same are place inside =
    let was_inside : IsDataPlace old.geometry place = subst (λ (g : Geometry). IsDataPlace g place) same.geometry inside in
    let was = are place was_inside in (
      was.0,
      (same.counts place was.0 was_inside).1 was.1,
      subst (λ (g : Geometry). HasMappings new (block_of_data g place) was.0) (sym same.geometry) (mappings_alike old new (block_of_data old.geometry place) was.0 same.geometry same.map was.2),
    )
