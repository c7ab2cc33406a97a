-- What the counts that are made from the lists of a map say of an image with that map.
use Rattle.std.proofs.Common.{ℕ, ◌≡◌, ◌+◌, ◌/◌, ◌%◌, ◌<◌, ◌≤◌, List, All, Some, slice_index, refl, sym, ◌∙◌, ap, subst, inl, inr, arith}
use Rattle.std.proofs.lemmas.Nat.{div-add-mod', div_below, mod_below}
use Rattle.audit.specs.Tallies.{AreTallied, place_of_number, used_in}
use Rattle.blk_base.specs.Counters.{limit_of}
use Rattle.blk_base.specs.Limits.{IsGeometry}
use Rattle.blk_base.specs.declared.geometry.Geometry.{Geometry}
use Rattle.blk_base.specs.declared.layout.DataPlace.{DataPlace}
use Rattle.blk_base.specs.declared.place.Pbn.{Pbn}
use Rattle.blk_base.specs.Regions.{data_blocks}
use Rattle.count_updates.proofs.NumberLaws.{before_is_earlier, earlier_below}
use Rattle.count_updates.specs.Numbers.{block_number}
use Rattle.image_model.specs.Counts.{HasMappings, block_of_data}
use Rattle.image_model.specs.Maps.{Image}
use Rattle.image_model.specs.Sound.{IsDataPlace}
use Rattle.replay_map.specs.Replayed.{HasMap}
use Rattle.replay_map.specs.declared.recovered.RecoveredMap.{RecoveredMap}
use Rattle.force_rebuild.specs.Counted.{IsAbove, IsCountedTo, IsUncountable}
use Rattle.force_rebuild.specs.Written.{AreMappings}
use Rattle.force_rebuild.specs.declared.forms.Forced.{Forced}

module _ (image : Image) (map : RecoveredMap) (has : HasMap image map) (counts : List ℕ) (tallied : AreTallied image.geometry map.links.items map.mapped.items counts) where
  abbrev g : Geometry
  g = image.geometry

  mappings_of : (place : DataPlace) → IsDataPlace g place → HasMappings image (block_of_data g place) (slice_index counts (block_number g place))
  mappings_of place inside =
      let is = tallied.each place inside in
      record {
        pages = is.pages;
        one_page = elim is.one_page [
          | inl (one, (link, listed, at)) ↦ let there = (has.links link).0 listed in inl (one, (link.page, there.0, there.1 ∙ ap Some at))
          | inr (none, never) ↦
              inr (none, λ (page, level, there). never (record { page = page; at = block_of_data g place }, (has.links (record { page = page; at = block_of_data g place })).1 (level, there), refl))
        ];
        sum = is.sum ∙ ap (λ (n : ℕ). n + is.pages) (has.mapped (block_of_data g place));
      }

  pub are_mappings : All (λ count. count ≤ limit_of g) counts → AreMappings image counts
  are_mappings limit = record { size = tallied.size; each = mappings_of; limit = limit }

  pub counted_to : (forced : Forced) → All (λ count. count ≤ limit_of g) counts → forced.used ≡ used_in counts → forced.total ≡ data_blocks g → IsCountedTo image forced
  counted_to forced limit used all = record { pages = has.pages; unshared = has.unshared; counters = counts; mappings = are_mappings limit; used = used; all = all }

  -- Behind the first number above the limit.

  pub uncountable : (at : Pbn) (stored mapped : ℕ) → IsGeometry g → IsAbove g counts at stored mapped → IsUncountable image at stored mapped
  uncountable at stored mapped sizes is =
      let some = sizes.slab_blocks.0 in
      let n = is.number in
      let place = place_of_number g n in
      let size = tallied.size in
      let within = is.first.inside in
      let below : n < data_blocks g = omega (arith, size, within) in
      let inside : IsDataPlace g place = (div_below n g.slab_blocks g.slabs (omega (arith, some)) below, mod_below n g.slab_blocks (omega (arith, some))) in
      let number : block_number g place ≡ n = div-add-mod' n g.slab_blocks in
      let maps : HasMappings image (block_of_data g place) (slice_index counts n) =
      subst (λ (k : ℕ). HasMappings image (block_of_data g place) (slice_index counts k)) number (mappings_of place inside) in
      record {
        pages = has.pages;
        unshared = has.unshared;
        place = place;
        inside = inside;
        stands = sym is.at_is;
        limit = is.stored_is;
        maps = subst (λ (b : Pbn). HasMappings image b mapped) (sym is.at_is) (subst (HasMappings image (block_of_data g place)) (sym is.mapped_is) maps);
        above = let over = is.first.above in let stored_is = is.stored_is in let mapped_is = is.mapped_is in omega (arith, over, stored_is, mapped_is);
        first = λ other there earlier.
            let k = block_number g other in
            let less : (block_of_data g other).0 < (block_of_data g place).0 = subst (λ (b : Pbn). (block_of_data g other).0 < b.0) is.at_is earlier in
            let before = earlier_below g other (n / g.slab_blocks) (n % g.slab_blocks) there.1
            (before_is_earlier g other (n / g.slab_blocks) (n % g.slab_blocks) there.1 inside.1 less) in
            (slice_index counts k, mappings_of other there, is.first.before k (omega (arith, before, number)));
      }
