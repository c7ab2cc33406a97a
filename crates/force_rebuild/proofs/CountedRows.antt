-- Counts that are made of lists: for each clause a case that it accepts, and one that it refuses.
use Rattle.std.proofs.Common.{ℕ, zero, suc, ◌≡◌, ◌*◌, ◌<◌, ◌≤◌, List, [], ◌∷◌, slice_index, refl, ◌∙◌, ap, arith}
use Rattle.audit.specs.Tallies.{AreTallied, place_of_number, used_in}
use Rattle.blk_base.specs.declared.geometry.Geometry.{Geometry}
use Rattle.blk_base.specs.declared.place.Pbn.{Pbn}
use Rattle.blk_base.specs.Forms.{pbn}
use Rattle.image_model.proofs.Example.{small}
use Rattle.image_model.specs.Counts.{block_of_data}
use Rattle.image_model.specs.Maps.{Image}
use Rattle.image_model.specs.declared.fault.ImageFault.TheVariants.{Counter, Counts, Memory, Unclean}
use Rattle.replay_map.specs.declared.recovered.RecoveredMap.{RecoveredMap}
use Rattle.disk_model.specs.Log.{Blocks}
use Rattle.disk_model.specs.Seen.{Seen}
use Rattle.force_rebuild.specs.Counted.{AreCounters, CountersFail, IsAbove, IsCountedTo, IsFaultOf, IsFirstAbove, IsLimitFault, IsUncountable}
use Rattle.force_rebuild.specs.ForcedRebuild.{IsRefusal}
use Rattle.force_rebuild.specs.declared.forms.Forced.{Forced}

-- The first number above the limit: the second of these.
abbrev three : List ℕ
three = 3 ∷ 255 ∷ 300 ∷ []

first_above : IsFirstAbove 254 three 1
first_above = record { inside = omega arith; above = omega arith; before = λ k below. low k below }
  where
    low : (k : ℕ) → k < 1 → slice_index three k ≤ 254
    low zero below = omega arith
    low (suc k) below = absurd (omega (arith, below))

-- inside: there is no fourth; above: 3 isn't; before: 300 has one before it
not_inside : IsFirstAbove 254 three 3 → ⊥
not_inside is = let inside = is.inside in omega (arith, inside)

not_above : IsFirstAbove 254 three 0 → ⊥
not_above is = let above = is.above in omega (arith, above)

not_first : IsFirstAbove 254 three 2 → ⊥
not_first is = let most = is.before 1 (omega arith) in omega (arith, most)

-- it is that of block 86, mapped 255 times
above_there : IsAbove small three (pbn 86) 254 255
above_there = record { number = 1; first = first_above; at_is = refl; stored_is = refl; mapped_is = refl }

-- at_is: another block; stored_is: another limit; mapped_is: another number
above_elsewhere : (is : IsAbove small three (pbn 90) 254 255) → is.number ≡ 1 → ⊥
above_elsewhere is number =
    let at = ap (λ (b : Pbn). b.0) (is.at_is ∙ ap (λ (n : ℕ). block_of_data small (place_of_number small n)) number) in omega (arith, at)

above_limit : IsAbove small three (pbn 86) 200 255 → ⊥
above_limit is = let limit = is.stored_is in omega (arith, limit)

above_number : (is : IsAbove small three (pbn 86) 254 7) → is.number ≡ 1 → ⊥
above_number is number =
    let mapped = is.mapped_is ∙ ap (slice_index three) number in omega (arith, mapped)

-- what is answered of it, and what isn't
limit_fault : IsLimitFault small three (Counts (pbn 86) 254 255)
unfolding above_there
limit_fault = above_there

no_other_fault : IsLimitFault small three Memory → ⊥
no_other_fault is = is

fault_is : IsFaultOf small 1 255 (Counts (pbn 86) 254 255)
fault_is = refl

fault_of_another : IsFaultOf small 2 255 (Counts (pbn 86) 254 255) → ⊥
fault_of_another is = let two : pbn 86 ≡ pbn 87 = cc is in let at = ap (λ (b : Pbn). b.0) two in omega (arith, at)

memory_too : (map : RecoveredMap) → CountersFail small map Memory
memory_too map = tt

never_unclean : (map : RecoveredMap) → CountersFail small map Unclean → ⊥
never_unclean map is = is

-- The counters of a map: tallied, and within the limit.
counters_are : (map : RecoveredMap) → AreTallied small map.links.items map.mapped.items [] → AreCounters small map []
counters_are map tallied = record { tallied = tallied; limit = λ k d below. absurd (omega (arith, below)) }

counters_above : (map : RecoveredMap) (others : List ℕ) → AreCounters small map (255 ∷ others) → ⊥
counters_above map others are = let most = are.limit 0 0 (omega arith) in omega (arith, most)

counters_short : (map : RecoveredMap) → AreCounters small map [] → ⊥
counters_short map are = let size = are.tallied.size in omega (arith, size)

-- An image is counted to one answer: all: it has 64 data blocks. used: how many of its counters are above 0
counted_all : (image : Image) (forced : Forced) → image.geometry ≡ small → forced.total ≡ 65 → IsCountedTo image forced → ⊥
counted_all image forced same total is =
    let all = is.all ∙ ap (λ (g : Geometry). g.slabs * g.slab_blocks) same in omega (arith, all, total)

counted_used : (image : Image) (forced : Forced) (is : IsCountedTo image forced) → used_in is.counters ≡ 2 → forced.used ≡ 3 → ⊥
counted_used image forced is two used = let same = is.used in omega (arith, same, two, used)

-- A block that can't be counted is above the limit, which is 254.
uncountable_limit : (image : Image) (at : Pbn) → IsUncountable image at 253 255 → ⊥
uncountable_limit image at is = let limit = is.limit in omega (arith, limit)

uncountable_above : (image : Image) (at : Pbn) → IsUncountable image at 254 254 → ⊥
uncountable_above image at is = let above = is.above in omega (arith, above)

-- Of refusals by the image: these never come.
never_refused : (blocks : Blocks) (before now : Seen) → IsRefusal blocks before now Unclean → ⊥
never_refused blocks before now is = is

never_a_counter : (blocks : Blocks) (before now : Seen) → IsRefusal blocks before now (Counter (pbn 86) (record { 0 = 7 })) → ⊥
never_a_counter blocks before now is = is
