-- For each definition a small case that it accepts, and one that it refuses.
use Rattle.std.proofs.Common.{ℕ, ◌≡◌, ◌<◌, List, [], ◌∷◌, length, refl, ap, inl, arith}
use Rattle.blk_base.specs.Sectors.{zero_block}
use Rattle.blk_base.specs.Forms.{point}
use Rattle.image_model.proofs.CountExample.{kept_is, updated}
use Rattle.image_model.proofs.Example.{small}
use Rattle.image_model.specs.Maps.{image_with}
use Rattle.replay_counts.specs.Recovered.{ArePaired, ArePointsOf, HasCounts, Holds, IsInSector}
use Rattle.replay_counts.specs.declared.forms.SectorPoints.{SectorPoints}
use Rattle.replay_counts.proofs.ReadRows.{no_commit_there}

abbrev pair : ℕ → ℕ → SectorPoints
pair commit applied = record { commit = point commit; applied = point applied }

-- Pairs: each commit point with the point at its number.
only_first : (n : ℕ) → n < 1 → n ≡ 0
only_first n below = omega (arith, below)

are_paired : ArePaired (point 512 ∷ []) (point 600 ∷ []) (pair 512 600 ∷ [])
are_paired = record { size = refl; each = λ n below. rw (only_first n below) (refl, refl) }

paired_too_few : ArePaired (point 512 ∷ []) (point 600 ∷ []) [] → ⊥
paired_too_few are = let size = are.size in omega (arith, size)

paired_otherwise : ArePaired (point 512 ∷ []) (point 600 ∷ []) (pair 512 512 ∷ []) → ⊥
paired_otherwise are = let same = (are.each 0 (omega arith)).1 in omega (arith, same)

paired_with_another : ArePaired (point 512 ∷ []) (point 600 ∷ []) (pair 600 600 ∷ []) → ⊥
paired_with_another are = let same = (are.each 0 (omega arith)).0 in omega (arith, same)

-- An image holds what was read: here zeros, of one slab, and not where a block of it has another byte.
zeros_hold : Holds small [] ([] ∷ [])
zeros_hold slab i below inside = let first : slab ≡ 0 = omega (arith, below) in rw first refl

another_block : Holds small [] (((1 ∷ []) ∷ []) ∷ []) → ⊥
unfolding zero_block
another_block holds = let same = ap length (holds 0 0 (omega arith) (omega arith)) in omega (arith, same)

-- The window is the image's, the newest entry first.
image_is : image_with small updated.blocks updated.window ≡ updated
image_is = refl

-- A block of sector 0 has an update at 1536, and none of sector 1.
in_sector : IsInSector updated 0 0 1536
in_sector = (1, omega arith, refl, inl kept_is)

in_another : IsInSector updated 0 1 1536 → ⊥
in_another is = let below = is.1 in let number = is.2 in omega (arith, below, number)

-- Not the points of a sector: another commit point, or an update that was applied and isn't counted among them.
another_commit : ArePointsOf updated 0 0 (pair 512 1536) → ⊥
another_commit are = let same = are.commit in let none = no_commit_there in omega (arith, same, none)

none_applied : ArePointsOf updated 0 0 (pair 0 0) → ⊥
none_applied are =
    let none = no_commit_there in
    let most = are.applied.most 1536 (omega (arith, none)) in_sector in omega (arith, most)

-- As many counts as data blocks, and as many points as sectors.
too_few_counts : HasCounts updated [] (pair 0 2049 ∷ []) → ⊥
too_few_counts has = let size = has.blocks in omega (arith, size)

too_few_points : (counts : List ℕ) → HasCounts updated counts [] → ⊥
too_few_points counts has = let size = has.sizes in omega (arith, size)
