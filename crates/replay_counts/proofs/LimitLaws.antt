-- No count is above the limit.
use Rattle.std.proofs.Common.{ℕ, ◌≡◌, ◌+◌, ◌-◌, ◌*◌, ◌/◌, ◌%◌, ◌<◌, ◌≤◌, ◌==◌, nat_lt, nat_le, if◌then◌else◌, Bool, true, false, List, [], ◌∷◌, All, slice_index, Result, Ok, Err, refl, sym, subst, arith}
use Rattle.std.proofs.lemmas.Bool.{leb-true, ltb-true}
use Rattle.std.proofs.lemmas.Grind.{get_or_default_zero}
use Rattle.std.proofs.lemmas.Nat.{div-add-mod', div_below, mod_below}
use Rattle.blk_base.specs.Counters.{limit_of}
use Rattle.blk_base.specs.Limits.{IsGeometry}
use Rattle.blk_base.specs.declared.geometry.Geometry.{Geometry}
use Rattle.blk_base.specs.declared.layout.DataPlace.{DataPlace}
use Rattle.blk_base.specs.Regions.{data_blocks}
use Rattle.count_updates.specs.Counted.{AreCounted}
use Rattle.count_updates.specs.FoundLists.{FoundLists}
use Rattle.image_model.specs.Counts.{count_after, count_from}

-- one update more
turn : (adds below none : Bool) (added taken : Result ℕ ℕ) (point last : ℕ) (limit : ℕ)
    → (if adds then (if below then added else Err point) else (if none then Err point else taken)) ≡ Ok last
    → (below ≡ true → added ≡ Ok last → last ≤ limit) → (taken ≡ Ok last → last ≤ limit) → last ≤ limit
turn true true none added taken point last limit is more less = more refl is
turn true false none added taken point last limit is more less = absurd (cc is)
turn false below true added taken point last limit is more less = absurd (cc is)
turn false below false added taken point last limit is more less = less is

-- whatever the updates are
after_within : (limit count : ℕ) (points : List ℕ) (last : ℕ) → count ≤ limit → count_after limit count points ≡ Ok last → last ≤ limit
after_within limit count [] last within is = let same : count ≡ last = cc is in omega (arith, within, same)
after_within limit count (point ∷ later) last within is =
    turn (point % 2 == 0) (nat_lt count limit) (count == 0) (count_after limit (count + 1) later) (count_after limit (count - 1) later) point last limit is
    (λ below more. let fewer = ltb-true count limit below in after_within limit (count + 1) later last (omega (arith, fewer)) more)
    (λ less. after_within limit (count - 1) later last (omega (arith, within)) less)

from_within : (limit commit counter : ℕ) (points : List ℕ) (last : ℕ) → count_from limit commit counter points ≡ Ok last → last ≤ limit
from_within limit commit counter points last is = first (nat_le counter limit) is (λ below. leb-true counter limit below)
  where
    first : (within : Bool) → (if within then count_after limit counter points else Err commit) ≡ Ok last → (within ≡ true → counter ≤ limit) → last ≤ limit
    first true is less = after_within limit counter points last (less refl) is
    first false is less = absurd (cc is)

pub counted_within : (g : Geometry) (found : FoundLists) (counts : List ℕ) → IsGeometry g
    → AreCounted g found counts → All (λ count. count ≤ limit_of g) counts
counted_within g found counts sizes are i d inside =
    let some = sizes.slab_blocks.0 in
    let size = are.size in
    let n = i / g.slab_blocks in
    let place : DataPlace = record { slab = n; offset = i % g.slab_blocks } in
    let below : i < data_blocks g = omega (arith, size, inside) in
    let is = are.each place (div_below i g.slab_blocks g.slabs (omega (arith, some)) below, mod_below i g.slab_blocks (omega (arith, some))) in
    let number = div-add-mod' i g.slab_blocks in
    let within = from_within (limit_of g) _ _ is.points (slice_index counts (n * g.slab_blocks + i % g.slab_blocks)) is.counted in
    let here : slice_index counts (n * g.slab_blocks + i % g.slab_blocks) ≤ limit_of g = within in
    let there : slice_index counts i ≤ limit_of g = subst (λ (k : ℕ). slice_index counts k ≤ limit_of g) number here in
    subst (λ (k : ℕ). k ≤ limit_of g) (sym (get_or_default_zero counts i d inside)) there
