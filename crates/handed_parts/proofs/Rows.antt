-- For each definition a small case that it accepts, and one that it refuses.
use Rattle.std.proofs.Common.{ℕ, ◌≡◌, inl, inr, true, false, None, Some, [], ◌∷◌, refl, arith}
use Rattle.blk_base.specs.Forms.{point as p}
use Rattle.handed_parts.specs.declared.part.Part.{Part}
use Rattle.handed_parts.specs.Parts.{Handed, Has, points_for, is_part, without_part, rounded, least_of, lesser, low_of, opening, handed_out, reported, watermark_of}

abbrev part : ℕ → ℕ → Part
part zone n = record { zone = zone; point = p n }

-- Has

is_one_of : Has 7 (5 ∷ 7 ∷ [])
is_one_of = inr (inl refl)

is_none_of : Has 6 (5 ∷ 7 ∷ []) → ⊥
is_none_of (inl first) = omega (arith, first)
is_none_of (inr (inl second)) = omega (arith, second)
is_none_of (inr (inr rest)) = rest

-- points_for: those of the zone, in their order

points_of_the_zone : points_for 1 (part 1 512 ∷ part 0 512 ∷ part 1 517 ∷ []) ≡ 512 ∷ 517 ∷ []
points_of_the_zone = refl

points_of_no_zone : points_for 2 (part 1 512 ∷ part 0 512 ∷ []) ≡ []
points_of_no_zone = refl

-- is_part: both the zone and the point

its_part : is_part 1 512 (part 1 512) ≡ true
its_part = refl

part_of_another_zone : is_part 1 512 (part 0 512) ≡ false
part_of_another_zone = refl

part_at_another_point : is_part 1 512 (part 1 513) ≡ false
part_at_another_point = refl

-- without_part: one part goes, and no other

one_goes : without_part 1 (Some (p 512)) (part 0 512 ∷ part 1 512 ∷ part 1 513 ∷ []) ≡ part 0 512 ∷ part 1 513 ∷ []
one_goes = refl

none_goes : without_part 1 None (part 0 512 ∷ part 1 512 ∷ []) ≡ part 0 512 ∷ part 1 512 ∷ []
none_goes = refl

-- rounded: to the half that adds, and never up

half_that_adds_stays : rounded 512 ≡ 512
half_that_adds_stays = refl

other_half_goes_down : rounded 513 ≡ 512
other_half_goes_down = refl

-- least_of, lesser

least_part : least_of (517 ∷ 514 ∷ []) 600 ≡ 514
least_part = refl

least_bound : least_of (517 ∷ 514 ∷ []) 512 ≡ 512
least_bound = refl

low_is_lesser : lesser (Some 514) 600 ≡ 514
low_is_lesser = refl

bound_is_lesser : lesser (Some 700) 600 ≡ 600
bound_is_lesser = refl

none_is_above_all : lesser None 600 ≡ 600
none_is_above_all = refl

-- opening, handed_out, reported: two zones; an entry whose slot is of zone 0 and which counts a block down in zone 1

abbrev first : Handed
first = opening 2 4

opened : first ≡ record { room = 4; waiting = []; lows = None ∷ None ∷ [] }
opened = refl

abbrev handed : Handed
handed = handed_out 1 (p 513) (handed_out 0 (p 512) first)

both_wait : handed ≡ record first { waiting = part 0 512 ∷ part 1 513 ∷ [] }
both_wait = refl

abbrev told : Handed
told = reported 1 (Some (p 513)) (Some (p 513)) handed

one_waits : told ≡ record { room = 4; waiting = part 0 512 ∷ []; lows = None ∷ Some (p 513) ∷ [] }
one_waits = refl

-- only the low point was told
low_was_told : reported 1 None None told ≡ record told { lows = None ∷ None ∷ [] }
low_was_told = refl

last_low : low_of told 1 ≡ Some 513
last_low = refl

no_low : low_of told 0 ≡ None
no_low = refl

-- watermark_of: a part that waits, the low point told last, and the first entry that wasn't handed out each hold the
-- watermark

mark_of_front : watermark_of first 1 514 ≡ 514
mark_of_front = refl

mark_of_part : watermark_of handed 1 514 ≡ 512
mark_of_part = refl

-- The decrement was counted, and isn't durable: a watermark that was not rounded down would let go of its entry.
mark_of_low : watermark_of told 1 514 ≡ 512
mark_of_low = refl

mark_of_all : watermark_of (reported 1 None None told) 1 514 ≡ 514
mark_of_all = refl

-- a part of another zone doesn't hold it
mark_beside : watermark_of (handed_out 0 (p 512) first) 1 514 ≡ 514
mark_beside = refl
