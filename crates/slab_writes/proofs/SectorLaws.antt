-- Which sectors a reference block that was handed out has.
use Rattle.std.specs.Prelude.{ℕ, ◌≡◌, ◌+◌, ◌-◌, ◌*◌, ◌<◌, ◌≤◌, ◌⊎◌, List, ◌++◌, length, take, drop}
use Rattle.std.proofs.Common.{sym, ◌∙◌, ap, arith, inl, inr}
use Rattle.std.proofs.lemmas.Bool.{cases_lt}
use Rattle.std.proofs.lemmas.List.{get_or-take, get_or-drop, get_or_append_left, get_or-append_right, get_or_past, length-append, length-take, length-drop}
use Rattle.std.proofs.lemmas.Option.{none-some}
use Rattle.blk_base.specs.declared.point.Point.{Point}
use Rattle.dirty_pages.specs.declared.dirty_points.DirtyPoints.{DirtyPoints}
use Rattle.dirty_pages.specs.DirtyPoints.{IsDue, clean, dirty_points_at}
use Rattle.reference_blocks.specs.References.{point_at, with_sectors, end_of}

-- only a page that is there is due
pub due_inside : (pages : List DirtyPoints) (n : ℕ) (first : Point) → IsDue (dirty_points_at pages n) first → n < length pages
due_inside pages n first due = elim (cases_lt n (length pages)) [
  | inl below ↦ below
  | inr past ↦ absurd (none-some first (ap (λ (m : DirtyPoints). m.dirty) (sym (get_or_past pages n clean past)) ∙ due.dirty))
]

module _ (points others : List Point) (block n : ℕ) (same : length points ≡ length others) (inside : 8 * block ≤ length points) where
  abbrev zero_point : Point
  zero_point = record { 0 = 0 }

  abbrev front : List Point
  front = take (8 * block) others

  abbrev middle : List Point
  middle = take (end_of points block - 8 * block) (drop (8 * block) points)

  abbrev back : List Point
  back = drop (end_of points block) others

  front_length : length front ≡ 8 * block
  front_length = omega (arith, length-take (8 * block) others, same, inside)

  middle_length : length middle ≡ end_of points block - 8 * block
  middle_length = omega (arith, length-take (end_of points block - 8 * block) (drop (8 * block) points), length-drop (8 * block) points, inside)

  -- a sector of the block is as it was applied
  pub own_sector : 8 * block ≤ n → n < end_of points block → point_at (with_sectors points block others) n ≡ point_at points n
  own_sector low high =
      let place : n - 8 * block < end_of points block - 8 * block = omega (arith, low, high) in
      get_or-append_right front (middle ++ back) (8 * block) n zero_point front_length low
      ∙ get_or_append_left middle back zero_point (n - 8 * block) (omega (arith, place, middle_length))
      ∙ get_or-take (end_of points block - 8 * block) (drop (8 * block) points) (n - 8 * block) zero_point place
      ∙ get_or-drop (8 * block) points (n - 8 * block) zero_point
      ∙ ap (λ (k : ℕ). point_at points k) (let whole : 8 * block + (n - 8 * block) ≡ n = omega (arith, low) in whole)

  -- and each other as it was handed out before
  pub other_sector : (n < 8 * block) ⊎ (end_of points block ≤ n) → point_at (with_sectors points block others) n ≡ point_at others n
  other_sector (inl low) = get_or_append_left front (middle ++ back) zero_point n (omega (arith, low, front_length)) ∙ get_or-take (8 * block) others n zero_point low
  other_sector (inr high) =
      let low : 8 * block ≤ n = omega (arith, high, inside) in
      let past : end_of points block - 8 * block ≤ n - 8 * block = omega (arith, high) in
      get_or-append_right front (middle ++ back) (8 * block) n zero_point front_length low
      ∙ get_or-append_right middle back (end_of points block - 8 * block) (n - 8 * block) zero_point middle_length past
      ∙ get_or-drop (end_of points block) others (n - 8 * block - (end_of points block - 8 * block)) zero_point
      ∙ ap (λ (k : ℕ). point_at others k) (let whole : end_of points block + (n - 8 * block - (end_of points block - 8 * block)) ≡ n = omega (arith, high, inside) in whole)

  pub same_length : length (with_sectors points block others) ≡ length others
  same_length =
      omega (arith, length-append front (middle ++ back), length-append middle back, front_length, middle_length, length-drop (end_of points block) others, same, inside)
