-- Points: a journal sequence, an entry there, and a half of it, as one number.
use Rattle.std.specs.Prelude.{ℕ, ◌≡◌, ◌+◌, ◌*◌, ◌%◌, ◌<◌, ◌⊎◌, ◌==◌, if◌then◌else◌, List, max, slice_index_or, slice_set}
use Rattle.blk_base.specs.declared.point.Point.{Point}
use Rattle.blk_base.specs.declared.point.Half.{Half}
use Rattle.blk_base.specs.declared.point.Half.TheVariants.{Increment, Decrement}

-- the increment of an entry stands before its decrement
abbrev pub half_number : Half → ℕ
half_number Increment = 0
half_number Decrement = 1

-- the number of a point
abbrev pub point_of : ℕ → ℕ → Half → ℕ
point_of sequence entry half = sequence * 512 + entry * 2 + half_number half

-- the order of the triples
abbrev pub IsBefore : ℕ → ℕ → Half → ℕ → ℕ → Half → Type 0
IsBefore s e h s' e' h' = (s < s') ⊎ ((s ≡ s') × ((e < e') ⊎ ((e ≡ e') × (half_number h < half_number h'))))

-- the half that a point is of
abbrev pub half_of : ℕ → Half
half_of point = if point % 2 == 0 then Increment else Decrement

-- the one of the points with this number is the point now, if that is above it
abbrev pub raised : List Point → ℕ → Point → List Point
raised points number point = slice_set points number (record { 0 = max (slice_index_or points number point).0 point.0 })
