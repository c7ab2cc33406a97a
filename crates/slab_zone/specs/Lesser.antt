-- The lesser of two points, of those that are there.
use Rattle.std.specs.Prelude.{◌≡◌, ◌≤◌, ◌⊎◌, Option, None, Some}
use Rattle.blk_base.specs.declared.point.Point.{Point}

-- it is one of the two, and not above the other
pub record IsLesserOf (first second : Point) (result : Option Point) : Type 0 where
  pub lower : Point
  pub is : result ≡ Some lower
  pub one : (lower ≡ first) ⊎ (lower ≡ second)
  pub below_first : lower.0 ≤ first.0
  pub below_second : lower.0 ≤ second.0

-- where one isn't there, the other
abbrev pub IsLesser : Option Point → Option Point → Option Point → Type 0
IsLesser None other result = result ≡ other
IsLesser (Some first) None result = result ≡ Some first
IsLesser (Some first) (Some second) result = IsLesserOf first second result
