-- Which commit points of a slab's sectors are durable, by the calls that handed out and reported their reference blocks.
use Rattle.std.specs.Prelude.{ℕ, ◌≡◌, ◌≢◌, ◌/◌, ◌⊎◌, List, [], ◌∷◌}
use Rattle.blk_base.specs.declared.geometry.Geometry.{Geometry}
use Rattle.blk_base.specs.declared.point.Point.{Point}
use Rattle.reference_blocks.specs.References.{point_at, sectors_of}
use Rattle.slab_codec.specs.Reference.{reference_bytes}
use Rattle.slab_writes.specs.Operations.{Operation, ReferenceOut, ReferenceDurable}

-- the bytes are a reference block that says this commit point in the slab's sector with this number
pub record SaysPoint (g : Geometry) (bytes : List ℕ) (sector : ℕ) (point : Point) : Type 0 where
  pub points : List Point
  pub counters : List ℕ
  pub says : bytes ≡ reference_bytes (sectors_of g points counters (sector / 8))
  pub is : point_at points sector ≡ point

-- the sector's reference block was handed out last with this commit point in it
abbrev pub IsHandedOut : Geometry → List Operation → ℕ → Point → Type 0
IsHandedOut g [] sector point = ⊥
IsHandedOut g (ReferenceOut counters bytes block ∷ calls) sector point =
    ((block ≡ sector / 8) × SaysPoint g bytes sector point) ⊎ ((block ≢ sector / 8) × IsHandedOut g calls sector point)
IsHandedOut g (other ∷ calls) sector point = IsHandedOut g calls sector point

-- and that was reported as durable
abbrev pub IsReported : Geometry → List Operation → ℕ → Point → Type 0
IsReported g [] sector point = ⊥
IsReported g (ReferenceDurable block ∷ calls) sector point = ((block ≡ sector / 8) × IsHandedOut g calls sector point) ⊎ IsReported g calls sector point
IsReported g (other ∷ calls) sector point = IsReported g calls sector point
