-- How far contracts may rely on a device.
use Rattle.std.specs.Prelude.{Bool}

-- What the type of a device says of it: whether it tells its log, and whether one that tells is honest.
pub record Trust : Type 0 where
  pub tells : Bool
  pub honest : Bool

-- a device that tells, or doesn't, and is honest, or isn't
abbrev pub trust_of : Bool → Bool → Trust
trust_of tells honest = record { tells = tells; honest = honest }
