-- What the sizes of a session say of its zones.
use Rattle.std.specs.Prelude.{◌<◌, ◌≤◌}
use Rattle.blk_base.specs.Limits.{IsGeometry}
use Rattle.data_vio.specs.declared.sizes.Sizes.{Sizes}
use Rattle.core_model.specs.SessionLimits.{most_physical, most_zones}

-- each data block has a physical zone that counts its mappings: the image is within its limits, and there is such a zone
pub record HasPhysical (sizes : Sizes) : Type 0 where
  pub geometry : IsGeometry sizes.geometry
  pub some : 0 < sizes.physical

-- each zone can be told of a stop: of neither kind there are more than there may be
pub record AreFew (sizes : Sizes) : Type 0 where
  pub logical : sizes.zones ≤ most_zones
  pub physical : sizes.physical ≤ most_physical
