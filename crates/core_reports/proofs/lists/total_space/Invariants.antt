use Rattle.std.proofs.Common.{◌≡◌, ◌<◌, ℕ, Some, slice_get}
use Rattle.core_model.specs.declared.zones.PhysicalZone.{PhysicalZone}
use Rattle.core_model.specs.declared.zones.Zone.{Zone}
use Rattle.core_model.specs.declared.zones.ZoneData.TheVariants as at
use Rattle.core_reports.proofs.lists.total_space.Given as goal

abbrev pub invariant-loop-zone : goal.invariant-loop-zone
invariant-loop-zone l = (n : ℕ) (z : Zone) (p : PhysicalZone) → n < l.zone-index → slice_get l.zones n ≡ Some z → z.keeps ≡ at.Physical p → ⊥
