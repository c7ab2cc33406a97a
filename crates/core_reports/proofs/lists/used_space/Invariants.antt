use Rattle.std.proofs.Common.{◌≡◌, ◌<◌, ◌^◌, take}
use Rattle.core_reports.specs.Listed.{used_by_all}
use Rattle.core_reports.proofs.lists.used_space.Given as goal

abbrev pub invariant-loop-zone : goal.invariant-loop-zone
invariant-loop-zone l = used_by_all l.zones < 2 ^ 32 → l.used ≡ used_by_all (take l.zone-index l.zones)
