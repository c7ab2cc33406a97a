use Rattle.std.proofs.Common.{◌≡◌, ◌+◌, length}
use Rattle.core_model.specs.Sessions.{Session}
use Rattle.core_model.specs.Start.{IsFirstZone}
use Rattle.plain_laws.specs.Sums.{Each}
use Rattle.vdo_core.proofs.start.add_physical.Given as goal

abbrev pub invariant-loop-zone : goal.invariant-loop-zone
invariant-loop-zone l = record {
  count : length l.zones.items ≡ 1 + l.sizes.zones + l.zone;
  first : (s : Session) → s.sizes ≡ l.sizes → s.counters ≡ l.opened.counters.items → Each (IsFirstZone s) l.fn.zones.items → Each (IsFirstZone s) l.zones.items;
}
