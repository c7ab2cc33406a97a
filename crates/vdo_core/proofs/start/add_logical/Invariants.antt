use Rattle.std.proofs.Common.{◌≡◌, ◌+◌, length}
use Rattle.core_model.specs.PageLinks.{opened_page}
use Rattle.core_model.specs.Sessions.{Session}
use Rattle.core_model.specs.Start.{IsFirstZone}
use Rattle.plain_laws.specs.Sums.{Each}
use Rattle.vdo_core.proofs.start.add_logical.Given as goal

abbrev pub invariant-loop-zone : goal.invariant-loop-zone
invariant-loop-zone l = record {
  count : length l.zones.items ≡ 1 + l.zone;
  first : (s : Session) → s.sizes ≡ l.sizes → s.links ≡ opened_page l.opened.pages.items → Each (IsFirstZone s) l.fn.zones.items → Each (IsFirstZone s) l.zones.items;
}
