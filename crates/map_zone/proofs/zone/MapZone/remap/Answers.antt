use Rattle.map_page_cache.specs.Runs as runs
use Rattle.map_zone.specs.contracts.zone.MapZone.{the_view}
use Rattle.map_zone.proofs.KeepLaws.{cache_keeps}
use Rattle.map_zone.proofs.zone.MapZone.remap.Goals as goal

pub invariant_of-self : goal.invariant_of-self
invariant_of-self c = record {
  forest = c.self.invariant.forest;
  form = cache_keeps (the_view c.self.inside) c.set.new.self (runs.Set c.leaf-page.result c.slot.result c.args.mapping c.args.point) c.self.invariant.form tt c.set.ensures;
}
