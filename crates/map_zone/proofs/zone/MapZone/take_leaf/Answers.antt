use Rattle.std.proofs.Common.{refl}
use Rattle.map_page_cache.specs.Runs as runs
use Rattle.map_zone.specs.contracts.zone.MapZone.{the_view}
use Rattle.map_zone.proofs.KeepLaws.{cache_keeps}
use Rattle.map_zone.proofs.StepLaws.{takes_leaf}
use Rattle.map_zone.proofs.zone.MapZone.take_leaf.Goals as goal

pub invariant_of-self-2 : goal.invariant_of-self-2
invariant_of-self-2 c = record {
  forest = c.self.invariant.forest;
  form = cache_keeps (the_view c.self.inside) c.take_expired.new.self (runs.HandOut c.in_ok-page.page) c.self.invariant.form tt (c.args.point, c.take_expired.new.into, c.in_ok-page.ensures.some);
}

pub returns-clause-some : goal.returns-clause-some
returns-clause-some c =
    takes_leaf c.args.self.now (the_view c.self.inside) c.take_expired.new.self c.args.point c.in_ok-page.page c.take_expired.new.into.head.at c.take_expired.new.into c.encode.new.into
    c.self.view_is c.requires c.in_ok-page.ensures.some refl c.encode.ensures
