use Rattle.uds_index.proofs.CacheLaws.{cached_after}
use Rattle.uds_index.proofs.uds.cache_page.Goals as goal

pub returns : goal.returns
returns c = cached_after c.put.result c.args.cache.now c.put.new.self c.args.at tt c.put.ensures.entries c.put.ensures.err
