use Rattle.std.proofs.Common.{None, subst}
use Rattle.std.specs.Map.{keys_of}
use Rattle.uds_index.specs.Looks.{Index, Caches}
use Rattle.uds_index.proofs.CacheLaws.{asked_and_read}
use Rattle.uds_index.proofs.uds.Uds.take.Goals as goal

pub returns-then-read-clause-cached : goal.returns-then-read-clause-cached
returns-then-read-clause-cached c =
    let new : Index = record {
      book = c.self.inside.volume;
      cached = keys_of c.cache_page.new.cache.entries;
      asked = None;
      given = c.push.new.self.items;
      unread = c.self.inside.unread;
    } in
    asked_and_read c.args.self.now new c.args.at c.args.read c.requires c.if-read.true
    (subst (λ (i : Index). Caches c.args.at i.cached (keys_of c.cache_page.new.cache.entries)) c.self.view_is c.cache_page.ensures)
