use Rattle.std.proofs.Common.{arith, subst}
use Rattle.map_page_cache.specs.contracts.cache.Cache.{the_view}
use Rattle.map_page_cache.specs.CachedPages.{CachedPages, HasNoFrame}
use Rattle.map_page_cache.proofs.CacheLaws.{no_frame}
use Rattle.map_page_cache.proofs.cache.Cache.install.Goals as goal

pub returns-in_default-clause-refused : goal.returns-in_default-clause-refused
returns-in_default-clause-refused c =
    subst (λ (known : CachedPages). HasNoFrame known) c.self.view_is
    (no_frame (the_view c.self.inside) c.self.invariant.form c.self.invariant.clean (omega (arith, c.self.inside.pages.ok)) c.in_default.ensures.none)
