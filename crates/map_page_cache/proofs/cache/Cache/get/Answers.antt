use Rattle.std.proofs.Common.{subst, arith}
use Rattle.map_page_cache.specs.contracts.cache.Cache.{the_view}
use Rattle.map_page_cache.specs.CachedPages.{CachedPages, IsThere, IsAbsent}
use Rattle.map_page_cache.proofs.CacheLaws.{at_there, no_slot_absent}
use Rattle.map_page_cache.proofs.cache.Cache.get.Goals as goal

pub index-requires : goal.index-requires
index-requires c =
    omega (arith, c.self.inside.pages.ok, (c.self.invariant.index.pages_at c.args.page c.in_ok-frame.frame c.in_ok-frame.ensures.some).inside)

pub returns-in_err-frame-clause-none : goal.returns-in_err-frame-clause-none
returns-in_err-frame-clause-none c =
    rw c.from_residual.ensures
    (subst (λ (known : CachedPages). IsAbsent known c.args.page) c.self.view_is
    (no_slot_absent c.self.inside.index c.self.inside.room c.self.inside.pages.items c.args.page c.self.invariant.index c.in_err-frame.ensures.none))

pub returns-clause-some : goal.returns-clause-some
returns-clause-some c =
    let at = c.self.invariant.index.pages_at c.args.page c.in_ok-frame.frame c.in_ok-frame.ensures.some in
    subst (λ (known : CachedPages). IsThere known c.args.page c.index.result.now) c.self.view_is
    (at_there (the_view c.self.inside) c.args.page c.in_ok-frame.frame c.index.result.now at c.index.ensures)
