use Rattle.std.proofs.Common.{sym, subst}
use Rattle.map_page_cache.specs.CachedPages.{CachedPages}
use Rattle.map_page_cache.specs.Frames.{IsAt}
use Rattle.map_page_cache.proofs.CacheLaws.{there_at}
use Rattle.map_page_cache.proofs.cache.Cache.frame_of.Goals as goal

pub unreachable-requires : goal.unreachable-requires
unreachable-requires c =
    let there = there_at c.args.self.now c.args.page c.requires.0 c.requires.1 in
    let at = subst (λ (known : CachedPages). IsAt known.pages c.args.page c.requires.1.0.0) (sym c.self.view_is) there in
    c.in-None.ensures.none c.requires.1.0.0 (c.self.invariant.index.all c.args.page c.requires.1.0.0 at)

pub returns : goal.returns
returns c =
    subst (λ (known : CachedPages). IsAt known.pages c.args.page c.in-Some.frame) c.self.view_is
    (c.self.invariant.index.pages_at c.args.page c.in-Some.frame c.in-Some.ensures.some)
