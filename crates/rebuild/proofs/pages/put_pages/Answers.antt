use Rattle.std.proofs.Common.{Err, arith}
use Rattle.rebuild.proofs.ActLaws.{acts_as, still_failed}
use Rattle.rebuild.proofs.TurnLaws.{both_pages}
use Rattle.rebuild.specs.Done.{HasPages, HasRoots}
use Rattle.rebuild.proofs.pages.put_pages.Goals as goal

pub returns-in_err-put_roots : goal.returns-in_err-put_roots
returns-in_err-put_roots g c =
    still_failed _ _ _ _ _ _ _ _ c.from_residual.result c.from_residual.ensures.0
    (acts_as _ _ _ _ (HasRoots c.args.layout.now.geometry c.args.changes.now) (HasPages c.args.layout.now.geometry c.args.changes.now c.args.links.now) _ _ (Err _) c.in_err-put_roots.ensures
    (λ image has. (has.0, has.1)) (λ image calls has is. is))

pub returns : goal.returns
returns g c = both_pages _ _ _ _ _ _ _ c.put_links.result c.args.layout.now.sizes c.in_ok-put_roots.ensures c.put_links.ensures

pub put_links-requires : goal.put_links-requires
put_links-requires g c = let size = c.in_ok-put_roots.ensures.stays.size in λ k d below. let inside = c.requires.inside k d below in omega (arith, inside, size)
