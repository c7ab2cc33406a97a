use Rattle.std.proofs.Common.{ℕ, ◌≡◌, Ok, Err, inr, arith, subst}
use Rattle.blk_base.specs.declared.sizes.TheConstants.{TREES}
use Rattle.replay_map.proofs.SlotLaws.{page_inside}
use Rattle.rebuild.proofs.ActLaws.{still_failed}
use Rattle.rebuild.proofs.TurnLaws.{no_roots, one_root_more}
use Rattle.rebuild.specs.Acts.{Acts, page_writing}
use Rattle.rebuild.specs.Done.{AreRootsDone, HasRoots}
use Rattle.rebuild.proofs.pages.put_roots.Goals as goal

pub loop-tree-init : goal.loop-tree-init
loop-tree-init g c = no_roots _ _ _ _

pub loop-tree-preserved : goal.loop-tree-preserved
loop-tree-preserved g c = one_root_more _ _ _ _ _ _ _ _ (Ok tt) c.args.layout.now.sizes (omega arith) c.root-root.ensures.root c.loop-tree.invariant c.in_ok-put_page.ensures

pub returns-in_err-put_page : goal.returns-in_err-put_page
returns-in_err-put_page g c =
    still_failed _ _ _ _ _ _ _ _ c.from_residual.result c.from_residual.ensures.0
    (one_root_more _ _ _ _ _ _ _ _ (Err _) c.args.layout.now.sizes (omega arith) c.root-root.ensures.root c.loop-tree.invariant c.in_err-put_page.ensures)

pub returns : goal.returns
returns g c =
    let ended = c.loop-tree-test.false in
    let inside = c.loop-tree.auto.tree-end in
    let all : c.loop-tree.tree ≡ TREES = omega (arith, ended, inside) in
    let disk = g.D.Disk in
    subst (λ (n : ℕ). Acts disk.trust.tells (page_writing disk.trust.honest) (disk.seen c.args.device.now) (disk.seen c.loop-tree.device) (HasRoots c.args.layout.now.geometry c.args.changes.now)
    (AreRootsDone c.args.layout.now.geometry c.args.changes.now n) (Ok tt)) all c.loop-tree.invariant

pub put_page-requires : goal.put_page-requires
put_page-requires g c =
    let size = c.loop-tree.invariant.stays.size in
    let room = c.requires in
    let root = c.root-root.ensures.root in
    page_inside c.args.layout.now.geometry c.root-root.result.at _ (omega (arith, size, room)) (inr (c.loop-tree.tree, omega arith, root.1))
