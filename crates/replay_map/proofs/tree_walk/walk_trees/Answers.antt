use Rattle.std.proofs.Common.{◌≡◌, subst, arith, ℕ}
use Rattle.blk_base.specs.declared.sizes.TheConstants.{TREES}
use Rattle.disk_model.proofs.SinceLaws.{untouched_on, untouched_yet}
use Rattle.replay_map.proofs.FormLaws.{no_trees, root_in_tree, tree_formed}
use Rattle.replay_map.specs.Forms.{AddsForm, IsRootPage}
use Rattle.replay_map.proofs.ReadLaws.{shown_by_none}
use Rattle.replay_map.proofs.TreeLaws.{no_tree, one_tree_more, tree_fails}
use Rattle.replay_map.specs.Reads.{IsShown}
use Rattle.replay_map.specs.Walks.{IsInTrees, WalkFails, WalkedTrees}
use Rattle.journal_window.proofs.AnswerLaws.{passed_on}
use Rattle.replay_map.proofs.tree_walk.walk_trees.Goals as goal

pub loop-tree-init : goal.loop-tree-init
loop-tree-init g c = record {
  shown = shown_by_none g.D.Disk.trust c.args.layout.now.geometry c.args.changes.now (g.D.Disk.seen c.args.device.now)
      (λ image. WalkedTrees image 0 c.args.found.now c.args.found.now) (λ image has. no_tree image c.args.found.now);
  form = no_trees c.args.layout.now.geometry c.args.found.now;
  untouched = untouched_yet g.D.Disk.trust.tells (g.D.Disk.seen c.args.device.now);
}

pub returns-in_err-walk-clause-fault : goal.returns-in_err-walk-clause-fault
returns-in_err-walk-clause-fault g c =
    let trust = g.D.Disk.trust in
    let sizes = c.args.layout.now.geometry in
    let changes = c.args.changes.now in
    let before = g.D.Disk.seen c.args.device.now in
    let middle = g.D.Disk.seen c.loop-tree.device in
    let now = g.D.Disk.seen c.walk.new.device in
    passed_on c.from_residual.result (WalkFails trust sizes changes before now (λ image. Unit {0}) (IsInTrees TREES)) c.in_err-walk.field-0.0 c.from_residual.ensures.1
    (tree_fails trust sizes changes (let high = c.args.layout.now.sizes.height.0 in omega (arith, high)) c.loop-tree.tree c.root-root.result c.loop-tree-test.true c.root-root.ensures.root before middle now c.args.found.now c.loop-tree.found c.loop-tree.found
    c.loop-tree.invariant.shown c.in_err-walk.field-0.0 c.in_err-walk.ensures.fault)

pub returns-in_err-walk-clause-untouched : goal.returns-in_err-walk-clause-untouched
returns-in_err-walk-clause-untouched g c = untouched_on g.D.Disk.trust.tells _ _ _ c.loop-tree.invariant.untouched c.walk.ensures.untouched

pub loop-tree-preserved : goal.loop-tree-preserved
loop-tree-preserved g c = record {
  shown = one_tree_more g.D.Disk.trust c.args.layout.now.geometry c.args.changes.now (let high = c.args.layout.now.sizes.height.0 in omega (arith, high)) c.loop-tree.tree c.root-root.result c.loop-tree-test.true c.root-root.ensures.root
      (g.D.Disk.seen c.args.device.now) (g.D.Disk.seen c.loop-tree.device) (g.D.Disk.seen c.walk.new.device) c.args.found.now c.loop-tree.found c.walk.new.found
      c.loop-tree.invariant.shown c.in_ok-walk.ensures.walked;
  form = tree_formed c.args.layout.now.geometry c.loop-tree.tree c.root-root.result c.args.found.now c.loop-tree.found c.walk.new.found c.root-root.ensures.root c.loop-tree.invariant.form c.in_ok-walk.ensures.form;
  untouched = untouched_on g.D.Disk.trust.tells _ _ _ c.loop-tree.invariant.untouched c.walk.ensures.untouched;
}

pub returns-clause-walked : goal.returns-clause-walked
returns-clause-walked g c =
    let inside = c.loop-tree.auto.tree-end in
    let ended = c.loop-tree-test.false in
    let all : c.loop-tree.tree ≡ TREES = omega (arith, inside, ended) in
    subst (λ (n : ℕ). IsShown g.D.Disk.trust c.args.layout.now.geometry c.args.changes.now (g.D.Disk.seen c.args.device.now) (g.D.Disk.seen c.loop-tree.device)
    (λ image. WalkedTrees image n c.args.found.now c.loop-tree.found)) all c.loop-tree.invariant.shown

pub returns-clause-form : goal.returns-clause-form
returns-clause-form g c =
    let inside = c.loop-tree.auto.tree-end in
    let ended = c.loop-tree-test.false in
    let all : c.loop-tree.tree ≡ TREES = omega (arith, inside, ended) in
    let g' = c.args.layout.now.geometry in
    subst (λ (n : ℕ). AddsForm g' (IsRootPage g') (IsInTrees n) c.args.found.now c.loop-tree.found) all c.loop-tree.invariant.form

pub walk-requires-clause-place : goal.walk-requires-clause-place
walk-requires-clause-place g c =
    let high = c.args.layout.now.sizes.height.0 in
    root_in_tree c.args.layout.now.geometry c.loop-tree.tree c.root-root.result (omega (arith, high)) c.loop-tree-test.true c.root-root.ensures.root
