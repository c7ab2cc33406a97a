use Rattle.std.proofs.Common.{◌<◌, List, length, subst, arith}
use Rattle.std.proofs.lemmas.List.{take_all}
use Rattle.std.proofs.lemmas.List.Elements.{Contains-get_or}
use Rattle.disk_model.proofs.SinceLaws.{untouched_on, untouched_yet}
use Rattle.disk_model.specs.Log.{Blocks}
use Rattle.replay_map.specs.declared.links.Link.{Link}
use Rattle.grow_image.proofs.SearchLaws.{leaf_more, no_leaves, search_fails, shown_on, shown_yet}
use Rattle.grow_image.specs.Searches.{SearchFails}
use Rattle.grow_image.specs.NewAddresses.{IsLeastMapped, IsShownBy}
use Rattle.journal_window.proofs.AnswerLaws.{passed_on}
use Rattle.grow_image.proofs.search.least_mapped.Goals as goal

pub loop-leaf-init : goal.loop-leaf-init
loop-leaf-init g c = record {
  shown = shown_yet _ c.args.sizes.now _ _ (λ blocks. no_leaves c.args.sizes.now c.args.range blocks);
  untouched = untouched_yet _ _;
}

pub loop-leaf-preserved : goal.loop-leaf-preserved
loop-leaf-preserved g c =
    let inside : c.loop-leaf.leaf-index < length c.args.leaves.now = omega arith in
    let sizes = c.args.sizes.now in
    record {
      shown = shown_on _ sizes _ _ _ _ _ _ c.loop-leaf.invariant.shown c.in_ok-first.ensures.least
          (λ blocks old new. leaf_more sizes c.args.range blocks c.args.leaves.now c.loop-leaf.leaf-index _ _ _ _ inside c.lesser-least.ensures.is c.lesser-least.ensures.before old new);
      untouched = untouched_on _ _ _ _ c.loop-leaf.invariant.untouched c.search_leaf.ensures.untouched;
    }

pub returns-clause-least : goal.returns-clause-least
returns-clause-least g c =
    subst (λ (list : List Link). IsShownBy g.D.Disk.trust c.args.sizes.now (g.D.Disk.seen c.args.device.now) (g.D.Disk.seen c.loop-leaf.device)
    (λ (blocks : Blocks). IsLeastMapped c.args.sizes.now c.args.range list blocks c.loop-leaf.least)) (take_all c.loop-leaf.leaf-index c.args.leaves.now c.loop-leaf-test.false) c.loop-leaf.invariant.shown

pub search_leaf-requires-clause-level : goal.search_leaf-requires-clause-level
search_leaf-requires-clause-level g c =
    let inside : c.loop-leaf.leaf-index < length c.args.leaves.now = omega arith in
    (c.requires.trees _ (Contains-get_or c.args.leaves.now c.loop-leaf.leaf-index _ inside)).0

pub search_leaf-requires-clause-tree : goal.search_leaf-requires-clause-tree
search_leaf-requires-clause-tree g c =
    let inside : c.loop-leaf.leaf-index < length c.args.leaves.now = omega arith in
    (c.requires.trees _ (Contains-get_or c.args.leaves.now c.loop-leaf.leaf-index _ inside)).1

pub returns-in_err-first-clause-fault : goal.returns-in_err-first-clause-fault
returns-in_err-first-clause-fault g c =
    let inside : c.loop-leaf.leaf-index < length c.args.leaves.now = omega arith in
    passed_on c.from_residual.result (SearchFails g.D.Disk.trust c.args.sizes.now c.args.range c.args.leaves.now (g.D.Disk.seen c.args.device.now) (g.D.Disk.seen c.search_leaf.new.device))
    c.in_err-first.field-0.0 c.from_residual.ensures.1
    (search_fails _ c.args.sizes.now c.args.range c.args.leaves.now c.loop-leaf.leaf-index _ _ _ _ _ c.in_err-first.field-0.0 inside c.loop-leaf.invariant.shown c.in_err-first.ensures.fault)

pub returns-in_err-first-clause-untouched : goal.returns-in_err-first-clause-untouched
returns-in_err-first-clause-untouched g c = untouched_on g.D.Disk.trust.tells _ _ _ c.loop-leaf.invariant.untouched c.search_leaf.ensures.untouched
