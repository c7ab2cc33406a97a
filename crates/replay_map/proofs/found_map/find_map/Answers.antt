use Rattle.std.proofs.Common.{◌≤◌, sym, subst, arith, List, Option, Some, None}
use Rattle.blk_base.specs.declared.geometry.Geometry.{Geometry}
use Rattle.blk_base.specs.declared.place.Pbn.{Pbn}
use Rattle.replay_map.proofs.FindLaws.{walk_fails}
use Rattle.replay_map.proofs.FormLaws.{whole_form}
use Rattle.replay_map.proofs.FoundLaws.{map_found, share_found}
use Rattle.replay_map.specs.FoundPages.{FindFails}
use Rattle.replay_map.specs.Shares.{IsLeastShared}
use Rattle.replay_map.specs.declared.links.Link.{Link}
use Rattle.journal_window.proofs.AnswerLaws.{passed_on}
use Rattle.replay_map.proofs.found_map.find_map.Goals as goal

pub returns-in_err-walk_trees-clause-fault : goal.returns-in_err-walk_trees-clause-fault
returns-in_err-walk_trees-clause-fault g c =
    let trust = g.D.Disk.trust in
    let sizes = c.args.layout.now.geometry in
    let changes = c.args.changes.now in
    let before = g.D.Disk.seen c.args.device.now in
    let now = g.D.Disk.seen c.walk_trees.new.device in
    passed_on c.from_residual.result (FindFails trust sizes changes before now) c.in_err-walk_trees.field-0.0 c.from_residual.ensures.1
    (walk_fails trust sizes changes before now c.in_err-walk_trees.field-0.0 c.in_err-walk_trees.ensures.fault)

pub returns-in-Ok-None-clause-map : goal.returns-in-Ok-None-clause-map
returns-in-Ok-None-clause-map g c =
    let shown = c.in_ok-walk_trees.ensures.walked in
    let high = c.args.layout.now.sizes.height.0 in
    let least = subst (λ (o : Option Pbn). IsLeastShared c.as_slice.result.now c.as_slice-2.result.now o) c.in-Ok-None.field-0-is c.in-Ok-None.ensures in
    let own = subst (λ (links : List Link). IsLeastShared links c.walk_trees.new.found.mapped.items None) c.as_slice.ensures.value
    (subst (λ (mapped : List Pbn). IsLeastShared c.as_slice.result.now mapped None) c.as_slice-2.ensures.value least) in (
      shown.0,
      shown.1,
      λ image has.
          map_found image (subst (λ (sizes : Geometry). 1 ≤ sizes.height) (sym has.geometry) (omega (arith, high))) c.walk_trees.new.found _ (c.new.ensures.items, c.new-2.ensures.items, c.new-3.ensures.items) (shown.2 image has) own,
    )

pub returns-in-Ok-Some-clause-fault : goal.returns-in-Ok-Some-clause-fault
returns-in-Ok-Some-clause-fault g c =
    let shown = c.in_ok-walk_trees.ensures.walked in
    let high = c.args.layout.now.sizes.height.0 in
    let least = subst (λ (o : Option Pbn). IsLeastShared c.as_slice.result.now c.as_slice-2.result.now o) c.in-Ok-Some.field-0-is c.in-Ok-Some.ensures in
    let own = subst (λ (links : List Link). IsLeastShared links c.walk_trees.new.found.mapped.items (Some c.in-Ok-Some.at)) c.as_slice.ensures.value
    (subst (λ (mapped : List Pbn). IsLeastShared c.as_slice.result.now mapped (Some c.in-Ok-Some.at)) c.as_slice-2.ensures.value least) in (
      shown.0,
      shown.1,
      λ image has.
          share_found image (subst (λ (sizes : Geometry). 1 ≤ sizes.height) (sym has.geometry) (omega (arith, high))) c.walk_trees.new.found _ (c.new.ensures.items, c.new-2.ensures.items, c.new-3.ensures.items) (shown.2 image has) c.in-Ok-Some.at own,
    )

pub returns-in-Ok-None-clause-form : goal.returns-in-Ok-None-clause-form
returns-in-Ok-None-clause-form g c =
    whole_form c.args.layout.now.geometry c.walk_trees.new.found _ c.new.ensures.items c.new-2.ensures.items c.in_ok-walk_trees.ensures.form
