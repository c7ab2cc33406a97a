use Rattle.std.proofs.Common.{◌≡◌, ◌+◌, ◌*◌, subst, sym, ap, arith, ℕ, List, Vec, Global}
use Rattle.std.proofs.lemmas.Bool.{OnTrue_at}
use Rattle.blk_base.specs.declared.place.Pbn.{Pbn}
use Rattle.blk_base.specs.declared.sizes.TheConstants.{PAGE_SLOTS}
use Rattle.replay_map.specs.Taken.{GainedMapped}
use Rattle.replay_map.proofs.LeftLaws.{run_maps_none}
use Rattle.replay_map.proofs.TakenLaws.{mapped_yet}
use Rattle.replay_map.proofs.taken_pages.push_mapped.Goals.{then-not-is_unmapped+in_ok-push_run, else-not-is_unmapped}
use Rattle.replay_map.proofs.taken_pages.push_mapped.Goals as goal

pub loop-run-init : goal.loop-run-init
loop-run-init c = mapped_yet c.args.mappings.now c.args.mapped.now.items

pub loop-run-preserved : goal.loop-run-preserved
loop-run-preserved c =
    let mappings = c.args.mappings.now in
    let first = c.args.mapped.now.items in
    let run = c.loop-run.run in
    elim c.if-not-is_unmapped.branch [
      | then-not-is_unmapped+in_ok-push_run w ↦
          subst (λ (xs : List Pbn). GainedMapped mappings (116 * (run + 1)) first xs) (sym (ap (λ (v : Vec Pbn Global). v.items) w.mapped-is))
          (w.in_ok-push_run.ensures first c.loop-run.invariant)
      | else-not-is_unmapped w ↦
          subst (λ (xs : List Pbn). GainedMapped mappings (116 * (run + 1)) first xs) (sym (ap (λ (v : Vec Pbn Global). v.items) w.mapped-is))
          (run_maps_none mappings run first c.loop-run.mapped.items (OnTrue_at w.if-not-is_unmapped.false c.is_unmapped.ensures) c.loop-run.invariant)
    ]

pub returns : goal.returns
returns c =
    let inside = c.loop-run.auto.run-end in
    let ended = c.loop-run-test.false in
    let all : 116 * c.loop-run.run ≡ PAGE_SLOTS = omega (arith, inside, ended) in
    subst (λ (n : ℕ). GainedMapped c.args.mappings.now n c.args.mapped.now.items c.loop-run.mapped.items) all c.loop-run.invariant
