use Rattle.std.proofs.Common.{◌∙◌, ◌+◌, ◌-◌, ◌*◌, length, ap, sym, arith}
use Rattle.std.proofs.lemmas.Bool.{OnTrue_at, OnTrue_from}
use Rattle.replay_map.specs.Links.{IsUnmappedRun}
use Rattle.replay_map.proofs.LeftLaws.{run_of_slots}
use Rattle.replay_map.proofs.links.is_unmapped.Goals as goal

pub returns : goal.returns
returns c =
    OnTrue_from c.are_unmapped.result (IsUnmappedRun c.args.mappings.now c.args.run) (λ yes.
    run_of_slots c.args.mappings.now c.as_slice.result.now c.args.run (116 * c.args.run + 116 - 116 * c.args.run) c.requires
    (ap length (sym c.as_slice.ensures.value) ∙ c.as_slice.ensures.size) c.as_slice.ensures.value (omega arith) (OnTrue_at yes c.are_unmapped.ensures))
