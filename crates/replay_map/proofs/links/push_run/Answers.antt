use Rattle.std.proofs.Common.{◌∙◌}
use Rattle.std.proofs.lemmas.Bool.{OnTrue_at}
use Rattle.replay_map.proofs.FormLaws.{links_more}
use Rattle.replay_map.proofs.LeftLaws.{run_passed}
use Rattle.replay_map.proofs.links.push_run.Goals as goal

pub returns-then-is_unmapped : goal.returns-then-is_unmapped
returns-then-is_unmapped c = c.requires.before ∙ run_passed c.args.page c.args.mappings.now c.args.run (OnTrue_at c.if-is_unmapped.true c.is_unmapped.ensures)

pub loop-slot-preserved : goal.loop-slot-preserved
loop-slot-preserved c =
    links_more c.args.page c.args.mappings.now c.loop-slot.slot c.loop-slot.links.items c.push_link.new.links.items c.loop-slot.invariant
    (rw c.get.ensures.value at c.in_ok-push_link.ensures)
