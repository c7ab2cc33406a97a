use Rattle.std.proofs.Common.{◌-◌, ◌∙◌, List, length, length-drop, reverse, drop, ap, subst, arith}
use Rattle.std.proofs.lemmas.List.{take_all}
use Rattle.disk_model.specs.declared.call.Call.{Call}
use Rattle.disk_model.specs.PickParts.{AreWritten, IsPickedUpTo}
use Rattle.disk_model.proofs.RecentLaws.{picked_of_recent}
use Rattle.disk_model.proofs.picks.pick_blocks.Goals as goal

pub returns : goal.returns
returns c =
    let calls = c.args.calls.now in
    let count = c.count_lasting-count.result in
    let before = c.in_ok-image.image.items in
    let image = c.pick_each.new.image.items in
    let picked = c.pick_each.ensures in
    let left = length-drop count calls in
    let rest = ap reverse (take_all (length calls - count) (drop count calls) (omega (arith, left))) in
    picked_of_recent c.args.opening.now before (reverse calls) c.args.number image picked.0
    (subst (λ (older : List Call). AreWritten c.args.opening.now older before) c.count_lasting-count.ensures.lasting c.in_ok-image.ensures)
    (subst (λ (newer : List Call). IsPickedUpTo before newer c.args.number (length before) image picked.0) (rest ∙ c.count_lasting-count.ensures.recent) picked.1)
