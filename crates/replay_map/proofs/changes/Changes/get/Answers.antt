use Rattle.std.proofs.Common.{◌∙◌, ap, List}
use Rattle.blk_base.specs.declared.place.Mapping.{Mapping}
use Rattle.replay_map.proofs.ChangeLaws.{found_is}
use Rattle.replay_map.specs.Changes.{changed}
use Rattle.replay_map.specs.declared.changes.SlotId.{SlotId}
use Rattle.replay_map.proofs.changes.Changes.get.Goals as goal

pub returns : goal.returns
returns c =
    let view = c.self.view_is in
    c.copied.ensures ∙ c.get.ensures.value ∙ found_is (record { page = c.args.page; slot = c.args.slot }) c.self.inside.newest.entries
    ∙ ap (λ (changes : List (SlotId × Mapping)). changed changes c.args.page c.args.slot) view
