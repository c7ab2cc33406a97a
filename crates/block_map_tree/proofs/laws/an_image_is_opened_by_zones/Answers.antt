use Rattle.block_map_tree.proofs.OpeningLaws.{opened_in_zone}
use Rattle.block_map_tree.proofs.laws.an_image_is_opened_by_zones.Goals as goal

pub returns : goal.returns
returns c = opened_in_zone
