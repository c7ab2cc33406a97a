use Rattle.std.proofs.Common.{◌≡◌, take}
use Rattle.uds_index.specs.Looks.{place_of_block}
use Rattle.uds_index.specs.Rooms.{count_at}
use Rattle.uds_index.proofs.index_search.given_of_chapter.Given as goal

abbrev pub invariant-loop-block : goal.invariant-loop-block
invariant-loop-block l = l.count ≡ count_at (place_of_block l.first) (place_of_block l.first l.at) (take l.block-index l.given)
