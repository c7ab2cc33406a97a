use Rattle.std.proofs.Common.{◌≡◌, ◌&&◌, take, is_some}
use Rattle.std.specs.List.{find}
use Rattle.std.specs.Option.{option_map}
use Rattle.uds_chapters.specs.Chapters.{location_of}
use Rattle.sparse_index.specs.Orders.{is_among}
use Rattle.sparse_index.proofs.lookup.newest_among.Given as goal

abbrev pub invariant-loop-number : goal.invariant-loop-number
invariant-loop-number l = l.newest
    ≡ option_map (λ chapter. chapter.number) (find (λ chapter. is_among (take l.number-index l.numbers) chapter && is_some (location_of l.name chapter.records)) l.chapters)
