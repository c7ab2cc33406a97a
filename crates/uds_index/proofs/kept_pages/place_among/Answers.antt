use Rattle.std.proofs.Common.{rules, nat_lt}
use Rattle.std.proofs.lemmas.List.Sorted.{IsPartitionPoint-from_clause}
use Rattle.uds_chapters.specs.Chapters.{Numbered}
use Rattle.uds_index.proofs.PlaceLaws.{newest_parted, place_from}
use Rattle.uds_index.proofs.kept_pages.place_among.Goals as goal

pub returns : goal.returns
returns c =
    let parted = newest_parted c.args.number c.args.kept.now c.requires in
    place_from c.args.number c.args.kept.now c.partition_point.result c.partition_point.ensures.bound
    (IsPartitionPoint-from_clause (λ (chapter : Numbered). nat_lt c.args.number chapter.number) _ _ c.partition_point.ensures.partitioned parted (λ a r q k. search rules))
