use Rattle.std.proofs.Common.{rules, nat_le}
use Rattle.std.proofs.lemmas.List.Sorted.{IsPartitionPoint-from_clause}
use Rattle.uds_index.specs.declared.tags.Tagged.{Tagged}
use Rattle.sparse_index.proofs.FoundLaws.{falls_parted, older_of}
use Rattle.sparse_index.proofs.lookup.count_from.Goals as goal

pub returns-clause-older : goal.returns-clause-older
returns-clause-older c =
    let parted = falls_parted c.args.end c.args.tagged.now c.requires in
    older_of c.args.end c.args.tagged.now c.partition_point.result c.partition_point.ensures.bound
    (IsPartitionPoint-from_clause (λ (one : Tagged). nat_le c.args.end one.number) _ _ c.partition_point.ensures.partitioned parted (λ a r q k. search rules))
