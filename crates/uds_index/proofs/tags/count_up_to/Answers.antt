use Rattle.std.proofs.Common.{rules, nat_le}
use Rattle.std.proofs.lemmas.List.Sorted.{IsPartitionPoint-from_clause, IsPartitionedBy-leb}
use Rattle.uds_index.specs.declared.tags.Tagged.{Tagged}
use Rattle.uds_index.proofs.ListLaws.{parted_up_to}
use Rattle.uds_index.proofs.tags.count_up_to.Goals as goal

pub returns : goal.returns
returns c =
    let parted = IsPartitionedBy-leb (λ (one : Tagged). one.tag) c.args.tags.now c.args.tag c.requires in
    parted_up_to c.args.tag c.args.tags.now c.partition_point.result c.partition_point.ensures.bound
    (IsPartitionPoint-from_clause (λ (one : Tagged). nat_le one.tag c.args.tag) _ _ c.partition_point.ensures.partitioned parted (λ a r q k. search rules))
