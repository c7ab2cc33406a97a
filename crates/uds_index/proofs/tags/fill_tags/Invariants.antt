use Rattle.std.proofs.Common.{◌≡◌, map, take, vec_capacity}
use Rattle.block_names.specs.Names.{tag_of}
use Rattle.uds_index.proofs.tags.fill_tags.Given as goal

abbrev pub invariant-loop-record : goal.invariant-loop-record
invariant-loop-record l = record {
  own : l.own.items ≡ map (λ one. tag_of one.name) (take l.record-index l.record-items);
  capacity : vec_capacity l.own ≡ vec_capacity l.initial.own;
}
