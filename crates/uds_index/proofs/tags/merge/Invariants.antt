use Rattle.std.proofs.Common.{◌≡◌, ◌+◌, ◌≤◌, ◌++◌, drop, length, vec_len, vec_capacity}
use Rattle.uds_index.specs.Tags.{AreTagsRising, with_tags}
use Rattle.uds_index.proofs.tags.merge.Given as goal

abbrev pub invariant-loop-tag : goal.invariant-loop-tag
invariant-loop-tag l = record {
  rising : AreTagsRising l.rest;
  inside : length l.rest ≤ length l.others;
  whole : l.into.items ++ with_tags l.number (drop l.tag-index l.own) l.rest ≡ with_tags l.number l.own l.others;
  room : vec_len l.into + length l.own + length l.rest ≤ vec_capacity l.into + l.tag-index;
  capacity : vec_capacity l.fn.into ≤ vec_capacity l.into;
}
