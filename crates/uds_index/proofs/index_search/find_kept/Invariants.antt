use Rattle.std.proofs.Common.{◌≡◌, take, drop, filter}
use Rattle.std.specs.Map.{keys_of}
use Rattle.block_names.specs.Names.{tag_of}
use Rattle.index_advice.specs.Books.{has_tag, first_location}
use Rattle.uds_index.proofs.AskLaws.{IsLeft}
use Rattle.uds_index.proofs.index_search.find_kept.Given as goal

abbrev pub invariant-loop-one : goal.invariant-loop-one
invariant-loop-one l = record {
  same : first_location l.name (take 4 (filter (has_tag (tag_of l.name)) l.kept))
      ≡ first_location l.name (drop l.one-index (take 4 (filter (has_tag (tag_of l.name)) l.kept)));
  left : IsLeft l.region (keys_of l.cache.entries) l.given l.name (take 4 (filter (has_tag (tag_of l.name)) l.kept))
      (drop l.one-index (take 4 (filter (has_tag (tag_of l.name)) l.kept)));
}
