use Rattle.std.proofs.Common.{rules}
use Rattle.std.proofs.lemmas.List.Sorted.{answers_always}
use Rattle.map_page_cache.proofs.IndexLaws.{searched}
use Rattle.map_page_cache.proofs.index.index_of.Goals as goal

pub returns : goal.returns
returns c =
    let facts = c.binary_search_by_key.ensures in
    searched _ c.args.page _ c.requires facts.bound (facts.position (λ entry. entry.page) (answers_always _ _ _ (λ f a r g called. search rules)))
