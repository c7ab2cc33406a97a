use Rattle.std.proofs.Common.{rules}
use Rattle.std.proofs.lemmas.List.Sorted.{answers_always}
use Rattle.uds_chapters.proofs.NameLaws.{searched}
use Rattle.uds_chapters.proofs.ordered.place_of.Goals as goal

pub returns : goal.returns
returns c =
    let facts = c.binary_search_by_key.ensures in
    searched _ _ _ c.requires facts.bound (facts.position (λ one. one.name) (answers_always _ _ _ (λ f a r g called. search rules)))
