use Rattle.std.proofs.Common.{rules}
use Rattle.std.proofs.lemmas.List.Sorted.{answers_always}
use Rattle.count_updates.proofs.SortLaws.{sorted_order}
use Rattle.count_updates.proofs.collection.put_in_order.Goals as goal

pub returns-clause-order : goal.returns-clause-order
returns-clause-order c =
    sorted_order _ (c.in_ok-sort_by_key.ensures.sorted (λ u. (u.at.0, u.point.0)) (answers_always _ _ _ (λ f a r g h. search rules)))
