use Rattle.std.proofs.Common.{◌∙◌, AllPairs, ap, subst, sym}
use Rattle.sparse_index.specs.Keeps.{last_number}
use Rattle.sparse_index.specs.Orders.{dense_chapters}
use Rattle.sparse_index.specs.Lookups.{SparseIndex}
use Rattle.index_advice.specs.Orders.{IsNewer}
use Rattle.sparse_index.proofs.FollowLaws.{closed_older}
use Rattle.sparse_index.proofs.sparse.SparseAdvisor.finish.Goals as goal

pub follow-requires : goal.follow-requires
follow-requires c =
    closed_older c.finish.result c.self.inside.volume c.finish.new.self c.last_dense-last.result c.self.inside.tags c.if-finish.true c.finish.ensures.closed
    (subst (λ (i : SparseIndex). AllPairs IsNewer i.book.kept) (sym c.self.view_is) c.last_dense-last.ensures.order)
    (c.last_dense-last.ensures.value ∙ ap (λ (i : SparseIndex). last_number (dense_chapters i.book)) (sym c.self.view_is))
    c.self.invariant.both
