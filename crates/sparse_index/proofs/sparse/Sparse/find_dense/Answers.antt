use Rattle.std.proofs.Common.{◌≡◌, ◌∙◌, ◌≤◌, ℕ, List, map, take, filter, AllPairs, ap, sym, subst, arith}
use Rattle.block_names.specs.Names.{tag_of}
use Rattle.uds_chapters.specs.Chapters.{Numbered}
use Rattle.index_advice.specs.Books.{first_location, has_tag}
use Rattle.index_advice.specs.Orders.{IsNewer}
use Rattle.uds_index.specs.Tags.{tagged_with}
use Rattle.uds_index.specs.declared.tags.Tagged.{Tagged}
use Rattle.sparse_index.specs.Finds.{first_by}
use Rattle.sparse_index.specs.Orders.{dense_count, dense_with}
use Rattle.sparse_index.specs.Lookups.{SparseIndex}
use Rattle.sparse_index.proofs.ListLaws.{map_take}
use Rattle.sparse_index.proofs.FoundLaws.{two_by_tag}
use Rattle.sparse_index.proofs.LookLaws.{take_least, take_order}
use Rattle.sparse_index.proofs.sparse.Sparse.find_dense.Goals as goal

pub first_tagged-requires : goal.first_tagged-requires
first_tagged-requires c =
    subst (AllPairs IsNewer) (sym c.requires.dense) (take_order (dense_count c.args.self.now.book.places) c.args.self.now.book.kept c.requires.kept.order.newest_first)

pub returns : goal.returns
returns c =
    let v = c.self.inside.volume in
    let name = c.args.name.now in
    let tag = tag_of name in
    let tagged = c.dense_with-tagged.result.now in
    let dense : c.args.dense.now ≡ take (dense_count v.places) v.kept = c.requires.dense ∙ ap (λ (i : SparseIndex). take (dense_count i.book.places) i.book.kept) (sym c.self.view_is) in
    let order : AllPairs IsNewer (take (dense_count v.places) v.kept) =
    subst (λ (i : SparseIndex). AllPairs IsNewer (take (dense_count i.book.places) i.book.kept)) (sym c.self.view_is)
    (take_order (dense_count c.args.self.now.book.places) c.args.self.now.book.kept c.requires.kept.order.newest_first) in
    let few : c.min.result ≤ 2 = omega (arith, c.min.ensures) in
    let two : take c.min.result tagged ≡ take 2 tagged = take_least c.min.result tagged few (λ m a b. omega (arith, c.min.ensures, a, b)) in
    let numbers : map (λ one. one.number) (take c.min.result tagged) ≡ take 2 (map (λ chapter. chapter.number) (filter (has_tag tag) (take (dense_count v.places) v.kept))) =
    ap (map (λ (one : Tagged). one.number)) two ∙ map_take (λ (one : Tagged). one.number) 2 tagged
    ∙ ap (take 2) (ap (map (λ (one : Tagged). one.number)) (c.dense_with-tagged.ensures ∙ ap (λ (n : ℕ). tagged_with n c.self.inside.tags.dense.tags) c.tag.ensures) ∙ c.self.invariant.both.dense.numbers tag) in
    c.first_tagged.ensures
    ∙ ap (λ (cs : List Numbered). first_by name cs (map (λ one. one.number) (take c.min.result tagged))) dense
    ∙ two_by_tag name (has_tag tag) (take (dense_count v.places) v.kept) (map (λ one. one.number) (take c.min.result tagged)) order numbers
    ∙ ap (λ (i : SparseIndex). first_location name (dense_with name i.book)) c.self.view_is
