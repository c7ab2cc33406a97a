use Rattle.std.proofs.Common.{◌≡◌, ◌∙◌, ◌-◌, ℕ, Bool, List, [], suc, not, cond, filter, take, drop, nat_lt, ap, sym, subst, arith}
use Rattle.std.specs.List.{find}
use Rattle.std.specs.Option.{option_map}
use Rattle.block_names.specs.Names.{tag_of}
use Rattle.index_advice.specs.Books.{has_tag}
use Rattle.uds_index.specs.Tags.{tagged_with}
use Rattle.uds_index.specs.Places.{IsKept}
use Rattle.uds_index.specs.declared.tags.Tagged.{Tagged}
use Rattle.sparse_index.specs.Hooks.{hooks_of}
use Rattle.sparse_index.specs.Keeps.{last_number}
use Rattle.sparse_index.specs.Orders.{dense_count, is_among, to_read}
use Rattle.sparse_index.specs.Finds.{first_number, is_listed}
use Rattle.sparse_index.specs.Lookups.{SparseIndex}
use Rattle.sparse_index.proofs.LookLaws.{tagged_fall, other_is}
use Rattle.sparse_index.proofs.sparse.Sparse.other_chapter.Goals as goal

pub first_other-requires : goal.first_other-requires
first_other-requires c =
    let v = c.self.inside.volume in
    let kept : IsKept v = subst (λ (i : SparseIndex). IsKept i.book) (sym c.self.view_is) c.requires.kept in
    let tag = tag_of c.args.name.now in
    tagged_fall tag v.kept c.self.inside.tags.hooks.tags c.hooks_with-tagged.result.now c.self.invariant.both.hooks
    (c.hooks_with-tagged.ensures ∙ ap (λ (n : ℕ). tagged_with n c.self.inside.tags.hooks.tags) c.tag.ensures) kept.order.newest_first

pub returns : goal.returns
returns c =
    let v = c.self.inside.volume in
    let kept : IsKept v = subst (λ (i : SparseIndex). IsKept i.book) (sym c.self.view_is) c.requires.kept in
    let dense : c.args.dense.now ≡ take (dense_count v.places) v.kept = c.requires.dense ∙ ap (λ (i : SparseIndex). take (dense_count i.book.places) i.book.kept) (sym c.self.view_is) in
    let some = kept.some in
    let m : ℕ = dense_count v.places - 1 in
    let count : suc m ≡ dense_count v.places = omega (arith, some) in
    let tag = tag_of c.args.name.now in
    let tagged = c.hooks_with-tagged.result.now in
    let is = c.hooks_with-tagged.ensures ∙ ap (λ (n : ℕ). tagged_with n c.self.inside.tags.hooks.tags) c.tag.ensures in
    let other = other_is tag c.numbers.result.now m v.kept c.self.inside.tags.hooks.tags tagged kept.order.newest_first c.self.invariant.both.hooks is in
    let cached = c.numbers.result.now in
    let name = c.args.name.now in
    c.first_other.ensures
    ∙ ap (λ (n : ℕ). option_map (λ (one : Tagged). one.number) (find (λ one. not (is_listed cached one.number)) (filter (λ one. nat_lt one.number n) tagged)))
    (c.last_number.ensures ∙ ap last_number dense ∙ ap (λ (n : ℕ). last_number (take n v.kept)) (sym count))
    ∙ other
    ∙ ap (λ (n : ℕ). first_number (take 1 (filter (λ chapter. has_tag tag (hooks_of chapter)) (filter (λ chapter. not (is_among cached chapter)) (drop n v.kept))))) count
    ∙ ap (λ (b : Bool). first_number (cond b (take 1 (filter (λ chapter. has_tag tag (hooks_of chapter)) (filter (λ chapter. not (is_among cached chapter)) (drop (dense_count v.places) v.kept)))) []))
    (sym (sym c.is_hook.ensures ∙ c.if-not-is_hook.false))
    ∙ ap (λ (ns : List ℕ). first_number (to_read name ns v)) c.numbers.ensures
    ∙ ap (λ (i : SparseIndex). first_number (to_read name i.cached i.book)) c.self.view_is
