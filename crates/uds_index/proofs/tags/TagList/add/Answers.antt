use Rattle.std.proofs.Common.{◌≡◌, ◌∙◌, ℕ, List, ap, sym, subst}
use Rattle.uds_index.specs.Tags.{Listed, AreListed, with_tags}
use Rattle.uds_index.proofs.ListLaws.{listed_added}
use Rattle.uds_index.proofs.tags.TagList.add.Goals as goal

pub returns-clause-listed : goal.returns-clause-listed
returns-clause-listed c = λ kept listed.
    let old = c.self.inside.tags.items in
    let same : c.swap.new.x.items ≡ with_tags c.number.result c.fill_tags.new.own.items old =
    rw c.swap.ensures.x_after
    (c.merge.ensures.items
    ∙ ap (λ (tags : List ℕ). with_tags c.number.result tags c.deref-2.result.now) c.deref.ensures.value
    ∙ ap (with_tags c.number.result c.fill_tags.new.own.items) c.deref-2.ensures.value) in
    listed_added c.args.chapter.now c.fill_tags.new.own.items kept old c.swap.new.x.items c.number.result c.number.ensures c.fill_tags.ensures.own same
    (subst (λ (l : Listed). AreListed kept l.tags) (sym c.self.view_is) listed)
