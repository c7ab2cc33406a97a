use Rattle.std.proofs.Common.{ℕ, ◌∙◌, ◌+◌, ◌/◌, ◌<◌, List, ap, arith, min, refl, slice_set, subst, sym}
use Rattle.std.proofs.lemmas.Map.Iter.{rest_all, rest_more}
use Rattle.std.specs.Map.Iter.{deref_pair}
use Rattle.blk_base.specs.declared.place.Mapping.TheVariants.{At}
use Rattle.blk_base.specs.declared.place.PageId.{PageId}
use Rattle.blk_base.specs.declared.place.Pbn.{Pbn}
use Rattle.session_opening.proofs.BelowLaws.{AreFilled, IsLastBelow, ends_below, filled_leads, none_filled, none_fits, one_filled}
use Rattle.session_opening.proofs.pages.lead.Goals as goal

pub loop-below-init : goal.loop-below-init
loop-below-init c =
    let first : PageId = c.child-first.result in
    let last : PageId = record { tree = first.tree; level = first.level; index = c.saturating_add.result } in
    let index = c.saturating_add.ensures ∙ ap (λ (n : ℕ). min (first.index + n) 4294967295) c.from-2.ensures in
    let ends = ends_below c.args.page first last c.child-first.ensures refl refl index in
    subst (λ (left : List (PageId × Pbn)). AreFilled c.args.places.now c.args.page left c.args.mappings.now) (sym c.into_iter-below-iterator.ensures.into_iter_gives)
    (none_filled c.args.places.now c.args.page c.new.result.start c.new.result.end c.range-below-items.result c.args.mappings.now
    (c.new.ensures.start ∙ c.child-first.ensures) (subst (λ (p : PageId). IsLastBelow c.args.page p) (sym c.new.ensures.end) ends)
    (c.range-below-items.ensures.between c.new.ensures.exhausted) (c.range-below-items.ensures.in_range c.new.ensures.exhausted).0 c.requires.none)

pub loop-below-preserved : goal.loop-below-preserved
loop-below-preserved c =
    let all = c.loop-below.below-iterator in
    one_filled c.args.places.now c.args.page (c.in-Some.below.now, c.in-Some.at.now) c.next.new.self all c.loop-below.mappings c.set.new.self
    (rest_more deref_pair all c.next.new.self c.next.result (c.in-Some.below, c.in-Some.at) c.in-Some.is c.next.ensures.steps) c.loop-below.invariant
    (c.set.ensures.after ∙ ap (λ (slot : ℕ). slice_set c.loop-below.mappings slot (At c.in-Some.at.now)) c.parent_slot.ensures.value) c.set.ensures.size

pub returns-then-page-from : goal.returns-then-page-from
returns-then-page-from c links are =
    let many = subst (λ (slots : ℕ). 4294967295 / slots < c.args.page.index) c.from.ensures c.if-page-from.true in
    none_fits links c.args.page c.args.mappings.now (omega (arith, many)) c.requires.none

pub returns : goal.returns
returns c links are =
    filled_leads links c.args.places.now c.args.page c.loop-below.below-iterator c.loop-below.mappings are
    (rest_all deref_pair c.loop-below.below-iterator c.next.new.self c.next.result c.in-None.is c.next.ensures.steps) c.loop-below.invariant
