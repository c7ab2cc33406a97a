use Rattle.std.proofs.Common.{◌<◌, ◌∙◌, List, length, subst, arith}
use Rattle.std.proofs.lemmas.List.{take_all}
use Rattle.replay_map.specs.declared.links.Link.{Link}
use Rattle.session_opening.proofs.PageLaws.{added_next, none_added}
use Rattle.session_opening.specs.Pages.{AreAdded}
use Rattle.session_opening.proofs.pages.push_inner.Goals as goal

pub loop-link-init : goal.loop-link-init
loop-link-init c links are = none_added links _

pub loop-link-preserved : goal.loop-link-preserved
loop-link-preserved c links are =
    let inside : c.loop-link.link-index < length c.deref-link-items.result.now = omega arith in
    added_next links _ c.loop-link.link-index _ _ _ _ inside (c.loop-link.invariant links are) (c.in_ok-push_page.ensures links are)

pub returns : goal.returns
returns c links are =
    subst (λ (named : List Link). AreAdded links named c.args.pages.now.items c.loop-link.pages.items)
    (take_all c.loop-link.link-index c.deref-link-items.result.now c.loop-link-test.false ∙ c.deref-link-items.ensures.value) (c.loop-link.invariant links are)
