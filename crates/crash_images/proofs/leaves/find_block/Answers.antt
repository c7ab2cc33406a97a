use Rattle.std.proofs.Common.{inl, inr, ap, ◌∙◌, arith, Contains, List, get_or, subst, sym}
use Rattle.std.proofs.lemmas.Bool.{false≢true}
use Rattle.std.proofs.lemmas.List.{get_or_default, take_all}
use Rattle.replay_map.specs.declared.links.Link.{Link}
use Rattle.crash_images.proofs.SearchLaws.{before_or_next, test_finds}
use Rattle.crash_images.proofs.leaves.find_block.Goals as goal

pub loop-link-preserved : goal.loop-link-preserved
loop-link-preserved c other has named =
    let links = c.args.links.now in
    let i = c.loop-link.link-index in
    let none : Link = record { page = record { tree = 0; level = 0; index = 0 }; at = record { 0 = 0 } } in
    let link : Link = get_or links i none in
    elim (before_or_next links i link other c.loop-link-test.true (sym (get_or_default links i link none c.loop-link-test.true)) has) [
      | inl earlier ↦ c.loop-link.invariant other earlier named
      | inr next ↦ let here = ap (λ (o : Link). o.page) next ∙ named in false≢true (c.if-eq.ensures ∙ test_finds link.page c.args.page here)
    ]

pub returns : goal.returns
returns c other has named = c.loop-link.invariant other (subst (λ (l : List Link). Contains l other) (sym (take_all c.loop-link.link-index c.args.links.now (omega arith))) has) named
