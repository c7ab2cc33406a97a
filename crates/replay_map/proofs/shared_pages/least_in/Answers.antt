use Rattle.std.proofs.Common.{ℕ, ◌≡◌, ◌∙◌, [], ◌∷◌, ◌++◌, get_or, sym, subst, ap, List, Option, arith, take, length}
use Rattle.std.proofs.Math.Seq.{take-length}
use Rattle.blk_base.specs.declared.place.Pbn.{Pbn}
use Rattle.replay_map.proofs.ShareLaws.{grown, least_passed}
use Rattle.replay_map.specs.Shares.{IsLeastOf, is_marked}
use Rattle.replay_map.proofs.shared_pages.least_in.Goals as goal
use Rattle.replay_map.proofs.shared_pages.least_in.Goals.{then-has_mark, else-has_mark}

pub loop-at-preserved : goal.loop-at-preserved
loop-at-preserved c =
    let test = is_marked c.args.marks.now in
    let before = take c.loop-at.at-index c.args.mapped.now in
    let at = get_or c.args.mapped.now c.loop-at.at-index (record { 0 = 0 }) in
    let more = sym (grown c.args.mapped.now c.loop-at.at-index (record { 0 = 0 }) c.loop-at-test.true) in
    subst (λ (blocks : List Pbn). IsLeastOf test blocks c.if-has_mark.least) more
    (elim c.if-has_mark.branch [
      | then-has_mark w ↦
          subst (λ (least : Option Pbn). IsLeastOf test (before ++ at ∷ []) least) (sym w.least-is)
          (w.lesser.ensures test before c.loop-at.invariant (sym c.has_mark.ensures ∙ w.if-has_mark.true))
      | else-has_mark w ↦
          subst (λ (least : Option Pbn). IsLeastOf test (before ++ at ∷ []) least) (sym w.least-is)
          (least_passed test before at c.loop-at.least (sym c.has_mark.ensures ∙ w.if-has_mark.false) c.loop-at.invariant)
    ])

pub returns : goal.returns
returns c =
    let inside = c.loop-at.auto.at-index-end in
    let ended = c.loop-at-test.false in
    let all : c.loop-at.at-index ≡ length c.args.mapped.now = omega (arith, inside, ended) in
    subst (λ (blocks : List Pbn). IsLeastOf (is_marked c.args.marks.now) blocks c.loop-at.least)
    (ap (λ (n : ℕ). take n c.args.mapped.now) all ∙ take-length c.args.mapped.now) c.loop-at.invariant
