use Rattle.std.proofs.Common.{refl, ◌∙◌, sym, subst, inl, inr, arith, IsSome, Option}
use Rattle.blk_base.specs.declared.place.Pbn.{Pbn}
use Rattle.session_opening.proofs.PlaceLaws.{nothing_back, placed_again, placed_first, something_back}
use Rattle.session_opening.proofs.places.add.Goals.{else-is_new-via-then-is_new+else-link-gt0, else-is_new-via-else-is_new}
use Rattle.session_opening.proofs.places.add.Goals as goal

pub returns-in_ok-push : goal.returns-in_ok-push
returns-in_ok-push c older were =
    placed_first older c.args.link c.args.places.now _ c.in_ok-insert.ensures.updates.0
    (sym c.in_ok-insert.ensures.old ∙ nothing_back _ _ c.is_none-is_new.ensures c.if-is_new.true) c.if-link-gt0.true c.in_ok-push.ensures.items were

pub returns-else-is_new : goal.returns-else-is_new
returns-else-is_new c older were =
    placed_again older c.args.link c.args.places.now _ c.in_ok-insert.ensures.updates.0
    (elim c.else-is_new.branch [
      | else-is_new-via-then-is_new+else-link-gt0 w ↦ let leaf = w.if-link-gt0.false in inr (omega (arith, leaf))
      | else-is_new-via-else-is_new w ↦ inl (subst (λ (o : Option Pbn). IsSome o) c.in_ok-insert.ensures.old (something_back _ _ c.is_none-is_new.ensures w.if-is_new.false))
    ]) refl were
