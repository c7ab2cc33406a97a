use Rattle.std.proofs.Common.{arith, ap, ◌∙◌, [], ◌∷◌, ◌++◌, sym, length, List, append_assoc, length-append}
use Rattle.std.proofs.lemmas.List.{append-nil}
use Rattle.data_vio.specs.declared.items.Item.TheVariants as item
use Rattle.data_vio.specs.declared.items.Vio.{Vio}
use Rattle.data_vio.specs.Vios.{Post}
use Rattle.core_model.specs.LogicalRules.{all_again, woken}
use Rattle.logical_zone.proofs.pages.wake.Goals as goal

pub loop-vio-smaller : goal.loop-vio-smaller
loop-vio-smaller c = let fewer = ap length c.in-Some.ensures.some.0 in omega (arith, fewer)

pub loop-vio-preserved : goal.loop-vio-preserved
loop-vio-preserved c =
    let out = c.in-Some.ensures.some in
    let fewer = ap length out.0 in
    let v = c.in-Some.vio in
    let pushed = c.push.ensures ∙ ap (λ (u : Vio). c.loop-vio.posts ++ (u.home, item.Request v) ∷ []) c.get.ensures in
    let longer = ap length pushed ∙ length-append c.loop-vio.posts ((v.home, item.Request v) ∷ []) in
    record {
      room = omega (arith, fewer, longer, c.loop-vio.invariant.room);
      rest = c.loop-vio.invariant.rest ∙ sym (ap woken out.1);
      posts =
          c.loop-vio.invariant.posts ∙ ap (λ (vs : List Vio). c.loop-vio.posts ++ all_again vs) out.0
          ∙ sym (append_assoc c.loop-vio.posts ((v.home, item.Request v) ∷ []) (all_again c.next_lacking.new.self.lacking))
          ∙ ap (λ (ps : List Post). ps ++ all_again c.next_lacking.new.self.lacking) (sym pushed);
    }

pub returns-clause-zone : goal.returns-clause-zone
returns-clause-zone c = let none = c.in_default.ensures.none in none.1 ∙ ap (λ (vs : List Vio). record c.loop-vio.zone { lacking = vs }) none.0 ∙ sym c.loop-vio.invariant.rest

pub returns-clause-posts : goal.returns-clause-posts
returns-clause-posts c = sym (c.loop-vio.invariant.posts ∙ ap (λ (vs : List Vio). c.loop-vio.posts ++ all_again vs) c.in_default.ensures.none.0 ∙ append-nil c.loop-vio.posts)
