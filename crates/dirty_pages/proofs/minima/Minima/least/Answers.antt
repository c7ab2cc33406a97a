use Rattle.std.proofs.Common.{ℕ, ◌≡◌, ◌<◌, List, Option, None, Some, length, subst, sym, ◌∙◌, arith}
use Rattle.std.proofs.lemmas.List.{get_or_default}
use Rattle.dirty_pages.specs.Minima.{IsLeast, key_at, node_at}
use Rattle.dirty_pages.proofs.MinimaLaws.{root_is_least, root_none}
use Rattle.dirty_pages.proofs.minima.Minima.least.Goals as goal

pub returns-in_err-first-clause-none : goal.returns-in_err-first-clause-none
returns-in_err-first-clause-none c =
    let leaves = c.self.inside.leaves in
    let nodes = c.self.inside.nodes.items in
    let size = c.self.invariant.size in
    let some : 1 < length nodes = omega (arith, c.if-self-eq0.false) in
    let root : node_at nodes 1 ≡ None = get_or_default nodes 1 None c.index.result.now some ∙ sym c.index.ensures ∙ c.in_err-first.was in
    rw c.from_residual.ensures λ slot. subst (λ (keys : List (Option ℕ)). key_at keys slot ≡ None) c.self.view_is (root_none leaves nodes slot c.self.invariant.tree size root)

pub returns-clause-some : goal.returns-clause-some
returns-clause-some c =
    let leaves = c.self.inside.leaves in
    let nodes = c.self.inside.nodes.items in
    let size = c.self.invariant.size in
    let some : 1 < length nodes = omega (arith, c.if-self-eq0.false) in
    let root : node_at nodes 1 ≡ Some c.in_ok-first.first = get_or_default nodes 1 None c.index.result.now some ∙ sym c.index.ensures ∙ c.in_ok-first.was in
    subst (λ (keys : List (Option ℕ)). IsLeast keys c.in_ok-first.first.slot c.in_ok-first.first.number) c.self.view_is
    (root_is_least leaves nodes c.in_ok-first.first c.self.invariant.tree size c.self.invariant.named root (omega (arith, c.if-self-eq0.false)))
