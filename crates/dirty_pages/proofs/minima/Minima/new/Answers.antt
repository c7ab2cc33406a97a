use Rattle.std.proofs.Common.{◌≡◌, ◌*◌, ◌-◌, ◌∙◌, ap, sym, subst, drop, length, map, replicate, List, Option, None, ℕ, arith}
use Rattle.std.proofs.lemmas.List.{drop-replicate, length-replicate}
use Rattle.dirty_pages.specs.declared.numbered.Numbered.{Numbered}
use Rattle.dirty_pages.specs.Minima.{AreNamed, IsTree, number_in}
use Rattle.dirty_pages.proofs.DirtyPointLaws.{map-replicate}
use Rattle.dirty_pages.proofs.MinimaLaws.{names_of_none, tree_of_none}
use Rattle.dirty_pages.proofs.minima.Minima.new.Goals as goal

pub invariant_of-result : goal.invariant_of-result
invariant_of-result c =
    let none : List (Option Numbered) = replicate (2 * c.args.slots) None in
    record {
      size = ap (λ (ns : List (Option Numbered)). length ns) c.in_ok-repeated.ensures ∙ length-replicate (2 * c.args.slots) None;
      bound = omega arith;
      named = subst (λ (ns : List (Option Numbered)). AreNamed c.args.slots ns) (sym {A = List (Option Numbered)} c.in_ok-repeated.ensures) (names_of_none c.args.slots (2 * c.args.slots));
      tree = subst (λ (ns : List (Option Numbered)). IsTree c.args.slots ns) (sym {A = List (Option Numbered)} c.in_ok-repeated.ensures) (tree_of_none c.args.slots (2 * c.args.slots));
    }

pub returns : goal.returns
returns c =
    let all : 2 * c.args.slots - c.args.slots ≡ c.args.slots = omega arith in
    ap (λ (ns : List (Option Numbered)). map number_in ns)
    (ap (λ (ns : List (Option Numbered)). drop c.args.slots ns) c.in_ok-repeated.ensures ∙ drop-replicate c.args.slots (2 * c.args.slots) None
    ∙ ap (λ (n : ℕ). replicate n None) all) ∙ map-replicate number_in None c.args.slots
