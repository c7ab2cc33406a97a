use Rattle.std.proofs.Common.{◌≡◌, ap, ◌∙◌, ◌+◌, ◌/◌, set, drop, length, sym, subst, List, Option, None, ℕ, ◌<◌, refl, arith, rules}
use Rattle.std.specs.Vec.{with_item}
use Rattle.std.proofs.lemmas.List.{with_items_is, get_or_default, length-drop, length-map}
use Rattle.dirty_pages.specs.declared.numbered.Numbered.{Numbered}
use Rattle.dirty_pages.specs.Minima.{AreNamed, IsTree, IsTreeBut, node_at, number_in, numbers_in}
use Rattle.dirty_pages.proofs.MinimaLaws.{leaf_written, names_changed, slot_numbered, slot_same}
use Rattle.dirty_pages.proofs.minima.Minima.set.Goals as goal

pub returns : goal.returns
returns c =
    let leaves = c.self.inside.leaves in
    let written = with_item c.self.inside.nodes (leaves + c.args.slot) c.node_of.result in
    let size : length c.settle.new.nodes ≡ written.len = omega (arith, c.settle.auto.nodes, c.deref_mut.ensures.len) in
    ap (λ (ns : List (Option Numbered)). numbers_in leaves ns) (with_items_is written c.settle.new.nodes size)
    ∙ slot_numbered leaves c.args.slot (leaves + c.args.slot) c.self.inside.nodes.items c.settle.new.nodes c.node_of.result c.args.number refl c.node_of.ensures
    (c.settle.ensures.kept ∙ ap (λ (ns : List (Option Numbered)). drop leaves ns) c.deref_mut.ensures.value)
    ∙ ap (λ (keys : List (Option ℕ)). set keys c.args.slot c.args.number) c.self.view_is

pub index-requires : goal.index-requires
index-requires c =
    let size = c.self.invariant.size in
    let slots = length-map (drop c.self.inside.leaves c.self.inside.nodes.items) number_in ∙ length-drop c.self.inside.leaves c.self.inside.nodes.items in
    omega (arith, c.self.inside.nodes.ok, ap (λ (keys : List (Option ℕ)). length keys) c.self.view_is)

pub index_mut-requires : goal.index_mut-requires
index_mut-requires c =
    let size = c.self.invariant.size in
    let slots = length-map (drop c.self.inside.leaves c.self.inside.nodes.items) number_in ∙ length-drop c.self.inside.leaves c.self.inside.nodes.items in
    omega (arith, c.self.inside.nodes.ok, ap (λ (keys : List (Option ℕ)). length keys) c.self.view_is)

pub settle-requires-clause-inside : goal.settle-requires-clause-inside
settle-requires-clause-inside c =
    let size = c.self.invariant.size in
    let slots = length-map (drop c.self.inside.leaves c.self.inside.nodes.items) number_in ∙ length-drop c.self.inside.leaves c.self.inside.nodes.items in
    omega (arith, ap (λ (keys : List (Option ℕ)). length keys) c.self.view_is)

pub settle-requires-clause-tree : goal.settle-requires-clause-tree
settle-requires-clause-tree c =
    let leaf = c.self.inside.leaves + c.args.slot in
    subst (λ (ns : List (Option Numbered)). IsTreeBut c.self.inside.leaves (leaf / 2) ns) (sym c.deref_mut.ensures.value)
    (leaf_written c.self.inside.nodes.items leaf c.node_of.result c.self.inside.leaves (omega arith) c.self.invariant.tree)

pub invariant_of-self : goal.invariant_of-self
invariant_of-self c =
    let written = with_item c.self.inside.nodes (c.self.inside.leaves + c.args.slot) c.node_of.result in
    let size : length c.settle.new.nodes ≡ written.len = omega (arith, c.settle.auto.nodes, c.deref_mut.ensures.len) in
    let same = with_items_is written c.settle.new.nodes size in
    record {
      size = omega (arith, ap (λ (ns : List (Option Numbered)). length ns) same, size, c.self.inside.nodes.ok, c.self.invariant.size);
      bound = c.self.invariant.bound;
      named = subst (λ (ns : List (Option Numbered)). AreNamed c.self.inside.leaves ns) (sym same)
          (names_changed c.self.inside.leaves c.args.slot (c.self.inside.leaves + c.args.slot) c.self.inside.nodes.items c.settle.new.nodes c.node_of.result c.args.number refl
          c.node_of.ensures (omega (arith, length-drop c.self.inside.leaves c.self.inside.nodes.items, c.self.invariant.size, length-map (drop c.self.inside.leaves c.self.inside.nodes.items) number_in, ap (λ (keys : List (Option ℕ)). length keys) c.self.view_is)) c.self.invariant.named (c.settle.ensures.kept ∙ ap (λ (ns : List (Option Numbered)). drop c.self.inside.leaves ns) c.deref_mut.ensures.value));
      tree = subst (λ (ns : List (Option Numbered)). IsTree c.self.inside.leaves ns) (sym same) c.settle.ensures.tree;
    }

pub returns-then-eq : goal.returns-then-eq
returns-then-eq c =
    let same : c.number_in.result ≡ c.args.number = search rules in
    let leaves = c.self.inside.leaves in
    let nodes = c.self.inside.nodes.items in
    let size = c.self.invariant.size in
    let slots = length-map (drop leaves nodes) number_in ∙ length-drop leaves nodes in
    let inside : leaves + c.args.slot < length nodes = omega (arith, ap (λ (keys : List (Option ℕ)). length keys) c.self.view_is) in
    let read : node_at nodes (leaves + c.args.slot) ≡ c.index.result.now = get_or_default nodes (leaves + c.args.slot) None c.index.result.now inside ∙ sym c.index.ensures in
    sym c.self.view_is ∙ slot_same leaves c.args.slot nodes c.args.number (ap number_in read ∙ sym c.number_in.ensures ∙ same)
    ∙ ap (λ (keys : List (Option ℕ)). set keys c.args.slot c.args.number) c.self.view_is
