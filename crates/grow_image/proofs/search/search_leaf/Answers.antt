use Rattle.std.proofs.Common.{List, ℕ, [], ◌∷◌, refl, sym, subst, inl, arith}
use Rattle.replay_map.proofs.ReadLaws.{failed_at_once}
use Rattle.replay_map.proofs.SlotLaws.{page_inside}
use Rattle.grow_image.proofs.SearchLaws.{one_leaf, shown_by_one}
use Rattle.grow_image.specs.NewAddresses.{HasUnreadable, IsFirstMapped, IsLeastMapped, IsUnreadable, leaf_head}
use Rattle.grow_image.proofs.search.search_leaf.Goals as goal

pub returns-in_default-clause-fault : goal.returns-in_default-clause-fault
returns-in_default-clause-fault g c = failed_at_once _ c.args.sizes.now _ _ c.args.leaf.at (inl c.requires.stands) c.in_default.ensures.failed

pub returns-in-Ok-first_mapped-clause-least : goal.returns-in-Ok-first_mapped-clause-least
returns-in-Ok-first_mapped-clause-least g c =
    let sizes = c.args.sizes.now in
    let leaf = c.args.leaf in
    shown_by_one _ sizes _ _ leaf.at c.in-Ok.block (λ blocks. IsLeastMapped sizes c.args.range (leaf ∷ []) blocks c.in-Ok-first_mapped.first)
    (page_inside sizes leaf.at _ c.requires.room (inl c.requires.stands)) (inl c.requires.stands) c.in-Ok.ensures.read
    (λ blocks same. one_leaf sizes c.args.range blocks leaf c.in-Ok-first_mapped.first
    (subst (λ (bytes : List ℕ). IsFirstMapped (leaf_head sizes leaf) c.args.range bytes c.in-Ok-first_mapped.first) (sym same) c.in-Ok-first_mapped.ensures.first))

pub returns-in-Err-clause-fault : goal.returns-in-Err-clause-fault
returns-in-Err-clause-fault g c =
    let sizes = c.args.sizes.now in
    let leaf = c.args.leaf in
    shown_by_one _ sizes _ _ leaf.at c.in-Ok.block (λ blocks. HasUnreadable sizes c.args.range (leaf ∷ []) blocks leaf.at c.in-Err.fault)
    (page_inside sizes leaf.at _ c.requires.room (inl c.requires.stands)) (inl c.requires.stands) c.in-Ok.ensures.read
    (λ blocks same. (
      leaf,
      (0, omega arith, refl),
      refl,
      subst (λ (bytes : List ℕ). IsUnreadable (leaf_head sizes leaf) c.args.range bytes c.in-Err.fault) (sym same) c.in-Err.ensures.fault,
    ))
