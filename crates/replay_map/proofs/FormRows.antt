-- For each clause on the form of a map a case that it accepts, and one that breaks it alone.
use Rattle.std.proofs.Common.{ℕ, ◌≡◌, ◌⊎◌, ◌+◌, ◌/◌, ◌^◌, List, [], ◌∷◌, Contains, get_or, refl, sym, ap, subst, inl, inr, arith}
use Rattle.std.specs.List.{AllPairs}
use Rattle.std.proofs.lemmas.Bool.{cases_eq}
use Rattle.blk_base.specs.declared.geometry.Geometry.{Geometry}
use Rattle.blk_base.specs.declared.place.Mapping.{Mapping}
use Rattle.blk_base.specs.declared.place.Mapping.TheVariants.{Unmapped, Zero, At}
use Rattle.blk_base.specs.declared.place.PageId.{PageId}
use Rattle.blk_base.specs.declared.sizes.TheConstants.{PAGE_SLOTS}
use Rattle.blk_base.specs.Forms.{page}
use Rattle.replay_map.proofs.TakenLaws.{only_one}
use Rattle.replay_map.specs.Forms.{HasForm, IsInTree, IsLinkOf, IsListed, IsRootPage, changes_in, links_in}
use Rattle.replay_map.specs.declared.found.SlotChange.{SlotChange}
use Rattle.replay_map.specs.declared.links.Link.{Link}

-- trees of height 3, and one slab of 64 blocks from block 85 on
abbrev high : Geometry
high = record { logical = 1000; slabs = 1; slab_blocks = 64; journal = 8; index = 16; slab_journal = 8; height = 3; nonce = 1 }

abbrev link : PageId → ℕ → Link
link p block = record { page = p; at = record { 0 = block } }

-- IsInTree
in_tree : IsInTree high (page 59 1 811)
in_tree = record { tree = omega arith; level = omega arith; index = let one : PAGE_SLOTS ^ 1 ≡ 812 = refl in omega (arith, one) }

of_no_tree : ¬ IsInTree high (page 60 1 811)
of_no_tree = λ is. omega (arith, is.tree)

above_the_root : ¬ IsInTree high (page 59 3 0)
above_the_root = λ is. omega (arith, is.level)

past_its_level : ¬ IsInTree high (page 59 1 812)
past_its_level = λ is. let one : PAGE_SLOTS ^ 1 ≡ 812 = refl in omega (arith, is.index, one)

-- IsLinkOf
inner_in : IsInTree high (page 0 1 5)
inner_in = record { tree = omega arith; level = omega arith; index = let one : PAGE_SLOTS ^ 1 ≡ 812 = refl in omega (arith, one) }

inner_link : IsLinkOf high (link (page 0 1 5) 90)
inner_link = record { page = inner_in; below = omega arith; data_block = record { slab = 0; offset = 5; inside = (omega arith, omega arith); stands = refl } }

of_another_page : ¬ IsLinkOf high (link (page 60 1 5) 90)
of_another_page = λ is. omega (arith, is.page.tree)

to_a_root : ¬ IsLinkOf high (link (page 0 2 0) 90)
to_a_root = λ is. omega (arith, is.below)

at_no_data_block : ¬ IsLinkOf high (link (page 0 1 5) 84)
at_no_data_block = λ is. let stands = is.data_block.stands in omega (arith, stands)

-- HasForm: a page below the root of tree 0, and a leaf below that
abbrev leaf : Link
leaf = link (page 0 0 4061) 91

leaf_link : IsLinkOf high leaf
leaf_link = record {
  page = record { tree = omega arith; level = omega arith; index = let two : PAGE_SLOTS ^ 2 ≡ 659344 = refl in omega (arith, two) };
  below = omega arith;
  data_block = record { slab = 0; offset = 6; inside = (omega arith, omega arith); stands = refl };
}

abbrev inner : Link
inner = link (page 0 1 5) 90

abbrev both : List Link
both = inner ∷ leaf ∷ []

of_both : (P : Link → Type 0) → P inner → P leaf → (l : Link) → Contains both l → P l
of_both P first second l (k, inside, is) = elim (cases_eq k 0) [
  | inl zeroth ↦ subst P (subst (λ (n : ℕ). get_or both n l ≡ l) zeroth is) first
  | inr later ↦ let one : k ≡ 1 = omega (arith, inside, later) in subst P (subst (λ (n : ℕ). get_or both n l ≡ l) one is) second
]

abbrev slot : SlotChange
slot = record { page = page 0 0 4061; slot = 7; mapping = Zero }

abbrev other_slot : SlotChange
other_slot = record { page = page 0 0 4061; slot = 8; mapping = Zero }

apart_by_two : {X : Type 0} (R : X → X → Type 0) (x y : X) → R x y → AllPairs R (x ∷ y ∷ [])
apart_by_two R x y apart i j d less inside =
    let first : i ≡ 0 = omega (arith, less, inside) in
    let second : j ≡ 1 = omega (arith, less, inside) in
    subst (λ (n : ℕ). R (get_or (x ∷ y ∷ []) n d) (get_or (x ∷ y ∷ []) j d)) (sym first) (subst (λ (n : ℕ). R x (get_or (x ∷ y ∷ []) n d)) (sym second) apart)

has_form : HasForm high both (slot ∷ other_slot ∷ [])
has_form = record {
  each = of_both (IsLinkOf high) inner_link leaf_link;
  parents = of_both (λ l. IsRootPage high (page l.page.tree (l.page.level + 1) (l.page.index / PAGE_SLOTS)) ⊎ IsListed both (page l.page.tree (l.page.level + 1) (l.page.index / PAGE_SLOTS)))
      (inl refl) (inr (inner, (0, omega arith, refl), refl));
  once = apart_by_two (λ (first second : Link). first.page ≡ second.page → ⊥) inner leaf (λ same. let no' : 1 ≡ 0 = ap (λ (p : PageId). p.level) same in omega (arith, no'));
  slots_once = apart_by_two (λ (first second : SlotChange). (first.page ≡ second.page) × (first.slot ≡ second.slot) → ⊥) slot other_slot (λ same. let no' : 7 ≡ 8 = same.1 in omega (arith, no'));
}

-- a link at no data block
outside : ¬ HasForm high (link (page 0 1 5) 84 ∷ []) []
outside = λ is. at_no_data_block (is.each (link (page 0 1 5) 84) (0, omega arith, refl))

-- a leaf whose page above isn't linked
without_the_page_above : ¬ HasForm high (leaf ∷ []) []
without_the_page_above = λ is. elim (is.parents leaf (0, omega arith, refl)) [
  | inl root ↦ let no' : 1 ≡ 2 = ap (λ (p : PageId). p.level) root in omega (arith, no')
  | inr listed ↦
      let same = only_one leaf listed.0 listed.1 in
      let up : listed.0.page.level ≡ 1 = ap (λ (p : PageId). p.level) listed.2 in
      let low : 0 ≡ listed.0.page.level = ap (λ (l : Link). l.page.level) same in
      omega (arith, up, low)
]

-- a page twice, and a slot twice
a_page_twice : ¬ HasForm high (inner ∷ link (page 0 1 5) 91 ∷ []) []
a_page_twice = λ is. is.once 0 1 inner (omega arith) (omega arith) refl

a_slot_twice : ¬ HasForm high [] (slot ∷ record slot { mapping = Unmapped } ∷ [])
a_slot_twice = λ is. is.slots_once 0 1 slot (omega arith) (omega arith) (refl, refl)

-- links_in, changes_in
abbrev mappings : List Mapping
mappings = Unmapped ∷ At (record { 0 = 90 }) ∷ Zero ∷ At (record { 0 = 91 }) ∷ []

two_links : links_in (page 0 1 5) mappings 4 ≡ link (page 0 0 4061) 90 ∷ link (page 0 0 4063) 91 ∷ []
two_links = refl

first_link_alone : links_in (page 0 1 5) mappings 3 ≡ link (page 0 0 4061) 90 ∷ []
first_link_alone = refl

one_change : changes_in ((record { page = page 0 0 4061; slot = 7 }, Zero) ∷ []) (page 0 0 4061) 9 ≡ slot ∷ []
one_change = refl

none_of_another_page : changes_in ((record { page = page 0 0 4061; slot = 7 }, Zero) ∷ []) (page 0 0 4062) 9 ≡ []
none_of_another_page = refl
