use Rattle.std.proofs.Common.{ℕ, zero, suc, ◌≡◌, ◌≢◌, ◌<◌, ◌≤◌, ◌+◌, ◌-◌, ◌/◌, ◌%◌, ◌^◌, ◌∙◌, ◌⊎◌, List, [], ◌∷◌, ◌++◌, slice_index_or, replicate, refl, ap, sym, subst, inl, inr, arith, set, get_or, length}
use Rattle.std.specs.Prelude.{All, Contains}
use Rattle.std.proofs.lemmas.Bool.{cases_eq}
use Rattle.std.proofs.lemmas.Bool.Decides.{leb_tells}
use Rattle.std.proofs.lemmas.List.{get_or-set_same, get_or-set_other, get_or-replicate, length-replicate}
use Rattle.std.proofs.Math.ListN.{get_or-eq_default}
use Rattle.blk_base.specs.declared.place.Mapping.{Mapping}
use Rattle.blk_base.specs.declared.place.Mapping.TheVariants.{Unmapped, At}
use Rattle.blk_base.specs.declared.place.PageId.{PageId}
use Rattle.blk_base.specs.declared.place.Pbn.{Pbn}
use Rattle.blk_base.specs.declared.opened.OpenedPage.{OpenedPage}
use Rattle.blk_base.proofs.PageIdLaws.{same_page}
use Rattle.blk_base.specs.Pages.{above, slot_of}
use Rattle.page_codec.specs.Grammar.{AreHeld}
use Rattle.page_codec.proofs.HeldLaws.{held_unmapped, held-set}
use Rattle.block_map_tree.specs.declared.forms.Forest.{Forest}
use Rattle.block_map_tree.specs.Pages.{IsTreeOf, IsInner, IsRoot, IsLower}
use Rattle.block_map_tree.specs.OpenedTree.{IsOpened, IsListed, IsLed, IsPlaced}
use Rattle.part_tests.specs.declared.trees.TheConstants.{FOREST, GEOMETRY}
use Rattle.part_tests.proofs.trees.small_pages.Goals as goal

all_three : (P : OpenedPage → Type 0) (a b c : OpenedPage) → P a → P b → P c → All P (a ∷ b ∷ c ∷ [])
all_three P a b c pa pb pc zero d below = pa
all_three P a b c pa pb pc (suc zero) d below = pb
all_three P a b c pa pb pc (suc (suc zero)) d below = pc
all_three P a b c pa pb pc (suc (suc (suc k))) d below = absurd (omega arith)

once_three : (a b c : OpenedPage) → a.page ≢ b.page → a.page ≢ c.page → b.page ≢ c.page → (i j : ℕ) (d : OpenedPage) → i < j → j < 3
    → (slice_index_or (a ∷ b ∷ c ∷ []) i d).page ≡ (slice_index_or (a ∷ b ∷ c ∷ []) j d).page → ⊥
once_three a b c ab ac bc zero zero d less inside same = absurd (omega arith)
once_three a b c ab ac bc zero (suc zero) d less inside same = ab same
once_three a b c ab ac bc zero (suc (suc zero)) d less inside same = ac same
once_three a b c ab ac bc (suc i) zero d less inside same = absurd (omega arith)
once_three a b c ab ac bc (suc i) (suc zero) d less inside same = absurd (omega arith)
once_three a b c ab ac bc (suc zero) (suc (suc zero)) d less inside same = bc same
once_three a b c ab ac bc (suc (suc i)) (suc (suc zero)) d less inside same = absurd (omega arith)
once_three a b c ab ac bc i (suc (suc (suc j))) d less inside same = absurd (omega arith)

abbrev root_of : ℕ → PageId
root_of tree = record { tree = tree; level = 2; index = 0 }

abbrev middle_page : PageId
middle_page = record { tree = 0; level = 1; index = 0 }

blank_at : (slot : ℕ) → get_or (replicate 812 Unmapped) slot Unmapped ≡ Unmapped
blank_at slot = elim (leb_tells 812 slot) [
  | inl past ↦ get_or-eq_default (replicate 812 Unmapped) Unmapped {n = slot} (let p = past.1 in let size = length-replicate 812 Unmapped in omega arith)
  | inr inside ↦ get_or-replicate 812 slot Unmapped Unmapped inside.1
]

-- where one slot leads to a block, a slot that leads to one is this
one_slot : (mappings : List Mapping) (slot other : ℕ) (block at : Pbn) → mappings ≡ set (replicate 812 Unmapped) slot (At block)
    → get_or mappings other Unmapped ≡ At at → other ≡ slot
one_slot mappings slot other block at is leads =
    elim (cases_eq other slot) [
      | inl same ↦ same
      | inr apart ↦ absurd (let none = sym leads ∙ ap (λ (ms : List Mapping). get_or ms other Unmapped) is ∙ get_or-set_other (replicate 812 Unmapped) slot other (At block) Unmapped apart ∙ blank_at other in cc)
    ]

-- the parts of the opening
record AreThree (a b c : OpenedPage) : Type 0 where
  root : a.page ≡ root_of 0
  middle : b.page ≡ middle_page
  other : c.page ≡ root_of 30
  at_root : a.at.0 ≡ 9
  at_middle : b.at ≡ record { 0 = 90 }
  at_other : c.at.0 ≡ 39
  first : a.mappings ≡ set (replicate 812 Unmapped) 0 (At (record { 0 = 90 }))
  second : b.mappings ≡ set (replicate 812 Unmapped) 5 (At (record { 0 = 91 }))
  third : c.mappings ≡ replicate 812 Unmapped

is_root : (page : PageId) (tree : ℕ) → tree < 60 → tree % 30 ≡ 0 → page ≡ root_of tree → IsRoot FOREST page
is_root page tree small own is = subst (λ (p : PageId). IsRoot FOREST p) (sym is) (record { tree = record { inside = small; own = own }; level = refl; index = refl })

is_lower : (page : PageId) → page ≡ middle_page → IsLower FOREST page
is_lower page is = subst (λ (p : PageId). IsLower FOREST p) (sym is) (record { tree = record { inside = omega arith; own = refl }; level = omega arith; index = omega arith })

held_one : (level slot block : ℕ) (mappings : List Mapping) → 85 ≤ block → block < 149 → mappings ≡ set (replicate 812 Unmapped) slot (At (record { 0 = block }))
    → AreHeld GEOMETRY level mappings
held_one level slot block mappings low high is =
    subst (λ (ms : List Mapping). AreHeld GEOMETRY level ms) (sym is)
    (held-set GEOMETRY level slot (replicate 812 Unmapped) (At (record { 0 = block })) (held_unmapped GEOMETRY level)
    (record { slab = 0; offset = block - 85; inside = (omega arith, omega arith); stands = omega arith }, omega arith))

led : (a b c : OpenedPage) → AreThree a b c → (page : PageId) (at : Pbn) → IsInner FOREST page → (parent : OpenedPage) (k : ℕ) → k < 3
    → slice_index_or (a ∷ b ∷ c ∷ []) k parent ≡ parent → parent.page ≡ above page → slice_index_or parent.mappings (slot_of page) Unmapped ≡ At at
    → IsListed (a ∷ b ∷ c ∷ []) page
led a b c are page at inner parent zero inside is named leads =
    let slot = one_slot a.mappings 0 (slot_of page) (record { 0 = 90 }) at are.first (ap (λ (o : OpenedPage). slice_index_or o.mappings (slot_of page) Unmapped) is ∙ leads) in
    let up = sym are.root ∙ ap (λ (o : OpenedPage). o.page) is ∙ named in
    let tree = ap (λ (p : PageId). p.tree) up in
    let level = ap (λ (p : PageId). p.level) up in
    let index = ap (λ (p : PageId). p.index) up in
    (b, (1, omega arith, refl), are.middle ∙ same_page middle_page page (omega arith) (omega arith) (omega arith))
led a b c are page at inner parent (suc zero) inside is named leads =
    let level = ap (λ (p : PageId). p.level) (sym are.middle ∙ ap (λ (o : OpenedPage). o.page) is ∙ named) in
    let low = inner.level in
    absurd (omega arith)
led a b c are page at inner parent (suc (suc zero)) inside is named leads =
    absurd (let none = sym leads ∙ ap (λ (o : OpenedPage). slice_index_or o.mappings (slot_of page) Unmapped) (sym is) ∙ ap (λ (ms : List Mapping). get_or ms (slot_of page) Unmapped) are.third ∙ blank_at (slot_of page) in cc)
led a b c are page at inner parent (suc (suc (suc k))) inside is named leads = absurd (omega arith)

rooted : (a b c : OpenedPage) → AreThree a b c → (page : PageId) → IsRoot FOREST page → IsListed (a ∷ b ∷ c ∷ []) page
rooted a b c are page root =
    let inside = root.tree.inside in
    let own = root.tree.own in
    let level = root.level in
    let index = root.index in
    elim (cases_eq page.tree 0) [
      | inl first ↦ (a, (0, omega arith, refl), are.root ∙ same_page (root_of 0) page (sym first) (omega arith) (sym index))
      | inr later ↦ (c, (2, omega arith, refl), are.other ∙ same_page (root_of 30) page (omega arith) (omega arith) (sym index))
    ]

are_opened : (a b c : OpenedPage) → AreThree a b c → IsOpened FOREST (a ∷ b ∷ c ∷ [])
are_opened a b c are =
    let root_a = is_root a.page 0 (omega arith) refl are.root in
    let root_c = is_root c.page 30 (omega arith) refl are.other in
    let lower = is_lower b.page are.middle in
    record {
      once = once_three a b c
          (λ same. let two = ap (λ (p : PageId). p.level) (sym are.root ∙ same ∙ are.middle) in omega arith)
          (λ same. let two = ap (λ (p : PageId). p.tree) (sym are.root ∙ same ∙ are.other) in omega arith)
          (λ same. let two = ap (λ (p : PageId). p.level) (sym are.middle ∙ same ∙ are.other) in omega arith);
      inner = all_three (λ o. IsTreeOf FOREST o.page.tree → IsInner FOREST o.page) a b c
          (λ own. record { level = let l = ap (λ (p : PageId). p.level) are.root in omega arith; there = inl root_a })
          (λ own. record { level = let l = ap (λ (p : PageId). p.level) are.middle in omega arith; there = inr lower })
          (λ own. record { level = let l = ap (λ (p : PageId). p.level) are.other in omega arith; there = inl root_c });
      placed = all_three (λ o. IsTreeOf FOREST o.page.tree → IsPlaced FOREST (a ∷ b ∷ c ∷ []) o) a b c
          (λ own. inl (root_a, are.at_root ∙ (let t = ap (λ (p : PageId). p.tree) are.root in omega arith)))
          (λ own. inr (
            lower,
            record {
              parent = a;
              listed = (0, omega arith, refl);
              named = are.root ∙ ap above (sym are.middle);
              leads = ap (λ (p : PageId). slice_index_or a.mappings (slot_of p) Unmapped) are.middle
                  ∙ ap (λ (ms : List Mapping). get_or ms 0 Unmapped) are.first
                  ∙ get_or-set_same (replicate 812 Unmapped) 0 (At (record { 0 = 90 })) Unmapped (let size = length-replicate 812 Unmapped in omega arith)
                  ∙ ap (λ (p : Pbn). At p) (sym are.at_middle);
            },
          ))
          (λ own. inl (root_c, are.at_other ∙ (let t = ap (λ (p : PageId). p.tree) are.other in omega arith)));
      held = all_three (λ o. IsTreeOf FOREST o.page.tree → AreHeld GEOMETRY o.page.level o.mappings) a b c
          (λ own. held_one a.page.level 0 90 a.mappings (omega arith) (omega arith) are.first)
          (λ own. held_one b.page.level 5 91 b.mappings (omega arith) (omega arith) are.second)
          (λ own. subst (λ (ms : List Mapping). AreHeld GEOMETRY c.page.level ms) (sym are.third) (held_unmapped GEOMETRY c.page.level));
      roots = rooted a b c are;
      linked = λ page at inner is. led a b c are page at inner is.parent is.listed.0 is.listed.1 is.listed.2 is.named is.leads;
    }

pub returns : goal.returns
returns c =
    let a = c.leading.result in
    let b = c.leading-2.result in
    let d = c.blank_root.result in
    let items : c.push_reserved-3.new.self.items ≡ a ∷ b ∷ d ∷ [] =
    c.push_reserved-3.ensures.items ∙ ap (λ (os : List OpenedPage). os ++ d ∷ []) (c.push_reserved-2.ensures.items
    ∙ ap (λ (os : List OpenedPage). os ++ b ∷ []) (c.push_reserved.ensures.items ∙ ap (λ (os : List OpenedPage). os ++ a ∷ []) c.in_ok-pages.ensures.items)) in
    subst (λ (os : List OpenedPage). IsOpened FOREST os) (sym items) (are_opened a b d (record {
      root = c.leading.ensures.page ∙ c.page_at-root.ensures;
      middle = c.leading-2.ensures.page ∙ c.page_at-middle.ensures;
      other = c.blank_root.ensures.page;
      at_root = ap (λ (p : Pbn). p.0) c.leading.ensures.at;
      at_middle = c.leading-2.ensures.at;
      at_other = c.blank_root.ensures.at;
      first = c.leading.ensures.leads;
      second = c.leading-2.ensures.leads;
      third = c.blank_root.ensures.leads;
    }))
