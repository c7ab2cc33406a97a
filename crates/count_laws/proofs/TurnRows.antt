-- Turns, and the numbers of mappings after them: for each clause a case that it accepts and one that it refuses. The image
-- and the entries are those of the example, which come in turn.
use Rattle.std.proofs.Common.{ℕ, ◌≡◌, List, [], ◌∷◌, Option, Result, Some, None, Ok, refl, sym, ◌∙◌, inl, inr, arith}
use Rattle.blk_base.specs.declared.journal_entry.CommittedEntry.{CommittedEntry}
use Rattle.blk_base.specs.declared.journal_entry.Entry.TheVariants.{NewPage}
use Rattle.blk_base.specs.declared.place.Mapping.TheVariants.{Unmapped, Zero, At}
use Rattle.blk_base.specs.declared.place.PageId.{PageId}
use Rattle.blk_base.specs.declared.place.Pbn.{Pbn}
use Rattle.blk_base.specs.Pages.{above}
use Rattle.disk_model.specs.Log.{Blocks}
use Rattle.blk_base.specs.declared.journal_entry.Entry.{Entry}
use Rattle.image_model.proofs.EmptyLaws.{has_nothing}
use Rattle.image_model.proofs.Example.{small}
use Rattle.image_model.specs.Counts.{leads_to, mapped_below}
use Rattle.image_model.specs.Empty.{IsEmpty}
use Rattle.image_model.specs.Maps.{Image}
use Rattle.image_model.specs.Pages.{address_count}
use Rattle.journal_stops.specs.Mapped.{mapping_after, page_after}
use Rattle.plain_laws.specs.Sums.{bit}
use Rattle.count_laws.specs.RunningCount.{RunningCount}
use Rattle.count_laws.specs.Turns.{AreInTurn, AreUnsharedAfter, ComesInTurn, HasMappingsAfter, IsLinkedAfter, IsPageAfter, IsUnusedAfter, MayLeadTo}
use Rattle.count_laws.proofs.StepLaws.{new_mapping}
use Rattle.count_laws.proofs.TurnLaws.{one_number_after, opened_mapping}
use Rattle.blk_base.specs.Regions.{IsDataBlock}
use Rattle.blk_base.specs.Forms.{page, at_point, pbn}
use Rattle.count_laws.proofs.BelowLaws.{counts_one}
use Rattle.count_laws.proofs.Example.{data_block, first_has, first_unused, fits, four, leaf, leaf_gone, one, one_maps_none, opened, remap, three, two}

-- at the limit nothing more leads to a block
at_limit : (image : Image) (older : List CommittedEntry) (block : Pbn) → HasMappingsAfter image older block 254 → MayLeadTo image older (At block) → ⊥
at_limit image older block has may = let room = may.2 254 has in omega (arith, room)

-- one below it one more does
below_limit : (image : Image) (older : List CommittedEntry) (block : Pbn) → IsDataBlock image.geometry block.0 → (IsPageAfter image older block → ⊥) → HasMappingsAfter image older block 253
    → MayLeadTo image older (At block)
below_limit image older block stands no_page has = (stands, no_page, λ count other. let same = one_number_after image older block count 253 other has in omega (arith, same))

-- a page whose parent isn't linked isn't made
parent_gone : (image : Image) (older : List CommittedEntry) (made : PageId) (at : Pbn) → page_after image older (above made) ≡ None → ComesInTurn image older (NewPage made at) → ⊥
parent_gone image older made at gone turn = let linked = turn.1.1 in absurd (cc (linked, gone))

module _ (blocks : Blocks) (empty : IsEmpty small blocks) where
  abbrev image : Image
  image = opened blocks empty

  -- What is linked, and where pages are.

  leaf_linked : IsLinkedAfter image one (page 0 0 0)
  leaf_linked = (pbn 85, refl)

  leaf_unlinked : IsLinkedAfter image [] (page 0 0 0) → ⊥
  leaf_unlinked (at, linked) = let gone = leaf_gone blocks empty in absurd (cc (linked, gone))

  page_tree : IsPageAfter image one (pbn 85)
  page_tree = (page 0 0 0, omega arith, refl)

  pages_are_leaves : (at : Pbn) (is : IsPageAfter image one at) → is.0.level ≡ 0
  pages_are_leaves at is = let below = is.1 in omega (arith, below)

  -- a root is linked, and no page that counts
  root_linked : page_after image [] (page 0 1 0) ≡ Some (pbn 9)
  root_linked = refl

  root_apart : IsPageAfter image [] (pbn 9) → ⊥
  root_apart = (first_unused blocks empty (pbn 9)).no_page

  -- Numbers of mappings: a page counts once, and each address that leads to the block once.

  none_at_first : HasMappingsAfter image [] (pbn 85) 0
  none_at_first = first_has blocks empty (pbn 85)

  page_left_out : HasMappingsAfter image one (pbn 85) 0 → ⊥
  page_left_out has = let sum = has.sum in elim has.one_page [
    | inl here ↦ (let pages = here.0 in omega (arith, sum, pages))
    | inr none ↦ none.1 page_tree
  ]

  page_counted_twice : HasMappingsAfter image one (pbn 85) 2 → mapped_below (mapping_after image one) (pbn 85) (address_count small) ≡ 0 → ⊥
  page_counted_twice has none = let sum = has.sum in elim has.one_page [
    | inl here ↦ (let pages = here.0 in omega (arith, sum, pages, none))
    | inr gone ↦ (let pages = gone.0 in omega (arith, sum, pages, none))
  ]

  mapped_to_it : mapping_after image two 5 ≡ At (pbn 86)
  mapped_to_it = refl

  address_left_out : HasMappingsAfter image two (pbn 86) 0 → ⊥
  address_left_out has =
      let inside = fits blocks empty in
      let one_of = counts_one (mapping_after image two) (pbn 86) 5 (address_count small) (omega (arith, inside)) in
      let leads : bit (leads_to (pbn 86) (mapping_after image two 5)) ≡ 1 = refl in
      let sum = has.sum in
      omega (arith, one_of, leads, sum)

  unused_at_first : IsUnusedAfter image [] (pbn 86)
  unused_at_first = first_unused blocks empty (pbn 86)

  used_by_page : IsUnusedAfter image one (pbn 85) → ⊥
  used_by_page unused = unused.no_page page_tree

  used_by_address : IsUnusedAfter image two (pbn 86) → ⊥
  used_by_address unused = unused.unmapped 5 refl

  unshared_at_first : AreUnsharedAfter image []
  unshared_at_first at address is mapped = (first_unused blocks empty at).no_page is

  -- a second leaf at the block of two addresses
  shared : AreUnsharedAfter image (at_point (NewPage (page 1 0 0) (pbn 86)) 518 ∷ three) → ⊥
  shared apart = apart (pbn 86) 5 (page 1 0 0, omega arith, refl) refl

  -- Remappings.

  unlinked_leaf : ComesInTurn image [] (remap 5 Unmapped Zero) → ⊥
  unlinked_leaf turn = leaf_unlinked turn.1

  -- the last address, in a leaf of tree 1
  abbrev last_leaf : Entry
  last_leaf = NewPage (page 1 0 0) (pbn 85)

  last_leaf_gone : page_after image [] (page 1 0 0) ≡ None
  last_leaf_gone = through (page_after image [] (page 1 0 0)) refl
    where
      through : (o : Option Pbn) → page_after image [] (page 1 0 0) ≡ o → o ≡ None
      through (Some at) there = absurd ((first_unused blocks empty at).no_page (page 1 0 0, omega arith, there))
      through None there = refl

  last_leaf_turn : ComesInTurn image [] last_leaf
  last_leaf_turn = (record { address = 999; inside = omega arith; level = omega arith; there = refl }, (pbn 10, refl), last_leaf_gone, data_block 0 (omega arith), first_unused blocks empty (pbn 85))

  last_address : ComesInTurn image (at_point last_leaf 512 ∷ []) (remap 999 Unmapped Zero)
  last_address = (omega arith, (pbn 85, refl), sym none, tt)
    where
      none : mapping_after image (at_point last_leaf 512 ∷ []) 999 ≡ Unmapped
      none = new_mapping image [] tt (record { 0 = 512 }) (page 1 0 0) (pbn 85) last_leaf_turn 999 ∙ opened_mapping image 999 ∙ (has_nothing small blocks empty).unmapped 999

  past_the_size : ComesInTurn image one (remap 1000 Unmapped Zero) → ⊥
  past_the_size turn = let inside = turn.0 in omega (arith, inside)

  wrong_old : ComesInTurn image one (remap 5 (At (pbn 86)) Zero) → ⊥
  wrong_old turn = let old = turn.2 in let none = one_maps_none blocks empty 5 in absurd (cc (old, none))

  to_nothing : ComesInTurn image one (remap 5 Unmapped Unmapped) × ComesInTurn image one (remap 5 Unmapped Zero)
  to_nothing = (
    (omega arith, leaf_linked, sym (one_maps_none blocks empty 5), tt),
    (omega arith, leaf_linked, sym (one_maps_none blocks empty 5), tt),
  )

  to_a_page : ComesInTurn image one (remap 5 Unmapped (At (pbn 85))) → ⊥
  to_a_page turn = turn.3.1 page_tree

  to_no_data : ComesInTurn image one (remap 5 Unmapped (At (pbn 84))) → ⊥
  to_no_data turn = let there = turn.3.0.stands in omega (arith, there)

  -- New pages.

  page_twice : ComesInTurn image one (NewPage (page 0 0 0) (pbn 87)) → ⊥
  page_twice turn = let none = turn.2 in absurd (cc none)

  page_at_page : ComesInTurn image one (NewPage (page 1 0 0) (pbn 85)) → ⊥
  page_at_page turn = turn.4.no_page page_tree

  page_at_mapped : ComesInTurn image three (NewPage (page 1 0 0) (pbn 86)) → ⊥
  page_at_mapped turn = turn.4.unmapped 5 refl

  page_at_no_data : ComesInTurn image [] (NewPage (page 0 0 0) (pbn 84)) → ⊥
  page_at_no_data turn = let there = turn.3.stands in omega (arith, there)

  root_again : ComesInTurn image [] (NewPage (page 0 1 0) (pbn 85)) → ⊥
  root_again turn = let low = turn.0.level in omega (arith, low)

  -- All of them: the newest, and each before it.

  pub leaf_missing : AreInTurn image (at_point (remap 5 Unmapped Zero) 512 ∷ []) → ⊥
  leaf_missing turns = unlinked_leaf turns.0

  leaf_too_late : AreInTurn image (at_point leaf 514 ∷ at_point (remap 5 Unmapped Zero) 512 ∷ []) → ⊥
  leaf_too_late turns = leaf_missing turns.1

  -- What the counts come to: by their sum, by the count in the order of points, and by the map.

  -- without entries the count is what it was
  as_before : (block : Pbn) (count : ℕ) (running : RunningCount image [] block count) → running.now ≡ count
  as_before block count running = let sum = running.sum in omega (arith, sum)

  two_by_sum : (running : RunningCount image four (pbn 86) 0) → running.now ≡ 2 → ⊥
  two_by_sum running is = let sum = running.sum in omega (arith, sum, is)

  none_by_sum : (running : RunningCount image four (pbn 86) 0) → running.now ≡ 0 → ⊥
  none_by_sum running is = let sum = running.sum in omega (arith, sum, is)

  two_by_points : (running : RunningCount image four (pbn 86) 0) → running.now ≡ 2 → ⊥
  two_by_points running is =
      let counted : ◌≡◌ {A = Result ℕ ℕ} (Ok 1) (Ok running.now) = running.counted in
      let now : 1 ≡ running.now = cc counted in
      omega (arith, now, is)

  none_by_map : (running : RunningCount image one (pbn 85) 0) → running.now ≡ 0 → ⊥
  none_by_map running is = page_left_out (record { pages = running.has.pages; one_page = running.has.one_page; sum = sym is ∙ running.has.sum })
