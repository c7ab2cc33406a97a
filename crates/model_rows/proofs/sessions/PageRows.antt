-- Pages of the block map: which are there by the opened image and by entries, and when one may be handed in, linked, or never linked. For each clause a
-- case that it accepts, and one that breaks it alone.
use Rattle.std.proofs.Common.{ℕ, zero, suc, ◌+◌, ◌<◌, ◌≡◌, false, None, Some, List, [], ◌∷◌, refl, Contains, ap, arith, inl, inr, subst, sym}
use Rattle.std.proofs.lemmas.Option.{same_Some}
use Rattle.blk_base.specs.Pages.{page_above}
use Rattle.blk_base.specs.declared.request.Request.{Request}
use Rattle.data_vio.specs.declared.logged.Logged.{Logged}
use Rattle.blk_base.specs.declared.opened.OpenedPage.{OpenedPage}
use Rattle.blk_base.specs.declared.place.Mapping.{Mapping}
use Rattle.blk_base.specs.declared.place.Mapping.TheVariants.{Unmapped, Zero, At}
use Rattle.blk_base.specs.declared.place.PageId.{PageId}
use Rattle.blk_base.specs.declared.request.Answer.TheVariants.{Stopped}
use Rattle.blk_base.specs.declared.request.Request.TheVariants as request
use Rattle.blk_base.proofs.Example.{leaf, root}
use Rattle.blk_base.specs.Forms.{lba as address, pbn as block}
use Rattle.vdo_model.specs.declared.report.DeskLine.TheVariants.{Answer}
use Rattle.data_vio.specs.declared.logged.Logged.TheVariants.{Remaps, Makes}
use Rattle.data_vio.specs.declared.logged.NewPage.{NewPage}
use Rattle.core_model.specs.PageLinks.{IsThere, MayLack, block_in, opened_page, page_in}
use Rattle.core_model.specs.RightTraces.{MayFollow}
use Rattle.core_model.specs.Sessions.{IsFair, Session}
use Rattle.core_model.specs.Trace.{Adds, Aborts, Commits, Enters, Gives, Happening, Passes, Says, Seals, Sets, Trace}
use Rattle.data_vio.specs.declared.logged.Remapping.{Remapping}
use Rattle.vdo_model.specs.declared.report.Placed.{Placed}
use Rattle.core_model.proofs.WorkedTraces.{begun, drawn, first, given, leaves, of_first, reader, second, session, sizes, stopped, took, x}

-- the leaf of address 812, and the root above it
abbrev other_leaf : PageId
other_leaf = record { tree = 1; level = 0; index = 0 }

abbrev other_root : PageId
other_root = record { tree = 1; level = 1; index = 0 }

-- opened_page: the page above, where it is one of these, leads to the page by its slot
abbrev opened : PageId → List Mapping → OpenedPage
opened page mappings = record { page = page; at = block 9; mappings = mappings }

leads : opened_page (opened root (At (block 85) ∷ []) ∷ []) leaf ≡ Some (block 85)
leads = refl

leads_behind_another : opened_page (opened other_root (At (block 86) ∷ []) ∷ opened root (At (block 85) ∷ []) ∷ []) leaf ≡ Some (block 85)
leads_behind_another = refl

leads_by_another : opened_page (opened other_root (At (block 86) ∷ []) ∷ []) leaf ≡ None
leads_by_another = refl

leads_by_its_slot : (opened_page (opened root (At (block 85) ∷ At (block 86) ∷ []) ∷ []) (record leaf { index = 1 }) ≡ Some (block 86)) × (opened_page (opened root (Unmapped ∷ At (block 86) ∷ []) ∷ []) leaf ≡ None)
leads_by_its_slot = (refl, refl)

leads_in_its_trees : opened_page (opened (record root { tree = 60 }) (At (block 85) ∷ []) ∷ []) (record leaf { tree = 60 }) ≡ None
leads_in_its_trees = refl

leads_to_no_root : opened_page (opened root (At (block 85) ∷ []) ∷ []) root ≡ None
leads_to_no_root = refl

-- block_in: only a block is one
block_alone : (block_in (At (block 85)) ≡ Some (block 85)) × (block_in Zero ≡ None) × (block_in Unmapped ≡ None)
block_alone = (refl, refl, refl)

-- page_in: an entry of the session comes before what the image links
abbrev made_at : PageId → ℕ → Logged
made_at page x = Makes (record { request = first; page = page; at = block x })

linked_again : page_in leaves (made_at other_leaf 87 ∷ made_at leaf 86 ∷ []) leaf ≡ Some (block 86)
linked_again = refl

linked_before : page_in leaves (made_at other_leaf 86 ∷ []) leaf ≡ Some (block 79)
linked_before = refl

-- IsThere: a root, or one that is linked
root_there : IsThere 2 (λ page. None) [] root
root_there = inl refl

leaf_there : IsThere 2 (λ page. None) (made_at leaf 85 ∷ []) leaf
leaf_there = inr refl

leaf_not_there : IsThere 2 (λ page. None) [] leaf → ⊥
leaf_not_there (inl level) = absurd (omega (arith, level))
leaf_not_there (inr some) = absurd cc

-- MayLack: a write lacks pages of its path, but no root; nothing else lacks one
lacks_its_leaf : MayLack 2 (request.Write (address 0) x false) leaf
lacks_its_leaf = (refl, omega arith)

lacks_no_other : MayLack 2 (request.Write (address 0) x false) other_leaf → ⊥
lacks_no_other lack = let tree : 1 ≡ 0 = ap (λ (p : PageId). p.tree) lack.0 in absurd (omega (arith, tree))

lacks_no_root : MayLack 2 (request.Write (address 0) x false) root → ⊥
lacks_no_root lack = let level = lack.1 in absurd (omega (arith, level))

read_lacks_none : MayLack 2 (request.Read (address 0)) leaf → ⊥
read_lacks_none lack = lack

discard_lacks_none : MayLack 2 (request.Discard (address 0)) leaf → ⊥
discard_lacks_none lack = lack

-- the session, with a journal that takes two blocks; and with trees of three levels
abbrev roomy : Session
roomy = record session { sizes = record sizes { geometry = record sizes.geometry { journal = 3 } } }

abbrev tall : Session
tall = record session { sizes = record sizes { geometry = record sizes.geometry { journal = 3; height = 3 } } }

abbrev May : Happening → Trace → Type 0
May h t = MayFollow roomy h t

-- the page that the first write makes
abbrev new_leaf : NewPage
new_leaf = record { request = first; page = leaf; at = block 85 }

abbrev makes : Logged
makes = Makes new_leaf

-- Its entry is handed in once, by a write that has its place and lacks it, while the page above it is there, for a data block, and where a block of
-- the journal is left for it, which has room.
enters : May (Enters makes) took
enters = record {
  is_open = record { is_begun = omega arith; unanswered = refl };
  placed = refl;
  lacked = (request.Write (address 0) x false, refl, (refl, omega arith));
  above = inl refl;
  once = refl;
  left = omega arith;
  room = omega arith;
  new_data = record { slab = 0; offset = 5; inside = (omega arith, omega arith); stands = refl };
  unused = λ fair. absurd (omega (arith, fair.opened.room));
}

enters_while_open : May (Enters makes) (Says (Answer first Stopped) ∷ took) → ⊥
enters_while_open may = let no = may.is_open.unanswered in absurd cc

enters_with_a_place : May (Enters makes) begun → ⊥
enters_with_a_place may = let no = may.placed in absurd cc

enters_what_is_lacked : May (Enters (Makes (record new_leaf { page = other_leaf }))) took → ⊥
enters_what_is_lacked may =
    let write : request.Write (address 0) x false ≡ may.lacked.0 = same_Some _ _ may.lacked.1 in
    lacks_no_other (subst (λ (r : Request). MayLack 2 r other_leaf) (sym write) may.lacked.2)

enters_for_a_write : May (Enters (Makes (record new_leaf { request = reader }))) took → ⊥
enters_for_a_write may =
    let read : request.Read (address 0) ≡ may.lacked.0 = same_Some _ _ may.lacked.1 in
    read_lacks_none (subst (λ (r : Request). MayLack 2 r leaf) (sym read) may.lacked.2)

enters_below_what_is_there : MayFollow tall (Enters makes) took → ⊥
enters_below_what_is_there may = elim may.above [ inl level ↦ absurd (omega (arith, level)) | inr some ↦ absurd cc ]

enters_once : May (Enters makes) (Enters makes ∷ took) → ⊥
enters_once may = let no = may.once in absurd cc

enters_while_a_block_is_left : MayFollow session (Enters makes) (Seals ∷ Enters (Remaps of_first) ∷ took) → ⊥
enters_while_a_block_is_left may = let left = may.left in absurd (omega (arith, left))

enters_of_a_data_block : May (Enters (Makes (record new_leaf { at = block 78 }))) took → ⊥
enters_of_a_data_block may = let is = may.new_data in let stands = is.stands in absurd (omega (arith, stands))

abbrev first_lasts : Trace
first_lasts = Commits (Remaps of_first) ∷ Enters (Remaps of_first) ∷ took

enters_a_block_that_nobody_maps : (s : Session) → IsFair s first_lasts → MayFollow s (Enters makes) first_lasts → ⊥
enters_a_block_that_nobody_maps s fair may = (may.unused fair).unmapped 0 refl

-- It is linked once, when it is committed and counted, and not where its request was aborted; it is dropped once the session is stopped.
abbrev entered : Trace
entered = Enters makes ∷ took

abbrev lasting : Trace
lasting = Commits makes ∷ Seals ∷ entered

abbrev counted : Trace
counted = Adds makes ∷ lasting

links : May (Sets makes) counted
links = record { is_open = record { is_begun = omega arith; unanswered = refl }; is_committed = (0, omega arith, refl); counted = (0, omega arith, refl); unlinked = refl; undropped = λ is. no_drop is }
  where
    no_drop : Contains {X = Logged} [] makes → ⊥
    no_drop is = omega (arith, is.1)

links_while_open : May (Sets makes) (Says (Answer first Stopped) ∷ lasting) → ⊥
links_while_open may = let no = may.is_open.unanswered in absurd cc

links_what_is_committed : May (Sets makes) (Seals ∷ entered) → ⊥
links_what_is_committed may = let is = may.is_committed in omega (arith, is.1)

links_what_is_counted : May (Sets makes) lasting → ⊥
links_what_is_counted may = let is = may.counted in omega (arith, is.1)

links_once : May (Sets makes) (Sets makes ∷ lasting) → ⊥
links_once may = let no = may.unlinked in absurd cc

drops : May (Aborts makes) (stopped entered)
drops = record { is_open = record { is_begun = omega arith; unanswered = refl }; handed_in = (0, omega arith, refl); unlinked = refl; stopped = refl }

drops_what_is_handed_in : May (Aborts makes) (stopped took) → ⊥
drops_what_is_handed_in may = let is = may.handed_in in omega (arith, is.1)

drops_after_a_stop : May (Aborts makes) entered → ⊥
drops_after_a_stop may = let no = may.stopped in absurd cc

drops_what_is_unlinked : May (Aborts makes) (stopped (Sets makes ∷ lasting)) → ⊥
drops_what_is_unlinked may = let no = may.unlinked in absurd cc

-- A discard passes once, at its place, where its leaf isn't there, and no entry of its address was handed in.
abbrev discards : Session
discards = record roomy { script = (request.Discard (address 0) ∷ []) ∷ [] }

abbrev pass : Remapping
pass = record of_first { new = Unmapped }

abbrev MayPass : Remapping → Trace → Type 0
MayPass e t = MayFollow discards (Passes e) t

passes : MayPass pass drawn
passes = record {
  is_open = record { is_begun = omega arith; unanswered = refl };
  asked = refl;
  placed = refl;
  maps = (refl, refl);
  once = refl;
  below = record { writes = tt; reads = tt };
  lacking = (0, omega arith, leaf_not_there);
  first = refl;
}

passes_while_open : MayPass pass (Says (Answer first Stopped) ∷ drawn) → ⊥
passes_while_open may = let no = may.is_open.unanswered in absurd cc

passes_as_a_discard : May (Passes pass) drawn → ⊥
passes_as_a_discard may = let asked = may.asked in absurd cc

passes_at_its_place : MayPass (record pass { place = 5 }) drawn → ⊥
passes_at_its_place may = let place : 0 ≡ 5 = ap (λ (p : Placed). p.place) (same_Some _ _ may.placed) in absurd (omega (arith, place))

passes_from_nothing : MayPass (record pass { old = Zero }) drawn → ⊥
passes_from_nothing may = let old = may.maps.0 in absurd cc

passes_to_nothing : MayPass (record pass { new = Zero }) drawn → ⊥
passes_to_nothing may = let new = may.maps.1 in absurd cc

passes_once : MayPass pass (Passes pass ∷ drawn) → ⊥
passes_once may = let no = may.once in absurd cc

passes_behind_a_read : MayPass pass (Gives (given 2) ∷ drawn) → ⊥
passes_behind_a_read may = let below = may.below.reads.0 refl in absurd (omega (arith, below))

passes_without_its_leaf : MayPass pass (Sets makes ∷ drawn) → ⊥
passes_without_its_leaf may = elim may.lacking.0 as (λ (n : ℕ). (n + 1 < 2) → (IsThere 2 (λ page. None) (makes ∷ []) (page_above n 0) → ⊥) → ⊥) [
  | zero ↦ λ low lacks. lacks (inr refl)
  | suc n ↦ λ low lacks. absurd (omega (arith, low))
] may.lacking.1 may.lacking.2

passes_before_each_entry : MayPass pass (Enters (Remaps (record pass { request = second })) ∷ drawn) → ⊥
passes_before_each_entry may = let no = may.first in absurd cc
