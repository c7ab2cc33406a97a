-- Two pages that stand don't stand at one block: so a write of one of them is none of another.
use Rattle.std.proofs.Common.{ℕ, zero, suc, ◌≡◌, ◌-◌, ◌<◌, ◌≤◌, ◌^◌, Bool, List, [], ◌∷◌, All, Some, sym, ap, subst, inl, inr, arith}
use Rattle.blk_base.specs.Limits.{IsGeometry}
use Rattle.blk_base.specs.declared.journal_entry.CommittedEntry.{CommittedEntry}
use Rattle.blk_base.specs.declared.place.PageId.{PageId}
use Rattle.blk_base.specs.declared.place.Pbn.{Pbn}
use Rattle.blk_base.specs.declared.sizes.TheConstants.{PAGE_SLOTS}
use Rattle.disk_model.specs.declared.call.Call.{Call}
use Rattle.disk_model.specs.declared.call.Call.TheVariants.{Write}
use Rattle.disk_model.specs.Log.{Blocks, contents}
use Rattle.image_model.specs.Maps.{Image, ArePagesGood, head_of}
use Rattle.page_codec.proofs.HeadLaws.{one_head}
use Rattle.page_codec.proofs.HeldLaws.{holds_block}
use Rattle.page_codec.specs.Grammar.{HasHead, IsHead}
use Rattle.vdo_model.specs.Journals.{Surely}
use Rattle.recovery_laws.proofs.WindowFacts.{IsKnown}
use Rattle.journal_stops.specs.Mapped.{page_after}
use Rattle.journal_stops.proofs.GrowLaws.{in_range}
use Rattle.disk_model.proofs.ContentLaws.{both_of, some_content}
use Rattle.count_laws.proofs.UnusedLaws.{linked_index}
use Rattle.session_stops.specs.Pages.{PagesStand, SaysTheRest}
use Rattle.session_stops.proofs.NewPages.{AreMadeNew}
use Rattle.session_stops.proofs.PagePlaces.{page_stands_after}
use Rattle.session_stops.proofs.PageSteps.{pages_stay_so}

-- The number of a linked page on its level is small.

index_small : (links n : ℕ) → links ≤ 2 → n < PAGE_SLOTS ^ links → n < 2 ^ 32
index_small zero n few below = omega (arith, below)
index_small (suc zero) n few below = omega (arith, below)
index_small (suc (suc zero)) n few below = omega (arith, below)
index_small (suc (suc (suc links))) n few below = absurd (omega (arith, few))

module _ (opened : Image) (sizes : IsGeometry opened.geometry) (named : opened.geometry.nonce < 2 ^ 64) (good : ArePagesGood opened) (last : ℕ)
    (known : All (IsKnown opened.geometry last) opened.window) (entries : List CommittedEntry) (made : AreMadeNew opened [] entries) where
  -- the numbers of its head are within their types
  pub head_fits : (page : PageId) (at : Pbn) → page_after opened entries page ≡ Some at → IsHead (head_of opened page at)
  head_fits page at linked =
      let found = in_range opened entries page at linked in
      let high = found.1 in let tree = found.0 in let levels = sizes.height in
      let links = opened.geometry.height - 1 - page.level in
      let index = index_small links page.index (omega (arith, levels)) (linked_index opened entries links page at found.2) in record {
        nonce = named;
        at = elim (page_stands_after opened good last known entries made page at linked) [
          | inl root ↦ let is = root.1 in let few = sizes.journal in omega (arith, tree, is, few)
          | inr stands ↦ (holds_block opened.geometry 0 at sizes stands).1
        ];
        page = (omega (arith, tree), omega (arith, high, levels), omega (arith, index));
      }

  module _ (opening : Blocks) (log : List Call) (window : List CommittedEntry) (stand : PagesStand opening log opened entries window) where
    pub one_page : (page other : PageId) (at at' : Pbn) → page_after opened entries page ≡ Some at → page_after opened entries other ≡ Some at' → at.0 ≡ at'.0 → page ≡ other
    one_page page other at at' linked linked' same =
        let heads = subst (λ (b : ℕ). Surely opening log b (HasHead (head_of opened other at'))) (sym same) (stand other at' linked').headed in
        let content = some_content (λ content. HasHead (head_of opened page at) content × HasHead (head_of opened other at') content) opening log at.0
        (both_of (HasHead (head_of opened page at)) (HasHead (head_of opened other at')) (contents opening log at.0) (stand page at linked).headed heads) in
        (one_head (head_of opened page at) (head_of opened other at') content.0 (head_fits page at linked) (head_fits other at' linked') content.1.0 content.1.1).2

    -- A write of a page's block, failed or not, with bytes that say what is left to the page, keeps all pages.
    pub page_written : (page : PageId) (at : Pbn) (bytes : List ℕ) (ok : Bool) → page_after opened entries page ≡ Some at → SaysTheRest opened entries window page at bytes
        → PagesStand opening (Write at bytes ok ∷ log) opened entries window
    page_written page at bytes ok linked says =
        pages_stay_so opening log opened entries window stand (Write at bytes ok)
        (λ other at' linked' same.
        let one = one_page page other at at' linked linked' same in
        let block : at ≡ at' = ap (λ (n : ℕ). record { 0 = n }) same in
        subst (λ (p : PageId). SaysTheRest opened entries window p at' bytes) one (subst (λ (x : Pbn). SaysTheRest opened entries window page x bytes) block says))
