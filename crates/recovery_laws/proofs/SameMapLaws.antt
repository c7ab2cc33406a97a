-- Two images whose linked pages say the same have the same map.
use Rattle.std.proofs.Common.{ℕ, zero, suc, ◌≡◌, ◌+◌, ◌-◌, ◌<◌, ◌&&◌, nat_lt, Bool, true, false, if◌then◌else◌, List, Option, Some, None, refl, sym, ◌∙◌, ap, ap₂, inl, inr, arith}
use Rattle.std.proofs.Math.Nat.{mod-lt}
use Rattle.std.proofs.lemmas.Bool.{lt-ltb, ltb-true}
use Rattle.blk_base.specs.declared.geometry.Geometry.{Geometry}
use Rattle.blk_base.specs.declared.journal_entry.CommittedEntry.{CommittedEntry}
use Rattle.blk_base.specs.declared.place.Mapping.{Mapping}
use Rattle.blk_base.specs.declared.place.Mapping.TheVariants.{Unmapped}
use Rattle.blk_base.specs.declared.place.PageId.{PageId}
use Rattle.blk_base.specs.declared.place.Pbn.{Pbn}
use Rattle.blk_base.specs.declared.sizes.TheConstants.{PAGE_SLOTS, TREES}
use Rattle.blk_base.specs.Pages.{above, slot_of, leaf_of, slot_of_address}
use Rattle.disk_model.specs.Log.{Blocks}
use Rattle.image_model.specs.Counts.{HasMappings, leads_to, mapped_below}
use Rattle.image_model.specs.Maps.{Image, HaveSameMap, IsTreePage, linked_at, mapping_of, page_at, says, target_of}
use Rattle.image_model.specs.Pages.{address_count}
use Rattle.image_model.specs.Sound.{AreUnshared}
use Rattle.plain_laws.specs.Sums.{bit}

-- the block of a page of the image's trees and levels
pub at_links : (image : Image) (page : PageId) → page.tree < TREES → page.level < image.geometry.height
    → page_at image page ≡ linked_at image (image.geometry.height - 1 - page.level) page
at_links image page tree level =
    ap₂ (λ (b c : Bool). if b && c then linked_at image (image.geometry.height - 1 - page.level) page else None)
    (lt-ltb page.tree TREES tree) (lt-ltb page.level image.geometry.height level)

-- Where two options are the same, and what follows of each block is too.

led_alike : (o o' : Option Pbn) (f f' : Pbn → Mapping) → o ≡ o' → ((at : Pbn) → o' ≡ Some at → f at ≡ f' at)
    → ◌≡◌ {A = Option Pbn} (elim o [ Some at ↦ target_of (f at) | None ↦ None ]) (elim o' [ Some at ↦ target_of (f' at) | None ↦ None ])
led_alike (Some a) (Some b) f f' same each = let one : a ≡ b = cc same in ap (λ (at : Pbn). target_of (f at)) one ∙ ap target_of (each b refl)
led_alike (Some a) None f f' same each = absurd (cc same)
led_alike None (Some b) f f' same each = absurd (cc same)
led_alike None None f f' same each = refl

said_alike : (o o' : Option Pbn) (f f' : Pbn → Mapping) → o ≡ o' → ((at : Pbn) → o' ≡ Some at → f at ≡ f' at)
    → ◌≡◌ {A = Mapping} (elim o [ Some at ↦ f at | None ↦ Unmapped ]) (elim o' [ Some at ↦ f' at | None ↦ Unmapped ])
said_alike (Some a) (Some b) f f' same each = let one : a ≡ b = cc same in ap f one ∙ each b refl
said_alike (Some a) None f f' same each = absurd (cc same)
said_alike None (Some b) f f' same each = absurd (cc same)
said_alike None None f f' same each = refl

guarded_alike : (b c : Bool) (o o' : Option Pbn) → (b ≡ true → c ≡ true → o ≡ o') → (if b && c then o else None) ≡ (if b && c then o' else None)
guarded_alike true true o o' same = same refl refl
guarded_alike true false o o' same = refl
guarded_alike false c o o' same = refl

module _ (g : Geometry) (blocks blocks' : Blocks) (window window' : List CommittedEntry) where
  abbrev pub old : Image
  old = record { geometry = g; blocks = blocks; window = window }

  abbrev pub new : Image
  new = record { geometry = g; blocks = blocks'; window = window' }

  module _ (same_says : (page : PageId) (at : Pbn) (slot : ℕ) → page_at old page ≡ Some at → slot < PAGE_SLOTS → says new page at slot ≡ says old page at slot) where
    same_links : (links : ℕ) (page : PageId) → page.tree < TREES → page.level + links + 1 ≡ g.height → linked_at new links page ≡ linked_at old links page
    same_links zero page tree level = refl
    same_links (suc links) page tree level =
        led_alike (linked_at new links (above page)) (linked_at old links (above page))
        (λ at. says new (above page) at (slot_of page)) (λ at. says old (above page) at (slot_of page))
        (same_links links (above page) tree (omega (arith, level)))
        (λ at there.
        let number : g.height - 1 - (page.level + 1) ≡ links = omega (arith, level) in
        same_says (above page) at (slot_of page)
        (at_links old (above page) tree (omega (arith, level)) ∙ ap (λ (n : ℕ). linked_at old n (above page)) number ∙ there)
        (mod-lt page.index (omega arith)))

    pub same_page : (page : PageId) → page_at new page ≡ page_at old page
    same_page page =
        guarded_alike (nat_lt page.tree TREES) (nat_lt page.level g.height) (linked_at new (g.height - 1 - page.level) page) (linked_at old (g.height - 1 - page.level) page)
        (λ tree level.
        let below = ltb-true page.level g.height level in
        same_links (g.height - 1 - page.level) page (ltb-true page.tree TREES tree) (omega (arith, below)))

    pub same_mapping : (address : ℕ) → mapping_of new address ≡ mapping_of old address
    same_mapping address =
        said_alike (page_at new (leaf_of address)) (page_at old (leaf_of address))
        (λ at. says new (leaf_of address) at (slot_of_address address)) (λ at. says old (leaf_of address) at (slot_of_address address))
        (same_page (leaf_of address))
        (λ at there. same_says (leaf_of address) at (slot_of_address address) there (mod-lt address (omega arith)))

    pub same_map : HaveSameMap old new
    same_map = record { pages = λ page. sym (same_page page); mappings = λ address. sym (same_mapping address) }

    pub tree_page : (at : Pbn) → IsTreePage new at → IsTreePage old at
    tree_page at (page, below, there) = (page, below, sym (same_page page) ∙ there)

    pub tree_page_again : (at : Pbn) → IsTreePage old at → IsTreePage new at
    tree_page_again at (page, below, there) = (page, below, same_page page ∙ there)

    same_below : (block : Pbn) (n : ℕ) → mapped_below (mapping_of new) block n ≡ mapped_below (mapping_of old) block n
    unfolding mapped_below
    same_below block zero = refl
    same_below block (suc n) = ap₂ (λ (m : Mapping) (k : ℕ). bit (leads_to block m) + k) (same_mapping n) (same_below block n)

    pub same_mappings : (block : Pbn) (count : ℕ) → HasMappings old block count → HasMappings new block count
    same_mappings block count has = record {
      pages = has.pages;
      one_page = elim has.one_page [
        | inl one ↦ inl (one.0, tree_page_again block one.1)
        | inr none ↦ inr (none.0, λ is. none.1 (tree_page block is))
      ];
      sum = has.sum ∙ ap (λ (n : ℕ). n + has.pages) (sym (same_below block (address_count g)));
    }

    pub still_unshared : AreUnshared old → AreUnshared new
    still_unshared apart at address is mapped = apart at address (tree_page at is) (sym (same_mapping address) ∙ mapped)
