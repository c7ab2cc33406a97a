-- Changes as a map by slots, and what one entry more puts into them.
use Rattle.std.specs.Prelude.{ℕ, ◌≡◌, ◌<◌, ◌^◌, ◌==◌, ◌&&◌, if◌then◌else◌, Bool, true, false, List, [], ◌∷◌, ◌++◌, reverse, Option, Some, None}
use Rattle.std.specs.Cmp.{unsigned_ties}
use Rattle.std.specs.Map.{lookup}
use Rattle.std.specs.Ordering.{nat_cmp, ordering_then, is_eq}
use Rattle.std.specs.declared.cmp.Ordering.{Ordering}
use Rattle.std.specs.declared.cmp.Ordering.TheVariants.{Less, Equal, Greater}
use Rattle.std.proofs.Common.{refl, sym, ◌∙◌, ap, ap₂, cond}
use Rattle.std.proofs.lemmas.Cmp.{nat_eq_equiv}
use Rattle.std.proofs.lemmas.List.{reverse-append}
use Rattle.blk_base.specs.declared.journal_entry.CommittedEntry.{CommittedEntry}
use Rattle.blk_base.specs.declared.journal_entry.Entry.{Entry}
use Rattle.blk_base.specs.declared.place.Mapping.{Mapping}
use Rattle.blk_base.specs.declared.place.PageId.{PageId}
use Rattle.blk_base.specs.Pages.{page_order}
use Rattle.image_model.specs.Maps.{or_else, put_by, put_last}
use Rattle.image_model.specs.Pages.{is_page}
use Rattle.replay_map.specs.contracts.changes.SlotIdOrd.TheImpl as slot_ord
use Rattle.replay_map.specs.Changes.{AreNewest, changed, is_slot}
use Rattle.replay_map.specs.declared.changes.SlotId.{SlotId}

-- The order of slots.

abbrev pub slot_cmp : SlotId → SlotId → Ordering
slot_cmp a b = ordering_then (page_order a.page b.page) (nat_cmp a.slot b.slot)

-- it is the one of `SlotId`
pub order_is : (a b : SlotId) → (slot_ord.ghosts).cmp a b ≡ slot_cmp a b
order_is a b = refl

pub apart_of : (x y z : Bool) → (x && (y && z)) ≡ ((x && y) && z)
apart_of true y z = refl
apart_of false y z = refl

pub both : (x y : Ordering) → is_eq (ordering_then x y) ≡ (is_eq x && is_eq y)
both Less y = refl
both Equal y = refl
both Greater y = refl

pub tie : (x y : ℕ) → is_eq (nat_cmp x y) ≡ (x == y)
tie x y = sym (unsigned_ties x y)

flipped : (x y : ℕ) → is_eq (nat_cmp x y) ≡ (y == x)
flipped x y = tie x y ∙ nat_eq_equiv.symm x y

-- two pages are alike in the order where they are one
pub pages_alike : (a b : PageId) → is_eq (page_order a b) ≡ is_page a b
pages_alike a b =
    both (nat_cmp a.tree b.tree) (ordering_then (nat_cmp a.level b.level) (nat_cmp a.index b.index))
    ∙ ap₂ (λ (p q : Bool). p && q) (tie a.tree b.tree)
    (both (nat_cmp a.level b.level) (nat_cmp a.index b.index) ∙ ap₂ (λ (p q : Bool). p && q) (tie a.level b.level) (tie a.index b.index))
    ∙ apart_of (a.tree == b.tree) (a.level == b.level) (a.index == b.index)

-- and so are two slots
pub alike : (a b : SlotId) → is_eq (slot_cmp a b) ≡ is_slot b a.page a.slot
alike a b = both (page_order a.page b.page) (nat_cmp a.slot b.slot) ∙ ap₂ (λ (p q : Bool). p && q) (pages_alike a.page b.page) (tie a.slot b.slot)

pub alike_back : (a b : SlotId) → is_eq (slot_cmp a b) ≡ is_slot a b.page b.slot
alike_back a b =
    both (page_order a.page b.page) (nat_cmp a.slot b.slot)
    ∙ ap₂ (λ (p q : Bool). p && q)
    (both (nat_cmp a.page.tree b.page.tree) (ordering_then (nat_cmp a.page.level b.page.level) (nat_cmp a.page.index b.page.index))
    ∙ ap₂ (λ (p q : Bool). p && q) (flipped a.page.tree b.page.tree)
    (both (nat_cmp a.page.level b.page.level) (nat_cmp a.page.index b.page.index)
    ∙ ap₂ (λ (p q : Bool). p && q) (flipped a.page.level b.page.level) (flipped a.page.index b.page.index))
    ∙ apart_of (b.page.tree == a.page.tree) (b.page.level == a.page.level) (b.page.index == a.page.index))
    (flipped a.slot b.slot)

-- What stands at a slot in the map is what the changes put there.

abbrev pub found : SlotId → List (SlotId × Mapping) → Option Mapping
found id changes = lookup (λ other. is_eq (slot_cmp id other)) changes

pub found_is : (id : SlotId) (changes : List (SlotId × Mapping)) → found id changes ≡ changed changes id.page id.slot
found_is id [] = refl
found_is id (change ∷ others) = ap₂ (λ (b : Bool) (o : Option Mapping). cond b (Some change.1) o) (alike id change.0) (found_is id others)

chosen : (b : Bool) (mapping : Mapping) (other : Option Mapping) → cond b (Some mapping) other ≡ or_else (if b then Some mapping else None) other
chosen true mapping other = refl
chosen false mapping other = refl

-- one entry more
pub put_more : (id : SlotId) (mapping : Mapping) (old new : List (SlotId × Mapping)) (entry : Entry)
    → ((q : SlotId) → found q new ≡ cond (is_eq (slot_cmp id q)) (Some mapping) (found q old))
    → ((page : PageId) (slot : ℕ) → put_by entry page slot ≡ (if is_slot id page slot then Some mapping else None))
    → (page : PageId) (slot : ℕ) → changed new page slot ≡ or_else (put_by entry page slot) (changed old page slot)
put_more id mapping old new entry updates puts page slot =
    let q : SlotId = record { page = page; slot = slot } in
    sym (found_is q new) ∙ updates q
    ∙ ap₂ (λ (b : Bool) (o : Option Mapping). cond b (Some mapping) o) (alike_back id q) (found_is q old)
    ∙ chosen (is_slot id page slot) mapping (changed old page slot)
    ∙ ap (λ (o : Option Mapping). or_else o (changed old page slot)) (sym (puts page slot))

-- all entries so far, and one more
pub newest_more : (before : List CommittedEntry) (committed : CommittedEntry) (old new : List (SlotId × Mapping)) → AreNewest (reverse before) old
    → ((page : PageId) (slot : ℕ) → page.level < 2 ^ 8 → changed new page slot ≡ or_else (put_by committed.entry page slot) (changed old page slot))
    → AreNewest (reverse (before ++ committed ∷ [])) new
newest_more before committed old new were more page slot inside =
    more page slot inside ∙ ap (λ (o : Option Mapping). or_else (put_by committed.entry page slot) o) (were page slot inside)
    ∙ ap (λ (window : List CommittedEntry). put_last window page slot) (sym (reverse-append before (committed ∷ [])))
