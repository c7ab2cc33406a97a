-- Who makes a page, and is served at its home, makes one that is being made there; and each page is made at its home alone.
use Rattle.std.proofs.Common.{◌+◌, length, ◌≡◌, ℕ, ◌%◌, Option, Some, List, ◌∷◌, slice_get, refl, ap, sym, ◌∙◌, subst, arith}
use Rattle.core_laws.proofs.Common.{AllByRecursion, Balanced, DataOk, Each, Item, ItemOk, LogicalZone, Phase, Session, Sizes, Trace, Vio, Zone, ZoneData, ZoneOk, bit, every-map, given, logical_number, of_vio, total, total-get, total_alone, weight, zone_number, zone_of}
use Rattle.blk_base.specs.declared.place.PageId.{PageId}
use Rattle.block_map_tree.specs.Tree.{IsLinkable}
use Rattle.data_vio.specs.Phases.{phase_rule}
use Rattle.data_vio.specs.declared.items.Item.TheVariants as item
use Rattle.data_vio.specs.declared.items.Phase.TheVariants as phase
use Rattle.core_model.proofs.TreeLinks.{page_itself}
use Rattle.core_model.specs.declared.zones.ZoneData.TheVariants as at
use Rattle.core_model.specs.Facts.{CarriesFor, CarriesPage}
use Rattle.core_model.specs.LogicalFacts.{MakesPage}
use Rattle.core_model.specs.Tokens.{is_same, making_at, making_token}
use Rattle.core_laws.proofs.logical.PageFacts.{lacked_path, tree_home}
use Rattle.core_laws.proofs.tokens.Known.{MadeIn}
use Rattle.core_laws.proofs.tokens.Owners.{at_home, home_of}
use Rattle.core_laws.proofs.tokens.PageTokens.{times_apart}

-- the number of the logical zone of a page
abbrev pub page_home : Sizes → PageId → ℕ
page_home sizes page = logical_number (page.tree % sizes.zones)

-- a write that makes a page has the lock of its address, and lacks the page
pub is_making : (s : Session) (t : Trace) (v : Vio) (page : PageId) (q : Phase) → CarriesPage s t v page q → MakesPage s t v page
is_making s t v page phase.Claim k = k.0
is_making s t v page phase.Withdraw k = k.0
is_making s t v page phase.Store k = k.0
is_making s t v page phase.Enter k = k.0
is_making s t v page phase.Pending k = k.0
is_making s t v page phase.Count k = k.0
is_making s t v page phase.Settle k = k.0
is_making s t v page phase.AbortClaim k = k.0
is_making s t v page phase.Abort k = k.0
is_making s t v page phase.AbortEnteredClaim k = k.0
is_making s t v page phase.AbortEntered k = k.0
is_making s t v page other k = absurd k

-- so its own home is the page's
pub maker_home : (s : Session) (t : Trace) (v : Vio) (page : PageId) → MakesPage s t v page → page.tree % s.sizes.zones ≡ zone_of s.sizes.zones v.at.0
maker_home s t v page making =
    ap (λ (p : PageId). p.tree % s.sizes.zones) (lacked_path s.sizes.geometry.height v.asks v.at v.bytes page making.is_write making.lacked).0

module _ (s : Session) (t : Trace) (page : PageId) where
  pub none_elsewhere : (j : ℕ) (d : ZoneData) → DataOk s t j d → (j ≡ page_home s.sizes page → ⊥) → making_at page d ≡ 0
  none_elsewhere j (at.Logical l) own ne =
      times_apart page l.making (every-map {P = IsLinkable l.tree} {Q = λ p. p ≡ page → ⊥}
      (λ p linkable is. ne (own.number_is ∙ ap logical_number (sym (tree_home s l.zone l.tree t p own.lists.tree_is linkable) ∙ ap (λ (q : PageId). q.tree % s.sizes.zones) is))) l.making own.sound.pages.linkable)
  none_elsewhere j other own ne = refl

  -- From the balance of its makers: the front of a logical zone that makes it makes one that is being made there.
  pub made_front : (zones : List Zone) (n : ℕ) (z : Zone) (l : LogicalZone) (v : Vio) (rest : List Item) → Each (ZoneOk s t) zones → Balanced (making_token page) zones
      → slice_get zones n ≡ Some z → z.ports.inbox ≡ item.Request v ∷ rest → z.keeps ≡ at.Logical l → v.page ≡ Some page → MadeIn l page
  made_front zones n z l v rest each balance had front keeps is_page =
      let ok = each n z had in
      let own = subst (λ (d : ZoneData). DataOk s t n d) keeps ok.own in
      let first = (subst (λ (items : List Item). AllByRecursion (ItemOk s t n) items) front ok.inbox).0 in
      let home : n ≡ home_of s v.at.0 = at_home s.sizes n l.zone v.home (length v.tickets + v.place) v.claim v.tickets (phase_rule v.phase).zone own.number_is own.sound.among first.2 ∙ ap (zone_number s.sizes) first.0.home in
      let carries : CarriesPage s t v page v.phase = subst (λ (o : Option PageId). CarriesFor s t v v.phase o) is_page first.1 in
      let there : n ≡ page_home s.sizes page = home ∙ ap logical_number (sym (maker_home s t v page (is_making s t v page v.phase carries))) in
      let gave : total (given (making_token page)) zones ≡ making_at page (at.Logical l) =
      total_alone (given (making_token page)) zones n z had (λ j y k ne. none_elsewhere j y.keeps (each j y k).own (λ q. ne (q ∙ sym there))) ∙ ap (making_at page) keeps
      in
      let one : bit (is_same page v.page) ≡ 1 = ap (λ (o : Option PageId). bit (is_same page o)) is_page ∙ ap bit (page_itself page) in
      let inbox = ap (total (of_vio (λ (u : Vio). bit (is_same page u.page)))) front in
      let here = total-get (weight (making_token page)) zones n z had in
      let once = own.sound.pages.once page in
      omega (arith, gave, one, inbox, here, once, balance)
