-- As many pages are made at most as requests are under way: each has a maker of its own.
use Rattle.std.proofs.Common.{◌≡◌, ℕ, ◌+◌, ◌*◌, ◌≤◌, true, Option, None, Some, List, [], ◌∷◌, length, slice_get, refl, ap, subst, inl, inr, arith}
use Rattle.core_laws.proofs.Common.{AllByRecursion, DataOk, Item, LogicalZone, Session, Vio, Zone, ZoneData, bit, cases_Bool, every-map, given, room_token, total, total-get, weight}
use Rattle.blk_base.specs.declared.place.PageId.{PageId}
use Rattle.image_model.specs.Pages.{is_page}
use Rattle.data_vio.specs.declared.items.Item.TheVariants as item
use Rattle.core_model.specs.declared.zones.ZoneData.TheVariants as at
use Rattle.core_model.specs.Legal.{Legal}
use Rattle.core_model.specs.Steps.{Core}
use Rattle.core_model.specs.Tokens.{is_same, kept_items, making_at, making_token}
use Rattle.core_model.proofs.TreeLinks.{page_is, page_itself}
use Rattle.core_laws.proofs.logical.PageLists.{times}
use Rattle.core_limits.proofs.Rooms.{all_requests, carried}

-- sums of sums, in either order
total_plus : {X : Type 0} (f g : X → ℕ) (xs : List X) → total (λ x. f x + g x) xs ≡ total f xs + total g xs
total_plus f g [] = refl
total_plus f g (x ∷ xs) = omega (arith, total_plus f g xs)

total_nothing : {X : Type 0} (xs : List X) → total (λ (x : X). 0) xs ≡ 0
total_nothing [] = refl
total_nothing (x ∷ xs) = omega (arith, total_nothing xs)

-- where so much at most comes to each of some things, no more comes to all
each_most : {X Y : Type 0} (f : X → Y → ℕ) (g : Y → ℕ) (xs : List X) (ys : List Y) → ((y : Y) → total (λ x. f x y) xs ≤ g y) → total (λ x. total (f x) ys) xs ≤ total g ys
each_most f g xs [] most = omega (arith, total_nothing xs)
each_most f g xs (y ∷ ys) most =
    let here = most y in
    omega (arith, total_plus (λ x. f x y) (λ x. total (f x) ys) xs, here, each_most f g xs ys most)

-- a page is listed where it stands
each_listed : (pages : List PageId) → AllByRecursion (λ (p : PageId). 1 ≤ times p pages) pages
each_listed [] = tt
each_listed (page ∷ pages) = (
  let own = ap bit (page_itself page) in omega (arith, own),
  every-map {P = λ (p : PageId). 1 ≤ times p pages} {Q = λ (p : PageId). 1 ≤ times p (page ∷ pages)} (λ p some. omega (arith, some)) pages (each_listed pages),
)

length_most : {X : Type 0} (f : X → ℕ) (xs : List X) → AllByRecursion (λ x. 1 ≤ f x) xs → length xs ≤ total f xs
length_most f [] all = omega arith
length_most f (x ∷ xs) all = let here = all.0 in omega (arith, here, length_most f xs all.1)

module _ (pages : List PageId) (once : (page : PageId) → times page pages ≤ 1) where
  turned_round : (p q : PageId) → bit (is_page q p) ≤ bit (is_page p q)
  turned_round p q = elim (cases_Bool (is_page q p)) [
    | inl same ↦ let back : is_page p q ≡ true = subst (λ (r : PageId). is_page r q ≡ true) (page_is q p same) (page_itself q) in rw (same, back) (omega arith)
    | inr apart ↦ rw apart (omega arith)
  ]

  all_turned : (q : PageId) (ps : List PageId) → total (λ p. bit (is_same p (Some q))) ps ≤ times q ps
  all_turned q [] = omega arith
  all_turned q (p ∷ ps) = omega (arith, turned_round p q, all_turned q ps)

  -- a request makes one of them at most
  maker_most : (o : Option PageId) → total (λ p. bit (is_same p o)) pages ≤ 1
  maker_most None = omega (arith, total_nothing pages)
  maker_most (Some q) = let most = once q in omega (arith, all_turned q pages, most)

  item_most : (it : Item) → total (λ p. (making_token p).item it) pages ≤ room_token.item it
  item_most (item.Request v) = maker_most v.page
  item_most (item.Block b) = each_most (λ (p : PageId) (v : Vio). bit (is_same p v.page)) (λ v. 1) pages b.vios (λ v. maker_most v.page)
  item_most other = omega (arith, total_nothing pages)

  items_most : (items : List Item) → total (λ p. total (making_token p).item items) pages ≤ total room_token.item items
  items_most items = each_most (λ (p : PageId). (making_token p).item) room_token.item pages items item_most

  zone_most : (z : Zone) → total (λ p. weight (making_token p) z) pages ≤ carried room_token z
  zone_most z =
      let lanes = each_most (λ (p : PageId) (lane : List Item). total (making_token p).item lane) (total room_token.item) pages z.ports.outboxes items_most in
      let both = total_plus (λ p. total (making_token p).item z.ports.inbox + total (total (making_token p).item) z.ports.outboxes) (λ p. total (making_token p).item (kept_items z.keeps) + 0) pages in
      let ports = total_plus (λ p. total (making_token p).item z.ports.inbox) (λ p. total (total (making_token p).item) z.ports.outboxes) pages in
      let kept = total_plus (λ p. total (making_token p).item (kept_items z.keeps)) (λ p. 0) pages in
      omega (arith, lanes, items_most z.ports.inbox, items_most (kept_items z.keeps), both, ports, kept, total_nothing pages)

  zones_most : (zones : List Zone) → total (λ p. total (weight (making_token p)) zones) pages ≤ total (carried room_token) zones
  zones_most zones = each_most (λ (p : PageId) (z : Zone). weight (making_token p) z) (carried room_token) pages zones zone_most

-- of a zone in a legal core
pub makers_few : (s : Session) (core : Core) (legal : Legal s core) (n : ℕ) (z : Zone) (l : LogicalZone) → slice_get core.zones n ≡ Some z → z.keeps ≡ at.Logical l → length l.making ≤ length s.script * s.sizes.depth
makers_few s core legal n z l had keeps =
    let own = subst (λ (d : ZoneData). DataOk s core.trace n d) keeps (legal.each n z had).own in
    let each = every-map {P = λ (p : PageId). 1 ≤ times p l.making} {Q = λ (p : PageId). 1 ≤ total (weight (making_token p)) core.zones} made l.making (each_listed l.making) in
    omega (arith, length_most (λ p. total (weight (making_token p)) core.zones) l.making each, zones_most l.making own.sound.pages.once core.zones, all_requests s core legal)
  where
    made : (p : PageId) → 1 ≤ times p l.making → 1 ≤ total (weight (making_token p)) core.zones
    made p some =
        let here = total-get (given (making_token p)) core.zones n z had in
        let same = ap (making_at p) keeps in
        let balance = legal.making p in
        omega (arith, some, here, same, balance)
