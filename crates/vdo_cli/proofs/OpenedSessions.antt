-- A session on a closed image that is sound: the image is as it was opened, whatever is read of it.
use Rattle.std.proofs.Common.{ℕ, ◌≡◌, true, Option, List, [], Ok, length, slice_index, refl, sym, ◌∙◌, ap, ap₂, subst, inl, inr, arith}
use Rattle.std.specs.List.{All}
use Rattle.blk_base.specs.Regions.{IsDataBlock, needed_blocks}
use Rattle.blk_base.specs.declared.geometry.Geometry.{Geometry}
use Rattle.blk_base.specs.declared.geometry.Super.{Super}
use Rattle.blk_base.specs.declared.journal_entry.CommittedEntry.{CommittedEntry}
use Rattle.blk_base.specs.declared.layout.DataPlace.{DataPlace}
use Rattle.blk_base.specs.declared.opened.Opened.{Opened}
use Rattle.blk_base.specs.declared.place.PageId.{PageId}
use Rattle.blk_base.specs.declared.place.Pbn.{Pbn}
use Rattle.count_laws.proofs.BelowLaws.{block_of_eq, counts_none}
use Rattle.count_updates.specs.Numbers.{block_number}
use Rattle.disk_model.specs.Log.{Blocks}
use Rattle.disk_model.specs.OneImages.{HasOneImageIn}
use Rattle.core_model.specs.PageLinks.{opened_page}
use Rattle.core_model.specs.Reports.{opening_values}
use Rattle.core_model.specs.Sessions.{IsAsOpened, Session, opened_image}
use Rattle.image_layout.specs.Opened.{super_of_image}
use Rattle.image_model.proofs.CountLaws.{one_stored}
use Rattle.image_model.proofs.LookedLaws.{one_by_sizes}
use Rattle.image_model.specs.Counts.{HasMappings, block_of_data}
use Rattle.image_model.specs.Looked.{HasOneImageButIndex, is_looked_at}
use Rattle.image_model.specs.Maps.{ArePagesGood, Image, IsTreePage, image_with, mapping_of, value_of}
use Rattle.image_model.specs.Pages.{address_count}
use Rattle.image_model.specs.Sound.{AreTrue, IsSound, image_of}
use Rattle.journal_stops.proofs.ReopenLaws.{closed_at_rest}
use Rattle.journal_stops.specs.Rings.{IsAtRest}
use Rattle.rebuild.proofs.KeptLaws.{opened_alike}
use Rattle.rebuild.specs.Openings.{IsRight, OpensRight}
use Rattle.recovery_laws.proofs.OldLaws.{mapped_is_data, page_stands}
use Rattle.recovery_laws.proofs.WindowFacts.{IsKnown}
use Rattle.recovery_laws.proofs.SuperLaws.{room_of_image}
use Rattle.recovery_laws.specs.Kept.{image_in}
use Rattle.session_opening.specs.Starts.{AreCounters}
use Rattle.zone_counts.proofs.OpenedCounts.{is_data, is_none, opened_none, opened_some, tells_data}
use Rattle.zone_counts.specs.Openings.{opened_count}
use Rattle.vdo_cli.proofs.OpenedPages.{links_are}

-- Each block has as many mappings as its counter says: what is no data block has no counter, and nothing is mapped to it.
module _ (image : Image) (counters : List ℕ) (good : ArePagesGood image) (no_window : image.window ≡ []) (are : AreCounters image counters) (counts : AreTrue image) (x : Pbn) where
  known : All (IsKnown image.geometry 0) image.window
  known k d below = absurd (omega (arith, below, ap (λ (es : List CommittedEntry). length es) no_window))

  of_data : IsDataBlock image.geometry x.0 → HasMappings image x (opened_count image.geometry counters x)
  of_data d =
      let place : DataPlace = record { slab = d.slab; offset = d.offset } in
      let is = counts place d.inside in
      let stored = slice_index counters (block_number image.geometry place) in
      let same = one_stored image place (Ok is.0) (Ok stored) is.1 (are.each place d.inside) in
      let number : is.0 ≡ stored = cc same in
      let block : block_of_data image.geometry place ≡ x = block_of_eq (block_of_data image.geometry place) x d.stands in
      subst (λ (n : ℕ). HasMappings image x n) (number ∙ sym (opened_some image.geometry counters x d)) (subst (λ (b : Pbn). HasMappings image b is.0) block is.2)

  no_page : (IsDataBlock image.geometry x.0 → ⊥) → IsTreePage image x → ⊥
  no_page outside (page, below, there) = elim (page_stands image good 0 known page x there) [
    | inl root ↦ omega (arith, below, root.0)
    | inr stands ↦ outside stands
  ]

  of_other : (IsDataBlock image.geometry x.0 → ⊥) → HasMappings image x (opened_count image.geometry counters x)
  of_other outside =
      let none = counts_none (mapping_of image) x (address_count image.geometry) (λ a is. outside (mapped_is_data image good 0 known a x is)) in
      subst (λ (n : ℕ). HasMappings image x n) (sym (opened_none image.geometry counters x outside))
      (record { pages = 0; one_page = inr (refl, no_page outside); sum = omega (arith, none) })

  pub opened_counts : HasMappings image x (opened_count image.geometry counters x)
  opened_counts = elim (tells_data image.geometry x) [ is_data told d ↦ of_data d | is_none told outside ↦ of_other outside ]

-- What was opened of a closed image.

record IsClosedRight (blocks : Blocks) (sound : IsSound blocks) (opened : Opened) : Type 0 where
  right : IsRight (image_with opened.head.geometry blocks []) opened.head opened
  head_is : sound.head ≡ opened.head
  alike : image_with opened.head.geometry blocks [] ≡ image_in blocks sound
  clean : sound.head.clean ≡ true

closed_right : (blocks : Blocks) (sound : IsSound blocks) (opened : Opened) → OpensRight blocks opened → IsClosedRight blocks sound opened
closed_right blocks sound opened (head, last, window, opens, clean, right) =
    let one = opened_alike blocks sound head last window opens in
    let own : opened.head ≡ head = right.start.head_is in
    let is_clean : sound.head.clean ≡ true = ap (λ (h : Super). h.clean) (sym one.0) ∙ clean in
    let none : window ≡ [] = one.2 ∙ (sound.closed is_clean).window in
    let here : IsRight (image_of head blocks []) head opened = subst (λ (w : List CommittedEntry). IsRight (image_of head blocks w) head opened) none right in
    record {
      right = subst (λ (h : Super). IsRight (image_of h blocks []) h opened) (sym own) here;
      head_is = sym one.0 ∙ sym own;
      alike = ap₂ (λ (h : Super) (w : List CommittedEntry). image_of h blocks w) (own ∙ one.0) (sym (sound.closed is_clean).window);
      clean = is_clean;
    }

pub head_of_sound : (blocks : Blocks) (sound : IsSound blocks) (opened : Opened) → OpensRight blocks opened → sound.head ≡ opened.head
head_of_sound blocks sound opened right = (closed_right blocks sound opened right).head_is

-- So a session over it is over the image as it was opened.
module _ (s : Session) (opened : Opened) (sound : IsSound s.image) (right : OpensRight s.image opened) (sizes : s.sizes.geometry ≡ opened.head.geometry) (start : s.sizes.start ≡ opened.head.start)
    (links : s.links ≡ opened_page opened.pages.items) (counters : s.counters ≡ opened.counters.items)
    (one : HasOneImageButIndex s.blocks s.before s.image) where
  closed : IsClosedRight s.image sound opened
  closed = closed_right s.image sound opened right

  geometry_is : sound.head.geometry ≡ s.sizes.geometry
  geometry_is = ap (λ (h : Super). h.geometry) closed.head_is ∙ sym sizes

  opened_right : IsRight (opened_image s) opened.head opened
  opened_right = subst (λ (g : Geometry). IsRight (image_with g s.image []) opened.head opened) (sym sizes) closed.right

  accepted : super_of_image s.image ≡ Ok sound.head
  accepted = sound.opens.accepted

  pub as_opened : IsAsOpened s
  as_opened = record {
    room = let room = room_of_image s.image sound.head accepted in let size = one.size in let needs = ap needed_blocks geometry_is in omega (arith, room, size, needs);
    one_image = subst (λ (g : Geometry). HasOneImageIn (is_looked_at g) s.blocks s.before s.image) geometry_is (one_by_sizes s.image sound.head accepted s.blocks s.before s.image one);
    journal = subst (λ (g : Geometry). IsAtRest s.image [] g s.sizes.start []) geometry_is
        (closed_at_rest s.image sound s.sizes.start closed.clean (let is = start in let own = ap (λ (h : Super). h.start) closed.head_is in omega (arith, is, own)));
    pages = opened_right.pages;
    links = λ page below. ap (λ (f : PageId → Option Pbn). f page) links ∙ links_are (opened_image s) opened.pages.items opened_right.start.pages page below;
    counts = λ x. subst (λ (ns : List ℕ). HasMappings (opened_image s) x (opened_count s.sizes.geometry ns x)) (sym counters)
        (opened_counts (opened_image s) opened.counters.items opened_right.pages refl opened_right.start.counters opened_right.counts x);
    unshared = opened_right.unshared;
  }

  -- with the values of that
  pub as_opened_values : (a : ℕ) → opening_values s a ≡ value_of (image_in s.image sound) a
  as_opened_values a = ap (λ (g : Geometry). value_of (image_with g s.image []) a) sizes ∙ ap (λ (image : Image). value_of image a) closed.alike
