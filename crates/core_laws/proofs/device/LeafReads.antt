-- A leaf that is read says what its address is mapped to, where the session is fair: the opened image has it, or a session's entry made
-- it, and then it is empty.
use Rattle.std.proofs.Common.{◌≡◌, ◌⊎◌, ℕ, zero, suc, ◌+◌, ◌<◌, None, Some, List, [], ◌∷◌, Contains, length, replicate, slice_index_or, refl, sym, ◌∙◌, ap, subst, inl, inr, arith}
use Rattle.std.proofs.Math.Nat.{mod-lt}
use Rattle.std.proofs.lemmas.List.{get_or-replicate}
use Rattle.core_laws.proofs.Common.{AllByRecursion, AreAllThere, AtRest, ComesLast, Commits, Enters, IsFair, IsHonestRead, IsSession, Logged, Makes, OnItsWay, PagesStand, Pbn, Remapping, Remaps, RightTrace, Session, Sets, Stands, Trace, Writer, all_of, applied, durable, journaled, log, mapped_or, mapping_by, newest, of_address, opened_at, opened_image, remappings, sealed}
use Rattle.blk_base.proofs.RegionLaws.{data_block_high, data_block_inside}
use Rattle.blk_base.specs.Pages.{leaf_of, slot_of_address}
use Rattle.blk_base.specs.Regions.{IsDataBlock}
use Rattle.blk_base.specs.declared.place.Mapping.{Mapping}
use Rattle.blk_base.specs.declared.place.Mapping.TheVariants.{Unmapped}
use Rattle.blk_base.specs.declared.place.PageId.{PageId}
use Rattle.core_laws.proofs.device.DeviceCalls.{stands_reads}
use Rattle.core_laws.proofs.kept.OpenedBlocks.{leaf_says, no_leaf, not_opened, slot_is}
use Rattle.core_laws.proofs.kept.Spared.{contains_cut, contains_more}
use Rattle.core_laws.proofs.trace.DeskOfTrace.{HasBlock, journaled_data, shown_of}
use Rattle.core_laws.proofs.trace.PagesOfTrace.{committed_entered, contains_behind}
use Rattle.core_laws.proofs.trace.ShownPages.{page_length}
use Rattle.core_model.specs.PageLinks.{empty_page, leaf_head}
use Rattle.core_model.specs.RightTraces.{IsLinkedAt}
use Rattle.core_model.specs.Sessions.{IsKept}
use Rattle.data_vio.specs.declared.logged.NewPage.{NewPage}
use Rattle.disk_model.proofs.ImageLaws.{block_of_mix}
use Rattle.disk_model.specs.Log as device
use Rattle.image_model.proofs.LookedLaws.{looked_high}
use Rattle.image_model.specs.Maps.{mapping_in, page_at}
use Rattle.page_codec.proofs.HeldLaws.{held_unmapped}
use Rattle.page_codec.proofs.ReadLaws.{no_page_fault, one_mapping, one_page, page, slots}
use Rattle.page_codec.specs.Grammar.{IsPage, IsPageFault, IsSlot}
use Rattle.page_codec.specs.declared.fault.PageFault.{PageFault}

-- a page that an entry makes is none of the opened image
pub made_anew : (s : Session) (t : Trace) (p : NewPage) → RightTrace s t → Contains (journaled t) (Makes p) → s.links p.page ≡ None
made_anew s [] p right (k, low, is) = absurd (omega (arith, low))
made_anew s (Enters (Makes q) ∷ t) p right has = elim (contains_cut (Makes q) (journaled t) (Makes p) has) [
  | inl same ↦ let one : q ≡ p = cc in subst (λ (r : NewPage). s.links r.page ≡ None) one (not_opened s.links (journaled t) q.page right.0.once)
  | inr rest ↦ made_anew s t p right.2 rest
]
made_anew s (Enters (Remaps e) ∷ t) p right has = elim (contains_cut (Remaps e) (journaled t) (Makes p) has) [
  | inl same ↦ absurd cc
  | inr rest ↦ made_anew s t p right.2 rest
]
made_anew s (other ∷ t) p right has = made_anew s t p right.2 has

-- a page that is linked has a committed entry
linked_committed : (s : Session) (t : Trace) (p : NewPage) → RightTrace s t → Contains (applied t) (Makes p) → Contains (durable t) (Makes p)
linked_committed s [] p right (k, low, is) = absurd (omega (arith, low))
linked_committed s (Sets (Makes q) ∷ t) p right has = elim (contains_cut (Makes q) (applied t) (Makes p) has) [
  | inl same ↦ subst (λ (e : Logged). Contains (durable t) e) same right.0.is_committed
  | inr rest ↦ linked_committed s t p right.2 rest
]
linked_committed s (Sets (Remaps e) ∷ t) p right has = elim (contains_cut (Remaps e) (applied t) (Makes p) has) [
  | inl same ↦ absurd cc
  | inr rest ↦ linked_committed s t p right.2 rest
]
linked_committed s (Commits e ∷ t) p right has = contains_more e (durable t) (Makes p) (linked_committed s t p right.2 has)
linked_committed s (other ∷ t) p right has = linked_committed s t p right.2 has

-- a page among entries whose pages stand stands
pub page_of_all : (s : Session) (t : Trace) (es : List Logged) (p : NewPage) → Contains es (Makes p) → PagesStand s t es → Stands s t p.at.0 (empty_page s.sizes.geometry p)
page_of_all s t [] p (k, low, is) stand = absurd (omega (arith, low))
page_of_all s t (Remaps e ∷ es) p has stand = elim (contains_cut (Remaps e) es (Makes p) has) [
  | inl same ↦ absurd cc
  | inr rest ↦ page_of_all s t es p rest stand
]
page_of_all s t (Makes q ∷ es) p has stand = elim (contains_cut (Makes q) es (Makes p) has) [
  | inl same ↦ let one : q ≡ p = cc in subst (λ (r : NewPage). Stands s t r.at.0 (empty_page s.sizes.geometry r)) one stand.0
  | inr rest ↦ page_of_all s t es p rest stand.1
]

-- what holds of each holds of one of them
pub each_of : {X : Type 0} (P : X → Type 0) (xs : List X) (x : X) → AllByRecursion P xs → Contains xs x → P x
each_of P [] x all (k, low, is) = absurd (omega (arith, low))
each_of P (y ∷ xs) x all has = elim (contains_cut y xs x has) [ inl same ↦ subst P same all.0 | inr rest ↦ each_of P xs x all.1 rest ]

-- a page stands at a data block
pub stands_at_data : (s : Session) (t : Trace) (page : PageId) (x : Pbn) → IsSession s → RightTrace s t → IsLinkedAt s t page x → IsDataBlock s.sizes.geometry x.0
stands_at_data s t page x session right (inl linked) = session.linked page x linked
stands_at_data s t page x session right (inr (w, has)) =
    let made : NewPage = record { request = w; page = page; at = x } in
    each_of (HasBlock s) (journaled t) (Makes made) (journaled_data s t right) (committed_entered s t (Makes made) right (linked_committed s t made right has))

-- so many values, from this number on
abbrev listed : (ℕ → Mapping) → ℕ → ℕ → List Mapping
listed f from zero = []
listed f from (suc n) = f from ∷ listed f (suc from) n

listed_length : (f : ℕ → Mapping) (from n : ℕ) → length (listed f from n) ≡ n
listed_length f from zero = refl
listed_length f from (suc n) = ap suc (listed_length f (suc from) n)

listed_at : (f : ℕ → Mapping) (from n k j : ℕ) (d : Mapping) → k < n → j ≡ from + k → slice_index_or (listed f from n) k d ≡ f j
listed_at f from zero k j d below is = absurd (omega (arith, below))
listed_at f from (suc n) zero j d below is = ap f (omega (arith, is))
listed_at f from (suc n) (suc k) j d below is = listed_at f (suc from) n k j d (omega (arith, below)) (omega (arith, is))

module _ (s : Session) (t : Trace) (session : IsSession s) (right : RightTrace s t) (fair : IsFair s t) where
  -- so a page stands whose entry is committed
  pub made_stands : (p : NewPage) → Contains (durable t) (Makes p) → Stands s t p.at.0 (empty_page s.sizes.geometry p)
  made_stands p has = by (shown_of s t right fair).journal
    where
      older_stand : (older : List (List Logged)) (block : List Logged) → AtRest s t older ⊎ OnItsWay s t older block → PagesStand s t (all_of older)
      older_stand older block (inl rest) = rest.2
      older_stand older block (inr way) = way.2

      by : AreAllThere s t ⊎ ComesLast s t → Stands s t p.at.0 (empty_page s.sizes.geometry p)
      by (inl k) = page_of_all s t (all_of (sealed t)) p (subst (λ (es : List Logged). Contains es (Makes p)) (sym k.all) (contains_behind k.rest (durable t) (Makes p) has)) k.stands.2
      by (inr k) = page_of_all s t (all_of k.older) p (subst (λ (es : List Logged). Contains es (Makes p)) k.committed_is has) (older_stand k.older k.block k.stands)

  -- a leaf of the opened image is at a block that the session leaves as it was
  module _ (a : ℕ) (x : Pbn) where
    leaf_below : 0 + 1 < s.sizes.geometry.height
    leaf_below = let tall = session.sizes.height in omega (arith, tall)

    module _ (linked : s.links (leaf_of a) ≡ Some x) where
      opened_there : page_at (opened_image s) (leaf_of a) ≡ Some x
      opened_there = sym (fair.opened.links (leaf_of a) leaf_below) ∙ linked

      opened_left : IsKept s x.0
      opened_left =
          let is_data = session.linked (leaf_of a) x linked in
          let high = data_block_high s.sizes.geometry x.0 is_data in
          record {
            inside = data_block_inside s.sizes.geometry x.0 is_data;
            looked = looked_high s.sizes.geometry x.0 high;
            behind = omega (arith, high);
            unfreed = λ is_data. (leaf_of a, leaf_below, linked);
          }

      -- a read of it gives the block of the opened image
      opened_read : (bytes : List ℕ) → IsHonestRead s t x bytes → bytes ≡ device.block_at s.image x.0
      opened_read bytes honest =
          block_of_mix (device.settled s.blocks (log s t) x.0) (device.block_at s.image x.0) bytes (fair.opened.one_image.whole x.0 (let inside = opened_left.inside in let room = fair.opened.room in omega (arith, inside, room))) honest.0 honest.1
          (stands_reads s t x.0 _ ((shown_of s t right fair).kept x.0 opened_left))

      opened_says : (bytes : List ℕ) (mappings : List Mapping) → IsHonestRead s t x bytes → IsPage (leaf_head s.sizes.geometry a x) bytes mappings → slice_index_or mappings (slot_of_address a) Unmapped ≡ opened_at s a
      opened_says bytes mappings honest page =
          let inside : slot_of_address a < 812 = mod-lt a (omega arith) in
          let read = slots (leaf_head s.sizes.geometry a x) bytes mappings (slot_of_address a) page inside in
          let block : IsPage (leaf_head s.sizes.geometry a x) (device.block_at s.image x.0) mappings = subst (λ (b : List ℕ). IsPage (leaf_head s.sizes.geometry a x) b mappings) (opened_read bytes honest) page in
          one_mapping (leaf_head s.sizes.geometry a x) (device.block_at s.image x.0) (slot_of_address a) _ _ (slots (leaf_head s.sizes.geometry a x) (device.block_at s.image x.0) mappings (slot_of_address a) block inside)
          (slot_is s fair.opened (leaf_of a) x (slot_of_address a) opened_there inside)
          ∙ sym (leaf_says s fair.opened a x opened_there)

      -- which decodes
      opened_page : IsPage (leaf_head s.sizes.geometry a x) (device.block_at s.image x.0) (listed (mapping_in (device.block_at s.image x.0)) 0 812)
      opened_page =
          let block = device.block_at s.image x.0 in
          let whole = fair.opened.one_image.whole x.0 (let inside = opened_left.inside in let room = fair.opened.room in omega (arith, inside, room)) in
          page (leaf_head s.sizes.geometry a x) block (listed (mapping_in block) 0 812) whole (listed_length (mapping_in block) 0 812)
          (λ slot below. subst (IsSlot (leaf_head s.sizes.geometry a x) block slot) (sym (listed_at (mapping_in block) 0 812 slot slot Unmapped below (omega arith))) (slot_is s fair.opened (leaf_of a) x slot opened_there below))

      opened_decodes : (bytes : List ℕ) (fault : PageFault) → IsHonestRead s t x bytes → IsPageFault (leaf_head s.sizes.geometry a x) bytes fault → ⊥
      opened_decodes bytes fault honest fails =
          no_page_fault (leaf_head s.sizes.geometry a x) (device.block_at s.image x.0) _ fault opened_page (subst (λ (b : List ℕ). IsPageFault (leaf_head s.sizes.geometry a x) b fault) (opened_read bytes honest) fails)

    -- one that the session made is empty, and the opened image maps the address to nothing
    module _ (w : Writer) (made : Contains (applied t) (Makes (record { request = w; page = leaf_of a; at = x }))) where
      abbrev the_page : NewPage
      the_page = record { request = w; page = leaf_of a; at = x }

      made_durable : Contains (durable t) (Makes the_page)
      made_durable = linked_committed s t the_page right made

      made_read : (bytes : List ℕ) → IsHonestRead s t x bytes → bytes ≡ empty_page s.sizes.geometry the_page
      made_read bytes honest =
          block_of_mix (device.settled s.blocks (log s t) x.0) (empty_page s.sizes.geometry the_page) bytes (page_length s.sizes.geometry the_page) honest.0 honest.1 (stands_reads s t x.0 _ (made_stands the_page made_durable))

      made_unmapped : opened_at s a ≡ Unmapped
      made_unmapped = no_leaf s fair.opened a (sym (fair.opened.links (leaf_of a) leaf_below) ∙ made_anew s t the_page right (committed_entered s t (Makes the_page) right made_durable))

      made_page : IsPage (leaf_head s.sizes.geometry a x) (empty_page s.sizes.geometry the_page) (replicate 812 Unmapped)
      unfolding empty_page
      made_page = record { spelled = refl; held = held_unmapped s.sizes.geometry 0 }

      made_says : (bytes : List ℕ) (mappings : List Mapping) → IsHonestRead s t x bytes → IsPage (leaf_head s.sizes.geometry a x) bytes mappings → slice_index_or mappings (slot_of_address a) Unmapped ≡ opened_at s a
      made_says bytes mappings honest page =
          let inside : slot_of_address a < 812 = mod-lt a (omega arith) in
          let block : IsPage (leaf_head s.sizes.geometry a x) (empty_page s.sizes.geometry the_page) mappings = subst (λ (b : List ℕ). IsPage (leaf_head s.sizes.geometry a x) b mappings) (made_read bytes honest) page in
          ap (λ (ms : List Mapping). slice_index_or ms (slot_of_address a) Unmapped) (one_page (leaf_head s.sizes.geometry a x) (empty_page s.sizes.geometry the_page) mappings (replicate 812 Unmapped) block made_page)
          ∙ get_or-replicate 812 (slot_of_address a) Unmapped Unmapped inside ∙ sym made_unmapped

      made_decodes : (bytes : List ℕ) (fault : PageFault) → IsHonestRead s t x bytes → IsPageFault (leaf_head s.sizes.geometry a x) bytes fault → ⊥
      made_decodes bytes fault honest fails =
          no_page_fault (leaf_head s.sizes.geometry a x) (empty_page s.sizes.geometry the_page) (replicate 812 Unmapped) fault made_page
          (subst (λ (b : List ℕ). IsPageFault (leaf_head s.sizes.geometry a x) b fault) (made_read bytes honest) fails)

    -- So a leaf that is read decodes.
    pub leaf_decodes : (bytes : List ℕ) (fault : PageFault) → IsLinkedAt s t (leaf_of a) x → IsHonestRead s t x bytes → IsPageFault (leaf_head s.sizes.geometry a x) bytes fault → ⊥
    leaf_decodes bytes fault (inl linked) honest fails = opened_decodes linked bytes fault honest fails
    leaf_decodes bytes fault (inr made) honest fails = made_decodes made.0 made.1 bytes fault honest fails

    -- So what the leaf says is what the address is mapped to, where no slot of it was set.
    pub leaf_says_it : (bytes : List ℕ) (mappings : List Mapping) → IsLinkedAt s t (leaf_of a) x → of_address a (remappings (applied t)) ≡ [] → IsHonestRead s t x bytes → IsPage (leaf_head s.sizes.geometry a x) bytes mappings
        → slice_index_or mappings (slot_of_address a) Unmapped ≡ mapping_by s (applied t) a
    leaf_says_it bytes mappings (inl linked) unset honest page = opened_says linked bytes mappings honest page ∙ sym (ap (λ (es : List Remapping). mapped_or (newest es) (opened_at s a)) unset)
    leaf_says_it bytes mappings (inr made) unset honest page = made_says made.0 made.1 bytes mappings honest page ∙ sym (ap (λ (es : List Remapping). mapped_or (newest es) (opened_at s a)) unset)
