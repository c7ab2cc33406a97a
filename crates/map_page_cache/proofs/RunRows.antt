-- Runs of a cache: calls that lead on, and such that don't; and what a page has after them. The caches are those of `CallRows`.
use Rattle.std.proofs.Common.{ℕ, zero, suc, ◌≡◌, ◌<◌, List, [], ◌∷◌, slice_index_or, refl, ap, sym, subst, ◌∙◌, inl, inr, arith}
use Rattle.blk_base.specs.declared.place.Mapping.TheVariants.{Unmapped, Zero}
use Rattle.blk_base.specs.declared.place.PageId.{PageId}
use Rattle.blk_base.specs.Forms.{point as p}
use Rattle.dirty_pages.specs.History.{Changed, HandedOut, Written}
use Rattle.page_codec.specs.declared.forms.MapPage.{MapPage}
use Rattle.map_page_cache.specs.CachedPages.{CachedPages, with_mapping}
use Rattle.map_page_cache.specs.Runs.{Operation, HandOut, Install, IsContent, LeadTo, Leads, Set, Write, events_of}
use Rattle.map_page_cache.proofs.OperationRows.{absent, absent_of_two, expires, fills, gives_up, leaf, leaf_with, not_absent, one_page, out_one, page, set_one, sets, sets_what_is_not_there, third, two_pages, writes, writing, writing_before, written_one}

-- Leads: a page that isn't there is installed, in an empty frame or in that of a clean page
installs : Leads one_page (Install (leaf 1)) two_pages
installs = (absent 1 (omega arith), inl fills)

installs_for_another : Leads two_pages (Install (leaf 2)) third
installs_for_another = (absent_of_two, inr gives_up)

installs_again : (new : CachedPages) → Leads one_page (Install (leaf 0)) new → ⊥
installs_again new leads = not_absent leads.0

-- a slot is mapped, a page is handed out, and its write is reported; of a page that is there, and is out
maps_a_slot : Leads one_page (Set (page 0) 1 Zero (p 5)) set_one
maps_a_slot = sets

maps_none : (new : CachedPages) → Leads one_page (Set (page 1) 1 Zero (p 5)) new → ⊥
maps_none new leads = sets_what_is_not_there new leads

hands_out : Leads set_one (HandOut (page 0)) out_one
hands_out = (p 5, leaf_with Zero 0, expires)

is_written : Leads out_one (Write (page 0)) written_one
is_written = (writing, writes)

is_written_before : (new : CachedPages) → Leads set_one (Write (page 0)) new → ⊥
is_written_before new leads = writing_before leads.0

-- LeadTo: all of them, the newest first

abbrev calls : List Operation
calls = Write (page 0) ∷ HandOut (page 0) ∷ Set (page 0) 1 Zero (p 5) ∷ []

lead_to : LeadTo one_page calls written_one
lead_to = (out_one, (set_one, (one_page, refl, maps_a_slot), hands_out), is_written)

no_calls_lead_on : LeadTo one_page [] two_pages → ⊥
no_calls_lead_on same = omega (arith, ap (λ (c : CachedPages). c.turns.last) same)

in_another_order : (new : CachedPages) → LeadTo set_one (Write (page 0) ∷ []) new → ⊥
in_another_order new (before, same, leads) = is_written_before new (subst (λ (c : CachedPages). Leads c (Write (page 0)) new) same leads)

-- events_of: a page is installed as it is on the device
events_are : events_of (Install (leaf 1) ∷ calls) ≡ Written (page 0) ∷ HandedOut (page 0) ∷ Changed (page 0) (p 5) ∷ []
events_are = refl

-- IsContent: the page as it was at first, or as it was installed last, with what was set since

at_first : IsContent one_page [] (page 0) (leaf 0)
at_first = ((0, omega arith, refl), refl)

as_it_was_set : IsContent one_page calls (page 0) (leaf_with Zero 0)
as_it_was_set = inl (refl, (leaf 0, at_first, refl))

as_it_was : IsContent one_page calls (page 0) (leaf 0) → ⊥
as_it_was (inl (same, (before, first, is))) = unset before first.0.0 first.0.1 first.0.2 is
  where
    unset : (before : MapPage) (k : ℕ) → k < 1 → slice_index_or (leaf 0 ∷ []) k before ≡ before → leaf 0 ≡ with_mapping 1 Zero before → ⊥
    unset before zero inside here is =
        let mapping : Unmapped ≡ Zero = ap (λ (m : MapPage). slice_index_or m.mappings 1 Zero) (is ∙ ap (λ (m : MapPage). with_mapping 1 Zero m) (sym here)) in absurd (cc mapping)
    unset before (suc k) inside here is = omega (arith, inside)
as_it_was (inr (other, is)) = other refl

-- another page is as it was
another_page : IsContent two_pages calls (page 1) (leaf 1)
another_page = inr (λ same. omega (arith, ap (λ (q : PageId). q.index) same), ((1, omega arith, refl), refl))

another_page_as_this : IsContent two_pages calls (page 1) (leaf_with Zero 1) → ⊥
another_page_as_this (inl (same, rest)) = omega (arith, ap (λ (q : PageId). q.index) same)
another_page_as_this (inr (other, ((zero, inside, is), named))) = omega (arith, ap (λ (m : MapPage). m.head.page.index) is)
another_page_as_this (inr (other, ((suc zero, inside, is), named))) =
    let mapping : Unmapped ≡ Zero = ap (λ (m : MapPage). slice_index_or m.mappings 1 Zero) is in absurd (cc mapping)
another_page_as_this (inr (other, ((suc (suc k), inside, is), named))) = omega (arith, inside)

-- as it was installed, and not as it was before
as_installed : IsContent one_page (Install (leaf_with Zero 0) ∷ calls) (page 0) (leaf_with Zero 0)
as_installed = inl (refl, refl)

as_before : IsContent one_page (Install (leaf 0) ∷ calls) (page 0) (leaf_with Zero 0) → ⊥
as_before (inl (same, is)) = let mapping : Zero ≡ Unmapped = ap (λ (m : MapPage). slice_index_or m.mappings 1 Zero) is in absurd (cc mapping)
as_before (inr (other, is)) = other refl
