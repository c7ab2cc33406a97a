-- Runs of a cache: its calls from the newest back to the oldest.
use Rattle.std.specs.Prelude.{ℕ, ◌≡◌, ◌≢◌, ◌⊎◌, List, [], ◌∷◌}
use Rattle.blk_base.specs.declared.place.PageId.{PageId}
use Rattle.blk_base.specs.declared.place.Mapping.{Mapping}
use Rattle.blk_base.specs.declared.point.Point.{Point}
use Rattle.plain_laws.specs.Leads.{LeadsBy}
use Rattle.page_codec.specs.declared.forms.MapPage.{MapPage}
use Rattle.dirty_pages.specs.History.{Event, Changed, HandedOut, Written}
use Rattle.map_page_cache.specs.CachedPages.{CachedPages, IsThere, IsAbsent, Fills, GivesUp, with_mapping, Sets, Expires, IsWriting, Writes}

-- a page is installed, a slot of a page is mapped, a page is handed out to be written, a page is reported as written
pub data Operation : Type 0 where
  Install : MapPage → Operation
  Set : PageId → ℕ → Mapping → Point → Operation
  HandOut : PageId → Operation
  Write : PageId → Operation

-- a call leads from one cache to another
abbrev pub Leads : CachedPages → Operation → CachedPages → Type 0
Leads old (Install content) new = IsAbsent old content.head.page × (Fills old new content ⊎ GivesUp old new content)
Leads old (Set page slot mapping point) new = Sets old new page slot mapping point
Leads old (HandOut page) new = (point : Point) × (copy : MapPage) × Expires old new point page copy
Leads old (Write page) new = IsWriting old page × Writes old new page

-- calls lead from one cache to another
abbrev pub LeadTo : CachedPages → List Operation → CachedPages → Type 0
LeadTo old calls new = LeadsBy (λ call before after. Leads before call after) old calls new

-- what the calls do to pages; a page is installed as it is on the device
abbrev pub events_of : List Operation → List Event
events_of [] = []
events_of (Install content ∷ calls) = events_of calls
events_of (Set page slot mapping point ∷ calls) = Changed page point ∷ events_of calls
events_of (HandOut page ∷ calls) = HandedOut page ∷ events_of calls
events_of (Write page ∷ calls) = Written page ∷ events_of calls

-- the page as it was at first, or as it was installed last, with what was set in it since
abbrev pub IsContent : CachedPages → List Operation → PageId → MapPage → Type 0
IsContent old [] page content = IsThere old page content
IsContent old (Install from ∷ calls) page content =
    ((from.head.page ≡ page) × (content ≡ from)) ⊎ ((from.head.page ≢ page) × IsContent old calls page content)
IsContent old (Set other slot mapping point ∷ calls) page content =
    ((other ≡ page) × ((before : MapPage) × IsContent old calls page before × (content ≡ with_mapping slot mapping before)))
    ⊎ ((other ≢ page) × IsContent old calls page content)
IsContent old (HandOut other ∷ calls) page content = IsContent old calls page content
IsContent old (Write other ∷ calls) page content = IsContent old calls page content
