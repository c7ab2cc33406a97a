-- Runs of a tree: its calls from the newest back to the oldest.
use Rattle.std.specs.Prelude.{List, [], ◌∷◌}
use Rattle.blk_base.specs.declared.place.PageId.{PageId}
use Rattle.blk_base.specs.declared.place.Pbn.{Pbn}
use Rattle.blk_base.specs.declared.point.Point.{Point}
use Rattle.page_codec.specs.declared.forms.MapPage.{MapPage}
use Rattle.dirty_pages.specs.History.{Event, Changed, HandedOut, Written}
use Rattle.blk_base.specs.Pages.{above}
use Rattle.plain_laws.specs.Leads.{LeadsBy}
use Rattle.block_map_tree.specs.Tree.{Tree, IsLinkable, Links, Expires, IsWriting, Writes}

-- a page is linked, a page is handed out to be written, a page is reported as written
pub data Operation : Type 0 where
  Link : PageId → Pbn → Point → Operation
  HandOut : PageId → Operation
  Write : PageId → Operation

-- a call leads from one tree to another
abbrev pub Leads : Tree → Operation → Tree → Type 0
Leads old (Link page at point) new = IsLinkable old page × Links old new page at point
Leads old (HandOut page) new = (point : Point) × (into : MapPage) × Expires old new point page into
Leads old (Write page) new = IsWriting old page × Writes old new page

-- calls lead from one tree to another
abbrev pub LeadTo : Tree → List Operation → Tree → Type 0
LeadTo old calls new = LeadsBy (λ call before after. Leads before call after) old calls new

-- what a call does to pages; a link changes the page above
abbrev pub event_of : Operation → Event
event_of (Link page at point) = Changed (above page) point
event_of (HandOut page) = HandedOut page
event_of (Write page) = Written page

abbrev pub events_of : List Operation → List Event
events_of [] = []
events_of (call ∷ calls) = event_of call ∷ events_of calls
