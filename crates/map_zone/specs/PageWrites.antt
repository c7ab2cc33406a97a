-- Which page is written next, what a durable write settles, and from which point on entries aren't durable.
use Rattle.std.specs.Prelude.{ℕ, ◌≡◌, ◌<◌, ◌≤◌, ◌⊎◌, Bool, true, false, nat_le, min, Option, None, Some, List}
use Rattle.blk_base.specs.declared.place.PageId.{PageId}
use Rattle.blk_base.specs.declared.place.Pbn.{Pbn}
use Rattle.blk_base.specs.declared.point.Point.{Point}
use Rattle.dirty_pages.specs.DirtyPoints.{AreClean, HasPoint, IsDue, IsFirstDue, IsLowPoint, NoneIsDue, dirty_points_at}
use Rattle.page_codec.specs.PageBytes.{page_bytes}
use Rattle.page_codec.specs.declared.forms.MapPage.{MapPage}
use Rattle.block_map_tree.specs.Tree as trees
use Rattle.map_page_cache.specs.CachedPages as cached
use Rattle.map_zone.specs.ZoneMap.{ZoneMap}

-- whether the first of two points is there, and the other isn't before it
abbrev pub comes_first : Option Point → Option Point → Bool
comes_first None other = false
comes_first (Some leaf) None = true
comes_first (Some leaf) (Some node) = nat_le leaf.0 node.0

-- the lesser of two points, as far as they are there
abbrev pub lesser_point : Option Point → Option Point → Option Point
lesser_point None None = None
lesser_point None (Some node) = Some node
lesser_point (Some leaf) None = Some leaf
lesser_point (Some leaf) (Some node) = Some (record { 0 = min leaf.0 node.0 })

-- the bytes of a page, which stands at this block
pub record IsSpelled (copy : MapPage) (at : Pbn) (bytes : List ℕ) : Type 0 where
  pub placed : at ≡ copy.head.at
  pub said : bytes ≡ page_bytes copy.head copy.mappings

-- a leaf is due to be written, and no other page before it; or no leaf is due before each other page that is
pub record IsLeafFirst (m : ZoneMap) : Type 0 where
  pub leaf : Point
  pub due : IsFirstDue m.cache.dirty_points leaf
  pub first : (number : ℕ) (node : Point) → IsDue (dirty_points_at m.tree.dirty_points number) node → leaf.0 ≤ node.0

pub record IsNodeFirst (m : ZoneMap) : Type 0 where
  pub first : (number : ℕ) (leaf : Point) → IsDue (dirty_points_at m.cache.dirty_points number) leaf → (node : Point) × IsFirstDue m.tree.dirty_points node × (node.0 < leaf.0)

-- a leaf is handed out to be written, whose first point is due before that of any page that is no leaf
pub record TakesLeaf (old new : ZoneMap) (point : Point) (page : PageId) (at : Pbn) (bytes : List ℕ) : Type 0 where
  pub copy : MapPage
  pub expires : cached.Expires old.cache new.cache point page copy
  pub first : (number : ℕ) (node : Point) → IsDue (dirty_points_at old.tree.dirty_points number) node → expires.dirty_points.first.0 ≤ node.0
  pub spelled : IsSpelled copy at bytes
  pub after : new ≡ record old { cache = new.cache }

-- a page that is no leaf is, whose first point is due before that of any leaf
pub record TakesNode (old new : ZoneMap) (point : Point) (page : PageId) (at : Pbn) (bytes : List ℕ) : Type 0 where
  pub copy : MapPage
  pub expires : trees.Expires old.tree new.tree point page copy
  pub first : (number : ℕ) (leaf : Point) → IsDue (dirty_points_at old.cache.dirty_points number) leaf → expires.dirty_points.first.0 < leaf.0
  pub spelled : IsSpelled copy at bytes
  pub after : new ≡ record old { tree = new.tree }

-- the page that is due first is handed out with its bytes, which are to be written at this block
abbrev pub Takes : ZoneMap → ZoneMap → Point → PageId → Pbn → List ℕ → Type 0
Takes old new point page at bytes = TakesLeaf old new point page at bytes ⊎ TakesNode old new point page at bytes

-- no page is due at this point
pub record NoneDue (m : ZoneMap) (point : Point) : Type 0 where
  pub leaves : NoneIsDue m.cache.dirty_points point
  pub nodes : NoneIsDue m.tree.dirty_points point

-- the page was handed out, and its write isn't durable yet
abbrev pub IsOut : ZoneMap → PageId → Type 0
IsOut m page = cached.IsWriting m.cache page ⊎ trees.IsWriting m.tree page

-- the leaf is written, but for what was applied since it was handed out; and the same of a page that is no leaf
pub record SettlesLeaf (old new : ZoneMap) (page : PageId) : Type 0 where
  pub out : cached.IsWriting old.cache page
  pub writes : cached.Writes old.cache new.cache page
  pub after : new ≡ record old { cache = new.cache }

pub record SettlesNode (old new : ZoneMap) (page : PageId) : Type 0 where
  pub out : trees.IsWriting old.tree page
  pub writes : trees.Writes old.tree new.tree page
  pub after : new ≡ record old { tree = new.tree }

-- the page is written
abbrev pub Settles : ZoneMap → ZoneMap → PageId → Type 0
Settles old new page = SettlesLeaf old new page ⊎ SettlesNode old new page

-- an entry from this point on isn't durable, and all that aren't are from it on
pub record IsLow (m : ZoneMap) (low : Point) : Type 0 where
  pub own : IsLowPoint m.cache.dirty_points low ⊎ IsLowPoint m.tree.dirty_points low
  pub leaves : (number : ℕ) (point : Point) → HasPoint (dirty_points_at m.cache.dirty_points number) point → low.0 ≤ point.0
  pub nodes : (number : ℕ) (point : Point) → HasPoint (dirty_points_at m.tree.dirty_points number) point → low.0 ≤ point.0

-- each entry is durable
pub record IsClean (m : ZoneMap) : Type 0 where
  pub leaves : AreClean m.cache.dirty_points
  pub nodes : AreClean m.tree.dirty_points
