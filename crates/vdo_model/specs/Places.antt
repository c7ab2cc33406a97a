-- Places: the number that a block request draws in its logical zone. The newest place stands first.
use Rattle.std.specs.Prelude.{ℕ, ◌≡◌, ◌⊎◌, ◌+◌, ◌<◌, ◌%◌, ◌==◌, ◌++◌, List, [], ◌∷◌, Option, Some, None, IsSome, IsNone, if◌then◌else◌}
use Rattle.blk_base.specs.Pages.{leaf_of}
use Rattle.std.specs.List.{AllByRecursion}
use Rattle.blk_base.specs.declared.request.Request.{Request}
use Rattle.blk_base.specs.declared.request.Answer.{Answer}
use Rattle.blk_base.specs.declared.request.Answer.TheVariants.{Stopped}
use Rattle.blk_base.specs.declared.request.Writer.{Writer}
use Rattle.vdo_model.specs.declared.report.DeskLine.{DeskLine}
use Rattle.vdo_model.specs.declared.report.DeskLine.TheVariants as line
use Rattle.vdo_model.specs.declared.report.Placed.{Placed}
use Rattle.vdo_model.specs.Scripts.{Script, request_at, address_of, same_writer}
use Rattle.vdo_model.specs.DeskLog.{answer_of, before_begin}

-- the logical zone of an address: the trees, of which each has every 60th leaf, are dealt out to the zones
abbrev pub zone_of : ℕ → ℕ → ℕ
zone_of zones a = (leaf_of a).tree % zones

-- how many places of a zone are drawn
abbrev pub drawn : ℕ → List Placed → ℕ
drawn zone [] = 0
drawn zone (p ∷ older) = if p.zone == zone then drawn zone older + 1 else drawn zone older

-- the place of a request in a zone
abbrev pub placed : Writer → ℕ → ℕ → Placed
placed w zone place = record { request = w; zone = zone; place = place }

-- the place of a request, where it has one
abbrev pub place_of : List Placed → Writer → Option Placed
place_of [] w = None
place_of (p ∷ older) w = if same_writer p.request w then Some p else place_of older w

-- a block request below the logical size, in the zone of its address
abbrev pub IsOfZone : ℕ → ℕ → Script → Placed → Type 0
IsOfZone zones logical script p =
    (r : Request) × (a : ℕ) × (request_at script p.request ≡ Some r) × (address_of r ≡ Some a) × (a < logical) × (p.zone ≡ zone_of zones a)

-- Of two places of one zone, this one drawn later: a stream draws in the order of its requests, and a request that was
-- answered before another was begun has the lower place.
pub record Follows (desk : List DeskLine) (later earlier : Placed) : Type 0 where
  pub stream : earlier.request.stream ≡ later.request.stream → earlier.request.number < later.request.number
  pub answered : IsNone (answer_of (before_begin desk earlier.request) later.request)

-- a place may follow these
pub record IsNextPlace (zones logical : ℕ) (script : Script) (desk : List DeskLine) (p : Placed) (older : List Placed) : Type 0 where
  pub number : p.place ≡ drawn p.zone older
  pub once : IsNone (place_of older p.request)
  pub zone : IsOfZone zones logical script p
  pub order : AllByRecursion (λ q. q.zone ≡ p.zone → Follows desk p q) older

-- each place is the next of its zone
abbrev pub AreDrawn : ℕ → ℕ → Script → List DeskLine → List Placed → Type 0
AreDrawn zones logical script desk [] = Unit {0}
AreDrawn zones logical script desk (p ∷ older) = IsNextPlace zones logical script desk p older × AreDrawn zones logical script desk older

-- A request was answered so as soon as it was begun: it reached no zone.
pub record IsAnsweredAtOnce (desk : List DeskLine) (w : Writer) (answer : Answer) : Type 0 where
  pub later : List DeskLine
  pub older : List DeskLine
  pub at : desk ≡ later ++ (line.Answer w answer ∷ line.Begin w ∷ older)

-- the places are right: each block request below the logical size that is answered has one, but where it was stopped
-- before it reached its zone
pub record ArePlaces (zones logical : ℕ) (script : Script) (desk : List DeskLine) (places : List Placed) : Type 0 where
  pub places_drawn : AreDrawn zones logical script desk places
  pub all : (w : Writer) (r : Request) (a : ℕ) → request_at script w ≡ Some r → address_of r ≡ Some a → a < logical
      → IsSome (answer_of desk w) → IsSome (place_of places w) ⊎ IsAnsweredAtOnce desk w Stopped
