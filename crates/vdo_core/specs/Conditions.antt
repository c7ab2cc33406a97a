-- What a step of a zone needs. It is said of the zone alone, whatever the others do.
use Rattle.std.specs.Prelude.{⊤, ◌≡◌, ◌<◌, ◌⊎◌, List, [], ◌∷◌, length, take}
use Rattle.std.specs.List.{AllByRecursion}
use Rattle.data_vio.specs.declared.items.Item.{Item}
use Rattle.data_vio.specs.declared.sizes.Sizes.{Sizes}
use Rattle.core_model.specs.declared.zones.Zone.{Zone}
use Rattle.core_model.specs.declared.zones.ZoneData.{ZoneData}
use Rattle.core_model.specs.declared.zones.ZoneData.TheVariants as at
use Rattle.core_model.specs.Limits.{IsWithin}
use Rattle.core_model.specs.Steps.{Act, HasAct}
use Rattle.core_model.specs.Trace.{Trace}
use Rattle.data_vio.specs.Vios.{Post}
use Rattle.data_vio.specs.Zones.{zone_number}
use Rattle.plain_laws.specs.Sums.{Each}
use Rattle.step_parts.specs.ZoneSizes.{AreFew, HasPhysical}
use Rattle.desk_zone.specs.Begins.{CanBegin}

-- a zone has a lane for a post
abbrev pub HasLane : Sizes → Zone → Post → Type 0
HasLane sizes z post = (zone_number sizes post.0 ≡ z.number) ⊎ (zone_number sizes post.0 < length z.ports.outboxes)

-- a desk can begin what may begin
abbrev pub CanBeginAt : Sizes → ZoneData → Type 0
CanBeginAt sizes (at.Desk d) = CanBegin sizes d
CanBeginAt sizes other = ⊤

-- A zone can step: each address has its logical zone and each data block its physical one, each of which can be told of a stop, a desk
-- can begin what may begin, the zone keeps within its room, a rule applies to the item in front of its inbox, and there is a lane for
-- what a rule posts.
pub record CanStep (sizes : Sizes) (z : Zone) : Type 0 where
  pub some : 0 < sizes.zones
  pub few : AreFew sizes
  pub physical : HasPhysical sizes
  pub begins : CanBeginAt sizes z.keeps
  pub within : IsWithin z
  pub rule : (front : Item) (rest : List Item) → z.ports.inbox ≡ front ∷ rest → HasAct sizes z.keeps (front ∷ [])
  pub lanes : (new : ZoneData) (made : Trace) (posts : List Post) → Act sizes z.keeps (take 1 z.ports.inbox) new made posts → AllByRecursion (HasLane sizes z) posts

-- and so can each zone of a core
abbrev pub AllCanStep : Sizes → List Zone → Type 0
AllCanStep sizes zones = Each (λ n z. CanStep sizes z) zones
