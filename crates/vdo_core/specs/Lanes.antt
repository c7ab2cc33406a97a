-- Room in the lanes of a zone.
use Rattle.std.specs.Prelude.{ℕ, ◌+◌, ◌≤◌, List, length}
use Rattle.std.specs.List.{AllByRecursion}
use Rattle.core_model.specs.PortsData.{lane_room}
use Rattle.core_model.specs.SessionLimits.{most_items}
use Rattle.core_model.specs.declared.zones.Zone.{Zone}

-- how many items a step posts at most
abbrev pub most_posts : ℕ
most_posts = most_items + 400

-- there is room for so many items in each lane
abbrev pub HasRoomIn : {T : Type 0} → ℕ → List T → Type 0
HasRoomIn more lane = length lane + more ≤ lane_room

pub record HasRoomFor (more : ℕ) (z : Zone) : Type 0 where
  pub inbox : HasRoomIn more z.ports.inbox
  pub outboxes : AllByRecursion (λ lane. HasRoomIn more lane) z.ports.outboxes
