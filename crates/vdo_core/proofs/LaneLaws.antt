-- Room in the lanes of a zone, before and after a post.
use Rattle.std.proofs.Common.{ℕ, ◌<◌, ◌≤◌, Some, slice_get, zero, suc, Bool, true, false, List, [], ◌∷◌, length, length-append, refl, sym, subst, ◌≡◌, ◌∙◌, inl, inr, arith}
use Rattle.std.specs.List.{AllByRecursion}
use Rattle.data_vio.specs.declared.items.Item.{Item}
use Rattle.data_vio.specs.declared.sizes.Sizes.{Sizes}
use Rattle.core_model.specs.declared.zones.Zone.{Zone}
use Rattle.core_model.specs.PortsData.{Ports}
use Rattle.core_model.specs.declared.zones.ZoneData.{ZoneData}
use Rattle.core_model.specs.Limits.{IsWithin}
use Rattle.core_model.specs.SessionLimits.{IsShort}
use Rattle.core_model.specs.Steps.{posted, sent_to}
use Rattle.data_vio.specs.Vios.{Post}
use Rattle.data_vio.specs.Zones.{zone_number}
use Rattle.plain_laws.proofs.ListLaws.{every-get}
use Rattle.core_laws.proofs.lists.CoreLists.{length-posted}
use Rattle.vdo_core.specs.Conditions.{HasLane}
use Rattle.vdo_core.specs.Lanes.{HasRoomFor, HasRoomIn, most_posts}

fewer : (n : ℕ) (lanes : List (List Item)) → AllByRecursion (λ lane. HasRoomIn (suc n) lane) lanes → AllByRecursion (λ lane. HasRoomIn n lane) lanes
fewer n [] all = tt
fewer n (lane ∷ lanes) all = let here = all.0 in (omega (arith, here), fewer n lanes all.1)

room_posted : (n to : ℕ) (it : Item) (lanes : List (List Item)) → AllByRecursion (λ lane. HasRoomIn (suc n) lane) lanes → AllByRecursion (λ lane. HasRoomIn n lane) (posted to it lanes)
room_posted n to it [] all = tt
room_posted n zero it (lane ∷ lanes) all = let here = all.0 in (omega (arith, here, length-append lane (it ∷ [])), fewer n lanes all.1)
room_posted n (suc to) it (lane ∷ lanes) all = let here = all.0 in (omega (arith, here), room_posted n to it lanes all.1)

-- a post takes the room of one item
pub room_sent : (n : ℕ) (own : Bool) (to : ℕ) (it : Item) (z : Zone) → HasRoomFor (suc n) z → HasRoomFor n (sent_to own to it z)
room_sent n true to it z room = record { inbox = omega (arith, room.inbox, length-append z.ports.inbox (it ∷ [])); outboxes = fewer n z.ports.outboxes room.outboxes }
room_sent n false to it z room = record { inbox = omega (arith, room.inbox); outboxes = room_posted n to it z.ports.outboxes room.outboxes }

short_lanes : (lanes : List (List Item)) → AllByRecursion (λ lane. IsShort lane) lanes → AllByRecursion (λ lane. HasRoomIn most_posts lane) lanes
short_lanes [] all = tt
short_lanes (lane ∷ lanes) all = let here = all.0 in (omega (arith, here), short_lanes lanes all.1)

-- a zone that keeps within its room has room for what a step posts
pub room_within : (z : Zone) (keeps : ZoneData) (ports : Ports) → IsWithin z → length ports.inbox ≤ length z.ports.inbox → ports.outboxes ≡ z.ports.outboxes
    → HasRoomFor most_posts (record z { keeps = keeps; ports = ports })
room_within z keeps ports within less same = record {
  inbox = omega (arith, within.inbox, less);
  outboxes = subst (λ (lanes : List (List Item)). AllByRecursion (λ lane. HasRoomIn most_posts lane) lanes) (sym same) (short_lanes z.ports.outboxes within.outboxes);
}

less : (m n : ℕ) (lanes : List (List Item)) → m ≤ n → AllByRecursion (λ lane. HasRoomIn n lane) lanes → AllByRecursion (λ lane. HasRoomIn m lane) lanes
less m n [] below all = tt
less m n (lane ∷ lanes) below all = let here = all.0 in (omega (arith, here, below), less m n lanes below all.1)

-- for fewer items too
pub room_less : (m n : ℕ) (z : Zone) → m ≤ n → HasRoomFor n z → HasRoomFor m z
room_less m n z below room = record { inbox = omega (arith, room.inbox, below); outboxes = less m n z.ports.outboxes below room.outboxes }

-- a zone has the same lanes after a post
sent_number : (own : Bool) (to : ℕ) (it : Item) (z : Zone) → (sent_to own to it z).number ≡ z.number
sent_number true to it z = refl
sent_number false to it z = refl

sent_lanes : (own : Bool) (to : ℕ) (it : Item) (z : Zone) → length (sent_to own to it z).ports.outboxes ≡ length z.ports.outboxes
sent_lanes true to it z = refl
sent_lanes false to it z = length-posted to it z.ports.outboxes

lane_stays : (sizes : Sizes) (own : Bool) (to : ℕ) (it : Item) (z : Zone) (p : Post) → HasLane sizes z p → HasLane sizes (sent_to own to it z) p
lane_stays sizes own to it z p (inl same) = inl (same ∙ sym (sent_number own to it z))
lane_stays sizes own to it z p (inr less) = inr (rw (sent_lanes own to it z) less)

pub lanes_stay : (sizes : Sizes) (own : Bool) (to : ℕ) (it : Item) (z : Zone) (posts : List Post) → AllByRecursion (HasLane sizes z) posts → AllByRecursion (HasLane sizes (sent_to own to it z)) posts
lanes_stay sizes own to it z [] all = tt
lanes_stay sizes own to it z (p ∷ posts) all = (lane_stays sizes own to it z p all.0, lanes_stay sizes own to it z posts all.1)

-- a zone with as many outboxes has the same lanes
pub same_lanes : (sizes : Sizes) (z : Zone) (keeps : ZoneData) (ports : Ports) (posts : List Post) → ports.outboxes ≡ z.ports.outboxes → AllByRecursion (HasLane sizes z) posts
    → AllByRecursion (HasLane sizes (record z { keeps = keeps; ports = ports })) posts
same_lanes sizes z keeps ports [] same all = tt
same_lanes sizes z keeps ports (p ∷ posts) same all = (elim all.0 [ inl own ↦ inl own | inr below ↦ inr (rw same below) ], same_lanes sizes z keeps ports posts same all.1)

-- a post that isn't the zone's own goes to an outbox, which has room
pub other_lane : (sizes : Sizes) (z : Zone) (p : Post) (n own : ℕ) → HasLane sizes z p → n ≡ zone_number sizes p.0 → own ≡ z.number → (n ≡ own → ⊥) → n < length z.ports.outboxes
other_lane sizes z p n own (inl same) is own_is other = absurd (other (is ∙ same ∙ sym own_is))
other_lane sizes z p n own (inr below) is own_is other = omega (arith, below, is)

pub room_at : (lanes : List (List Item)) (to : ℕ) (lane : List Item) → AllByRecursion (λ lane. HasRoomIn 1 lane) lanes → slice_get lanes to ≡ Some lane → HasRoomIn 1 lane
room_at lanes to lane all got = every-get (λ (l : List Item). HasRoomIn 1 l) lanes to lane all got
