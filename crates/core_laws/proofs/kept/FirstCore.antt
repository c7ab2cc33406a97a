-- One session that can be served, over a new image, and the core at its start: so that there is a legal core, and a fair
-- session.
use Rattle.std.proofs.Common.{◌≡◌, ℕ, zero, suc, ◌+◌, ◌-◌, ◌*◌, ◌<◌, false, None, List, [], ◌∷◌, replicate, refl, sym, subst, ◌∙◌, inl, inr, arith}
use Rattle.plain_laws.proofs.ListLaws.{zero_at}
use Rattle.core_laws.proofs.Common.{AllByRecursion, Desk, DeviceZone, Each, IsFair, IsSession, Item, JournalZone, LogicalZone, Pbn, PhysicalZone, Request, Session, Sizes, Zone, ZoneData, same_Some, zone_count}
use Rattle.blk_base.specs.Sectors.{zero_block}
use Rattle.blk_base.specs.declared.request.Request.TheVariants as request
use Rattle.image_model.proofs.Example.{small, small_is}
use Rattle.image_model.proofs.WholeExample.{empty_image, empty_is, empty_size, empty_whole}
use Rattle.core_model.specs.declared.zones.SuperblockStage.TheVariants.{AsOpened}
use Rattle.core_model.specs.declared.zones.ZoneData.TheVariants as at
use Rattle.core_model.specs.Legal.{Legal}
use Rattle.core_model.specs.Start.{first_log, IsFirstLogical, IsFirstData, IsFirstZone, IsFirst}
use Rattle.core_model.specs.Steps.{Core}
use Rattle.core_laws.proofs.kept.FirstState.{legal_first}
use Rattle.core_laws.proofs.kept.NewImages.{IsNew, new_fair, none_counted}
use Rattle.blk_base.specs.Regions.{slab_start_of}
use Rattle.slab_counts.specs.Counts.{Counts, claims_of, counter_of}
use Rattle.slab_counts.specs.Kept.{IsWithin}
use Rattle.slab_tickets.specs.Tickets.{empty_desk}
use Rattle.zone_counts.proofs.BlockLaws.{foreign_is, home_is}
use Rattle.zone_counts.proofs.FitLaws.{own_or_not}
use Rattle.zone_counts.specs.ByBlock.{claims_in, counter_in}
use Rattle.zone_counts.specs.Zone.{IsZone, index_of, slab_at}
use Rattle.zone_counts.specs.Zone.{Zone as Counted}
use Rattle.core_laws.proofs.lists.Zeros.{zeros_length}
use Rattle.core_laws.proofs.logical.BareTrees.{bare, bare_is}

-- two logical zones over the default sizes, and a script of one stream

abbrev pub sizes : Sizes
sizes = record { geometry = small; start = 1; zones = 2; physical = 1; depth = 2 }

abbrev pub script : List (List Request)
script = (request.Write (record { 0 = 5 }) zero_block false ∷ request.Read (record { 0 = 5 }) ∷ request.Flush ∷ []) ∷ []

-- over the empty image of these sizes
abbrev pub small_session : Session
small_session = record { sizes = sizes; script = script; links = λ page. None; counters = replicate 64 0; blocks = empty_image; before = []; image = empty_image }

pub small_served : IsSession small_session
small_served = record {
  sizes = small_is;
  start = (omega arith, omega arith);
  used = omega arith;
  zones = (omega arith, omega arith);
  limits = record { streams = omega arith; depth = omega arith; requests = omega arith; zones = omega arith; physical = omega arith };
  served = (((zeros_length, refl), (tt, (tt, tt))), tt);
  linked = λ page x none. absurd cc;
  rooted = λ page none. absurd cc;
  counters = record { each = refl; limit = λ k. let none = zero_at 64 k in omega (arith, none) };
}

-- over a new image
small_new : IsNew small_session
small_new = record { empty = empty_is; room = omega (arith, empty_size); whole = λ b below. empty_whole b (omega (arith, below, empty_size)); blocks = refl; unwritten = refl; links = λ page. refl; uncounted = zero_at 64 }

-- and it is fair when it begins
pub small_fair : IsFair small_session []
small_fair = new_fair small_session small_served small_new

-- the core

abbrev no_lanes : List (List Item)
no_lanes = replicate (zone_count sizes) []

pub all_empty : (n : ℕ) → AllByRecursion (λ (lane : List Item). lane ≡ []) (replicate n [])
all_empty zero = tt
all_empty (suc n) = (refl, all_empty n)

abbrev pub empty_zone : ℕ → ZoneData → Zone
empty_zone number keeps = record { number = number; steps = 0; keeps = keeps; ports = record { inbox = []; outboxes = no_lanes } }

abbrev pub logical : ℕ → LogicalZone
logical zone = record { zone = zone; notified = false; next = 0; places = []; held = []; waiting = []; retired = []; tree = bare small zone 2; making = []; lacking = []; settling = []; unlinkable = []; slots = []; reported = [] }

abbrev pub small_desk : Desk
small_desk = record { requests = script; log = []; marks = []; receipts = []; notices = 0; parked = [] }

-- its slab, of which no block is used, and the zone of that
abbrev small_slab : Counts
small_slab = record { geometry = small; slab = 0; counters = replicate 64 0; claims = replicate 64 0; pages = replicate 64 false }

abbrev small_counts : Counted
small_counts = record { geometry = small; zone = 0; zones = 1; slabs = small_slab ∷ []; desk = empty_desk 0 64 }

small_within : IsWithin small_slab
small_within = record { geometry = small_is; slab = omega arith; counters = refl; claims = refl; pages = refl; limit = λ k. let none = zero_at 64 k in omega (arith, none) }

small_zone : IsZone small_counts
small_zone = record {
  slabs = record { sizes = small_is; number = omega arith; all = λ n inside own. omega (arith, inside); each = each };
  desk = refl;
  settled = inl refl;
}
  where
    each : (k : ℕ) → k < 1 → ((slab_at (small_slab ∷ []) k).slab ≡ k * 1 + 0) × ((slab_at (small_slab ∷ []) k).geometry ≡ small) × IsWithin (slab_at (small_slab ∷ []) k)
    each zero inside = (refl, refl, small_within)
    each (suc k) inside = absurd (omega (arith, inside))

none_there : (k : ℕ) (x : Pbn) → (counter_of (slab_at (small_slab ∷ []) k) x ≡ 0) × (claims_of (slab_at (small_slab ∷ []) k) x ≡ 0)
none_there zero x = (zero_at 64 (x.0 - slab_start_of small 0), zero_at 64 (x.0 - slab_start_of small 0))
none_there (suc k) x = (refl, refl)

small_unused : (x : Pbn) → (counter_in x small_counts.slabs ≡ 0) × (claims_in x small_counts.slabs ≡ 0)
small_unused x = elim (own_or_not small_counts x) [
  | inl own ↦
      let home = home_is small_counts x small_zone own in
      let none = none_there (index_of small_counts x) x in
      (home.0 ∙ none.0, home.1 ∙ none.1)
  | inr out ↦ foreign_is small_counts x small_zone out
]

abbrev pub small_physical : PhysicalZone
small_physical = record { notified = false; strays = []; counts = small_counts }

abbrev small_journal : JournalZone
small_journal = record { notified = false; busy = false; broken = false; log = first_log sizes; filling = []; waiting = []; entered = []; committed = [] }

abbrev small_device : DeviceZone
small_device = record { stopped = false; calls = 0; superblock = AsOpened; damage = None }

abbrev pub small_core : Core
small_core = record {
  zones =
      empty_zone 0 (at.Desk small_desk)
      ∷ empty_zone 1 (at.Logical (logical 0))
      ∷ empty_zone 2 (at.Logical (logical 1))
      ∷ empty_zone 3 (at.Physical small_physical)
      ∷ empty_zone 4 (at.Journal small_journal)
      ∷ empty_zone 5 (at.Device small_device)
      ∷ [];
  trace = [];
}

-- of each element of a list that is there
abbrev AllOf : {X : Type 0} → (ℕ → X → Type 0) → List X → Type 0
AllOf P [] = Unit {0}
AllOf P (x ∷ xs) = P 0 x × AllOf (λ i. P (suc i)) xs

each_of : {X : Type 0} (P : ℕ → X → Type 0) (xs : List X) → AllOf P xs → Each P xs
each_of P [] h i y e = absurd (cc)
each_of P (x ∷ xs) h zero y e = subst (P 0) (same_Some _ _ e) h.0
each_of P (x ∷ xs) h (suc i) y e = each_of (λ k. P (suc k)) xs h.1 i y e

empty_first : (number : ℕ) (keeps : ZoneData) → IsFirstData small_session number keeps → IsFirstZone small_session number (empty_zone number keeps)
empty_first number keeps own = record { number_is = refl; steps = refl; lanes = refl; inbox = refl; outboxes = all_empty (zone_count sizes); own = own }

logical_first : (zone : ℕ) → zone < 2 → IsFirstLogical small_session (1 + zone) (logical zone)
logical_first zone below = record { number_is = refl; among = below; notified = refl; next = refl; places = refl; held = refl; waiting = refl; retired = refl; tree = bare_is small zone 2 small_is below (omega arith) refl; making = refl; lacking = refl; unlinkable = refl; settling = refl; reported = refl; slots = refl }

-- The core of this session at its start ..
pub small_first : IsFirst small_session small_core
small_first = record {
  count = refl;
  each = each_of (IsFirstZone small_session) small_core.zones (
    empty_first 0 (at.Desk small_desk) (record { number_is = refl; requests = refl; log = refl; marks = refl; receipts = refl; notices = refl; parked = refl }),
    (
      empty_first 1 (at.Logical (logical 0)) (logical_first 0 (omega arith)),
      (
        empty_first 2 (at.Logical (logical 1)) (logical_first 1 (omega arith)),
        (
          empty_first 3 (at.Physical small_physical) (record {
            number_is = refl;
            notified = refl;
            strays = refl;
            is_zone = small_zone;
            geometry = refl;
            zones = refl;
            counters = λ x own. (small_unused x).0 ∙ sym (none_counted small_session small_served small_new x);
            claims = λ x. (small_unused x).1;
            desk = refl;
            room = (omega arith, omega arith);
          }),
          (
            empty_first 4 (at.Journal small_journal) (record { number_is = refl; notified = refl; busy = refl; broken = refl; log = refl; filling = refl; waiting = refl; entered = refl; committed = refl }),
            (empty_first 5 (at.Device small_device) (record { number_is = refl; stopped = refl; calls = refl; superblock = refl; damage = refl }), tt),
          ),
        ),
      ),
    ),
  );
  trace_is = refl;
}

-- .. is legal.
pub small_legal : Legal small_session small_core
small_legal = legal_first small_session small_core small_first small_served
