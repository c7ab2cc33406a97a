-- Tickets in the small session: who has asked for a data block, and where a block went to a ticket; a session in which no block is
-- free, and one with two physical zones. And what tests find in a trace, which says that a happening isn't there.
use Rattle.std.proofs.Common.{ℕ, zero, suc, ◌≡◌, ◌<◌, ◌≤◌, ◌+◌, ◌*◌, ◌∙◌, Bool, true, false, ◌&&◌, None, Some, [], ◌∷◌, ◌++◌, replicate, if◌then◌else◌, refl, ap, arith, inl, inr, ◌≢◌, get_or-set_other}
use Rattle.std.specs.Prelude.{Contains, nat_eq, slice_set}
use Rattle.std.proofs.lemmas.Bool.Decides.{eqb_tells}
use Rattle.std.proofs.lemmas.List.{get_or-replicate, get_or_append_left}
use Rattle.blk_base.specs.Regions.{IsDataBlock}
use Rattle.blk_base.specs.declared.place.Pbn.{Pbn}
use Rattle.blk_base.specs.declared.request.Writer.{Writer}
use Rattle.blk_base.specs.Forms.{pbn as block}
use Rattle.data_vio.specs.declared.sizes.Sizes.{Sizes}
use Rattle.plain_laws.specs.Sums.{bit, total}
use Rattle.slab_counts.specs.declared.tickets.Ticket.{Ticket}
use Rattle.vdo_model.proofs.NameLaws.{same_self}
use Rattle.vdo_model.specs.Scripts.{same_writer}
use Rattle.std.proofs.lemmas.Bool.{eq-eqb}
use Rattle.zone_counts.proofs.OpenedCounts.{opened_some}
use Rattle.zone_counts.proofs.PlaceLaws.{number_is}
use Rattle.core_model.specs.Sessions.{Session, opened_uses}
use Rattle.core_model.specs.Tokens.{is_block, is_old}
use Rattle.core_model.specs.Trace.{Happening, Trace, Asks, Withdraws, Drops, claimed, removed, unclaimed}
use Rattle.core_model.specs.Uses.{NoneFree, NoneFreeIn}
use Rattle.core_model.proofs.WorkedTraces.{first, other, second, session, sizes}

-- two physical zones, and a slab for each
abbrev pub two : Sizes
two = record sizes { geometry = record sizes.geometry { slabs = 2 }; physical = 2 }

-- the session, where each data block is mapped, and the same of two zones: so none is free while none was let go
abbrev pub crowded : Session
crowded = record session { counters = replicate 64 1 }

abbrev pub crowded_two : Session
crowded_two = record session { sizes = two; counters = replicate 128 1 }

abbrev IsMapped : Session → Type 0
IsMapped s = (x : Pbn) → IsDataBlock s.sizes.geometry x.0 → opened_uses s x ≡ 1

pub each_is_mapped : IsMapped crowded
each_is_mapped x is = opened_some sizes.geometry (replicate 64 1) x is ∙ get_or-replicate 64 (is.slab * 64 + is.offset) 1 0 (let inside = is.inside in omega (arith, inside.0, inside.1))

pub each_of_two_is_mapped : IsMapped crowded_two
each_of_two_is_mapped x is = opened_some two.geometry (replicate 128 1) x is ∙ get_or-replicate 128 (is.slab * 64 + is.offset) 1 0 (let inside = is.inside in omega (arith, inside.0, inside.1))

pub none_is_free : (s : Session) (t : Trace) → IsMapped s → unclaimed t ≡ [] → removed t ≡ [] → NoneFree s t
none_is_free s t each undropped unremoved = λ x is_data free.
    let mapped = each x is_data in
    let none = ap (total (is_block x)) undropped in
    let none' = ap (total (is_old x)) unremoved in
    omega (arith, mapped, none, none', free)

-- the one of two zones, where each block of the first zone is mapped, and none of the second
abbrev pub half_full : Session
half_full = record session { sizes = two; counters = replicate 64 1 ++ replicate 64 0 }

pub none_of_first : (t : Trace) → unclaimed t ≡ [] → removed t ≡ [] → NoneFreeIn half_full t 0
none_of_first t undropped unremoved = λ x is here free.
    let inside = is.inside in
    let number = number_is two.geometry is.slab is.offset x inside.1 is.stands in
    let slab : is.slab ≡ 0 = omega (arith, number, here, inside.0) in
    let below : is.slab * 64 + is.offset < 64 = omega (arith, slab, inside.1) in
    let mapped : opened_uses half_full x ≡ 1
    = opened_some two.geometry half_full.counters x is ∙ get_or_append_left (replicate 64 1) (replicate 64 0) 0 (is.slab * 64 + is.offset) (omega (arith, below)) ∙ get_or-replicate 64 (is.slab * 64 + is.offset) 1 0 below in
    let none = ap (total (is_block x)) undropped in
    let none' = ap (total (is_old x)) unremoved in
    omega (arith, mapped, none, none', free)

-- the one of one zone, where each data block is mapped but block 85; and so none is free while that is claimed
abbrev pub all_but_one : Session
all_but_one = record session { counters = slice_set (replicate 64 1) 6 0 }

pub none_but_claimed : (t : Trace) → claimed t ≡ block 85 ∷ [] → unclaimed t ≡ [] → removed t ≡ [] → NoneFree all_but_one t
none_but_claimed t taken undropped unremoved = λ x is free.
    let none = ap (total (is_block x)) undropped in
    let none' = ap (total (is_old x)) unremoved in
    let held = ap (total (is_block x)) taken in
    elim (eqb_tells 85 x.0) [
      | inl same ↦ let one : total (is_block x) (claimed t) ≡ 1 = held ∙ rw same.0 refl in omega (arith, one, none, none', free)
      | inr differs ↦
          let inside = is.inside in
          let slab : is.slab ≡ 0 = omega (arith, inside.0) in
          let other : is.slab * 64 + is.offset ≢ 6 = λ place. differs.1 (let stands = is.stands in omega (arith, place, slab, stands)) in
          let mapped : opened_uses all_but_one x ≡ 1
          = opened_some sizes.geometry all_but_one.counters x is ∙ get_or-set_other (replicate 64 1) 6 (is.slab * 64 + is.offset) 0 0 other
          ∙ get_or-replicate 64 (is.slab * 64 + is.offset) 1 0 (omega (arith, slab, inside.1)) in
          omega (arith, mapped, none, none', free)
    ]

-- a ticket of this zone, with this number
abbrev pub ticket : ℕ → ℕ → Ticket
ticket zone number = record { zone = zone; number = number; asked = number }

-- the second write was given the first ticket, and then the other one the next; and the block of the first write, which becomes free,
-- went to the first ticket
abbrev pub one_asked : Trace → Trace
one_asked t = Asks second (ticket 0 0) ∷ t

abbrev pub two_asked : Trace → Trace
two_asked t = Asks other (ticket 0 1) ∷ one_asked t

abbrev pub one_has : Trace → Trace
one_has t = Drops first (block 85) (Some 0) ∷ t

-- a request asked a zone for a block; one withdrew a ticket there to which no block went
abbrev pub asks_in : Writer → ℕ → Happening → Bool
asks_in w zone (Asks v k) = same_writer v w && nat_eq k.zone zone
asks_in w zone h = false

abbrev pub ends_in : ℕ → Happening → Bool
ends_in zone (Withdraws v k None) = nat_eq k.zone zone
ends_in zone h = false

-- what is there is found
pub is_found : (test : Happening → Bool) (h : Happening) (t : Trace) → test h ≡ true → Contains t h → 0 < total (λ g. bit (test g)) t
is_found test h [] passes has = absurd (omega (arith, has.1))
is_found test h (g ∷ t) passes (zero, below, is) = let here : bit (test g) ≡ 1 = ap (λ x. bit (test x)) is ∙ ap bit passes in omega (arith, here)
is_found test h (g ∷ t) passes (suc k, below, is) = let later = is_found test h t passes (k, omega (arith, below), is) in omega (arith, later)

pub has_asked : (w : Writer) (zone : ℕ) (t : Trace) (k : Ticket) → k.zone ≡ zone → Contains t (Asks w k) → 0 < total (λ g. bit (asks_in w zone g)) t
has_asked w zone t k of has = is_found (asks_in w zone) (Asks w k) t (rw (same_self w, of) (eq-eqb zone zone refl)) has

pub has_ended : (w : Writer) (zone : ℕ) (t : Trace) (k : Ticket) → k.zone ≡ zone → Contains t (Withdraws w k None) → 0 < total (λ g. bit (ends_in zone g)) t
has_ended w zone t k of has = is_found (ends_in zone) (Withdraws w k None) t (rw of (eq-eqb zone zone refl)) has

-- what stands in a part of a list stands in the list
pub begins_with : (test : Happening → Bool) (newer older : Trace) → total (λ g. bit (test g)) newer ≤ total (λ g. bit (test g)) (newer ++ older)
begins_with test [] older = omega arith
begins_with test (g ∷ newer) older = omega (arith, begins_with test newer older)

pub ends_with : (test : Happening → Bool) (newer older : Trace) → total (λ g. bit (test g)) older ≤ total (λ g. bit (test g)) (newer ++ older)
ends_with test [] older = omega arith
ends_with test (g ∷ newer) older = omega (arith, ends_with test newer older)

-- how many happenings of one kind came before the last of the other kind
abbrev pub before_last : (last test : Happening → Bool) → Trace → ℕ
before_last last test [] = 0
before_last last test (g ∷ t) = if last g then total (λ h. bit (test h)) t else before_last last test t

pub are_before : (last test : Happening → Bool) (newer older : Trace) → 0 < total (λ g. bit (last g)) newer → total (λ g. bit (test g)) older ≤ before_last last test (newer ++ older)
are_before last test [] older some = absurd (omega (arith, some))
are_before last test (g ∷ newer) older some = by (last g) some (ends_with test newer older) (λ later. are_before last test newer older later)
  where
    by : (is : Bool) → 0 < bit is + total (λ h. bit (last h)) newer → total (λ h. bit (test h)) older ≤ total (λ h. bit (test h)) (newer ++ older)
        → (0 < total (λ h. bit (last h)) newer → total (λ h. bit (test h)) older ≤ before_last last test (newer ++ older))
        → total (λ h. bit (test h)) older ≤ (if is then total (λ h. bit (test h)) (newer ++ older) else before_last last test (newer ++ older))
    by true some here later = here
    by false some here later = later (omega (arith, some))
