-- Why a request may be answered: for each answer a trace that has its cause, and for each part of the cause one that lacks it.
use Rattle.std.proofs.Common.{ℕ, zero, suc, ◌≡◌, ◌<◌, true, false, None, Some, List, [], ◌∷◌, refl, ap, inl, inr, arith, subst}
use Rattle.std.proofs.lemmas.Option.{same_Some}
use Rattle.blk_base.specs.declared.place.Mapping.TheVariants.{Unmapped}
use Rattle.blk_base.specs.declared.request.Answer.{Answer}
use Rattle.blk_base.specs.declared.request.Answer.TheVariants.{Ok, Bytes, Range, Stopped, Full, NoSpace, ReadFault, Damaged}
use Rattle.blk_base.specs.declared.request.Request.TheVariants as request
use Rattle.blk_base.specs.declared.request.Writer.{Writer}
use Rattle.blk_base.specs.declared.request.Request.{Request}
use Rattle.blk_base.specs.Forms.{lba as address, pbn as block}
use Rattle.disk_model.specs.declared.call.Call.TheVariants.{Read, Flush}
use Rattle.vdo_model.specs.declared.report.DeskLine.TheVariants.{Begin}
use Rattle.data_vio.specs.declared.logged.Logged.TheVariants.{Remaps}
use Rattle.core_model.specs.Sessions.{Session}
use Rattle.page_codec.specs.declared.fault.PageFault.TheVariants.{Header}
use Rattle.core_model.specs.RightTraces.{HadNoFree, HasCause, MayAnswer, WasRefused}
use Rattle.core_model.specs.Uses.{NoneFree}
use Rattle.plain_laws.specs.Sums.{bit, total}
use Rattle.vdo_model.specs.Places.{place_of}
use Rattle.core_model.specs.Trace.{Gift, Happening, Says, Gives, Takes, Asks, Withdraws, Drops, Aborts, Fails, Harms, Trace, places}
use Rattle.model_rows.proofs.sessions.TicketTraces.{all_but_one, are_before, asks_in, before_last, crowded, crowded_two, each_is_mapped, each_of_two_is_mapped, ends_in, ends_with, has_asked, has_ended, none_but_claimed, none_is_free, one_asked, ticket}
use Rattle.core_model.proofs.WorkedTraces.{x, y, first, reader, second, other, late, flush, session, begun, drawn, took, handed_in, lasting, set, stopped, entry, of_first, of_other, given, in_block}

-- a read of an address, and a write of it
abbrev Reads : Trace → Writer → ℕ → Answer → Type 0
Reads t w a answer = HasCause session t w (request.Read (address a)) answer

abbrev Writes : Trace → Writer → ℕ → Answer → Type 0
Writes t w a answer = HasCause session t w (request.Write (address a) x false) answer

-- A read is answered with the bytes that it was given.
bytes : Reads (Gives (given 2) ∷ set) reader 0 (Bytes x)
bytes = (2, refl)

bytes_it_was_given : Reads (Gives (given 2) ∷ set) reader 0 (Bytes y) → ⊥
bytes_it_was_given may = let same : 1 ≡ 2 = ap first_byte (same_Some _ _ may.1) in absurd (omega (arith, same))
  where
    first_byte : Gift → ℕ
    first_byte g = head g.bytes
      where
        head : List ℕ → ℕ
        head [] = 0
        head (b ∷ bs) = b

bytes_once_given : Reads set reader 0 (Bytes x) → ⊥
bytes_once_given may = let none = may.1 in absurd cc

-- Range: the address isn't below the logical size.
range : Reads begun reader 1000 Range
range = omega arith

range_of_a_write : Writes begun first 1000 Range
range_of_a_write = omega arith

range_outside : Reads begun reader 999 Range → ⊥
range_outside may = absurd (omega (arith, may))

range_of_a_write_outside : Writes begun first 999 Range → ⊥
range_of_a_write_outside may = absurd (omega (arith, may))

-- A read is stopped after a stop, behind a write of its address with a lower place that was aborted.
read_stopped : Reads (Aborts (Remaps of_first) ∷ stopped handed_in) reader 0 Stopped
read_stopped = (refl, record { place = 2; placed = refl; behind = inl (refl, omega arith) })

read_stopped_by_a_stop : Reads (Aborts (Remaps of_first) ∷ handed_in) reader 0 Stopped → ⊥
read_stopped_by_a_stop may = let is = may.0 in absurd cc

read_stopped_by_an_abort : Reads (stopped handed_in) reader 0 Stopped → ⊥
read_stopped_by_an_abort may = may.1.behind

read_stopped_at_its_address : Reads (Aborts (Remaps of_other) ∷ stopped handed_in) reader 0 Stopped → ⊥
read_stopped_at_its_address may = elim may.1.behind [
  | inl other ↦ let same = other.0 in absurd (omega (arith, same))
  | inr none ↦ none
]

read_stopped_behind_it : Reads (Aborts (Remaps (entry second 0 3 Unmapped 86)) ∷ stopped handed_in) reader 0 Stopped → ⊥
read_stopped_behind_it may =
    let placed : 2 ≡ may.1.place = ap (λ p. p.place) (same_Some _ _ may.1.placed) in
    elim may.1.behind [
      | inl later ↦ let less = later.1 in absurd (omega (arith, less, placed))
      | inr none ↦ none
    ]

read_stopped_with_a_place : Reads (Aborts (Remaps of_first) ∷ stopped begun) reader 0 Stopped → ⊥
read_stopped_with_a_place may = let placed = may.1.placed in absurd cc

-- A read has a fault where a read of the device failed that was made for it.
read_fault : Reads (Fails reader (Read (block 85) y false) true ∷ set) reader 0 ReadFault
read_fault = (refl, refl)

read_fault_of_its_own : Reads (Fails late (Read (block 85) y false) true ∷ set) reader 0 ReadFault → ⊥
read_fault_of_its_own may = let is = may.1 in absurd cc

read_fault_of_a_read : Reads (Fails reader (Flush false) true ∷ set) reader 0 ReadFault → ⊥
read_fault_of_a_read may = let is = may.1 in absurd cc

-- Or it is answered as damaged where the leaf doesn't decode that was read for it.
damaged : Reads (Harms reader (block 79) [] Header ∷ took) reader 0 Damaged
damaged = (refl, refl)

damaged_by_its_own : Reads (Harms late (block 79) [] Header ∷ took) reader 0 Damaged → ⊥
damaged_by_its_own may = let is = may.1 in absurd cc

damaged_by_damage : Reads (Fails reader (Read (block 79) y false) true ∷ took) reader 0 Damaged → ⊥
damaged_by_damage may = let is = may.1 in absurd cc

damaged_with_a_place : Reads (Harms reader (block 79) [] Header ∷ begun) reader 0 Damaged → ⊥
damaged_with_a_place may = let placed = may.0 in absurd cc

-- A write is so, and has a read fault, before its entry was handed in.
write_damaged : Writes (Harms first (block 79) [] Header ∷ took) first 0 Damaged
write_damaged = (refl, refl, refl)

write_damaged_by_its_own : Writes (Harms second (block 79) [] Header ∷ took) first 0 Damaged → ⊥
write_damaged_by_its_own may = let is = may.2 in absurd cc

write_damaged_with_a_place : Writes (Harms first (block 79) [] Header ∷ begun) first 0 Damaged → ⊥
write_damaged_with_a_place may = let placed = may.0 in absurd cc

write_damaged_before_it_enters : Writes (Harms first (block 79) [] Header ∷ handed_in) first 0 Damaged → ⊥
write_damaged_before_it_enters may = let entered = may.1 in absurd cc

write_fault : Writes (Fails first (Read (block 79) y false) true ∷ took) first 0 ReadFault
write_fault = (refl, refl, refl)

write_fault_of_its_own : Writes (Fails second (Read (block 79) y false) true ∷ took) first 0 ReadFault → ⊥
write_fault_of_its_own may = let is = may.2 in absurd cc

write_fault_before_it_enters : Writes (Fails first (Read (block 79) y false) true ∷ handed_in) first 0 ReadFault → ⊥
write_fault_before_it_enters may = let entered = may.1 in absurd cc

-- A write is answered Ok once its slot is set.
ok : Writes set first 0 Ok
ok = refl

ok_once_set : Writes lasting first 0 Ok → ⊥
ok_once_set may = absurd cc

-- It is stopped after a stop, where it has its place and its slot isn't set.
write_stopped : Writes (stopped lasting) first 0 Stopped
write_stopped = (refl, refl, refl)

write_stopped_with_a_place : Writes (stopped begun) first 0 Stopped → ⊥
write_stopped_with_a_place may = let placed = may.1 in absurd cc

write_stopped_by_a_stop : Writes lasting first 0 Stopped → ⊥
write_stopped_by_a_stop may = let is = may.0 in absurd cc

write_stopped_by_no_read : Writes (Fails reader (Read (block 85) y false) true ∷ lasting) first 0 Stopped → ⊥
write_stopped_by_no_read may = let is = may.0 in absurd cc

write_stopped_unset : Writes (stopped set) first 0 Stopped → ⊥
write_stopped_unset may = let unset = may.2 in absurd cc

-- Or it is stopped as soon as it is begun, after a stop.
abbrev MayBeStopped : Trace → Request → Type 0
MayBeStopped t r = MayAnswer session t second r Stopped

stopped_at_once : MayBeStopped (Says (Begin second) ∷ stopped []) (request.Write (address 0) y false)
stopped_at_once = inr (omega arith, record { stopped = refl; unset = refl; older = stopped []; begun_last = refl })

at_once_after_a_stop : MayBeStopped (Says (Begin second) ∷ []) (request.Write (address 0) y false) → ⊥
at_once_after_a_stop (inl cause) = let is = cause.0 in absurd cc
at_once_after_a_stop (inr at_once) = let is = at_once.1.stopped in absurd cc

at_once_alone : MayBeStopped (Says (Begin other) ∷ Says (Begin second) ∷ stopped []) (request.Write (address 0) y false) → ⊥
at_once_alone (inl cause) = let placed = cause.1 in absurd cc
at_once_alone (inr at_once) = let same : 1 ≡ 0 = ap begun_number at_once.1.begun_last in absurd (omega (arith, same))
  where
    begun_number : Trace → ℕ
    begun_number (Says (Begin w) ∷ t) = w.number
    begun_number t = 0

-- nor where its address isn't below the logical size
at_once_inside : MayBeStopped (Says (Begin second) ∷ stopped []) (request.Write (address 1000) y false) → ⊥
at_once_inside (inl cause) = let placed = cause.1 in absurd cc
at_once_inside (inr at_once) = let below = at_once.0 in absurd (omega (arith, below))

at_once_of_a_write : MayBeStopped (Says (Begin second) ∷ stopped []) (request.Read (address 0)) → ⊥
at_once_of_a_write may = may.1.behind

-- It is full where the one block of the journal is sealed.
full_journal : Writes in_block second 0 Full
full_journal = (refl, refl, omega arith)

full_with_a_place : Writes in_block late 0 Full → ⊥
full_with_a_place may = let placed = may.0 in absurd cc

full_with_room : Writes took second 0 Full → ⊥
full_with_room may = absurd (omega (arith, may.2))

full_before_it_enters : Writes in_block first 0 Full → ⊥
full_before_it_enters may = let entered = may.1 in absurd cc

-- There is no space where at one moment since it has its place no data block was free, by then it had asked each zone, and no block went
-- to a ticket of these. WasRefused: it asked the zone by that moment, and withdrew that ticket since, without a block.
abbrev withdrawn : Happening
withdrawn = Withdraws second (ticket 0 0) None

refused : WasRefused (withdrawn ∷ []) (one_asked drawn) second 0
refused = record { ticket = ticket 0 0; zone_is = refl; asked = (0, omega arith, refl); withdrawn = (0, omega arith, refl) }

-- in that zone; by the moment, and not since; itself
refused-where_it_asked : WasRefused (withdrawn ∷ []) (one_asked drawn) second 1 → ⊥
refused-where_it_asked was = let found = has_asked second 1 (one_asked drawn) was.ticket was.zone_is was.asked in omega (arith, found)

refused-by_then : WasRefused (withdrawn ∷ one_asked []) drawn second 0 → ⊥
refused-by_then was = let found = has_asked second 0 drawn was.ticket was.zone_is was.asked in omega (arith, found)

refused-itself : WasRefused (Withdraws other (ticket 0 0) None ∷ []) (one_asked drawn) other 0 → ⊥
refused-itself was = let found = has_asked other 0 (one_asked drawn) was.ticket was.zone_is was.asked in omega (arith, found)

-- since, and not before; and without a block
refused-not_before : WasRefused [] (withdrawn ∷ one_asked drawn) second 0 → ⊥
refused-not_before was = let since = was.withdrawn.1 in omega (arith, since)

refused-without_a_block : WasRefused (Withdraws second (ticket 0 0) (Some (block 85)) ∷ []) (one_asked drawn) second 0 → ⊥
refused-without_a_block was = let found = has_ended second 0 (Withdraws second (ticket 0 0) (Some (block 85)) ∷ []) was.ticket was.zone_is was.withdrawn in omega (arith, found)

no_space : HasCause crowded (withdrawn ∷ one_asked drawn) second (request.Write (address 0) x false) NoSpace
no_space = (
  refl,
  refl,
  refl,
  record {
    newer = withdrawn ∷ [];
    older = one_asked drawn;
    moment = refl;
    placed = refl;
    none_free = none_is_free crowded (one_asked drawn) each_is_mapped refl refl;
    refused = λ zone below. let here : 0 ≡ zone = omega (arith, below) in subst (WasRefused (withdrawn ∷ []) (one_asked drawn) second) here refused;
  },
)

-- that a block became free since then is no matter
no_space_then : HadNoFree all_but_one (Drops first (block 85) None ∷ withdrawn ∷ one_asked took) second
no_space_then = record {
  newer = Drops first (block 85) None ∷ withdrawn ∷ [];
  older = one_asked took;
  moment = refl;
  placed = refl;
  none_free = none_but_claimed (one_asked took) refl refl refl;
  refused = λ zone below.
      let here : 0 ≡ zone = omega (arith, below) in
      subst (WasRefused (Drops first (block 85) None ∷ withdrawn ∷ []) (one_asked took) second) here
      (record { ticket = ticket 0 0; zone_is = refl; asked = (0, omega arith, refl); withdrawn = (1, omega arith, refl) });
}

no_space_with_a_place : HasCause crowded drawn late (request.Write (address 0) x false) NoSpace → ⊥
no_space_with_a_place may = let placed = may.0 in absurd cc

no_space_before_it_enters : HasCause crowded handed_in first (request.Write (address 0) x false) NoSpace → ⊥
no_space_before_it_enters may = let entered = may.1 in absurd cc

-- nor one that has a block for its data
no_space_without_a_block : HasCause crowded took first (request.Write (address 0) x false) NoSpace → ⊥
no_space_without_a_block may = let taken = may.2 in absurd cc

-- not while one is free, nor before it has its place
one_is_free : NoneFree session took → ⊥
one_is_free none = none (block 90) (record { slab = 0; offset = 11; inside = (omega arith, omega arith); stands = refl }) refl

no_space_at_a_moment_with_its_place : (s : Session) (t : Trace) (w : Writer) → (h : HadNoFree s t w) → place_of (places h.older) w ≡ None → ⊥
no_space_at_a_moment_with_its_place s t w h none = absurd (let some = rw none at h.placed in cc)

-- nor before it has asked each zone
abbrev asked_both : Trace
asked_both = Asks second (ticket 1 0) ∷ one_asked drawn

no_space_in_both : HadNoFree crowded_two (Withdraws second (ticket 1 0) None ∷ withdrawn ∷ asked_both) second
no_space_in_both = record {
  newer = Withdraws second (ticket 1 0) None ∷ withdrawn ∷ [];
  older = asked_both;
  moment = refl;
  placed = refl;
  none_free = none_is_free crowded_two asked_both each_of_two_is_mapped refl refl;
  refused = by;
}
  where
    by : (zone : ℕ) → zone < 2 → WasRefused (Withdraws second (ticket 1 0) None ∷ withdrawn ∷ []) asked_both second zone
    by zero below = record { ticket = ticket 0 0; zone_is = refl; asked = (1, omega arith, refl); withdrawn = (1, omega arith, refl) }
    by (suc zero) below = record { ticket = ticket 1 0; zone_is = refl; asked = (0, omega arith, refl); withdrawn = (0, omega arith, refl) }
    by (suc (suc zone)) below = absurd (omega (arith, below))

no_space_before_each_was_asked : HadNoFree crowded_two (withdrawn ∷ one_asked drawn) second → ⊥
no_space_before_each_was_asked h =
    let was = h.refused 1 (omega arith) in
    let asked = has_asked second 1 _ _ was.zone_is was.asked in
    let all = ap (total (λ g. bit (asks_in second 1 g))) h.moment in
    omega (arith, asked, all, ends_with (asks_in second 1) h.newer h.older)

-- nor where it asked one zone after the other, and had no ticket of the first any more when it asked the second
abbrev one_by_one : Trace
one_by_one = Withdraws second (ticket 1 0) None ∷ Asks second (ticket 1 0) ∷ withdrawn ∷ one_asked drawn

no_space_zone_by_zone : HadNoFree crowded_two one_by_one second → ⊥
no_space_zone_by_zone h =
    let first_zone = h.refused 0 (omega arith) in
    let second_zone = h.refused 1 (omega arith) in
    let ended = has_ended second 0 _ _ first_zone.zone_is first_zone.withdrawn in
    let asked = has_asked second 1 _ _ second_zone.zone_is second_zone.asked in
    let none = ap (before_last (ends_in 0) (asks_in second 1)) h.moment in
    omega (arith, asked, none, are_before (ends_in 0) (asks_in second 1) h.newer h.older ended)

-- A flush is stopped after a stop, and answered Ok with its mark alone.
flush_stopped : HasCause session (stopped begun) flush request.Flush Stopped
flush_stopped = refl

flush_stopped_by_a_stop : HasCause session begun flush request.Flush Stopped → ⊥
flush_stopped_by_a_stop may = absurd cc

flush_with_its_mark : HasCause session begun flush request.Flush Ok → ⊥
flush_with_its_mark may = may

-- A discard is answered as a write is, but that it is full for want of a block of the journal alone.
abbrev Discards : Trace → Writer → ℕ → Answer → Type 0
Discards t w a answer = HasCause session t w (request.Discard (address a)) answer

discard_ok : Discards set first 0 Ok
discard_ok = refl

discard_ok_once_set : Discards lasting first 0 Ok → ⊥
discard_ok_once_set may = absurd cc

discard_damaged : Discards (Harms first (block 79) [] Header ∷ took) first 0 Damaged
discard_damaged = (refl, refl, refl)

discard_damaged_before_it_enters : Discards (Harms first (block 79) [] Header ∷ handed_in) first 0 Damaged → ⊥
discard_damaged_before_it_enters may = let entered = may.1 in absurd cc

discard_fault : Discards (Fails first (Read (block 79) y false) true ∷ took) first 0 ReadFault
discard_fault = (refl, refl, refl)

discard_fault_of_its_own : Discards (Fails second (Read (block 79) y false) true ∷ took) first 0 ReadFault → ⊥
discard_fault_of_its_own may = let is = may.2 in absurd cc

discard_range : Discards begun first 1000 Range
discard_range = omega arith

discard_range_outside : Discards begun first 999 Range → ⊥
discard_range_outside may = absurd (omega (arith, may))

discard_stopped : Discards (stopped lasting) first 0 Stopped
discard_stopped = (refl, refl, refl)

discard_stopped_with_a_place : Discards (stopped begun) first 0 Stopped → ⊥
discard_stopped_with_a_place may = let placed = may.1 in absurd cc

discard_stopped_by_a_stop : Discards lasting first 0 Stopped → ⊥
discard_stopped_by_a_stop may = let is = may.0 in absurd cc

discard_stopped_unset : Discards (stopped set) first 0 Stopped → ⊥
discard_stopped_unset may = let unset = may.2 in absurd cc

discard_stopped_at_once : MayBeStopped (Says (Begin second) ∷ stopped []) (request.Discard (address 0))
discard_stopped_at_once = inr (omega arith, record { stopped = refl; unset = refl; older = stopped []; begun_last = refl })

discard_stopped_inside : MayBeStopped (Says (Begin second) ∷ stopped []) (request.Discard (address 1000)) → ⊥
discard_stopped_inside (inl cause) = let placed = cause.1 in absurd cc
discard_stopped_inside (inr at_once) = let below = at_once.0 in absurd (omega (arith, below))

discard_full : Discards in_block second 0 Full
discard_full = (refl, refl, omega arith)

discard_full_with_a_place : Discards handed_in late 0 Full → ⊥
discard_full_with_a_place may = let placed = may.0 in absurd cc

discard_full_of_blocks : Discards (Takes second None (block 86) ∷ took) first 0 Full → ⊥
discard_full_of_blocks may = let journal = may.2 in absurd (omega (arith, journal))

discard_full_before_it_enters : Discards handed_in first 0 Full → ⊥
discard_full_before_it_enters may = let entered = may.1 in absurd cc
