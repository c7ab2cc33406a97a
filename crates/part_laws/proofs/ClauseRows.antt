-- Of each clause a small case that it refuses, and where `Rows` has none one that it accepts.
use Rattle.std.proofs.Common.{◌≡◌, ℕ, inl, inr, None, Some, List, [], ◌∷◌, true, false, length, refl, ap, arith}
use Rattle.std.proofs.lemmas.Option.{none-some}
use Rattle.blk_base.specs.declared.geometry.Geometry.{Geometry}
use Rattle.handed_parts.specs.Parts.{opening}
use Rattle.recovery_journal.specs.Log.{Log}
use Rattle.recovery_journal.specs.Log as journal
use Rattle.part_laws.specs.Flows.{Flows}
use Rattle.part_laws.specs.KeptParts.{IsInside, IsKeptOf, keeping}
use Rattle.part_laws.specs.Parts.{HasEntry, IsFormed, Logged, Part, Told}
use Rattle.part_laws.specs.Trace.{Hands, Hears, Learns, Needs, Rises, Seals, Sets, Settles, Writes}
use Rattle.part_laws.specs.ReapedEntries.{IsOther, Reaps}
use Rattle.part_laws.specs.RightTraces.{HandMayFollow, MayFollow, RiseMayFollow, SealMayFollow, TellMayFollow}
use Rattle.part_laws.specs.Stillness.{HasAsked, IsStill, need_for}
use Rattle.part_laws.proofs.KeepLaws.{keeps_on, opening_kept}
use Rattle.part_laws.proofs.ReapLaws.{opening_reaps}
use Rattle.part_laws.proofs.WatermarkRows.{entry, first, handed, one, setup}

abbrev part : ℕ → ℕ → Part
part zone n = record { zone = zone; point = record { 0 = n } }

-- HasEntry

has_it : HasEntry entry (record entry { at = 7 } ∷ entry ∷ [])
has_it = inr (inl refl)

has_another : HasEntry entry (record entry { at = 7 } ∷ []) → ⊥
has_another (inl same) = omega (arith, ap (λ (e : Logged). e.at) same)
has_another (inr never) = never

-- IsFormed: `Rows` has one that is
-- adds: the point of an entry is that of the half that adds
of_the_other_half : IsFormed 1 (record { at = 513; parts = [] }) → ⊥
of_the_other_half is = omega (arith, is.adds)

-- halves: each part has the entry's point or the next, and none is there twice
part_of_the_next_entry : IsFormed 1 (record { at = 512; parts = part 0 514 ∷ [] }) → ⊥
part_of_the_next_entry is = omega (arith, (is.halves 0).1)

part_of_the_entry_before : IsFormed 1 (record { at = 512; parts = part 0 511 ∷ [] }) → ⊥
part_of_the_entry_before is = omega (arith, (is.halves 0).0)

part_twice : IsFormed 1 (record { at = 512; parts = part 0 512 ∷ part 0 512 ∷ [] }) → ⊥
part_twice is = omega (arith, (is.halves 0).1.0)

-- inside: each part is of a zone of the session
part_of_no_zone : IsFormed 1 (record { at = 512; parts = part 1 512 ∷ [] }) → ⊥
part_of_no_zone is = omega (arith, is.inside 1 512 (inl refl))

-- AreRising, SealMayFollow: `Rows` has a block that may be sealed
of_an_earlier_block : SealMayFollow setup (record entry { at = 510 } ∷ []) [] → ⊥
of_an_earlier_block may = omega (arith, may.0)

last_of_a_block : SealMayFollow setup (record entry { at = 1022; parts = [] } ∷ []) []
last_of_a_block = (omega arith, record { adds = refl; halves = λ z. omega arith; inside = λ z p has. absurd has }, omega arith)

of_a_later_block : SealMayFollow setup (record entry { at = 1024; parts = [] } ∷ []) [] → ⊥
of_a_later_block may = omega (arith, may.2)

twice_in_a_block : SealMayFollow setup (entry ∷ entry ∷ []) [] → ⊥
twice_in_a_block may = omega (arith, may.2.0)

-- HandMayFollow: the first is handed out, and once
out_of_turn : HandMayFollow entry (Seals (record entry { at = 514 } ∷ entry ∷ []) ∷ []) → ⊥
out_of_turn may = omega (arith, ap (λ (es : List Logged). at_first es) may.1)
  where
    at_first : List Logged → ℕ
    at_first [] = 0
    at_first (e ∷ es) = e.at

handed_twice : HandMayFollow entry handed → ⊥
handed_twice may = omega (arith, ap (λ (es : List Logged). length es) may.1)

-- a part is set once it was handed out, and a change is durable once it was set
set_before : MayFollow setup (Sets 0 512) (Seals (entry ∷ []) ∷ []) → ⊥
set_before may = may

set_elsewhere : MayFollow setup (Sets 1 512) handed → ⊥
set_elsewhere may = elim may [ inl never ↦ never | inr never ↦ never ]

settled_before : MayFollow setup (Settles 0 (512 ∷ [])) handed → ⊥
settled_before may = may 512 (inl refl)

-- TellMayFollow: is_set
told_before : TellMayFollow 0 one handed → ⊥
told_before may = may.is_set

-- is_low: what is set below the low point is durable
told_too_high : TellMayFollow 0 (record { part = None; low = None }) (Sets 0 512 ∷ handed) → ⊥
told_too_high may = may.is_low 512 (inl (refl, refl)) tt

-- exact: the low point is that of a change, which isn't durable
told_of_no_change : TellMayFollow 0 (record { part = None; low = Some 512 }) handed → ⊥
told_of_no_change may = may.exact.0

told_of_a_durable_one : TellMayFollow 0 (record { part = None; low = Some 512 }) (Settles 0 (512 ∷ []) ∷ Sets 0 512 ∷ handed) → ⊥
told_of_a_durable_one may = may.exact.1 (inl (refl, inl refl))

-- RiseMayFollow: above, within; `Rows` has two that are refused by `handled`, and one that is accepted
falls : RiseMayFollow setup 1 (Rises 2 ∷ Seals [] ∷ []) → ⊥
falls may = omega (arith, may.above)

past_the_block_being_filled : RiseMayFollow setup 2 [] → ⊥
past_the_block_being_filled may = omega (arith, may.within)

rises_to_its_block : RiseMayFollow setup 1 (Seals (entry ∷ []) ∷ [])
rises_to_its_block = record {
  above = omega arith;
  within = omega arith;
  handled = λ e is below. absurd (elim is [
    | inl in_it ↦ elim in_it [ inl same ↦ let at = ap (λ (x : Logged). x.at) same in omega (arith, at, below) | inr never ↦ never ]
    | inr never ↦ never
  ]);
}

rises_past_an_empty_block : RiseMayFollow setup 2 (Seals [] ∷ [])
rises_past_an_empty_block = record {
  above = omega arith;
  within = omega arith;
  handled = λ e is below. absurd (elim is [ inl never ↦ never | inr never ↦ never ]);
}

-- IsStill: `Rows` has two traces that are
-- all_handed
one_isnt_handed_out : IsStill setup (Seals (entry ∷ []) ∷ []) → ⊥
one_isnt_handed_out is = omega (arith, ap (λ (es : List Logged). length es) is.all_handed)

-- all_set
one_isnt_set : IsStill setup handed → ⊥
one_isnt_set is = is.all_set 0 512 (inl (inl refl))

-- all_told
one_isnt_told : IsStill setup (Sets 0 512 ∷ handed) → ⊥
one_isnt_told is = is.all_told 0 512 (inl (refl, refl))

-- all_heard
one_isnt_heard : IsStill setup first → ⊥
one_isnt_heard is = omega (arith, ap (λ (xs : List Told). length xs) (is.all_heard 0))

-- low_now
low_was_before : IsStill setup (Settles 0 (512 ∷ []) ∷ Writes 0 ∷ first) → ⊥
low_was_before is = (is.low_now 0).1 (inl (refl, inl refl))

-- no_writing
one_writes : IsStill setup (Writes 0 ∷ []) → ⊥
one_writes is = let no : true ≡ false = is.no_writing 0 in cc

-- all_learned
need_is_on_its_way : IsStill setup (Needs 1023 ∷ []) → ⊥
need_is_on_its_way is = omega (arith, is.all_learned 0 (omega arith))

-- begins
dirty_and_idle : IsStill setup (Learns 0 512 ∷ Needs 512 ∷ first) → ⊥
dirty_and_idle is = is.begins 0 (omega arith) refl 512 (inl (refl, refl)) (omega arith)

-- need_for, HasAsked: a ring of 8 blocks whose block 9 is being filled: block 3 is to be free, so that of block 2 all is needed
needs_block_two : need_for 9 8 ≡ 1535
needs_block_two = refl

asked_for : HasAsked (record { start = 9; zones = 1 }) 8 (Needs 1535 ∷ [])
asked_for = omega arith

asked_for_too_little : HasAsked (record { start = 9; zones = 1 }) 8 (Needs 1534 ∷ []) → ⊥
asked_for_too_little asked = omega (arith, asked)

-- Flows: what was told and not heard is in the inbox or in the lane, in its order
flows : Flows 0 first (one ∷ []) []
flows = refl

lost : Flows 0 first [] [] → ⊥
lost flow = omega (arith, ap (λ (xs : List Told). length xs) flow)

-- IsKeptOf
kept_of_handed : IsKeptOf 1 (keeping (Hands entry) (opening 1 4)) handed
kept_of_handed = keeps_on 1 (Hands entry) (opening 1 4) (Seals (entry ∷ []) ∷ []) tt (keeps_on 1 (Seals (entry ∷ [])) (opening 1 4) [] tt (opening_kept 1 4))

-- count, parts, lows
of_other_zones : IsKeptOf 2 (opening 1 4) [] → ⊥
of_other_zones is = omega (arith, is.count)

part_is_missing : IsKeptOf 1 (opening 1 4) handed → ⊥
part_is_missing is = omega (arith, ap (λ (ps : List ℕ). length ps) (is.parts 0))

low_is_missing : IsKeptOf 1 (opening 1 4) (Hears 0 one ∷ []) → ⊥
low_is_missing is = none-some 512 (is.lows 0 (omega arith))

-- IsInside
of_the_session : IsInside 1 (Hears 0 one)
of_the_session = omega arith

of_no_session : IsInside 1 (Hears 1 one) → ⊥
of_no_session is = omega (arith, is)

-- Reaps: a journal as it is opened

module _ (g : Geometry) where
  abbrev log : Log
  log = journal.opening g 1 1

  reaps : Reaps setup log []
  reaps = opening_reaps setup g

  -- number, count
  another_block : Reaps setup (record log { sequence = 2 }) [] → ⊥
  another_block is = omega (arith, is.number)

  no_zones : Reaps setup (record log { watermarks = [] }) [] → ⊥
  no_zones is = omega (arith, is.count)

  -- watermarks: it has no watermark above that of the trace
  marked_too_high : Reaps setup (record log { watermarks = record { 0 = 514 } ∷ [] }) [] → ⊥
  marked_too_high is = omega (arith, is.watermarks 0 (omega arith))

  -- kept: no entry goes that a zone needs
  left_out_too_soon : Reaps setup (record log { sequence = 2 }) (Seals (entry ∷ []) ∷ []) → ⊥
  left_out_too_soon is = elim (is.kept entry (inl (inl refl))) [ inl never ↦ never | inr low ↦ omega (arith, low 0 (omega arith)) ]

-- IsOther
hands_out : IsOther (Hands entry)
hands_out = tt

seals_one : IsOther (Seals []) → ⊥
seals_one is = is
