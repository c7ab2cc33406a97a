-- A small device on which a write was answered Ok that no flush covers: a run that keeps it ends right, and one that forgets it
-- doesn't, though each of its stops is right. And for each part of `MayRemain` a value that only this part refuses.
use Rattle.std.proofs.Common.{ℕ, None, ◌≡◌, ◌<◌, ◌++◌, true, false, zero, suc, List, [], ◌∷◌, length, refl, ◌∙◌, ap, subst, inl, inr, arith}
use Rattle.blk_base.specs.Sectors.{sector, filled_block as block}
use Rattle.blk_base.specs.declared.request.Answer.TheVariants as reply
use Rattle.blk_base.proofs.SectorLaws.{sectors_tell}
use Rattle.disk_model.specs.declared.call.Call.{Call}
use Rattle.disk_model.specs.declared.call.Call.TheVariants.{Flush}
use Rattle.disk_model.specs.Images.{IsImage}
use Rattle.disk_model.specs.Log.{Blocks, block_at}
use Rattle.vdo_model.specs.declared.report.DeskLine.TheVariants.{Begin, Answer}
use Rattle.vdo_model.specs.declared.report.HistoryEntry.{HistoryEntry}
use Rattle.vdo_model.specs.declared.report.Mark.{Mark}
use Rattle.vdo_model.specs.declared.report.Mark.TheVariants.{Settled, Unsettled, Refused}
use Rattle.vdo_model.specs.declared.report.RunReport.{RunReport}
use Rattle.vdo_model.specs.LastParts.{last_part}
use Rattle.vdo_model.specs.Histories.{history_of}
use Rattle.vdo_model.specs.Places.{placed}
use Rattle.vdo_model.specs.Stops.{MayShow, RightAfterStops, ShowsRight, last_value}
use Rattle.vdo_model.proofs.Example.{of_a, script, entry, writes, openings}
use Rattle.vdo_model.proofs.AfterStopRows.{device, HasValues, image_of, values}
use Rattle.core_stops.specs.Ends.{EndsRight, MayRemain}
use Rattle.core_stops.proofs.EndLaws.{exact}

-- One address: a writes block 1 there, and then block 2.

abbrev first : Mark → HistoryEntry
first mark = entry 1 (of_a 0) mark

abbrev second : Mark → HistoryEntry
second mark = entry 1 (of_a 2) mark

abbrev May : List HistoryEntry → ℕ → Type 0
May history byte = MayRemain script history (block 11) (block byte)

-- the value of the last settled entry; where there is none, the opening value
keeps_the_last : May (second Settled ∷ first Settled ∷ []) 2
keeps_the_last = record { newer = []; shown = second Settled ∷ first Settled ∷ []; part = refl; lasts = tt; settled = omega arith; value_is = refl }

keeps_below_refused : May (second Refused ∷ first Settled ∷ []) 1
keeps_below_refused = record { newer = second Refused ∷ []; shown = first Settled ∷ []; part = refl; lasts = tt; settled = omega arith; value_is = refl }

keeps_the_opening : May (first Refused ∷ []) 11
keeps_the_opening = record { newer = first Refused ∷ []; shown = []; part = refl; lasts = tt; settled = omega arith; value_is = refl }

-- an unsettled entry may show or not
may_show_unsettled : May (second Unsettled ∷ first Settled ∷ []) 2
may_show_unsettled = record { newer = []; shown = second Unsettled ∷ first Settled ∷ []; part = refl; lasts = tt; settled = omega arith; value_is = refl }

may_pass_unsettled : May (second Unsettled ∷ first Settled ∷ []) 1
may_pass_unsettled = record { newer = second Unsettled ∷ []; shown = first Settled ∷ []; part = refl; lasts = tt; settled = omega arith; value_is = refl }

-- Refused, where no unsettled entry stands above the last settled one: each other value.
abbrev IsAlike : List HistoryEntry → ℕ → Type 0
IsAlike history byte = (last_part true history ≡ last_part false history) × (last_value script (block 11) (last_part false history) ≡ block byte)

only : (history : List HistoryEntry) (byte wanted : ℕ) → IsAlike history wanted → May history byte → byte ≡ wanted
only history byte wanted alike may = sectors_tell byte wanted (ap (sector 0) (exact script history (block 11) (block byte) may alike.0 ∙ alike.1))

-- by `settled`: the opening value, and that of an older entry
forgets_the_only_one : May (first Settled ∷ []) 11 → ⊥
forgets_the_only_one may = let byte = only _ 11 1 (refl, refl) may in omega (arith, byte)

forgets_the_last : May (second Settled ∷ first Settled ∷ []) 1 → ⊥
forgets_the_last may = let byte = only _ 1 2 (refl, refl) may in omega (arith, byte)

-- by `lasts`: that of a refused entry
shows_a_refused_one : May (second Refused ∷ first Settled ∷ []) 2 → ⊥
shows_a_refused_one may = let byte = only _ 2 1 (refl, refl) may in omega (arith, byte)

-- by `part` and `value_is`: that of no entry of the history
shows_another : May (first Settled ∷ []) 2 → ⊥
shows_another may = let byte = only _ 2 1 (refl, refl) may in omega (arith, byte)

-- A device of one block, whose first sector says which value address 1 has. In the run a writes block 1 there, is answered Ok,
-- and asks for no flush.

abbrev report : RunReport
report = record {
  requests = script;
  desk = Answer (of_a 0) reply.Ok ∷ Begin (of_a 0) ∷ [];
  marks = [];
  receipts = [];
  places = placed (of_a 0) 0 0 ∷ [];
  histories = first Settled ∷ [];
  damage = None;
  used = 2;
  total = 64;
}

-- it writes the block, and that is all
abbrev keeping : List Call
keeping = writes 0 (block 1) ∷ []

-- it writes it, and at its end what was there before
abbrev forgetting : List Call
forgetting = writes 0 (block 11) ∷ keeping

kept : (a : ℕ) → a < 2 → MayRemain script (history_of (first Settled ∷ []) a) (openings a) (values (block 1) a)
kept zero below = record { newer = []; shown = []; part = refl; lasts = tt; settled = omega arith; value_is = refl }
kept (suc zero) below = record { newer = []; shown = first Settled ∷ []; part = refl; lasts = tt; settled = omega arith; value_is = refl }
kept (suc (suc a)) below = absurd (omega (arith, below))

keeping_ends_right : EndsRight HasValues device keeping 2 openings report
keeping_ends_right image is = elim (is.sectors 0 (omega arith) 0 (omega arith)) [
  | inl same ↦ (values (block 1), (refl, same), kept)
  | inr none ↦ absurd none
]

-- though a stop at the end without the flush could leave what was there before
keeping_may_stop : IsImage device keeping (block 11 ∷ [])
keeping_may_stop = image_of keeping 11 (λ i. inr (inl refl))

-- The one that forgets doesn't end right ..
forgetting_ends_wrong : EndsRight HasValues device forgetting 2 openings report → ⊥
forgetting_ends_wrong ends =
    let shown = ends (block 11 ∷ []) (image_of (Flush true ∷ forgetting) 11 (λ i. inl refl)) in
    let is = exact script (first Settled ∷ []) (block 11) (shown.0 1) (shown.2 1 (omega arith)) refl in
    let byte : 11 ≡ 1 = sectors_tell 11 1 (shown.1.1 ∙ ap (sector 0) is) in
    omega (arith, byte)

-- .. and each of its stops is right: no flush covers the write.
abbrev IsRightAt : ℕ → Blocks → Type 0
IsRightAt size image = (found : ℕ → List ℕ) × HasValues image found × ShowsRight 2 openings report forgetting size found

right_with : (size byte : ℕ) (image : Blocks) → MayShow script report.desk [] forgetting size (first Settled ∷ []) (block 11) (block byte) → sector 0 (block_at image 0) ≡ sector 0 (block byte)
    → IsRightAt size image
right_with size byte image may same = (values (block byte), (refl, same), shows)
  where
    shows : ShowsRight 2 openings report forgetting size (values (block byte))
    shows zero below = record { newer = []; shown = []; part = refl; lasts = tt; value_is = refl; flushed = tt; begun = tt }
    shows (suc zero) below = may
    shows (suc (suc a)) below = absurd (omega (arith, below))

new_one : (size : ℕ) (image : Blocks) → sector 0 (block_at image 0) ≡ sector 0 (block 1) → IsRightAt size image
new_one size image same = right_with size 1 image (record { newer = []; shown = first Settled ∷ []; part = refl; lasts = tt; value_is = refl; flushed = tt; begun = tt }) same

old_one : (size : ℕ) (image : Blocks) → sector 0 (block_at image 0) ≡ sector 0 (block 11) → IsRightAt size image
old_one size image same = right_with size 11 image (record { newer = first Settled ∷ []; shown = []; part = refl; lasts = tt; value_is = refl; flushed = tt; begun = tt }) same

each_prefix : (P : List Call → Type 0) → P [] → P keeping → P forgetting → (later prefix : List Call) → forgetting ≡ later ++ prefix → P prefix
each_prefix P start written again [] prefix at = subst P at again
each_prefix P start written again (c ∷ []) prefix at = let rest : keeping ≡ prefix = cc in subst P rest written
each_prefix P start written again (c ∷ c' ∷ []) prefix at = let rest : [] ≡ prefix = cc in subst P rest start
each_prefix P start written again (c ∷ c' ∷ c'' ∷ later) prefix at = absurd cc

forgetting_stops_right : RightAfterStops HasValues device [] 2 openings report forgetting
forgetting_stops_right = each_prefix (λ prefix. (image : Blocks) → IsImage device (prefix ++ []) image → IsRightAt (length prefix) image)
    (λ image is. elim (is.sectors 0 (omega arith) 0 (omega arith)) [ inl same ↦ old_one 0 image same | inr none ↦ absurd none ])
    (λ image is. elim (is.sectors 0 (omega arith) 0 (omega arith)) [ inl same ↦ new_one 1 image same | inr (inl same) ↦ old_one 1 image same | inr (inr none) ↦ absurd none ])
    (λ image is. elim (is.sectors 0 (omega arith) 0 (omega arith)) [
      | inl same ↦ old_one 2 image same
      | inr (inl same) ↦ new_one 2 image same
      | inr (inr (inl same)) ↦ old_one 2 image same
      | inr (inr (inr none)) ↦ absurd none
    ])
