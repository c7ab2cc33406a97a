-- Right after stops: a small device whose stops show what is right, and for each part of the definition one that doesn't.
use Rattle.std.proofs.Common.{None, ℕ, ◌≡◌, ◌⊎◌, ◌<◌, ◌≤◌, ◌++◌, true, zero, suc, List, [], ◌∷◌, length, refl, subst, inl, inr, arith, if◌then◌else◌, ◌==◌}
use Rattle.std.specs.List.{AllByRecursion}
use Rattle.blk_base.specs.Sectors.{sector, filled_block as block}
use Rattle.blk_base.proofs.SectorLaws.{filled_size, sectors_tell}
use Rattle.disk_model.specs.declared.call.Call.{Call}
use Rattle.disk_model.specs.declared.call.Call.TheVariants.{Flush}
use Rattle.disk_model.specs.Images.{OneOf, IsMixOf, IsImage}
use Rattle.disk_model.specs.Log.{Blocks, block_at, contents}
use Rattle.vdo_model.specs.declared.report.FlushMark.{FlushMark}
use Rattle.vdo_model.specs.declared.report.HistoryEntry.{HistoryEntry}
use Rattle.vdo_model.specs.declared.report.Mark.{Mark}
use Rattle.vdo_model.specs.declared.report.Mark.TheVariants.{Settled, Refused}
use Rattle.vdo_model.specs.declared.report.RunReport.{RunReport}
use Rattle.vdo_model.specs.Stops.{length_at, covered, MayLast, last_value, MayShow, ShowsRight, RightAfterStops}
use Rattle.vdo_model.proofs.Example.{of_a, script, first_lines, first_places, entry, writes, openings, mark}

-- The device has one block, and the first sector of it says which value address 1 has; address 0 was never written.
-- The run is that of the first lines: a writes block 1 to address 1, and flushes.

abbrev pub device : Blocks
device = block 11 ∷ []

abbrev pub HasValues : Blocks → (ℕ → List ℕ) → Type 0
HasValues image values = (values 0 ≡ block 10) × (sector 0 (block_at image 0) ≡ sector 0 (values 1))

abbrev report : List FlushMark → Mark → RunReport
report marks last = record { requests = script; desk = first_lines; marks = marks; receipts = []; places = first_places; histories = entry 1 (of_a 0) last ∷ []; damage = None; used = 0; total = 0 }

-- after stops in these calls, with these ones before the run
abbrev IsRight : List Call → List FlushMark → Mark → List Call → Type 0
IsRight before marks last calls = RightAfterStops HasValues device before 2 openings (report marks last) calls

-- right after a stop that leaves this image, when the log has this length
abbrev IsRightAt : List FlushMark → Mark → List Call → ℕ → Blocks → Type 0
IsRightAt marks last calls size image = (values : ℕ → List ℕ) × HasValues image values × ShowsRight 2 openings (report marks last) calls size values

-- what address 1 may show
abbrev May : List FlushMark → Mark → List Call → ℕ → List ℕ → Type 0
May marks last calls size value = MayShow script first_lines marks calls size (entry 1 (of_a 0) last ∷ []) (block 11) value

-- address 1 may show block 1 whenever a stop comes, and the opening value before the mark
may_first : (n : ℕ) (calls : List Call) (size : ℕ) → May (mark n ∷ []) Settled calls size (block 1)
may_first n calls size = record {
  newer = [];
  shown = entry 1 (of_a 0) Settled ∷ [];
  part = refl;
  lasts = tt;
  value_is = refl;
  flushed = ((λ late. omega arith), tt);
  begun = ((λ by_then. omega arith), tt);
}

may_opening : (n : ℕ) (calls : List Call) (size : ℕ) → (length_at calls n ≤ size → ⊥) → May (mark n ∷ []) Settled calls size (block 11)
may_opening n calls size before = record {
  newer = entry 1 (of_a 0) Settled ∷ [];
  shown = [];
  part = refl;
  lasts = tt;
  value_is = refl;
  flushed = ((λ late. absurd (before late)), tt);
  begun = ((λ by_then. tt), tt);
}

-- the values where address 1 has this one
abbrev pub values : List ℕ → ℕ → List ℕ
values one a = if a == 1 then one else openings a

-- so they are right where address 1 may show it, since address 0 has its opening value
right_with : (n : ℕ) (calls : List Call) (size byte : ℕ) (image : Blocks)
    → May (mark n ∷ []) Settled calls size (block byte) → sector 0 (block_at image 0) ≡ sector 0 (block byte)
    → IsRightAt (mark n ∷ []) Settled calls size image
right_with n calls size byte image may same = (values (block byte), (refl, same), shows)
  where
    shows : ShowsRight 2 openings (report (mark n ∷ []) Settled) calls size (values (block byte))
    shows zero below = record { newer = []; shown = []; part = refl; lasts = tt; value_is = refl; flushed = ((λ late. omega arith), tt); begun = ((λ by_then. tt), tt) }
    shows (suc zero) below = may
    shows (suc (suc a)) below = absurd (omega (arith, below))

-- an image with this block, where each sector is one that a stop may leave
pub image_of : (log : List Call) (byte : ℕ) → ((i : ℕ) → OneOf (λ content. sector i (block byte) ≡ sector i content) (contents device log 0)) → IsImage device log (block byte ∷ [])
image_of log byte each = record { size = refl; whole = whole; sectors = sectors }
  where
    whole : (b : ℕ) → b < 1 → length (block_at (block byte ∷ []) b) ≡ 4096
    whole zero below = filled_size byte
    whole (suc b) below = absurd (omega (arith, below))

    sectors : (b : ℕ) → b < 1 → IsMixOf (contents device log b) (block_at (block byte ∷ []) b)
    sectors zero below i within = each i
    sectors (suc b) below i within = absurd (omega (arith, below))

-- what address 1 has in an image: block 1, where that write may last, or the opening value, where no flush marked by then covers it
abbrev Tells : List FlushMark → Mark → List Call → ℕ → ℕ → Type 0
Tells marks last calls size byte =
    ((byte ≡ 1) × MayLast (entry 1 (of_a 0) last ∷ []))
    ⊎ ((byte ≡ 11) × AllByRecursion (λ mark. length_at calls mark.calls ≤ size → length (covered first_lines mark (entry 1 (of_a 0) last ∷ [])) ≤ 0) marks)

which : (marks : List FlushMark) (last : Mark) (calls : List Call) (size byte : ℕ) → IsRightAt marks last calls size (block byte ∷ []) → Tells marks last calls size byte
which marks last calls size byte right =
    let may = right.2 1 (omega arith) in
    walk may.newer may.shown may.part may.lasts may.value_is may.flushed
  where
    walk : (newer shown : List HistoryEntry) → entry 1 (of_a 0) last ∷ [] ≡ newer ++ shown → MayLast shown
        → right.0 1 ≡ last_value script (block 11) shown
        → AllByRecursion (λ mark. length_at calls mark.calls ≤ size → length (covered first_lines mark (entry 1 (of_a 0) last ∷ [])) ≤ length shown) marks
        → Tells marks last calls size byte
    walk [] shown is lasts value flushed =
        let same = right.1.1 in
        let one = rw (← is) at value in
        inl (sectors_tell byte 1 (rw one at same), rw (← is) at lasts)
    walk (e ∷ []) shown is lasts value flushed =
        let same = right.1.1 in
        let none : shown ≡ [] = cc in
        let opening = rw none at value in
        inr (sectors_tell byte 11 (rw opening at same), rw none at flushed)
    walk (e ∷ e' ∷ newer) shown is lasts value flushed = absurd cc

-- The run is right: before the write, between write and flush, and behind the flush.

abbrev pub run : List Call
run = Flush true ∷ writes 0 (block 1) ∷ []

-- the first sector of this image is that of one of these
abbrev Begins : Blocks → List (List ℕ) → Type 0
Begins image options = OneOf (λ content. sector 0 (block_at image 0) ≡ sector 0 content) options

at_start : (image : Blocks) → Begins image (block 11 ∷ []) → IsRightAt (mark 2 ∷ []) Settled run 0 image
at_start image begins = elim begins [
  | inl opening ↦ right_with 2 run 0 11 image (may_opening 2 run 0 (λ late. omega (arith, late))) opening
  | inr none ↦ absurd none
]

behind_write : (image : Blocks) → Begins image (block 1 ∷ block 11 ∷ []) → IsRightAt (mark 2 ∷ []) Settled run 1 image
behind_write image begins = elim begins [
  | inl first ↦ right_with 2 run 1 1 image (may_first 2 run 1) first
  | inr (inl opening) ↦ right_with 2 run 1 11 image (may_opening 2 run 1 (λ late. omega (arith, late))) opening
  | inr (inr none) ↦ absurd none
]

behind_flush : (image : Blocks) → Begins image (block 1 ∷ []) → IsRightAt (mark 2 ∷ []) Settled run 2 image
behind_flush image begins = elim begins [
  | inl first ↦ right_with 2 run 2 1 image (may_first 2 run 2) first
  | inr none ↦ absurd none
]

-- these are all the prefixes of the run
pub each_prefix : (P : List Call → Type 0) → P [] → P (writes 0 (block 1) ∷ []) → P run → (later prefix : List Call) → run ≡ later ++ prefix → P prefix
each_prefix P start written flushed [] prefix at = subst P at flushed
each_prefix P start written flushed (c ∷ []) prefix at = let rest : writes 0 (block 1) ∷ [] ≡ prefix = cc in subst P rest written
each_prefix P start written flushed (c ∷ c' ∷ []) prefix at = let rest : [] ≡ prefix = cc in subst P rest start
each_prefix P start written flushed (c ∷ c' ∷ c'' ∷ later) prefix at = absurd cc

run_is_right : IsRight [] (mark 2 ∷ []) Settled run
run_is_right = each_prefix (λ prefix. (image : Blocks) → IsImage device (prefix ++ []) image → IsRightAt (mark 2 ∷ []) Settled run (length prefix) image)
    (λ image is. at_start image (is.sectors 0 (omega arith) 0 (omega arith)))
    (λ image is. behind_write image (is.sectors 0 (omega arith) 0 (omega arith)))
    (λ image is. behind_flush image (is.sectors 0 (omega arith) 0 (omega arith)))

-- and so it is where the opening value was written and flushed by an earlier run
abbrev older_device : Blocks
older_device = block 9 ∷ []

abbrev pub earlier : List Call
earlier = Flush true ∷ writes 0 (block 11) ∷ []

second_run_is_right : RightAfterStops HasValues older_device earlier 2 openings (report (mark 2 ∷ []) Settled) run
second_run_is_right = each_prefix (λ prefix. (image : Blocks) → IsImage older_device (prefix ++ earlier) image → IsRightAt (mark 2 ∷ []) Settled run (length prefix) image)
    (λ image is. at_start image (is.sectors 0 (omega arith) 0 (omega arith)))
    (λ image is. behind_write image (is.sectors 0 (omega arith) 0 (omega arith)))
    (λ image is. behind_flush image (is.sectors 0 (omega arith) 0 (omega arith)))

-- each prefix: block 9, which nobody wrote to address 1, stands on the device for one call; behind the last call all is right
abbrev detour : List Call
detour = Flush true ∷ writes 0 (block 1) ∷ writes 0 (block 9) ∷ []

wrong_between : IsRight [] (mark 3 ∷ []) Settled detour → ⊥
wrong_between right = elim (which _ Settled detour 1 9 (right (Flush true ∷ writes 0 (block 1) ∷ []) (writes 0 (block 9) ∷ []) refl (block 9 ∷ []) (image_of _ 9 (λ i. inl refl)))) [
  | inl first ↦ let byte = first.0 in omega (arith, byte)
  | inr opening ↦ let byte = opening.0 in omega (arith, byte)
]

wrong_between_alone : (image : Blocks) → IsImage device detour image → IsRightAt (mark 3 ∷ []) Settled detour 3 image
wrong_between_alone image is = elim (is.sectors 0 (omega arith) 0 (omega arith)) [
  | inl first ↦ right_with 3 detour 3 1 image (may_first 3 detour 3) first
  | inr none ↦ absurd none
]

-- each image: block 1 is that of a write that was refused, and a stop behind it may leave it; that which leaves block 11 is right
refused_write : IsRight [] [] Refused (writes 0 (block 1) ∷ []) → ⊥
refused_write right = elim (which [] Refused _ 1 1 (right [] (writes 0 (block 1) ∷ []) refl (block 1 ∷ []) (image_of _ 1 (λ i. inl refl)))) [
  | inl first ↦ first.1
  | inr opening ↦ let byte = opening.0 in omega (arith, byte)
]

refused_write_alone : IsImage device (writes 0 (block 1) ∷ []) (block 11 ∷ []) × IsRightAt [] Refused (writes 0 (block 1) ∷ []) 1 (block 11 ∷ [])
refused_write_alone = (image_of _ 11 (λ i. inr (inl refl)), (values (block 11), (refl, refl), shows))
  where
    shows : ShowsRight 2 openings (report [] Refused) (writes 0 (block 1) ∷ []) 1 (values (block 11))
    shows zero below = record { newer = []; shown = []; part = refl; lasts = tt; value_is = refl; flushed = tt; begun = tt }
    shows (suc zero) below = record { newer = entry 1 (of_a 0) Refused ∷ []; shown = []; part = refl; lasts = tt; value_is = refl; flushed = tt; begun = tt }
    shows (suc (suc a)) below = absurd (omega (arith, below))

-- the calls before the run: block 9 was written then and is pending, so a stop before the first call may leave it
pending_before : IsRight (writes 0 (block 9) ∷ []) (mark 2 ∷ []) Settled run → ⊥
pending_before right = elim (which _ Settled run 0 9 (right run [] refl (block 9 ∷ []) (image_of _ 9 (λ i. inl refl)))) [
  | inl first ↦ let byte = first.0 in omega (arith, byte)
  | inr opening ↦ let byte = opening.0 in omega (arith, byte)
]

-- the length of the prefix: a flush of the device that follows no write covers none; before it all is right
write_left_out : IsRight [] (mark 1 ∷ []) Settled (Flush true ∷ []) → ⊥
write_left_out right = elim (which _ Settled (Flush true ∷ []) 1 11 (right [] (Flush true ∷ []) refl (block 11 ∷ []) (image_of _ 11 (λ i. inl refl)))) [
  | inl first ↦ let byte = first.0 in omega (arith, byte)
  | inr opening ↦ let long = opening.1.0 (omega arith) in omega (arith, long)
]

write_left_out_alone : (image : Blocks) → IsImage device [] image → IsRightAt (mark 1 ∷ []) Settled (Flush true ∷ []) 0 image
write_left_out_alone image is = elim (is.sectors 0 (omega arith) 0 (omega arith)) [
  | inl opening ↦ right_with 1 _ 0 11 image (may_opening 1 _ 0 (λ late. omega (arith, late))) opening
  | inr none ↦ absurd none
]

-- the values of the image: one that has none isn't right
never_opened : RightAfterStops (λ image values. ⊥) device [] 2 openings (report (mark 2 ∷ []) Settled) run → ⊥
never_opened right = (right run [] refl device (image_of [] 11 (λ i. inl refl))).1
