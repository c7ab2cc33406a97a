-- A small device, on which a block was written and flushed before the session: its whole log is right after stops, with marks
-- counted from its first call, and isn't where they are counted from the session's; and what `StopsShow` refuses.
use Rattle.std.proofs.Common.{ℕ, None, ◌≡◌, ◌<◌, ◌≤◌, ◌++◌, zero, suc, List, [], ◌∷◌, length, refl, subst, inl, inr, arith}
use Rattle.blk_base.specs.Sectors.{sector, filled_block as block}
use Rattle.blk_base.proofs.SectorLaws.{sectors_tell}
use Rattle.disk_model.specs.declared.call.Call.{Call}
use Rattle.disk_model.specs.Images.{OneOf, IsImage}
use Rattle.disk_model.specs.Log.{Blocks, block_at}
use Rattle.vdo_model.specs.declared.report.HistoryEntry.{HistoryEntry}
use Rattle.vdo_model.specs.declared.report.Mark.TheVariants.{Settled}
use Rattle.vdo_model.specs.declared.report.RunReport.{RunReport}
use Rattle.vdo_model.specs.Stops.{covered, last_value, MayShow, ShowsRight, RightAfterStops}
use Rattle.vdo_model.proofs.Example.{of_a, script, first_lines, first_places, entry, writes, openings, mark}
use Rattle.vdo_model.proofs.AfterStopRows.{device, HasValues, values, earlier, image_of, each_prefix, run as session}
use Rattle.core_stops.specs.Logs.{AreWithin, StopsRight, StopsShow, report_from}
use Rattle.core_stops.proofs.LogLaws.{stops_right}

abbrev report : ℕ → RunReport
report n = record { requests = script; desk = first_lines; marks = mark n ∷ []; receipts = []; places = first_places; histories = entry 1 (of_a 0) Settled ∷ []; damage = None; used = 2; total = 64 }

-- the session by itself: it writes block 1 and flushes; before it, block 11 was written again and flushed

abbrev IsRightAt : ℕ → List Call → ℕ → Blocks → Type 0
IsRightAt n calls size image = (values : ℕ → List ℕ) × HasValues image values × ShowsRight 2 openings (report n) calls size values

abbrev May : ℕ → List Call → ℕ → List ℕ → Type 0
May n calls size value = MayShow script first_lines (mark n ∷ []) calls size (entry 1 (of_a 0) Settled ∷ []) (block 11) value

may_first : (size : ℕ) → May 2 session size (block 1)
may_first size = record { newer = []; shown = entry 1 (of_a 0) Settled ∷ []; part = refl; lasts = tt; value_is = refl; flushed = ((λ late. omega arith), tt); begun = ((λ by_then. omega arith), tt) }

may_opening : (size : ℕ) → (2 ≤ size → ⊥) → May 2 session size (block 11)
may_opening size before = record {
  newer = entry 1 (of_a 0) Settled ∷ [];
  shown = [];
  part = refl;
  lasts = tt;
  value_is = refl;
  flushed = ((λ late. absurd (before late)), tt);
  begun = ((λ by_then. tt), tt);
}

right_with : (size byte : ℕ) (image : Blocks) → May 2 session size (block byte) → sector 0 (block_at image 0) ≡ sector 0 (block byte) → IsRightAt 2 session size image
right_with size byte image may same = (values (block byte), (refl, same), shows)
  where
    shows : ShowsRight 2 openings (report 2) session size (values (block byte))
    shows zero below = record { newer = []; shown = []; part = refl; lasts = tt; value_is = refl; flushed = ((λ late. omega arith), tt); begun = ((λ by_then. tt), tt) }
    shows (suc zero) below = may
    shows (suc (suc a)) below = absurd (omega (arith, below))

at_start : (image : Blocks) → OneOf (λ content. sector 0 (block_at image 0) ≡ sector 0 content) (block 11 ∷ []) → IsRightAt 2 session 0 image
at_start image begins = elim begins [ inl opening ↦ right_with 0 11 image (may_opening 0 (λ late. omega (arith, late))) opening | inr none ↦ absurd none ]

behind_write : (image : Blocks) → OneOf (λ content. sector 0 (block_at image 0) ≡ sector 0 content) (block 1 ∷ block 11 ∷ []) → IsRightAt 2 session 1 image
behind_write image begins = elim begins [
  | inl first ↦ right_with 1 1 image (may_first 1) first
  | inr (inl opening) ↦ right_with 1 11 image (may_opening 1 (λ late. omega (arith, late))) opening
  | inr (inr none) ↦ absurd none
]

behind_flush : (image : Blocks) → OneOf (λ content. sector 0 (block_at image 0) ≡ sector 0 content) (block 1 ∷ []) → IsRightAt 2 session 2 image
behind_flush image begins = elim begins [ inl first ↦ right_with 2 1 image (may_first 2) first | inr none ↦ absurd none ]

session_is_right : RightAfterStops HasValues device (earlier ++ []) 2 openings (report 2) session
session_is_right = each_prefix (λ prefix. (image : Blocks) → IsImage device (prefix ++ earlier) image → IsRightAt 2 session (length prefix) image)
    (λ image is. at_start image (is.sectors 0 (omega arith) 0 (omega arith)))
    (λ image is. behind_write image (is.sectors 0 (omega arith) 0 (omega arith)))
    (λ image is. behind_flush image (is.sectors 0 (omega arith) 0 (omega arith)))

-- what was before it

each_early : (P : List Call → Type 0) → P [] → P (writes 0 (block 11) ∷ []) → P earlier → (later prefix : List Call) → earlier ≡ later ++ prefix → P prefix
each_early P start written flushed [] prefix at = subst P at flushed
each_early P start written flushed (c ∷ []) prefix at = let rest : writes 0 (block 11) ∷ [] ≡ prefix = cc in subst P rest written
each_early P start written flushed (c ∷ c' ∷ []) prefix at = let rest : [] ≡ prefix = cc in subst P rest start
each_early P start written flushed (c ∷ c' ∷ c'' ∷ later) prefix at = absurd cc

abbrev ShowsOpening : Blocks → Type 0
ShowsOpening image = (found : ℕ → List ℕ) × HasValues image found × ((a : ℕ) → a < 2 → found a ≡ openings a)

of_one : (image : Blocks) → sector 0 (block_at image 0) ≡ sector 0 (block 11) → ShowsOpening image
of_one image same = (openings, (refl, same), λ a below. refl)

early_shows : StopsShow HasValues device [] 2 openings earlier
early_shows = each_early (λ prefix. (image : Blocks) → IsImage device (prefix ++ []) image → ShowsOpening image)
    (λ image is. elim (is.sectors 0 (omega arith) 0 (omega arith)) [ inl same ↦ of_one image same | inr none ↦ absurd none ])
    (λ image is. elim (is.sectors 0 (omega arith) 0 (omega arith)) [ inl same ↦ of_one image same | inr (inl same) ↦ of_one image same | inr (inr none) ↦ absurd none ])
    (λ image is. elim (is.sectors 0 (omega arith) 0 (omega arith)) [ inl same ↦ of_one image same | inr none ↦ absurd none ])

-- Of an address that isn't below the logical size nothing is said: of a size of 1, address 1 may have what was written.

each_of_one : (P : List Call → Type 0) → P [] → P (writes 0 (block 9) ∷ []) → (later prefix : List Call) → writes 0 (block 9) ∷ [] ≡ later ++ prefix → P prefix
each_of_one P start written [] prefix at = subst P at written
each_of_one P start written (c ∷ []) prefix at = let rest : [] ≡ prefix = cc in subst P rest start
each_of_one P start written (c ∷ c' ∷ later) prefix at = absurd cc

abbrev ShowsFirst : Blocks → Type 0
ShowsFirst image = (found : ℕ → List ℕ) × HasValues image found × ((a : ℕ) → a < 1 → found a ≡ openings a)

first_of : (image : Blocks) (byte : ℕ) → sector 0 (block_at image 0) ≡ sector 0 (block byte) → ShowsFirst image
first_of image byte same = (values (block byte), (refl, same), λ a below. at a below)
  where
    at : (a : ℕ) → a < 1 → values (block byte) a ≡ openings a
    at zero below = refl
    at (suc a) below = absurd (omega (arith, below))

shows_outside : StopsShow HasValues device [] 1 openings (writes 0 (block 9) ∷ [])
shows_outside = each_of_one (λ prefix. (image : Blocks) → IsImage device (prefix ++ []) image → ShowsFirst image)
    (λ image is. elim (is.sectors 0 (omega arith) 0 (omega arith)) [ inl same ↦ first_of image 11 same | inr none ↦ absurd none ])
    (λ image is. elim (is.sectors 0 (omega arith) 0 (omega arith)) [ inl same ↦ first_of image 9 same | inr (inl same) ↦ first_of image 11 same | inr (inr none) ↦ absurd none ])

-- the mark counts some of the session's calls; none, or more than there are, is refused
mark_within : AreWithin session (mark 2 ∷ [])
mark_within = ((omega arith, omega arith), tt)

mark_of_first : AreWithin session (mark 1 ∷ [])
mark_of_first = ((omega arith, omega arith), tt)

mark_of_nothing : AreWithin session (mark 0 ∷ []) → ⊥
mark_of_nothing within = let some = within.0.0 in omega (arith, some)

mark_of_more : AreWithin session (mark 3 ∷ []) → ⊥
mark_of_more within = let few = within.0.1 in omega (arith, few)

-- so the whole log is right, and its mark counts four calls
counted : report_from 2 (report 2) ≡ report 4
counted = refl

whole_is_right : StopsRight HasValues device [] (session ++ earlier) 2 openings (report 4)
whole_is_right = stops_right HasValues device [] earlier session 2 openings (report 2) mark_within early_shows session_is_right

-- Refused: the mark counted from the session's first call. Before the session the image has block 11.

-- block 11 is no value of an entry, once the flush covers it
shows_first : (found : ℕ → List ℕ) → sector 0 (block 11) ≡ sector 0 (found 1) → (newer shown : List HistoryEntry) → entry 1 (of_a 0) Settled ∷ [] ≡ newer ++ shown
    → found 1 ≡ last_value script (block 11) shown → length (covered first_lines (mark 2) (entry 1 (of_a 0) Settled ∷ [])) ≤ length shown → ⊥
shows_first found same [] shown is value flushed =
    let one = rw (← is) at value in
    let byte : 11 ≡ 1 = sectors_tell 11 1 (rw one at same) in omega (arith, byte)
shows_first found same (e ∷ []) shown is value flushed =
    let none : shown ≡ [] = cc in
    let long = rw none at flushed in omega (arith, long)
shows_first found same (e ∷ e' ∷ newer) shown is value flushed = absurd cc

not_counted : StopsRight HasValues device [] (session ++ earlier) 2 openings (report 2) → ⊥
not_counted right =
    let shown = right session earlier refl (block 11 ∷ []) (image_of earlier 11 (λ i. inl refl)) in
    let may = shown.2 1 (omega arith) in
    shows_first shown.0 shown.1.1 may.newer may.shown may.part may.value_is (may.flushed.0 (omega arith))

-- nor is the length of the log counted from the moment when the program's call began
not_measured : StopsRight HasValues device earlier (session ++ earlier) 2 openings (report 2) → ⊥
not_measured right =
    let shown = right session [] refl (block 11 ∷ []) (image_of earlier 11 (λ i. inl refl)) in
    let may = shown.2 1 (omega arith) in
    shows_first shown.0 shown.1.1 may.newer may.shown may.part may.value_is (may.flushed.0 (omega arith))

-- Refused: a write before the session that shows in an image.
shows_early : StopsShow HasValues device [] 2 openings (writes 0 (block 9) ∷ []) → ⊥
shows_early shows =
    let shown = shows [] (writes 0 (block 9) ∷ []) refl (block 9 ∷ []) (image_of (writes 0 (block 9) ∷ []) 9 (λ i. inl refl)) in
    let is = shown.2 1 (omega arith) in
    let same = shown.1.1 in
    let byte : 9 ≡ 11 = sectors_tell 9 11 (rw is at same) in omega (arith, byte)
