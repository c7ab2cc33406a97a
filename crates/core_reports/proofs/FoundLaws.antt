-- The marks and histories of requests whose answers are found by notes.
use Rattle.std.proofs.Common.{ℕ, ◌≡◌, ◌<◌, ◌≤◌, ◌+◌, ◌++◌, Bool, Option, Some, None, List, [], ◌∷◌, length, get_or, map, take, drop, reverse, refl, sym, ◌∙◌, ap, subst, arith, length-append}
use Rattle.std.proofs.Math.ListN.{get_or-map}
use Rattle.std.proofs.lemmas.List.{get_or_default, length-reverse, reverse-append, take-append-drop}
use Rattle.std.proofs.lemmas.Option.{same_Some, slice_get-get_or}
use Rattle.std.specs.List.{AllByRecursion}
use Rattle.blk_base.specs.declared.request.Answer.TheVariants as reply
use Rattle.blk_base.specs.declared.place.Lba.{Lba}
use Rattle.blk_base.specs.declared.request.Answer.{Answer as Reply}
use Rattle.blk_base.specs.declared.request.Request.{Request}
use Rattle.blk_base.specs.declared.request.Request.TheVariants as request
use Rattle.blk_base.specs.declared.request.Writer.{Writer}
use Rattle.vdo_model.proofs.NoteLaws.{one_more}
use Rattle.vdo_model.specs.Notes.{NotesAnswer}
use Rattle.plain_laws.proofs.ListLaws.{every-front, every-get}
use Rattle.vdo_model.specs.declared.report.DeskLine.{DeskLine}
use Rattle.vdo_model.specs.declared.report.HistoryEntry.{HistoryEntry}
use Rattle.vdo_model.specs.declared.report.Mark.{Mark}
use Rattle.vdo_model.specs.declared.report.Placed.{Placed}
use Rattle.vdo_model.specs.DeskLog.{answer_of}
use Rattle.vdo_model.specs.Histories.{Progress, entry_of, histories_of, mark_of}
use Rattle.vdo_model.specs.Scripts.{Script, request_at}
use Rattle.core_model.specs.SessionLimits.{most_requests}
use Rattle.core_model.specs.DeskData.{Desk}
use Rattle.data_vio.specs.declared.logged.Logged.{Logged}
use Rattle.core_model.specs.declared.zones.Zone.{Zone}
use Rattle.core_model.specs.declared.zones.ZoneData.{ZoneData}
use Rattle.core_model.specs.declared.zones.ZoneData.TheVariants as at
use Rattle.core_reports.specs.Found.{AreFound, AreNoted, IsFound}
use Rattle.core_reports.specs.Listed.{HasDesk}

-- what is noted of a request that is found
pub noted_right : (lines : List DeskLine) (notes : List (List (Option ℕ))) (w : Writer) → AreNoted lines notes → IsFound (reverse lines) (map length notes) w
    → NotesAnswer lines (reverse lines) w (get_or (get_or notes w.stream []) w.number None)
noted_right lines notes w noted found =
    let room : get_or (map length notes) w.stream 0 ≡ length (get_or notes w.stream []) = get_or-map length notes w.stream [] in
    noted w.stream found.stream w.number (omega (arith, found.number, room))

-- whether its entry was handed in tells of a write that is stopped alone
mark_same : (answer : Reply) (is_set handed other : Bool) → (answer ≡ reply.Stopped → handed ≡ other) → mark_of (Some answer) is_set handed ≡ mark_of (Some answer) is_set other
mark_same reply.Stopped is_set handed other same = ap (mark_of (Some reply.Stopped) is_set) (same refl)
mark_same reply.Ok is_set handed other same = refl
mark_same reply.Full is_set handed other same = refl
mark_same reply.Range is_set handed other same = refl
mark_same (reply.Bytes bytes) is_set handed other same = refl
mark_same reply.NoSpace is_set handed other same = refl
mark_same reply.ReadFault is_set handed other same = refl
mark_same reply.Damaged is_set handed other same = refl

-- the entry of a write or discard with its mark
pub entry_added : (script : Script) (log : List DeskLine) (progress : Progress) (w : Writer) (at : Lba) (marked : Mark) (answer : Reply) (handed : Bool) (old new : List HistoryEntry)
    → answer_of log w ≡ Some answer → (answer_of log w ≡ Some reply.Stopped → progress.is_handed w ≡ handed) → marked ≡ mark_of (Some answer) (progress.is_set w) handed
    → ((mark : Mark) → entry_of (request_at script w) w mark ≡ record { at = at; request = w; mark = mark } ∷ [])
    → new ≡ record { at = at; request = w; mark = marked } ∷ old
    → new ≡ entry_of (request_at script w) w (mark_of (answer_of log w) (progress.is_set w) (progress.is_handed w)) ++ old
entry_added script log progress w at marked answer handed old new answered handed_is is entry new_is =
    let mark : Mark = mark_of (answer_of log w) (progress.is_set w) (progress.is_handed w) in
    let same : marked ≡ mark = is ∙ sym (rw answered (mark_same answer (progress.is_set w) (progress.is_handed w) handed (λ stopped. handed_is (answered ∙ ap Some stopped)))) in
    new_is
    ∙ ap (λ (m : Mark). record { at = at; request = w; mark = m } ∷ old) same
    ∙ ap (λ (es : List HistoryEntry). es ++ old) (sym (entry mark))

-- a request adds one entry at most
entry_few : (asks : Option Request) (w : Writer) (mark : Mark) → length (entry_of asks w mark) ≤ 1
entry_few (Some (request.Write at block fua)) w mark = omega arith
entry_few (Some (request.Discard at)) w mark = omega arith
entry_few (Some (request.Read at)) w mark = omega arith
entry_few (Some request.Flush) w mark = omega arith
entry_few None w mark = omega arith

histories_few : (script : Script) (log : List DeskLine) (progress : Progress) (places : List Placed) → length (histories_of script log progress places) ≤ length places
histories_few script log progress [] = omega arith
histories_few script log progress (p ∷ older) =
    let mark : Mark = mark_of (answer_of log p.request) (progress.is_set p.request) (progress.is_handed p.request) in
    let one : List HistoryEntry = entry_of (request_at script p.request) p.request mark in
    omega (arith, entry_few (request_at script p.request) p.request mark, histories_few script log progress older, length-append one (histories_of script log progress older))

-- what is so of each, whichever stands first
every_unreversed : {X : Type 0} (P : X → Type 0) (xs : List X) → AllByRecursion P (reverse xs) → AllByRecursion P xs
every_unreversed P [] all = tt
every_unreversed P (x ∷ xs) all =
    let parts = every-front P (reverse xs) (x ∷ []) (rw (reverse-append (x ∷ []) xs) at all) in
    (parts.1.0, every_unreversed P xs parts.0)

pub found_at : {X : Type 0} (P : X → Type 0) (xs : List X) (n : ℕ) (x : X) → n < length xs → AllByRecursion P (reverse xs) → P (get_or xs n x)
found_at P xs n x within all = every-get P xs n (get_or xs n x) (every_unreversed P xs all) (slice_get-get_or xs n x within)

-- the first ones are no more than all
first_few : {X : Type 0} (xs : List X) (n : ℕ) → length (reverse (take n xs)) ≤ length xs
first_few xs n =
    let whole = ap length (take-append-drop n xs) in
    omega (arith, whole, length-reverse (take n xs), length-append (take n xs) (drop n xs))

-- one place more
pub entries_more : (script : Script) (log : List DeskLine) (progress : Progress) (places : List Placed) (n : ℕ) (other : Placed) (old new : List HistoryEntry)
    → n < length places → length places ≤ most_requests → old ≡ histories_of script log progress (reverse (take n places))
    → (length old < most_requests + 1 → let w = (get_or places n other).request in
    new ≡ entry_of (request_at script w) w (mark_of (answer_of log w) (progress.is_set w) (progress.is_handed w)) ++ old)
    → new ≡ histories_of script log progress (reverse (take (n + 1) places))
entries_more script log progress places n other old new within few is adds =
    let p : Placed = get_or places n other in
    let next : reverse (take (n + 1) places) ≡ p ∷ reverse (take n places) = one_more places n p within (get_or_default places n other p within) in
    let short = ap (λ (es : List HistoryEntry). length es) is in
    let one : List HistoryEntry = entry_of (request_at script p.request) p.request (mark_of (answer_of log p.request) (progress.is_set p.request) (progress.is_handed p.request)) in
    adds (omega (arith, short, few, first_few places n, histories_few script log progress (reverse (take n places))))
    ∙ ap (λ (es : List HistoryEntry). one ++ es) is
    ∙ ap (λ (ps : List Placed). histories_of script log progress ps) (sym next)

-- the same of the same log and room
pub found_same : (log log' : List DeskLine) (room room' : List ℕ) (entries : List Logged) (progress : Progress) (places : List Placed) → log ≡ log' → room ≡ room'
    → AreFound log room entries progress places → AreFound log' room' entries progress places
found_same log log' room room' entries progress places same_log same_room found =
    subst (λ (lines : List DeskLine). AreFound lines room' entries progress places) same_log
    (subst (λ (counts : List ℕ). AreFound log counts entries progress places) same_room found)

-- a zone that is a desk keeps one desk
abbrev desk_in : Desk → ZoneData → Desk
desk_in other (at.Desk desk) = desk
desk_in other keeps = other

pub desk_is : (zones : List Zone) (desk found : Desk) (zone : Zone) → HasDesk desk zones → 0 < length zones → zone ≡ get_or zones 0 zone → zone.keeps ≡ at.Desk found
    → found ≡ desk
desk_is [] desk found zone has some is keeps = absurd (omega arith)
desk_is (z ∷ zones) desk found zone has some is keeps =
    let first : z ≡ has.zone = same_Some _ _ has.had in
    let same : at.Desk found ≡ at.Desk desk = sym keeps ∙ ap (λ (y : Zone). y.keeps) (is ∙ first) ∙ has.keeps in
    ap (desk_in found) same
