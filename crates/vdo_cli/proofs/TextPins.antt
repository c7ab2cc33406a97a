-- The texts and the statuses of a run, computed: of each fault its line and its status, and of a desk log the session's.
use Rattle.std.proofs.Common.{ℕ, ◌≡◌, ◌++◌, true, false, List, [], ◌∷◌, Option, Some, None, codes, refl}
use Rattle.std.specs.Prelude.{decimal}
use Rattle.blk_base.specs.declared.place.Lba.{Lba}
use Rattle.blk_base.specs.declared.place.Pbn.{Pbn}
use Rattle.blk_base.specs.declared.request.Answer.TheVariants as reply
use Rattle.grow_image.specs.declared.fault.GrowFault.TheVariants as grow_fault
use Rattle.image_layout.specs.declared.fault.Field.{Field}
use Rattle.image_layout.specs.declared.fault.Field.TheVariants.{Logical}
use Rattle.image_layout.specs.declared.fault.LayoutFault.{LayoutFault}
use Rattle.image_layout.specs.declared.fault.LayoutFault.TheVariants.{LogicalTooLarge}
use Rattle.image_layout.specs.declared.fault.SuperFault.{SuperFault}
use Rattle.image_layout.specs.declared.fault.SuperFault.TheVariants.{NotAnImage, Version}
use Rattle.image_model.specs.declared.fault.ImageFault.TheVariants as image
use Rattle.command_text.proofs.Numerals.{numerals}
use Rattle.command_text.specs.declared.parts.DamagedPlace.TheVariants as place
use Rattle.command_text.specs.declared.parts.Space.{Space}
use Rattle.page_codec.specs.declared.fault.PageFault.{PageFault}
use Rattle.page_codec.specs.declared.fault.PageFault.TheVariants.{Header}
use Rattle.stream_text.specs.declared.refusal.LineFault.TheVariants as line_fault
use Rattle.vdo_model.specs.declared.report.Damage.{Damage}
use Rattle.vdo_model.specs.declared.report.Damage.TheVariants as damage
use Rattle.vdo_model.specs.declared.report.DeskLine.{DeskLine}
use Rattle.vdo_model.specs.declared.report.DeskLine.TheVariants.{Begin, Answer}
use Rattle.vdo_model.specs.declared.report.RunReport.{RunReport}
use Rattle.vdo_model.proofs.Example.{of_a, of_b, full_lines, desk}
use Rattle.vdo_cli.specs.declared.fault.Fault.TheVariants as fault
use Rattle.vdo_cli.specs.Texts.{fault_text, refusal_text, session_notes, fault_status, line_fault_text, is_lost, is_full, some_lost, some_full, served_status, struck_status}

-- line_fault_text: of all kinds
line_faults : (line_fault_text line_fault.TooLong ≡ codes "too long")
    × (line_fault_text line_fault.Word ≡ codes "word")
    × (line_fault_text line_fault.Number ≡ codes "number")
    × (line_fault_text line_fault.Stream ≡ codes "stream")
    × (line_fault_text line_fault.Range ≡ codes "range")
    × (line_fault_text line_fault.BlockLength ≡ codes "block length")
    × (line_fault_text line_fault.TooMany ≡ codes "too many")
line_faults = (refl, refl, refl, refl, refl, refl, refl)

-- fault_text: the line of each fault; the sink's has none
usage_line : fault_text fault.Usage ≡ codes "usage\n"
usage_line = refl

too_long_line : fault_text (fault.Script (record { line = 3; fault = line_fault.TooLong })) ≡ codes "script line " ++ decimal 3 ++ codes ": too long\n"
too_long_line = refl

word_line : fault_text (fault.Script (record { line = 3; fault = line_fault.Word })) ≡ codes "script line " ++ decimal 3 ++ codes ": word\n"
word_line = refl

number_line : fault_text (fault.Script (record { line = 3; fault = line_fault.Number })) ≡ codes "script line " ++ decimal 3 ++ codes ": number\n"
number_line = refl

stream_line : fault_text (fault.Script (record { line = 3; fault = line_fault.Stream })) ≡ codes "script line " ++ decimal 3 ++ codes ": stream\n"
stream_line = refl

range_line : fault_text (fault.Script (record { line = 3; fault = line_fault.Range })) ≡ codes "script line " ++ decimal 3 ++ codes ": range\n"
range_line = refl

block_length_line : fault_text (fault.Script (record { line = 3; fault = line_fault.BlockLength })) ≡ codes "script line " ++ decimal 3 ++ codes ": block length\n"
block_length_line = refl

too_many_line : fault_text (fault.Script (record { line = 3; fault = line_fault.TooMany })) ≡ codes "script line " ++ decimal 3 ++ codes ": too many\n"
too_many_line = refl

layout_line : fault_text (fault.Layout LogicalTooLarge) ≡ codes "layout: logical too large\n"
layout_line = refl

device_line : fault_text fault.Device ≡ codes "device fault\n"
device_line = refl

no_image_line : fault_text (fault.Image (image.Super NotAnImage)) ≡ codes "bad image: not an image\n"
no_image_line = refl

version_line : fault_text (fault.Image (image.Super (Version 7))) ≡ codes "bad image: " ++ (codes "version " ++ decimal 7) ++ codes "\n"
version_line = refl

window_line : fault_text (fault.Image (image.Window 12)) ≡ codes "bad image: " ++ (codes "window " ++ decimal 12) ++ codes "\n"
window_line = refl

counts_line : fault_text (fault.Image (image.Counts (record { 0 = 86 }) 2 1))
    ≡ codes "bad image: " ++ (codes "block " ++ decimal 86 ++ codes " stored " ++ decimal 2 ++ codes " mapped " ++ decimal 1) ++ codes "\n"
counts_line = refl

differs_line : fault_text (fault.Differs 12) ≡ codes "audit differs " ++ decimal 12 ++ codes "\n"
differs_line = refl

smaller_line : fault_text (fault.Grow (grow_fault.Smaller Logical)) ≡ codes "grow: smaller logical\n"
smaller_line = refl

mapped_line : fault_text (fault.Grow (grow_fault.Mapped (record { 0 = 1000 }))) ≡ codes "grow: mapped " ++ decimal 1000 ++ codes "\n"
mapped_line = refl

memory_line : fault_text fault.Memory ≡ codes "no memory\n"
memory_line = refl

read_line : fault_text fault.Read ≡ codes "read fault\n"
read_line = refl

sink_line : fault_text fault.Sink ≡ []
sink_line = refl

-- fault_status: by the kind of the fault
usage_status : fault_status fault.Usage ≡ 2
usage_status = refl

script_status : fault_status (fault.Script (record { line = 3; fault = line_fault.Range })) ≡ 2
script_status = refl

layout_status : (why : LayoutFault) → fault_status (fault.Layout why) ≡ 8
layout_status why = refl

device_status : fault_status fault.Device ≡ 3
device_status = refl

super_status : (why : SuperFault) → fault_status (fault.Image (image.Super why)) ≡ 4
super_status why = refl

page_status : (at : Pbn) (why : PageFault) → fault_status (fault.Image (image.Page at why)) ≡ 4
page_status at why = refl

differs_status : (count : ℕ) → fault_status (fault.Differs count) ≡ 6
differs_status count = refl

smaller_status : (field : Field) → fault_status (fault.Grow (grow_fault.Smaller field)) ≡ 8
smaller_status field = refl

mapped_status : (at : Lba) → fault_status (fault.Grow (grow_fault.Mapped at)) ≡ 4
mapped_status at = refl

window_status : fault_status (fault.Image (image.Window 12)) ≡ 4
window_status = refl

memory_status : fault_status fault.Memory ≡ 5
memory_status = refl

read_status : fault_status fault.Read ≡ 7
read_status = refl

sink_status : fault_status fault.Sink ≡ 7
sink_status = refl

-- is_lost, is_full: of all answers
lost_answers : (b : List ℕ)
    → (is_lost reply.Stopped ≡ true) × (is_lost reply.ReadFault ≡ true) × (is_lost reply.Ok ≡ false) × (is_lost (reply.Bytes b) ≡ false)
    × (is_lost reply.Range ≡ false) × (is_lost reply.NoSpace ≡ false) × (is_lost reply.Full ≡ false) × (is_lost reply.Damaged ≡ true)
lost_answers b = (refl, refl, refl, refl, refl, refl, refl, refl)

full_answers : (b : List ℕ)
    → (is_full reply.Full ≡ true) × (is_full reply.Stopped ≡ false) × (is_full reply.ReadFault ≡ false) × (is_full reply.Ok ≡ false)
    × (is_full (reply.Bytes b) ≡ false) × (is_full reply.Range ≡ false) × (is_full reply.NoSpace ≡ true) × (is_full reply.Damaged ≡ false)
full_answers b = (refl, refl, refl, refl, refl, refl, refl, refl)

-- some_lost, some_full: any line of the log, the newest or not
older_lost : some_lost (Begin (of_b 0) ∷ Answer (of_a 0) reply.Stopped ∷ Begin (of_a 0) ∷ []) ≡ true
older_lost = refl

older_full : some_full (Begin (of_b 0) ∷ full_lines) ≡ true
older_full = refl

-- struck_status: 4 goes before 3, and 3 before what served_status says, 1 before 0
abbrev told : List DeskLine → RunReport
told lines = record { requests = []; desk = lines; marks = []; receipts = []; places = []; histories = []; damage = None; used = 2; total = 64 }

all_right : (struck_status (told desk) ≡ None) × (served_status desk ≡ 0)
all_right = (refl, refl)

nothing_asked : (struck_status (told []) ≡ None) × (served_status [] ≡ 0)
nothing_asked = (refl, refl)

full_status : (struck_status (told full_lines) ≡ None) × (served_status full_lines ≡ 1)
full_status = (refl, refl)

lost_status : struck_status (told (Answer (of_b 0) reply.ReadFault ∷ desk)) ≡ Some 3
lost_status = refl

lost_and_full_status : struck_status (told (Answer (of_b 0) reply.Stopped ∷ full_lines)) ≡ Some 3
lost_and_full_status = refl

abbrev of_page : Damage
of_page = damage.Page (record { 0 = 85 }) Header

damaged_status : struck_status (record (told (Answer (of_b 0) reply.Stopped ∷ full_lines)) { damage = Some of_page }) ≡ Some 4
damaged_status = refl

-- session_notes: what was recovered, the page or the counter that is damaged, and the space
abbrev two_used : Option Space
two_used = Some (record { used = 2; total = 64 })

notes_of_damage : session_notes (Some 30) (record (told []) { damage = Some of_page }) ≡ record { recovered = Some 30; damage = Some (place.Page (record { 0 = 85 })); space = two_used }
notes_of_damage = refl

notes_of_a_stray : session_notes None (record (told []) { damage = Some (damage.Stray (record { 0 = 86 }) 0) }) ≡ record { recovered = None; damage = Some (place.Count (record { 0 = 86 })); space = two_used }
notes_of_a_stray = refl

notes_of_nothing : session_notes None (told []) ≡ record { recovered = None; damage = None; space = two_used }
notes_of_nothing = refl

-- refusal_text: the fault's line, behind that of a recovery
refused_behind_none : refusal_text None fault.Usage ≡ codes "usage\n"
refused_behind_none = refl

refused_behind_some : refusal_text (Some 30) fault.Usage ≡ codes "recovered 30 entries\nusage\n"
refused_behind_some = simp numerals refl
