-- A run with any setup serves what another one left.
use Rattle.std.proofs.Common.{ℕ, ◌≡◌, ◌+◌, ◌≤◌, ◌^◌, ◌++◌, IsTrue, List, Some, Ok}
use Rattle.disk_model.specs.declared.call.Call.{Call}
use Rattle.disk_model.specs.Images.{IsImage}
use Rattle.disk_model.specs.Log.{Blocks}
use Rattle.disk_model.specs.Seen.{Seen}
use Rattle.disk_model.specs.Trust.{Trust}
use Rattle.image_model.specs.Sound.{IsSound}
use Rattle.core_stops.proofs.EndLaws.{before_flush}
use Rattle.stream_text.specs.WholeScript.{whole_script}
use Rattle.vdo_model.specs.Scripts.{Script}
use Rattle.vdo_cli.specs.declared.words.Change.TheVariants as change
use Rattle.vdo_cli.specs.declared.words.Course.{Course}
use Rattle.vdo_cli.specs.declared.words.Served.TheVariants as served
use Rattle.vdo_cli.specs.Commands.{served_of}
use Rattle.vdo_cli.specs.Complete.{IsComplete, NoneRose}
use Rattle.vdo_cli.specs.Onward.{IsJustMade, MayBegin}
use Rattle.vdo_cli.specs.Outsides.{Outcome, Outside, Setting}
use Rattle.vdo_cli.specs.Runs.{EndsFlushed, EndsSo}
use Rattle.vdo_cli.proofs.CompleteLaws.{run_complete}
use Rattle.vdo_cli.proofs.NextRuns.{good_runnable, script_good}

-- the one image with which a call begins is sound
begins_sound : (trust : Trust) (left : ℕ) (now : Seen) (begin : MayBegin trust left now) → IsSound begin.image
begins_sound trust left now begin = (begin.each begin.image (before_flush now.opening now.log begin.image begin.stands)).0.sound

-- a run with any setup, on what a stop left of another one
pub serves_what_is_left : (s : Setting) (words : List (List ℕ)) (one two : Course) (left : ℕ) (script : Script) (before middle again after : Outside) (first second : Outcome)
    → MayBegin s.device (2 ^ 18 + left) before.device → 2 ^ 20 ≤ 2 ^ 18 + left → EndsFlushed s (change.Script one) before middle first
    → (later prefix : List Call) → middle.device.log ≡ later ++ (prefix ++ before.device.log) → (image : Blocks) → IsImage before.device.opening (prefix ++ before.device.log) image
    → IsJustMade image again.device → IsTrue s.source_tells → served_of words ≡ Some (served.Change (change.Script two)) → whole_script again.source.left ≡ Ok script
    → NoneRose again after → EndsSo s words again after second → IsComplete script second
serves_what_is_left s words one two left script before middle again after first second begin enough ends later prefix parts image stands made tells asked valid none again_ends =
    let runnable = good_runnable s left before middle first begin enough (script_good s left before middle first begin enough one ends) in
    let here : MayBegin s.device left again.device = (runnable later prefix parts image stands).1 again.device made in
    run_complete s words two script again after second here.image (begins_sound s.device left again.device here) here.settles tells asked valid none again_ends
