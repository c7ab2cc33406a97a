-- What `run` prints.
use Rattle.std.specs.Prelude.{ℕ, List, ◌++◌}
use Rattle.vdo_model.specs.declared.report.DeskLine.{DeskLine}
use Rattle.vdo_model.specs.declared.report.Placed.{Placed}
use Rattle.vdo_model.specs.Scripts.{Script}
use Rattle.stream_text.specs.Texts.{answers_text}
use Rattle.command_text.specs.declared.runs.RunNotes.{RunNotes}
use Rattle.command_text.specs.Parts.{recovered_text, damage_text, known_text}

-- the damage, if there is any, and the space, if it is known
abbrev pub ending_text : RunNotes → List ℕ
ending_text notes = damage_text notes.damage ++ known_text notes.space

-- what was recovered, if anything was, the answers, and the ending
abbrev pub run_text : Script → List DeskLine → List Placed → RunNotes → List ℕ
run_text script desk places notes = recovered_text notes.recovered ++ (answers_text script desk places ++ ending_text notes)
