-- What `sectors` prints.
use Rattle.std.specs.Prelude.{ℕ, List, [], ◌∷◌, ◌++◌, map, codes, decimal}
use Rattle.std.specs.List.{concat}
use Rattle.blk_base.specs.declared.place.Lba.{Lba}
use Rattle.blk_base.specs.declared.request.Writer.{Writer}
use Rattle.stream_text.specs.Runs.{runs_of, runs_text}
use Rattle.command_text.specs.declared.parts.Space.{Space}
use Rattle.command_text.specs.declared.sectors.SectorAsked.{SectorAsked}
use Rattle.command_text.specs.declared.sectors.SectorAsked.TheVariants.{Read, Write, Flush}
use Rattle.command_text.specs.declared.sectors.SectorAnswer.{SectorAnswer}
use Rattle.command_text.specs.declared.sectors.SectorAnswer.TheVariants.{Ok, Bytes, Range, NoSpace, ReadFault, Stopped, Damaged}
use Rattle.command_text.specs.declared.sectors.SectorLine.{SectorLine}
use Rattle.command_text.specs.Parts.{space_text}

-- the name, the command, the address and the sector, with a space behind each
abbrev pub placed_text : Writer → List ℕ → Lba → ℕ → List ℕ
placed_text w command at sector =
    concat (decimal w.stream ∷ codes " " ∷ decimal w.number ∷ command ∷ decimal at.0 ∷ codes " " ∷ decimal sector ∷ codes " " ∷ [])

-- the name and what was asked for, with a space behind it
abbrev pub asked_text : Writer → SectorAsked → List ℕ
asked_text w (Read at sector) = placed_text w (codes " read ") at sector
asked_text w (Write at sector) = placed_text w (codes " write ") at sector
asked_text w Flush = concat (decimal w.stream ∷ codes " " ∷ decimal w.number ∷ codes " flush " ∷ [])

-- the answer
abbrev pub answer_text : SectorAnswer → List ℕ
answer_text Ok = codes "ok"
answer_text (Bytes bytes) = runs_text (runs_of bytes.now)
answer_text Range = codes "range"
answer_text NoSpace = codes "no space"
answer_text ReadFault = codes "read fault"
answer_text Stopped = codes "stopped"
answer_text Damaged = codes "damaged"

-- the line of a request: there is no place
abbrev pub line_text : SectorLine → List ℕ
line_text line = asked_text line.request line.asked ++ (answer_text line.answer ++ codes "\n")

-- a line for each request
abbrev pub lines_text : List SectorLine → List ℕ
lines_text lines = concat (map line_text lines)

-- the lines, and the space
abbrev pub sectors_text : List SectorLine → Space → List ℕ
sectors_text lines space = lines_text lines ++ space_text space
