-- What `audit` prints.
use Rattle.std.specs.Prelude.{ℕ, List, [], ◌∷◌, ◌++◌, length, map, codes, decimal}
use Rattle.std.specs.List.{concat}
use Rattle.audit.specs.declared.forms.Difference.{Difference}
use Rattle.audit.specs.declared.forms.Report.{Report}
use Rattle.command_text.specs.declared.parts.Space.{Space}
use Rattle.command_text.specs.Parts.{space_text}

-- `block 86 stored 2 mapped 1`
abbrev pub difference_text : Difference → List ℕ
difference_text d =
    concat (codes "block " ∷ decimal d.at.0 ∷ codes " stored " ∷ decimal d.stored ∷ codes " mapped " ∷ decimal d.mapped ∷ codes "\n" ∷ [])

-- `audit differs 1`: how many blocks differ
abbrev pub differs_text : ℕ → List ℕ
differs_text count = concat (codes "audit differs " ∷ decimal count ∷ codes "\n" ∷ [])

-- `audit clean, used 2 of 64`, or so
abbrev pub verdict_text : List Difference → Space → List ℕ
verdict_text [] space = codes "audit clean, " ++ space_text space
verdict_text (d ∷ more) space = differs_text (length (d ∷ more))

-- a line for each block that differs, and then the verdict
abbrev pub findings_text : List Difference → Space → List ℕ
findings_text differences space = concat (map difference_text differences) ++ verdict_text differences space

-- how much of the space is used, by a report
abbrev pub space_of : Report → Space
space_of report = record { used = report.used; total = report.total }

-- those of a report
abbrev pub report_text : Report → List ℕ
report_text report = findings_text report.differs.items (space_of report)
