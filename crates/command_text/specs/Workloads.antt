-- What `workload` prints.
use Rattle.std.specs.Prelude.{ℕ, List, [], ◌∷◌, ◌++◌, codes, decimal}
use Rattle.std.specs.List.{concat}
use Rattle.command_text.specs.declared.tallies.Tally.{Tally}
use Rattle.command_text.specs.declared.workloads.Summary.{Summary}
use Rattle.command_text.specs.Parts.{known_text, recovered_text}

-- the lines of the requests and of their answers
abbrev pub tally_text : ℕ → Tally → List ℕ
tally_text requests tally =
    concat (codes "requests " ∷ decimal requests ∷ codes "\nok " ∷ decimal tally.ok ∷ codes "\nno space " ∷ decimal tally.no_space
    ∷ codes "\nread sum " ∷ decimal tally.read_sum ∷ codes "\n" ∷ [])

-- and of the space, if it is known
abbrev pub tally_and_space_text : Summary → List ℕ
tally_and_space_text summary = tally_text summary.requests summary.tally ++ known_text summary.space

-- what was recovered, if anything was, and how the requests were answered
abbrev pub summary_text : Summary → List ℕ
summary_text summary = recovered_text summary.recovered ++ tally_and_space_text summary
