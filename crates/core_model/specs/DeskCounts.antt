-- What the desk counts of its log for each stream.
use Rattle.std.specs.Prelude.{ℕ, ◌≡◌, ◌<◌, ◌≤◌, List, length, slice_index_or}
use Rattle.vdo_model.specs.DeskLog.{begun, answered}
use Rattle.vdo_model.specs.Scripts.{Script, stream_of}
use Rattle.vdo_model.specs.declared.report.DeskLine.{DeskLine}
use Rattle.core_model.specs.SessionLimits.{most_streams}

-- there is one number for each stream that a script may have, and it is that of this function
abbrev pub CountEach : (ℕ → ℕ) → List ℕ → Type 0
CountEach count counts = (length counts ≡ most_streams) × ((stream : ℕ) → stream < most_streams → slice_index_or counts stream 0 ≡ count stream)

-- how many requests of each stream are begun
abbrev pub CountBegun : List ℕ → List DeskLine → Type 0
CountBegun counts log = CountEach (λ stream. begun stream log) counts

-- how many requests of each stream are answered
abbrev pub CountAnswered : List ℕ → List DeskLine → Type 0
CountAnswered counts log = CountEach (λ stream. answered stream log) counts

-- each stream from this one on has begun all its requests
abbrev pub AreBegunFrom : ℕ → Script → List DeskLine → Type 0
AreBegunFrom first script log = (stream : ℕ) → first ≤ stream → length (stream_of script stream) ≤ begun stream log
