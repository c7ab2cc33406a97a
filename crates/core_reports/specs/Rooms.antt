-- Room for the report of a session.
use Rattle.std.specs.Prelude.{ℕ, ◌<◌, ◌≤◌, List, length, get_or}
use Rattle.vdo_model.specs.Scripts.{Script, stream_of}
use Rattle.core_model.specs.SessionLimits.{most_streams}

-- there is room to note so many answers of each stream, and none of the streams has more requests
abbrev pub IsRoomFor : List ℕ → Script → Type 0
IsRoomFor room script = (stream : ℕ) → stream < most_streams → length (stream_of script stream) ≤ get_or room stream 0
