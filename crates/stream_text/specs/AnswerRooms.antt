-- Room to note the answers and places of one stream.
use Rattle.std.specs.Prelude.{ℕ, ◌<◌, ◌≤◌, length}
use Rattle.vdo_model.specs.Scripts.{Script, stream_of}

-- none of the streams 0 to 15 has more requests than this
abbrev pub HasRoomFor : ℕ → Script → Type 0
HasRoomFor room script = (stream : ℕ) → stream < 16 → length (stream_of script stream) ≤ room
