-- What was seen of a sink, for rows.
use Rattle.std.proofs.Common.{ℕ, List}
use Rattle.disk_model.specs.Streams.{SinkSeen}

-- a sink with these bytes, so often failed
abbrev pub sink : List ℕ → ℕ → SinkSeen
sink held faults = record { held = held; faults = faults }
