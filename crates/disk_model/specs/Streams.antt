-- Sources and sinks of bytes, and those in memory.
use Rattle.std.specs.Prelude.{ℕ, zero, suc, ◌≡◌, ◌++◌, Bool, IsTrue, List, take, Option, Some, None, Result, OnOk, OnErr}
use Rattle.disk_model.specs.Causes.{HasCause}

-- what contracts see of a source: the bytes that are left, and how often a take failed
pub record SourceSeen : Type 0 where
  pub left : List ℕ
  pub faults : ℕ

-- what contracts see of a sink: the bytes that it holds, and how often a put failed
pub record SinkSeen : Type 0 where
  pub held : List ℕ
  pub faults : ℕ

-- a first part of a text was put, or all of it
abbrev pub PutsPart : List ℕ → List ℕ → List ℕ → Type 0
PutsPart old new text = (n : ℕ) × (new ≡ old ++ take n text)

-- a text was put into a sink, which tells or doesn't; or the sink failed
pub record Puts {T E : Type 0} (tells : Bool) (text : List ℕ) (before after : SinkSeen) (result : Result T E) : Type 0 where
  pub ok : IsTrue tells → OnOk result (after.held ≡ before.held ++ text)
  pub err : IsTrue tells → OnErr result (PutsPart before.held after.held text)
  pub cause : HasCause before.faults after.faults result

-- what a contract sees of a source in memory: the bytes that are left, how many takes still go by before the one that
-- fails, and how often one failed
pub record SourceState : Type 0 where
  pub bytes : List ℕ
  pub fails_in : Option ℕ
  pub faults : ℕ

-- as of any source
abbrev pub source_seen : SourceState → SourceSeen
source_seen s = record { left = s.bytes; faults = s.faults }

-- how many takes still go by, after one more
abbrev pub one_fewer : Option ℕ → Option ℕ
one_fewer None = None
one_fewer (Some zero) = None
one_fewer (Some (suc n)) = Some n

-- what a contract sees of a sink in memory: the bytes that it holds, how many it has room for, and how often a put failed
pub record SinkState : Type 0 where
  pub bytes : List ℕ
  pub room : ℕ
  pub faults : ℕ

-- as of any sink
abbrev pub sink_seen : SinkState → SinkSeen
sink_seen s = record { held = s.bytes; faults = s.faults }
