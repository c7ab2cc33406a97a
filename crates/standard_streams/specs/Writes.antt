-- What a stream that is written holds.
use Rattle.std.specs.Prelude.{ℕ, List, ◌++◌, take, Option}
use Rattle.std.specs.declared.io.buffered.BufWriter.{BufWriter}
use Rattle.std.specs.Io.Buffered.{writer_buffer, writer_inner}
use Rattle.std.specs.Io.KnownBytes.{Appends}

-- known bytes grow by a first part of a text, or all of it
abbrev pub AppendsPart : Option (List ℕ) → Option (List ℕ) → List ℕ → Type 0
AppendsPart old new text = (n : ℕ) × Appends old new (take n text)

-- the bytes that a stream holds, and then those that are collected
abbrev pub held_by : {T A : Type 0} → (T → List ℕ) → BufWriter T A → List ℕ
held_by held out = held (writer_inner out) ++ writer_buffer out
