-- The streams of a script that is read line by line.
use Rattle.std.specs.Prelude.{ℕ, zero, suc, ◌+◌, ◌-◌, nat_le, List, [], ◌∷◌, ◌++◌, length, replicate, slice_set, Result, Ok, Err, if◌then◌else◌}
use Rattle.blk_base.specs.declared.request.Request.{Request}
use Rattle.blk_base.specs.declared.request.Request.TheVariants.{Discard}
use Rattle.vdo_model.specs.Scripts.{Script, stream_of}
use Rattle.stream_text.specs.declared.refusal.LineFault.{LineFault}
use Rattle.stream_text.specs.declared.refusal.LineFault.TheVariants.{TooMany}
use Rattle.stream_text.specs.LineGrammar.{stream_asked}
use Rattle.stream_text.specs.declared.asked.Asked.{Asked}
use Rattle.stream_text.specs.declared.asked.Asked.TheVariants.{One, Discards}

-- no stream has a request
abbrev pub no_requests : Script
no_requests = replicate 16 []

-- discards of so many addresses from this one on
abbrev pub discards : ℕ → ℕ → List Request
discards at zero = []
discards at (suc count) = Discard (record { 0 = at }) ∷ discards (at + 1) count

-- the streams with these requests behind those of one stream
abbrev pub with_requests : Script → ℕ → List Request → Script
with_requests script stream requests = slice_set script stream (stream_of script stream ++ requests)

-- how many requests all streams have
abbrev pub count_of : Script → ℕ
count_of [] = 0
count_of (stream ∷ streams) = length stream + count_of streams

-- the streams, if they don't have too many requests
abbrev pub counted : Script → Result Script LineFault
counted script = if nat_le (count_of script) 65536 then Ok script else Err TooMany

-- the requests that a line asks for
abbrev pub requests_of : Asked → List Request
requests_of (One stream request) = request ∷ []
requests_of (Discards stream at last) = discards at (last - at + 1)

-- the streams with what a line asks for
abbrev pub with_asked : Script → Result Asked LineFault → Result Script LineFault
with_asked script (Ok asked) = counted (with_requests script (stream_asked asked) (requests_of asked))
with_asked script (Err fault) = Err fault
