-- Scripts: each stream's list of requests.
use Rattle.std.specs.Prelude.{ℕ, ◌≡◌, ◌==◌, ◌&&◌, Bool, false, List, [], length, Option, Some, None, slice_get, get_or}
use Rattle.blk_base.specs.Sectors.{zero_block}
use Rattle.blk_base.specs.declared.request.Request.{Request}
use Rattle.blk_base.specs.declared.request.Request.TheVariants.{Read, Write, Discard, Flush}
use Rattle.blk_base.specs.declared.request.Writer.{Writer}

-- the requests of each stream
abbrev pub Script : Type 0
Script = List (List Request)

-- the requests of one stream; none where there is no such stream
abbrev pub stream_of : Script → ℕ → List Request
stream_of script stream = get_or script stream []

-- the request of this name
abbrev pub request_at : Script → Writer → Option Request
request_at script w = slice_get (stream_of script w.stream) w.number

-- the address of a block request
abbrev pub address_of : Request → Option ℕ
address_of (Read at) = Some at.0
address_of (Write at block fua) = Some at.0
address_of (Discard at) = Some at.0
address_of Flush = None

-- the value that a write or a discard gives its address
abbrev pub value_written : Option Request → List ℕ
value_written (Some (Write at block fua)) = block
value_written (Some (Read at)) = zero_block
value_written (Some (Discard at)) = zero_block
value_written (Some Flush) = zero_block
value_written None = zero_block

-- a request that is served as yet: a write has a whole block, and isn't forced
abbrev pub IsServed : Request → Type 0
IsServed (Read at) = Unit {0}
IsServed (Write at bytes fua) = (length bytes ≡ 4096) × (fua ≡ false)
IsServed (Discard at) = Unit {0}
IsServed Flush = Unit {0}

-- the same name
abbrev pub same_writer : Writer → Writer → Bool
same_writer v w = (v.stream == w.stream) && (v.number == w.number)
