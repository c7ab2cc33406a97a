-- The requests of a seed, made of the row of numbers that begins with it.
use Rattle.std.specs.Prelude.{ℕ, zero, suc, ◌%◌, ◌==◌, ◌&&◌, nat_lt, false, [], ◌∷◌, if◌then◌else◌}
use Rattle.blk_base.specs.declared.request.Request.TheVariants.{Read, Write, Discard, Flush}
use Rattle.blk_base.specs.Sectors.{filled_block}
use Rattle.disk_model.specs.Numbers.{next_state, number_in}
use Rattle.vdo_model.specs.Scripts.{Script}
use Rattle.stream_text.specs.declared.random_requests.Drawn.{Drawn}
use Rattle.stream_text.specs.StreamRequests.{no_requests, with_requests}

-- a write of a block of one byte, which is drawn last
abbrev pub drawn_write : ℕ → ℕ → Drawn
drawn_write address x = record { state = next_state x; request = Write (record { 0 = address }) (filled_block (number_in (next_state x) % 32)) false }

-- the request of this kind, 0 to 7, at an address
abbrev pub drawn_kind : ℕ → ℕ → ℕ → Drawn
drawn_kind kind address x =
    if nat_lt kind 4 then drawn_write address x else
    (if nat_lt kind 7 then record { state = x; request = Read (record { 0 = address }) } else record { state = x; request = Discard (record { 0 = address }) })

-- a request below the logical size
abbrev pub drawn_block : ℕ → ℕ → Drawn
drawn_block logical x =
    drawn_kind (number_in (next_state x) % 8) (number_in (next_state (next_state x)) % logical) (next_state (next_state x))

-- request `i`: each 64th but the first is a flush, and takes no number
abbrev pub drawn_request : ℕ → ℕ → ℕ → Drawn
drawn_request logical i x = if nat_lt 0 i && (i % 64 == 0) then record { state = x; request = Flush } else drawn_block logical x

-- the state before request `i`
abbrev pub state_before : ℕ → ℕ → ℕ → ℕ
state_before logical seed zero = seed
state_before logical seed (suc i) = (drawn_request logical i (state_before logical seed i)).state

-- the first requests of a seed, dealt out to the streams
abbrev pub workload_of : ℕ → ℕ → ℕ → ℕ → Script
workload_of seed streams logical zero = no_requests
workload_of seed streams logical (suc i) =
    with_requests (workload_of seed streams logical i) (i % streams) ((drawn_request logical i (state_before logical seed i)).request ∷ [])
