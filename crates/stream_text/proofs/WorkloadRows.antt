-- The requests of a seed: for each rule a number or a request that it gives.
use Rattle.std.specs.Prelude.{◌≡◌, false, [], ◌∷◌, replicate, refl}
use Rattle.blk_base.specs.declared.request.Request.TheVariants.{Read, Write, Discard, Flush}
use Rattle.blk_base.specs.Sectors.{filled_block}
use Rattle.disk_model.specs.Numbers.{next_state, number_in}
use Rattle.stream_text.specs.Workloads.{drawn_write, drawn_kind, drawn_block, drawn_request, state_before, workload_of}

-- the block's byte is below 32
pub write_drawn : drawn_write 9 0 ≡ record { state = 1442695040888963407; request = Write (record { 0 = 9 }) (filled_block 31) false }
unfolding next_state number_in
write_drawn = refl

pub kind_write : drawn_kind 3 9 0 ≡ drawn_write 9 0
kind_write = refl

pub kind_first_read : drawn_kind 4 9 0 ≡ record { state = 0; request = Read (record { 0 = 9 }) }
kind_first_read = refl

pub kind_last_read : drawn_kind 6 9 0 ≡ record { state = 0; request = Read (record { 0 = 9 }) }
kind_last_read = refl

pub kind_discard : drawn_kind 7 9 0 ≡ record { state = 0; request = Discard (record { 0 = 9 }) }
kind_discard = refl

-- the kind is drawn before the address
pub block_drawn : (drawn_block 1000 0).request ≡ Discard (record { 0 = 424 })
unfolding next_state number_in
block_drawn = refl

pub first_is_no_flush : drawn_request 1000 0 0 ≡ drawn_block 1000 0
first_is_no_flush = refl

pub flush_at_64 : drawn_request 1000 64 5 ≡ record { state = 5; request = Flush }
flush_at_64 = refl

pub no_flush_at_63 : drawn_request 1000 63 0 ≡ drawn_block 1000 0
no_flush_at_63 = refl

pub state_of_seed : state_before 1000 0 0 ≡ 0
state_of_seed = refl

pub state_of_next : state_before 1000 0 1 ≡ next_state (next_state 0)
unfolding next_state number_in
state_of_next = refl

pub workload_empty : workload_of 0 2 1000 0 ≡ replicate 16 []
workload_empty = refl

-- the second is of stream 1
pub workload_dealt : workload_of 0 2 1000 2
    ≡ (Discard (record { 0 = 424 }) ∷ []) ∷ (Write (record { 0 = 236 }) (filled_block 13) false ∷ []) ∷ replicate 14 []
unfolding next_state number_in
workload_dealt = refl
