-- A small session of three streams and two zones, and what happens in it: at these the definitions of a right trace are
-- computed. Its journal takes one block, and two data blocks are free.
use Rattle.std.proofs.Common.{Option, None, Some, ℕ, ◌≡◌, ◌≢◌, ◌∙◌, true, false, List, [], ◌∷◌, ◌++◌, length, replicate, ap, sym, subst, arith, if◌then◌else◌}
use Rattle.std.proofs.lemmas.List.{length-replicate}
use Rattle.image_model.specs.Pages.{is_page}
use Rattle.blk_base.specs.Pages.{leaf_of}
use Rattle.blk_base.specs.Sectors.{zero_block}
use Rattle.blk_base.specs.declared.place.Mapping.{Mapping}
use Rattle.blk_base.specs.declared.place.Mapping.TheVariants.{Unmapped, At}
use Rattle.blk_base.specs.declared.place.PageId.{PageId}
use Rattle.blk_base.specs.declared.place.Pbn.{Pbn}
use Rattle.blk_base.specs.declared.request.Request.TheVariants as request
use Rattle.blk_base.specs.declared.request.Writer.{Writer}
use Rattle.blk_base.specs.Forms.{writer, lba as address, pbn as block}
use Rattle.disk_model.specs.declared.call.Call.TheVariants.{Flush}
use Rattle.vdo_model.specs.declared.report.DeskLine.TheVariants.{Begin}
use Rattle.vdo_model.specs.declared.report.Placed.{Placed}
use Rattle.vdo_model.specs.Scripts.{Script}
use Rattle.data_vio.specs.declared.logged.Logged.TheVariants.{Remaps}
use Rattle.data_vio.specs.declared.sizes.Sizes.{Sizes}
use Rattle.data_vio.specs.declared.logged.Remapping.{Remapping}
use Rattle.core_model.specs.CountUpdates.{CountUpdate, IsNextUpdate, is_counted_in, mapping_of, updates_in, updates_of, updates_taken}
use Rattle.core_model.specs.Sessions.{Session}
use Rattle.data_vio.specs.Zones.{physical_zone_of}
use Rattle.data_vio.specs.declared.logged.Logged.{Logged}
use Rattle.std.proofs.lemmas.Bool.{eqb-true}
use Rattle.core_model.specs.Trace.{Gift, Says, Draws, Enters, Seals, Commits, Adds, Sets, Takes, Fails, Trace}

-- two values
abbrev pub x : List ℕ
x = 1 ∷ []

abbrev pub y : List ℕ
y = 2 ∷ []

-- neither is a block of zeros
zeros_length : length zero_block ≡ 4096
unfolding zero_block
zeros_length = length-replicate {A = ℕ} 4096 0

pub one_not_zeros : x ≢ zero_block
one_not_zeros same = let one : 1 ≡ length zero_block = ap length same in absurd (omega (arith, one, zeros_length))

pub two_not_zeros : y ≢ zero_block
two_not_zeros same = let one : 1 ≡ length zero_block = ap length same in absurd (omega (arith, one, zeros_length))

-- Two writes of address 0, which is in zone 0, and two reads of it; a write of address 812, which is in zone 1; a flush.
abbrev pub script : Script
script =
    (request.Write (address 0) x false ∷ request.Read (address 0) ∷ [])
    ∷ (request.Write (address 0) y false ∷ request.Write (address 812) y false ∷ request.Read (address 0) ∷ [])
    ∷ (request.Flush ∷ [])
    ∷ []

abbrev pub first : Writer
first = writer 0 0

abbrev pub reader : Writer
reader = writer 0 1

abbrev pub second : Writer
second = writer 1 0

abbrev pub other : Writer
other = writer 1 1

abbrev pub late : Writer
late = writer 1 2

abbrev pub flush : Writer
flush = writer 2 0

abbrev pub sizes : Sizes
sizes = record {
  geometry = record { logical = 1000; slabs = 1; slab_blocks = 64; journal = 2; index = 16; slab_journal = 4; height = 2; nonce = 1 };
  start = 1;
  zones = 2;
  physical = 1;
  depth = 2;
}

abbrev pub session : Session
session = record { sizes = sizes; script = script; links = λ page. None; counters = replicate 64 0; blocks = []; before = []; image = [] }

-- an update of a block in the first slab is one of the first physical zone
pub in_first_zone : (of : Sizes) (es : List Logged) (t : Trace) (u : CountUpdate) (x : Pbn) → mapping_of u ≡ At x → physical_zone_of of x ≡ 0 → IsNextUpdate of es t u
    → (rest : List CountUpdate) × (updates_in of 0 (updates_of es) ≡ updates_in of 0 (updates_taken t) ++ u ∷ rest)
in_first_zone of es t u x is home next =
    let zone : 0 ≡ next.zone = sym home ∙ eqb-true (physical_zone_of of x) next.zone (sym (ap (is_counted_in of next.zone) is) ∙ next.own) in
    (next.rest, subst (λ (z : ℕ). updates_in of z (updates_of es) ≡ updates_in of z (updates_taken t) ++ u ∷ next.rest) (sym zone) next.next)

-- the same, where the image links the leaves of both addresses
abbrev pub leaves : PageId → Option Pbn
leaves page = if is_page (leaf_of 0) page then Some (block 79) else if is_page (leaf_of 812) page then Some (block 80) else None

abbrev pub leafy : Session
leafy = record session { links = leaves }

-- the first three requests and the flush are begun; those of blocks have their places
abbrev pub begun : Trace
begun = Says (Begin flush) ∷ Says (Begin other) ∷ Says (Begin second) ∷ Says (Begin reader) ∷ Says (Begin first) ∷ []

abbrev pub place : Writer → ℕ → ℕ → Placed
place w zone n = record { request = w; zone = zone; place = n }

abbrev pub drawn : Trace
drawn = Draws (place other 1 0) ∷ Draws (place reader 0 2) ∷ Draws (place second 0 1) ∷ Draws (place first 0 0) ∷ begun

-- the entries of the writes
abbrev pub entry : Writer → ℕ → ℕ → Mapping → ℕ → Remapping
entry w a n old b = record { request = w; at = address a; place = n; old = old; new = At (block b) }

abbrev pub of_first : Remapping
of_first = entry first 0 0 Unmapped 85

abbrev pub of_second : Remapping
of_second = entry second 0 1 (At (block 85)) 86

abbrev pub of_other : Remapping
of_other = entry other 812 0 Unmapped 86

-- the first write has its block, hands its entry in, has it sealed in a block, committed and counted, and sets its slot
abbrev pub took : Trace
took = Takes first None (block 85) ∷ drawn

abbrev pub handed_in : Trace
handed_in = Enters (Remaps of_first) ∷ took

abbrev pub in_block : Trace
in_block = Seals ∷ handed_in

abbrev pub lasting : Trace
lasting = Commits (Remaps of_first) ∷ in_block

abbrev pub counted : Trace
counted = Adds (Remaps of_first) ∷ lasting

abbrev pub set : Trace
set = Sets (Remaps of_first) ∷ counted

-- a flush of the device failed that was made for the first write
abbrev pub stopped : Trace → Trace
stopped t = Fails first (Flush false) true ∷ t

-- what the reader is given
abbrev pub given : ℕ → Gift
given n = record { request = reader; at = address 0; place = n; bytes = x }
