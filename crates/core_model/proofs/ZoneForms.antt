-- Small zones, requests and what they keep, for rows and examples.
use Rattle.std.proofs.Common.{ℕ, Bool, false, None, List, [], ◌∷◌, replicate}
use Rattle.std.specs.Prelude.{slice_set}
use Rattle.blk_base.specs.declared.journal_entry.CommittedEntry.{CommittedEntry}
use Rattle.blk_base.specs.declared.journal_entry.Entry.{Entry}
use Rattle.blk_base.specs.declared.place.Lba.{Lba}
use Rattle.blk_base.specs.declared.place.Mapping.{Mapping}
use Rattle.blk_base.specs.declared.place.Mapping.TheVariants.{At}
use Rattle.block_map_tree.specs.Tree.{Tree}
use Rattle.vdo_model.specs.declared.report.DeskLine.{DeskLine}
use Rattle.vdo_model.specs.declared.report.FlushMark.{FlushMark}
use Rattle.vdo_model.specs.declared.report.Placed.{Placed}
use Rattle.data_vio.specs.declared.logged.Logged.TheVariants.{Remaps}
use Rattle.data_vio.specs.declared.items.Vio.{Vio}
use Rattle.core_model.specs.LogicalData.{Lock}
use Rattle.data_vio.specs.declared.logged.Logged.{Logged}
use Rattle.data_vio.specs.declared.logged.Remapping.{Remapping}
use Rattle.core_model.specs.declared.zones.ZoneData.{ZoneData}
use Rattle.core_model.specs.declared.zones.ZoneData.TheVariants as at
use Rattle.core_model.specs.declared.zones.SuperblockStage.TheVariants.{Durable}
use Rattle.blk_base.specs.Forms.{pbn as block}
use Rattle.slab_counts.specs.Counts.{Counts}
use Rattle.slab_tickets.specs.Tickets.{empty_desk}
use Rattle.zone_counts.specs.Zone.{Zone}
use Rattle.core_model.specs.Steps.{calls}
use Rattle.recovery_journal.specs.Log.{Log, point_at}
use Rattle.core_model.proofs.WorkedTraces.{script, sizes}

-- the desk: its log and its marks, how many stop notices have come, and who waits for them
abbrev pub desk : List DeskLine → List FlushMark → ℕ → List Vio → ZoneData
desk log marks notices parked = at.Desk (record { requests = script; log = log; marks = marks; receipts = []; notices = notices; parked = parked })

-- logical zone 0: its next place and its places, its locks and who waits for one, the retired addresses, and the slots that are set
abbrev pub logical_over : Tree → ℕ → List Placed → List Lock → List Vio → List Lba → List Remapping → ZoneData
logical_over tree next places held waiting retired slots =
    at.Logical (record { zone = 0; notified = false; next = next; places = places; held = held; waiting = waiting; retired = retired; tree = tree; making = []; lacking = []; unlinkable = []; settling = []; reported = []; slots = slots })

-- its trees: the root of the first leads to the leaf of address 0; or to no leaf
abbrev pub tree_with : List Mapping → Tree
tree_with slots = record { forest = record { geometry = sizes.geometry; zone = 0; zones = sizes.zones }; pages = slots ∷ []; dirty_points = [] }

abbrev pub leafy : Tree
leafy = tree_with (At (block 87) ∷ [])

abbrev pub logical : ℕ → List Placed → List Lock → List Vio → List Lba → List Remapping → ZoneData
logical = logical_over leafy

-- the physical zone: of the one slab, whose blocks are 79 to 142, the counters and the claims
abbrev pub slab_with : List ℕ → List ℕ → Counts
slab_with counters claims = record { geometry = sizes.geometry; slab = 0; counters = counters; claims = claims; pages = replicate 64 false }

abbrev pub zone_with : Counts → Zone
zone_with slab = record { geometry = sizes.geometry; zone = 0; zones = 1; slabs = slab ∷ []; desk = empty_desk 0 64 }

abbrev pub physical : List ℕ → List ℕ → ZoneData
physical counters claims = at.Physical (record { notified = false; strays = []; counts = zone_with (slab_with counters claims) })

-- nothing is mapped or claimed; each block is mapped; the six before block 85 are, and this one too; block 85 is claimed
abbrev pub nothing : List ℕ
nothing = replicate 64 0

abbrev pub one : List ℕ
one = slice_set nothing 6 1

-- the log of a ring of two blocks: the sequence and the entries of the block being filled, those of sealed blocks, how many of
-- these were handed out, and which block isn't durable
abbrev pub log_with : ℕ → List Entry → List CommittedEntry → ℕ → ℕ → Log
log_with sequence filling entries handed durable =
    record {
      nonce = 1;
      size = 2;
      sequence = sequence;
      filling = filling;
      entries = entries;
      handed = handed;
      committed = durable;
      watermarks = record { 0 = point_at 1 0 } ∷ [];
    }

-- one that was just begun
abbrev pub empty_log : Log
empty_log = log_with 1 [] [] 0 1

-- entries that remap
abbrev pub all_remap : List Remapping → List Logged
all_remap [] = []
all_remap (e ∷ es) = Remaps e ∷ all_remap es

-- the journal: whether a block is under way, its log, whose entries are in the block being filled, who waits, and the entries
-- that were handed in and are committed
abbrev pub journal : Bool → Log → List Vio → List Vio → List Remapping → List Remapping → ZoneData
journal busy log filling waiting handed_in durable =
    at.Journal (record { notified = false; busy = busy; broken = false; log = log; filling = filling; waiting = waiting; entered = all_remap handed_in; committed = all_remap durable })

abbrev pub device : Bool → ℕ → ZoneData
device stopped made = at.Device (record { stopped = stopped; calls = made; superblock = Durable; damage = None })
