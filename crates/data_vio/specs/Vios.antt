-- A request under way: what it asked, and what becomes of it.
use Rattle.std.specs.Prelude.{ℕ, ◌+◌, ◌%◌, false, length, Option, None, Some, List, [], ◌∷◌, ◌++◌}
use Rattle.blk_base.specs.declared.place.Lba.{Lba}
use Rattle.blk_base.specs.declared.place.Mapping.{Mapping}
use Rattle.blk_base.specs.declared.place.Mapping.TheVariants.{Unmapped, At}
use Rattle.blk_base.specs.declared.place.PageId.{PageId}
use Rattle.blk_base.specs.declared.place.Pbn.{Pbn}
use Rattle.blk_base.specs.declared.place.ZoneId.{ZoneId}
use Rattle.blk_base.specs.declared.place.ZoneId.TheVariants as id
use Rattle.blk_base.specs.declared.request.Answer.{Answer}
use Rattle.blk_base.specs.declared.request.Request.{Request}
use Rattle.blk_base.specs.declared.request.Request.TheVariants as request
use Rattle.slab_counts.specs.declared.tickets.Receipt.{Receipt}
use Rattle.slab_counts.specs.declared.tickets.Ticket.{Ticket}
use Rattle.blk_base.specs.declared.request.Writer.{Writer}
use Rattle.vdo_model.specs.Places.{zone_of}
use Rattle.data_vio.specs.declared.items.Asks.{Asks}
use Rattle.data_vio.specs.declared.items.Asks.TheVariants.{Read, Write, Discard, Flush}
use Rattle.data_vio.specs.declared.items.Item.{Item}
use Rattle.data_vio.specs.declared.items.Phase.{Phase}
use Rattle.data_vio.specs.declared.items.Phase.TheVariants as phase
use Rattle.data_vio.specs.declared.items.SealedBlock.{SealedBlock}
use Rattle.data_vio.specs.declared.items.Stage.{Stage}
use Rattle.data_vio.specs.declared.items.Vio.{Vio}
use Rattle.data_vio.specs.declared.sizes.Sizes.{Sizes}
use Rattle.data_vio.specs.Zones.{counts_in}
use Rattle.data_vio.specs.declared.logged.Logged.{Logged}
use Rattle.data_vio.specs.declared.logged.Logged.TheVariants.{Remaps}
use Rattle.data_vio.specs.declared.logged.Remapping.{Remapping}
use Rattle.blk_base.specs.declared.journal_entry.Entry.{Entry}
use Rattle.blk_base.specs.declared.journal_entry.Entry.TheVariants as entry
use Rattle.data_vio.specs.declared.logged.Logged.TheVariants.{Makes}

-- a read that was given the bytes of its address
pub record Gift : Type 0 where
  pub request : Writer
  pub at : Lba
  pub place : ℕ
  pub bytes : List ℕ

-- the entry of the journal
abbrev pub entry_of : Logged → Entry
entry_of (Remaps e) = entry.Remap e.at e.old e.new
entry_of (Makes p) = entry.NewPage p.page p.at

-- an item, with the zone that it goes to
abbrev pub Post : Type 0
Post = ZoneId × Item

-- the request of the script that asks for this
abbrev pub asked : Asks → Lba → List ℕ → Request
asked Read at bytes = request.Read at
asked Write at bytes = request.Write at bytes false
asked Discard at bytes = request.Discard at
asked Flush at bytes = request.Flush

abbrev pub request_of : Vio → Request
request_of v = asked v.asks v.at v.bytes

-- a request for an address when it is begun
abbrev pub begun_vio : Sizes → Writer → Asks → Lba → List ℕ → Vio
begun_vio sizes w asks at bytes =
    record {
      request = w;
      asks = asks;
      at = at;
      home = id.Logical (zone_of sizes.zones at.0);
      phase = phase.Arrive;
      page = None;
      leaf = None;
      bytes = bytes;
      place = 0;
      old = Unmapped;
      latest = None;
      new = Unmapped;
      claim = None;
      tickets = [];
      receipt = None;
      answer = None;
      calls = 0;
    }

-- it goes on to another phase
abbrev pub turned : Phase → Vio → Vio
turned next v = record v { phase = next }

-- it is to be answered so, and goes on to another phase
abbrev pub ended : Phase → Answer → Vio → Vio
ended next answer v = record v { phase = next; answer = Some answer }

-- it has a claim on this block, for its data or for the page that it makes
abbrev pub claiming : Pbn → Vio → Vio
claiming x v = record v { phase = phase.Store; new = At x; claim = Some x }

-- it has one more ticket; it has asked each zone; and a ticket was withdrawn to which no block went
abbrev pub holding : Ticket → Vio → Vio
holding k v = record v { tickets = v.tickets ++ k ∷ [] }

abbrev pub withdrawing : Vio → Vio
withdrawing v = record v { phase = phase.Withdraw; new = Unmapped }

abbrev pub refused : Receipt → Vio → Vio
refused receipt v = record v { receipt = Some receipt }

-- it has these tickets alone
abbrev pub with_tickets : List Ticket → Vio → Vio
with_tickets tickets v = record v { tickets = tickets }

-- it has no claim any more, and goes on to another phase
abbrev pub unclaiming : Phase → Vio → Vio
unclaiming next v = record v { phase = next; claim = None }

-- the leaf of its address, at this block, is read first
abbrev pub reads_leaf : Pbn → Vio → Vio
reads_leaf x v = record v { phase = phase.LoadLeaf; leaf = Some x; latest = None }

-- and says what its address is mapped to
abbrev pub has_leaf : Mapping → Vio → Vio
has_leaf mapping v = record v { phase = phase.LoadedLeaf; leaf = None; old = mapping }

-- it makes a page, and when that is made it looks up its own address again
abbrev pub makes : PageId → Vio → Vio
makes page v = record v { phase = phase.Claim; page = Some page }

abbrev pub made : Vio → Vio
made v = record v { phase = phase.Look; page = None; new = Unmapped }

-- or it makes it no more, and is answered
abbrev pub gives_up : Vio → Vio
gives_up v = record v { phase = phase.Reply; page = None }

-- the physical zone that it asks for a block: each in turn, from that of its place on; and that which counts the block on which it
-- has a claim, or else is asked
abbrev pub asks_in : Sizes → (turn : ℕ) → ZoneId
asks_in sizes turn = id.Physical (turn % sizes.physical)

abbrev pub counts_for : Sizes → ℕ → Option Pbn → ZoneId
counts_for sizes turn None = asks_in sizes turn
counts_for sizes turn (Some x) = counts_in sizes x

abbrev pub counts_of : Sizes → Vio → ZoneId
counts_of sizes v = counts_for sizes (length v.tickets + v.place) v.claim

-- the zone of its oldest ticket
abbrev pub ticket_zone : List Ticket → ZoneId
ticket_zone [] = id.Desk
ticket_zone (k ∷ others) = id.Physical k.zone

-- the logical zone of the address of an entry
abbrev pub home_of : Sizes → Remapping → ZoneId
home_of sizes e = id.Logical (zone_of sizes.zones e.at.0)

-- how it maps its address anew
abbrev pub remapping : Vio → Remapping
remapping v = record { request = v.request; at = v.at; place = v.place; old = v.old; new = v.new }

-- the entry that it hands in: its page's, where it makes one
abbrev pub logged_for : Vio → Option PageId → Mapping → Logged
logged_for v (Some page) (At x) = Makes (record { request = v.request; page = page; at = x })
logged_for v page new = Remaps (remapping v)

abbrev pub logged : Vio → Logged
logged v = logged_for v v.page v.new

-- the entries that requests hand in, the oldest request first: the newest entry first
abbrev pub all_logged : List Vio → List Logged
all_logged [] = []
all_logged (v ∷ vs) = all_logged vs ++ logged v ∷ []

-- what it was given
abbrev pub gift : Vio → Gift
gift v = record { request = v.request; at = v.at; place = v.place; bytes = v.bytes }

-- a sealed block that has come further
abbrev pub staged : Stage → SealedBlock → SealedBlock
staged next b = record b { stage = next }
