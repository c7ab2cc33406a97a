-- What the zones do with a page that a write lacks: each row at a small zone, with who waits for the page.
use Rattle.std.proofs.Common.{true, false, None, Some, List, [], ◌∷◌, refl, inl, arith}
use Rattle.blk_base.specs.declared.place.Mapping.TheVariants.{Unmapped, At}
use Rattle.blk_base.specs.declared.place.PageId.{PageId}
use Rattle.blk_base.specs.declared.place.ZoneId.TheVariants as id
use Rattle.blk_base.specs.declared.request.Answer.TheVariants as reply
use Rattle.blk_base.proofs.Example.{leaf}
use Rattle.blk_base.specs.Forms.{pbn as block}
use Rattle.block_map_tree.specs.Tree.{Tree, Links}
use Rattle.disk_model.specs.declared.call.Call.TheVariants.{Write}
use Rattle.data_vio.specs.declared.items.Asks.TheVariants as asks
use Rattle.data_vio.specs.declared.items.Item.TheVariants.{Request}
use Rattle.data_vio.specs.declared.items.Phase.{Phase}
use Rattle.data_vio.specs.declared.items.Phase.TheVariants as phase
use Rattle.data_vio.specs.declared.items.Vio.{Vio}
use Rattle.data_vio.specs.declared.logged.Logged.{Logged}
use Rattle.data_vio.specs.declared.logged.Logged.TheVariants.{Makes}
use Rattle.core_model.specs.LogicalData.{Lock}
use Rattle.core_model.specs.declared.zones.ZoneData.{ZoneData}
use Rattle.core_model.specs.declared.zones.ZoneData.TheVariants as at
use Rattle.core_model.specs.DeviceRules.{DeviceServes, page_at}
use Rattle.core_model.specs.LogicalRules.{LogicalServes}
use Rattle.core_model.specs.PageTrees.{MayLink, least_point}
use Rattle.core_model.specs.PhysicalRules.{PhysicalServes}
use Rattle.core_model.specs.Steps.{serves, takes, calls}
use Rattle.core_model.specs.Trace.{Aborts, Adds, Calls, Sets, Takes}
use Rattle.core_model.proofs.ZoneForms.{device, nothing, one, physical, slab_with, tree_with, zone_with}
use Rattle.model_rows.proofs.sessions.PhaseRows.{Acts, answered, claimed_85, gives_85, has_path, lock, seven, six, vio, with_page_at}
use Rattle.core_model.proofs.WorkedTraces.{first, second, sizes}

-- a logical zone over these trees, with these locks, the pages that are made, who waits, and those that are never linked
abbrev zone_over : Tree → List Lock → List PageId → List Vio → List PageId → ZoneData
zone_over tree held making lacking unlinkable = at.Logical (record {
  zone = 0;
  notified = false;
  next = 2;
  places = [];
  held = held;
  waiting = [];
  retired = [];
  tree = tree;
  making = making;
  lacking = lacking;
  unlinkable = unlinkable;
  settling = [];
  reported = [];
  slots = [];
})

abbrev zone : List Lock → List PageId → List Vio → List PageId → ZoneData
zone = zone_over (tree_with [])

-- the write that makes the leaf, with its block; and another one that looks
abbrev maker : Phase → Vio
maker now = record (vio first asks.Write now 0) { page = Some leaf; new = At (block 85) }

abbrev pub looker : Vio
looker = vio second asks.Write phase.Look 1

abbrev made : Logged
made = Makes (record { request = first; page = leaf; at = block 85 })

-- Look: a write that lacks its leaf makes it, or waits for it, or is stopped where it is never linked
looks_to_make : Acts (zone (lock 0 ∷ []) [] [] []) (Request (vio first asks.Write phase.Look 0) ∷ []) (zone (lock 0 ∷ []) (leaf ∷ []) [] []) []
    ((id.Physical 0, Request (record (vio first asks.Write phase.Claim 0) { page = Some leaf })) ∷ [])
looks_to_make = serves (LogicalServes.makes_page leaf refl (has_path _) refl refl refl refl refl refl)

looks_to_wait : Acts (zone (lock 0 ∷ []) (leaf ∷ []) [] []) (Request looker ∷ []) (zone (lock 0 ∷ []) (leaf ∷ []) (looker ∷ []) []) [] []
looks_to_wait = serves (LogicalServes.waits leaf refl (has_path _) refl refl refl refl refl refl)

looks_in_vain : Acts (zone (lock 0 ∷ []) [] [] (leaf ∷ [])) (Request (vio first asks.Write phase.Look 0) ∷ []) (zone [] [] [] (leaf ∷ [])) []
    ((id.Desk, Request (answered reply.Stopped (vio first asks.Write phase.Reply 0))) ∷ [])
looks_in_vain = serves (LogicalServes.is_dropped leaf refl (has_path _) refl refl refl refl refl)

-- Claim, Store: it has a block, and the page is written there, which leads nowhere
abbrev claimer : Phase → Vio
claimer now = record (maker now) { claim = Some (block 85) }

claims_for_a_page : Acts (physical six nothing) (Request (record (maker phase.Claim) { new = Unmapped }) ∷ []) (physical six one) (Takes first (Some leaf) (block 85) ∷ [])
    ((id.Device, Request (claimer phase.Store)) ∷ [])
claims_for_a_page = takes (PhysicalServes.claims (block 85) (zone_with (slab_with six one)) refl gives_85 refl refl refl)

-- Count: its block has a mapping then, and is that of a page
counts_a_page : Acts (physical six one) (Request (claimer phase.Count) ∷ []) (at.Physical (record { notified = false; strays = []; counts = zone_with (with_page_at 6 (slab_with seven nothing)) })) (Adds made ∷ [])
    ((id.Logical 0, Request (maker phase.Settle)) ∷ [])
counts_a_page =
    takes (PhysicalServes.counts (block 85) (with_page_at 6 (slab_with seven nothing)) (zone_with (with_page_at 6 (slab_with seven nothing))) refl refl claimed_85 (omega arith, omega arith, refl) (record { serves = inl (inl refl, refl, refl); same = refl })
    refl refl refl)

stores_a_page : Acts (device false 6) (Request (maker phase.Store) ∷ []) (device false 7) (Calls (Write (block 85) (page_at sizes leaf (block 85)) true) ∷ []) ((id.Journal, Request (maker phase.Enter)) ∷ [])
stores_a_page = calls (DeviceServes.stores (block 85) refl refl refl refl (omega arith) refl refl refl)

-- Settle: the page is linked, and its maker and who waited for it look again
links : (tree linked : Tree) → MayLink tree leaf (block 85) → Links tree linked leaf (block 85) least_point
    → Acts (zone_over tree (lock 0 ∷ []) (leaf ∷ []) (looker ∷ []) []) (Request (maker phase.Settle) ∷ []) (zone_over linked (lock 0 ∷ []) [] [] []) (Sets made ∷ [])
    ((id.Logical 0, Request (vio first asks.Write phase.Look 0)) ∷ (id.Logical 0, Request looker) ∷ [])
links tree linked may link =
    serves (LogicalServes.links leaf (block 85) (record { zone = 0; notified = false; next = 2; places = []; held = lock 0 ∷ []; waiting = []; retired = []; tree = linked; making = []; lacking = looker ∷ []; unlinkable = []; settling = []; reported = []; slots = [] })
    refl refl refl may (record { links = link; rest = refl }) refl refl refl)

-- Abort, AbortEntered: it isn't made as yet, or is never linked; its maker is answered, and who waited for it looks again
unmakes : Acts (zone (lock 0 ∷ []) (leaf ∷ []) (looker ∷ []) []) (Request (answered reply.Full (maker phase.Abort)) ∷ []) (zone [] [] [] []) []
    ((id.Desk, Request (answered reply.Full (record (maker phase.Reply) { page = None }))) ∷ (id.Logical 0, Request looker) ∷ [])
unmakes = serves (LogicalServes.unmakes leaf refl refl refl refl refl)

drops : Acts (zone (lock 0 ∷ []) (leaf ∷ []) (looker ∷ []) []) (Request (answered reply.Stopped (maker phase.AbortEntered)) ∷ []) (zone [] [] [] (leaf ∷ [])) (Aborts made ∷ [])
    ((id.Desk, Request (answered reply.Stopped (record (maker phase.Reply) { page = None }))) ∷ (id.Logical 0, Request looker) ∷ [])
drops = serves (LogicalServes.drops leaf refl refl refl refl refl)
