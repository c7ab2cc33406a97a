-- What is known of a page that is being made: for each clause a case that it accepts, and one that breaks it alone.
use Rattle.std.proofs.Common.{◌≡◌, Bool, true, false, not, ◌&&◌, ◌||◌, None, Some, List, [], ◌∷◌, refl, ap, arith, inl, inr}
use Rattle.image_model.specs.Pages.{is_page}
use Rattle.plain_laws.proofs.ListLaws.{bit_most}
use Rattle.blk_base.specs.declared.place.PageId.{PageId}
use Rattle.block_map_tree.specs.Pages.{IsRoot}
use Rattle.block_map_tree.specs.Tree.{Tree, IsLinkable}
use Rattle.blk_base.specs.declared.place.Mapping.TheVariants.{At}
use Rattle.blk_base.proofs.Example.{leaf, root}
use Rattle.blk_base.specs.Forms.{lba as address, pbn as block}
use Rattle.data_vio.specs.declared.items.Phase.{Phase}
use Rattle.data_vio.specs.declared.items.Phase.TheVariants as phase
use Rattle.data_vio.specs.declared.items.Vio.{Vio}
use Rattle.slab_counts.specs.declared.tickets.Ticket.{Ticket}
use Rattle.data_vio.specs.declared.items.Asks.{Asks}
use Rattle.data_vio.specs.declared.items.Asks.TheVariants as asks
use Rattle.data_vio.specs.declared.logged.Logged.{Logged}
use Rattle.data_vio.specs.declared.logged.Logged.TheVariants.{Makes}
use Rattle.core_model.specs.Facts.{Carries}
use Rattle.core_model.specs.JournalFacts.{HasPageEntry}
use Rattle.core_model.specs.LogicalFacts.{AreUnmade, Awaits, HasSpent, HasTurn, IsMaking, PagesOk, Turn}
use Rattle.core_model.specs.PageTrees.{link_at}
use Rattle.core_model.specs.Sessions.{Session}
use Rattle.core_model.specs.Trace.{Aborts, Asks as AsksIn, Enters, Sets, Takes, Trace}
use Rattle.model_rows.proofs.sessions.PageActRows.{looker}
use Rattle.core_model.proofs.ZoneForms.{leafy, tree_with}
use Rattle.model_rows.proofs.sessions.PhaseRows.{vio}
use Rattle.model_rows.proofs.sessions.TicketTraces.{ticket}
use Rattle.core_model.proofs.WorkedTraces.{drawn, first, session, sizes, took, x}

-- another leaf, the root above the first, and trees of three levels
abbrev other_leaf : PageId
other_leaf = record { tree = 1; level = 0; index = 0 }

abbrev tall : Session
tall = record session { sizes = record sizes { geometry = record sizes.geometry { height = 3 } } }

-- IsMaking: a write that has its turn, took no block, and lacks the page, which the one above it may lead to
abbrev firsts_turn : Asks → Turn
firsts_turn what = record { request = first; asks = what; at = address 0; place = 0 }

abbrev Makes_it : Session → Trace → Asks → PageId → Type 0
Makes_it s t what page = IsMaking s t (firsts_turn what) x page

turn : HasTurn session drawn (firsts_turn asks.Write)
turn = record { is_placed = record { for_block = tt; placed = refl; not_entered = refl }; quiet = record { all_committed = refl; all_done = refl }; below = record { writes = tt; reads = tt } }

-- HasSpent: it took no block for its data, and what it took for other pages was handed in
none_spent : HasSpent session drawn first (Some leaf)
none_spent = record { none_taken = refl; others = λ page other taken. absurd cc }

spent_for_its_page : HasSpent session (Takes first (Some leaf) (block 85) ∷ drawn) first (Some leaf)
spent_for_its_page = record { none_taken = refl; others = λ page other taken. absurd (one_page (is_page leaf page) other taken) }
  where
    one_page : (b : Bool) → not b ≡ true → ((b && true) || false) ≡ true → ⊥
    one_page true differs taken = absurd cc
    one_page false differs taken = absurd cc

spent_for_another : ¬ HasSpent session (Takes first (Some other_leaf) (block 85) ∷ drawn) first (Some leaf)
spent_for_another = λ is. let made = is.others other_leaf refl refl in absurd cc

spent_for_its_data : ¬ HasSpent session took first (Some leaf)
spent_for_its_data = λ is. let no = is.none_taken in absurd cc

makes : Makes_it session drawn asks.Write leaf
makes = record { turn = turn; is_write = refl; spent = none_spent; lacked = (refl, omega arith); up = inl refl }

makes_in_turn : ¬ Makes_it session [] asks.Write leaf
makes_in_turn = λ is. let no = is.turn.is_placed.placed in absurd cc

makes_as_a_write : ¬ Makes_it session drawn asks.Discard leaf
makes_as_a_write = λ is. let no = is.is_write in absurd cc

makes_without_a_block : ¬ Makes_it session took asks.Write leaf
makes_without_a_block = λ is. let no = is.spent.none_taken in absurd cc

makes_what_it_lacks : ¬ Makes_it session drawn asks.Write other_leaf
makes_what_it_lacks = λ is. let tree : 1 ≡ 0 = ap (λ (p : PageId). p.tree) is.lacked.0 in omega (arith, tree)

makes_below_what_is_there : ¬ Makes_it tall drawn asks.Write leaf
makes_below_what_is_there = λ is. elim is.up [ inl level ↦ absurd (omega (arith, level)) | inr some ↦ absurd cc ]

-- CarriesPage: while it asks for the block of the page, and while it withdraws its tickets, no entry puts that page anywhere
abbrev maker : Phase → List Ticket → Vio
maker now tickets = record (vio first asks.Write now 0) { page = Some leaf; tickets = tickets }

abbrev asked : Trace
asked = AsksIn first (ticket 0 0) ∷ drawn

claims_for_it : Carries session drawn (maker phase.Claim []) phase.Claim
claims_for_it = (makes, refl, record { in_turn = tt; fewer = omega arith; asked = tt }, refl)

claims_once : ¬ Carries session (Takes first (Some leaf) (block 85) ∷ drawn) (maker phase.Claim []) phase.Claim
claims_once = λ is. let no = is.3 in absurd cc

claims_with_a_ticket_of_each_zone : ¬ Carries session asked (maker phase.Claim (ticket 0 0 ∷ [])) phase.Claim
claims_with_a_ticket_of_each_zone = λ is. omega (arith, is.2.fewer)

claims_what_is_unmade : ¬ Carries session (Enters (Makes (record { request = first; page = leaf; at = block 85 })) ∷ drawn) (maker phase.Claim []) phase.Claim
claims_what_is_unmade = λ is. let no = is.1 in absurd cc

withdraws_for_it : Carries session asked (record (maker phase.Withdraw (ticket 0 0 ∷ [])) { claim = Some (block 85); new = At (block 85) }) phase.Withdraw
withdraws_for_it = (
  record {
    turn = record { is_placed = record { for_block = tt; placed = refl; not_entered = refl }; quiet = record { all_committed = refl; all_done = refl }; below = record { writes = tt; reads = tt } };
    is_write = refl;
    spent = record { none_taken = refl; others = λ page other taken. absurd cc };
    lacked = (refl, omega arith);
    up = inl refl;
  },
  refl,
  record { turn = 0; in_turn = (refl, tt); few = omega arith; some = omega arith; asked = ((0, omega arith, refl), tt); lacks = λ is. absurd cc; last = λ is. absurd cc },
)

withdraws_without_a_ticket : ¬ Carries session asked (record (maker phase.Withdraw []) { claim = Some (block 85); new = At (block 85) }) phase.Withdraw
withdraws_without_a_ticket = λ is. omega (arith, is.2.some)

-- HasPageEntry: its entry was handed in, the page isn't linked, and it isn't dropped
abbrev made : Logged
made = Makes (record { request = first; page = leaf; at = block 85 })

abbrev entered : Trace
entered = Enters made ∷ took

has_entry : HasPageEntry session entered made leaf
has_entry = record { handed_in = (0, omega arith, refl); unlinked = refl; undropped = λ is. omega (arith, is.1) }

entry_handed_in : ¬ HasPageEntry session took made leaf
entry_handed_in = λ is. let has = is.handed_in in omega (arith, has.1)

entry_unlinked : ¬ HasPageEntry session (Sets made ∷ entered) made leaf
entry_unlinked = λ is. let no = is.unlinked in absurd cc

entry_undropped : ¬ HasPageEntry session (Aborts made ∷ entered) made leaf
entry_undropped = λ is. is.undropped (0, omega arith, refl)

-- AreUnmade: no entry was handed in of a page that nobody makes
unmade : (tree : Tree) → AreUnmade session took tree [] []
unmade tree = λ page linkable unlinked unmade yet. refl

unmade_before : (tree : Tree) → IsLinkable tree leaf → link_at tree leaf ≡ None → ¬ AreUnmade session entered tree [] []
unmade_before tree linkable unlinked = λ are. let no = are leaf linkable unlinked refl refl in absurd cc

-- Awaits: it lacks a page, and that is being made
awaits : Awaits (tree_with []) (leaf ∷ []) looker
awaits = record { page = leaf; lacked = refl; is_made = refl }

awaits_what_it_lacks : ¬ Awaits leafy (leaf ∷ []) looker
awaits_what_it_lacks = λ is. let no = is.lacked in absurd cc

awaits_what_is_made : ¬ Awaits (tree_with []) [] looker
awaits_what_is_made = λ is. let no = is.is_made in absurd cc

-- PagesOk: each page may be linked, and is made once; who waits lacks one of these, at home
made_once : IsLinkable (tree_with []) leaf → PagesOk 0 (tree_with []) (leaf ∷ []) (looker ∷ [])
made_once linkable = record { linkable = (linkable, tt); once = λ page. omega (arith, bit_most (is_page leaf page)); waits = (awaits, tt); at_home = (refl, tt) }

made_twice : (tree : Tree) → ¬ PagesOk 0 tree (leaf ∷ leaf ∷ []) []
made_twice tree = λ is. let once = is.once leaf in omega (arith, once)

made_as_a_root : (tree : Tree) → IsRoot tree.forest root → ¬ PagesOk 0 tree (root ∷ []) []
made_as_a_root tree is_root = λ is. is.linkable.0.lower is_root

waits_for_nothing : ¬ PagesOk 0 (tree_with []) [] (looker ∷ [])
waits_for_nothing = λ is. awaits_what_is_made is.waits.0

waits_elsewhere : ¬ PagesOk 1 (tree_with []) (leaf ∷ []) (looker ∷ [])
waits_elsewhere = λ is. let home = is.at_home.0 in absurd cc
