-- Runs of a tree: calls that lead on, and such that don't. The trees are those of `TreeRows`.
use Rattle.std.proofs.Common.{◌≡◌, List, [], ◌∷◌, refl, subst, arith}
use Rattle.blk_base.specs.Forms.{point as p, pbn as b}
use Rattle.blk_base.proofs.Example.{leaf, root as inner}
use Rattle.dirty_pages.specs.History.{Changed, HandedOut, Written}
use Rattle.block_map_tree.specs.History.{Operation, HandOut, LeadTo, Leads, Link, Write, event_of, events_of}
use Rattle.block_map_tree.specs.Tree.{Tree}
use Rattle.block_map_tree.proofs.TreeRows.{copy, dirty_tree, expires, half, linkable, linkable_root, linked, links, links_elsewhere, out_tree, root, writes, writing, writing_before}

-- Leads: a page below a root is linked, the page above it is handed out, and its write is reported
links_a_page : Leads half (Link leaf (b 90) (p 5)) dirty_tree
links_a_page = (linkable, links)

links_a_root : (new : Tree) → Leads half (Link root (b 90) (p 5)) new → ⊥
links_a_root new leads = linkable_root leads.0

links_it_elsewhere : Leads half (Link leaf (b 91) (p 5)) dirty_tree → ⊥
links_it_elsewhere leads = links_elsewhere leads.1

hands_out : Leads dirty_tree (HandOut inner) out_tree
hands_out = (p 5, copy, expires)

hands_out_a_leaf : (new : Tree) → Leads dirty_tree (HandOut leaf) new → ⊥
hands_out_a_leaf new (point, into, expires) = omega (arith, expires.inner.level)

is_written : Leads out_tree (Write inner) linked
is_written = (writing, writes)

is_written_before : (new : Tree) → Leads dirty_tree (Write inner) new → ⊥
is_written_before new leads = writing_before leads.0

-- LeadTo: all of them, the newest first

abbrev calls : List Operation
calls = Write inner ∷ HandOut inner ∷ Link leaf (b 90) (p 5) ∷ []

lead_to : LeadTo half calls linked
lead_to = (out_tree, (dirty_tree, (half, refl, links_a_page), hands_out), is_written)

written_first : (new : Tree) → LeadTo dirty_tree (HandOut inner ∷ Write inner ∷ []) new → ⊥
written_first new (middle, (before, same, leads), out) = is_written_before middle (subst (λ (t : Tree). Leads t (Write inner) middle) same leads)

-- event_of, events_of: a link changes the page above
event_is : event_of (Link leaf (b 90) (p 5)) ≡ Changed inner (p 5)
event_is = refl

events_are : events_of calls ≡ Written inner ∷ HandedOut inner ∷ Changed inner (p 5) ∷ []
events_are = refl
