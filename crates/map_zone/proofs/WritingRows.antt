-- Small maps that each clause accepts, and one that it refuses: what is handed out to be written and settled, and lists of calls.
use Rattle.std.proofs.Common.{ℕ, subst, zero, suc, ◌≡◌, ◌≢◌, ◌<◌, inl, inr, true, false, None, Some, List, [], ◌∷◌, length, replicate, slice_index_or, ◌≤◌, ◌%◌, refl, ap, sym, arith, ◌∙◌}
use Rattle.std.proofs.Math.Nat.{mod-lt}
use Rattle.std.proofs.lemmas.List.{get_or-replicate}
use Rattle.std.proofs.lemmas.Option.{none-some}
use Rattle.blk_base.specs.declared.journal_entry.Entry.TheVariants.{NewPage, Remap}
use Rattle.blk_base.specs.declared.place.Mapping.{Mapping}
use Rattle.blk_base.specs.declared.place.Mapping.TheVariants.{At, Unmapped, Zero}
use Rattle.blk_base.specs.declared.place.PageId.{PageId}
use Rattle.blk_base.specs.declared.place.Pbn.{Pbn}
use Rattle.blk_base.specs.declared.point.Point.{Point}
use Rattle.blk_base.specs.Forms.{point as p, pbn as b, lba}
use Rattle.blk_base.proofs.Example.{root, leaf, others, number_of_point}
use Rattle.dirty_pages.specs.History.{Changed, HandedOut, Written}
use Rattle.dirty_pages.specs.DirtyPoints.{HandsOut, HasPoint, IsDue, dirty_points_at, settled, with_dirty_points}
use Rattle.dirty_pages.specs.declared.dirty_points.DirtyPoints.{DirtyPoints}
use Rattle.page_codec.proofs.HeldLaws.{held_unmapped}
use Rattle.page_codec.proofs.ReadLaws.{one_mapping, slots}
use Rattle.page_codec.specs.Grammar.{IsSlot}
use Rattle.page_codec.specs.PageBytes.{page_bytes}
use Rattle.page_codec.specs.declared.forms.MapPage.{MapPage}
use Rattle.page_codec.specs.declared.forms.PageHead.{PageHead}
use Rattle.block_map_tree.specs.Pages.{IsRoot}
use Rattle.block_map_tree.specs.Tree.{IsAt, Tree, as_root, by_link}
use Rattle.block_map_tree.specs.Tree as trees
use Rattle.block_map_tree.proofs.TreeRows.{own}
use Rattle.map_page_cache.specs.CachedPages.{CachedPages}
use Rattle.map_page_cache.specs.CachedPages as cached
use Rattle.map_page_cache.specs.Turns.{no_turns}
use Rattle.map_zone.specs.Operations.{Apply, AreReadBack, Operation, HandOut, HasLink, HasNoLeaf, Install, IsStored, LeadTo, Leads, SayOf, Write, changed_by, events_of, mapped}
use Rattle.map_zone.specs.PageWrites.{IsOut, Settles, SettlesLeaf, SettlesNode, Takes, TakesLeaf, TakesNode, IsClean, IsLeafFirst, IsLow, IsNodeFirst, IsSpelled, NoneDue, comes_first, lesser_point}
use Rattle.map_zone.specs.ZoneMap.{ZoneMap}
use Rattle.map_zone.proofs.Rows.{installs, may_install, may_not_install_it_again, may_not_past_the_last, remaps, zeroed, g, forest, below, held, held_at, linked, unlinked, is_tree, stands, content, full, empty, is_cache, m, unread, clean_at, changed, there, whole, filled, fills, bytes, reads}

-- comes_first, lesser_point

no_leaf_first : comes_first None (Some (p 5)) ≡ false
no_leaf_first = refl

leaf_alone_first : comes_first (Some (p 5)) None ≡ true
leaf_alone_first = refl

equal_leaf_first : comes_first (Some (p 5)) (Some (p 5)) ≡ true
equal_leaf_first = refl

later_leaf_second : comes_first (Some (p 6)) (Some (p 5)) ≡ false
later_leaf_second = refl

lesser_of_two : lesser_point (Some (p 6)) (Some (p 5)) ≡ Some (p 5)
lesser_of_two = refl

only_leaf : lesser_point (Some (p 6)) None ≡ Some (p 6)
only_leaf = refl

only_other : lesser_point None (Some (p 5)) ≡ Some (p 5)
only_other = refl

-- IsSpelled

spelled : IsSpelled content (b 90) (page_bytes content.head content.mappings)
spelled = record { placed = refl; said = refl }

spelled_elsewhere : IsSpelled content (b 91) (page_bytes content.head content.mappings) → ⊥
spelled_elsewhere is = omega (arith, ap (λ (k : Pbn). k.0) is.placed)

spelled_otherwise : (bytes : List ℕ) → bytes ≢ page_bytes content.head content.mappings → IsSpelled content (b 90) bytes → ⊥
spelled_otherwise bytes other is = other is.said

-- IsLeafFirst, IsNodeFirst, NoneDue: the leaf was changed first at 6, the root at 5

abbrev both : ZoneMap
both = record { tree = record linked { dirty_points = changed 5 }; cache = record full { dirty_points = changed 6 } }

due_at : (n : ℕ) → IsDue (dirty_points_at (changed n) 0) (p n)
due_at n = record { idle = refl; dirty = refl }

due_from : (n number : ℕ) (first : Point) → IsDue (dirty_points_at (changed n) number) first → first.0 ≡ n
due_from n zero first due = sym (ap number_of_point due.dirty)
due_from n (suc k) first due = absurd (none-some first due.dirty)

root_first : IsNodeFirst both
root_first = record { first = λ number first due. (p 5, record { number = 0; due = due_at 5; least = λ k later due'. omega (arith, due_from 5 k later due') }, omega (arith, due_from 6 number first due)) }

leaf_not_first : IsLeafFirst both → ⊥
leaf_not_first is = omega (arith, is.first 0 (p 5) (due_at 5), due_from 6 is.due.number is.leaf is.due.due)

leaf_first_now : IsLeafFirst (record both { tree = record linked { dirty_points = changed 6 } })
leaf_first_now = record {
  leaf = p 6;
  due = record { number = 0; due = due_at 6; least = λ k later due'. omega (arith, due_from 6 k later due') };
  first = λ number node due. omega (arith, due_from 6 number node due);
}

root_not_before_it : IsNodeFirst (record both { tree = record linked { dirty_points = changed 6 } }) → ⊥
root_not_before_it is =
    let node = is.first 0 (p 6) (due_at 6) in
    omega (arith, due_from 6 node.1.number node.0 node.1.due, node.2)

none_due : NoneDue both (p 4)
none_due = record { leaves = λ number first due. omega (arith, due_from 6 number first due); nodes = λ number first due. omega (arith, due_from 5 number first due) }

root_is_due : NoneDue both (p 5) → ⊥
root_is_due none = omega (arith, none.nodes 0 (p 5) (due_at 5))

leaf_is_due : NoneDue (record both { tree = linked }) (p 6) → ⊥
leaf_is_due none = omega (arith, none.leaves 0 (p 6) (due_at 6))

-- IsLow, IsClean

has_from : (n number : ℕ) (point : Point) → HasPoint (dirty_points_at (changed n) number) point → point.0 ≡ n
has_from n zero point (inl dirty) = sym (ap number_of_point dirty)
has_from n zero point (inr writing) = absurd (none-some point writing)
has_from n (suc k) point (inl dirty) = absurd (none-some point dirty)
has_from n (suc k) point (inr writing) = absurd (none-some point writing)

low : IsLow both (p 5)
low = record {
  own = inr (record { number = 0; has = inl refl; least = λ k q has. omega (arith, has_from 5 k q has) });
  leaves = λ k q has. omega (arith, has_from 6 k q has);
  nodes = λ k q has. omega (arith, has_from 5 k q has);
}

low_of_a_leaf : IsLow (record both { tree = record linked { dirty_points = changed 6 } }) (p 6)
low_of_a_leaf = record {
  own = inl (record { number = 0; has = inl refl; least = λ k q has. omega (arith, has_from 6 k q has) });
  leaves = λ k q has. omega (arith, has_from 6 k q has);
  nodes = λ k q has. omega (arith, has_from 6 k q has);
}

low_above_a_link : IsLow both (p 6) → ⊥
low_above_a_link is = omega (arith, is.nodes 0 (p 5) (inl refl))

low_above_an_entry : IsLow (record both { tree = linked }) (p 7) → ⊥
low_above_an_entry is = omega (arith, is.leaves 0 (p 6) (inl refl))

-- own: it is that of a change
low_of_nothing : IsLow both (p 4) → ⊥
low_of_nothing is = elim is.own [ inl leaf ↦ omega (arith, has_from 6 leaf.number (p 4) leaf.has) | inr node ↦ omega (arith, has_from 5 node.number (p 4) node.has) ]

is_clean : IsClean m
is_clean = record { leaves = clean_at; nodes = clean_at }

leaf_is_dirty : IsClean (record m { cache = record full { dirty_points = changed 6 } }) → ⊥
leaf_is_dirty is = none-some (p 6) (sym (ap (λ (dirty_points : DirtyPoints). dirty_points.dirty) (is.leaves 0)))

root_is_dirty : IsClean (record m { tree = record linked { dirty_points = changed 5 } }) → ⊥
root_is_dirty is = none-some (p 5) (sym (ap (λ (dirty_points : DirtyPoints). dirty_points.dirty) (is.nodes 0)))

-- Calls: the leaf is linked, installed, address 1 is mapped anew, and the leaf is handed out and written

abbrev calls : List Operation
calls = HandOut leaf (b 90) (1 ∷ []) ∷ Apply (Remap (lba 1) Unmapped Zero) (p 514) ∷ Install leaf (0 ∷ []) ∷ Apply (NewPage leaf (b 90)) (p 512) ∷ []

changes_the_leaf : changed_by (Remap (lba 1) Unmapped Zero) ≡ leaf
changes_the_leaf = refl

changes_the_page_above : changed_by (NewPage leaf (b 90)) ≡ root
changes_the_page_above = refl

events : events_of (Write leaf ∷ calls) ≡ Written leaf ∷ HandedOut leaf ∷ Changed leaf (p 514) ∷ Changed root (p 512) ∷ []
events = refl

mapped_anew : mapped (λ n. Unmapped) calls 1 ≡ Zero
mapped_anew = refl

mapped_as_before : mapped (λ n. Unmapped) calls 2 ≡ Unmapped
mapped_as_before = refl

-- the newest entry counts
mapped_twice : mapped (λ n. Unmapped) (Apply (Remap (lba 1) Zero Unmapped) (p 516) ∷ calls) 1 ≡ Unmapped
mapped_twice = refl

stored : IsStored (λ page. 0 ∷ []) calls leaf (1 ∷ [])
stored = inl (refl, refl)

stored_before : IsStored (λ page. 0 ∷ []) calls leaf (0 ∷ []) → ⊥
stored_before (inl now) = omega (arith, ap (λ (bytes : List ℕ). first_of bytes) now.1)
  where
    first_of : List ℕ → ℕ
    first_of [] = 0
    first_of (x ∷ xs) = x
stored_before (inr apart) = apart.0 refl

stored_beside : IsStored (λ page. 0 ∷ []) calls root (0 ∷ [])
stored_beside = inr ((λ same. omega (arith, ap (λ (q : PageId). q.level) same)), refl)

read_back : AreReadBack (λ page. 0 ∷ []) calls
read_back = (refl, tt)

read_otherwise : AreReadBack (λ page. 2 ∷ []) calls → ⊥
read_otherwise read = omega (arith, ap (λ (bytes : List ℕ). first_of bytes) read.0)
  where
    first_of : List ℕ → ℕ
    first_of [] = 0
    first_of (x ∷ xs) = x

no_leaf : HasNoLeaf unread
no_leaf page given is = omega (arith, is.0.1)

one_leaf : HasNoLeaf m → ⊥
one_leaf none = none leaf content there

has_link : HasLink calls leaf (b 90)
has_link = inl (refl, refl)

links_elsewhere : HasLink calls leaf (b 91) → ⊥
links_elsewhere (inl this) = omega (arith, ap (λ (k : Pbn). k.0) this.1)
links_elsewhere (inr never) = never

-- TakesLeaf, TakesNode: what was changed is handed out, and marked as being written

abbrev handed : ℕ → List DirtyPoints
handed n = (record { dirty = None; writing = Some (p n) }) ∷ []

hands_out : (n : ℕ) → n ≤ 9 → HandsOut (changed n) (handed n) (p 9) 0
hands_out n reached = record {
  first = p n;
  due = due_at n;
  reached = reached;
  least = λ k later due. omega (arith, due_from n k later due);
  lowest = λ other due. omega arith;
  after = refl;
}

leaf_expires : cached.Expires both.cache (record full { dirty_points = handed 6 }) (p 9) leaf content
leaf_expires = record {
  form = is_cache (At (b 100)) (record { dirty = None; writing = Some (p 6) }) (no_turns 1) (held_at 15 (omega arith));
  frame = 0;
  stood = record { inside = omega arith; is = refl; named = refl };
  dirty_points = hands_out 6 (omega arith);
  after = refl;
}

abbrev root_page : MapPage
root_page = record { head = record { geometry = g; page = root; at = b 9 }; mappings = At (b 90) ∷ Unmapped ∷ others }

is_root : IsRoot forest root
is_root = record { tree = own g; level = refl; index = refl }

root_expires : trees.Expires both.tree (record linked { dirty_points = handed 5 }) (p 9) root root_page
root_expires = record {
  inner = record { level = omega arith; there = inl is_root };
  dirty_points = hands_out 5 (omega arith);
  geometry = refl;
  page = refl;
  at = as_root is_root refl;
  mappings = refl;
  held = held 1 (At (b 90)) Unmapped (held_at 5 (omega arith)) tt;
  form = is_tree (At (b 90)) (record { dirty = None; writing = Some (p 5) }) (held_at 5 (omega arith));
  set = refl;
}

-- first: the root was changed before
takes_the_later_one : (after : ZoneMap) (point : Point) (given : List ℕ) → TakesLeaf both after point leaf (b 90) given → ⊥
takes_the_later_one after point given takes =
    omega (arith, takes.first 0 (p 5) (due_at 5), due_from 6 takes.expires.frame takes.expires.dirty_points.first takes.expires.dirty_points.due)

-- where both were changed first at the same point
abbrev alike : ZoneMap
alike = record both { tree = record linked { dirty_points = changed 6 } }

abbrev alone : ZoneMap
alone = record both { tree = linked }

takes_leaf : TakesLeaf alike (record alike { cache = record full { dirty_points = handed 6 } }) (p 9) leaf (b 90) bytes
takes_leaf = record { copy = content; expires = leaf_expires; first = λ number node due. omega (arith, due_from 6 number node due, due_from 6 leaf_expires.frame leaf_expires.dirty_points.first leaf_expires.dirty_points.due); spelled = spelled; after = refl }

-- after: the tree stays
takes_leaf_and_a_link : (after : ZoneMap) (point : Point) (given : List ℕ) → after.tree ≡ unlinked → TakesLeaf alone after point leaf (b 90) given → ⊥
takes_leaf_and_a_link after point given is takes =
    let no : (Unmapped ∷ Unmapped ∷ others) ∷ [] ≡ (At (b 90) ∷ Unmapped ∷ others) ∷ [] = ap (λ (t : Tree). t.pages) (sym is ∙ ap (λ (z : ZoneMap). z.tree) takes.after) in cc

-- spelled: its bytes are written to its own block
takes_leaf_elsewhere : (after : ZoneMap) (point : Point) (given : List ℕ) → TakesLeaf alone after point leaf (b 91) given → ⊥
takes_leaf_elsewhere after point given takes = never takes.expires.frame takes.copy takes.expires.stood.inside takes.expires.stood.is takes.spelled.placed
  where
    never : (frame : ℕ) (copy' : MapPage) → frame < 1 → slice_index_or full.pages frame copy' ≡ copy' → b 91 ≡ copy'.head.at → ⊥
    never zero copy' inside is placed = omega (arith, ap (λ (k : Pbn). k.0) (placed ∙ ap (λ (c : MapPage). c.head.at) (sym is)))
    never (suc k) copy' inside is placed = omega (arith, inside)

takes_node : TakesNode both (record both { tree = record linked { dirty_points = handed 5 } }) (p 9) root (b 9) (page_bytes root_page.head root_page.mappings)
takes_node = record {
  copy = root_page;
  expires = root_expires;
  first = λ number first due. omega (arith, due_from 6 number first due, due_from 5 0 root_expires.dirty_points.first root_expires.dirty_points.due);
  spelled = record { placed = refl; said = refl };
  after = refl;
}

takes_node_elsewhere : (after : ZoneMap) (point : Point) (given : List ℕ) → TakesNode both after point root (b 10) given → ⊥
takes_node_elsewhere after point given takes = never takes.copy takes.expires.at takes.spelled.placed
  where
    never : (copy' : MapPage) → IsAt both.tree root copy'.head.at → b 10 ≡ copy'.head.at → ⊥
    never copy' (as_root is at_root) placed = omega (arith, at_root, ap (λ (k : Pbn). k.0) placed)
    never copy' (by_link lower leads) placed = omega (arith, lower.level)

-- expires: nothing was changed
takes_a_clean_leaf : (after : ZoneMap) (point : Point) (bytes : List ℕ) → TakesLeaf m after point leaf (b 90) bytes → ⊥
takes_a_clean_leaf after point bytes takes =
    none-some takes.expires.dirty_points.first (sym (ap (λ (dirty_points : DirtyPoints). dirty_points.dirty) (clean_at takes.expires.frame)) ∙ takes.expires.dirty_points.due.dirty)

takes_a_clean_node : (after : ZoneMap) (point : Point) (bytes : List ℕ) → TakesNode m after point root (b 9) bytes → ⊥
takes_a_clean_node after point bytes takes = none-some takes.expires.dirty_points.first takes.expires.dirty_points.due.dirty

-- TakesNode: the leaf was changed before, or at the same point
takes_a_node_too_soon : (new : ZoneMap) (bytes : List ℕ) → TakesNode (record both { tree = record linked { dirty_points = changed 6 } }) new (p 9) root (b 9) bytes → ⊥
takes_a_node_too_soon new bytes takes = omega (arith, takes.first 0 (p 6) (due_at 6), due_from 6 0 takes.expires.dirty_points.first takes.expires.dirty_points.due)

-- SettlesLeaf, SettlesNode: a page that isn't being written isn't settled
settles_one_that_is_not_out : (new : ZoneMap) → SettlesLeaf m new leaf → ⊥
settles_one_that_is_not_out new is = none-some is.out.dirty_points.first (sym (ap (λ (dirty_points : DirtyPoints). dirty_points.writing) (clean_at is.out.frame)) ∙ is.out.dirty_points.is)

settles_a_root_that_is_not_out : (new : ZoneMap) → SettlesNode m new root → ⊥
settles_a_root_that_is_not_out new is = none-some is.out.dirty_points.first is.out.dirty_points.is

-- writes: it isn't being written any longer
abbrev under_way : List DirtyPoints
under_way = handed 6

abbrev out : ZoneMap
out = record { tree = record linked { dirty_points = under_way }; cache = record full { dirty_points = under_way } }

leaf_is_written : cached.Writes out.cache filled leaf
leaf_is_written = record {
  form = fills.form;
  frame = 0;
  content = content;
  stood = record { inside = omega arith; is = refl; named = refl };
  after = refl;
}

settles_leaf : SettlesLeaf out (record out { cache = filled }) leaf
settles_leaf = record {
  out = record { frame = 0; content = content; stands = record { inside = omega arith; is = refl; named = refl }; dirty_points = record { first = p 6; is = refl } };
  writes = leaf_is_written;
  after = refl;
}

settles_no_leaf : SettlesLeaf out out leaf → ⊥
settles_no_leaf is = never is.writes.frame is.writes.stood.inside (ap (λ (c : CachedPages). c.dirty_points) is.writes.after)
  where
    never : (frame : ℕ) → frame < 1 → under_way ≡ with_dirty_points under_way frame settled → ⊥
    never zero inside same = none-some (p 6) (sym (ap (λ (dirty_points : List DirtyPoints). (dirty_points_at dirty_points 0).writing) same))
    never (suc k) inside same = omega (arith, inside)

root_is_there : trees.IsWriting out.tree root
root_is_there = record { inner = record { level = omega arith; there = inl is_root }; dirty_points = record { first = p 6; is = refl } }

root_is_written : trees.Writes out.tree linked root
root_is_written = record { form = whole.tree; set = refl }

settles_node : SettlesNode out (record out { tree = linked }) root
settles_node = record { out = root_is_there; writes = root_is_written; after = refl }

settles_no_node : SettlesNode out out root → ⊥
settles_no_node is = none-some (p 6) (sym (ap (λ (t : Tree). (dirty_points_at t.dirty_points 0).writing) is.writes.set))

-- IsOut, LeadTo: a page that isn't being written isn't reported
root_is_out : IsOut out root
root_is_out = inr root_is_there

none_is_out : IsOut m leaf → ⊥
none_is_out (inl is) = none-some is.dirty_points.first (sym (ap (λ (dirty_points : DirtyPoints). dirty_points.writing) (clean_at is.frame)) ∙ is.dirty_points.is)
none_is_out (inr is) = omega (arith, is.inner.level)

-- Leads: an entry is applied, a leaf is installed, a page is handed out; and none that may not be
leads_by_an_entry : Leads m (Apply (Remap (lba 1) Unmapped Zero) (p 5)) (record m { cache = zeroed })
leads_by_an_entry = (record { inside = omega arith; linked = record { at = b 90; stands = stands }; held = refl }, remaps)

leads_by_a_leaf : Leads unread (Install leaf bytes) (record m { cache = filled })
leads_by_a_leaf = (may_install, installs)

leads_by_a_page : Leads both (HandOut root (b 9) (page_bytes root_page.head root_page.mappings)) (record both { tree = record linked { dirty_points = handed 5 } })
leads_by_a_page = (p 9, inr takes_node)

leads_past_the_last : (new : ZoneMap) → Leads unread (Apply (Remap (lba 1000) Unmapped Zero) (p 5)) new → ⊥
leads_past_the_last new leads = may_not_past_the_last leads.0

leads_to_it_again : (new : ZoneMap) → Leads m (Install leaf bytes) new → ⊥
leads_to_it_again new leads = may_not_install_it_again leads.0

leads_by_a_clean_page : (new : ZoneMap) (given : List ℕ) → Leads m (HandOut leaf (b 90) given) new → ⊥
leads_by_a_clean_page new given (point, inl takes) = takes_a_clean_leaf new point given takes
leads_by_a_clean_page new given (point, inr takes) = omega (arith, takes.expires.inner.level)

no_call : LeadTo m [] m
no_call = refl

no_call_changes_nothing : LeadTo m [] unread → ⊥
no_call_changes_nothing same = omega (arith, ap (λ (z : ZoneMap). length z.cache.pages) same)

one_call : LeadTo out (Write root ∷ []) (record out { tree = linked })
one_call = (out, refl, (root_is_out, inr settles_node))

reported_and_not_out : (new : ZoneMap) → LeadTo m (Write leaf ∷ []) new → ⊥
reported_and_not_out new lead = none_is_out (subst (λ (z : ZoneMap). IsOut z leaf) lead.1 lead.2.0)

-- after: all else stays
takes_a_node_and_forgets_a_leaf : (new : ZoneMap) (bytes : List ℕ) → new.cache ≡ empty → TakesNode both new (p 9) root (b 9) bytes → ⊥
takes_a_node_and_forgets_a_leaf new bytes is takes = omega (arith, ap (λ (c : CachedPages). length c.pages) (sym is ∙ ap (λ (z : ZoneMap). z.cache) takes.after))

settles_a_leaf_and_forgets_a_link : (new : ZoneMap) → new.tree ≡ unlinked → SettlesLeaf m new leaf → ⊥
settles_a_leaf_and_forgets_a_link new is settles =
    let no : (Unmapped ∷ Unmapped ∷ others) ∷ [] ≡ (At (b 90) ∷ Unmapped ∷ others) ∷ [] = ap (λ (t : Tree). t.pages) (sym is ∙ ap (λ (z : ZoneMap). z.tree) settles.after) in cc

settles_a_node_and_forgets_a_leaf : (new : ZoneMap) → new.cache ≡ empty → SettlesNode m new root → ⊥
settles_a_node_and_forgets_a_leaf new is settles = omega (arith, ap (λ (c : CachedPages). length c.pages) (sym is ∙ ap (λ (z : ZoneMap). z.cache) settles.after))

-- SayOf: of leaves without mappings no address is mapped; of one with a mapping its address is
say_nothing : SayOf g (λ page. page_bytes (record { geometry = g; page = page; at = b 90 }) (replicate 812 Unmapped)) (λ n. Unmapped)
say_nothing page at mappings is address of_page =
    let head : PageHead = record { geometry = g; page = page; at = at } in
    let below = mod-lt address (omega arith) in
    let said = slots head _ mappings (address % 812) is below in
    one_mapping head _ (address % 812) (slice_index_or mappings (address % 812) Unmapped) Unmapped said
    (record { headed = said.headed; spelled = (unmapped_there page (address % 812) below).spelled; held = tt })
  where
    unmapped_there : (page : PageId) (slot : ℕ) → slot < 812
        → IsSlot (record { geometry = g; page = page; at = b 90 }) (page_bytes (record { geometry = g; page = page; at = b 90 }) (replicate 812 Unmapped)) slot Unmapped
    unmapped_there page slot below =
        let head : PageHead = record { geometry = g; page = page; at = b 90 } in
        subst (λ (mapping : Mapping). IsSlot head (page_bytes head (replicate 812 Unmapped)) slot mapping) (get_or-replicate 812 slot Unmapped Unmapped below)
        (slots head (page_bytes head (replicate 812 Unmapped)) (replicate 812 Unmapped) slot (record { spelled = refl; held = held_unmapped g page.level }) below)

says_otherwise : ¬ SayOf g (λ page. bytes) (λ n. Unmapped)
says_otherwise say = let no' : At (b 100) ≡ Unmapped = say leaf (b 90) content.mappings reads 1 refl in cc

-- Takes, Settles: each of its two ways, and none of the other's
takes_one_of_the_leaves : Takes alike (record alike { cache = record full { dirty_points = handed 6 } }) (p 9) leaf (b 90) bytes
takes_one_of_the_leaves = inl takes_leaf

takes_one_of_the_others : Takes both (record both { tree = record linked { dirty_points = handed 5 } }) (p 9) root (b 9) (page_bytes root_page.head root_page.mappings)
takes_one_of_the_others = inr takes_node

takes_none : (after : ZoneMap) (point : Point) (given : List ℕ) → ¬ Takes m after point leaf (b 90) given
takes_none after point given (inl takes) = takes_a_clean_leaf after point given takes
takes_none after point given (inr takes) = omega (arith, takes.expires.inner.level)

settles_one_of_the_leaves : Settles out (record out { cache = filled }) leaf
settles_one_of_the_leaves = inl settles_leaf

settles_one_of_the_others : Settles out (record out { tree = linked }) root
settles_one_of_the_others = inr settles_node

settles_none : (new : ZoneMap) → ¬ Settles m new leaf
settles_none new (inl settles) = settles_one_that_is_not_out new settles
settles_none new (inr settles) = omega (arith, settles.out.inner.level)
