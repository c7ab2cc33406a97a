-- Each call has one result.
use Rattle.std.specs.Prelude.{ℕ, ◌≡◌, ◌≤◌, ◌%◌, ◌⊎◌, List, slice_index_or}
use Rattle.std.proofs.Common.{ap, ◌∙◌, sym, subst, arith, inl, inr}
use Rattle.std.proofs.lemmas.Bool.{cases_eq, cases_lt}
use Rattle.blk_base.specs.Pages.{leaf_of}
use Rattle.blk_base.specs.declared.journal_entry.Entry.TheVariants.{NewPage, Remap}
use Rattle.blk_base.specs.declared.place.Mapping.{Mapping}
use Rattle.blk_base.specs.declared.place.Mapping.TheVariants.{Unmapped}
use Rattle.blk_base.specs.declared.place.PageId.{PageId}
use Rattle.blk_base.specs.declared.place.Pbn.{Pbn}
use Rattle.blk_base.specs.declared.point.Point.{Point}
use Rattle.dirty_pages.proofs.DirtyPointLaws.{same_point}
use Rattle.page_codec.specs.Grammar.{IsPage}
use Rattle.page_codec.specs.PageBytes.{page_bytes}
use Rattle.page_codec.specs.declared.forms.MapPage.{MapPage}
use Rattle.page_codec.proofs.ReadLaws.{one_page}
use Rattle.block_map_tree.specs.Tree.{IsAt, Tree}
use Rattle.block_map_tree.proofs.OneLaws as tree_laws
use Rattle.map_page_cache.specs.CachedPages.{CachedPages, IsIn}
use Rattle.map_page_cache.specs.CachedPages as cached
use Rattle.map_page_cache.specs.Runs as runs
use Rattle.map_page_cache.proofs.OneLaws as cache_laws
use Rattle.map_page_cache.proofs.RunLaws.{one_content}
use Rattle.map_zone.specs.Operations.{Apply, Operation, HandOut, Install, Leads, Write}
use Rattle.map_zone.specs.Lookups.{IsLooked, MissesPage, NeedsLeaf, Shows}
use Rattle.map_zone.specs.PageWrites.{IsLow, NoneDue, Takes, TakesLeaf, TakesNode}
use Rattle.map_zone.specs.ZoneMap.{IsZoneMap, ZoneMap, head_at}
use Rattle.map_zone.specs.declared.forms.Looked.{Looked}
use Rattle.map_zone.specs.declared.forms.Looked.TheVariants as looked

abbrev with_cache : ZoneMap → CachedPages → ZoneMap
with_cache m c = record m { cache = c }

abbrev with_tree : ZoneMap → Tree → ZoneMap
with_tree m t = record m { tree = t }

-- the same change of the cache, or of the tree
by_cache : (old new other : ZoneMap) → new ≡ record old { cache = new.cache } → other ≡ record old { cache = other.cache } → new.cache ≡ other.cache → new ≡ other
by_cache old new other after after' same = after ∙ ap (λ (c : CachedPages). with_cache old c) same ∙ sym after'

by_tree : (old new other : ZoneMap) → new ≡ record old { tree = new.tree } → other ≡ record old { tree = other.tree } → new.tree ≡ other.tree → new ≡ other
by_tree old new other after after' same = after ∙ ap (λ (t : Tree). with_tree old t) same ∙ sym after'

-- a page in memory is a leaf
leaf_level : (m : ZoneMap) (page : PageId) (frame : ℕ) (content : MapPage) → IsZoneMap m → IsIn m.cache page frame content → page.level ≡ 0
leaf_level m page frame content form stands = (form.leaves page content ((frame, stands.inside, stands.is), stands.named)).level

pub call_one : (old new other : ZoneMap) (call : Operation) → IsZoneMap old → Leads old call new → Leads old call other → new ≡ other
call_one old new other (Apply (Remap at was now) point) form (may, one) (may', two) =
    by_cache old new other one.after two.after (cache_laws.call_one old.cache new.cache other.cache (runs.Set (leaf_of at.0) (at.0 % 812) now point) form.cache one.sets two.sets)
call_one old new other (Apply (NewPage page at) point) form (may, one) (may', two) =
    by_tree old new other one.after two.after (one.links.set ∙ sym two.links.set)
call_one old new other (Install page bytes) form (may, one) (may', two) =
    let at : one.at ≡ two.at = tree_laws.one_at old.tree page one.at two.at one.stands two.stands in
    let mappings : one.mappings ≡ two.mappings
    = one_page (head_at old page one.at) bytes one.mappings two.mappings one.read (subst (λ (b : Pbn). IsPage (head_at old page b) bytes two.mappings) (sym at) two.read) in
    let content : MapPage = record { head = head_at old page one.at; mappings = one.mappings } in
    let fills : cached.Fills old.cache other.cache content ⊎ cached.GivesUp old.cache other.cache content
    = subst (λ (b : Pbn). let c : MapPage = record { head = head_at old page b; mappings = one.mappings } in cached.Fills old.cache other.cache c ⊎ cached.GivesUp old.cache other.cache c) (sym at)
    (subst (λ (ms : List Mapping). let c : MapPage = record { head = head_at old page two.at; mappings = ms } in cached.Fills old.cache other.cache c ⊎ cached.GivesUp old.cache other.cache c)
    (sym mappings) two.fills) in
    by_cache old new other one.after two.after
    (cache_laws.call_one old.cache new.cache other.cache (runs.Install content) form.cache (may.absent, one.fills) (may.absent, fills))
call_one old new other (HandOut page at bytes) form (point, inl one) (point', inl two) =
    by_cache old new other one.after two.after
    (cache_laws.call_one old.cache new.cache other.cache (runs.HandOut page) form.cache (point, one.copy, one.expires) (point', two.copy, two.expires))
call_one old new other (HandOut page at bytes) form (point, inl one) (point', inr two) =
    absurd (omega (arith, leaf_level old page one.expires.frame one.copy form one.expires.stood, two.expires.inner.level))
call_one old new other (HandOut page at bytes) form (point, inr one) (point', inl two) =
    absurd (omega (arith, leaf_level old page two.expires.frame two.copy form two.expires.stood, one.expires.inner.level))
call_one old new other (HandOut page at bytes) form (point, inr one) (point', inr two) = by_tree old new other one.after two.after (one.expires.set ∙ sym two.expires.set)
call_one old new other (Write page) form (out, inl one) (out', inl two) =
    by_cache old new other one.after two.after (cache_laws.call_one old.cache new.cache other.cache (runs.Write page) form.cache (one.out, one.writes) (two.out, two.writes))
call_one old new other (Write page) form (out, inl one) (out', inr two) =
    absurd (omega (arith, leaf_level old page one.out.frame one.out.content form one.out.stands, two.out.inner.level))
call_one old new other (Write page) form (out, inr one) (out', inl two) =
    absurd (omega (arith, leaf_level old page two.out.frame two.out.content form two.out.stands, one.out.inner.level))
call_one old new other (Write page) form (out, inr one) (out', inr two) = by_tree old new other one.after two.after (one.writes.set ∙ sym two.writes.set)

-- the page that is handed out is one
never_both : (old new other : ZoneMap) (point : Point) (page out : PageId) (at b : Pbn) (bytes given : List ℕ) → TakesLeaf old new point page at bytes → TakesNode old other point out b given → ⊥
never_both old new other point page out at b bytes given leaf node =
    let below = leaf.first _ node.expires.dirty_points.first node.expires.dirty_points.due in
    let above = node.first leaf.expires.frame leaf.expires.dirty_points.first leaf.expires.dirty_points.due in
    omega (arith, below, above)

pub out_one : (old new other : ZoneMap) (point : Point) (page out : PageId) (at b : Pbn) (bytes given : List ℕ) → IsZoneMap old → Takes old new point page at bytes
    → Takes old other point out b given → (page ≡ out) × (at ≡ b) × (bytes ≡ given) × (new ≡ other)
out_one old new other point page out at b bytes given form (inl one) (inl two) =
    let same = cache_laws.out_one old.cache new.cache other.cache point page out one.copy two.copy one.expires two.expires in (
      same.0,
      one.spelled.placed ∙ ap (λ (c : MapPage). c.head.at) same.1 ∙ sym two.spelled.placed,
      one.spelled.said ∙ ap (λ (c : MapPage). page_bytes c.head c.mappings) same.1 ∙ sym two.spelled.said,
      by_cache old new other one.after two.after same.2,
    )
out_one old new other point page out at b bytes given form (inl one) (inr two) = absurd (never_both old new other point page out at b bytes given one two)
out_one old new other point page out at b bytes given form (inr one) (inl two) = absurd (never_both old other new point out page b at given bytes two one)
out_one old new other point page out at b bytes given form (inr one) (inr two) =
    let same = tree_laws.out_one old.tree new.tree other.tree point page out one.copy two.copy form.tree one.expires two.expires in (
      same.0,
      one.spelled.placed ∙ ap (λ (c : MapPage). c.head.at) same.1 ∙ sym two.spelled.placed,
      one.spelled.said ∙ ap (λ (c : MapPage). page_bytes c.head c.mappings) same.1 ∙ sym two.spelled.said,
      by_tree old new other one.after two.after same.2,
    )

pub page_or_none : (old new : ZoneMap) (point : Point) (page : PageId) (at : Pbn) (bytes : List ℕ) → Takes old new point page at bytes → NoneDue old point → ⊥
page_or_none old new point page at bytes (inl takes) none = cache_laws.page_or_none old.cache new.cache point page takes.copy takes.expires none.leaves
page_or_none old new point page at bytes (inr takes) none = tree_laws.page_or_none old.tree new.tree point page takes.copy takes.expires none.nodes

-- what is known of an address is one
shown_one : (m : ZoneMap) (address : ℕ) (mapping other : Mapping) → IsZoneMap m → Shows m address mapping → Shows m address other → mapping ≡ other
shown_one m address mapping other form one two =
    one.says ∙ ap (λ (c : MapPage). slice_index_or c.mappings (address % 812) Unmapped) (one_content m.cache (leaf_of address) one.content two.content form.cache one.there two.there)
    ∙ sym two.says

shown_or_needed : (m : ZoneMap) (address : ℕ) (mapping : Mapping) (page : PageId) (at : Pbn) → Shows m address mapping → NeedsLeaf m address page at → ⊥
shown_or_needed m address mapping page at shows needs =
    needs.absent shows.there.0.0 shows.content shows.there.0.1 (ap (λ (c : MapPage). c.head.page) shows.there.0.2 ∙ shows.there.1 ∙ sym needs.is_leaf)

missed_one : (m : ZoneMap) (address level other : ℕ) → MissesPage m address level → MissesPage m address other → level ≡ other
missed_one m address level other one two =
    elim (cases_lt level other) [
      | inl below ↦ absurd (two.missing (one.above other below two.low))
      | inr behind ↦ elim (cases_eq level other) [ inl same ↦ same | inr apart ↦ absurd (one.missing (two.above level (omega arith) one.low)) ]
    ]

pub looked_one : (m : ZoneMap) (address : ℕ) (one two : Looked) → IsZoneMap m → IsLooked m address one → IsLooked m address two → one ≡ two
looked_one m address (looked.Is mapping) (looked.Is other) form is is' = ap (λ (n : Mapping). looked.Is n) (shown_one m address mapping other form is.1 is'.1)
looked_one m address (looked.Is mapping) (looked.NeedLeaf page at) form is is' = absurd (shown_or_needed m address mapping page at is.1 is'.1)
looked_one m address (looked.Is mapping) (looked.NoPage level) form is is' = absurd (is'.missing (is.0 level is'.low))
looked_one m address (looked.NeedLeaf page at) (looked.Is mapping) form is is' = absurd (shown_or_needed m address mapping page at is'.1 is.1)
looked_one m address (looked.NeedLeaf page at) (looked.NeedLeaf other b) form is is' =
    let same : page ≡ other = is.1.is_leaf ∙ sym is'.1.is_leaf in
    let block : at ≡ b = tree_laws.one_at m.tree other at b (subst (λ (p : PageId). IsAt m.tree p at) same is.1.stands) is'.1.stands in
    ap (λ (p : PageId). looked.NeedLeaf p at) same ∙ ap (λ (k : Pbn). looked.NeedLeaf other k) block
looked_one m address (looked.NeedLeaf page at) (looked.NoPage level) form is is' = absurd (is'.missing (is.0 level is'.low))
looked_one m address (looked.NoPage level) (looked.Is mapping) form is is' = absurd (is.missing (is'.0 level is.low))
looked_one m address (looked.NoPage level) (looked.NeedLeaf page at) form is is' = absurd (is.missing (is'.0 level is.low))
looked_one m address (looked.NoPage level) (looked.NoPage other) form is is' = ap (λ (n : ℕ). looked.NoPage n) (missed_one m address level other is is')

-- and so is the low point
pub low_one : (m : ZoneMap) (low other : Point) → IsLow m low → IsLow m other → low ≡ other
low_one m low other one two = same_point low other (omega (arith, at_most m low other one two, at_most m other low two one))
  where
    at_most : (m : ZoneMap) (p q : Point) → IsLow m p → IsLow m q → p.0 ≤ q.0
    at_most m p q is is' = elim is'.own [ inl leaf ↦ is.leaves leaf.number q leaf.has | inr node ↦ is.nodes node.number q node.has ]
