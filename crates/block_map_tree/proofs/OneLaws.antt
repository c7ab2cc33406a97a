-- Each call has one result.
use Rattle.std.specs.Prelude.{ℕ, ◌≡◌, List}
use Rattle.std.proofs.Common.{ap, ◌∙◌, sym, subst, arith}
use Rattle.blk_base.specs.declared.geometry.Geometry.{Geometry}
use Rattle.blk_base.specs.declared.place.Mapping.{Mapping}
use Rattle.blk_base.specs.declared.place.Mapping.TheVariants.{At}
use Rattle.blk_base.specs.declared.place.PageId.{PageId}
use Rattle.blk_base.specs.declared.place.Pbn.{Pbn}
use Rattle.blk_base.specs.declared.point.Point.{Point}
use Rattle.dirty_pages.specs.DirtyPoints.{NoneIsDue, handed_out}
use Rattle.dirty_pages.proofs.DirtyPointLaws.{one_is_handed_out, out_or_none}
use Rattle.page_codec.specs.declared.forms.MapPage.{MapPage}
use Rattle.block_map_tree.specs.History.{Operation, HandOut, Leads, Link, Write}
use Rattle.block_map_tree.specs.Tree.{Expires, IsAt, IsTree, Tree, as_root, by_link, mappings_of, number_of, with_change}
use Rattle.block_map_tree.proofs.PageLaws.{one_number}

pub one_at : (tree : Tree) (page : PageId) (at other : Pbn) → IsAt tree page at → IsAt tree page other → at ≡ other
one_at tree page at other (as_root root is) (as_root root' is') = ap (λ (n : ℕ). let b : Pbn = record { 0 = n } in b) (is ∙ sym is')
one_at tree page at other (as_root root is) (by_link lower leads) = absurd (omega (arith, root.level, lower.level))
one_at tree page at other (by_link lower leads) (as_root root is) = absurd (omega (arith, root.level, lower.level))
one_at tree page at other (by_link lower leads) (by_link lower' leads') = let same : At at ≡ At other = sym leads ∙ leads' in cc

same_content : (a b : MapPage) → a.head.geometry ≡ b.head.geometry → a.head.page ≡ b.head.page → a.head.at ≡ b.head.at → a.mappings ≡ b.mappings → a ≡ b
same_content a b geometry page at mappings =
    ap (λ (g : Geometry). let m : MapPage = record { head = record { geometry = g; page = a.head.page; at = a.head.at }; mappings = a.mappings } in m) geometry
    ∙ ap (λ (p : PageId). let m : MapPage = record { head = record { geometry = b.head.geometry; page = p; at = a.head.at }; mappings = a.mappings } in m) page
    ∙ ap (λ (p : Pbn). let m : MapPage = record { head = record { geometry = b.head.geometry; page = b.head.page; at = p }; mappings = a.mappings } in m) at
    ∙ ap (λ (ms : List Mapping). let m : MapPage = record { head = b.head; mappings = ms } in m) mappings

pub call_one : (old new other : Tree) (call : Operation) → Leads old call new → Leads old call other → new ≡ other
call_one old new other (Link page at point) (linkable, one) (linkable', two) = one.set ∙ sym two.set
call_one old new other (HandOut page) (point, into, one) (point', into', two) = one.set ∙ sym two.set
call_one old new other (Write page) (out, one) (out', two) = one.set ∙ sym two.set

-- the page that is handed out is one
pub out_one : (old new other : Tree) (point : Point) (page out : PageId) (into copy : MapPage) → IsTree old → Expires old new point page into → Expires old other point out copy
    → (page ≡ out) × (into ≡ copy) × (new ≡ other)
out_one old new other point page out into copy form one two =
    let number = one_is_handed_out old.dirty_points new.dirty_points other.dirty_points point (number_of old.forest page) (number_of old.forest out) one.dirty_points two.dirty_points in
    let same = one_number old.forest page out form.forest one.inner two.inner number.0 in
    let at = one_at old page into.head.at copy.head.at one.at (subst (λ (p : PageId). IsAt old p copy.head.at) (sym same) two.at) in (
      same,
      same_content into copy (one.geometry ∙ sym two.geometry) (one.page ∙ same ∙ sym two.page) at
          (one.mappings ∙ ap (λ (p : PageId). mappings_of old p) same ∙ sym two.mappings),
      one.set ∙ ap (λ (p : PageId). with_change old p handed_out) same ∙ sym two.set,
    )

pub page_or_none : (old new : Tree) (point : Point) (page : PageId) (into : MapPage) → Expires old new point page into → NoneIsDue old.dirty_points point → ⊥
page_or_none old new point page into expires none = out_or_none old.dirty_points new.dirty_points point (number_of old.forest page) expires.dirty_points none
