-- Each call by what the code computes. Callers know a tree by its view, `known`.
use Rattle.std.specs.Prelude.{ℕ, ◌≡◌, ◌<◌, Bool, true, false, IsTrue, Option, None, Some, IfSome, IfNone, is_some, List, [], length, slice_index_or, slice_set, refl}
use Rattle.std.proofs.Common.{sym, ◌∙◌, ap, subst, inl, inr, arith}
use Rattle.std.proofs.lemmas.List.{get_or_default}
use Rattle.blk_base.specs.declared.place.PageId.{PageId}
use Rattle.blk_base.specs.declared.place.Pbn.{Pbn}
use Rattle.blk_base.specs.declared.place.Mapping.{Mapping}
use Rattle.blk_base.specs.declared.place.Mapping.TheVariants.{At}
use Rattle.blk_base.specs.declared.point.Point.{Point}
use Rattle.page_codec.specs.declared.forms.MapPage.{MapPage}
use Rattle.blk_base.specs.Regions.{IsDataBlock}
use Rattle.blk_base.specs.Pages.{above, slot_of}
use Rattle.page_codec.specs.Grammar.{AreHeld}
use Rattle.page_codec.proofs.HeldLaws.{held_above}
use Rattle.dirty_pages.specs.declared.dirty_points.DirtyPoints.{DirtyPoints}
use Rattle.dirty_pages.specs.DirtyPoints.{HandsOut, dirty_points_at, with_dirty_points, changed_at, handed_out, settled}
use Rattle.dirty_pages.proofs.DirtyPointLaws.{due_inside, out_inside}
use Rattle.block_map_tree.specs.Pages.{IsInner, IsOnPath, IsRoot}
use Rattle.block_map_tree.specs.Tree.{Tree, IsTree, IsAt, IsThere, IsLinkable, Links, Expires, IsWriting, Writes, number_of, mappings_of}
use Rattle.block_map_tree.proofs.TreeLaws.{HasPlace, dirty_points_keep, dirty_points_move_none, dirty_points_move_none_back, links, place_above}
use Rattle.plain_laws.proofs.OptionLaws.{some_of}

-- where the page above stands
pub parent_place : (known tree : Tree) (page : PageId) → tree ≡ known → IsTree tree → IsLinkable known page → HasPlace tree page
parent_place known tree page same form linkable = place_above tree page form (subst (λ (t : Tree). IsLinkable t page) (sym same) linkable)

pub linking : (known tree : Tree) (page parent : PageId) (at : Pbn) (point : Point) (n slot : ℕ) (row row' : List Mapping) (dirty_points : List DirtyPoints)
    → tree ≡ known → IsTree tree → IsLinkable known page → IsThere known (above page) → IsDataBlock known.forest.geometry at.0
    → parent ≡ above page → n ≡ number_of tree.forest parent → slot ≡ slot_of page → row ≡ slice_index_or tree.pages n row
    → row' ≡ slice_set row slot (At at) → dirty_points ≡ with_dirty_points tree.dirty_points n (changed_at point)
    → Links known (record { forest = tree.forest; pages = slice_set tree.pages n row'; dirty_points = dirty_points }) page at point
linking known tree page parent at point n slot row row' dirty_points same form linkable there block above_is number_is slot_is row_is row_set dirty_points_set =
    let form' = rw same at form in
    let number : n ≡ number_of tree.forest (above page) = number_is ∙ ap (λ (p : PageId). number_of tree.forest p) above_is in
    let inside : n < length tree.pages = subst (λ (k : ℕ). k < length tree.pages) (sym number) (parent_place known tree page same form linkable).page_inside in
    let read : row ≡ mappings_of tree (above page) = row_is ∙ get_or_default tree.pages n row [] inside ∙ ap (λ (k : ℕ). slice_index_or tree.pages k []) number in
    rw (row_set, slot_is, read, dirty_points_set, number, same) (links known page at point form' linkable there block)

pub writing : (known tree : Tree) (page : PageId) (n : ℕ) (dirty_points : List DirtyPoints) → tree ≡ known → IsTree tree → IsWriting known page
    → n ≡ number_of tree.forest page → dirty_points ≡ with_dirty_points tree.dirty_points n settled
    → Writes known (record { forest = tree.forest; pages = tree.pages; dirty_points = dirty_points }) page
writing known tree page n dirty_points same form out number_is dirty_points_are =
    let m = number_of known.forest page in
    rw (dirty_points_are, number_is, same) (record {
      set = refl;
      form = dirty_points_keep known m (settled (dirty_points_at known.dirty_points m)) (rw same at form) (out_inside known.dirty_points m out.dirty_points) (λ point has. elim has [
        | inl dirty ↦ (point, inl dirty)
        | inr out_at ↦ cc
      ]);
    })

-- the dirty points after a page was handed out are those of a tree
pub handed_form : (tree : Tree) (new : List DirtyPoints) (point : Point) (n : ℕ) → IsTree tree → HandsOut tree.dirty_points new point n
    → IsTree (record { forest = tree.forest; pages = tree.pages; dirty_points = new })
handed_form tree new point n form out =
    rw out.after (dirty_points_keep tree n (handed_out (dirty_points_at tree.dirty_points n)) form (due_inside tree.dirty_points n out.first out.due) (λ point' has. elim has [
      | inl dirty ↦ cc
      | inr out_at ↦ (point', inl out_at)
    ]))

-- and that page is there
pub handed_there : (tree : Tree) (new : List DirtyPoints) (point : Point) (n : ℕ) (page : PageId) → IsTree tree → HandsOut tree.dirty_points new point n
    → IsInner tree.forest page → number_of tree.forest page ≡ n
    → ((at : Pbn) → IsAt (record { forest = tree.forest; pages = tree.pages; dirty_points = new }) page at → ⊥) → ⊥
handed_there tree new point n page form out inner number none =
    let there = form.there page out.first inner (inl (ap (λ (k : ℕ). (dirty_points_at tree.dirty_points k).dirty) number ∙ out.due.dirty)) in
    none there.at (dirty_points_move_none tree new page there.at there.stands)

pub expires : (known tree : Tree) (new : List DirtyPoints) (into : MapPage) (page : PageId) (point : Point) (n : ℕ) (row : List Mapping) → tree ≡ known → IsTree tree
    → HandsOut tree.dirty_points new point n → IsInner tree.forest page → number_of tree.forest page ≡ n
    → IsAt (record { forest = tree.forest; pages = tree.pages; dirty_points = new }) page into.head.at → into.head.geometry ≡ tree.forest.geometry → into.head.page ≡ page
    → row ≡ slice_index_or tree.pages n row → into.mappings ≡ row
    → Expires known (record { forest = tree.forest; pages = tree.pages; dirty_points = new }) point page into
expires known tree new into page point n row same form out inner number stands geometry page_is row_is mappings =
    let size = form.dirty_points in
    let inside : n < length tree.pages = let marked = due_inside tree.dirty_points n out.first out.due in omega arith in
    let read : into.mappings ≡ slice_index_or tree.pages n [] = mappings ∙ row_is ∙ get_or_default tree.pages n row [] inside in
    subst (λ (t : Tree). Expires t (record { forest = tree.forest; pages = tree.pages; dirty_points = new }) point page into) same (record {
      inner = inner;
      dirty_points = subst (λ (k : ℕ). HandsOut tree.dirty_points new point k) (sym number) out;
      geometry = geometry;
      page = page_is;
      at = dirty_points_move_none_back tree new page into.head.at stands;
      mappings = read ∙ ap (λ (k : ℕ). slice_index_or tree.pages k []) (sym number);
      held = subst (λ (r : List Mapping). AreHeld tree.forest.geometry page.level r) (sym read)
          (held_above tree.forest.geometry 1 page.level (slice_index_or tree.pages n []) (omega arith) (form.held n [] inside));
      form = handed_form tree new point n form out;
      set = ap (λ (ms : List DirtyPoints). record { forest = tree.forest; pages = tree.pages; dirty_points = ms }) (out.after ∙ ap (λ (k : ℕ). with_dirty_points tree.dirty_points k handed_out) (sym number));
    })

-- whether a page is being written, by its dirty points
pub out_so : (known tree : Tree) (page : PageId) (n : ℕ) (dirty_points : DirtyPoints) (some : Bool) → tree ≡ known → IsInner tree.forest page → n ≡ number_of tree.forest page
    → dirty_points ≡ dirty_points_at tree.dirty_points n → some ≡ is_some dirty_points.writing → (IsTrue some → IsWriting known page) × (IsWriting known page → IsTrue some)
out_so known tree page n dirty_points some same inner number is flag =
    let here : dirty_points ≡ dirty_points_at tree.dirty_points (number_of tree.forest page) = is ∙ ap (λ (k : ℕ). dirty_points_at tree.dirty_points k) number in (
      (λ yes'.
          let point = some_of dirty_points.writing (sym flag ∙ yes') in
          subst (λ (t : Tree). IsWriting t page) same (record { inner = inner; dirty_points = record { first = point.0; is = ap (λ (m : DirtyPoints). m.writing) (sym here) ∙ point.1 } })),
      (λ out.
          let out' = subst (λ (t : Tree). IsWriting t page) (sym same) out in
          flag ∙ ap (λ (m : DirtyPoints). is_some m.writing) here ∙ ap (λ (o : Option Point). is_some o) out'.dirty_points.is),
    )

-- whether a page may be linked, by what the page above stands at
pub linkable_so : (tree : Tree) (page : PageId) (found : Option Pbn) (some : Bool) → IsOnPath tree.forest page × (IsRoot tree.forest page → ⊥)
    → IfSome found (IsAt tree (above page)) → IfNone found ((at : Pbn) → IsAt tree (above page) at → ⊥) → some ≡ is_some found
    → (IsTrue some → IsLinkable tree page × IsThere tree (above page)) × (IsLinkable tree page × IsThere tree (above page) → IsTrue some)
linkable_so tree page None some on at none flag = ((λ yes'. absurd (let no' : true ≡ false = sym yes' ∙ flag in cc)), λ is. absurd (none is.1.at is.1.stands))
linkable_so tree page (Some b) some on at none flag = ((λ yes'. (record { path = on.0; lower = on.1 }, record { at = b; stands = at })), λ is. flag)
