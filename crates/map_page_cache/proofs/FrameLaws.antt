-- The pages of a cache by their frames: what is where after one frame changed, and that the index follows.
use Rattle.std.specs.Prelude.{ℕ, ◌≡◌, ◌≢◌, ◌<◌, ◌⊎◌, ◌↔◌, List, [], ◌∷◌, ◌++◌, length, All, refl}
use Rattle.std.proofs.Common.{ap, ◌∙◌, sym, subst, arith, get_or, set, inl, inr, length-append}
use Rattle.std.proofs.Math.Seq.{get_or-append_seam}
use Rattle.std.proofs.lemmas.Bool.{cases_eq}
use Rattle.std.proofs.lemmas.List.{get_or_default, get_or-set_same, get_or-set_other, length-set, get_or_append_left}
use Rattle.blk_base.specs.declared.place.PageId.{PageId}
use Rattle.page_codec.specs.declared.forms.MapPage.{MapPage}
use Rattle.dirty_pages.proofs.PageLists.{at_set}
use Rattle.map_page_cache.specs.Index.{Index, HasSlot, Adds, Removes}
use Rattle.map_page_cache.specs.CachedPages.{AreApart}
use Rattle.map_page_cache.specs.Frames.{IsAt, Follows}

-- a frame of a list that has one
pub page_in : (pages : List MapPage) (slot : ℕ) → slot < length pages → MapPage
page_in [] slot inside = absurd (omega arith)
page_in (frame ∷ pages) slot inside = frame

-- a place has the page whatever the default of the reading is
pub at_by : (pages : List MapPage) (page : PageId) (slot : ℕ) (d : MapPage) → slot < length pages → (get_or pages slot d).head.page ≡ page → IsAt pages page slot
at_by pages page slot d inside is =
    record { inside = inside; named = λ e. ap (λ (f : MapPage). f.head.page) (get_or_default pages slot e d inside) ∙ is }

-- a frame has one page, and a page one frame
pub one_page : (pages : List MapPage) (page other : PageId) (frame : ℕ) → IsAt pages page frame → IsAt pages other frame → page ≡ other
one_page pages page other frame at at' = let d = page_in pages frame at.inside in sym (at.named d) ∙ at'.named d

pub one_frame : (pages : List MapPage) (page : PageId) (frame other : ℕ) → AreApart pages → IsAt pages page frame → IsAt pages page other → frame ≡ other
one_frame pages page frame other apart at at' =
    let d = page_in pages frame at.inside in
    apart frame other d at.inside at'.inside (at.named d ∙ sym (at'.named d))

-- a page isn't there where no frame has it
pub absent_at : (pages : List MapPage) (page : PageId) → All (λ content. content.head.page ≢ page) pages → (frame : ℕ) → IsAt pages page frame → ⊥
absent_at pages page absent frame at =
    let d = page_in pages frame at.inside in
    absent frame d at.inside (at.named d)

pub none_absent : (pages : List MapPage) (page : PageId) → ((frame : ℕ) → IsAt pages page frame → ⊥) → All (λ content. content.head.page ≢ page) pages
none_absent pages page none k d inside named = none k (at_by pages page k d inside named)

-- the same of another page and place that are equal to these
same_place : (F : PageId → ℕ → Type 0) (page page' : PageId) (place place' : ℕ) → page ≡ page' → place ≡ place' → F page place → F page' place'
same_place F page page' place place' named is fact = subst (λ (p : PageId). F p place') named (subst (λ (k : ℕ). F page k) is fact)

-- what is there after a page was set in a frame
pub set_at : (pages : List MapPage) (place k : ℕ) (content : MapPage) (page : PageId) → place < length pages → IsAt (set pages place content) page k
    → ((k ≡ place) × (content.head.page ≡ page)) ⊎ ((k ≢ place) × IsAt pages page k)
set_at pages place k content page inside at =
    let size = length-set pages place content in
    let within = at.inside in
    elim (at_set pages place k content content inside) [
      | inl here ↦ inl (here.0, ap (λ (c : MapPage). c.head.page) (sym here.1) ∙ at.named content)
      | inr before ↦ inr (before.0, at_by pages page k content (omega arith) (ap (λ (c : MapPage). c.head.page) (sym before.1) ∙ at.named content))
    ]

set_here : (pages : List MapPage) (place : ℕ) (content : MapPage) → place < length pages → IsAt (set pages place content) content.head.page place
set_here pages place content inside =
    at_by (set pages place content) content.head.page place content (let size = length-set pages place content in omega arith)
    (ap (λ (c : MapPage). c.head.page) (get_or-set_same pages place content content inside))

pub set_other : (pages : List MapPage) (place k : ℕ) (content : MapPage) (page : PageId) → k ≢ place → IsAt pages page k → IsAt (set pages place content) page k
set_other pages place k content page apart at = record {
  inside = omega (arith, length-set pages place content, at.inside);
  named = λ d. ap (λ (c : MapPage). c.head.page) (get_or-set_other pages place k content d apart) ∙ at.named d;
}

-- and where the frame had the same page before
pub same_frames : (pages : List MapPage) (place : ℕ) (content : MapPage) → IsAt pages content.head.page place
    → (page : PageId) (k : ℕ) → IsAt pages page k ↔ IsAt (set pages place content) page k
same_frames pages place content at page k = (
  (λ before. elim (cases_eq k place) [
    | inl here ↦
        let same = one_page pages content.head.page page place at (subst (λ (n : ℕ). IsAt pages page n) here before) in
        same_place (IsAt (set pages place content)) _ page _ k same (sym here) (set_here pages place content at.inside)
    | inr apart ↦ set_other pages place k content page apart before
  ]),
  λ after. elim (set_at pages place k content page at.inside after) [
    | inl here ↦ same_place (IsAt pages) _ page _ k here.1 (sym here.0) at
    | inr before ↦ before.1
  ],
)

-- after a page was added behind all others
pub push_at : (pages : List MapPage) (k : ℕ) (content : MapPage) (page : PageId) → IsAt (pages ++ content ∷ []) page k
    → ((k ≡ length pages) × (content.head.page ≡ page)) ⊎ ((k ≢ length pages) × IsAt pages page k)
push_at pages k content page at =
    let size = length-append pages (content ∷ []) in
    let within = at.inside in
    elim (cases_eq k (length pages)) [
      | inl here ↦ inl (
        here,
        sym (ap (λ (c : MapPage). c.head.page) (ap (λ (n : ℕ). get_or (pages ++ content ∷ []) n content) here ∙ get_or-append_seam pages content [] content)) ∙ at.named content,
      )
      | inr apart ↦
          let inside : k < length pages = omega arith in
          inr (apart, record { inside = inside; named = λ d. ap (λ (c : MapPage). c.head.page) (sym (get_or_append_left pages (content ∷ []) d k inside)) ∙ at.named d })
    ]

push_here : (pages : List MapPage) (content : MapPage) → IsAt (pages ++ content ∷ []) content.head.page (length pages)
push_here pages content = record {
  inside = omega (arith, length-append pages (content ∷ []));
  named = λ d. ap (λ (c : MapPage). c.head.page) (get_or-append_seam pages content [] d);
}

pub push_old : (pages : List MapPage) (k : ℕ) (content : MapPage) (page : PageId) → IsAt pages page k → IsAt (pages ++ content ∷ []) page k
push_old pages k content page at = record {
  inside = omega (arith, length-append pages (content ∷ []), at.inside);
  named = λ d. ap (λ (c : MapPage). c.head.page) (get_or_append_left pages (content ∷ []) d k at.inside) ∙ at.named d;
}

-- no two pages are the same where a new one is in one frame and wasn't in another
pub apart-change : (pages pages' : List MapPage) (place : ℕ) (fresh : PageId) → AreApart pages
    → ((page : PageId) (k : ℕ) → IsAt pages' page k → ((k ≡ place) × (fresh ≡ page)) ⊎ ((k ≢ place) × IsAt pages page k))
    → ((k : ℕ) → k ≢ place → IsAt pages fresh k → ⊥) → AreApart pages'
apart-change pages pages' place fresh apart split differs = λ j k d at_j at_k same.
    let page = (get_or pages' k d).head.page in
    elim (split page j (at_by pages' page j d at_j same)) [
      | inl new ↦ elim (split page k (at_by pages' page k d at_k refl)) [
        | inl both ↦ new.0 ∙ sym both.0
        | inr old ↦ absurd (differs k old.0 (subst (λ (p : PageId). IsAt pages p k) (sym new.1) old.1))
      ]
      | inr old ↦ elim (split page k (at_by pages' page k d at_k refl)) [
        | inl new ↦ absurd (differs j old.0 (subst (λ (p : PageId). IsAt pages p j) (sym new.1) old.1))
        | inr both ↦ one_frame pages page j k apart old.1 both.1
      ]
    ]

-- the index, where a page is changed in its frame
pub follows-set : (index : Index) (frames : ℕ) (pages : List MapPage) (slot : ℕ) (frame : MapPage) → Follows index frames pages
    → IsAt pages frame.head.page slot → Follows index frames (set pages slot frame)
follows-set index frames pages slot frame follows at = record {
  room = follows.room;
  count = follows.count ∙ sym (length-set pages slot frame);
  pages_at = λ page s has. (same_frames pages slot frame at page s).0 (follows.pages_at page s has);
  all = λ page s new. follows.all page s ((same_frames pages slot frame at page s).1 new);
}

-- a page behind all others
pub follows-push : (index index' : Index) (frames slot : ℕ) (pages : List MapPage) (frame : MapPage) (page : PageId) → Follows index frames pages
    → Adds index index' page slot → slot ≡ length pages → frame.head.page ≡ page → Follows index' frames (pages ++ frame ∷ [])
follows-push index index' frames slot pages frame page follows adds is named = record {
  room = adds.room ∙ follows.room;
  count = omega (arith, length-append pages (frame ∷ []), adds.count, follows.count);
  pages_at = λ other s has. elim (adds.only other s has) [
    | inl old ↦ push_old pages s frame other (follows.pages_at other s old)
    | inr new ↦ same_place (IsAt (pages ++ frame ∷ [])) _ other _ s (named ∙ sym new.0) (sym (new.1 ∙ is)) (push_here pages frame)
  ];
  all = λ other s at. elim (push_at pages s frame other at) [
    | inl new ↦ same_place (HasSlot index') page other slot s (sym named ∙ new.1) (is ∙ sym new.0) adds.added
    | inr old ↦ adds.kept other s (follows.all other s old.1)
  ];
}

-- another page in the slot of one that was given up
pub follows-replace : (index without index' : Index) (frames slot : ℕ) (pages : List MapPage) (frame : MapPage) (gone page : PageId) → Follows index frames pages
    → AreApart pages → IsAt pages gone slot → Removes index without gone → Adds without index' page slot
    → frame.head.page ≡ page → Follows index' frames (set pages slot frame)
follows-replace index without index' frames slot pages frame gone page follows apart at removes adds named = record {
  room = adds.room ∙ removes.room ∙ follows.room;
  count = omega (arith, length-set pages slot frame, adds.count, removes.count, follows.count);
  pages_at = λ other s has. elim (adds.only other s has) [
    | inl old ↦
        let there = follows.pages_at other s (removes.only other s old) in
        set_other pages slot s frame other
        (λ same. removes.gone s (subst (λ (p : PageId). HasSlot without p s) (one_page pages other gone s there (subst (λ (k : ℕ). IsAt pages gone k) (sym same) at)) old)) there
    | inr new ↦ same_place (IsAt (set pages slot frame)) _ other _ s (named ∙ sym new.0) (sym new.1) (set_here pages slot frame at.inside)
  ];
  all = λ other s new. elim (set_at pages slot s frame other at.inside new) [
    | inl here ↦ same_place (HasSlot index') page other slot s (sym named ∙ here.1) (sym here.0) adds.added
    | inr old ↦ adds.kept other s (removes.kept other s
        (λ is. old.0 (one_frame pages gone s slot apart (subst (λ (p : PageId). IsAt pages p s) is old.1) at)) (follows.all other s old.1))
  ];
}
