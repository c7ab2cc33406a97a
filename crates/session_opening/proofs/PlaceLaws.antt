-- Where linked pages stand, link by link.
use Rattle.std.proofs.Common.{ℕ, suc, ◌≡◌, ◌⊎◌, ◌+◌, ◌<◌, ◌==◌, ◌&&◌, cond, Bool, true, false, not, Option, Some, None, IsSome, List, [], ◌∷◌, ◌++◌, All, length, reverse, take, get_or, Contains, slice_index_or, refl, sym, ◌∙◌, ap, ap₂, subst, inl, inr, arith}
use Rattle.std.specs.BTreeMap.{get}
use Rattle.std.specs.Cmp.{unsigned_ties}
use Rattle.std.specs.Option.{is_some}
use Rattle.std.specs.Ordering.{nat_cmp, ordering_then, is_eq}
use Rattle.std.proofs.lemmas.Cmp.{nat_eq_equiv}
use Rattle.std.proofs.lemmas.List.{take_more}
use Rattle.std.proofs.lemmas.List.{reverse-append}
use Rattle.std.proofs.lemmas.List.Elements.{Contains-append_left, Contains-append_right, Contains-append_cases, Contains-get_or}
use Rattle.std.proofs.lemmas.List.Quantifiers.{all_pairs_push}
use Rattle.blk_base.specs.declared.place.PageId.{PageId}
use Rattle.blk_base.specs.declared.place.Pbn.{Pbn}
use Rattle.blk_base.specs.Pages.{page_order}
use Rattle.image_model.proofs.CountLaws.{is_first_or_behind, none_in_nothing}
use Rattle.image_model.specs.Pages.{is_page}
use Rattle.replay_map.proofs.OwnLaws.{page_tells}
use Rattle.replay_map.specs.declared.links.Link.{Link}
use Rattle.replay_map.proofs.ChangeLaws.{both, apart_of}
use Rattle.session_opening.specs.declared.places.Places.{Places}
use Rattle.session_opening.specs.Places.{AreInner, ArePlaces, block_by}

-- The order of pages.

flipped : (x y : ℕ) → is_eq (nat_cmp x y) ≡ (y == x)
flipped x y = sym (unsigned_ties x y) ∙ nat_eq_equiv.symm x y

-- two pages are alike in it where they are one
pub alike : (a b : PageId) → is_eq (page_order a b) ≡ is_page b a
alike a b =
    both (nat_cmp a.tree b.tree) (ordering_then (nat_cmp a.level b.level) (nat_cmp a.index b.index))
    ∙ ap₂ (λ (p q : Bool). p && q) (flipped a.tree b.tree)
    (both (nat_cmp a.level b.level) (nat_cmp a.index b.index)
    ∙ ap₂ (λ (p q : Bool). p && q) (flipped a.level b.level) (flipped a.index b.index))
    ∙ apart_of (b.tree == a.tree) (b.level == a.level) (b.index == a.index)

-- By a list of links.

head_in : (link : Link) (links : List Link) → Contains (link ∷ links) link
head_in link links = (0, omega arith, refl)

behind_in : (link : Link) (links : List Link) (other : Link) → Contains links other → Contains (link ∷ links) other
behind_in link links other (k, inside, is) = (suc k, omega (arith, inside), is)

-- a page of a link has a block
pub linked_has : (links : List Link) (link : Link) → Contains links link → IsSome (block_by links link.page)
linked_has [] link has = absurd (none_in_nothing link has)
linked_has (first ∷ older) link has = elim (page_tells link.page first.page) [
  | inl same ↦ rw same.0 refl
  | inr other ↦ elim (is_first_or_behind first older link has) [
    | inl is ↦ absurd (other.1 (sym (ap (λ (l : Link). l.page) is)))
    | inr behind ↦ rw other.0 (linked_has older link behind)
  ]
]

-- and only such a page
pub block_linked : (links : List Link) (page : PageId) (at : Pbn) → block_by links page ≡ Some at → Contains links (record { page = page; at = at })
block_linked [] page at is = absurd (cc is)
block_linked (first ∷ older) page at is = elim (page_tells page first.page) [
  | inl same ↦
      let found : Some first.at ≡ Some at = rw same.0 at is in
      let block : first.at ≡ at = cc found in
      (0, omega arith, ap₂ (λ (p : PageId) (b : Pbn). record { page = p; at = b }) (sym same.1) block)
  | inr other ↦ behind_in first older (record { page = page; at = at }) (block_linked older page at (rw other.0 at is))
]

none_is_none : (o : Option Pbn) → o ≡ None → IsSome o → ⊥
none_is_none o none some = let gone = subst (λ (p : Option Pbn). IsSome p) none some in absurd (cc gone)

abbrev Differ : Link → Link → Type 0
Differ first second = first.page ≡ second.page → ⊥

-- One link more.

module _ (links : List Link) (link : Link) where
  block_more : (blocks blocks' : PageId → Option Pbn) → ((q : PageId) → blocks' q ≡ cond (is_eq (page_order link.page q)) (Some link.at) (blocks q))
      → ((q : PageId) → blocks q ≡ block_by links q) → (q : PageId) → blocks' q ≡ block_by (link ∷ links) q
  block_more blocks blocks' updates were q =
      updates q ∙ ap₂ (λ (b : Bool) (o : Option Pbn). cond b (Some link.at) o) (alike link.page q) (were q)

  still_each : (inner : List Link) → AreInner links inner → (other : Link) → Contains inner other → (0 < other.page.level) × Contains (link ∷ links) other
  still_each inner were other has = let is = were.each other has in (is.0, behind_in link links other is.1)

  -- the first of a page that is no leaf
  pub inner_more : (inner : List Link) → block_by links link.page ≡ None → 0 < link.page.level → AreInner links inner → AreInner (link ∷ links) (inner ++ link ∷ [])
  inner_more inner fresh level were = record {
    each = λ other has. elim (Contains-append_cases inner (link ∷ []) other has) [
      | inl before ↦ still_each inner were other before
      | inr last ↦ elim (is_first_or_behind link [] other last) [
        | inl is ↦ subst (λ (l : Link). (0 < l.page.level) × Contains (link ∷ links) l) is (level, head_in link links)
        | inr none ↦ absurd (none_in_nothing other none)
      ]
    ];
    every = λ page high some. elim (page_tells page link.page) [
      | inl same ↦ (link, Contains-append_right inner (link ∷ []) link (0, omega arith, refl), sym same.1)
      | inr other ↦
          let found = were.every page high (rw other.0 at some) in
          (found.0, Contains-append_left inner (link ∷ []) found.0 found.1, found.2)
    ];
    once = all_pairs_push Differ inner link were.once (λ k d inside same.
        let item = get_or inner k d in
        let is = were.each item (Contains-get_or inner k d inside) in
        let some = linked_has links item is.1 in
        none_is_none (block_by links link.page) fresh (subst (λ (p : PageId). IsSome (block_by links p)) same some));
  }

  -- another one, or one of a leaf
  inner_same : (inner : List Link) → (IsSome (block_by links link.page)) ⊎ (link.page.level ≡ 0) → AreInner links inner → AreInner (link ∷ links) inner
  inner_same inner known were = record {
    each = still_each inner were;
    every = λ page high some. elim (page_tells page link.page) [
      | inl same ↦ elim known [
        | inl had ↦ were.every page high (subst (λ (p : PageId). IsSome (block_by links p)) (sym same.1) had)
        | inr leaf ↦ let level = ap (λ (p : PageId). p.level) same.1 in absurd (omega (arith, high, level, leaf))
      ]
      | inr other ↦ were.every page high (rw other.0 at some)
    ];
    once = were.once;
  }

-- In the table.

abbrev Blocks' : Places → PageId → Option Pbn
Blocks' places page = get page_order places.blocks page

abbrev Updated : Link → Places → Places → Type 0
Updated link old new = (q : PageId) → Blocks' new q ≡ cond (is_eq (page_order link.page q)) (Some link.at) (Blocks' old q)

pub placed_first : (links : List Link) (link : Link) (old new : Places) → Updated link old new → Blocks' old link.page ≡ None → 0 < link.page.level
    → new.inner.items ≡ old.inner.items ++ link ∷ [] → ArePlaces links old → ArePlaces (link ∷ links) new
placed_first links link old new updates fresh level grown were = record {
  blocks = block_more links link (Blocks' old) (Blocks' new) updates were.blocks;
  inner = subst (AreInner (link ∷ links)) (sym grown) (inner_more links link old.inner.items (sym (were.blocks link.page) ∙ fresh) level were.inner);
}

pub placed_again : (links : List Link) (link : Link) (old new : Places) → Updated link old new → (IsSome (Blocks' old link.page)) ⊎ (link.page.level ≡ 0)
    → new.inner.items ≡ old.inner.items → ArePlaces links old → ArePlaces (link ∷ links) new
placed_again links link old new updates known same were = record {
  blocks = block_more links link (Blocks' old) (Blocks' new) updates were.blocks;
  inner = subst (AreInner (link ∷ links)) (sym same)
      (inner_same links link old.inner.items (elim known [ inl had ↦ inl (subst (λ (o : Option Pbn). IsSome o) (were.blocks link.page) had) | inr leaf ↦ inr leaf ]) were.inner);
}

-- all links so far, and one more
pub placed_next : (links : List Link) (i : ℕ) (d : Link) (old new : Places) → i < length links → ArePlaces (reverse (take i links)) old
    → ((older : List Link) → ArePlaces older old → ArePlaces (get_or links i d ∷ older) new) → ArePlaces (reverse (take (i + 1) links)) new
placed_next links i d old new inside were more =
    let link = get_or links i d in
    subst (λ (ls : List Link). ArePlaces ls new) (sym (ap reverse (take_more links i d inside) ∙ reverse-append (take i links) (link ∷ []))) (more (reverse (take i links)) were)

pub none_placed : (places : Places) → ((q : PageId) → Blocks' places q ≡ None) → places.inner.items ≡ [] → ArePlaces [] places
none_placed places empty none = record {
  blocks = empty;
  inner = subst (AreInner []) (sym none) (record {
    each = λ link has. absurd (none_in_nothing link has);
    every = λ page high some. absurd (cc some);
    once = λ i j d less inside. absurd (omega (arith, inside));
  });
}

pub inner_levels : (links : List Link) (places : Places) → ArePlaces links places → All (λ (link : Link). 0 < link.page.level) places.inner.items
inner_levels links places are k d inside = (are.inner.each (slice_index_or places.inner.items k d) (Contains-get_or places.inner.items k d inside)).0

-- what an insertion gave back, and whether it was nothing
pub nothing_back : (o : Option Pbn) (fresh : Bool) → is_some o ≡ not fresh → fresh ≡ true → o ≡ None
nothing_back None fresh is new = refl
nothing_back (Some at) fresh is new = let gone : true ≡ false = is ∙ ap not new in absurd (cc gone)

pub something_back : (o : Option Pbn) (fresh : Bool) → is_some o ≡ not fresh → fresh ≡ false → IsSome o
something_back o fresh is old = is ∙ ap not old
