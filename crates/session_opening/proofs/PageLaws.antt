-- Pages that stand where links say.
use Rattle.std.proofs.Common.{ℕ, suc, ◌≡◌, ◌+◌, ◌<◌, List, [], ◌∷◌, ◌++◌, length, take, get_or, sym, ◌∙◌, ap, subst, arith}
use Rattle.std.proofs.lemmas.List.{take_more}
use Rattle.std.proofs.lemmas.List.{append-nil, append_assoc}
use Rattle.blk_base.specs.declared.opened.OpenedPage.{OpenedPage}
use Rattle.blk_base.specs.declared.sizes.TheConstants.{PAGE_SLOTS, TREES}
use Rattle.blk_base.specs.declared.geometry.Geometry.{Geometry}
use Rattle.replay_map.specs.declared.links.Link.{Link}
use Rattle.session_opening.specs.declared.places.Places.{Places}
use Rattle.replay_map.specs.Links.{root_link}
use Rattle.session_opening.specs.Pages.{AreAdded, AreLinked, ArePages, roots_below}
use Rattle.session_opening.specs.Places.{AreLeading, ArePlaces}

module _ (links : List Link) where
  pub linked_append : (first second : List Link) (pages others : List OpenedPage) → AreLinked links first pages → AreLinked links second others
      → AreLinked links (first ++ second) (pages ++ others)
  linked_append [] second [] others are more = more
  linked_append [] second (page ∷ pages) others are more = absurd are
  linked_append (link ∷ first) second [] others are more = absurd are
  linked_append (link ∷ first) second (page ∷ pages) others are more = (are.0, linked_append first second pages others are.1 more)

  pub none_added : (old : List OpenedPage) → AreAdded links [] old old
  none_added old = ([], tt, sym (append-nil old))

  pub added_more : (first second : List Link) (old middle new : List OpenedPage) → AreAdded links first old middle → AreAdded links second middle new
      → AreAdded links (first ++ second) old new
  added_more first second old middle new (pages, are, grown) (others, more, grown_more) = (
    pages ++ others,
    linked_append first second pages others are more,
    grown_more ∙ ap (λ (ps : List OpenedPage). ps ++ others) grown ∙ append_assoc old pages others,
  )

  pub one_added : (link : Link) (page : OpenedPage) (old new : List OpenedPage) → page.page ≡ link.page → page.at ≡ link.at
      → AreLeading links link.page PAGE_SLOTS page.mappings → new ≡ old ++ page ∷ [] → AreAdded links (link ∷ []) old new
  one_added link page old new named stands leading grown = (page ∷ [], ((named, stands, leading), tt), grown)

  -- one more of a list, or one more root
  pub added_next : (named : List Link) (i : ℕ) (d : Link) (old middle new : List OpenedPage) → i < length named → AreAdded links (take i named) old middle
      → AreAdded links (get_or named i d ∷ []) middle new → AreAdded links (take (i + 1) named) old new
  added_next named i d old middle new inside were more =
      subst (λ (ls : List Link). AreAdded links ls old new) (sym (take_more named i d inside)) (added_more (take i named) (get_or named i d ∷ []) old middle new were more)

  pub root_next : (g : Geometry) (trees : ℕ) (root : Link) (old middle new : List OpenedPage) → root ≡ root_link g trees → AreAdded links (roots_below g trees) old middle
      → AreAdded links (root ∷ []) middle new → AreAdded links (roots_below g (trees + 1)) old new
  root_next g trees root old middle new is were more =
      let one_more : suc trees ≡ trees + 1 = omega arith in
      subst (λ (n : ℕ). AreAdded links (roots_below g n) old new) one_more
      (added_more (roots_below g trees) (root_link g trees ∷ []) old middle new were (subst (λ (l : Link). AreAdded links (l ∷ []) middle new) is more))

pub pages_made : (g : Geometry) (links : List Link) (places : Places) (pages pages' : List OpenedPage) → ArePlaces links places
    → AreAdded links (roots_below g TREES) [] pages → AreAdded links places.inner.items pages pages' → ArePages g links pages'
pages_made g links places pages pages' are roots inner =
    let all = added_more links (roots_below g TREES) places.inner.items [] pages pages' roots inner in record {
      inner = places.inner.items;
      are_inner = are.inner;
      linked = subst (AreLinked links (roots_below g TREES ++ places.inner.items)) (sym all.2) all.1;
    }
