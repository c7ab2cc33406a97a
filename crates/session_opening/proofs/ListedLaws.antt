-- Pages that stand where links say, one of each, and the roots of all trees.
use Rattle.std.proofs.Common.{ℕ, zero, suc, ◌≡◌, ◌<◌, List, [], ◌∷◌, ◌++◌, length, map, reverse, Contains, get_or, refl, sym, ◌∙◌, ap, subst, inl, inr, arith}
use Rattle.std.specs.List.{AllPairs}
use Rattle.std.proofs.lemmas.Bool.{cases_lt}
use Rattle.std.proofs.lemmas.Grind.{reverse_onto}
use Rattle.std.proofs.lemmas.List.{reverse-reverse}
use Rattle.std.proofs.lemmas.List.Elements.{Contains-append_left, Contains-append_right, Contains-append_cases, Contains-get_or, All-append}
use Rattle.std.proofs.lemmas.List.Kept.{AllPairs-cons}
use Rattle.std.proofs.lemmas.List.Quantifiers.{all_pairs_push}
use Rattle.blk_base.specs.declared.geometry.Geometry.{Geometry}
use Rattle.blk_base.specs.declared.opened.OpenedPage.{OpenedPage}
use Rattle.blk_base.specs.declared.place.PageId.{PageId}
use Rattle.blk_base.specs.declared.sizes.TheConstants.{PAGE_SLOTS}
use Rattle.image_model.proofs.CountLaws.{is_first, is_first_or_behind, none_in_nothing}
use Rattle.replay_map.specs.declared.links.Link.{Link}
use Rattle.replay_map.specs.Links.{root_link}
use Rattle.session_opening.specs.Pages.{AreLinked, roots_below}
use Rattle.session_opening.specs.Places.{AreLeading}

-- Lists.

module _ {X : Type 0} where
  pub behind_in : (x : X) (xs : List X) (y : X) → Contains xs y → Contains (x ∷ xs) y
  behind_in x xs y (k, inside, is) = (suc k, omega (arith, inside), is)

  pub in_reverse : (xs : List X) (x : X) → Contains xs x → Contains (reverse xs) x
  in_reverse [] x has = absurd (none_in_nothing x has)
  in_reverse (first ∷ xs) x has =
      subst (λ (ys : List X). Contains ys x) (sym (reverse_onto xs first []))
      (elim (is_first_or_behind first xs x has) [
        | inl is ↦ Contains-append_right (reverse xs) (first ∷ []) x (0, omega arith, is)
        | inr behind ↦ Contains-append_left (reverse xs) (first ∷ []) x (in_reverse xs x behind)
      ])

  pub of_reverse : (xs : List X) (x : X) → Contains (reverse xs) x → Contains xs x
  of_reverse xs x has = subst (λ (ys : List X). Contains ys x) (reverse-reverse xs) (in_reverse (reverse xs) x has)

  pub pairs_append : (R : X → X → Type 0) (xs ys : List X) → AllPairs R xs → AllPairs R ys → ((x y : X) → Contains xs x → Contains ys y → R x y) → AllPairs R (xs ++ ys)
  pairs_append R [] ys first second across = second
  pairs_append R (x ∷ xs) ys first second across =
      AllPairs-cons R x (xs ++ ys)
      (All-append (R x) xs ys (λ k d inside. first 0 (suc k) d (omega arith) (omega (arith, inside)))
      (λ k d inside. across x (get_or ys k d) (is_first x xs) (Contains-get_or ys k d inside)))
      (pairs_append R xs ys (λ i j d less inside. first (suc i) (suc j) d (omega (arith, less)) (omega (arith, inside))) second
      (λ a b has has'. across a b (behind_in x xs a has) has'))

module _ {X Y : Type 0} (f : X → Y) where
  pub in_map : (xs : List X) (x : X) → Contains xs x → Contains (map f xs) (f x)
  in_map [] x has = absurd (none_in_nothing x has)
  in_map (first ∷ xs) x has = elim (is_first_or_behind first xs x has) [
    | inl is ↦ (0, omega arith, ap f is)
    | inr behind ↦ behind_in (f first) (map f xs) (f x) (in_map xs x behind)
  ]

  pub of_map : (xs : List X) (y : Y) → Contains (map f xs) y → (x : X) × Contains xs x × (f x ≡ y)
  of_map [] y has = absurd (none_in_nothing y has)
  of_map (first ∷ xs) y has = elim (is_first_or_behind (f first) (map f xs) y has) [
    | inl is ↦ (first, is_first first xs, is)
    | inr behind ↦ let found = of_map xs y behind in (found.0, behind_in first xs found.0 found.1, found.2)
  ]

module _ (links : List Link) where
  pub linked_every : (named : List Link) (pages : List OpenedPage) → AreLinked links named pages → (link : Link) → Contains named link
      → (opened : OpenedPage) × Contains pages opened × (opened.page ≡ link.page)
  linked_every [] [] linked link has = absurd (none_in_nothing link has)
  linked_every [] (page ∷ pages) linked link has = absurd linked
  linked_every (first ∷ named) [] linked link has = absurd linked
  linked_every (first ∷ named) (page ∷ pages) linked link has = elim (is_first_or_behind first named link has) [
    | inl is ↦ (page, is_first page pages, linked.0.0 ∙ ap (λ (l : Link). l.page) is)
    | inr behind ↦ let found = linked_every named pages linked.1 link behind in (found.0, behind_in page pages found.0 found.1, found.2)
  ]

  pub linked_alike : (named : List Link) (pages : List OpenedPage) → AreLinked links named pages
      → (length named ≡ length pages) × ((i : ℕ) (d : OpenedPage) (e : Link) → i < length pages → (get_or pages i d).page ≡ (get_or named i e).page)
  linked_alike [] [] linked = (refl, λ i d e inside. absurd (omega (arith, inside)))
  linked_alike [] (page ∷ pages) linked = absurd linked
  linked_alike (link ∷ named) [] linked = absurd linked
  linked_alike (link ∷ named) (page ∷ pages) linked =
      let rest = linked_alike named pages linked.1 in (ap suc rest.0, at_place rest.1)
    where
      at_place : ((i : ℕ) (d : OpenedPage) (e : Link) → i < length pages → (get_or pages i d).page ≡ (get_or named i e).page)
          → (i : ℕ) (d : OpenedPage) (e : Link) → i < length (page ∷ pages) → (get_or (page ∷ pages) i d).page ≡ (get_or (link ∷ named) i e).page
      at_place rest zero d e inside = linked.0.0
      at_place rest (suc i) d e inside = rest i d e (omega (arith, inside))

  abbrev pub Differ : Link → Link → Type 0
  Differ first second = first.page ≡ second.page → ⊥

  pub linked_once : (named : List Link) (pages : List OpenedPage) → AreLinked links named pages → AllPairs Differ named
      → AllPairs (λ (first second : OpenedPage). first.page ≡ second.page → ⊥) pages
  linked_once named pages linked apart i j d less inside same =
      let alike = linked_alike named pages linked in
      let e : Link = record { page = d.page; at = d.at } in
      let size = alike.0 in
      apart i j e less (omega (arith, inside, size))
      (sym (alike.1 i d e (omega (arith, less, inside))) ∙ same ∙ alike.1 j d e inside)

  -- the link of a page
  pub linked_of : (named : List Link) (pages : List OpenedPage) → AreLinked links named pages → (opened : OpenedPage) → Contains pages opened
      → (link : Link) × Contains named link × (opened.page ≡ link.page) × (opened.at ≡ link.at) × AreLeading links link.page PAGE_SLOTS opened.mappings
  linked_of [] [] linked opened has = absurd (none_in_nothing opened has)
  linked_of [] (page ∷ pages) linked opened has = absurd linked
  linked_of (link ∷ named) [] linked opened has = absurd linked
  linked_of (link ∷ named) (page ∷ pages) linked opened has = elim (is_first_or_behind page pages opened has) [
    | inl is ↦ subst (λ (o : OpenedPage). (l : Link) × Contains (link ∷ named) l × (o.page ≡ l.page) × (o.at ≡ l.at) × AreLeading links l.page PAGE_SLOTS o.mappings) is
        (link, is_first link named, linked.0.0, linked.0.1, linked.0.2)
    | inr behind ↦ let found = linked_of named pages linked.1 opened behind in (found.0, behind_in link named found.0 found.1, found.2, found.3, found.4)
  ]

-- Roots.

module _ (g : Geometry) where
  pub in_roots : (trees : ℕ) (link : Link) → Contains (roots_below g trees) link → (tree : ℕ) × (tree < trees) × (root_link g tree ≡ link)
  in_roots zero link has = absurd (none_in_nothing link has)
  in_roots (suc n) link has = elim (Contains-append_cases (roots_below g n) (root_link g n ∷ []) link has) [
    | inl before ↦ let found = in_roots n link before in let below = found.1 in (found.0, omega (arith, below), found.2)
    | inr last ↦ elim (is_first_or_behind (root_link g n) [] link last) [
      | inl is ↦ (n, omega arith, is)
      | inr none ↦ absurd (none_in_nothing link none)
    ]
  ]

  pub roots_in : (trees tree : ℕ) → tree < trees → Contains (roots_below g trees) (root_link g tree)
  roots_in zero tree below = absurd (omega (arith, below))
  roots_in (suc n) tree below = elim (cases_lt tree n) [
    | inl less ↦ Contains-append_left (roots_below g n) (root_link g n ∷ []) (root_link g tree) (roots_in n tree less)
    | inr most ↦
        let same : n ≡ tree = omega (arith, below, most) in
        Contains-append_right (roots_below g n) (root_link g n ∷ []) (root_link g tree) (0, omega arith, ap (root_link g) same)
  ]

  pub roots_once : (trees : ℕ) → AllPairs (λ (first second : Link). first.page ≡ second.page → ⊥) (roots_below g trees)
  roots_once zero = λ i j d less inside. absurd (omega (arith, inside))
  roots_once (suc n) = all_pairs_push (λ (first second : Link). first.page ≡ second.page → ⊥) (roots_below g n) (root_link g n) (roots_once n) (λ k d inside same.
      let found = in_roots n (get_or (roots_below g n) k d) (Contains-get_or (roots_below g n) k d inside) in
      let tree = ap (λ (l : Link). l.page.tree) found.2 in
      let tree_too = ap (λ (p : PageId). p.tree) same in
      let below = found.1 in
      absurd (omega (arith, tree, tree_too, below)))
