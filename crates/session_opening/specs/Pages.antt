-- The pages of a block map that are no leaves, by its links.
use Rattle.std.specs.Prelude.{ℕ, zero, suc, ◌≡◌, List, [], ◌∷◌, ◌++◌}
use Rattle.blk_base.specs.declared.geometry.Geometry.{Geometry}
use Rattle.blk_base.specs.declared.opened.OpenedPage.{OpenedPage}
use Rattle.blk_base.specs.declared.sizes.TheConstants.{PAGE_SLOTS, TREES}
use Rattle.replay_map.specs.Links.{root_link}
use Rattle.replay_map.specs.declared.links.Link.{Link}
use Rattle.session_opening.specs.Places.{AreInner, AreLeading}

-- those of the first trees
abbrev pub roots_below : Geometry → ℕ → List Link
roots_below g zero = []
roots_below g (suc n) = roots_below g n ++ root_link g n ∷ []

-- pages stand where these links say, one of each in their order, with the mappings that lead to those below them
abbrev pub AreLinked : List Link → List Link → List OpenedPage → Type 0
AreLinked links [] [] = Unit {0}
AreLinked links (link ∷ others) (page ∷ pages) = ((page.page ≡ link.page) × (page.at ≡ link.at) × AreLeading links link.page PAGE_SLOTS page.mappings) × AreLinked links others pages
AreLinked links [] (page ∷ pages) = ⊥
AreLinked links (link ∷ others) [] = ⊥

-- such pages were added
abbrev pub AreAdded : List Link → List Link → List OpenedPage → List OpenedPage → Type 0
AreAdded links added old new = (pages : List OpenedPage) × AreLinked links added pages × (new ≡ old ++ pages)

-- the roots, and then each linked page that is no leaf
pub record ArePages (g : Geometry) (links : List Link) (pages : List OpenedPage) : Type 0 where
  pub inner : List Link
  pub are_inner : AreInner links inner
  pub linked : AreLinked links (roots_below g TREES ++ inner) pages
