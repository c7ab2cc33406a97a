-- Blocks that have both a page and the data of an address.
use Rattle.std.specs.Prelude.{ℕ, ◌≡◌, ◌≤◌, ◌==◌, Bool, true, false, List, Option, Some, None, Contains, get_or}
use Rattle.std.specs.List.{list_any}
use Rattle.blk_base.specs.declared.place.Pbn.{Pbn}
use Rattle.replay_map.specs.declared.links.Link.{Link}

-- a block has a page of these links
abbrev pub has_page : List Link → ℕ → Bool
has_page links block = list_any (λ (link : Link). link.at.0 == block) links

-- a block has a mark, in a list with those of the first blocks
abbrev pub is_marked : List Bool → ℕ → Bool
is_marked marks block = get_or marks block false

-- the least block of a list that passes a test; none where no block does
abbrev pub IsLeastOf : (ℕ → Bool) → List Pbn → Option Pbn → Type 0
IsLeastOf test blocks None = (at : Pbn) → Contains blocks at → test at.0 ≡ true → ⊥
IsLeastOf test blocks (Some least) = Contains blocks least × (test least.0 ≡ true) × ((at : Pbn) → Contains blocks at → test at.0 ≡ true → least.0 ≤ at.0)

-- the least block that has a linked page and to which an address is mapped, if there is one
abbrev pub IsLeastShared : List Link → List Pbn → Option Pbn → Type 0
IsLeastShared links mapped = IsLeastOf (has_page links) mapped
