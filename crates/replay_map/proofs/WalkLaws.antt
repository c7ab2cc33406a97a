-- Walks that follow each other.
use Rattle.std.proofs.Common.{ℕ, ◌≡◌, ◌⊎◌, ◌+◌, Some, sym, ◌∙◌, ap, subst, inl, inr, arith}
use Rattle.blk_base.specs.declared.place.PageId.{PageId}
use Rattle.blk_base.specs.declared.place.Pbn.{Pbn}
use Rattle.image_model.specs.Maps.{Image, IsGoodPage, page_at}
use Rattle.image_model.specs.Pages.{IsAhead}
use Rattle.page_codec.specs.declared.fault.PageFault.{PageFault}
use Rattle.replay_map.specs.Sums.{maps_in}
use Rattle.replay_map.specs.Walks.{Gives, HasTaken, HasWalked, IsFirstFault}
use Rattle.replay_map.specs.declared.found.Found.{Found}

module _ (image : Image) where
  -- of no page
  pub walked_none : (Over : PageId → Type 0) (maps : Pbn → ℕ) (found : Found) → ((page : PageId) (at : Pbn) → page_at image page ≡ Some at → Over page → ⊥)
      → ((block : Pbn) → maps block ≡ 0) → HasWalked image Over maps found found
  walked_none Over maps found none nothing = record {
    good = λ page at over there. absurd (none page at there over);
    items = λ item. (
      λ has. inl has,
      λ is. elim is [ inl has ↦ has | inr given ↦ absurd (none given.0 given.1 given.3 given.2) ],
    );
    mapped = λ block. let zero_more = nothing block in omega (arith, zero_more);
  }

  -- of one page
  pub walked_one : (Over : PageId → Type 0) (maps : Pbn → ℕ) (page : PageId) (at : Pbn) (old new : Found) → ((other : PageId) → Over other → other ≡ page) → Over page
      → page_at image page ≡ Some at → ((block : Pbn) → maps block ≡ maps_in image page block) → IsGoodPage image page at → HasTaken image page old new → HasWalked image Over maps old new
  walked_one Over maps page at old new alone over there own good taken = record {
    good = λ other place is stands.
        subst (λ (p : Pbn). IsGoodPage image other p) (same_place other place (alone other is) stands)
        (subst (λ (p : PageId). IsGoodPage image p at) (sym (alone other is)) good);
    items = λ item. (
      λ has. elim ((taken.items item).0 has) [ inl before ↦ inl before | inr given ↦ inr (page, at, over, there, given) ],
      λ is. elim is [
        | inl before ↦ (taken.items item).1 (inl before)
        | inr given ↦ (taken.items item).1 (inr (subst (λ (p : PageId). Gives image p item) (alone given.0 given.2) given.4))
      ],
    );
    mapped = λ block. let sum = own block in let added = taken.mapped block in omega (arith, sum, added);
  }
    where
      same_place : (other : PageId) (place : Pbn) → other ≡ page → page_at image other ≡ Some place → at ≡ place
      same_place other place same stands =
          let both : Some at ≡ Some place = sym there ∙ ap (page_at image) (sym same) ∙ stands in cc both

  -- of the pages of two walks
  pub walked_on : (First Then All : PageId → Type 0) (first_maps then_maps maps : Pbn → ℕ) (old middle new : Found)
      → ((page : PageId) (at : Pbn) → page_at image page ≡ Some at → All page → First page ⊎ Then page)
      → ((page : PageId) (at : Pbn) → page_at image page ≡ Some at → First page ⊎ Then page → All page)
      → ((block : Pbn) → maps block ≡ first_maps block + then_maps block)
      → HasWalked image First first_maps old middle → HasWalked image Then then_maps middle new → HasWalked image All maps old new
  walked_on First Then All first_maps then_maps maps old middle new apart together sum first next = record {
    good = λ page at over there. elim (apart page at there over) [
      | inl one ↦ first.good page at one there
      | inr other ↦ next.good page at other there
    ];
    items = λ item. (
      λ has. elim ((next.items item).0 has) [
        | inl before ↦ elim ((first.items item).0 before) [
          | inl old ↦ inl old
          | inr given ↦ inr (given.0, given.1, together given.0 given.1 given.3 (inl given.2), given.3, given.4)
        ]
        | inr given ↦ inr (given.0, given.1, together given.0 given.1 given.3 (inr given.2), given.3, given.4)
      ],
      λ is. elim is [
        | inl old ↦ (next.items item).1 (inl ((first.items item).1 (inl old)))
        | inr given ↦ elim (apart given.0 given.1 given.3 given.2) [
          | inl one ↦ (next.items item).1 (inl ((first.items item).1 (inr (given.0, given.1, one, given.3, given.4))))
          | inr other ↦ (next.items item).1 (inr (given.0, given.1, other, given.3, given.4))
        ]
      ],
    );
    mapped = λ block. let both = sum block in let one = first.mapped block in let other = next.mapped block in omega (arith, both, one, other);
  }

  -- of the same pages
  pub walked_as : (Over All : PageId → Type 0) (maps all_maps : Pbn → ℕ) (old new : Found)
      → ((page : PageId) (at : Pbn) → page_at image page ≡ Some at → All page → Over page)
      → ((page : PageId) (at : Pbn) → page_at image page ≡ Some at → Over page → All page) → ((block : Pbn) → maps block ≡ all_maps block)
      → HasWalked image Over maps old new → HasWalked image All all_maps old new
  walked_as Over All maps all_maps old new to from same walked = record {
    good = λ page at over there. walked.good page at (to page at there over) there;
    items = λ item. (
      λ has. elim ((walked.items item).0 has) [
        | inl before ↦ inl before
        | inr given ↦ inr (given.0, given.1, from given.0 given.1 given.3 given.2, given.3, given.4)
      ],
      λ is. elim is [
        | inl before ↦ (walked.items item).1 (inl before)
        | inr given ↦ (walked.items item).1 (inr (given.0, given.1, to given.0 given.1 given.3 given.2, given.3, given.4))
      ],
    );
    mapped = λ block. let equal = same block in let added = walked.mapped block in omega (arith, equal, added);
  }

  -- A fault among more pages: those that are ahead of it are among these, or can be read.
  pub fault_among : (Over All : PageId → Type 0) (at : Pbn) (fault : PageFault) → ((page : PageId) → Over page → All page)
      → ((page other : PageId) (place : Pbn) → Over page → All other → IsAhead other page → page_at image other ≡ Some place → Over other ⊎ IsGoodPage image other place)
      → IsFirstFault image Over at fault → IsFirstFault image All at fault
  fault_among Over All at fault within ahead is = record {
    page = is.page;
    over = within is.page is.over;
    there = is.there;
    has = is.has;
    first = λ other place over before stands. elim (ahead is.page other place is.over over before stands) [
      | inl here ↦ is.first other place here before stands
      | inr good ↦ good
    ];
  }
