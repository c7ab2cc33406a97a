-- The blocks of linked pages, link by link.
use Rattle.std.proofs.Common.{◌≡◌, ◌++◌, cond, Bool, Option, Some, None, List, [], ◌∷◌, Contains, sym, ◌∙◌, ap, subst, inl, inr}
use Rattle.std.specs.Ordering.{is_eq}
use Rattle.std.proofs.lemmas.List.Elements.{Contains-append_left, Contains-push, Contains-push_cases}
use Rattle.blk_base.specs.Pages.{page_order}
use Rattle.blk_base.specs.declared.place.PageId.{PageId}
use Rattle.blk_base.specs.declared.place.Pbn.{Pbn}
use Rattle.replay_map.proofs.OwnLaws.{page_tells}
use Rattle.replay_map.specs.declared.links.Link.{Link}
use Rattle.session_opening.proofs.PlaceLaws.{alike}
use Rattle.crash_images.specs.Values.{LinkTo}

-- what is known of another page stays
still_linked : (links : List Link) (link : Link) (page : PageId) (at : Option Pbn) → (page ≡ link.page → ⊥) → LinkTo links page at → LinkTo (links ++ link ∷ []) page at
still_linked links link page (Some at) other has = Contains-append_left links (link ∷ []) (record { page = page; at = at }) has
still_linked links link page None other none = λ one has named. elim (Contains-push_cases links link one has) [
  | inl earlier ↦ none one earlier named
  | inr last ↦ other (sym named ∙ sym (ap (λ (l : Link). l.page) last))
]

-- one link more
pub linked_more : (links : List Link) (link : Link) (old new : PageId → Option Pbn) → ((q : PageId) → new q ≡ cond (is_eq (page_order link.page q)) (Some link.at) (old q))
    → ((q : PageId) → LinkTo links q (old q)) → (q : PageId) → LinkTo (links ++ link ∷ []) q (new q)
linked_more links link old new updates were q =
    let is : new q ≡ cond _ (Some link.at) (old q) = updates q ∙ ap (λ (b : Bool). cond b (Some link.at) (old q)) (alike link.page q) in
    elim (page_tells q link.page) [
      | inl same ↦
          let now : new q ≡ Some link.at = is ∙ ap (λ (b : Bool). cond b (Some link.at) (old q)) same.0 in
          subst (λ (at : Option Pbn). LinkTo (links ++ link ∷ []) q at) (sym now)
          (subst (λ (page : PageId). Contains (links ++ link ∷ []) (record { page = page; at = link.at })) (sym same.1) (Contains-push links link))
      | inr other ↦
          let now : new q ≡ old q = is ∙ ap (λ (b : Bool). cond b (Some link.at) (old q)) other.0 in
          subst (λ (at : Option Pbn). LinkTo (links ++ link ∷ []) q at) (sym now) (still_linked links link q (old q) other.1 (were q))
    ]
