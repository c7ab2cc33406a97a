use Rattle.std.proofs.Common.{ℕ, ◌≡◌, ◌==◌, ◌∙◌, true, List, ◌∷◌, Some, refl, ap, ap₂, inl, inr, arith}
use Rattle.std.proofs.lemmas.Bool.Decides.{eqb_tells}
use Rattle.blk_base.specs.Forms.{at_point}
use Rattle.blk_base.specs.Pages.{leaf_of, slot_of_address}
use Rattle.blk_base.specs.declared.journal_entry.CommittedEntry.{CommittedEntry}
use Rattle.blk_base.specs.declared.journal_entry.Entry.TheVariants.{Remap}
use Rattle.blk_base.specs.declared.place.Lba.{Lba}
use Rattle.blk_base.specs.declared.place.Mapping.{Mapping}
use Rattle.blk_base.specs.declared.place.PageId.{PageId}
use Rattle.image_model.specs.Maps.{put_last}
use Rattle.image_model.specs.Pages.{is_page}
use Rattle.replay_map.proofs.OwnLaws.{page_tells}
use Rattle.replay_map.specs.Changes.{changed}
use Rattle.format_guards.proofs.maps.the_new_mapping_is_put.Goals as goal

page_itself : (page : PageId) → is_page page page ≡ true
page_itself page = elim (page_tells page page) [ inl same ↦ same.0 | inr other ↦ absurd (other.1 refl) ]

number_itself : (n : ℕ) → (n == n) ≡ true
number_itself n = elim (eqb_tells n n) [ inl same ↦ same.0 | inr other ↦ absurd (other.1 refl) ]

put_here : (at : Lba) (old new : Mapping) (point : ℕ) (older : List CommittedEntry)
    → put_last (at_point (Remap at old new) point ∷ older) (leaf_of at.0) (slot_of_address at.0) ≡ Some new
put_here at old new point older = rw (page_itself (leaf_of at.0), number_itself (slot_of_address at.0)) refl

pub returns : goal.returns
returns c = λ old new point older newest.
    let page = leaf_of c.args.at.0 in
    let slot = slot_of_address c.args.at.0 in
    c.get.ensures ∙ ap₂ (λ (p : PageId) (n : ℕ). changed c.in_ok-changes.changes p n) c.leaf.ensures c.slot.ensures.value
    ∙ c.in_ok-changes.ensures page slot (omega arith)
    ∙ ap (λ (window : List CommittedEntry). put_last window page slot) newest
    ∙ put_here c.args.at old new point older
