-- What surely stands in a block: what keeps it, and what an image has of it.
use Rattle.std.proofs.Common.{ℕ, ◌≡◌, ◌+◌, ◌*◌, ◌<◌, Bool, true, List, ◌∷◌, length, inl, inr, arith}
use Rattle.std.specs.List.{AllByRecursion}
use Rattle.std.proofs.lemmas.Bool.Decides.{eqb_tells}
use Rattle.blk_base.specs.declared.place.Mapping.{Mapping}
use Rattle.blk_base.specs.declared.place.Pbn.{Pbn}
use Rattle.blk_base.specs.declared.sizes.TheConstants.{PAGE_SLOTS}
use Rattle.byte_fields.specs.Mappings.{mapping_bytes}
use Rattle.byte_fields.proofs.MappingLaws.{length-mapping}
use Rattle.disk_model.specs.declared.call.Call.{Call}
use Rattle.disk_model.specs.declared.call.Call.TheVariants.{Read, Write, Flush}
use Rattle.disk_model.specs.Images.{IsMixOf}
use Rattle.disk_model.specs.Log.{Blocks, Misses}
use Rattle.disk_model.proofs.ImageLaws.{all_weaker, kept, sector_of_mix, settled-misses}
use Rattle.page_codec.proofs.SpellingLaws.{length-head}
use Rattle.page_codec.specs.Grammar.{HasHead, HoldsMapping, IsSlot, slot_bytes}
use Rattle.page_codec.specs.PageBytes.{head_bytes}
use Rattle.page_codec.specs.declared.forms.PageHead.{PageHead}
use Rattle.recovery_laws.specs.Kept.{PutsOnly}
use Rattle.vdo_model.specs.Journals.{Surely}
use Rattle.recovery_laws.proofs.BlockLaws.{part_of_mix}
use Rattle.disk_model.proofs.ContentLaws.{after_write}
use Rattle.session_stops.specs.Pages.{Settles}

-- What keeps it.

module _ (P : List ℕ → Type 0) (opening : Blocks) (log : List Call) (b : ℕ) where
  pub missed : (call : Call) → Misses call b → Surely opening log b P → Surely opening (call ∷ log) b P
  missed call misses all = kept P opening log call b misses all

  pub written : (at : Pbn) (bytes : List ℕ) (ok : Bool) → at.0 ≡ b → P bytes → Surely opening log b P → Surely opening (Write at bytes ok ∷ log) b P
  written at bytes ok same is all = after_write P opening log at bytes ok b (λ here. is) all

  pub flushed : Settles opening log b P → Surely opening (Flush true ∷ log) b P
  flushed all = all

  -- a call that writes nothing else there
  pub goes_on : (call : Call) → PutsOnly b P call → Surely opening log b P → Surely opening (call ∷ log) b P
  goes_on (Read at bytes ok) puts all = all
  goes_on (Flush ok) puts all = kept P opening log (Flush ok) b tt all
  goes_on (Write at bytes ok) puts all = after_write P opening log at bytes ok b puts all

  -- A write that succeeds settles its block, and so it stays.
  pub settles : (at : Pbn) (bytes : List ℕ) → at.0 ≡ b → P bytes → Settles opening (Write at bytes true ∷ log) b P
  settles at bytes same is = elim (eqb_tells at.0 b) [ inl taken ↦ rw taken.0 (is, tt) | inr passed ↦ absurd (passed.1 same) ]

  pub stays_settled : (call : Call) → Misses call b → Settles opening log b P → Settles opening (call ∷ log) b P
  stays_settled call misses all = rw (settled-misses opening log call b misses) all

-- Parts of pages that are mixed by sectors.

pub head_of_mix : (head : PageHead) (options : List (List ℕ)) (bytes : List ℕ) → length bytes ≡ 4096 → IsMixOf options bytes → AllByRecursion (HasHead head) options → HasHead head bytes
head_of_mix head options bytes whole mix all = part_of_mix options bytes 0 36 (head_bytes head) (length-head head) (omega arith) whole mix all

pub slot_of_mix : (head : PageHead) (slot : ℕ) (mapping : Mapping) (options : List (List ℕ)) (bytes : List ℕ) → slot < PAGE_SLOTS → length bytes ≡ 4096 → IsMixOf options bytes
    → AllByRecursion (λ content. IsSlot head content slot mapping) options → IsSlot head bytes slot mapping
slot_of_mix head slot mapping options bytes small whole mix all = record {
  headed = head_of_mix head options bytes whole mix (all_weaker (λ content. IsSlot head content slot mapping) (HasHead head) options (λ content is. is.headed) all);
  spelled = part_of_mix options bytes (36 + 5 * slot) 5 (mapping_bytes mapping) (length-mapping mapping) (omega (arith, small)) whole mix
      (all_weaker (λ content. IsSlot head content slot mapping) (λ content. slot_bytes slot content ≡ mapping_bytes mapping) options (λ content is. is.spelled) all);
  held = sector_of_mix (λ (s : List ℕ). HoldsMapping head.geometry head.page.level mapping) options bytes 0 (omega arith) mix
      (all_weaker (λ content. IsSlot head content slot mapping) (λ content. HoldsMapping head.geometry head.page.level mapping) options (λ content is. is.held) all);
}
