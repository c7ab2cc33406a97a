-- The updates of the window's entries.
use Rattle.std.proofs.Common.{ℕ, ◌≡◌, ◌+◌, ◌↔◌, List, [], ◌∷◌, flat_map, Contains, Option, Some, None, sym, ap, subst, inl, inr}
use Rattle.std.proofs.lemmas.List.Elements.{Contains-append_left, Contains-append_right, Contains-append_cases}
use Rattle.blk_base.specs.declared.journal_entry.CommittedEntry.{CommittedEntry}
use Rattle.blk_base.specs.declared.journal_entry.Entry.{Entry}
use Rattle.blk_base.specs.declared.journal_entry.Entry.TheVariants.{Remap, NewPage}
use Rattle.blk_base.specs.declared.journal_entry.Update.{Update}
use Rattle.blk_base.specs.declared.place.Mapping.{Mapping}
use Rattle.blk_base.specs.declared.place.Mapping.TheVariants.{Unmapped, Zero, At}
use Rattle.blk_base.specs.declared.place.Pbn.{Pbn}
use Rattle.blk_base.specs.Forms.{pbn}
use Rattle.image_model.specs.Counts.{Updates}
use Rattle.image_model.specs.Maps.{target_of}
use Rattle.image_model.proofs.CountLaws.{is_first_or_behind, is_first, is_behind, none_in_nothing}
use Rattle.count_updates.specs.Entries.{update_at, updates_in}
use Rattle.count_updates.specs.Listed.{Lists}
use Rattle.count_updates.proofs.PointLaws.{made}

-- An update that is there, or not.

from_one : (there : Option Pbn) (q at point : ℕ) → Lists (update_at there q) at point → (there ≡ Some (pbn at)) × (point ≡ q)
from_one None q at point has = absurd (none_in_nothing (made at point) has)
from_one (Some block) q at point has = elim (is_first_or_behind (record { at = block; point = record { 0 = q } }) [] (made at point) has) [
  | inl first ↦ (ap (λ (u : Update). Some u.at) first, sym (ap (λ (u : Update). u.point.0) first))
  | inr behind ↦ absurd (none_in_nothing (made at point) behind)
]

to_one : (there : Option Pbn) (q at point : ℕ) → there ≡ Some (pbn at) → point ≡ q → Lists (update_at there q) at point
to_one there q at point is same =
    subst (λ (o : Option Pbn). Lists (update_at o q) at point) (sym is)
    (subst (λ (p : ℕ). Lists (update_at (Some (pbn at)) q) at p) (sym same) (is_first (made at q) []))

leads : (mapping : Mapping) (block : Pbn) → target_of mapping ≡ Some block → mapping ≡ At block
leads Unmapped block is = absurd (cc is)
leads Zero block is = absurd (cc is)
leads (At other) block is = let same : other ≡ block = cc is in ap (λ (b : Pbn). At b) same

-- Those of an entry.

abbrev committed_at : Entry → ℕ → CommittedEntry
committed_at entry q = record { entry = entry; point = record { 0 = q } }

from_entry : (entry : Entry) (q at point : ℕ) → Lists (updates_in (committed_at entry q)) at point → Updates (committed_at entry q) (pbn at) point
from_entry (Remap address old new) q at point has = elim (Contains-append_cases (update_at (target_of new) q) (update_at (target_of old) (q + 1)) (made at point) has) [
  | inl added ↦ let is = from_one (target_of new) q at point added in inl (leads new (pbn at) is.0, is.1)
  | inr taken ↦ let is = from_one (target_of old) (q + 1) at point taken in inr (leads old (pbn at) is.0, is.1)
]
from_entry (NewPage page block) q at point has = elim (Contains-append_cases (update_at (Some block) q) [] (made at point) has) [
  | inl added ↦ let is = from_one (Some block) q at point added in (let same : block ≡ pbn at = cc is.0 in same, is.1)
  | inr taken ↦ absurd (none_in_nothing (made at point) taken)
]

to_entry : (entry : Entry) (q at point : ℕ) → Updates (committed_at entry q) (pbn at) point → Lists (updates_in (committed_at entry q)) at point
to_entry (Remap address old new) q at point (inl added) =
    Contains-append_left (update_at (target_of new) q) (update_at (target_of old) (q + 1)) (made at point) (to_one (target_of new) q at point (ap target_of added.0) added.1)
to_entry (Remap address old new) q at point (inr taken) =
    Contains-append_right (update_at (target_of new) q) (update_at (target_of old) (q + 1)) (made at point) (to_one (target_of old) (q + 1) at point (ap target_of taken.0) taken.1)
to_entry (NewPage page block) q at point added =
    Contains-append_left (update_at (Some block) q) [] (made at point) (to_one (Some block) q at point (ap (λ (b : Pbn). Some b) added.0) added.1)

-- Those of all entries.

abbrev IsMade : List CommittedEntry → ℕ → ℕ → Type 0
IsMade window at point = (committed : CommittedEntry) × Contains window committed × Updates committed (pbn at) point

from_window : (window : List CommittedEntry) (at point : ℕ) → Lists (flat_map updates_in window) at point → IsMade window at point
from_window [] at point has = absurd (none_in_nothing (made at point) has)
from_window (committed ∷ others) at point has = elim (Contains-append_cases (updates_in committed) (flat_map updates_in others) (made at point) has) [
  | inl here ↦ (committed, is_first committed others, from_entry committed.entry committed.point.0 at point here)
  | inr there ↦ let rest = from_window others at point there in (rest.0, is_behind committed others rest.0 rest.1, rest.2)
]

to_window : (window : List CommittedEntry) (at point : ℕ) (one : CommittedEntry) → Contains window one → Updates one (pbn at) point → Lists (flat_map updates_in window) at point
to_window [] at point one has is = absurd (none_in_nothing one has)
to_window (committed ∷ others) at point one has is = elim (is_first_or_behind committed others one has) [
  | inl first ↦ Contains-append_left (updates_in committed) (flat_map updates_in others) (made at point)
      (to_entry committed.entry committed.point.0 at point (subst (λ (c : CommittedEntry). Updates c (pbn at) point) (sym first) is))
  | inr behind ↦ Contains-append_right (updates_in committed) (flat_map updates_in others) (made at point) (to_window others at point one behind is)
]

pub lists_window : (window : List CommittedEntry) (updates : List Update) → updates ≡ flat_map updates_in window
    → (at point : ℕ) → Lists updates at point ↔ IsMade window at point
lists_window window updates is at point = (
  (λ has. from_window window at point (subst (λ (us : List Update). Lists us at point) is has)),
  (λ made. subst (λ (us : List Update). Lists us at point) (sym is) (to_window window at point made.0 made.1 made.2)),
)
