-- The lines of an image's faults, in the pieces in which they are put.
use Rattle.std.proofs.Common.{ℕ, ◌≡◌, ◌++◌, List, [], ◌∷◌, codes, sym, ◌∙◌, ap, append_assoc}
use Rattle.std.specs.List.{concat}
use Rattle.std.specs.Prelude.{decimal}
use Rattle.blk_base.specs.declared.place.Pbn.{Pbn}
use Rattle.blk_base.specs.declared.point.Point.{Point}
use Rattle.image_layout.specs.Faults.{field_name}
use Rattle.image_layout.specs.declared.fault.Field.{Field}
use Rattle.image_layout.specs.declared.fault.SuperFault.TheVariants.{Version, BadField}
use Rattle.image_model.specs.declared.fault.ImageFault.TheVariants.{Super, Window, Page, Counter, SharedPage, Counts}
use Rattle.page_codec.specs.declared.fault.PageFault.TheVariants.{Header, Compressed, OutOfRange}
use Rattle.command_text.specs.Faults.{image_fault_line}

pub version_line : (found : ℕ) → concat (codes "bad image: version " ∷ decimal found ∷ codes "\n" ∷ []) ≡ image_fault_line (Super (Version found))
version_line found = simp append_assoc

pub field_line : (field : Field) → concat (codes "bad image: field " ∷ field_name field ∷ codes "\n" ∷ []) ≡ image_fault_line (Super (BadField field))
field_line field = simp append_assoc

pub window_line : (sequence : ℕ) → concat (codes "bad image: window " ∷ decimal sequence ∷ codes "\n" ∷ []) ≡ image_fault_line (Window sequence)
window_line sequence = simp append_assoc

pub header_line : (at : Pbn) → concat (codes "bad image: page " ∷ decimal at.0 ∷ codes " header\n" ∷ []) ≡ image_fault_line (Page at Header)
header_line at = simp append_assoc

-- the part of a slot's line that stands behind the word `page`
slot_part : (at slot ending : List ℕ) → at ++ (codes " slot " ++ (slot ++ (ending ++ codes "\n"))) ≡ ((at ++ codes " ") ++ (codes "slot " ++ (slot ++ ending))) ++ codes "\n"
slot_part at slot ending =
    ap (λ (t : List ℕ). at ++ (codes " slot " ++ t)) (sym (append_assoc slot ending (codes "\n")))
    ∙ sym (append_assoc at (codes " ") ((codes "slot " ++ (slot ++ ending)) ++ codes "\n"))
    ∙ sym (append_assoc (at ++ codes " ") (codes "slot " ++ (slot ++ ending)) (codes "\n"))

pub compressed_line : (at : Pbn) (slot : ℕ) → concat (codes "bad image: page " ∷ decimal at.0 ∷ codes " slot " ∷ decimal slot ∷ codes " compressed\n" ∷ [])
    ≡ image_fault_line (Page at (Compressed slot))
compressed_line at slot = ap (λ (t : List ℕ). codes "bad image: page " ++ t) (slot_part (decimal at.0) (decimal slot) (codes " compressed"))

pub out_of_range_line : (at : Pbn) (slot : ℕ) → concat (codes "bad image: page " ∷ decimal at.0 ∷ codes " slot " ∷ decimal slot ∷ codes " out of range\n" ∷ [])
    ≡ image_fault_line (Page at (OutOfRange slot))
out_of_range_line at slot = ap (λ (t : List ℕ). codes "bad image: page " ++ t) (slot_part (decimal at.0) (decimal slot) (codes " out of range"))

pub counter_line : (at : Pbn) (point : Point) → concat (codes "bad image: counter " ∷ decimal at.0 ∷ codes "\n" ∷ []) ≡ image_fault_line (Counter at point)
counter_line at point = simp append_assoc

pub shared_line : (at : Pbn) → concat (codes "bad image: shared page " ∷ decimal at.0 ∷ codes "\n" ∷ []) ≡ image_fault_line (SharedPage at)
shared_line at = simp append_assoc

pub counts_line : (at : Pbn) (stored mapped : ℕ)
    → concat (codes "bad image: block " ∷ decimal at.0 ∷ codes " stored " ∷ decimal stored ∷ codes " mapped " ∷ decimal mapped ∷ codes "\n" ∷ []) ≡ image_fault_line (Counts at stored mapped)
counts_line at stored mapped = simp append_assoc
