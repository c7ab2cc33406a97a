use Rattle.std.proofs.Common.{◌≡◌, Bool, true, false, IsTrue, ◌∙◌, refl}
use Rattle.blk_base.specs.Regions.{Place, DataBlock, ReferenceBlock}
use Rattle.format_guards.proofs.base.a_reference_block_is_no_data_block.Goals as goal

no : (answer : Bool) → (IsTrue answer → ⊥) → answer ≡ false
no true never = absurd (never refl)
no false never = refl

abbrev is_data : Place → Bool
is_data (DataBlock slab offset) = true
is_data other = false

never : (p q : Place) → is_data p ≡ true → is_data q ≡ false → p ≡ q → ⊥
never p q one other same = cc

pub returns : goal.returns
returns c = no c.is_data_block.result (λ yes.
    let is = c.is_data_block.ensures.0 yes in
    never (DataBlock is.slab is.offset) (ReferenceBlock c.args.slab c.args.i) refl refl
    (c.regions_are_apart.ensures.apart c.args.layout.now.geometry (DataBlock is.slab is.offset) (ReferenceBlock c.args.slab c.args.i) is.inside c.requires (is.stands ∙ c.reference_block.ensures.block)))
