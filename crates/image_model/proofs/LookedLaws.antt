-- Which blocks are looked at, by where they stand.
use Rattle.std.proofs.Common.{ℕ, ◌≡◌, ◌⊎◌, ◌+◌, ◌<◌, ◌≤◌, ◌||◌, Bool, true, IsTrue, List, Result, Ok, Err, nat_lt, nat_le, refl, sym, ◌∙◌, subst, inl, inr, arith}
use Rattle.std.proofs.lemmas.Bool.{le-leb, leb-true, lt-ltb, ltb-true, or_cases, or_left, or_right}
use Rattle.blk_base.specs.Regions.{Place, Superblock, JournalSlot, Root, IndexBlock, DataBlock, ReferenceBlock, SlabJournalSlot, IsPlace, block_of, first_index_of, first_slab_of}
use Rattle.blk_base.specs.declared.geometry.Geometry.{Geometry}
use Rattle.blk_base.specs.declared.geometry.Super.{Super}
use Rattle.disk_model.specs.declared.call.Call.{Call}
use Rattle.disk_model.specs.Log.{Blocks}
use Rattle.disk_model.specs.OneImages.{HasOneImageIn}
use Rattle.image_layout.specs.Opened.{super_of_image}
use Rattle.image_layout.specs.declared.fault.SuperFault.{SuperFault}
use Rattle.image_model.specs.Looked.{is_looked_at, looked_in}

pub looked_low : (g : Geometry) (b : ℕ) → b < first_index_of g → IsTrue (is_looked_at g b)
looked_low g b low = or_left (nat_lt b (first_index_of g)) (nat_le (first_slab_of g) b) (lt-ltb b (first_index_of g) low)

pub looked_high : (g : Geometry) (b : ℕ) → first_slab_of g ≤ b → IsTrue (is_looked_at g b)
looked_high g b high = or_right (nat_lt b (first_index_of g)) (nat_le (first_slab_of g) b) (le-leb (first_slab_of g) b high)

pub looked_where : (g : Geometry) (b : ℕ) → IsTrue (is_looked_at g b) → (b < first_index_of g) ⊎ (first_slab_of g ≤ b)
looked_where g b is = elim (or_cases (nat_lt b (first_index_of g)) (nat_le (first_slab_of g) b) is) [
  | inl low ↦ inl (ltb-true b (first_index_of g) low)
  | inr high ↦ inr (leb-true (first_slab_of g) b high)
]

-- places outside of the index
abbrev pub IsOutside : Place → Type 0
IsOutside (IndexBlock _) = ⊥
IsOutside Superblock = Unit {0}
IsOutside (JournalSlot _) = Unit {0}
IsOutside (Root _) = Unit {0}
IsOutside (DataBlock _ _) = Unit {0}
IsOutside (ReferenceBlock _ _) = Unit {0}
IsOutside (SlabJournalSlot _ _) = Unit {0}

pub looked_place : (g : Geometry) (place : Place) → IsPlace g place → IsOutside place → IsTrue (is_looked_at g (block_of g place))
looked_place g Superblock is outside = looked_low g 0 (omega arith)
looked_place g (JournalSlot s) is outside = looked_low g (1 + s) (omega (arith, is))
looked_place g (Root t) is outside = looked_low g (1 + g.journal + t) (omega (arith, is))
looked_place g (IndexBlock i) is outside = absurd outside
looked_place g (DataBlock slab offset) is outside = looked_high g (block_of g (DataBlock slab offset)) (omega arith)
looked_place g (ReferenceBlock slab i) is outside = looked_high g (block_of g (ReferenceBlock slab i)) (omega arith)
looked_place g (SlabJournalSlot slab s) is outside = looked_high g (block_of g (SlabJournalSlot slab s)) (omega arith)

-- Of an image.

pub looked_by : (image : Blocks) (head : Super) → super_of_image image ≡ Ok head → (b : ℕ) → looked_in image b ≡ is_looked_at head.geometry b
looked_by image head accepted b = rw (accepted, looked_in) refl

pub looked_in_place : (image : Blocks) (head : Super) → super_of_image image ≡ Ok head → (b : ℕ) → IsTrue (is_looked_at head.geometry b) → IsTrue (looked_in image b)
looked_in_place image head accepted b is = looked_by image head accepted b ∙ is

pub looked_first : (image : Blocks) → IsTrue (looked_in image 0)
looked_first image = by_super (super_of_image image)
  where
    by_super : (result : Result Super SuperFault) → ◌≡◌ {A = Bool} (elim result [ Ok head ↦ is_looked_at head.geometry 0 | Err fault ↦ true ]) true
    by_super (Ok head) = looked_low head.geometry 0 (omega arith)
    by_super (Err fault) = refl

-- what is pending, by the sizes of an image and by its superblock
module _ (image : Blocks) (head : Super) (accepted : super_of_image image ≡ Ok head) (opening : Blocks) (log : List Call) (other : Blocks) where
  pub one_by_sizes : HasOneImageIn (looked_in image) opening log other → HasOneImageIn (is_looked_at head.geometry) opening log other
  one_by_sizes one = record { size = one.size; whole = one.whole; only = λ b below here. one.only b below (looked_in_place image head accepted b here) }

  pub one_by_super : HasOneImageIn (is_looked_at head.geometry) opening log other → HasOneImageIn (looked_in image) opening log other
  one_by_super one = record { size = one.size; whole = one.whole; only = λ b below here. one.only b below (sym (looked_by image head accepted b) ∙ here) }
