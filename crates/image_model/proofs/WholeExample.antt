-- The empty image of the default sizes, for rows and examples.
use Rattle.std.proofs.Common.{ℕ, zero, suc, ◌≡◌, ◌⊎◌, ◌+◌, ◌-◌, ◌<◌, ◌≤◌, ◌^◌, List, [], ◌∷◌, length, replicate, Ok, Err, refl, sym, ◌∙◌, ap, subst, inl, inr, arith}
use Rattle.std.proofs.lemmas.Bool.{cases_lt}
use Rattle.std.proofs.lemmas.List.{length-replicate}
use Rattle.blk_base.proofs.SectorLaws.{zero_size}
use Rattle.page_codec.proofs.SpellingLaws.{page_size}
use Rattle.blk_base.specs.declared.place.Mapping.TheVariants.{Unmapped}
use Rattle.blk_base.specs.Limits.{IsGeometry}
use Rattle.blk_base.specs.Regions.{Place, Superblock, JournalSlot, Root, IndexBlock, DataBlock, ReferenceBlock, SlabJournalSlot, IsPlace, block_of}
use Rattle.blk_base.specs.Sectors.{zero_block}
use Rattle.blk_base.specs.declared.geometry.Super.{Super}
use Rattle.blk_base.proofs.Example.{place}
use Rattle.disk_model.specs.Log.{Blocks, block_at}
use Rattle.image_layout.specs.Opened.{super_of_image}
use Rattle.image_layout.specs.Superblock.{super_block, super_of}
use Rattle.image_layout.specs.declared.fault.SuperFault.TheVariants.{NotAnImage}
use Rattle.image_layout.proofs.AgainLaws.{written_again}
use Rattle.image_layout.proofs.SpellingLaws.{super_size}
use Rattle.image_model.specs.Empty.{IsEmpty, IsMade, empty_root, empty_super, made_block, root_head}
use Rattle.image_model.proofs.Example.{small, small_is}

-- The empty image, block by block.
pub pick : {A B : Type 0} → A ⊎ B → List ℕ → List ℕ → List ℕ
pick (inl a) x y = x
pick (inr b) x y = y

pub pick_first : {A B : Type 0} (either : A ⊎ B) (x y : List ℕ) → (B → ⊥) → pick either x y ≡ x
unfolding pick
pick_first (inl a) x y never = refl
pick_first (inr b) x y never = absurd (never b)

pub pick_second : {A B : Type 0} (either : A ⊎ B) (x y : List ℕ) → (A → ⊥) → pick either x y ≡ y
unfolding pick
pick_second (inl a) x y never = absurd (never a)
pick_second (inr b) x y never = refl

-- blocks 1 to 153
pub behind_super : ℕ → List ℕ
behind_super n = pick (cases_lt n 8) zero_block (pick (cases_lt n 68) (empty_root small (n - 8)) zero_block)

pub listed : (ℕ → List ℕ) → ℕ → ℕ → Blocks
listed f from zero = []
listed f from (suc n) = f from ∷ listed f (suc from) n

pub size_listed : (f : ℕ → List ℕ) (from n : ℕ) → length (listed f from n) ≡ n
unfolding listed
size_listed f from zero = refl
size_listed f from (suc n) = let rest = size_listed f (suc from) n in omega (arith, rest)

pub at_listed : (f : ℕ → List ℕ) (from n k : ℕ) → k < n → block_at (listed f from n) k ≡ f (from + k)
unfolding listed
at_listed f from zero k below = absurd (omega (arith, below))
at_listed f from (suc n) zero below = ap f (omega arith)
at_listed f from (suc n) (suc k) below = let place : suc from + k ≡ from + suc k = omega arith in at_listed f (suc from) n k (omega (arith, below)) ∙ ap f place

abbrev pub empty_image : Blocks
empty_image = super_block (empty_super small) ∷ listed behind_super 0 153

pub at_behind : (n : ℕ) → n < 153 → block_at empty_image (suc n) ≡ behind_super n
at_behind n below = at_listed behind_super 0 153 n below ∙ ap behind_super (omega arith)

pub zeros_before : (n b : ℕ) → n < 8 → b ≡ suc n → block_at empty_image b ≡ zero_block
unfolding behind_super
zeros_before n b below same =
    ap (block_at empty_image) same ∙ at_behind n (omega (arith, below))
    ∙ pick_first (cases_lt n 8) zero_block (pick (cases_lt n 68) (empty_root small (n - 8)) zero_block) (λ is. omega (arith, is, below))

pub zeros_behind : (n b : ℕ) → 68 ≤ n → n < 153 → b ≡ suc n → block_at empty_image b ≡ zero_block
unfolding behind_super
zeros_behind n b past below same =
    ap (block_at empty_image) same ∙ at_behind n below
    ∙ pick_second (cases_lt n 8) zero_block (pick (cases_lt n 68) (empty_root small (n - 8)) zero_block) (λ is. omega (arith, is, past))
    ∙ pick_second (cases_lt n 68) (empty_root small (n - 8)) zero_block (λ is. omega (arith, is, past))

pub roots_between : (tree b : ℕ) → tree < 60 → b ≡ suc (8 + tree) → block_at empty_image b ≡ empty_root small tree
unfolding behind_super
roots_between tree b below same =
    let back : 8 + tree - 8 ≡ tree = omega arith in
    ap (block_at empty_image) same ∙ at_behind (8 + tree) (omega (arith, below))
    ∙ pick_second (cases_lt (8 + tree) 8) zero_block (pick (cases_lt (8 + tree) 68) (empty_root small (8 + tree - 8)) zero_block) (λ is. omega (arith, is))
    ∙ pick_first (cases_lt (8 + tree) 68) (empty_root small (8 + tree - 8)) zero_block (λ is. omega (arith, is, below))
    ∙ ap (empty_root small) back

-- a device of 154 blocks that begins with a superblock of these sizes
pub heads : (head : Super) (others : Blocks) → head.geometry ≡ small → 1 ≤ head.start → head.start < 2 ^ 54 → length others ≡ 153
    → super_of_image (super_block head ∷ others) ≡ Ok head
heads head others same some below size =
    written_again head (length (super_block head ∷ others)) (subst IsGeometry (sym same) small_is) (rw same (omega arith)) some below (rw same (omega (arith, size)))

pub made_empty : (p : Place) → IsPlace small p → IsMade p → block_at empty_image (block_of small p) ≡ made_block small p
made_empty Superblock is made = absurd made
made_empty (DataBlock slab offset) is made = absurd made
made_empty (JournalSlot s) is made = zeros_before s (block_of small (JournalSlot s)) is (omega arith)
made_empty (Root t) is made = roots_between t (block_of small (Root t)) is (omega arith)
made_empty (IndexBlock i) is made = zeros_behind (68 + i) (block_of small (IndexBlock i)) (omega arith) (omega (arith, is)) (omega arith)
made_empty (ReferenceBlock slab i) is made =
    let one = is.0 in let first = is.1 in
    zeros_behind (148 + i) (block_of small (ReferenceBlock slab i)) (omega arith) (omega (arith, first)) (omega (arith, one))
made_empty (SlabJournalSlot slab s) is made =
    let one = is.0 in let slot = is.1 in
    zeros_behind (149 + s) (block_of small (SlabJournalSlot slab s)) (omega arith) (omega (arith, slot)) (omega (arith, one))

pub empty_is : IsEmpty small empty_image
empty_is = record { accepted = heads (empty_super small) (listed behind_super 0 153) refl (omega arith) (omega arith) (size_listed behind_super 0 153); made = made_empty }

-- It has 154 blocks, and each is whole.
pub empty_size : length empty_image ≡ 154
empty_size = ap suc (size_listed behind_super 0 153)

pub either_whole : {A B : Type 0} (either : A ⊎ B) (x y : List ℕ) → length x ≡ 4096 → length y ≡ 4096 → length (pick either x y) ≡ 4096
unfolding pick
either_whole (inl a) x y one other = one
either_whole (inr b) x y one other = other

pub whole_behind : (n : ℕ) → length (behind_super n) ≡ 4096
unfolding behind_super
whole_behind n =
    either_whole (cases_lt n 8) zero_block (pick (cases_lt n 68) (empty_root small (n - 8)) zero_block) zero_size
    (either_whole (cases_lt n 68) (empty_root small (n - 8)) zero_block (page_size (root_head small (n - 8)) (replicate 812 Unmapped) (length-replicate 812 Unmapped)) zero_size)

pub empty_whole : (b : ℕ) → b < 154 → length (block_at empty_image b) ≡ 4096
empty_whole zero below = super_size (empty_super small)
empty_whole (suc n) below = ap length (at_behind n (omega (arith, below))) ∙ whole_behind n

-- opens: there is no superblock
pub zero_super : (size : ℕ) → super_of zero_block size ≡ Err NotAnImage
unfolding super_of zero_block
zero_super size = refl
