-- While nothing was done but to the superblock, each image is sound, and says the same as the opened one.
use Rattle.std.proofs.Common.{ℕ, ◌≡◌, ◌⊎◌, ◌+◌, ◌<◌, ◌≤◌, ◌^◌, Bool, true, false, IsTrue, List, ◌∷◌, length, Ok, refl, sym, ◌∙◌, ap, inl, inr, arith}
use Rattle.std.specs.List.{AllByRecursion}
use Rattle.std.proofs.lemmas.List.{take-take}
use Rattle.blk_base.specs.Sectors.{sector}
use Rattle.blk_base.specs.declared.geometry.Super.{Super}
use Rattle.disk_model.specs.declared.call.Call.{Call}
use Rattle.disk_model.specs.declared.call.Call.TheVariants.{Write, Flush}
use Rattle.disk_model.specs.Images.{IsImage}
use Rattle.disk_model.specs.Log.{Blocks, Misses, block_at, contents}
use Rattle.disk_model.proofs.ImageLaws.{all_weaker, block_of_image, sector_of_mix}
use Rattle.image_layout.proofs.SpellingLaws.{super_size}
use Rattle.image_layout.specs.Opened.{super_of_image}
use Rattle.image_layout.specs.Superblock.{super_block, super_of}
use Rattle.image_layout.proofs.AgainLaws.{written_again}
use Rattle.image_model.proofs.EmptyLaws.{sizes_of_image}
use Rattle.image_model.proofs.LookedLaws.{looked_first, looked_in_place}
use Rattle.image_model.specs.Looked.{HasOneImageButIndex, is_looked_at}
use Rattle.image_model.specs.Sound.{IsClosed}
use Rattle.recovery_laws.proofs.AlikeLaws.{sound_as}
use Rattle.recovery_laws.proofs.SoundLaws.{room}
use Rattle.recovery_laws.proofs.SuperLaws.{first_of_image, first_sector_says}
use Rattle.recovery_laws.specs.Kept.{PutsOnly}
use Rattle.session_stops.specs.Beginnings.{HeadStands, IsAsOpened, IsBeginning, IsHeadOf, IsToServe, head_in, opened_in}
use Rattle.session_stops.proofs.SurelyLaws.{goes_on, missed}

-- What all contents of block 0 have by their first sectors, each mix of them has.

idem : (content : List ℕ) → sector 0 (sector 0 content) ≡ sector 0 content
idem content = take-take 512 512 content (omega arith)

pub super_of_mix : (P : List ℕ → Type 0) → ((content other : List ℕ) → sector 0 content ≡ sector 0 other → P content → P other)
    → (opening : Blocks) (log : List Call) (image : Blocks) → 0 < length opening → IsImage opening log image → AllByRecursion P (contents opening log 0) → P (block_at image 0)
super_of_mix P by_first opening log image some is all =
    by_first (sector 0 (block_at image 0)) (block_at image 0) (idem (block_at image 0))
    (sector_of_mix P (contents opening log 0) (block_at image 0) 0 (omega arith) (is.sectors 0 some)
    (all_weaker P (λ content. P (sector 0 content)) (contents opening log 0) (λ content holds. by_first content (sector 0 content) (sym (idem content)) holds) all))

-- The images of a session's beginning.

pub is_true : (b : Bool) → IsTrue b → b ≡ true
is_true true is = refl
is_true false is = absurd (cc is)

module _ (base : Blocks) (to : IsToServe base) where
  closed_base : IsClosed (opened_in base to) to.sound.head.start to.sound.last
  closed_base = to.sound.closed to.clean

  early : to.sound.last + 2 < 2 ^ 54
  early = let late = to.late in let next = closed_base.next in omega (arith, late, next)

  head_by_first : (content other : List ℕ) → sector 0 content ≡ sector 0 other → IsHeadOf base to content → IsHeadOf base to other
  head_by_first content other same (inl is) = inl (first_sector_says other content (length base) (sym same) ∙ is)
  head_by_first content other same (inr is) = inr (first_sector_says other content (length base) (sym same) ∙ is)

  some_blocks : 0 < length base
  some_blocks = let enough = room base base to.sound in omega (arith, enough)

  same_super : (image : Blocks) → length image ≡ length base → super_of_image image ≡ super_of (block_at image 0) (length base)
  same_super image size = let some = some_blocks in first_of_image image (omega (arith, size, some)) ∙ ap (super_of (block_at image 0)) size

  as_it_was : to.sound.head ≡ record { geometry = to.sound.head.geometry; clean = true; start = to.sound.head.start }
  as_it_was = ap (λ (clean : Bool). record { geometry = to.sound.head.geometry; clean = clean; start = to.sound.head.start }) (is_true to.sound.head.clean to.clean)

  module _ (opening : Blocks) (log : List Call) (beginning : IsBeginning opening log base to) (image : Blocks) (is : IsImage opening log image) where
    size_is : length image ≡ length base
    size_is = is.size ∙ beginning.size

    block_is : (b : ℕ) → 1 ≤ b → b < length base → IsTrue (is_looked_at to.sound.head.geometry b) → block_at image b ≡ block_at base b
    block_is b behind below looked =
        let size = beginning.size in
        block_of_image opening log image b (block_at base b) (omega (arith, below, size)) (beginning.whole b below) (beginning.others b behind below looked) is

    super_is : IsHeadOf base to (block_at image 0)
    super_is = super_of_mix (IsHeadOf base to) head_by_first opening log image (let size = beginning.size in let some = some_blocks in omega (arith, size, some)) is beginning.super

    with_head : (clean : Bool) → super_of_image image ≡ Ok (record { geometry = to.sound.head.geometry; clean = clean; start = to.sound.head.start })
        → (record { geometry = to.sound.head.geometry; clean = clean; start = to.sound.head.start } ≡ to.sound.head) ⊎ (record { geometry = to.sound.head.geometry; clean = clean; start = to.sound.head.start } ≡ head_in base to)
        → IsAsOpened base to image
    with_head clean accepted which =
        let it = sound_as base image to.sound size_is block_is clean accepted (λ open_yet. early) (λ is_clean. closed_base) in record {
          sound = it.0;
          head = elim which [ inl was ↦ inl (it.1 ∙ was) | inr now ↦ inr (it.1 ∙ now) ];
          last = it.2;
          window = it.3;
          same = it.4;
        }

    pub image_is_as_opened : IsAsOpened base to image
    image_is_as_opened = elim super_is [
      | inl before ↦ with_head true (same_super image size_is ∙ before ∙ ap (λ (head : Super). Ok head) as_it_was) (inl (sym as_it_was))
      | inr now ↦ with_head false (same_super image size_is ∙ now) (inr refl)
    ]

  -- What begins a session.

  pub begins_with : (opening : Blocks) (log : List Call) → HasOneImageButIndex opening log base → IsBeginning opening log base to
  begins_with opening log one =
      let size = one.size in record {
        size = sym size;
        whole = λ b below. one.whole b (omega (arith, below, size));
        super = all_weaker (λ content. content ≡ block_at base 0) (IsHeadOf base to) (contents opening log 0)
            (λ content same. inl (ap (λ (block : List ℕ). super_of block (length base)) same ∙ sym (first_of_image base some_blocks) ∙ to.sound.opens.accepted))
            (one.only 0 (let some = some_blocks in omega (arith, size, some)) (looked_first base));
        others = λ b behind below looked. one.only b (omega (arith, below, size)) (looked_in_place base to.sound.head to.sound.opens.accepted b looked);
      }

  pub beginning_goes_on : (opening : Blocks) (log : List Call) (call : Call) → PutsOnly 0 (IsHeadOf base to) call → ((b : ℕ) → 1 ≤ b → Misses call b)
      → IsBeginning opening log base to → IsBeginning opening (call ∷ log) base to
  beginning_goes_on opening log call puts misses beginning = record {
    size = beginning.size;
    whole = beginning.whole;
    super = goes_on (IsHeadOf base to) opening log 0 call puts beginning.super;
    others = λ b behind below looked. missed (λ content. content ≡ block_at base b) opening log b call (misses b behind) (beginning.others b behind below looked);
  }

  -- the session's superblock is read back from its spelling
  pub head_is_read : super_of (super_block (head_in base to)) (length base) ≡ Ok (head_in base to)
  head_is_read =
      let late = to.late in let next = closed_base.next in
      written_again (head_in base to) (length base) (sizes_of_image base to.sound.head to.sound.opens.accepted) to.named (omega (arith, next)) (omega (arith, late)) (room base base to.sound)

  -- Once it was written and a flush returned it stands, and each image has it.
  pub head_stands : (opening : Blocks) (log : List Call) → HeadStands opening (Flush true ∷ Write (record { 0 = 0 }) (super_block (head_in base to)) true ∷ log) base to
  head_stands opening log = (refl, tt)

  pub head_of_image : (opening : Blocks) (log : List Call) (image : Blocks) → length opening ≡ length base → HeadStands opening log base to → IsImage opening log image
      → super_of_image image ≡ Ok (head_in base to)
  head_of_image opening log image size stands is =
      let some = some_blocks in
      let first = block_of_image opening log image 0 (super_block (head_in base to)) (omega (arith, size, some)) (super_size (head_in base to)) stands is in
      same_super image (is.size ∙ size) ∙ ap (λ (bytes : List ℕ). super_of bytes (length base)) first ∙ head_is_read
