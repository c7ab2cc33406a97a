-- What each call does to the contents of a block, and what an image shows of a block.
use Rattle.std.specs.Prelude.{ℕ, ◌≡◌, ◌≢◌, ◌<◌, Bool, true, false, if◌then◌else◌, ◌==◌, List, [], ◌∷◌, length, refl}
use Rattle.std.specs.List.{AllByRecursion}
use Rattle.std.proofs.Common.{sym, ◌∙◌, ap, subst, inl, inr}
use Rattle.std.proofs.lemmas.Bool.Decides.{eqb_tells}
use Rattle.blk_base.specs.Sectors.{sector}
use Rattle.blk_base.specs.SectorLaws.{same_sectors}
use Rattle.blk_base.specs.declared.place.Pbn.{Pbn}
use Rattle.disk_model.specs.declared.call.Call.{Call}
use Rattle.disk_model.specs.declared.call.Call.TheVariants.{Read, Write, Flush}
use Rattle.disk_model.specs.Images.{OneOf, IsMixOf, IsImage}
use Rattle.disk_model.specs.Log.{Blocks, block_at, settled, contents, Misses}

module _ (opening : Blocks) (log : List Call) where
  -- A write adds its content to those of its block, and changes those of no other block.
  pub contents-write : (at : Pbn) (bytes : List ℕ) (ok : Bool) → contents opening (Write at bytes ok ∷ log) at.0 ≡ bytes ∷ contents opening log at.0
  contents-write at bytes ok = elim (eqb_tells at.0 at.0) [ inl same ↦ rw same.0 | inr other ↦ absurd (other.1 refl) ]

  pub contents-write_other : (at : Pbn) (bytes : List ℕ) (ok : Bool) (b : ℕ) → at.0 ≢ b → contents opening (Write at bytes ok ∷ log) b ≡ contents opening log b
  contents-write_other at bytes ok b ne = elim (eqb_tells at.0 b) [ inl same ↦ absurd (ne same.1) | inr other ↦ rw other.0 ]

  -- A read and a flush that failed change none.
  pub contents-read : (at : Pbn) (bytes : List ℕ) (ok : Bool) (b : ℕ) → contents opening (Read at bytes ok ∷ log) b ≡ contents opening log b
  contents-read at bytes ok b = refl

  pub contents-failed_flush : (b : ℕ) → contents opening (Flush false ∷ log) b ≡ contents opening log b
  contents-failed_flush b = refl

  -- After a flush they are what was settled: what the last successful write wrote, and the failed ones since.
  pub contents-flush : (b : ℕ) → contents opening (Flush true ∷ log) b ≡ settled opening log b
  contents-flush b = refl

  -- A write that succeeds settles its block, and a failed one adds what it may have written.
  pub settled-write : (at : Pbn) (bytes : List ℕ) → settled opening (Write at bytes true ∷ log) at.0 ≡ bytes ∷ []
  settled-write at bytes = elim (eqb_tells at.0 at.0) [ inl same ↦ rw same.0 | inr other ↦ absurd (other.1 refl) ]

  pub settled-failed_write : (at : Pbn) (bytes : List ℕ) → settled opening (Write at bytes false ∷ log) at.0 ≡ bytes ∷ settled opening log at.0
  settled-failed_write at bytes = elim (eqb_tells at.0 at.0) [ inl same ↦ rw same.0 | inr other ↦ absurd (other.1 refl) ]

-- No write settles another block.
pub settled-write_other : (opening : Blocks) (log : List Call) (at : Pbn) (bytes : List ℕ) (ok : Bool) (b : ℕ) → at.0 ≢ b
    → settled opening (Write at bytes ok ∷ log) b ≡ settled opening log b
settled-write_other opening log at bytes true b ne = elim (eqb_tells at.0 b) [ inl same ↦ absurd (ne same.1) | inr other ↦ rw other.0 ]
settled-write_other opening log at bytes false b ne = elim (eqb_tells at.0 b) [ inl same ↦ absurd (ne same.1) | inr other ↦ rw other.0 ]

-- a property of all contents after a write
all_if : (P : List ℕ → Type 0) (here : Bool) (bytes : List ℕ) (xs ys : List (List ℕ)) → (AllByRecursion P xs → AllByRecursion P ys)
    → AllByRecursion P (if here then bytes ∷ xs else xs) → AllByRecursion P (if here then bytes ∷ ys else ys)
all_if P true bytes xs ys f h = (h.0, f h.1)
all_if P false bytes xs ys f h = f h

first_if : (P : List ℕ → Type 0) (here : Bool) (bytes : List ℕ) (xs ys : List (List ℕ)) → (AllByRecursion P xs → AllByRecursion P ys)
    → AllByRecursion P (if here then bytes ∷ xs else xs) → AllByRecursion P (if here then bytes ∷ [] else ys)
first_if P true bytes xs ys f h = (h.0, tt)
first_if P false bytes xs ys f h = f h

-- What holds of all that a stop may leave in a block holds of all that a read may give.
pub settled_are_contents : (P : List ℕ → Type 0) (opening : Blocks) (log : List Call) (b : ℕ)
    → AllByRecursion P (contents opening log b) → AllByRecursion P (settled opening log b)
settled_are_contents P opening [] b h = h
settled_are_contents P opening (Read at bytes ok ∷ log) b h = settled_are_contents P opening log b h
settled_are_contents P opening (Flush true ∷ log) b h = h
settled_are_contents P opening (Flush false ∷ log) b h = settled_are_contents P opening log b h
settled_are_contents P opening (Write at bytes true ∷ log) b h = first_if P (at.0 == b) bytes _ _ (settled_are_contents P opening log b) h
settled_are_contents P opening (Write at bytes false ∷ log) b h = all_if P (at.0 == b) bytes _ _ (settled_are_contents P opening log b) h

-- What holds of all contents of a block goes on over a call that misses it.
pub kept : (P : List ℕ → Type 0) (opening : Blocks) (log : List Call) (call : Call) (b : ℕ) → Misses call b
    → AllByRecursion P (contents opening log b) → AllByRecursion P (contents opening (call ∷ log) b)
kept P opening log (Read at bytes ok) b misses all = all
kept P opening log (Write at bytes ok) b misses all = rw (contents-write_other opening log at bytes ok b misses) all
kept P opening log (Flush true) b misses all = settled_are_contents P opening log b all
kept P opening log (Flush false) b misses all = all

-- A call that misses a block changes nothing that a read of it may give.
pub settled-misses : (opening : Blocks) (log : List Call) (call : Call) (b : ℕ) → Misses call b → settled opening (call ∷ log) b ≡ settled opening log b
settled-misses opening log (Read at bytes ok) b misses = refl
settled-misses opening log (Write at bytes ok) b misses = settled-write_other opening log at bytes ok b misses
settled-misses opening log (Flush ok) b misses = refl

-- A weaker property of all contents.
pub all_weaker : (P Q : List ℕ → Type 0) (options : List (List ℕ)) → ((content : List ℕ) → P content → Q content) → AllByRecursion P options → AllByRecursion Q options
all_weaker P Q [] f all = tt
all_weaker P Q (content ∷ others) f all = (f content all.0, all_weaker P Q others f all.1)

one_of_all : (P Q : List ℕ → Type 0) (R : Type 0) (options : List (List ℕ)) → AllByRecursion P options → OneOf Q options
    → ((content : List ℕ) → P content → Q content → R) → R
one_of_all P Q R [] all one f = absurd one
one_of_all P Q R (content ∷ others) all (inl here) f = f content all.0 here
one_of_all P Q R (content ∷ others) all (inr later) f = one_of_all P Q R others all.1 later f

-- A sector of a mix is that of a content that is known.
pub sector_of_mix : (P : List ℕ → Type 0) (options : List (List ℕ)) (block : List ℕ) (i : ℕ) → i < 8
    → IsMixOf options block → AllByRecursion (λ content. P (sector i content)) options → P (sector i block)
sector_of_mix P options block i below mix all =
    one_of_all (λ content. P (sector i content)) (λ content. sector i block ≡ sector i content) (P (sector i block)) options all (mix i below)
    (λ content known same. subst P (sym same) known)

-- A mix of contents that are all the same is that content.
pub block_of_mix : (options : List (List ℕ)) (value block : List ℕ) → length value ≡ 4096 → length block ≡ 4096
    → IsMixOf options block → AllByRecursion (λ content. content ≡ value) options → block ≡ value
block_of_mix options value block value_size block_size mix all =
    same_sectors block value block_size value_size (λ i below.
    one_of_all (λ content. content ≡ value) (λ content. sector i block ≡ sector i content) (sector i block ≡ sector i value) options all (mix i below)
    (λ content is_value same. same ∙ ap (sector i) is_value))

-- A block all of whose contents are the same is that content in each image.
pub block_of_image : (opening : Blocks) (log : List Call) (image : Blocks) (b : ℕ) (value : List ℕ) → b < length opening → length value ≡ 4096
    → AllByRecursion (λ content. content ≡ value) (contents opening log b) → IsImage opening log image → block_at image b ≡ value
block_of_image opening log image b value below size all is =
    block_of_mix (contents opening log b) value (block_at image b) size (is.whole b below) (is.sectors b below) all
