-- A file's sectors, and the blocks of the device on it.
use Rattle.std.proofs.Common.{ℕ, zero, suc, ◌≡◌, ◌≢◌, ◌+◌, ◌-◌, ◌*◌, ◌≤◌, ◌<◌, true, false, IsTrue, ◌∙◌, List, [], ◌∷◌, map, length, drop, refl, ap, sym, subst, inl, inr, arith}
use Rattle.std.specs.Prelude.{leb}
use Rattle.std.proofs.Math.Bool.{and-false}
use Rattle.std.proofs.lemmas.Bool.{cases_lt, le-leb, lt-leb, lt-ltb, le-ltb}
use Rattle.std.proofs.lemmas.Bool.Decides.{eqb_tells}
use Rattle.std.proofs.lemmas.List.{drop-drop, length-drop}
use Rattle.blk_base.specs.Sectors.{sector}
use Rattle.disk_model.specs.declared.call.Call.{Call}
use Rattle.disk_model.specs.declared.call.Call.TheVariants.{Read, Write, Flush}
use Rattle.disk_model.specs.Images.{OneOf, IsMixOf, IsImage}
use Rattle.disk_model.specs.Trust.{Trust}
use Rattle.disk_model.specs.Log.{block_at, settled, contents}
use Rattle.file_disk.specs.BlockLaws.{length-blocks}
use Rattle.file_disk.specs.FileBytes.{front, file_sector, file_block, blocks_of}
use Rattle.file_disk.specs.FileLog.{FileCall, reaches, put_into, sector_settled, sector_contents, HoldsCalls, IsFileImage}
use Rattle.file_disk.specs.FileBlocks.{file_calls, AreWhole, IsTied}
use Rattle.file_disk.specs.FileSeen.{FileSeen}
use Rattle.file_disk.proofs.FrontLaws.{part-front, length-front, front-within}

-- A sector of a block of a file is a sector of the file.
pub sector_of_block : (b i : ℕ) (bytes : List ℕ) → i < 8 → sector i (file_block b bytes) ≡ file_sector (8 * b + i) bytes
sector_of_block b i bytes few =
    let place : 4096 * b + 512 * i ≡ 512 * (8 * b + i) = omega arith in
    part-front (512 * i) 512 4096 (drop (4096 * b) bytes) (omega arith)
    ∙ ap (front 512) (drop-drop (512 * i) (4096 * b) bytes ∙ ap (λ (k : ℕ). drop k bytes) place)

pub block_at-blocks : (n b : ℕ) (bytes : List ℕ) → b < n → block_at (blocks_of n bytes) b ≡ file_block b bytes
block_at-blocks zero b bytes below = absurd (omega arith)
block_at-blocks (suc n) zero bytes below = refl
block_at-blocks (suc n) (suc b) bytes below =
    let place : 4096 + 4096 * b ≡ 4096 * suc b = omega arith in
    block_at-blocks n b (drop 4096 bytes) (omega arith)
    ∙ ap (front 4096) (drop-drop (4096 * b) 4096 bytes ∙ ap (λ (k : ℕ). drop k bytes) place)

opened : (n b i : ℕ) (bytes : List ℕ) → b < n → i < 8 → file_sector (8 * b + i) bytes ≡ sector i (block_at (blocks_of n bytes) b)
opened n b i bytes below few = sym (ap (sector i) (block_at-blocks n b bytes below) ∙ sector_of_block b i bytes few)

-- The write of a block reaches the sectors of this block, and no other.
reaches_own : (b i : ℕ) (bytes : List ℕ) → length bytes ≡ 4096 → i < 8 → reaches (4096 * b) bytes (8 * b + i) ≡ true
reaches_own b i bytes whole few =
    rw (le-leb (4096 * b) (512 * (8 * b + i)) (omega arith), lt-ltb (512 * (8 * b + i)) (4096 * b + length bytes) (omega (arith, whole))) refl

reaches_other : (at b i : ℕ) (bytes : List ℕ) → length bytes ≡ 4096 → i < 8 → at ≢ b → reaches (4096 * at) bytes (8 * b + i) ≡ false
reaches_other at b i bytes whole few other = elim (cases_lt b at) [
  | inl before ↦ rw (lt-leb (4096 * at) (512 * (8 * b + i)) (omega arith)) refl
  | inr from ↦
      let above : at < b = omega (arith, other) in
      rw (le-ltb (512 * (8 * b + i)) (4096 * at + length bytes) (omega (arith, whole))) (and-false (leb (4096 * at) (512 * (8 * b + i))))
]

put_own : (b i : ℕ) (bytes : List ℕ) → length bytes ≡ 4096 → i < 8 → put_into (4096 * b) bytes (8 * b + i) ≡ sector i bytes
put_own b i bytes whole few =
    let place : 512 * (8 * b + i) - 4096 * b ≡ 512 * i = omega arith in
    let room : 512 ≤ length (drop (512 * i) bytes) = omega (arith, whole, length-drop (512 * i) bytes) in
    ap (λ (k : ℕ). front 512 (drop k bytes)) place ∙ front-within 512 (drop (512 * i) bytes) room

module _ (opening : List ℕ) (n b i : ℕ) (below : b < n) (few : i < 8) where
  -- What a read may find in a block is, sector by sector, what it may find in the file.
  pub settled_map : (log : List Call) → AreWhole log
      → sector_settled opening (file_calls log) (8 * b + i) ≡ map (sector i) (settled (blocks_of n opening) log b)
  settled_map [] whole = ap (λ (content : List ℕ). content ∷ []) (opened n b i opening below few)
  settled_map (Read at bytes ok ∷ log) whole = settled_map log whole
  settled_map (Flush ok ∷ log) whole = settled_map log whole
  settled_map (Write at bytes true ∷ log) whole = elim (eqb_tells at.0 b) [
    | inl same ↦
        let mine : reaches (4096 * at.0) bytes (8 * b + i) ≡ true = rw same.1 (reaches_own b i bytes whole.0 few) in
        let put : put_into (4096 * at.0) bytes (8 * b + i) ≡ sector i bytes = rw same.1 (put_own b i bytes whole.0 few) in
        rw (same.0, mine, put) refl
    | inr other ↦ rw (other.0, reaches_other at.0 b i bytes whole.0 few other.1) (settled_map log whole.1)
  ]
  settled_map (Write at bytes false ∷ log) whole = elim (eqb_tells at.0 b) [
    | inl same ↦
        let mine : reaches (4096 * at.0) bytes (8 * b + i) ≡ true = rw same.1 (reaches_own b i bytes whole.0 few) in
        let put : put_into (4096 * at.0) bytes (8 * b + i) ≡ sector i bytes = rw same.1 (put_own b i bytes whole.0 few) in
        rw (same.0, mine, put) (ap (λ (others : List (List ℕ)). sector i bytes ∷ others) (settled_map log whole.1))
    | inr other ↦ rw (other.0, reaches_other at.0 b i bytes whole.0 few other.1) (settled_map log whole.1)
  ]

  -- What a stop may leave in it too.
  pub contents_map : (log : List Call) → AreWhole log
      → sector_contents opening (file_calls log) (8 * b + i) ≡ map (sector i) (contents (blocks_of n opening) log b)
  contents_map [] whole = ap (λ (content : List ℕ). content ∷ []) (opened n b i opening below few)
  contents_map (Read at bytes ok ∷ log) whole = contents_map log whole
  contents_map (Flush true ∷ log) whole = settled_map log whole
  contents_map (Flush false ∷ log) whole = contents_map log whole
  contents_map (Write at bytes ok ∷ log) whole = elim (eqb_tells at.0 b) [
    | inl same ↦
        let mine : reaches (4096 * at.0) bytes (8 * b + i) ≡ true = rw same.1 (reaches_own b i bytes whole.0 few) in
        let put : put_into (4096 * at.0) bytes (8 * b + i) ≡ sector i bytes = rw same.1 (put_own b i bytes whole.0 few) in
        rw (same.0, mine, put) (ap (λ (others : List (List ℕ)). sector i bytes ∷ others) (contents_map log whole.1))
    | inr other ↦ rw (other.0, reaches_other at.0 b i bytes whole.0 few other.1) (contents_map log whole.1)
  ]

-- One of the sectors of some contents is that of one of them.
one_of_map : (P : List ℕ → Type 0) (f : List ℕ → List ℕ) (options : List (List ℕ)) → OneOf P (map f options) → OneOf (λ content. P (f content)) options
one_of_map P f [] one = absurd one
one_of_map P f (content ∷ others) (inl here) = inl here
one_of_map P f (content ∷ others) (inr later) = inr (one_of_map P f others later)

-- the contents of a block, and those of its sectors in the file
mixed : (n b i : ℕ) (bytes : List ℕ) (found : List (List ℕ)) (options : List (List ℕ)) → b < n → i < 8 → found ≡ map (sector i) options
    → OneOf (λ content. file_sector (8 * b + i) bytes ≡ content) found
    → OneOf (λ content. sector i (block_at (blocks_of n bytes) b) ≡ sector i content) options
mixed n b i bytes found options below few same one =
    rw (← opened n b i bytes below few) (one_of_map (λ content. file_sector (8 * b + i) bytes ≡ content) (sector i) options (rw same at one))

-- A stop of the file leaves an image of the device.
pub image_of_file : (opening : List ℕ) (log : List Call) (n : ℕ) (image : List ℕ) → AreWhole log → IsFileImage opening (file_calls log) image
    → IsImage (blocks_of n opening) log (blocks_of n image)
image_of_file opening log n image whole is = record {
  size = length-blocks n image ∙ sym (length-blocks n opening);
  whole = λ b below.
      let under : b < n = omega (arith, below, length-blocks n opening) in
      ap length (block_at-blocks n b image under) ∙ length-front 4096 (drop (4096 * b) image);
  sectors = λ b below i few.
      let under : b < n = omega (arith, below, length-blocks n opening) in
      mixed n b i image (sector_contents opening (file_calls log) (8 * b + i)) (contents (blocks_of n opening) log b) under few (contents_map opening n b i under few log whole) (is (8 * b + i));
}

-- The same where the log is tied to the file.
pub image_of_tied : (trust : Trust) (file : FileSeen) (log : List Call) (n : ℕ) (image : List ℕ) → IsTied trust file log → IsTrue trust.tells
    → IsFileImage file.opening file.log image → IsImage (blocks_of n file.opening) log (blocks_of n image)
image_of_tied trust file log n image tied tells is = image_of_file file.opening log n image tied.whole (rw (tied.same tells) at is)

-- A block of a file that holds what its calls settled is one that a read of the device may give.
pub read_of_file : (opening : List ℕ) (log : List Call) (n b : ℕ) (bytes : List ℕ) → AreWhole log → b < n → HoldsCalls opening (file_calls log) bytes
    → IsMixOf (settled (blocks_of n opening) log b) (file_block b bytes)
read_of_file opening log n b bytes whole below holds i few =
    rw (← block_at-blocks n b bytes below)
    (mixed n b i bytes (sector_settled opening (file_calls log) (8 * b + i)) (settled (blocks_of n opening) log b) below few (settled_map opening n b i below few log whole) (holds (8 * b + i)))

-- The same where the log is tied to the file.
pub read_of_tied : (trust : Trust) (file : FileSeen) (log : List Call) (n b : ℕ) (into : List ℕ) → IsTied trust file log → IsTrue trust.tells → b < n
    → HoldsCalls file.opening file.log file.bytes → into ≡ file_block b file.bytes → IsMixOf (settled (blocks_of n file.opening) log b) into
read_of_tied trust file log n b into tied tells below holds same =
    let held = subst (λ (calls : List FileCall). HoldsCalls file.opening calls file.bytes) (tied.same tells) holds in
    rw same (read_of_file file.opening log n b file.bytes tied.whole below held)
