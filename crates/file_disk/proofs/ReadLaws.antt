-- A read of a file goes on.
use Rattle.std.proofs.Common.{ℕ, ◌≡◌, ◌+◌, ◌≤◌, ◌∙◌, IsTrue, List, [], ◌++◌, length, take, drop, replicate, refl, ap, sym, subst, arith}
use Rattle.std.proofs.Math.Seq.{take-append-add}
use Rattle.std.proofs.lemmas.List.{take-append-le, drop-drop, drop_all, length-replicate, length-take-le, take_all, take_at}
use Rattle.disk_model.specs.Trust.{Trust}
use Rattle.file_disk.specs.FileBytes.{front}
use Rattle.file_disk.specs.FileLog.{HoldsCalls}
use Rattle.file_disk.specs.FileReads.{IsReadTo}
use Rattle.file_disk.specs.FileSeen.{FileSeen}
use Rattle.file_disk.proofs.FrontLaws.{front-add, front-nil, front-zero}

-- The bytes of a piece behind those that are read.
joined : (offset filled n : ℕ) (into piece tail bytes : List ℕ) → filled ≤ length into → n ≤ length piece
    → take filled into ≡ front filled (drop offset bytes) → take n piece ≡ front n (drop (offset + filled) bytes)
    → take (filled + n) (take filled into ++ (piece ++ tail)) ≡ front (filled + n) (drop offset bytes)
joined offset filled n into piece tail bytes room few so_far more =
    let size : length (take filled into) ≡ filled = length-take-le filled into room in
    ap (λ (k : ℕ). take (k + n) (take filled into ++ (piece ++ tail))) (sym size)
    ∙ take-append-add (take filled into) (piece ++ tail) n
    ∙ ap (λ (xs : List ℕ). take filled into ++ xs) (take-append-le n piece tail few ∙ more)
    ∙ ap (λ (xs : List ℕ). xs ++ front n (drop (offset + filled) bytes)) so_far
    ∙ ap (λ (xs : List ℕ). front filled (drop offset bytes) ++ front n xs) (sym (drop-drop filled offset bytes))
    ∙ sym (front-add filled n (drop offset bytes))

module _ (trust : Trust) (before old new : FileSeen) (offset filled n : ℕ) (into piece tail : List ℕ) where
  -- A read went on by n bytes.
  pub read-more : filled ≤ length into → n ≤ length piece → new.opening ≡ old.opening → (IsTrue trust.tells → new ≡ old)
      → (IsTrue trust.tells → IsTrue trust.honest → HoldsCalls old.opening old.log old.bytes)
      → (IsTrue trust.tells → IsTrue trust.honest → take n piece ≡ front n (drop (offset + filled) old.bytes))
      → IsReadTo trust before old offset into filled
      → IsReadTo trust before new offset (take filled into ++ (piece ++ tail)) (filled + n)
  read-more room few opening stays honest given read = record {
    opening = opening ∙ read.opening;
    stays = λ tells. stays tells ∙ read.stays tells;
    given = λ tells trusted.
        joined offset filled n into piece tail before.bytes room few (read.given tells trusted)
        (given tells trusted ∙ ap (λ (seen : FileSeen). front n (drop (offset + filled) seen.bytes)) (read.stays tells));
    holds = λ tells trusted some. subst (λ (seen : FileSeen). HoldsCalls seen.opening seen.log seen.bytes) (read.stays tells) (honest tells trusted);
  }

  -- It was interrupted.
  pub read-same : filled ≤ length into → new.opening ≡ old.opening → (IsTrue trust.tells → new ≡ old)
      → IsReadTo trust before old offset into filled
      → IsReadTo trust before new offset (take filled into ++ (piece ++ tail)) filled
  read-same room opening stays read = record {
    opening = opening ∙ read.opening;
    stays = λ tells. stays tells ∙ read.stays tells;
    given = λ tells trusted.
        let size : length (take filled into) ≡ filled = length-take-le filled into room in
        take_at (take filled into) (piece ++ tail) filled size ∙ read.given tells trusted;
    holds = read.holds;
  }

-- At the end of a file all that is left is zeros.
pub given_at_end : (n at : ℕ) (piece bytes : List ℕ) → piece ≡ replicate n 0 → length bytes ≤ at → take (length piece) piece ≡ front (length piece) (drop at bytes)
given_at_end n at piece bytes zeros end =
    let size : length piece ≡ n = ap length zeros ∙ length-replicate n 0 in
    take_all (length piece) piece (omega arith) ∙ zeros ∙ sym (front-nil n)
    ∙ ap (λ (k : ℕ). front k []) (sym size) ∙ ap (front (length piece)) (sym (drop_all at bytes end))

-- Nothing is read yet.
pub read-none : (trust : Trust) (seen : FileSeen) (offset : ℕ) (into : List ℕ) → IsReadTo trust seen seen offset into 0
read-none trust seen offset into = record {
  opening = refl;
  stays = λ tells. refl;
  given = λ tells trusted. sym (front-zero (drop offset seen.bytes));
  holds = λ tells trusted some. absurd (omega (arith, some));
}

-- What was read of it is forgotten.
pub read-given_up : (trust : Trust) (before now : FileSeen) (offset filled : ℕ) (into : List ℕ) → IsReadTo trust before now offset into filled → IsReadTo trust before now offset into 0
read-given_up trust before now offset filled into read = record {
  opening = read.opening;
  stays = read.stays;
  given = λ tells trusted. sym (front-zero (drop offset before.bytes));
  holds = λ tells trusted some. absurd (omega (arith, some));
}
