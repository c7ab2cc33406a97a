-- Small cases that each clause on a file accepts, and ones that it refuses.
use Rattle.std.proofs.Common.{ℕ, ◌≡◌, ◌≢◌, ◌≤◌, Bool, true, false, List, [], ◌∷◌, refl, inl, inr, arith, ap}
use Rattle.blk_base.specs.declared.place.Pbn.{Pbn}
use Rattle.disk_model.specs.declared.call.Call.TheVariants.{Read, Write, Flush}
use Rattle.disk_model.specs.Trust.{trust_of}
use Rattle.file_disk.specs.FileBytes.{blocks_of, file_block, file_sector, front}
use Rattle.file_disk.specs.FileBlocks.{file_calls, AreWhole, IsTied}
use Rattle.file_disk.specs.FileLog.{WriteAt, Sync, reaches, put_into, sector_settled, sector_contents, HoldsCalls, IsFileImage}
use Rattle.file_disk.specs.FileReads.{IsReadTo}
use Rattle.file_disk.specs.FileSeen.{FileSeen, IsJustOpened, Gives, BeginsSector}

-- Behind the end are zeros, and only there.
front_zeros : front 3 (7 ∷ 8 ∷ []) ≡ 7 ∷ 8 ∷ 0 ∷ []
unfolding front
front_zeros = refl

front_cut : front 1 (7 ∷ 8 ∷ []) ≡ 7 ∷ []
unfolding front
front_cut = refl

-- A byte at 512 reaches sector 1, and no other.
reaches_one : reaches 512 (1 ∷ []) 1 ≡ true
reaches_one = refl

misses_one : reaches 512 (1 ∷ []) 0 ≡ false
misses_one = refl

misses_behind : reaches 512 (1 ∷ []) 2 ≡ false
misses_behind = refl

module _ (opening bytes : List ℕ) (offset s : ℕ) (here : reaches offset bytes s ≡ true) where
  -- A write that isn't synced may be lost, one that is synced may not, and a failed sync changes nothing.
  may_be_lost : sector_contents opening (WriteAt offset bytes true ∷ []) s ≡ put_into offset bytes s ∷ file_sector s opening ∷ []
  may_be_lost = rw here refl

  is_kept : sector_contents opening (Sync true ∷ WriteAt offset bytes true ∷ []) s ≡ put_into offset bytes s ∷ []
  is_kept = rw here refl

  not_kept : sector_contents opening (Sync false ∷ WriteAt offset bytes true ∷ []) s ≡ put_into offset bytes s ∷ file_sector s opening ∷ []
  not_kept = rw here refl

  -- A read finds a write that succeeded, and of one that failed the sector before too.
  is_found : sector_settled opening (WriteAt offset bytes true ∷ []) s ≡ put_into offset bytes s ∷ []
  is_found = rw here refl

  either_found : sector_settled opening (WriteAt offset bytes false ∷ []) s ≡ put_into offset bytes s ∷ file_sector s opening ∷ []
  either_found = rw here refl

-- A file as it was is an image, and holds its calls; another isn't, where nothing was written.
image_same : (opening : List ℕ) → IsFileImage opening [] opening
image_same opening s = inl refl

image_other : (opening image : List ℕ) (s : ℕ) → file_sector s image ≢ file_sector s opening → IsFileImage opening [] image → ⊥
image_other opening image s other is = elim (is s) [ inl same ↦ other same | inr none ↦ none ]

holds_same : (opening : List ℕ) → HoldsCalls opening [] opening
holds_same opening s = inl refl

holds_other : (opening bytes : List ℕ) (s : ℕ) → file_sector s bytes ≢ file_sector s opening → HoldsCalls opening [] bytes → ⊥
holds_other opening bytes s other holds = elim (holds s) [ inl same ↦ other same | inr none ↦ none ]

-- A read leaves no call on the file, a write one at its block, and a flush a sync.
calls_of_read : (at : Pbn) (bytes : List ℕ) → file_calls (Read at bytes true ∷ []) ≡ []
calls_of_read at bytes = refl

calls_of_write : (bytes : List ℕ) → file_calls (Write (record { 0 = 2 }) bytes true ∷ []) ≡ WriteAt 8192 bytes true ∷ []
calls_of_write bytes = refl

calls_of_flush : (ok : Bool) → file_calls (Flush ok ∷ []) ≡ Sync ok ∷ []
calls_of_flush ok = refl

-- A log that the file doesn't have isn't tied to it, and one of a short block isn't whole.
tied_flush : (opening bytes : List ℕ) → IsTied (trust_of true true) (record { opening = opening; log = Sync true ∷ []; bytes = bytes }) (Flush true ∷ [])
tied_flush opening bytes = record { whole = tt; same = λ tells. refl }

untied_flush : (opening bytes : List ℕ) → IsTied (trust_of true true) (record { opening = opening; log = []; bytes = bytes }) (Flush true ∷ []) → ⊥
untied_flush opening bytes tied = absurd (let e = tied.same refl in cc)

not_whole : (at : Pbn) → AreWhole (Write at (7 ∷ []) true ∷ []) → ⊥
not_whole at whole = let e = whole.0 in absurd (cc)

-- A read gives the file's bytes, and none only at its end.
gives_first : (opening : List ℕ) → Gives (record { opening = opening; log = []; bytes = 7 ∷ 8 ∷ [] }) 1 (8 ∷ 0 ∷ []) 1
unfolding front
gives_first opening = record { bytes = refl; end = λ none. absurd (cc) }

gives_other : (opening : List ℕ) → Gives (record { opening = opening; log = []; bytes = 7 ∷ 8 ∷ [] }) 1 (7 ∷ 0 ∷ []) 1 → ⊥
unfolding front
gives_other opening gives = let e = gives.bytes in absurd (cc)

gives_none_early : (opening : List ℕ) → Gives (record { opening = opening; log = []; bytes = 7 ∷ 8 ∷ [] }) 1 (0 ∷ []) 0 → ⊥
gives_none_early opening gives = let e : 2 ≤ 1 = gives.end refl (omega arith) in absurd (omega (arith, e))

-- A log with a call isn't one that begins now, and byte 513 begins no sector.
just_opened : (opening : List ℕ) → IsJustOpened (record { opening = opening; log = []; bytes = opening })
just_opened opening = record { log = refl }

not_just_opened : (opening : List ℕ) → IsJustOpened (record { opening = opening; log = Sync true ∷ []; bytes = opening }) → ⊥
not_just_opened opening just = let e = just.log in absurd (cc)

begins_one : BeginsSector 512
begins_one = (1, refl)

begins_none : BeginsSector 513 → ⊥
begins_none begins = let e = begins.1 in absurd (omega (arith, e))

-- Two blocks of a file are its first ones, in rising order.
two_blocks : (bytes : List ℕ) → blocks_of 2 bytes ≡ file_block 0 bytes ∷ file_block 1 bytes ∷ []
two_blocks bytes = refl

not_one_block : (bytes : List ℕ) → blocks_of 2 bytes ≡ file_block 0 bytes ∷ [] → ⊥
not_one_block bytes same = absurd (cc)

-- A file of two bytes, as it was opened.
abbrev two_bytes : FileSeen
two_bytes = record { opening = 7 ∷ 8 ∷ []; log = []; bytes = 7 ∷ 8 ∷ [] }

-- Of a file that tells and is honest what is read is what it holds, and it stays as it is; before the first byte was read
-- nothing is known of its calls.
read_one : IsReadTo (trust_of true true) two_bytes two_bytes 1 (8 ∷ []) 1
unfolding front
read_one = record { opening = refl; stays = λ tells. refl; given = λ tells honest. refl; holds = λ tells honest some. holds_same (7 ∷ 8 ∷ []) }

read_other : IsReadTo (trust_of true true) two_bytes two_bytes 1 (7 ∷ []) 1 → ⊥
unfolding front
read_other read = let e = read.given refl refl in absurd (cc)

read_changes : IsReadTo (trust_of true true) two_bytes (record two_bytes { log = Sync true ∷ [] }) 1 (8 ∷ []) 1 → ⊥
read_changes read = let e = ap (λ (seen : FileSeen). seen.log) (read.stays refl) in absurd (cc)

read_opens_anew : IsReadTo (trust_of false false) two_bytes (record two_bytes { opening = [] }) 1 (8 ∷ []) 1 → ⊥
read_opens_anew read = let e = read.opening in absurd (cc)

read_of_nothing : (bytes : List ℕ) → IsReadTo (trust_of true true) (record two_bytes { bytes = bytes }) (record two_bytes { bytes = bytes }) 1 (8 ∷ []) 0
unfolding front
read_of_nothing bytes = record { opening = refl; stays = λ tells. refl; given = λ tells honest. refl; holds = λ tells honest some. absurd (omega (arith, some)) }
