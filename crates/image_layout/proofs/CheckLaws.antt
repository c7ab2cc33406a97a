-- What the checks of a superblock say.
use Rattle.std.specs.Prelude.{ℕ, zero, suc, ◌≡◌, ◌≤◌, ◌<◌, ◌^◌, ◌%◌, ◌==◌, ◌&&◌, Bool, true, false, if◌then◌else◌, nat_le, nat_lt, List, [], ◌∷◌, ◌++◌, length, replicate, Result, Ok, Err, IsErrAnd, refl}
use Rattle.std.specs.List.{slice_range, list_all}
use Rattle.std.proofs.Common.{◌∙◌, ap, arith}
use Rattle.std.proofs.lemmas.Bool.{leb-true, le-leb, eqb-true, eq-eqb, ltb-true, lt-ltb}
use Rattle.blk_base.specs.declared.geometry.Geometry.{Geometry}
use Rattle.blk_base.specs.declared.geometry.Super.{Super}
use Rattle.blk_base.specs.Limits.{IsGeometry, logical_limit}
use Rattle.blk_base.specs.Regions.{needed_blocks}
use Rattle.byte_fields.specs.Fields.{number_at}
use Rattle.image_layout.specs.declared.fault.SuperFault.{SuperFault}
use Rattle.image_layout.specs.declared.fault.SuperFault.TheVariants.{NotAnImage, Version, BadField}
use Rattle.image_layout.specs.declared.fault.Field.TheVariants.{Clean, Reserved, Start}
use Rattle.image_layout.specs.Superblock.{head_in, geometry_in, is_within, is_zeros, identity_checks, size_checks, state_checks, room_checks, run_checks, answer_after, super_of}

pub both : (a b : Bool) → (a && b) ≡ true → (a ≡ true) × (b ≡ true)
both true b h = (refl, h)
both false b h = absurd cc

-- a check that passed, and the checks behind it
pub passed : (p : Bool) (fault : SuperFault) (rest : Result (Unit {0}) SuperFault) → (if p then rest else Err fault) ≡ Ok tt → (p ≡ true) × (rest ≡ Ok tt)
passed true fault rest h = (refl, h)
passed false fault rest h = absurd cc

pub within-right : (low high x : ℕ) → is_within low high x ≡ true → (low ≤ x) × (x ≤ high)
unfolding is_within
within-right low high x h = let b = both (nat_le low x) (nat_le x high) h in (leb-true low x b.0, leb-true x high b.1)

within-passes : (low high x : ℕ) → low ≤ x → x ≤ high → is_within low high x ≡ true
unfolding is_within
within-passes low high x above below = rw (le-leb low x above) (le-leb x high below)

zeros-right : (bytes : List ℕ) → is_zeros bytes ≡ true → bytes ≡ replicate (length bytes) 0
unfolding is_zeros
zeros-right [] h = refl
zeros-right (b ∷ bytes) h =
    let parts = both (b == 0) (list_all (λ b. b == 0) bytes) h in
    ap (λ a. a ∷ bytes) (eqb-true b 0 parts.0) ∙ ap (λ bs. 0 ∷ bs) (zeros-right bytes parts.1)

-- sizes that pass are within their limits, and sizes within their limits pass
pub sizes_right : (g : Geometry) → run_checks (size_checks g) ≡ Ok tt → IsGeometry g
sizes_right g h =
    let height = passed _ _ _ h in
    let nonce = passed _ _ _ height.1 in
    let logical = passed _ _ _ nonce.1 in
    let slabs = passed _ _ _ logical.1 in
    let slab_blocks = passed _ _ _ slabs.1 in
    let journal = passed _ _ _ slab_blocks.1 in
    let index = passed _ _ _ journal.1 in
    let slab_journal = passed _ _ _ index.1 in
    let index_parts = both (is_within 4 1024 g.index) (g.index % 4 == 0) index.0 in
    let index_range = within-right 4 1024 g.index index_parts.0 in
    record {
      height = within-right 2 3 g.height height.0;
      nonce = leb-true 1 g.nonce nonce.0;
      logical = within-right 1 (logical_limit g.height) g.logical logical.0;
      slabs = within-right 1 1024 g.slabs slabs.0;
      slab_blocks = within-right 16 32768 g.slab_blocks slab_blocks.0;
      journal = within-right 8 1024 g.journal journal.0;
      index = (index_range.0, index_range.1, eqb-true (g.index % 4) 0 index_parts.1);
      slab_journal = within-right 2 64 g.slab_journal slab_journal.0;
    }

sizes_pass : (g : Geometry) → IsGeometry g → run_checks (size_checks g) ≡ Ok tt
sizes_pass g sizes =
    let height : is_within 2 3 g.height ≡ true = within-passes 2 3 g.height sizes.height.0 sizes.height.1 in
    let nonce : nat_le 1 g.nonce ≡ true = le-leb 1 g.nonce sizes.nonce in
    let logical : is_within 1 (logical_limit g.height) g.logical ≡ true = within-passes 1 (logical_limit g.height) g.logical sizes.logical.0 sizes.logical.1 in
    let slabs : is_within 1 1024 g.slabs ≡ true = within-passes 1 1024 g.slabs sizes.slabs.0 sizes.slabs.1 in
    let slab_blocks : is_within 16 32768 g.slab_blocks ≡ true = within-passes 16 32768 g.slab_blocks sizes.slab_blocks.0 sizes.slab_blocks.1 in
    let journal : is_within 8 1024 g.journal ≡ true = within-passes 8 1024 g.journal sizes.journal.0 sizes.journal.1 in
    let index : is_within 4 1024 g.index ≡ true = within-passes 4 1024 g.index sizes.index.0 sizes.index.1 in
    let multiple : (g.index % 4 == 0) ≡ true = eq-eqb (g.index % 4) 0 sizes.index.2 in
    let slab_journal : is_within 2 64 g.slab_journal ≡ true = within-passes 2 64 g.slab_journal sizes.slab_journal.0 sizes.slab_journal.1 in
    rw (height, nonce, logical, slabs, slab_blocks, journal, index, multiple, slab_journal) refl

-- what the bytes behind the sizes say when they pass
pub record IsState (block : List ℕ) : Type 0 where
  pub clean : number_at 4 48 block ≤ 1
  pub gap : slice_range block 52 56 ≡ replicate (length (slice_range block 52 56)) 0
  pub start : (1 ≤ number_at 8 56 block) × (number_at 8 56 block < 2 ^ 54)
  pub rest : slice_range block 64 512 ≡ replicate (length (slice_range block 64 512)) 0

pub state_right : (block : List ℕ) → run_checks (state_checks block) ≡ Ok tt → IsState block
state_right block h =
    let clean = passed _ _ _ h in
    let gap = passed _ _ _ clean.1 in
    let start = passed _ _ _ gap.1 in
    let rest = passed _ _ _ start.1 in
    let start_parts = both (nat_le 1 (number_at 8 56 block)) (nat_lt (number_at 8 56 block) (2 ^ 54)) start.0 in
    let clean_range = within-right 0 1 (number_at 4 48 block) clean.0 in
    record {
      clean = clean_range.1;
      gap = zeros-right (slice_range block 52 56) gap.0;
      start = (leb-true 1 (number_at 8 56 block) start_parts.0, ltb-true (number_at 8 56 block) (2 ^ 54) start_parts.1);
      rest = zeros-right (slice_range block 64 512) rest.0;
    }

pub room_right : (g : Geometry) (blocks : ℕ) → run_checks (room_checks g blocks) ≡ Ok tt → needed_blocks g ≤ blocks
room_right g blocks h = let room = passed _ _ _ h in leb-true (needed_blocks g) blocks room.0

-- checks behind others
passed-append : (xs ys : List (Bool × SuperFault)) → run_checks xs ≡ Ok tt → run_checks (xs ++ ys) ≡ run_checks ys
passed-append [] ys h = refl
passed-append ((true, fault) ∷ xs) ys h = passed-append xs ys h
passed-append ((false, fault) ∷ xs) ys h = absurd cc

failed-append : (xs ys : List (Bool × SuperFault)) (fault : SuperFault) → run_checks xs ≡ Err fault → run_checks (xs ++ ys) ≡ Err fault
failed-append [] ys fault h = absurd cc
failed-append ((true, _) ∷ xs) ys fault h = failed-append xs ys fault h
failed-append ((false, _) ∷ xs) ys fault h = h

-- The four groups of checks one after the other: the first that fails decides, and where none does, what the bytes say
-- is the answer.
pub identity_fails : (block : List ℕ) (blocks : ℕ) (fault : SuperFault) → run_checks (identity_checks block) ≡ Err fault → super_of block blocks ≡ Err fault
unfolding super_of
identity_fails block blocks fault h =
    let a = identity_checks block in let b = size_checks (geometry_in block) in let c = state_checks block in let d = room_checks (geometry_in block) blocks in
    ap (λ r. answer_after r (head_in block)) (failed-append (a ++ b ++ c) d fault (failed-append (a ++ b) c fault (failed-append a b fault h)))

pub sizes_fail : (block : List ℕ) (blocks : ℕ) (fault : SuperFault) → run_checks (identity_checks block) ≡ Ok tt
    → run_checks (size_checks (geometry_in block)) ≡ Err fault → super_of block blocks ≡ Err fault
unfolding super_of
sizes_fail block blocks fault identity h =
    let a = identity_checks block in let b = size_checks (geometry_in block) in let c = state_checks block in let d = room_checks (geometry_in block) blocks in
    ap (λ r. answer_after r (head_in block)) (failed-append (a ++ b ++ c) d fault (failed-append (a ++ b) c fault (passed-append a b identity ∙ h)))

pub state_fails : (block : List ℕ) (blocks : ℕ) (fault : SuperFault) → run_checks (identity_checks block) ≡ Ok tt
    → run_checks (size_checks (geometry_in block)) ≡ Ok tt → run_checks (state_checks block) ≡ Err fault → super_of block blocks ≡ Err fault
unfolding super_of
state_fails block blocks fault identity sizes h =
    let a = identity_checks block in let b = size_checks (geometry_in block) in let c = state_checks block in let d = room_checks (geometry_in block) blocks in
    ap (λ r. answer_after r (head_in block)) (failed-append (a ++ b ++ c) d fault (passed-append (a ++ b) c (passed-append a b identity ∙ sizes) ∙ h))

pub room_decides : (block : List ℕ) (blocks : ℕ) → run_checks (identity_checks block) ≡ Ok tt
    → run_checks (size_checks (geometry_in block)) ≡ Ok tt → run_checks (state_checks block) ≡ Ok tt
    → super_of block blocks ≡ answer_after (run_checks (room_checks (geometry_in block) blocks)) (head_in block)
unfolding super_of
room_decides block blocks identity sizes state =
    let a = identity_checks block in let b = size_checks (geometry_in block) in let c = state_checks block in let d = room_checks (geometry_in block) blocks in
    ap (λ r. answer_after r (head_in block)) (passed-append (a ++ b ++ c) d (passed-append (a ++ b) c (passed-append a b identity ∙ sizes) ∙ state))

-- bytes that say a head within its limits are accepted
pub head_accepted : (block : List ℕ) (blocks : ℕ) (head : Super) → run_checks (identity_checks block) ≡ Ok tt → run_checks (state_checks block) ≡ Ok tt
    → head_in block ≡ head → IsGeometry head.geometry → needed_blocks head.geometry ≤ blocks → super_of block blocks ≡ Ok head
head_accepted block blocks head identity state says sizes room =
    let says_sizes : geometry_in block ≡ head.geometry = ap (λ (h : Super). h.geometry) says in
    let sizes_passed : run_checks (size_checks (geometry_in block)) ≡ Ok tt = ap (λ g. run_checks (size_checks g)) says_sizes ∙ sizes_pass head.geometry sizes in
    let enough : nat_le (needed_blocks head.geometry) blocks ≡ true = le-leb (needed_blocks head.geometry) blocks room in
    let room_passed : run_checks (room_checks (geometry_in block) blocks) ≡ Ok tt = ap (λ g. run_checks (room_checks g blocks)) says_sizes ∙ rw enough refl in
    room_decides block blocks identity sizes_passed state ∙ ap (λ r. answer_after r (head_in block)) room_passed ∙ ap (λ h. Ok h) says

-- an error that is this one
pub same_error : (r : Result Super SuperFault) (fault : SuperFault) → IsErrAnd r (λ e. e ≡ fault) → r ≡ Err fault
same_error (Ok _) fault h = absurd h
same_error (Err e) fault h = ap (λ e. Err e) h

-- what lets the first and the third group pass
pub identity_passes : (begins : Bool) (version : ℕ) → begins ≡ true → version ≡ 1 → run_checks ((begins, NotAnImage) ∷ (version == 1, Version version) ∷ []) ≡ Ok tt
identity_passes begins version begins_so version_is = rw (begins_so, version_is) refl

pub state_passes : (clean start : ℕ) (gap rest : Bool) → clean ≤ 1 → gap ≡ true → 1 ≤ start → start < 2 ^ 54 → rest ≡ true
    → run_checks ((is_within 0 1 clean, BadField Clean) ∷ (gap, BadField Reserved) ∷ (nat_le 1 start && nat_lt start (2 ^ 54), BadField Start) ∷ (rest, BadField Reserved) ∷ []) ≡ Ok tt
state_passes clean start gap rest clean_small gap_so some below rest_so =
    let clean_so : is_within 0 1 clean ≡ true = within-passes 0 1 clean (omega arith) clean_small in
    let some_so : nat_le 1 start ≡ true = le-leb 1 start some in
    let below_so : nat_lt start (2 ^ 54) ≡ true = lt-ltb start (2 ^ 54) below in
    rw (clean_so, gap_so, some_so, below_so, rest_so) refl

pub zeros-pass : (n : ℕ) → is_zeros (replicate n 0) ≡ true
unfolding is_zeros
zeros-pass zero = refl
zeros-pass (suc n) = zeros-pass n
