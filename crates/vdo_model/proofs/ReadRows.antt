-- Right reads: which entry of a history a read sees, and reads that are right and wrong.
use Rattle.std.proofs.Common.{ℕ, ◌≡◌, true, false, List, [], ◌∷◌, Some, None, refl, arith}
use Rattle.blk_base.specs.Sectors.{zero_block, filled_block as block}
use Rattle.blk_base.specs.declared.place.Lba.{Lba}
use Rattle.blk_base.specs.declared.request.Answer.TheVariants as reply
use Rattle.blk_base.specs.declared.request.Request.TheVariants.{Read, Discard}
use Rattle.blk_base.specs.declared.request.Writer.{Writer}
use Rattle.blk_base.specs.Forms.{lba as address}
use Rattle.vdo_model.specs.declared.report.DeskLine.{DeskLine}
use Rattle.vdo_model.specs.declared.report.DeskLine.TheVariants.{Answer}
use Rattle.vdo_model.specs.declared.report.Mark.{Mark}
use Rattle.vdo_model.specs.declared.report.Mark.TheVariants.{Settled, Unsettled, Refused}
use Rattle.vdo_model.specs.declared.report.Placed.{Placed}
use Rattle.vdo_model.specs.Scripts.{request_at}
use Rattle.vdo_model.specs.DeskLog.{answer_of}
use Rattle.vdo_model.specs.Places.{place_of, placed}
use Rattle.vdo_model.specs.Histories.{history_of}
use Rattle.vdo_model.specs.RightReads.{is_below, value_below, ReadsRight}
use Rattle.vdo_model.proofs.Example.{of_a, of_b, blocks_tell, script, first_lines, desk, first_places, places, entry, histories, each_request, openings}

-- is_below: a lower place, not the same one, and not where there is none
lower : is_below (Some (placed (of_a 2) 0 2)) 3 ≡ true
lower = refl

same_place : is_below (Some (placed (of_a 2) 0 2)) 2 ≡ false
same_place = refl

no_place : is_below None 2 ≡ false
no_place = refl

-- value_below, of address 1: a wrote it at place 0, and again at place 2 with this mark
abbrev value_at : Mark → ℕ → List ℕ → List ℕ
value_at mark n opening = value_below script places opening (entry 1 (of_a 2) mark ∷ entry 1 (of_a 0) Settled ∷ []) n

-- the last settled one below the place
last_settled : (opening : List ℕ) → value_at Settled 3 opening ≡ block 2
last_settled opening = refl

-- not one at the place or above it
not_higher : (opening : List ℕ) → value_at Settled 2 opening ≡ block 1
not_higher opening = refl

-- before all of them the opening value
before_all : (opening : List ℕ) → value_at Settled 0 opening ≡ opening
before_all opening = refl

-- not an unsettled one, nor a refused one
not_unsettled : (opening : List ℕ) → value_at Unsettled 3 opening ≡ block 1
not_unsettled opening = refl

not_refused : (opening : List ℕ) → value_at Refused 3 opening ≡ block 1
not_refused opening = refl

-- not one without a place
not_unplaced : (opening : List ℕ) → value_below script first_places opening (entry 1 (of_a 2) Settled ∷ []) 3 ≡ opening
not_unplaced opening = refl

-- a discard leaves zeros
after_discard : (opening : List ℕ) → value_below ((Discard (address 1) ∷ []) ∷ []) first_places opening (entry 1 (of_a 0) Settled ∷ []) 1 ≡ zero_block
after_discard opening = refl

-- Right reads: the read of b, at place 1, gives what a wrote at place 0.

-- every read of the script is that one
only_read : (desk : List DeskLine) (places : List Placed) (value : Lba → ℕ → List ℕ)
    → ((bytes : List ℕ) (p : Placed) → answer_of desk (of_b 1) ≡ Some (reply.Bytes bytes) → place_of places (of_b 1) ≡ Some p → bytes ≡ value (address 1) p.place)
    → (w : Writer) (at : Lba) (bytes : List ℕ) (p : Placed)
    → request_at script w ≡ Some (Read at) → answer_of desk w ≡ Some (reply.Bytes bytes) → place_of places w ≡ Some p → bytes ≡ value at p.place
only_read desk places value right w at bytes p is =
    each_request (λ w. request_at script w ≡ Some (Read at) → answer_of desk w ≡ Some (reply.Bytes bytes) → place_of places w ≡ Some p → bytes ≡ value at p.place)
    (λ is answered has. absurd cc) (λ is answered has. absurd cc) (λ is answered has. absurd cc) (λ is answered has. absurd cc)
    (λ is answered has. let at_is : address 1 ≡ at = cc in rw (← at_is) (right bytes p answered has))
    (λ is answered has. absurd cc)
    w (rw is refl) is

pub run_reads_right : (opening : ℕ → List ℕ) → ReadsRight opening script desk places histories
run_reads_right opening = only_read desk places (λ at n. value_below script places (opening at.0) (history_of histories at.0) n) right
  where
    right : (bytes : List ℕ) (p : Placed) → answer_of desk (of_b 1) ≡ Some (reply.Bytes bytes) → place_of places (of_b 1) ≡ Some p
        → bytes ≡ value_below script places (opening 1) (history_of histories 1) p.place
    right bytes p answered has =
        let bytes_are : block 1 ≡ bytes = cc in
        let p_is : placed (of_b 1) 0 1 ≡ p = cc in
        rw (← bytes_are, ← p_is) refl

-- the desk log with another answer of the read
abbrev reads : List ℕ → List DeskLine
reads bytes = Answer (of_b 1) (reply.Bytes bytes) ∷ first_lines

-- it doesn't give what a writes later, nor what b wrote to the other address, nor the opening value
reads_later_value : (opening : ℕ → List ℕ) → ReadsRight opening script (reads (block 2)) places histories → ⊥
reads_later_value opening right =
    let same = blocks_tell 2 1 (right (of_b 1) (address 1) (block 2) (placed (of_b 1) 0 1) refl refl refl) in omega (arith, same)

reads_other_address : (opening : ℕ → List ℕ) → ReadsRight opening script (reads (block 3)) places histories → ⊥
reads_other_address opening right =
    let same = blocks_tell 3 1 (right (of_b 1) (address 1) (block 3) (placed (of_b 1) 0 1) refl refl refl) in omega (arith, same)

-- Before the first write it gives what the address had before the run, and not what another address had.
abbrev read_first : List Placed
read_first = placed (of_a 0) 0 1 ∷ placed (of_b 1) 0 0 ∷ []

reads_opening_value : ReadsRight openings script (reads (block 11)) read_first histories
reads_opening_value = only_read (reads (block 11)) read_first (λ at n. value_below script read_first (openings at.0) (history_of histories at.0) n) right
  where
    right : (bytes : List ℕ) (p : Placed) → answer_of (reads (block 11)) (of_b 1) ≡ Some (reply.Bytes bytes) → place_of read_first (of_b 1) ≡ Some p
        → bytes ≡ value_below script read_first (openings 1) (history_of histories 1) p.place
    right bytes p answered has =
        let bytes_are : block 11 ≡ bytes = cc in
        let p_is : placed (of_b 1) 0 0 ≡ p = cc in
        rw (← bytes_are, ← p_is) refl

reads_opening_of_other : ReadsRight openings script (reads (block 10)) read_first histories → ⊥
reads_opening_of_other right =
    let same = blocks_tell 10 11 (right (of_b 1) (address 1) (block 10) (placed (of_b 1) 0 0) refl refl refl) in omega (arith, same)
