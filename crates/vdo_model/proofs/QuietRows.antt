-- Quiet writes: for each clause a case that it accepts, and one that breaks it alone.
use Rattle.std.proofs.Common.{None, ℕ, zero, suc, ◌≡◌, ◌⊎◌, ◌+◌, ◌<◌, ◌≤◌, ◌++◌, true, Some, IsSome, List, [], ◌∷◌, Contains, length, refl, sym, ◌∙◌, ap, subst, inl, inr, arith}
use Rattle.std.proofs.lemmas.Bool.Decides.{eqb_tells}
use Rattle.blk_base.specs.Regions.{IsDataBlock}
use Rattle.blk_base.specs.declared.geometry.Geometry.{Geometry}
use Rattle.blk_base.specs.declared.place.Pbn.{Pbn}
use Rattle.blk_base.specs.declared.request.Answer.TheVariants as reply
use Rattle.blk_base.specs.declared.request.Writer.{Writer}
use Rattle.blk_base.specs.Forms.{pbn as block}
use Rattle.disk_model.specs.Images.{IsImage}
use Rattle.disk_model.specs.Log.{Blocks}
use Rattle.disk_model.specs.declared.call.Call.{Call}
use Rattle.disk_model.specs.declared.call.Call.TheVariants.{Flush}
use Rattle.vdo_model.proofs.Example.{of_a, of_b}
use Rattle.vdo_model.proofs.NameLaws.{same_tells}
use Rattle.vdo_model.specs.DeskLog.{answer_of, begun}
use Rattle.vdo_model.specs.QuietWrites.{AllBegunAreAnswered, AreUsedBut, IsFull, IsFullAtFirst, IsFullAtFlush, QuietRight, flush_and_write}
use Rattle.vdo_model.specs.declared.report.DeskLine.{DeskLine}
use Rattle.vdo_model.specs.declared.report.DeskLine.TheVariants.{Begin, Answer}
use Rattle.vdo_model.specs.declared.report.FlushMark.{FlushMark}
use Rattle.vdo_model.specs.declared.report.RunReport.{RunReport}

-- One slab of 64 data blocks, of which 79 and 80 are the first; trees of two levels.
abbrev small : Geometry
small = record { logical = 1000; slabs = 1; slab_blocks = 64; journal = 2; index = 16; slab_journal = 4; height = 2; nonce = 1 }

first_is_data : IsDataBlock small 79
first_is_data = record { slab = 0; offset = 0; inside = (omega arith, omega arith); stands = refl }

second_is_data : IsDataBlock small 80
second_is_data = record { slab = 0; offset = 1; inside = (omega arith, omega arith); stands = refl }

-- AllBegunAreAnswered: what was begun was answered
abbrev answered_one : List DeskLine
answered_one = Answer (of_a 0) reply.Ok ∷ Begin (of_a 0) ∷ []

all_answered : AllBegunAreAnswered answered_one
all_answered w begins = elim (same_tells (of_a 0) w) [
  | inl same ↦ rw same.0 refl
  | inr other ↦ absurd (other.1 (first_of w begins))
]
  where
    named : (w : Writer) → 0 ≡ w.stream → w.number ≡ 0 → of_a 0 ≡ w
    named w stream number = ap (λ (n : ℕ). record { stream = n; number = 0 }) stream ∙ ap (λ (n : ℕ). record { stream = w.stream; number = n }) (sym number)

    first_of : (w : Writer) → w.number < begun w.stream answered_one → of_a 0 ≡ w
    first_of w begins = elim (eqb_tells 0 w.stream) [
      | inl here ↦ let below : w.number < 1 = rw here.0 at begins in named w here.1 (omega (arith, below))
      | inr there ↦ absurd (let below : w.number < 0 = rw there.0 at begins in omega (arith, below))
    ]

one_is_open : AllBegunAreAnswered (Begin (of_b 0) ∷ answered_one) → ⊥
one_is_open all = let some = all (of_b 0) (omega arith) in absurd cc

-- AreUsedBut: each data block is used, but so many at most
abbrev Others : Pbn → Type 0
Others x = x.0 ≡ 79 → ⊥

all_but_one : AreUsedBut 1 small Others
all_but_one = record { others = block 79 ∷ []; at_most = omega arith; used = λ x is_data. elim (eqb_tells x.0 79) [ inl same ↦ inr (0, omega arith, ap (λ (n : ℕ). block n) (sym same.1)) | inr other ↦ inl other.1 ] }

none_unused : AreUsedBut 0 small Others → ⊥
none_unused are = elim (are.used (block 79) first_is_data) [
  | inl used ↦ used refl
  | inr other ↦ let few = are.at_most in let low = other.1 in absurd (omega (arith, few, low))
]

-- two blocks are more than one
abbrev Neither : Pbn → Type 0
Neither x = ⊥

two_are_more : AreUsedBut 1 small Neither → ⊥
two_are_more are = elim (are.used (block 79) first_is_data) [
  | inl used ↦ used
  | inr first ↦ elim (are.used (block 80) second_is_data) [
    | inl used ↦ used
    | inr second ↦ by are.others are.at_most first second
  ]
]
  where
    by : (xs : List Pbn) → length xs ≤ 1 → Contains xs (block 79) → Contains xs (block 80) → ⊥
    by [] few first second = absurd (let low = first.1 in omega (arith, low))
    by (x ∷ []) few (zero, low, is) (zero, low', is') = let one = ap (λ (p : Pbn). p.0) (sym is ∙ is') in absurd (omega (arith, one))
    by (x ∷ []) few (suc i, low, is) second = absurd (omega (arith, low))
    by (x ∷ []) few first (suc i, low, is) = absurd (omega (arith, low))
    by (x ∷ y ∷ xs) few first second = absurd (omega (arith, few))

-- IsFull: as many as a path has pages that are no roots
full_but_a_page : IsFull small Others
full_but_a_page = all_but_one

not_full_without_pages : IsFull (record small { height = 1 }) Others → ⊥
not_full_without_pages full = elim (full.used (block 79) (record { slab = 0; offset = 0; inside = (omega arith, omega arith); stands = refl })) [
  | inl used ↦ used refl
  | inr other ↦ let few = full.at_most in let low = other.1 in absurd (omega (arith, few, low))
]

-- IsFullAtFlush: a flush, and a write that found no space; the device was flushed for it.
abbrev mark : FlushMark
mark = record { request = of_a 0; calls = 1 }

abbrev report : List DeskLine → List FlushMark → RunReport
report desk marks = record { requests = []; desk = desk; marks = marks; receipts = []; places = []; histories = []; damage = None; used = 0; total = 0 }

abbrev AtFlush : (Blocks → Pbn → Type 0) → List DeskLine → List FlushMark → Type 0
AtFlush IsUsed desk marks = IsFullAtFlush IsUsed small [] [] (report desk marks) (Flush true ∷ [])

full_at_flush : AtFlush (λ image x. Others x) (flush_and_write mark (of_a 1) []) (mark ∷ [])
full_at_flush newer older f w said quiet marked later prefix parts size image is = all_but_one

-- no image may be less full
abbrev no_image : IsImage [] (Flush true ∷ []) []
no_image = record { size = refl; whole = λ b below. absurd (omega (arith, below)); sectors = λ b below. absurd (omega (arith, below)) }

not_full_at_flush : AtFlush (λ image x. Neither x) (flush_and_write mark (of_a 1) []) (mark ∷ []) → ⊥
not_full_at_flush full = two_are_more (full [] [] mark (of_a 1) refl (λ w begins. absurd (omega (arith, begins))) (0, omega arith, refl) [] (Flush true ∷ []) refl refl [] no_image)

-- where another request is under way, or the flush has no mark, nothing is said
said_of_quiet_ones : AtFlush (λ image x. Neither x) (flush_and_write mark (of_a 1) (Begin (of_b 0) ∷ [])) (mark ∷ [])
said_of_quiet_ones newer older f w said quiet marked later prefix parts size image is = absurd (by newer said)
  where
    none : (newer : List DeskLine) → ◌≡◌ {A = List DeskLine} [] (newer ++ flush_and_write f w older) → ⊥
    none [] is = absurd cc
    none (l ∷ newer) is = absurd cc

    by : (newer : List DeskLine) → flush_and_write mark (of_a 1) (Begin (of_b 0) ∷ []) ≡ newer ++ flush_and_write f w older → ⊥
    by [] said =
        let rest : Begin (of_b 0) ∷ [] ≡ older = cc in
        let some = subst AllBegunAreAnswered (sym rest) quiet (of_b 0) (omega arith) in absurd cc
    by (a ∷ []) said = absurd cc
    by (a ∷ b ∷ []) said = absurd cc
    by (a ∷ b ∷ c ∷ []) said = absurd cc
    by (a ∷ b ∷ c ∷ d ∷ []) said = absurd cc
    by (a ∷ b ∷ c ∷ d ∷ e ∷ newer) said = absurd (none newer cc)

said_of_marked_ones : AtFlush (λ image x. Neither x) (flush_and_write mark (of_a 1) []) []
said_of_marked_ones newer older f w said quiet marked later prefix parts size image is = absurd (let low = marked.1 in omega (arith, low))

-- IsFullAtFirst: the first request of all is a write that found no space
abbrev AtFirst : (Blocks → Pbn → Type 0) → List DeskLine → Type 0
AtFirst IsUsed desk = IsFullAtFirst IsUsed small [] [] (report desk [])

full_at_first : AtFirst (λ image x. Others x) (Answer (of_a 0) reply.NoSpace ∷ Begin (of_a 0) ∷ [])
full_at_first newer w said image is = all_but_one

not_full_at_first : AtFirst (λ image x. Neither x) (Answer (of_a 0) reply.NoSpace ∷ Begin (of_a 0) ∷ []) → ⊥
not_full_at_first full = two_are_more (full [] (of_a 0) refl [] (record { size = refl; whole = λ b below. absurd (omega (arith, below)); sectors = λ b below. absurd (omega (arith, below)) }))

-- nothing of one that found space
said_of_no_space : AtFirst (λ image x. Neither x) answered_one
said_of_no_space newer w said image is = absurd (by newer said)
  where
    none : (newer : List DeskLine) → ◌≡◌ {A = List DeskLine} [] (newer ++ Answer w reply.NoSpace ∷ Begin w ∷ []) → ⊥
    none [] is = absurd cc
    none (l ∷ newer) is = absurd cc

    by : (newer : List DeskLine) → answered_one ≡ newer ++ Answer w reply.NoSpace ∷ Begin w ∷ [] → ⊥
    by [] said = absurd cc
    by (l ∷ []) said = absurd cc
    by (l ∷ m ∷ newer) said = absurd (none newer cc)
