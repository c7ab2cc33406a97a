-- Notes of answers and places: for each clause a note that it takes and one that it refuses.
use Rattle.std.proofs.Common.{zero, suc, List, [], ◌∷◌, Some, None, refl, arith}
use Rattle.blk_base.specs.declared.request.Answer.TheVariants as reply
use Rattle.blk_base.specs.Forms.{writer}
use Rattle.vdo_model.specs.declared.report.DeskLine.{DeskLine}
use Rattle.vdo_model.specs.declared.report.DeskLine.TheVariants.{Begin, Answer}
use Rattle.vdo_model.specs.declared.report.Placed.{Placed}
use Rattle.vdo_model.specs.Notes.{IsNewestAnswer, NotesAnswer, NotesAnswers, NotesPlaces}

-- the first request is begun, answered Stopped and answered Ok; the second has no answer
abbrev lines : List DeskLine
lines = Begin (writer 3 0) ∷ Answer (writer 3 0) reply.Stopped ∷ Answer (writer 3 0) reply.Ok ∷ []

abbrev older : List DeskLine
older = Answer (writer 3 0) reply.Ok ∷ Answer (writer 3 0) reply.Stopped ∷ Begin (writer 3 0) ∷ []

newest : IsNewestAnswer lines older (writer 3 0) 2
newest = record { by = writer 3 0; answer = reply.Ok; there = refl; newest = refl }

-- there: line 0 answers nothing
begin_is_none : IsNewestAnswer lines older (writer 3 0) 0 → ⊥
begin_is_none note = absurd (let there = note.there in cc)

-- newest: line 1 answers the request, and line 2 answers it later
older_is_none : IsNewestAnswer lines older (writer 3 0) 1 → ⊥
older_is_none note = absurd (let there = note.there in let newest = note.newest in cc)

noted : NotesAnswer lines older (writer 3 0) (Some 2)
noted = newest

noted_late : NotesAnswer lines older (writer 3 0) (Some 1) → ⊥
noted_late = older_is_none

not_noted : NotesAnswer lines older (writer 3 1) None
not_noted = refl

answered_not_noted : NotesAnswer lines older (writer 3 0) None → ⊥
answered_not_noted note = absurd cc

all_noted : NotesAnswers lines older 3 (Some 2 ∷ None ∷ [])
all_noted zero within = newest
all_noted (suc zero) within = refl
all_noted (suc (suc n)) within = absurd (omega arith)

-- of stream 4 there is no answer
other_noted : NotesAnswers lines older 4 (Some 2 ∷ []) → ⊥
other_noted notes = absurd (let newest = (notes 0 (omega arith)).newest in cc)

abbrev placed : Placed
placed = record { request = writer 3 0; zone = 1; place = 7 }

place_noted : NotesPlaces (placed ∷ []) 3 (Some placed ∷ None ∷ [])
place_noted zero within = refl
place_noted (suc zero) within = refl
place_noted (suc (suc n)) within = absurd (omega arith)

place_missed : NotesPlaces (placed ∷ []) 3 (None ∷ []) → ⊥
place_missed notes = absurd (let place = notes 0 (omega arith) in cc)
