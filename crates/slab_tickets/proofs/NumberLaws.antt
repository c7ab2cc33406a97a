-- The tickets of a desk by their numbers: which is out, and what went to it, behind each call.
use Rattle.std.specs.Prelude.{ℕ, zero, suc, ◌≡◌, ◌+◌, ◌<◌, ◌≤◌, ◌==◌, not, Bool, true, false, cond, List, [], ◌∷◌, ◌++◌, length, Option, None, Some, slice_get, slice_set, is_some}
use Rattle.std.specs.List.{remove, position}
use Rattle.std.proofs.Common.{refl, ap, sym, ◌∙◌, subst, arith, get_or}
use Rattle.std.proofs.lemmas.Bool.{eqb-true, eq-eqb, ne_eqb, eqb-false, false≢true}
use Rattle.std.proofs.lemmas.List.Quantifiers.{position-Some}
use Rattle.std.proofs.lemmas.Option.{same_Some, slice_get_read}
use Rattle.blk_base.specs.declared.place.Pbn.{Pbn}
use Rattle.blk_base.specs.declared.request.Writer.{Writer}
use Rattle.plain_laws.proofs.FirstLaws.{find-nowhere, find-none}
use Rattle.slab_counts.specs.declared.tickets.Ticket.{Ticket}
use Rattle.slab_tickets.specs.Tickets.{Desk, Gives, Withdraws, Issues, NoneWaits, IsOutAt, begun, empty_desk, is_served}
use Rattle.slab_tickets.specs.Numbers.{ticket_of, AreRising, AreNumbered}
use Rattle.slab_tickets.specs.Operations.{Operation, Begins, Issued, Given, Withdrawn', Does}
use Rattle.slab_tickets.specs.declared.forms.Waiting.{Waiting}
use Rattle.slab_tickets.specs.declared.forms.Withdrawn.{Withdrawn}

abbrev Cell : Type 0
Cell = Option (Option Pbn)

abbrev chosen : Bool → Cell → Cell → Cell
chosen b x y = cond b x y

pub out_read : (ws : List Waiting) (k : ℕ) (w : Waiting) → k < length ws → get_or ws k w ≡ w → slice_get ws k ≡ Some w
out_read ws k w below is = slice_get_read ws (length ws) k w refl below (sym is)

pub unserved : (w : Waiting) → not (is_served w) ≡ true → w.block ≡ None
unserved w is = by_block w.block is
  where
    by_block : (o : Option Pbn) → not (is_some o) ≡ true → o ≡ None
    by_block None is = refl
    by_block (Some b) is = absurd cc

-- two changes of a value
twice : (a : Bool) (x y : Cell) (z : Cell) → chosen a x (chosen a y z) ≡ chosen a x z
twice true x y z = refl
twice false x y z = refl

swapped : (a b : Bool) (x y z : Cell) → (a ≡ true → b ≡ true → ⊥) → chosen a x (chosen b y z) ≡ chosen b y (chosen a x z)
swapped true true x y z apart = absurd (apart refl refl)
swapped true false x y z apart = refl
swapped false b x y z apart = refl

apart : (m n k : ℕ) → m < n → (m == k) ≡ true → (n == k) ≡ true → ⊥
apart m n k less is is' = omega (arith, less, eqb-true m k is, eqb-true n k is')

-- what rises
pub rising_low : (low low' : ℕ) (ws : List Waiting) (next : ℕ) → low' ≤ low → AreRising low ws next → AreRising low' ws next
rising_low low low' [] next le rises = omega (arith, le, rises)
rising_low low low' (w ∷ ws) next le rises = (omega (arith, le, rises.0), rises.1)

pub rising_next : (low : ℕ) (ws : List Waiting) (next : ℕ) → AreRising low ws next → low ≤ next
rising_next low [] next rises = rises
rising_next low (w ∷ ws) next rises = omega (arith, rises.0, rising_next (suc w.number) ws next rises.1)

not_here : (low : ℕ) (ws : List Waiting) (next k : ℕ) → AreRising low ws next → k < low → ticket_of ws k ≡ None
not_here low [] next k rises below = refl
not_here low (w ∷ ws) next k rises below =
    ap (λ (b : Bool). chosen b (Some w.block) (ticket_of ws k)) (ne_eqb w.number k (λ (same : w.number ≡ k). absurd (omega (arith, rises.0, below, same))))
    ∙ not_here (suc w.number) ws next k rises.1 (omega (arith, rises.0, below))

-- the one at a place
low_at : (low : ℕ) (ws : List Waiting) (next i : ℕ) (w : Waiting) → AreRising low ws next → slice_get ws i ≡ Some w → low ≤ w.number
low_at low [] next i w rises had = absurd cc
low_at low (y ∷ ws) next zero w rises had = omega (arith, rises.0, ap (λ (u : Waiting). u.number) (same_Some _ _ had))
low_at low (y ∷ ws) next (suc i) w rises had = omega (arith, rises.0, low_at (suc y.number) ws next i w rises.1 had)

pub of_place : (low : ℕ) (ws : List Waiting) (next i : ℕ) (w : Waiting) → AreRising low ws next → slice_get ws i ≡ Some w → ticket_of ws w.number ≡ Some w.block
of_place low [] next i w rises had = absurd cc
of_place low (y ∷ ws) next zero w rises had =
    let same : y ≡ w = same_Some _ _ had in
    ap (λ (b : Bool). chosen b (Some y.block) (ticket_of ws w.number)) (eq-eqb y.number w.number (ap (λ (u : Waiting). u.number) same)) ∙ ap (λ (u : Waiting). Some u.block) same
of_place low (y ∷ ws) next (suc i) w rises had =
    let above = low_at (suc y.number) ws next i w rises.1 had in
    ap (λ (b : Bool). chosen b (Some y.block) (ticket_of ws w.number)) (ne_eqb y.number w.number (λ (same : y.number ≡ w.number). absurd (omega (arith, above, same))))
    ∙ of_place (suc y.number) ws next i w rises.1 had

-- a block goes to the one at a place
pub ticket_set : (low : ℕ) (ws : List Waiting) (next i : ℕ) (w : Waiting) (o : Option Pbn) (k : ℕ) → AreRising low ws next → slice_get ws i ≡ Some w
    → ticket_of (slice_set ws i (record w { block = o })) k ≡ chosen (w.number == k) (Some o) (ticket_of ws k)
ticket_set low [] next i w o k rises had = absurd cc
ticket_set low (y ∷ ws) next zero w o k rises had =
    let same : y ≡ w = same_Some _ _ had in
    sym (ap (λ (u : Waiting). chosen (w.number == k) (Some o) (chosen (u.number == k) (Some u.block) (ticket_of ws k))) same ∙ twice (w.number == k) (Some o) (Some w.block) (ticket_of ws k))
ticket_set low (y ∷ ws) next (suc i) w o k rises had =
    let above = low_at (suc y.number) ws next i w rises.1 had in
    ap (λ (c : Cell). chosen (y.number == k) (Some y.block) c) (ticket_set (suc y.number) ws next i w o k rises.1 had)
    ∙ swapped (y.number == k) (w.number == k) (Some y.block) (Some o) (ticket_of ws k) (apart y.number w.number k (omega (arith, above)))

pub rising_set : (low : ℕ) (ws : List Waiting) (next i : ℕ) (w : Waiting) (o : Option Pbn) → AreRising low ws next → slice_get ws i ≡ Some w → AreRising low (slice_set ws i (record w { block = o })) next
rising_set low [] next i w o rises had = rises
rising_set low (y ∷ ws) next zero w o rises had = subst (λ (u : Waiting). (low ≤ u.number) × AreRising (suc u.number) ws next) (same_Some _ _ had) rises
rising_set low (y ∷ ws) next (suc i) w o rises had = (rises.0, rising_set (suc y.number) ws next i w o rises.1 had)

-- the one at a place is taken out
pub ticket_removed : (low : ℕ) (ws : List Waiting) (next i : ℕ) (w : Waiting) (k : ℕ) → AreRising low ws next → slice_get ws i ≡ Some w → ticket_of (remove ws i) k ≡ chosen (w.number == k) None (ticket_of ws k)
ticket_removed low [] next i w k rises had = absurd cc
ticket_removed low (y ∷ ws) next zero w k rises had =
    let same : y ≡ w = same_Some _ _ had in
    let gone : (b : Bool) → (w.number == k) ≡ b → ticket_of ws k ≡ chosen b None (chosen b (Some y.block) (ticket_of ws k)) = by_here same in
    gone (w.number == k) refl ∙ ap (λ (u : Waiting). chosen (w.number == k) None (chosen (u.number == k) (Some y.block) (ticket_of ws k))) (sym same)
  where
    by_here : y ≡ w → (b : Bool) → (w.number == k) ≡ b → ticket_of ws k ≡ chosen b None (chosen b (Some y.block) (ticket_of ws k))
    by_here same true is = not_here (suc y.number) ws next k rises.1 (omega (arith, eqb-true w.number k is, ap (λ (u : Waiting). u.number) same))
    by_here same false is = refl
ticket_removed low (y ∷ ws) next (suc i) w k rises had =
    let above = low_at (suc y.number) ws next i w rises.1 had in
    ap (λ (c : Cell). chosen (y.number == k) (Some y.block) c) (ticket_removed (suc y.number) ws next i w k rises.1 had)
    ∙ swapped (y.number == k) (w.number == k) (Some y.block) None (ticket_of ws k) (apart y.number w.number k (omega (arith, above)))

pub rising_removed : (low : ℕ) (ws : List Waiting) (next i : ℕ) (w : Waiting) → AreRising low ws next → slice_get ws i ≡ Some w → AreRising low (remove ws i) next
rising_removed low [] next i w rises had = absurd cc
rising_removed low (y ∷ ws) next zero w rises had = rising_low (suc y.number) low ws next (omega (arith, rises.0)) rises.1
rising_removed low (y ∷ ws) next (suc i) w rises had = (rises.0, rising_removed (suc y.number) ws next i w rises.1 had)

-- one more is issued
pub ticket_issued : (low : ℕ) (ws : List Waiting) (w : Waiting) (k : ℕ) → AreRising low ws w.number → ticket_of (ws ++ w ∷ []) k ≡ chosen (w.number == k) (Some w.block) (ticket_of ws k)
ticket_issued low [] w k rises = refl
ticket_issued low (y ∷ ws) w k rises =
    let above = rising_next (suc y.number) ws w.number rises.1 in
    ap (λ (c : Cell). chosen (y.number == k) (Some y.block) c) (ticket_issued (suc y.number) ws w k rises.1)
    ∙ swapped (y.number == k) (w.number == k) (Some y.block) (Some w.block) (ticket_of ws k) (apart y.number w.number k (omega (arith, above)))

pub rising_issued : (low : ℕ) (ws : List Waiting) (w : Waiting) → AreRising low ws w.number → AreRising low (ws ++ w ∷ []) (w.number + 1)
rising_issued low [] w rises = (rises, omega arith)
rising_issued low (y ∷ ws) w rises = (rises.0, rising_issued (suc y.number) ws w rises.1)

-- one that waits stands at a place
pub record WaitsAt (ws : List Waiting) (k : ℕ) : Type 0 where
  pub place : ℕ
  pub waiting : Waiting
  pub had : slice_get ws place ≡ Some waiting
  pub number : waiting.number ≡ k
  pub none : waiting.block ≡ None

pub waits_at : (ws : List Waiting) (k : ℕ) → ticket_of ws k ≡ Some None → WaitsAt ws k
waits_at [] k waits = absurd cc
waits_at (w ∷ ws) k waits = by_here (w.number == k) refl waits (waits_at ws k)
  where
    by_here : (b : Bool) → (w.number == k) ≡ b → chosen b (Some w.block) (ticket_of ws k) ≡ Some None → (ticket_of ws k ≡ Some None → WaitsAt ws k) → WaitsAt (w ∷ ws) k
    by_here true is waits behind = record { place = zero; waiting = w; had = refl; number = eqb-true w.number k is; none = same_Some _ _ waits }
    by_here false is waits behind = let r = behind waits in record { place = suc r.place; waiting = r.waiting; had = r.had; number = r.number; none = r.none }

-- the places rise with the numbers
pub in_order : (low : ℕ) (ws : List Waiting) (next i j : ℕ) (u w : Waiting) → AreRising low ws next → slice_get ws i ≡ Some u → slice_get ws j ≡ Some w → u.number < w.number → i < j
in_order low [] next i j u w rises had had' less = absurd cc
in_order low (y ∷ ws) next zero zero u w rises had had' less = omega (arith, less, ap (λ (v : Waiting). v.number) (sym (same_Some _ _ had) ∙ same_Some _ _ had'))
in_order low (y ∷ ws) next zero (suc j) u w rises had had' less = omega arith
in_order low (y ∷ ws) next (suc i) zero u w rises had had' less =
    omega (arith, less, low_at (suc y.number) ws next i u rises.1 had, ap (λ (v : Waiting). v.number) (same_Some _ _ had'))
in_order low (y ∷ ws) next (suc i) (suc j) u w rises had had' less = omega (arith, in_order (suc y.number) ws next i j u w rises.1 had had' less)

pub get_read : (ws : List Waiting) (i : ℕ) (w : Waiting) → slice_get ws i ≡ Some w → (i < length ws) × (get_or ws i w ≡ w)
get_read [] i w had = absurd cc
get_read (y ∷ ws) zero w had = (omega arith, same_Some _ _ had)
get_read (y ∷ ws) (suc i) w had = let r = get_read ws i w had in (omega (arith, r.0), r.1)

waiting_unserved : (w : Waiting) → w.block ≡ None → not (is_served w) ≡ true
waiting_unserved w none = ap (λ (o : Option Pbn). not (is_some o)) none

-- where none waits, no ticket waits
pub none_waits : (desk : Desk) (k : ℕ) → NoneWaits desk → ticket_of desk.out k ≡ Some None → ⊥
none_waits desk k none waits =
    let at = waits_at desk.out k waits in
    let r = get_read desk.out at.place at.waiting at.had in
    let test : Waiting → Bool = λ w. not (is_served w) in
    let served = find-none test desk.out (find-nowhere test desk.out none) at.place at.waiting r.0 in
    false≢true (sym served ∙ ap test r.1 ∙ waiting_unserved at.waiting at.none)

-- the one that gets a block is the oldest that waits
pub gives_oldest : (old new : Desk) (block : Pbn) (low : ℕ) (did : Gives old new block) → AreRising low old.out old.issued
    → (ticket_of old.out did.waiting.number ≡ Some None) × ((k : ℕ) → k < did.waiting.number → ticket_of old.out k ≡ Some None → ⊥)
gives_oldest old new block low did rises =
    let test : Waiting → Bool = λ w. not (is_served w) in
    let p = position-Some test old.out did.place did.waiting did.oldest in
    let read = out_read old.out did.place did.waiting p.0 did.is in
    let none = unserved did.waiting (subst (λ (w : Waiting). test w ≡ true) did.is p.1) in (
      of_place low old.out old.issued did.place did.waiting rises read ∙ ap (λ (o : Option Pbn). Some o) none,
      λ k less waits.
          let at = waits_at old.out k waits in
          let r = get_read old.out at.place at.waiting at.had in
          let before = in_order low old.out old.issued at.place did.place at.waiting did.waiting rises at.had read (omega (arith, less, at.number)) in
          let served = p.2 at.place before in
          let q = position-Some test old.out did.place at.waiting did.oldest in
          false≢true (sym (q.2 at.place before) ∙ ap test r.1 ∙ waiting_unserved at.waiting at.none),
    )

-- the changes of a desk by its calls
pub gives_tickets : (old new : Desk) (block : Pbn) (did : Gives old new block) → AreRising 0 old.out old.issued
    → ((k : ℕ) → ticket_of new.out k ≡ chosen (did.waiting.number == k) (Some (Some block)) (ticket_of old.out k)) × AreRising 0 new.out new.issued × (new.issued ≡ old.issued)
gives_tickets old new block did rises =
    let test : Waiting → Bool = λ w. not (is_served w) in
    let p = position-Some test old.out did.place did.waiting did.oldest in
    let read = out_read old.out did.place did.waiting p.0 did.is in (
      λ k. ap (λ (d : Desk). ticket_of d.out k) did.after ∙ ticket_set 0 old.out old.issued did.place did.waiting (Some block) k rises read,
      subst (λ (d : Desk). AreRising 0 d.out d.issued) (sym did.after) (rising_set 0 old.out old.issued did.place did.waiting (Some block) rises read),
      ap (λ (d : Desk). d.issued) did.after,
    )

pub withdraws_tickets : (old new : Desk) (ticket : Ticket) (result : Withdrawn) (did : Withdraws old new ticket result) → AreRising 0 old.out old.issued
    → ((k : ℕ) → ticket_of new.out k ≡ chosen (ticket.number == k) None (ticket_of old.out k)) × AreRising 0 new.out new.issued × (new.issued ≡ old.issued) × (ticket_of old.out ticket.number ≡ Some did.waiting.block)
withdraws_tickets old new ticket result did rises =
    let test : Waiting → Bool = λ w. w.number == ticket.number in
    let p = position-Some test old.out did.place did.waiting did.here in
    let read = out_read old.out did.place did.waiting p.0 did.is in
    let number : did.waiting.number ≡ ticket.number = eqb-true _ _ (subst (λ (w : Waiting). test w ≡ true) did.is p.1) in (
      λ k. ap (λ (d : Desk). ticket_of d.out k) did.after ∙ ticket_removed 0 old.out old.issued did.place did.waiting k rises read ∙ ap (λ (n : ℕ). chosen (n == k) None (ticket_of old.out k)) number,
      subst (λ (d : Desk). AreRising 0 d.out d.issued) (sym did.after) (rising_removed 0 old.out old.issued did.place did.waiting rises read),
      ap (λ (d : Desk). d.issued) did.after,
      ap (ticket_of old.out) (sym number) ∙ of_place 0 old.out old.issued did.place did.waiting rises read,
    )

pub issues_tickets : (old new : Desk) (writer : Writer) (ticket : Ticket) (did : Issues old new writer ticket) → AreRising 0 old.out old.issued
    → ((k : ℕ) → ticket_of new.out k ≡ chosen (ticket.number == k) (Some None) (ticket_of old.out k)) × AreRising 0 new.out new.issued × (new.issued ≡ old.issued + 1)
issues_tickets old new writer ticket did rises =
    let one : Waiting = record { number = ticket.number; asked = ticket.asked; writer = writer; block = None } in
    let rises' : AreRising 0 old.out ticket.number = subst (λ (n : ℕ). AreRising 0 old.out n) (sym did.number) rises in (
      λ k. ap (λ (d : Desk). ticket_of d.out k) did.after ∙ ticket_issued 0 old.out one k rises',
      subst (λ (d : Desk). AreRising 0 d.out d.issued) (sym did.after) (subst (λ (n : ℕ). AreRising 0 (old.out ++ one ∷ []) (n + 1)) did.number (rising_issued 0 old.out one rises')),
      ap (λ (d : Desk). d.issued) did.after,
    )

-- over each call the numbers stay so
numbered_as : (new made : Desk) → new ≡ made → AreNumbered made → AreNumbered new
numbered_as new made is numbered = subst (λ (d : Desk). AreNumbered d) (sym is) numbered

pub call_numbers : (call : Operation) (old new : Desk) → AreNumbered old → Does call old new → AreNumbered new
call_numbers (Begins true step) old new numbered did = numbered_as new (begun true step old) did.2 numbered
call_numbers (Begins false step) old new numbered did = numbered_as new (begun false step old) did.1 numbered
call_numbers (Issued writer ticket) old new numbered did = (issues_tickets old new writer ticket did.1 numbered).1
call_numbers (Given block) old new numbered did = (gives_tickets old new block did numbered).1
call_numbers (Withdrawn' ticket result) old new numbered did = (withdraws_tickets old new ticket result did numbered).1

pub opened_numbers : (zone room : ℕ) → AreNumbered (empty_desk zone room)
opened_numbers zone room = omega arith

-- a number is that of one place
pub same_place : (low : ℕ) (ws : List Waiting) (next i j : ℕ) (u w : Waiting) → AreRising low ws next → slice_get ws i ≡ Some u → slice_get ws j ≡ Some w → u.number ≡ w.number → i ≡ j
same_place low [] next i j u w rises had had' same = absurd cc
same_place low (y ∷ ws) next zero zero u w rises had had' same = refl
same_place low (y ∷ ws) next zero (suc j) u w rises had had' same =
    absurd (omega (arith, same, low_at (suc y.number) ws next j w rises.1 had', ap (λ (v : Waiting). v.number) (same_Some _ _ had)))
same_place low (y ∷ ws) next (suc i) zero u w rises had had' same =
    absurd (omega (arith, same, low_at (suc y.number) ws next i u rises.1 had, ap (λ (v : Waiting). v.number) (same_Some _ _ had')))
same_place low (y ∷ ws) next (suc i) (suc j) u w rises had had' same = ap (λ (n : ℕ). suc n) (same_place (suc y.number) ws next i j u w rises.1 had had' same)

pub below_next : (low : ℕ) (ws : List Waiting) (next i : ℕ) (w : Waiting) → AreRising low ws next → slice_get ws i ≡ Some w → w.number < next
below_next low [] next i w rises had = absurd cc
below_next low (y ∷ ws) next zero w rises had =
    omega (arith, rising_next (suc y.number) ws next rises.1, ap (λ (v : Waiting). v.number) (same_Some _ _ had))
below_next low (y ∷ ws) next (suc i) w rises had = below_next (suc y.number) ws next i w rises.1 had

-- a ticket is out where it has a place
pub out_place : (desk : Desk) (ticket : Ticket) (place : ℕ) → AreNumbered desk → IsOutAt desk ticket place → (block : Option Pbn) × (ticket_of desk.out ticket.number ≡ Some block)
out_place desk ticket place numbered out =
    let any : Waiting = record { number = 0; asked = 0; writer = record { stream = 0; number = 0 }; block = None } in
    let p = position-Some (λ (w : Waiting). w.number == ticket.number) desk.out place any out in
    let w = get_or desk.out place any in
    let read : slice_get desk.out place ≡ Some w = slice_get_read desk.out (length desk.out) place w refl p.0 (read_again desk.out place any p.0) in
    let number : w.number ≡ ticket.number = eqb-true _ _ p.1 in
    (w.block, ap (ticket_of desk.out) (sym number) ∙ of_place 0 desk.out desk.issued place w numbered read)
  where
    read_again : (ws : List Waiting) (k : ℕ) (d : Waiting) → k < length ws → get_or ws k d ≡ get_or ws k (get_or ws k d)
    read_again [] k d below = absurd (omega arith)
    read_again (y ∷ ws) zero d below = refl
    read_again (y ∷ ws) (suc k) d below = read_again ws k d (omega arith)

-- and where something is said of its number, it has one
place_or : (ws : List Waiting) (k : ℕ) (block : Option Pbn) (o : Option ℕ) → position (λ (w : Waiting). w.number == k) ws ≡ o → ticket_of ws k ≡ Some block → (place : ℕ) × (o ≡ Some place)
place_or ws k block (Some place) found is = (place, refl)
place_or ws k block None found is =
    let none = find-none (λ (w : Waiting). w.number == k) ws (find-nowhere (λ (w : Waiting). w.number == k) ws found) in
    absurd (not_there ws is (λ i d below. eqb-false _ _ (none i d below)))
  where
    not_there : (us : List Waiting) → ticket_of us k ≡ Some block → ((i : ℕ) (d : Waiting) → i < length us → (get_or us i d).number ≡ k → ⊥) → ⊥
    not_there [] is other = cc
    not_there (w ∷ us) is other =
        not_there us (sym (ap (λ (b : Bool). cond b (Some w.block) (ticket_of us k)) (ne_eqb w.number k (λ (same : w.number ≡ k). other zero w (omega arith) same))) ∙ is)
        (λ i d below. other (suc i) d (omega arith))

pub has_place : (desk : Desk) (ticket : Ticket) (block : Option Pbn) → ticket_of desk.out ticket.number ≡ Some block → (place : ℕ) × IsOutAt desk ticket place
has_place desk ticket block is = place_or desk.out ticket.number block (position (λ (w : Waiting). w.number == ticket.number) desk.out) refl is

-- a ticket stays out over the withdrawal of another, and is out no longer behind its own
pub out_withdrawn : (old new : Desk) (other : Ticket) (result : Withdrawn) (ticket : Ticket) (place : ℕ) → AreNumbered old → Withdraws old new other result → (other.number ≡ ticket.number → ⊥)
    → IsOutAt old ticket place → (place' : ℕ) × IsOutAt new ticket place'
out_withdrawn old new other result ticket place numbered did differs out =
    let w = withdraws_tickets old new other result did numbered in
    let was = out_place old ticket place numbered out in
    let stays : ticket_of new.out ticket.number ≡ Some was.0
    = w.0 ticket.number ∙ ap (λ (b : Bool). cond b None (ticket_of old.out ticket.number)) (ne_eqb other.number ticket.number differs) ∙ was.1 in
    has_place new ticket was.0 stays

pub out_no_longer : (old new : Desk) (ticket : Ticket) (result : Withdrawn) (place : ℕ) → AreNumbered old → Withdraws old new ticket result → IsOutAt new ticket place → ⊥
out_no_longer old new ticket result place numbered did out =
    let w = withdraws_tickets old new ticket result did numbered in
    let still = out_place new ticket place w.1 out in
    let gone : ticket_of new.out ticket.number ≡ None
    = w.0 ticket.number ∙ ap (λ (b : Bool). cond b None (ticket_of old.out ticket.number)) (eq-eqb ticket.number ticket.number refl) in
    let no : ◌≡◌ {A = Cell} None (Some still.0) = sym gone ∙ still.1 in
    cc

-- what a withdrawn ticket is worth
pub worth_is : (old new : Desk) (ticket : Ticket) (result : Withdrawn) (did : Withdraws old new ticket result) → AreNumbered old → ticket_of old.out ticket.number ≡ Some did.waiting.block
worth_is old new ticket result did numbered = (withdraws_tickets old new ticket result did numbered).3
