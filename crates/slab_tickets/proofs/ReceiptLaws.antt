-- What the desk knows of the steps of its zone, and that its receipts are right.
use Rattle.std.specs.Prelude.{◌<◌, ◌++◌, length}
use Rattle.std.proofs.Common.{◌∙◌, get_or, set}
use Rattle.slab_tickets.specs.Tickets.{IsOutAt}
use Rattle.std.specs.Prelude.{ℕ, ◌≡◌, Bool, true, false, not, List, [], ◌∷◌, All, Option, None, Some, is_some, ◌==◌}
use Rattle.std.proofs.Common.{sym, ap, subst, arith, refl, IsTrue}
use Rattle.std.specs.List.{position_or_len, position}
use Rattle.slab_tickets.specs.Tickets.{Issues, Gives}
use Rattle.std.specs.Prelude.{cond, nat_lt}
use Rattle.std.proofs.Common.{length-append}
use Rattle.std.proofs.Math.Seq.{get_or-append_seam}
use Rattle.std.proofs.lemmas.Bool.{eqb-false}
use Rattle.std.proofs.lemmas.List.{length-set}
use Rattle.std.proofs.lemmas.List.Folds.{position_or_len-set}
use Rattle.blk_base.specs.declared.request.Writer.{Writer}
use Rattle.std.proofs.lemmas.Bool.{false≢true}
use Rattle.std.proofs.lemmas.List.Elements.{All-nil, All-push, All-set, All-weaker}
use Rattle.std.proofs.lemmas.List.Quantifiers.{position-Some}
use Rattle.plain_laws.proofs.FirstLaws.{find-nowhere, find-none, remove-position, All-but_first}
use Rattle.blk_base.specs.declared.place.Pbn.{Pbn}
use Rattle.plain_laws.proofs.LeadLaws.{leads_keep}
use Rattle.slab_counts.specs.declared.tickets.Ticket.{Ticket}
use Rattle.slab_counts.specs.declared.tickets.Receipt.{Receipt}
use Rattle.slab_tickets.specs.declared.forms.Waiting.{Waiting}
use Rattle.slab_tickets.specs.declared.forms.Withdrawn.TheVariants.{Nothing}
use Rattle.slab_tickets.specs.Tickets.{Desk, empty_desk, IsBelow, NoneWaits, Withdraws, is_served, begun, worth_of}
use Rattle.slab_tickets.specs.Numbers.{AskedBehind, IsBehind}
use Rattle.slab_tickets.specs.Operations.{Operation, Begins, Issued, Given, Withdrawn', Does, LeadTo, IsRight, last_free_of, step_of}

-- what is found at a place
pub some_there : (o : Option ℕ) → IsTrue (is_some o) → (k : ℕ) × (o ≡ Some k)
some_there None is = absurd (false≢true is)
some_there (Some k) is = (k, refl)

-- what the desk knows of the steps

abbrev Knows : Desk → Option ℕ → Option ℕ → Type 0
Knows desk last step = (desk.last_free ≡ last) × (desk.step ≡ step)

knows_as : (new made : Desk) (last step : Option ℕ) → new ≡ made → Knows made last step → Knows new last step
knows_as new made last step is knows = subst (λ (d : Desk). Knows d last step) (sym is) knows

pub calls_tell : (zone room : ℕ) (calls : List Operation) (desk : Desk) → LeadTo (empty_desk zone room) calls desk → (desk.last_free ≡ last_free_of calls) × (desk.step ≡ step_of calls)
calls_tell zone room [] desk same = knows_as desk (empty_desk zone room) None None same (refl, refl)
calls_tell zone room (Begins true step ∷ calls) desk (before, lead, did) =
    let older = calls_tell zone room calls before lead in
    knows_as desk (begun true step before) (step_of calls) (Some step) did.2 (older.1, refl)
calls_tell zone room (Begins false step ∷ calls) desk (before, lead, did) =
    let older = calls_tell zone room calls before lead in
    knows_as desk (begun false step before) (last_free_of calls) (Some step) did.1 (older.0, refl)
calls_tell zone room (Issued writer ticket ∷ calls) desk (before, lead, did) =
    knows_as desk _ (last_free_of calls) (step_of calls) did.1.after (calls_tell zone room calls before lead)
calls_tell zone room (Given block ∷ calls) desk (before, lead, did) =
    knows_as desk _ (last_free_of calls) (step_of calls) did.after (calls_tell zone room calls before lead)
calls_tell zone room (Withdrawn' ticket result ∷ calls) desk (before, lead, did) =
    knows_as desk _ (last_free_of calls) (step_of calls) did.after (calls_tell zone room calls before lead)

-- the tickets that wait asked behind the last step that ended with a free block

behind_as : (new made : Desk) → new ≡ made → IsBehind made → IsBehind new
behind_as new made is behind = subst (λ (d : Desk). IsBehind d) (sym is) behind

-- behind a step stands what was behind an earlier one
later : (last step : Option ℕ) (next : ℕ) → ((s : ℕ) → step ≡ Some s → IsBelow last s) → (step ≡ None → last ≡ None) → IsBelow step next → IsBelow last next
later None step next strict never below = tt
later (Some free) None next strict never below = let is = never refl in cc
later (Some free) (Some s) next strict never below = omega (arith, strict s refl, below)

-- where none waits each is served
all_served : (desk : Desk) → NoneWaits desk → All (λ w. not (is_served w) ≡ false) desk.out
all_served desk none = find-none (λ (w : Waiting). not (is_served w)) desk.out (find-nowhere (λ (w : Waiting). not (is_served w)) desk.out none)

served_not : (b : Bool) → not b ≡ false → b ≡ false → ⊥
served_not true is no' = absurd (false≢true (sym no'))
served_not false is no' = absurd (false≢true (sym is))

begun_free : (old : Desk) (step : ℕ) → IsBehind old → NoneWaits old → IsBelow old.step step → IsBehind (begun true step old)
begun_free old step behind none below = record {
  strict = λ s now. let same : step ≡ s = cc in subst (λ (n : ℕ). IsBelow old.step n) same below;
  never = λ is. cc;
  waiting = All-weaker (λ (w : Waiting). not (is_served w) ≡ false) (AskedBehind old.step) (λ w served unserved. absurd (served_not (is_served w) served unserved)) old.out (all_served old none);
}

begun_full : (old : Desk) (step : ℕ) → IsBehind old → IsBelow old.step step → IsBehind (begun false step old)
begun_full old step behind below = record {
  strict = λ s now. let same : step ≡ s = cc in subst (λ (n : ℕ). IsBelow old.last_free n) same (later old.last_free old.step step behind.strict behind.never below);
  never = λ is. cc;
  waiting = behind.waiting;
}

pub issued_behind : (old new : Desk) (writer : Writer) (ticket : Ticket) → IsBehind old → Issues old new writer ticket → IsBehind new
issued_behind old new writer ticket behind did = behind_as new _ did.after (record {
  strict = behind.strict;
  never = behind.never;
  waiting = All-push (AskedBehind old.last_free) old.out _ behind.waiting (λ unserved. behind.strict ticket.asked did.now);
})

pub call_keeps : (call : Operation) (old new : Desk) → IsBehind old → Does call old new → IsBehind new
call_keeps (Begins true step) old new behind did = behind_as new (begun true step old) did.2 (begun_free old step behind did.0 did.1)
call_keeps (Begins false step) old new behind did = behind_as new (begun false step old) did.1 (begun_full old step behind did.0)
call_keeps (Issued writer ticket) old new behind did = issued_behind old new writer ticket behind did.1
call_keeps (Given block) old new behind did = behind_as new _ did.after (record {
  strict = behind.strict;
  never = behind.never;
  waiting = All-set (AskedBehind old.last_free) old.out did.place _ (λ unserved. absurd (false≢true (sym unserved))) behind.waiting;
})
call_keeps (Withdrawn' ticket result) old new behind did = behind_as new _ did.after (record {
  strict = behind.strict;
  never = behind.never;
  waiting = subst (λ (ws : List Waiting). All (AskedBehind old.last_free) ws) (sym (remove-position (λ (w : Waiting). w.number == ticket.number) old.out did.place did.here))
      (All-but_first (λ (w : Waiting). w.number == ticket.number) (AskedBehind old.last_free) old.out behind.waiting);
})

pub opened_behind : (zone room : ℕ) → IsBehind (empty_desk zone room)
opened_behind zone room = record { strict = λ s now. cc; never = λ is. refl; waiting = All-nil (AskedBehind None) }

calls_keep : (zone room : ℕ) (calls : List Operation) (desk : Desk) → LeadTo (empty_desk zone room) calls desk → IsBehind desk
calls_keep zone room calls desk lead = leads_keep Does IsBehind call_keeps (empty_desk zone room) desk calls (opened_behind zone room) lead

-- a receipt is that of a ticket to which no block went
receipt_of : (block : Option Pbn) (given receipt : Receipt) → Nothing receipt ≡ worth_of block given → (is_some block ≡ false) × (receipt.asked ≡ given.asked)
receipt_of None given receipt is = (refl, let same : receipt ≡ given = cc in ap (λ (r : Receipt). r.asked) same)
receipt_of (Some b) given receipt is = cc

pub behind_receipt : (old new : Desk) (ticket : Ticket) (receipt : Receipt) → IsBehind old → Withdraws old new ticket (Nothing receipt) → IsBelow old.last_free receipt.asked
behind_receipt old new ticket receipt behind did =
    let worthless = receipt_of did.waiting.block _ receipt did.worth_is in
    let place = position-Some (λ (w : Waiting). w.number == ticket.number) old.out did.place did.waiting did.here in
    let asked : AskedBehind old.last_free did.waiting
    = subst (λ (w : Waiting). AskedBehind old.last_free w) did.is (behind.waiting did.place did.waiting place.0) in
    subst (λ (n : ℕ). IsBelow old.last_free n) (sym worthless.1) (asked worthless.0)

pub right_receipt : (zone room : ℕ) (calls : List Operation) (old new : Desk) (ticket : Ticket) (receipt : Receipt) → LeadTo (empty_desk zone room) calls old
    → Withdraws old new ticket (Nothing receipt) → IsRight calls receipt
right_receipt zone room calls old new ticket receipt lead did =
    let told = calls_tell zone room calls old lead in
    subst (λ (last : Option ℕ). IsBelow last receipt.asked) told.0 (behind_receipt old new ticket receipt (calls_keep zone room calls old lead) did)

-- a ticket is out while one with its number stands there, as from when it is issued

pub found_or : (ticket : Ticket) (ws : List Waiting) (o : Option ℕ) (k : ℕ) (d : Waiting) → position (λ (w : Waiting). w.number == ticket.number) ws ≡ o → k < length ws → (get_or ws k d).number ≡ ticket.number
    → (place : ℕ) × (o ≡ Some place)
found_or ticket ws None k d none inside is =
    let all = find-none (λ (w : Waiting). w.number == ticket.number) ws (find-nowhere (λ (w : Waiting). w.number == ticket.number) ws none) in
    absurd (eqb-false _ _ (all k d inside) is)
found_or ticket ws (Some place) k d some inside is = (place, refl)

pub out_issued : (old new : Desk) (writer : Writer) (ticket : Ticket) → Issues old new writer ticket → (place : ℕ) × IsOutAt new ticket place
out_issued old new writer ticket did =
    let one : Waiting = record { number = ticket.number; asked = ticket.asked; writer = writer; block = None } in
    let size = length-append {A = Waiting} old.out (one ∷ []) in
    let last = get_or-append_seam old.out one [] one in
    let there = found_or ticket (old.out ++ one ∷ []) (position (λ (w : Waiting). w.number == ticket.number) (old.out ++ one ∷ [])) (length old.out) one refl (omega (arith, size)) (ap (λ (w : Waiting). w.number) last) in
    (there.0, ap (λ (d : Desk). position (λ (w : Waiting). w.number == ticket.number) d.out) did.after ∙ there.1)

pub out_given : (old new : Desk) (block : Pbn) (ticket : Ticket) (place : ℕ) → Gives old new block → IsOutAt old ticket place → IsOutAt new ticket place
out_given old new block ticket place did out =
    let number : ((record did.waiting { block = Some block }).number == ticket.number) ≡ ((get_or old.out did.place did.waiting).number == ticket.number)
    = ap (λ (w : Waiting). w.number == ticket.number) (sym did.is) in
    let same = position_or_len-set (λ (w : Waiting). w.number == ticket.number) old.out did.place (record did.waiting { block = Some block }) did.waiting number in
    let size = length-set old.out did.place (record did.waiting { block = Some block }) in
    ap (λ (d : Desk). position (λ (w : Waiting). w.number == ticket.number) d.out) did.after
    ∙ ap (λ (n : ℕ). cond (nat_lt n (length (set old.out did.place (record did.waiting { block = Some block })))) (Some n) None) same
    ∙ ap (λ (l : ℕ). cond (nat_lt (position_or_len (λ (w : Waiting). w.number == ticket.number) old.out) l) (Some (position_or_len (λ (w : Waiting). w.number == ticket.number) old.out)) None) size
    ∙ out
