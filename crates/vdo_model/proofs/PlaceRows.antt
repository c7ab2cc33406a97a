-- Places: for each clause a place or a list of them that it accepts, and one that it refuses.
use Rattle.std.proofs.Common.{ℕ, ◌≡◌, ◌≢◌, ◌⊎◌, ◌<◌, ◌++◌, false, List, [], ◌∷◌, Some, None, IsSome, IsNone, refl, inl, inr, arith}
use Rattle.std.specs.List.{AllByRecursion}
use Rattle.blk_base.specs.declared.request.Answer.{Answer as Reply}
use Rattle.blk_base.specs.declared.request.Answer.TheVariants as reply
use Rattle.blk_base.specs.declared.request.Request.{Request}
use Rattle.blk_base.specs.declared.request.Request.TheVariants as request
use Rattle.blk_base.specs.declared.request.Writer.{Writer}
use Rattle.blk_base.specs.Sectors.{filled_block as block}
use Rattle.blk_base.specs.Forms.{lba as address}
use Rattle.vdo_model.specs.declared.report.DeskLine.{DeskLine}
use Rattle.vdo_model.specs.declared.report.DeskLine.TheVariants.{Begin, Answer}
use Rattle.vdo_model.specs.declared.report.Placed.{Placed}
use Rattle.vdo_model.specs.Scripts.{request_at, address_of}
use Rattle.vdo_model.specs.DeskLog.{answer_of, before_begin}
use Rattle.vdo_model.specs.Places.{zone_of, drawn, place_of, IsOfZone, Follows, IsNextPlace, AreDrawn, IsAnsweredAtOnce, ArePlaces, placed}
use Rattle.vdo_model.proofs.Example.{of_a, of_b, script, desk, first_places, places, b_is_not_a, each_request}

-- zone_of: the leaf of 812 addresses, its tree among 60, and the tree's zone
first_leaf : zone_of 7 811 ≡ 0
first_leaf = refl

second_leaf : zone_of 7 812 ≡ 1
second_leaf = refl

last_tree : zone_of 7 47908 ≡ 3
last_tree = refl

first_tree_again : zone_of 7 48720 ≡ 0
first_tree_again = refl

-- drawn: of the places of the run three are in zone 0
drawn_of_zone : drawn 0 places ≡ 3
drawn_of_zone = refl

drawn_of_other : drawn 1 places ≡ 1
drawn_of_other = refl

-- place_of: the request's own place, where it has one
has_place : place_of places (of_b 0) ≡ Some (placed (of_b 0) 1 0)
has_place = refl

flush_has_none : place_of places (of_a 1) ≡ None
flush_has_none = refl

-- What the rows below show of their places.

abbrev IsInOrder : Placed → List Placed → Type 0
IsInOrder p older = AllByRecursion (λ q. q.zone ≡ p.zone → Follows desk p q) older

-- a place of another zone
apart : (p q : Placed) → q.zone ≢ p.zone → q.zone ≡ p.zone → Follows desk p q
apart p q differ same = absurd (differ same)

-- a place of another stream, whose request was begun before this one was answered
under_way : (p q : Placed) → q.request.stream ≢ p.request.stream → IsNone (answer_of (before_begin desk q.request) p.request) → q.zone ≡ p.zone → Follows desk p q
under_way p q differ none same = record { stream = λ same. absurd (differ same); answered = none }

-- a place of the same stream, of an earlier request
of_stream : (p q : Placed) → q.request.number < p.request.number → IsNone (answer_of (before_begin desk q.request) p.request) → q.zone ≡ p.zone → Follows desk p q
of_stream p q below none same = record { stream = λ same. below; answered = none }

-- the zones of their addresses
write_of_a : (place : ℕ) → IsOfZone 2 813 script (placed (of_a 0) 0 place)
write_of_a place = (request.Write (address 1) (block 1) false, 1, refl, refl, omega arith, refl)

write_of_b : (zones zone place : ℕ) → zone ≡ zone_of zones 812 → IsOfZone zones 813 script (placed (of_b 0) zone place)
write_of_b zones zone place is = (request.Write (address 812) (block 3) false, 812, refl, refl, omega arith, is)

read_of_b : (logical place : ℕ) → 1 < logical → IsOfZone 2 logical script (placed (of_b 1) 0 place)
read_of_b logical place below = (request.Read (address 1), 1, refl, refl, below, refl)

last_of_a : (place : ℕ) → IsOfZone 2 813 script (placed (of_a 2) 0 place)
last_of_a place = (request.Write (address 1) (block 2) false, 1, refl, refl, omega arith, refl)

-- A next place: the read of b draws number 1 in zone 0, behind the first write of a. Zone 1 has numbers of its own.
abbrev IsNext : ℕ → ℕ → Placed → List Placed → Type 0
IsNext zones logical p older = IsNextPlace zones logical script desk p older

read_order : (place : ℕ) → IsInOrder (placed (of_b 1) 0 place) first_places
read_order place = (apart _ _ (λ same. omega (arith, same)), (under_way _ _ (λ same. omega (arith, same)) refl, tt))

read_is_next : IsNext 2 813 (placed (of_b 1) 0 1) first_places
read_is_next = record { number = refl; once = refl; zone = read_of_b 813 1 (omega arith); order = read_order 1 }

-- number: it isn't counted over all zones
number_of_all_zones : IsNext 2 813 (placed (of_b 1) 0 2) first_places → ⊥
number_of_all_zones next = let number = next.number in omega (arith, number)

-- number: none is drawn twice
number_again : IsNext 2 813 (placed (of_b 1) 0 0) first_places → ⊥
number_again next = let number = next.number in omega (arith, number)

number_alone : (place : ℕ) → IsNone (place_of first_places (of_b 1)) × IsOfZone 2 813 script (placed (of_b 1) 0 place) × IsInOrder (placed (of_b 1) 0 place) first_places
number_alone place = (refl, read_of_b 813 place (omega arith), read_order place)

-- once: the read has no second place, behind one in the other zone
abbrev placed_before : List Placed
placed_before = placed (of_b 1) 1 0 ∷ placed (of_a 0) 0 0 ∷ []

placed_twice : IsNext 2 813 (placed (of_b 1) 0 1) placed_before → ⊥
placed_twice next = absurd (let once = next.once in cc)

placed_twice_alone : (1 ≡ drawn 0 placed_before) × IsOfZone 2 813 script (placed (of_b 1) 0 1) × IsInOrder (placed (of_b 1) 0 1) placed_before
placed_twice_alone = (refl, read_of_b 813 1 (omega arith), (apart _ _ (λ same. omega (arith, same)), (under_way _ _ (λ same. omega (arith, same)) refl, tt)))

-- zone, its request: the script of b has none with number 3
unknown_placed : IsNext 2 813 (placed (of_b 3) 0 1) first_places → ⊥
unknown_placed next = absurd (let is = next.zone.2 in cc)

unknown_placed_alone : (1 ≡ drawn 0 first_places) × IsNone (place_of first_places (of_b 3)) × IsInOrder (placed (of_b 3) 0 1) first_places
unknown_placed_alone = (refl, refl, (apart _ _ (λ same. omega (arith, same)), (under_way _ _ (λ same. omega (arith, same)) refl, tt)))

-- zone, its address: a flush has none, and draws no place
flush_placed : IsNext 2 813 (placed (of_b 2) 0 1) first_places → ⊥
flush_placed next =
    let at : request.Flush ≡ next.zone.0 = let is = next.zone.2 in cc in
    let address_is = next.zone.3 in
    absurd (let none = rw (← at) at address_is in cc)

flush_placed_alone : (1 ≡ drawn 0 first_places) × IsNone (place_of first_places (of_b 2)) × IsInOrder (placed (of_b 2) 0 1) first_places
flush_placed_alone = (refl, refl, (apart _ _ (λ same. omega (arith, same)), (under_way _ _ (λ same. omega (arith, same)) refl, tt)))

-- what the zone of the read says of its address
read_address : (zones logical zone place : ℕ) → IsOfZone zones logical script (placed (of_b 1) zone place) → (1 < logical) × (zone ≡ zone_of zones 1)
read_address zones logical zone place at =
    let request_is : request.Read (address 1) ≡ at.0 = let is = at.2 in cc in
    let some = at.3 in
    let address_is : 1 ≡ at.1 = let read = rw (← request_is) at some in cc in
    let below = at.4 in
    let zone_is = at.5 in
    (rw (← address_is) at below, rw (← address_is) at zone_is)

-- zone, the logical size: address 1 is below 2, and not below 1
within_size : IsNext 2 2 (placed (of_b 1) 0 1) first_places
within_size = record { number = refl; once = refl; zone = read_of_b 2 1 (omega arith); order = read_order 1 }

beyond_size : IsNext 2 1 (placed (of_b 1) 0 1) first_places → ⊥
beyond_size next = let below = (read_address 2 1 0 1 next.zone).0 in omega (arith, below)

beyond_size_alone : (1 ≡ drawn 0 first_places) × IsNone (place_of first_places (of_b 1)) × IsInOrder (placed (of_b 1) 0 1) first_places
beyond_size_alone = (refl, refl, read_order 1)

-- zone, its number: address 1 isn't in zone 1
wrong_zone : IsNext 2 813 (placed (of_b 1) 1 1) first_places → ⊥
wrong_zone next = let zone = (read_address 2 813 1 1 next.zone).1 in omega (arith, zone)

wrong_zone_alone : (1 ≡ drawn 1 first_places) × IsNone (place_of first_places (of_b 1)) × IsInOrder (placed (of_b 1) 1 1) first_places
wrong_zone_alone = (refl, refl, (of_stream _ _ (omega arith) refl, (apart _ _ (λ same. omega (arith, same)), tt)))

-- order in a stream: no request draws behind itself
behind_itself : Follows desk (placed (of_b 1) 0 1) (placed (of_b 1) 0 0) → ⊥
behind_itself follows = let ordered = follows.stream refl in omega (arith, ordered)

-- order in a stream: b draws for its read before it draws for its write, where they are in two zones, and not in one
abbrev read_first : List Placed
read_first = placed (of_b 1) 0 1 ∷ placed (of_a 0) 0 0 ∷ []

write_in_other_zone : IsNext 2 813 (placed (of_b 0) 1 0) read_first
write_in_other_zone = record { number = refl; once = refl; zone = write_of_b 2 1 0 refl; order = (apart _ _ (λ same. omega (arith, same)), (apart _ _ (λ same. omega (arith, same)), tt)) }

write_in_same_zone : IsNext 1 813 (placed (of_b 0) 0 2) read_first → ⊥
write_in_same_zone next = let ordered = (next.order.0 refl).stream refl in omega (arith, ordered)

write_in_same_zone_alone : (2 ≡ drawn 0 read_first)
    × IsNone (place_of read_first (of_b 0))
    × IsOfZone 1 813 script (placed (of_b 0) 0 2)
    × IsNone (answer_of (before_begin desk (of_b 1)) (of_b 0))
    × Follows desk (placed (of_b 0) 0 2) (placed (of_a 0) 0 0)
write_in_same_zone_alone = (refl, refl, write_of_b 1 0 2 refl, refl, under_way _ _ (λ same. omega (arith, same)) refl refl)

-- order of answers: the read of b and the second write of a were under way at once, so the read may draw behind it
either_first : IsNext 2 813 (placed (of_b 1) 0 2) (placed (of_a 2) 0 1 ∷ first_places)
either_first = record {
  number = refl;
  once = refl;
  zone = read_of_b 813 2 (omega arith);
  order = (under_way _ _ (λ same. omega (arith, same)) refl, read_order 2);
}

-- order of answers, of each older place: the first write of a was answered before the read of b was begun, so it doesn't
-- draw behind the read, though a place of zone 1 stands between
abbrev read_before_write : List Placed
read_before_write = placed (of_b 0) 1 0 ∷ placed (of_b 1) 0 0 ∷ []

write_too_late : IsNext 2 813 (placed (of_a 0) 0 1) read_before_write → ⊥
write_too_late next = absurd (let none = (next.order.1.0 refl).answered in cc)

write_too_late_alone : (1 ≡ drawn 0 read_before_write) × IsNone (place_of read_before_write (of_a 0)) × IsOfZone 2 813 script (placed (of_a 0) 0 1) × (◌≡◌ {A = ℕ} 1 0 → ⊥)
write_too_late_alone = (refl, refl, write_of_a 1, λ same. omega (arith, same))

-- places of a run, each: all of these; and not where an older one is wrong, though the newest is right
run_is_drawn : AreDrawn 2 813 script desk places
run_is_drawn = (last_is_next, (read_is_next, (other_is_next, (first_is_next, tt))))
  where
    first_is_next : IsNext 2 813 (placed (of_a 0) 0 0) []
    first_is_next = record { number = refl; once = refl; zone = write_of_a 0; order = tt }

    other_is_next : IsNext 2 813 (placed (of_b 0) 1 0) (placed (of_a 0) 0 0 ∷ [])
    other_is_next = record { number = refl; once = refl; zone = write_of_b 2 1 0 refl; order = (apart _ _ (λ same. omega (arith, same)), tt) }

    last_is_next : IsNext 2 813 (placed (of_a 2) 0 2) (placed (of_b 1) 0 1 ∷ first_places)
    last_is_next = record {
      number = refl;
      once = refl;
      zone = last_of_a 2;
      order = (under_way _ _ (λ same. omega (arith, same)) refl, (apart _ _ (λ same. omega (arith, same)), (of_stream _ _ (omega arith) refl, tt)));
    }

older_place_wrong : AreDrawn 2 813 script desk (placed (of_b 0) 1 0 ∷ placed (of_a 0) 0 1 ∷ []) → ⊥
older_place_wrong drawn = let number = drawn.1.0.number in omega (arith, number)

older_place_wrong_alone : IsNext 2 813 (placed (of_b 0) 1 0) (placed (of_a 0) 0 1 ∷ [])
older_place_wrong_alone = record { number = refl; once = refl; zone = write_of_b 2 1 0 refl; order = (apart _ _ (λ same. omega (arith, same)), tt) }

-- Who has a place. The whole run: each read and write was answered and has one, and no flush has any.
abbrev HasPlace : ℕ → List DeskLine → List Placed → Writer → Type 0
HasPlace logical desk places w = (r : Request) (a : ℕ) → request_at script w ≡ Some r → address_of r ≡ Some a → a < logical
    → IsSome (answer_of desk w) → IsSome (place_of places w) ⊎ IsAnsweredAtOnce desk w reply.Stopped

-- whether all have one is a question of the six requests
all_have : (logical : ℕ) (desk : List DeskLine) (places : List Placed)
    → HasPlace logical desk places (of_a 0) → HasPlace logical desk places (of_a 1) → HasPlace logical desk places (of_a 2)
    → HasPlace logical desk places (of_b 0) → HasPlace logical desk places (of_b 1) → HasPlace logical desk places (of_b 2)
    → (w : Writer) → HasPlace logical desk places w
all_have logical desk places a0 a1 a2 b0 b1 b2 w r a is =
    each_request (HasPlace logical desk places) a0 a1 a2 b0 b1 b2 w (rw is refl) r a is

-- a flush needs none
no_flush : (w : Writer) (r : Request) (a : ℕ) → request_at script w ≡ Some request.Flush → request_at script w ≡ Some r → address_of r ≡ Some a → ⊥
no_flush w r a flush is address_is = absurd (let r_is : request.Flush ≡ r = cc in let none = rw (← r_is) at address_is in cc)

pub run_has_places : ArePlaces 2 813 script desk places
run_has_places = record {
  places_drawn = run_is_drawn;
  all = all_have 813 desk places
      (λ r a is at below answered. inl refl)
      (λ r a is at below answered. absurd (no_flush (of_a 1) r a refl is at))
      (λ r a is at below answered. inl refl)
      (λ r a is at below answered. inl refl)
      (λ r a is at below answered. inl refl)
      (λ r a is at below answered. absurd (no_flush (of_b 2) r a refl is at));
}

-- Nobody has a place below: each log is a desk log's lines about the request of a with number 0.

-- it was stopped as soon as it was begun: it needs no place
stopped_at_once : ArePlaces 2 813 script (Answer (of_a 0) reply.Stopped ∷ Begin (of_a 0) ∷ []) []
stopped_at_once = record {
  places_drawn = tt;
  all = all_have 813 (Answer (of_a 0) reply.Stopped ∷ Begin (of_a 0) ∷ []) []
      (λ r a is at below answered. inr (record { later = []; older = []; at = refl }))
      (λ r a is at below answered. absurd cc)
      (λ r a is at below answered. absurd cc)
      (λ r a is at below answered. absurd cc)
      (λ r a is at below answered. absurd cc)
      (λ r a is at below answered. absurd cc);
}

-- the same, where more happened since
stopped_before : ArePlaces 2 813 script (Begin (of_b 0) ∷ Answer (of_a 0) reply.Stopped ∷ Begin (of_a 0) ∷ []) []
stopped_before = record {
  places_drawn = tt;
  all = all_have 813 (Begin (of_b 0) ∷ Answer (of_a 0) reply.Stopped ∷ Begin (of_a 0) ∷ []) []
      (λ r a is at below answered. inr (record { later = Begin (of_b 0) ∷ []; older = []; at = refl }))
      (λ r a is at below answered. absurd cc)
      (λ r a is at below answered. absurd cc)
      (λ r a is at below answered. absurd cc)
      (λ r a is at below answered. absurd cc)
      (λ r a is at below answered. absurd cc);
}

-- it has no answer yet: it needs none
pub not_answered_yet : ArePlaces 2 813 script (Begin (of_a 0) ∷ []) []
not_answered_yet = record {
  places_drawn = tt;
  all = all_have 813 (Begin (of_a 0) ∷ []) []
      (λ r a is at below answered. absurd cc)
      (λ r a is at below answered. absurd cc)
      (λ r a is at below answered. absurd cc)
      (λ r a is at below answered. absurd cc)
      (λ r a is at below answered. absurd cc)
      (λ r a is at below answered. absurd cc);
}

-- its address isn't below the logical size: it needs none
abbrev answered_between : Reply → List DeskLine
answered_between answer = Answer (of_a 0) answer ∷ Begin (of_b 0) ∷ Begin (of_a 0) ∷ []

out_of_range : ArePlaces 2 1 script (answered_between reply.Range) []
out_of_range = record {
  places_drawn = tt;
  all = all_have 1 (answered_between reply.Range) []
      (λ r a is at below answered. absurd (beyond r a is at below))
      (λ r a is at below answered. absurd cc)
      (λ r a is at below answered. absurd cc)
      (λ r a is at below answered. absurd cc)
      (λ r a is at below answered. absurd cc)
      (λ r a is at below answered. absurd cc);
}
  where
    beyond : (r : Request) (a : ℕ) → request_at script (of_a 0) ≡ Some r → address_of r ≡ Some a → a < 1 → ⊥
    beyond r a is at below =
        let r_is : request.Write (address 1) (block 1) false ≡ r = cc in
        let a_is : 1 ≡ a = let some = rw (← r_is) at at in cc in
        omega (arith, a_is, below)

-- where the first line isn't the answer that is looked for, it stands later
not_first : (line : DeskLine) (lines : List DeskLine) (w : Writer) (answer : Reply)
    → ((older : List DeskLine) → line ∷ lines ≡ Answer w answer ∷ Begin w ∷ older → ⊥)
    → IsAnsweredAtOnce (line ∷ lines) w answer → IsAnsweredAtOnce lines w answer
not_first line lines w answer other once = walk once.later once.older once.at
  where
    walk : (later older : List DeskLine) → line ∷ lines ≡ later ++ (Answer w answer ∷ Begin w ∷ older) → IsAnsweredAtOnce lines w answer
    walk [] older at = absurd (other older at)
    walk (first ∷ later) older at = record { later = later; older = older; at = cc }

-- and in no lines it doesn't stand
not_in_none : (w : Writer) (answer : Reply) → IsAnsweredAtOnce [] w answer → ⊥
not_in_none w answer once = walk once.later once.at
  where
    walk : (later : List DeskLine) → ◌≡◌ {A = List DeskLine} [] (later ++ (Answer w answer ∷ Begin w ∷ once.older)) → ⊥
    walk [] at = absurd cc
    walk (first ∷ later) at = absurd cc

-- without a place, the answer: it was answered Ok as soon as it was begun
ok_at_once : ArePlaces 2 813 script (Answer (of_a 0) reply.Ok ∷ Begin (of_a 0) ∷ []) [] → ⊥
ok_at_once are = elim (are.all (of_a 0) (request.Write (address 1) (block 1) false) 1 refl refl (omega arith) refl) [
  | inl has ↦ absurd cc
  | inr once ↦ not_in_none _ _ (not_first _ _ _ _ (λ older is. absurd cc) (not_first _ _ _ _ (λ older is. absurd cc) once))
]

-- without a place, at once: it was stopped after another request was begun
stopped_later : ArePlaces 2 813 script (answered_between reply.Stopped) [] → ⊥
stopped_later are = elim (are.all (of_a 0) (request.Write (address 1) (block 1) false) 1 refl refl (omega arith) refl) [
  | inl has ↦ absurd cc
  | inr once ↦ not_in_none _ _ (not_first _ _ _ _ (λ older is. absurd cc) (not_first _ _ _ _ (λ older is. absurd cc)
      (not_first _ _ _ _ (λ older is. let same : of_b 0 ≡ of_a 0 = cc in b_is_not_a 0 0 same) once)))
]

-- without a place, its own: another request was stopped at once, and it wasn't
other_at_once : ArePlaces 2 813 script (Answer (of_a 0) reply.Stopped ∷ Answer (of_b 0) reply.Stopped ∷ Begin (of_b 0) ∷ Begin (of_a 0) ∷ []) [] → ⊥
other_at_once are = elim (are.all (of_a 0) (request.Write (address 1) (block 1) false) 1 refl refl (omega arith) refl) [
  | inl has ↦ absurd cc
  | inr once ↦ not_in_none _ _ (not_first _ _ _ _ (λ older is. absurd cc) (not_first _ _ _ _ (λ older is. absurd cc)
      (not_first _ _ _ _ (λ older is. let same : of_b 0 ≡ of_a 0 = cc in b_is_not_a 0 0 same) (not_first _ _ _ _ (λ older is. absurd cc) once))))
]

-- the places that there are must be right, too: nobody lacks one here, and its number isn't the first
has_wrong_place : ArePlaces 2 813 script (Answer (of_a 0) reply.Stopped ∷ Begin (of_a 0) ∷ []) (placed (of_a 0) 0 1 ∷ []) → ⊥
has_wrong_place are = let number = are.places_drawn.0.number in omega (arith, number)
