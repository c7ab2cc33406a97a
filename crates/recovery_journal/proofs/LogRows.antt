-- What a recovery journal knows: for each clause a case that it accepts, and one that breaks it alone. The journal of the
-- rows has two entries of its block 2, the first of which was handed out, and one entry in block 3.
use Rattle.std.proofs.lemmas.List.{length-replicate, append-nil}
use Rattle.std.proofs.Common.{zero, suc, ◌≡◌, ◌<◌, ◌≤◌, ◌++◌, List, [], ◌∷◌, length, replicate, All, slice_index_or, refl, sym, ◌∙◌, ap, subst, inl, inr, arith, length-append}
use Rattle.std.proofs.lemmas.List.Elements.{All-cons, All-nil}
use Rattle.blk_base.specs.declared.geometry.Geometry.{Geometry}
use Rattle.blk_base.specs.declared.journal_entry.CommittedEntry.{CommittedEntry}
use Rattle.blk_base.specs.declared.point.Point.{Point}
use Rattle.blk_base.specs.Forms.{point as watermark}
use Rattle.blk_base.proofs.Example.{maps, entry_at as at}
use Rattle.journal_codec.specs.declared.forms.JournalBlock.{JournalBlock}
use Rattle.recovery_journal.specs.Log.{Advances, HandsOut, HasNoRoom, HasRoom, IsBehind, IsDurable, IsHead, IsNamed, IsNeeded, IsWriting, Log, NoneCommitted, Seals, first_point, first_sequence, head_of, opening, placed, point_at, unhanded}

abbrev pub the_log : Log
the_log = record {
  nonce = 1;
  size = 8;
  sequence = 3;
  filling = maps 87 ∷ [];
  entries = at 1024 ∷ at 1026 ∷ [];
  handed = 1;
  committed = 3;
  watermarks = watermark 1026 ∷ watermark 1024 ∷ [];
}

-- one without entries
abbrev pub empty : Log
empty = record the_log { filling = []; entries = []; handed = 0; watermarks = watermark 1536 ∷ [] }

pub both : (P : CommittedEntry → Type 0) (x y : CommittedEntry) → P x → P y → All P (x ∷ y ∷ [])
both P x y first second = All-cons P x (y ∷ []) first (All-cons P y [] second (All-nil P))

pub two_watermarks : (P : Point → Type 0) (x y : Point) → P x → P y → All P (x ∷ y ∷ [])
two_watermarks P x y first second = All-cons P x (y ∷ []) first (All-cons P y [] second (All-nil P))

pub one : (P : CommittedEntry → Type 0) (x : CommittedEntry) → P x → All P (x ∷ [])
one P x first = All-cons P x [] first (All-nil P)

-- Points.

of_block_2 : point_at 2 1 ≡ 1026
of_block_2 = refl

named : IsNamed (at 512)
named = omega arith

not_named : IsNamed (at 511) → ⊥
not_named is = omega (arith, is)

-- needed where a zone's watermark is at the entry's point or below it, durable where each is above
needed : IsNeeded (watermark 1026 ∷ watermark 1024 ∷ []) (watermark 1024)
needed = (1, watermark 1024, omega arith, refl, omega arith)

not_needed : IsNeeded (watermark 1026 ∷ []) (watermark 1024) → ⊥
not_needed (zero, x, below, same, is) = let point = ap (λ (p : Point). p.0) same in omega (arith, point, is)
not_needed (suc k, x, below, same, is) = omega (arith, below)

durable : IsDurable (watermark 1026 ∷ watermark 1025 ∷ []) (watermark 1024)
durable = two_watermarks (λ m. 1024 < m.0) (watermark 1026) (watermark 1025) (omega arith) (omega arith)

not_durable : IsDurable (watermark 1026 ∷ watermark 1024 ∷ []) (watermark 1024) → ⊥
not_durable all = let second = all 1 (watermark 0) (omega arith) in omega (arith, second)

-- The head.

first_of_two : first_sequence (at 1024 ∷ at 1536 ∷ []) 7 ≡ 2
first_of_two = refl

first_of_none : first_sequence [] 7 ≡ 7
first_of_none = refl

head_is : head_of the_log ≡ 2
head_is = refl

the_head : IsHead the_log 2
the_head = record {
  reached = omega arith;
  least = both (λ entry. IsNeeded the_log.watermarks entry.point → 1024 ≤ entry.point.0) (at 1024) (at 1026) (λ is. omega arith) (λ is. omega arith);
  needed = inr (0, at 1024, omega arith, refl, ((1, watermark 1024, omega arith, refl, omega arith), refl));
}

of_no_entries : IsHead empty 3
of_no_entries = record { reached = omega arith; least = All-nil (λ entry. IsNeeded empty.watermarks entry.point → 1536 ≤ entry.point.0); needed = inl refl }

-- reached: not behind the block being filled
not_reached : IsHead (record empty { sequence = 2 }) 3 → ⊥
not_reached is = let reached = is.reached in omega (arith, reached)

-- least: not behind an entry that is needed
past_needed : IsHead the_log 3 → ⊥
past_needed is = let least = is.least 0 (at 0) (omega arith) (1, watermark 1024, omega arith, refl, omega arith) in omega (arith, least)

-- needed: not before every one
before_needed : IsHead the_log 1 → ⊥
before_needed is = elim is.needed [
  | inl last ↦ omega (arith, last)
  | inr (zero, x, below, same, both_are) ↦ let point = ap (λ (e : CommittedEntry). e.point.0) same in let block = both_are.1 in omega (arith, point, block)
  | inr (suc zero, x, below, same, both_are) ↦ let point = ap (λ (e : CommittedEntry). e.point.0) same in let block = both_are.1 in omega (arith, point, block)
  | inr (suc (suc k), x, below, same, both_are) ↦ omega (arith, below)
]

-- Room.

abbrev full : Log
full = record the_log { filling = replicate 192 (maps 87) }

is_full : length full.filling ≡ 192
is_full = length-replicate 192 (maps 87)

has_room : HasRoom the_log
has_room = record { fewer = omega arith; ring = omega arith }

filled : HasRoom full → ⊥
filled room = let fewer = room.fewer in let count = is_full in omega (arith, fewer, count)

ring_taken : HasRoom (record the_log { size = 2 }) → ⊥
ring_taken room = let ring = room.ring in omega (arith, ring)

no_room_in_block : HasNoRoom full
no_room_in_block = inl is_full

no_room_in_ring : HasNoRoom (record the_log { size = 2 })
no_room_in_ring = inr (omega arith)

room_left : HasNoRoom the_log → ⊥
room_left (inl count) = omega (arith, count)
room_left (inr ring) = omega (arith, ring)

writing : IsWriting (record the_log { committed = 2 })
writing = omega arith

written : IsWriting the_log → ⊥
written is = omega (arith, is)

-- Sealing.

with_points : placed 3 0 (maps 87 ∷ maps 88 ∷ []) ≡ record { entry = maps 87; point = watermark 1536 } ∷ record { entry = maps 88; point = watermark 1538 } ∷ []
with_points = refl

abbrev the_block : JournalBlock
the_block = record { nonce = 1; sequence = 3; head = 2; entries = maps 87 ∷ [] }

abbrev sealed : Log
sealed = record the_log { sequence = 4; filling = []; entries = at 1024 ∷ at 1026 ∷ record { entry = maps 87; point = watermark 1536 } ∷ [] }

seals : Seals the_log sealed the_block
seals = record { waits = omega arith; none_writing = refl; records = refl; follows = refl }

nothing_waits : Seals (record the_log { filling = [] }) (record the_log { sequence = 4; filling = [] }) (record the_block { entries = [] }) → ⊥
nothing_waits is = let waits = is.waits in omega (arith, waits)

one_is_written : Seals (record the_log { committed = 2 }) (record sealed { committed = 2 }) the_block → ⊥
one_is_written is = let none = is.none_writing in omega (arith, none)

another_head : Seals the_log sealed (record the_block { head = 3 }) → ⊥
another_head is = let head = ap (λ (b : JournalBlock). b.head) is.records in omega (arith, head)

still_filled : Seals the_log (record sealed { filling = maps 87 ∷ [] }) the_block → ⊥
still_filled is = let size = ap (λ (l : Log). length l.filling) is.follows in omega (arith, size)

not_entered : Seals the_log (record sealed { entries = at 1024 ∷ at 1026 ∷ [] }) the_block → ⊥
not_entered is = let size = ap (λ (l : Log). length l.entries) is.follows in omega (arith, size)

-- Handing out.

one_left : unhanded the_log ≡ at 1026 ∷ []
one_left = refl

its_point : first_point (unhanded the_log) 3 ≡ 1026
its_point = refl

none_left : first_point (unhanded empty) 3 ≡ 1536
none_left = refl

hands_out : HandsOut the_log (record the_log { handed = 2 }) (at 1026)
hands_out = record { next = refl; committed = omega arith; handed = refl; order = All-nil (λ (later : CommittedEntry). 1026 < later.point.0) }

another_one : HandsOut the_log (record the_log { handed = 2 }) (at 1024) → ⊥
another_one is = let first : at 1026 ≡ at 1024 = cc is.next in let point = ap (λ (e : CommittedEntry). e.point.0) first in omega (arith, point)

not_committed : HandsOut (record the_log { committed = 2 }) (record the_log { committed = 2; handed = 2 }) (at 1026) → ⊥
not_committed is = let below = is.committed in omega (arith, below)

counted_twice : HandsOut the_log (record the_log { entries = at 1024 ∷ []; handed = 1 }) (at 1026) → ⊥
counted_twice is = let count = ap (λ (l : Log). length l.entries) is.handed in omega (arith, count)

out_of_order : HandsOut (record the_log { entries = at 1024 ∷ at 1028 ∷ at 1026 ∷ [] }) (record the_log { entries = at 1024 ∷ at 1028 ∷ at 1026 ∷ []; handed = 2 }) (at 1028) → ⊥
out_of_order is = let later = is.order 0 (at 0) (omega arith) in omega (arith, later)

none_committed : NoneCommitted (record the_log { committed = 2 })
none_committed = one (λ entry. 1024 ≤ entry.point.0) (at 1026) (omega arith)

one_committed : NoneCommitted the_log → ⊥
one_committed none = let low = none 0 (at 0) (omega arith) in omega (arith, low)

-- up to where all was handed out

all_before : IsBehind the_log (watermark 1026)
all_before = record { sealed = one (λ entry. 1026 ≤ entry.point.0) (at 1026) (omega arith); filling = omega arith }

one_before : IsBehind the_log (watermark 1027) → ⊥
one_before is = let low = is.sealed 0 (at 0) (omega arith) in omega (arith, low)

past_filling : IsBehind empty (watermark 1537) → ⊥
past_filling is = let low = is.filling in omega (arith, low)

-- A watermark rises.

abbrev advanced : Log
advanced = record the_log { watermarks = watermark 1026 ∷ watermark 1026 ∷ []; entries = at 1026 ∷ []; handed = 0 }

abbrev still_needs : IsNeeded (watermark 1026 ∷ watermark 1026 ∷ []) (watermark 1026)
still_needs = (0, watermark 1026, omega arith, refl, omega arith)

abbrev is_done : IsDurable (watermark 1026 ∷ watermark 1026 ∷ []) (watermark 1024)
is_done = two_watermarks (λ m. 1024 < m.0) (watermark 1026) (watermark 1026) (omega arith) (omega arith)

advances : Advances the_log advanced 1 (watermark 1026)
advances = record {
  durable = at 1024 ∷ [];
  watermarks = refl;
  parts = refl;
  done = one (λ entry. IsDurable advanced.watermarks entry.point) (at 1024) is_done;
  needed = one (λ entry. IsNeeded advanced.watermarks entry.point) (at 1026) still_needs;
  handed = refl;
  rest = refl;
}

-- a lower watermark changes nothing
lower : Advances the_log the_log 0 (watermark 512)
lower = record {
  durable = [];
  watermarks = refl;
  parts = refl;
  done = All-nil (λ entry. IsDurable the_log.watermarks entry.point);
  needed = both (λ entry. IsNeeded the_log.watermarks entry.point) (at 1024) (at 1026) (1, watermark 1024, omega arith, refl, omega arith) (0, watermark 1026, omega arith, refl, omega arith);
  handed = refl;
  rest = refl;
}

not_raised : Advances the_log the_log 1 (watermark 1026) → ⊥
not_raised is = let same = ap (λ (watermarks : List Point). (slice_index_or watermarks 1 (watermark 0)).0) is.watermarks in omega (arith, same)

another_left : Advances the_log (record advanced { entries = at 1028 ∷ [] }) 1 (watermark 1026) → ⊥
another_left is = elim_durable is.durable is.parts
  where
    elim_durable : (durable : List CommittedEntry) → the_log.entries ≡ durable ++ (at 1028 ∷ []) → ⊥
    elim_durable [] same = let size = ap length same in omega (arith, size)
    elim_durable (x ∷ []) same = let point = ap (λ (es : List CommittedEntry). (slice_index_or es 1 (at 0)).point.0) same in omega (arith, point)
    elim_durable (x ∷ y ∷ more) same = let size = ap length same in omega (arith, size, length-append more (at 1028 ∷ []))

left_out_early : Advances the_log (record the_log { entries = []; handed = 0 }) 0 (watermark 1026) → ⊥
left_out_early is =
    let whole : the_log.entries ≡ is.durable = is.parts ∙ append-nil is.durable in
    let all = subst (All (λ (e : CommittedEntry). IsDurable (watermark 1026 ∷ watermark 1024 ∷ []) e.point)) (sym whole) is.done in
    not_durable (all 0 (at 0) (omega arith))

kept_though_durable : Advances the_log (record the_log { watermarks = watermark 1026 ∷ watermark 1026 ∷ [] }) 1 (watermark 1026) → ⊥
kept_though_durable is = of_needed (is.needed 0 (at 0) (omega arith))
  where
    of_needed : IsNeeded (watermark 1026 ∷ watermark 1026 ∷ []) (watermark 1024) → ⊥
    of_needed (zero, x, below, same, low) = let point = ap (λ (p : Point). p.0) same in omega (arith, point, low)
    of_needed (suc zero, x, below, same, low) = let point = ap (λ (p : Point). p.0) same in omega (arith, point, low)
    of_needed (suc (suc k), x, below, same, low) = omega (arith, below)

count_kept : Advances the_log (record advanced { handed = 1 }) 1 (watermark 1026) → ⊥
count_kept is =
    let sizes = ap length is.parts in let count = is.handed in omega (arith, sizes, count, length-append is.durable (at 1026 ∷ []))

another_sequence : Advances the_log (record advanced { sequence = 4 }) 1 (watermark 1026) → ⊥
another_sequence is = let same = ap (λ (l : Log). l.sequence) is.rest in omega (arith, same)

-- A journal at its start.
module _ (geometry : Geometry) where
  begins_empty : (opening geometry 3 2).entries ≡ []
  begins_empty = refl

  begins_there : (opening geometry 3 2).sequence ≡ 3
  begins_there = refl

  begins_committed : (opening geometry 3 2).committed ≡ 3
  begins_committed = refl

  begins_with_marks : (opening geometry 3 2).watermarks ≡ watermark 1536 ∷ watermark 1536 ∷ []
  begins_with_marks = refl

  begins_in_its_ring : ((opening geometry 3 2).size ≡ geometry.journal) × ((opening geometry 3 2).nonce ≡ geometry.nonce)
  begins_in_its_ring = (refl, refl)
