-- Sealed blocks: for each definition what it gives or accepts, and for each clause one that it refuses.
use Rattle.std.proofs.Common.{ℕ, ◌≡◌, ◌+◌, ◌≤◌, ◌^◌, List, [], ◌∷◌, length, replicate, refl, arith}
use Rattle.std.proofs.lemmas.List.Elements.{All-head}
use Rattle.blk_base.specs.declared.journal_entry.CommittedEntry.{CommittedEntry}
use Rattle.blk_base.proofs.Example.{maps}
use Rattle.blk_base.specs.Forms.{at_point}
use Rattle.image_model.specs.Windows.{IsOfImage}
use Rattle.image_model.proofs.Example.{small, one, holds}
use Rattle.image_model.proofs.WindowExample.{each_is}
use Rattle.journal_stops.specs.Sealed.{Sealed, IsSealed, next_of, head_of, lists_of, entries_of, since, before, window_of, front_of}

-- a block with this head and the entry of the example, and one with two entries
abbrev pub names : ℕ → Sealed
names head = record { head = head; entries = one }

abbrev pub pair : ℕ → Sealed
pair head = record { head = head; entries = maps 87 ∷ maps 88 ∷ [] }

-- The next sequence, and the head.
next_is : next_of 7 (names 8 ∷ names 7 ∷ []) ≡ 9
next_is = refl

next_of_none : next_of 7 [] ≡ 7
next_of_none = refl

head_is : head_of 7 (names 8 ∷ names 7 ∷ []) ≡ 8
head_is = refl

head_of_none : head_of 7 [] ≡ 7
head_of_none = refl

-- A block may be sealed.

-- six blocks of the ring of eight, all of which are still needed
abbrev six : List Sealed
six = names 1 ∷ names 1 ∷ names 1 ∷ names 1 ∷ names 1 ∷ names 1 ∷ []

pub first_sealed : IsSealed small 1 [] (names 1)
first_sealed = record {
  holds = holds 1 1 (omega arith) (omega arith) (omega arith);
  each = each_is;
  rises = omega arith;
  ring = omega arith;
  reach = omega arith;
}

pub second_sealed : IsSealed small 1 (names 1 ∷ []) (names 2)
second_sealed = record {
  holds = holds 2 2 (omega arith) (omega arith) (omega arith);
  each = each_is;
  rises = omega arith;
  ring = omega arith;
  reach = omega arith;
}

seventh_sealed : IsSealed small 1 six (names 1)
seventh_sealed = record {
  holds = holds 7 1 (omega arith) (omega arith) (omega arith);
  each = each_is;
  rises = omega arith;
  ring = omega arith;
  reach = omega arith;
}

-- holds: the format has no block with a head above its sequence
head_above : IsSealed small 1 [] (names 2) → ⊥
head_above is = let below = is.holds.head_below in omega (arith, below)

-- each: at a logical size of 5 the address 5 isn't of the image
address_past : IsSealed (record small { logical = 5 }) 1 [] (names 1) → ⊥
address_past is = let below = (All-head (IsOfImage (record small { logical = 5 })) (maps 86) [] is.each).0 in omega (arith, below)

-- rises: the head was 2 already
head_falls : IsSealed small 1 (names 2 ∷ names 1 ∷ []) (names 1) → ⊥
head_falls is = let rises = is.rises in omega (arith, rises)

-- ring: with an eighth block the ring would be full; that is possible once the head is 2
ring_full : IsSealed small 1 (names 1 ∷ six) (names 1) → ⊥
ring_full is = let ring = is.ring in omega (arith, ring)

ring_reaped : IsSealed small 1 (names 1 ∷ six) (names 2)
ring_reaped = record {
  holds = holds 8 2 (omega arith) (omega arith) (omega arith);
  each = each_is;
  rises = omega arith;
  ring = omega arith;
  reach = omega arith;
}

-- reach: so many sequences a session has, and no more
at_the_last : (older : List Sealed) → length older + 1 ≡ 2 ^ 32 → head_of 1 older ≤ 2 ^ 32 → IsSealed small 1 older (names (2 ^ 32))
at_the_last older many below = record {
  holds = holds (next_of 1 older) (2 ^ 32) (omega arith) (omega (arith, many)) (omega (arith, many));
  each = each_is;
  rises = below;
  ring = omega (arith, many);
  reach = omega (arith, many);
}

out_of_reach : (older : List Sealed) (block : Sealed) → length older ≡ 2 ^ 32 → IsSealed small 1 older block → ⊥
out_of_reach older block many is = let reach = is.reach in omega (arith, many, reach)

-- What they say.
lists_are : lists_of (pair 2 ∷ names 1 ∷ []) ≡ (maps 87 ∷ maps 88 ∷ []) ∷ (maps 86 ∷ []) ∷ []
lists_are = refl

lists_of_none : lists_of [] ≡ []
lists_of_none = refl

abbrev pub at : ℕ → ℕ → CommittedEntry
at x point = at_point (maps x) point

entries_are : entries_of 2 (pair 2 ∷ names 1 ∷ []) ≡ at 88 1538 ∷ at 87 1536 ∷ at 86 1024 ∷ []
entries_are = refl

entries_of_none : entries_of 2 [] ≡ []
entries_of_none = refl

since_second : since 1 2 (pair 2 ∷ names 1 ∷ []) ≡ pair 2 ∷ []
since_second = refl

since_first : since 1 1 (pair 2 ∷ names 1 ∷ []) ≡ pair 2 ∷ names 1 ∷ []
since_first = refl

before_second : before 1 2 (pair 2 ∷ names 1 ∷ []) ≡ names 1 ∷ []
before_second = refl

before_first : before 1 1 (pair 2 ∷ names 1 ∷ []) ≡ []
before_first = refl

-- the window of these blocks has those from the head on, which the newest one names
window_is : window_of 1 (pair 2 ∷ names 1 ∷ []) ≡ at 88 1026 ∷ at 87 1024 ∷ []
window_is = refl

window_of_both : window_of 1 (pair 1 ∷ names 1 ∷ []) ≡ at 88 1026 ∷ at 87 1024 ∷ at 86 512 ∷ []
window_of_both = refl

-- of a block with 25 entries sector 0 has all but one
abbrev full : Sealed
full = record { head = 1; entries = maps 85 ∷ replicate 24 (maps 86) }

front_is : front_of 1 full ≡ record { head = 1; entries = maps 85 ∷ replicate 23 (maps 86) }
front_is = refl

front_of_two : front_of 2 full ≡ full
front_of_two = refl
