-- Leaves that are read on the device: when one is read for a request, what that carries, and what follows where one doesn't decode.
-- For each clause a case that it accepts, and one that breaks it alone.
use Rattle.std.proofs.Common.{ℕ, ◌≡◌, true, false, None, Some, List, [], ◌∷◌, refl, ap, sym, ◌∙◌, subst, arith, inl, inr, length}
use Rattle.std.proofs.lemmas.Option.{same_Some}
use Rattle.blk_base.specs.Pages.{leaf_of}
use Rattle.blk_base.specs.declared.place.Mapping.TheVariants.{Unmapped, Zero, At}
use Rattle.blk_base.specs.declared.place.Mapping.{Mapping}
use Rattle.blk_base.specs.declared.place.Pbn.{Pbn}
use Rattle.blk_base.specs.declared.request.Request.{Request}
use Rattle.blk_base.specs.declared.request.Answer.TheVariants.{Stopped}
use Rattle.blk_base.specs.declared.request.Request.TheVariants as request
use Rattle.blk_base.specs.Forms.{lba as address, pbn as block}
use Rattle.disk_model.specs.declared.call.Call.TheVariants.{Read, Flush}
use Rattle.page_codec.proofs.SpellingLaws.{length-head}
use Rattle.page_codec.specs.Grammar.{IsPageFault}
use Rattle.page_codec.specs.PageBytes.{head_bytes}
use Rattle.page_codec.specs.declared.fault.PageFault.{PageFault}
use Rattle.page_codec.specs.declared.fault.PageFault.TheVariants.{Compressed, Header}
use Rattle.vdo_model.specs.FlushMarks.{Device}
use Rattle.vdo_model.specs.declared.report.Damage.TheVariants.{Page}
use Rattle.vdo_model.specs.declared.report.DeskLine.TheVariants.{Answer}
use Rattle.data_vio.specs.declared.items.Asks.TheVariants as asks
use Rattle.data_vio.specs.declared.logged.Logged.TheVariants.{Makes}
use Rattle.data_vio.specs.declared.logged.Logged.{Logged}
use Rattle.core_model.specs.DeviceFacts.{NeedsLeaf}
use Rattle.core_model.specs.LogicalFacts.{HasLeaf, HasTurn, MapOk, Turn}
use Rattle.core_model.specs.PageLinks.{leaf_head}
use Rattle.core_model.specs.RightTraces.{IsBlockFor, IsLeafFor, IsLinkedAt, MayFollow, StopsAtFailure}
use Rattle.core_model.specs.Sessions.{IsFair, Session, mapping_by}
use Rattle.core_model.specs.Trace.{Calls, Enters, Fails, Harms, Happening, Says, Sets, Trace, applied, calls, damage_in, first_of, has_read_fault, has_stopped, is_harmed, moments}
use Rattle.model_rows.proofs.sessions.FollowRows.{its_address}
use Rattle.core_model.proofs.WorkedTraces.{drawn, first, leafy, of_first, reader, second, session, script, set, took, x, y}

-- IsLinkedAt: the opened image links it there, or an entry that is set does
linked_by_the_image : IsLinkedAt leafy [] (leaf_of 0) (block 79)
linked_by_the_image = inl refl

abbrev made_leaf : Logged
made_leaf = Makes (record { request = first; page = leaf_of 0; at = block 85 })

linked_by_an_entry : IsLinkedAt session (Sets made_leaf ∷ []) (leaf_of 0) (block 85)
linked_by_an_entry = inr (first, (0, omega arith, refl))

linked-not_before_it_is_set : IsLinkedAt session (Enters made_leaf ∷ []) (leaf_of 0) (block 85) → ⊥
linked-not_before_it_is_set (inl linked) = absurd cc
linked-not_before_it_is_set (inr made) = omega (arith, made.1.1)

linked-not_elsewhere : IsLinkedAt leafy took (leaf_of 0) (block 80) → ⊥
linked-not_elsewhere (inl linked) = let same : 79 ≡ 80 = ap (λ (b : Pbn). b.0) (same_Some _ _ linked) in absurd (omega (arith, same))
linked-not_elsewhere (inr made) = omega (arith, made.1.1)

-- IsLeafFor: the leaf of the address of a request stands there, and no slot of the address was set
leaf_for : IsLeafFor leafy took second (block 79)
leaf_for = record { asks = asks.Write; at = address 0; bytes = y; asked = refl; stands = inl refl; unset = refl }

leaf_for-not_another_block : IsLeafFor leafy took second (block 80) → ⊥
leaf_for-not_another_block leaf =
    let at = its_address leaf.asks leaf.at leaf.bytes leaf.asked in
    linked-not_elsewhere (subst (λ (a : ℕ). IsLinkedAt leafy took (leaf_of a) (block 80)) at leaf.stands)

leaf_for-not_where_a_slot_was_set : IsLeafFor leafy set second (block 79) → ⊥
leaf_for-not_where_a_slot_was_set leaf =
    let at = its_address leaf.asks leaf.at leaf.bytes leaf.asked in
    let unset = rw at at leaf.unset in
    absurd cc

leaf_for-not_where_none_is : IsLeafFor session took second (block 79) → ⊥
leaf_for-not_where_none_is leaf = elim leaf.stands [ inl linked ↦ absurd cc | inr made ↦ omega (arith, made.1.1) ]

leaf_for-not_what_is_not_asked : IsLeafFor leafy took (record second { stream = 3 }) (block 79) → ⊥
leaf_for-not_what_is_not_asked leaf = let none = leaf.asked in absurd cc

-- IsBlockFor: a read, whose address is mapped there by what was set, or by the opened image; all that where the session is fair
block_for : (s : Session) → s.script ≡ script → IsBlockFor s set reader (block 85)
block_for s is = (address 0, rw is refl, λ fair. refl)

block_for_opened : (s : Session) → s.script ≡ script → mapping_by s [] 0 ≡ At (block 90) → IsBlockFor s took reader (block 90)
block_for_opened s is opened = (address 0, rw is refl, λ fair. opened)

block_for-not_another_block : (s : Session) → s.script ≡ script → IsFair s set → IsBlockFor s set reader (block 86) → ⊥
block_for-not_another_block s is fair made =
    let asked : request.Read (address 0) ≡ request.Read made.0 = same_Some _ _ (rw is at made.1) in
    let at : 0 ≡ made.0.0 = ap read_at asked in
    let mapped = rw (sym at) at (made.2 fair) in
    let same : 85 ≡ 86 = ap block_at mapped in
    absurd (omega (arith, same))
  where
    read_at : Request → ℕ
    read_at (request.Read a) = a.0
    read_at other = 0

    block_at : Mapping → ℕ
    block_at (At b) = b.0
    block_at other = 0

block_for-not_for_a_write : IsBlockFor leafy set second (block 85) → ⊥
block_for-not_for_a_write made = let asked = made.1 in absurd cc

-- Harms: the leaf of an open request doesn't decode
abbrev leaf_bytes : List ℕ → PageFault → Type 0
leaf_bytes bytes fault = IsPageFault (leaf_head leafy.sizes.geometry 0 (block 79)) bytes fault

no_leaf : leaf_bytes [] Header
no_leaf = record {
  slot = 0;
  inside = omega arith;
  before = λ i below. absurd (omega (arith, below));
  of_slot = λ headed.
      let none : 0 ≡ length (head_bytes (leaf_head leafy.sizes.geometry 0 (block 79))) = ap (λ (bytes : List ℕ). length bytes) headed in
      let all = length-head (leaf_head leafy.sizes.geometry 0 (block 79)) in
      omega (arith, none, all);
}

abbrev May : Happening → Trace → Type 0
May h t = MayFollow leafy h t

abbrev harm : Happening
harm = Harms second (block 79) [] Header

harms : May harm took
unfolding leaf_for
harms = record { is_open = record { is_begun = omega arith; unanswered = refl }; leaf = leaf_for; damaged = no_leaf }

-- once more, though the session is stopped
harms_again : May harm (harm ∷ took)
harms_again = record { is_open = record { is_begun = omega arith; unanswered = refl }; leaf = record { asks = asks.Write; at = address 0; bytes = y; asked = refl; stands = inl refl; unset = refl }; damaged = no_leaf }

harms_while_open : May harm (Says (Answer second Stopped) ∷ took) → ⊥
harms_while_open may = let no = may.is_open.unanswered in absurd cc

harms_by_its_leaf : May (Harms second (block 80) [] Header) took → ⊥
harms_by_its_leaf may = leaf_for-not_another_block may.leaf

-- its first slot isn't at fault: the block begins otherwise
harms_with_its_fault : May (Harms second (block 79) [] (Compressed 0)) took → ⊥
harms_with_its_fault may =
    let damaged = may.damaged in
    let none : 0 ≡ length (head_bytes (leaf_head leafy.sizes.geometry may.leaf.at.0 (block 79))) = ap (λ (bytes : List ℕ). length bytes) damaged.of_slot.0 in
    let all = length-head (leaf_head leafy.sizes.geometry may.leaf.at.0 (block 79)) in
    absurd (omega (arith, none, all))

-- It is a read that succeeded, and stops the session; and so for its request alone
harm_called : (moments (harm ∷ []) ≡ Device (Read (block 79) [] true) ∷ []) × (calls (harm ∷ []) ≡ Read (block 79) [] true ∷ [])
harm_called = (refl, refl)

harm_stops : (has_stopped (harm ∷ took) ≡ true) × (has_stopped took ≡ false)
harm_stops = (refl, refl)

harmed_alone : (is_harmed (harm ∷ took) second ≡ true) × (is_harmed (harm ∷ took) first ≡ false) × (is_harmed (Fails second (Read (block 79) [] false) true ∷ took) second ≡ false)
harmed_alone = (refl, refl, refl)

harm_no_fault : has_read_fault (harm ∷ took) second ≡ false
harm_no_fault = refl

no_flush_after_harm : StopsAtFailure (Calls (Flush true) ∷ harm ∷ []) → ⊥
no_flush_after_harm may = let goes_on = may.0 refl in absurd cc

a_read_after_harm : StopsAtFailure (Calls (Read (block 85) x true) ∷ harm ∷ [])
a_read_after_harm = ((λ is. absurd cc), tt)

-- damage_in: the first that was found
no_damage : damage_in took ≡ None
no_damage = refl

first_damage : damage_in (Harms first (block 80) [] (Compressed 3) ∷ harm ∷ took) ≡ Some (Page (block 79) Header)
first_damage = refl

first_of_two : (first_of None (Page (block 79) Header) ≡ Some (Page (block 79) Header)) × (first_of (Some (Page (block 80) Header)) (Page (block 79) Header) ≡ Some (Page (block 80) Header))
first_of_two = (refl, refl)

-- mapping_by: what was set last, and else what the opened image maps
mapped_by_a_write : (s : Session) → mapping_by s (applied set) 0 ≡ At (block 85)
mapped_by_a_write s = refl

mapped_as_opened : (s : Session) → mapping_by s (applied set) 1 ≡ mapping_by s [] 1
mapped_as_opened s = refl

-- NeedsLeaf: the leaf of its address stands at this block of the image, and no slot of it was set
needs : NeedsLeaf leafy took 0 (Some (block 79)) None
needs = record { at = block 79; block_is = refl; stands = inl refl; leaf = inr refl; inside = omega arith; unset = refl; latest = refl }

needs-not_another_block : NeedsLeaf leafy took 0 (Some (block 80)) None → ⊥
needs-not_another_block is =
    let at : 80 ≡ is.at.0 = ap (λ (b : Pbn). b.0) (same_Some _ _ is.block_is) in
    elim is.stands [
      | inl linked ↦ let stands : 79 ≡ is.at.0 = ap (λ (b : Pbn). b.0) (same_Some _ _ linked) in absurd (omega (arith, at, stands))
      | inr made ↦ omega (arith, made.1.1)
    ]

needs-not_none : NeedsLeaf leafy took 0 None None → ⊥
needs-not_none is = let none = is.block_is in absurd cc

needs-not_a_block_outside : NeedsLeaf (record leafy { links = λ page. Some (block 999) }) took 0 (Some (block 999)) None → ⊥
needs-not_a_block_outside is =
    let leaf : 999 ≡ is.at.0 = ap (λ (b : Pbn). b.0) (same_Some _ _ is.block_is) in
    let inside = is.inside in
    absurd (omega (arith, leaf, inside))

needs-not_where_a_slot_was_set : NeedsLeaf leafy set 0 (Some (block 79)) None → ⊥
needs-not_where_a_slot_was_set is = let unset = is.unset in absurd cc

needs-not_behind_a_write : NeedsLeaf leafy took 0 (Some (block 79)) (Some of_first) → ⊥
needs-not_behind_a_write is = let latest = is.latest in absurd cc

-- HasLeaf: it has its turn, and a mapping to a data block or to none, which is right where the session is fair; its leaf is there, and
-- no slot of its address was set
abbrev seconds_turn : Turn
seconds_turn = record { request = second; asks = asks.Write; at = address 0; place = 1 }

turn : (s : Session) → s.sizes.zones ≡ 2 → HasTurn s drawn seconds_turn
turn s zones = record { is_placed = record { for_block = tt; placed = rw zones refl; not_entered = refl }; quiet = record { all_committed = refl; all_done = refl }; below = record { writes = tt; reads = tt } }

has : (s : Session) → s.sizes ≡ leafy.sizes → s.links ≡ leafy.links → mapping_by s [] 0 ≡ Zero → HasLeaf s drawn seconds_turn Zero None
has s sizes links maps = record { held = record { turn = turn s (rw sizes refl); old_data = tt; old_is = λ fair. sym maps }; leaf = rw links (inr refl); unset = refl; latest = refl }

has-not_another_mapping : (s : Session) → IsFair s drawn → mapping_by s [] 0 ≡ Zero → HasLeaf s drawn seconds_turn Unmapped None → ⊥
has-not_another_mapping s fair maps is = absurd (let both = is.held.old_is fair ∙ maps in cc)

has-not_elsewhere : HasLeaf leafy drawn seconds_turn (At (block 78)) None → ⊥
has-not_elsewhere is = let stands = is.held.old_data.stands in absurd (omega (arith, stands))

has-not_out_of_turn : HasLeaf leafy [] seconds_turn Zero None → ⊥
has-not_out_of_turn is = let placed = is.held.turn.is_placed.placed in absurd cc

has-not_without_a_leaf : HasLeaf session drawn seconds_turn Zero None → ⊥
has-not_without_a_leaf is = elim is.leaf [ inl level ↦ absurd (omega (arith, level)) | inr some ↦ absurd cc ]

has-not_where_a_slot_was_set : HasLeaf leafy set seconds_turn Zero None → ⊥
has-not_where_a_slot_was_set is = let unset = is.unset in absurd cc

has-not_behind_a_write : HasLeaf leafy drawn seconds_turn Zero (Some of_first) → ⊥
has-not_behind_a_write is = let latest = is.latest in absurd cc

-- MapOk: each slot that is set maps its address to a data block, or to none
maps_to_data : MapOk leafy (of_first ∷ record of_first { new = Zero } ∷ [])
maps_to_data = (record { slab = 0; offset = 6; inside = (omega arith, omega arith); stands = refl }, (tt, tt))

maps-not_elsewhere : MapOk leafy (record of_first { new = At (block 78) } ∷ []) → ⊥
maps-not_elsewhere is = let stands = is.0.stands in absurd (omega (arith, stands))
