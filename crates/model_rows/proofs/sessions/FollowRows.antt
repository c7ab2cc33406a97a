-- Which happening may follow: for each one a trace that it may follow, and for each of its conditions one that breaks it.
use Rattle.std.proofs.Common.{None, ℕ, zero, suc, length-append, ◌≡◌, ◌≢◌, ◌+◌, ◌<◌, true, false, List, [], ◌∷◌, ◌++◌, Some, length, refl, ap, sym, ◌∙◌, subst, inl, inr, arith, replicate}
use Rattle.std.proofs.lemmas.List.{length-replicate}
use Rattle.std.proofs.lemmas.Option.{same_Some}
use Rattle.blk_base.specs.Pages.{leaf_of}
use Rattle.blk_base.specs.Sectors.{zero_block}
use Rattle.blk_base.specs.declared.place.Mapping.{Mapping}
use Rattle.blk_base.specs.declared.place.Mapping.TheVariants.{Unmapped, Zero, At}
use Rattle.blk_base.specs.declared.request.Answer.TheVariants.{Ok, Stopped}
use Rattle.blk_base.specs.declared.request.Request.{Request}
use Rattle.blk_base.specs.declared.request.Request.TheVariants as request
use Rattle.disk_model.specs.declared.call.Call.TheVariants.{Read, Write, Flush}
use Rattle.vdo_model.specs.FlushMarks.{Moment, Desk, Device}
use Rattle.vdo_model.specs.declared.report.DeskLine.TheVariants.{Begin, Answer}
use Rattle.blk_base.specs.declared.place.Lba.{Lba}
use Rattle.blk_base.specs.declared.place.PageId.{PageId}
use Rattle.blk_base.specs.declared.place.Pbn.{Pbn}
use Rattle.blk_base.specs.Forms.{writer, lba as address, pbn as block}
use Rattle.blk_base.proofs.Example.{leaf}
use Rattle.blk_base.proofs.PageIdLaws.{same_block}
use Rattle.plain_laws.proofs.OptionLaws.{some_of}
use Rattle.data_vio.specs.declared.logged.Logged.TheVariants.{Remaps, Makes}
use Rattle.data_vio.specs.declared.items.Asks.{Asks}
use Rattle.data_vio.specs.declared.items.Asks.TheVariants as asks
use Rattle.core_model.specs.PageLinks.{MayLack, page_in}
use Rattle.core_model.specs.RightTraces.{AreElsewhere, IsLeafFor, IsLeafy, IsLinkedAt, IsUnused, MapsTo, MayAnswer, MayFollow, NeedsBlock, NeedsPage, StopsAtFailure}
use Rattle.core_model.specs.Sessions.{IsFair, OnBlock, Session, opened_at}
use Rattle.core_model.specs.CountUpdates.{CountUpdate, Increment, Decrement}
use Rattle.core_model.specs.Uses.{gained, lost, uncounted}
use Rattle.core_model.specs.Uses as Uses
use Rattle.vdo_model.specs.declared.report.Damage.{Damage}
use Rattle.vdo_model.specs.declared.report.Damage.TheVariants.{Stray}
use Rattle.core_model.specs.Superblocks.{session_super, superblock_bytes}
use Rattle.image_layout.specs.Superblock.{super_block, super_bytes}
use Rattle.data_vio.specs.Vios.{asked}
use Rattle.data_vio.specs.declared.logged.Logged.{Logged}
use Rattle.data_vio.specs.declared.logged.Remapping.{Remapping}
use Rattle.data_vio.specs.declared.logged.NewPage.{NewPage}
use Rattle.core_model.specs.Trace.{applied, filled, new_of, Says, Flushes, Draws, Enters, Seals, Commits, Sets, Gives, Takes, Drops, Adds, Removes, Strays, Hears, Aborts, Calls, Fails, Trace, Happening}
use Rattle.core_model.proofs.WorkedTraces.{in_first_zone, leafy, x, y, first, reader, second, other, late, flush, sizes, begun, drawn, took, handed_in, in_block, lasting, counted, set, stopped, place, entry, of_first, of_second, of_other, given, one_not_zeros, two_not_zeros}

-- the session, with a journal that takes two blocks; and without leaves
abbrev pub roomy : Session
roomy = record leafy { sizes = record sizes { geometry = record sizes.geometry { journal = 3 } } }

abbrev bare : Session
bare = record roomy { links = λ page. None }

-- a session of one request
abbrev session_of : Request → Session
session_of asked = record roomy { script = (asked ∷ []) ∷ [] }

abbrev pub May : Happening → Trace → Type 0
May h t = MayFollow roomy h t

abbrev first_new : List Logged → Mapping
first_new [] = Unmapped
first_new (e ∷ es) = new_of e

abbrev address_in : Request → ℕ
address_in (request.Read a) = a.0
address_in (request.Write a bytes fua) = a.0
address_in (request.Discard a) = a.0
address_in request.Flush = 0

abbrev bytes_in : Request → List ℕ
bytes_in (request.Write a bytes fua) = bytes
bytes_in other = []

-- A line: a request is begun once, in its turn, while fewer than two of its stream are under way ..
begins : May (Says (Begin first)) []
begins = (refl, refl, omega arith)

begins_in_turn : May (Says (Begin reader)) [] → ⊥
begins_in_turn may = let turn = may.0 in absurd (omega (arith, turn))

begins_of_the_script : May (Says (Begin (writer 3 0))) [] → ⊥
begins_of_the_script may = let no = may.1 in absurd cc

begins_below_depth : May (Says (Begin late)) begun → ⊥
begins_below_depth may = let below = may.2 in absurd (omega (arith, below))

-- .. and answered once, for a cause.
answers : May (Says (Answer first Ok)) set
answers = ((omega arith, refl), λ r is. subst (λ (asked : Request). MayAnswer roomy set first asked Ok) (same_Some _ _ is) refl)

answers_what_is_begun : May (Says (Answer late Ok)) set → ⊥
answers_what_is_begun may = let before = may.0.0 in absurd (omega (arith, before))

answers_once : May (Says (Answer first Ok)) (Says (Answer first Ok) ∷ set) → ⊥
answers_once may = let no = may.0.1 in absurd cc

answers_for_a_cause : May (Says (Answer first Ok)) lasting → ⊥
answers_for_a_cause may = let no = may.1 (request.Write (address 0) x false) refl in absurd cc

-- A flush is answered Ok with its mark.
flushes : May (Flushes (record { request = flush; calls = 1 })) (Calls (Flush true) ∷ begun)
flushes = ((omega arith, refl), refl, record { later = []; older = Desk (Begin flush) ∷ Desk (Begin other) ∷ Desk (Begin second) ∷ Desk (Begin reader) ∷ Desk (Begin first) ∷ []; at = refl; calls = refl; begun_by_then = omega arith; not_answered = refl })

flushes_a_flush : May (Flushes (record { request = first; calls = 1 })) (Calls (Flush true) ∷ begun) → ⊥
flushes_a_flush may = let asked = may.1 in absurd cc

flushes_once : May (Flushes (record { request = flush; calls = 1 })) (Flushes (record { request = flush; calls = 1 }) ∷ Calls (Flush true) ∷ begun) → ⊥
flushes_once may = let no = may.0.1 in absurd cc

flushes_by_the_device : May (Flushes (record { request = flush; calls = 1 })) (Says (Begin flush) ∷ []) → ⊥
flushes_by_the_device may = no_call may.2.later may.2.older may.2.at
  where
    no_call : (later older : List Moment) → Desk (Begin flush) ∷ [] ≡ later ++ (Device (Flush true) ∷ older) → ⊥
    no_call [] older is = absurd cc
    no_call (m ∷ []) older is = absurd cc
    no_call (m ∷ m' ∷ rest) older is = absurd cc

-- A place is drawn once, by a request that is begun and not answered, in its zone, as the next number there, in the order of its
-- stream.
draws : May (Draws (place second 0 1)) (Draws (place first 0 0) ∷ begun)
draws = record {
  is_open = record { is_begun = omega arith; unanswered = refl };
  next = record {
    number = refl;
    once = refl;
    zone = (request.Write (address 0) y false, 0, refl, refl, omega arith, refl);
    order = (λ same. record { stream = λ one. absurd (omega (arith, one)); answered = refl }, tt);
  };
  not_entered = refl;
}

draws_once_begun : May (Draws (place late 0 0)) begun → ⊥
draws_once_begun may = let before = may.is_open.is_begun in absurd (omega (arith, before))

draws_unanswered : May (Draws (place first 0 0)) (Says (Answer first Stopped) ∷ begun) → ⊥
draws_unanswered may = let no = may.is_open.unanswered in absurd cc

draws_the_next : May (Draws (place second 0 2)) (Draws (place first 0 0) ∷ begun) → ⊥
draws_the_next may = let number = may.next.number in absurd (omega (arith, number))

draws_once : May (Draws (place first 0 1)) (Draws (place first 0 0) ∷ begun) → ⊥
draws_once may = let no = may.next.once in absurd cc

draws_of_blocks_alone : May (Draws (place flush 0 0)) begun → ⊥
draws_of_blocks_alone may = let asked = may.next.zone.2 in let address = may.next.zone.3 in absurd (let same = same_Some _ _ asked in let e = rw (← same) at address in cc)

draws_in_order : May (Draws (place first 0 1)) (Draws (place reader 0 0) ∷ begun) → ⊥
draws_in_order may = let less = (may.next.order.0 refl).stream refl in absurd (omega (arith, less))

draws_before_it_enters : May (Draws (place first 0 0)) (Enters (Remaps of_first) ∷ begun) → ⊥
draws_before_it_enters may = let no = may.not_entered in absurd cc

-- A write that isn't of zeros claims a free data block, and one alone.
takes : May (Takes second None (block 86)) took
takes = record {
  is_open = record { is_begun = omega arith; unanswered = refl };
  asked = (address 0, y, refl, record { not_zeros = two_not_zeros; none_taken = refl });
  is_data = record { slab = 0; offset = 6; inside = (omega arith, omega arith); stands = refl };
  is_free = refl;
}

takes_one_alone : May (Takes first None (block 86)) took → ⊥
takes_one_alone may = let none = may.asked.3.none_taken in absurd cc

takes_none_for_zeros : MayFollow (session_of (request.Write (address 0) zero_block false)) (Takes first None (block 85)) begun → ⊥
takes_none_for_zeros may =
    let asked : request.Write (address 0) zero_block false ≡ request.Write may.asked.0 may.asked.1 false = same_Some _ _ may.asked.2 in
    absurd (may.asked.3.not_zeros (sym (ap bytes_in asked)))

-- or for a page that it lacks, while the one above it is there, and no entry puts it anywhere
abbrev made : Logged
made = Makes (record { request = first; page = leaf; at = block 85 })

needs_page : NeedsPage bare took second leaf
needs_page = record { lacked = (request.Write (address 0) y false, refl, (refl, omega arith)); up = inl refl; unmade = refl; none_taken = refl }

takes_for_a_page : MayFollow bare (Takes second (Some leaf) (block 86)) took
takes_for_a_page = record {
  is_open = record { is_begun = omega arith; unanswered = refl };
  asked = needs_page;
  is_data = record { slab = 0; offset = 6; inside = (omega arith, omega arith); stands = refl };
  is_free = refl;
}

takes_for_what_it_lacks : NeedsPage bare took second (record leaf { tree = 1 }) → ⊥
takes_for_what_it_lacks needs =
    let asked : request.Write (address 0) y false ≡ needs.lacked.0 = same_Some _ _ needs.lacked.1 in
    let lacked = subst (λ (r : Request). MayLack 2 r (record leaf { tree = 1 })) (sym asked) needs.lacked.2 in
    let tree : 1 ≡ 0 = ap (λ (p : PageId). p.tree) lacked.0 in
    absurd (omega (arith, tree))

takes_below_what_is_there : NeedsPage (record bare { sizes = record bare.sizes { geometry = record bare.sizes.geometry { height = 3 } } }) took second leaf → ⊥
takes_below_what_is_there needs = elim needs.up [ inl level ↦ absurd (omega (arith, level)) | inr some ↦ absurd cc ]

takes_for_no_page_twice : NeedsPage bare (Enters made ∷ took) second leaf → ⊥
takes_for_no_page_twice needs = let no = needs.unmade in absurd cc

takes_one_for_a_page : NeedsPage bare (Takes second (Some leaf) (block 86) ∷ took) second leaf → ⊥
takes_one_for_a_page needs = let no = needs.none_taken in absurd cc

-- that it took one for a page is no matter to its data
takes_for_its_data_too : NeedsBlock (Takes second (Some leaf) (block 86) ∷ took) second y
takes_for_its_data_too = record { not_zeros = two_not_zeros; none_taken = refl }

takes_while_open : May (Takes second None (block 86)) (Says (Answer second Stopped) ∷ took) → ⊥
takes_while_open may = let no = may.is_open.unanswered in absurd cc

takes_for_a_write : May (Takes reader None (block 86)) took → ⊥
takes_for_a_write may = let asked = may.asked.2 in absurd cc

takes_no_block_twice : May (Takes second None (block 85)) took → ⊥
takes_no_block_twice may = let free = may.is_free in absurd (omega (arith, free))

takes_a_data_block : May (Takes other None (block 78)) took → ⊥
takes_a_data_block may = let stands = may.is_data.stands in absurd (omega (arith, stands))

-- nor one that was mapped when the session began; and once its claim is dropped it is free again
takes_no_mapped_one : MayFollow (record roomy { counters = replicate 64 1 }) (Takes second None (block 86)) took → ⊥
takes_no_mapped_one may = let free = may.is_free in absurd (omega (arith, free))

takes_a_dropped_one : May (Takes second None (block 85)) (Drops first (block 85) None ∷ took)
takes_a_dropped_one = record {
  is_open = record { is_begun = omega arith; unanswered = refl };
  asked = (address 0, y, refl, record { not_zeros = two_not_zeros; none_taken = refl });
  is_data = record { slab = 0; offset = 5; inside = (omega arith, omega arith); stands = refl };
  is_free = refl;
}

-- A claim is dropped that somebody has, of an open request.
drops : May (Drops first (block 85) None) took
drops = (record { is_begun = omega arith; unanswered = refl }, record { is_data = record { slab = 0; offset = 5; inside = (omega arith, omega arith); stands = refl }; some = omega arith; passes = λ free number waits. cc })

drops_while_open : May (Drops first (block 85) None) (Says (Answer first Stopped) ∷ took) → ⊥
drops_while_open may = let no = may.0.unanswered in absurd cc

drops_what_is_claimed : May (Drops second (block 86) None) took → ⊥
drops_what_is_claimed may = let some = may.1.some in absurd (omega (arith, some))

drops_a_data_block : May (Drops first (block 78) None) took → ⊥
drops_a_data_block may = let stands = may.1.is_data.stands in absurd (omega (arith, stands))

-- An increment is taken once it is committed, of an open request, in the order of updates.
adds : May (Adds (Remaps of_first)) lasting
adds = record { is_open = record { is_begun = omega arith; unanswered = refl }; next = record { zone = 0; own = refl; rest = []; next = refl } }

adds_while_open : May (Adds (Remaps of_first)) (Says (Answer first Stopped) ∷ lasting) → ⊥
adds_while_open may = let no = may.is_open.unanswered in absurd cc

adds_what_is_committed : May (Adds (Remaps of_first)) in_block → ⊥
adds_what_is_committed may = let all = ap length (in_first_zone roomy.sizes _ _ _ (block 85) refl refl may.next).1 in absurd (omega (arith, all))

adds_once : May (Adds (Remaps of_first)) counted → ⊥
adds_once may = let all = ap length (in_first_zone roomy.sizes _ _ _ (block 85) refl refl may.next).1 in absurd (omega (arith, all))

-- the second write is committed and counted, which replaces the block of the first one
abbrev both_last : Trace
both_last = Commits (Remaps of_second) ∷ Seals ∷ Enters (Remaps of_second) ∷ Takes second None (block 86) ∷ set

abbrev pub both : Trace
both = Adds (Remaps of_second) ∷ both_last

-- A decrement is taken behind the increment of its entry, where a mapping of its block was counted.
removes : May (Removes of_second None) both
removes = record {
  next = record { zone = 0; own = refl; rest = []; next = refl };
  block = block 85;
  old_is = refl;
  loss = record { is_data = record { slab = 0; offset = 5; inside = (omega arith, omega arith); stands = refl }; some = omega arith; passes = λ free number waits. cc };
}

abbrev second_kind : List CountUpdate → ℕ
second_kind (u ∷ Increment e ∷ us) = 0
second_kind (u ∷ Decrement e ∷ us) = 1
second_kind us = 2

removes_behind_its_increment : May (Removes of_second None) both_last → ⊥
removes_behind_its_increment may = let kind : 0 ≡ 1 = ap second_kind (in_first_zone roomy.sizes _ _ _ (block 85) refl refl may.next).1 in absurd (omega (arith, kind))

removes_from_a_block : May (Removes of_first None) set → ⊥
removes_from_a_block may = let old = may.old_is in absurd cc

-- or it finds 0
abbrev of_stray : Remapping
of_stray = entry second 0 1 (At (block 90)) 86

abbrev astray : Trace
astray = Adds (Remaps of_stray) ∷ Commits (Remaps of_stray) ∷ Seals ∷ Enters (Remaps of_stray) ∷ Takes second None (block 86) ∷ set

strays : May (Strays of_stray) astray
strays = record { next = record { zone = 0; own = refl; rest = []; next = refl }; block = block 90; old_is = refl; none_counted = refl }

removes_what_is_counted : May (Removes of_stray None) astray → ⊥
removes_what_is_counted may =
    let some = subst (λ (b : Pbn). lost astray b < gained roomy astray b) (sym (same_block (block 90) may.block may.old_is)) may.loss.some in absurd (omega (arith, some))

strays_where_none_is_counted : May (Strays of_second) both → ⊥
strays_where_none_is_counted may =
    let none = subst (λ (b : Pbn). Uses.counted roomy both b ≡ uncounted both b) (sym (same_block (block 85) may.block may.old_is)) may.none_counted in absurd (omega (arith, none))

-- the device's zone is told of that
hears : May (Hears (Stray (block 90) 0)) (Strays of_stray ∷ astray)
hears = record { entry = of_stray; strays = (0, omega arith, refl); block = block 90; old_is = refl; damage_is = refl }

hears_of_nothing : May (Hears (Stray (block 90) 0)) astray → ⊥
hears_of_nothing may = omega (arith, may.strays.1)

count_of : Damage → ℕ
count_of (Stray at count) = count
count_of other = 0

hears_what_it_is : May (Hears (Stray (block 90) 1)) (Strays of_stray ∷ astray) → ⊥
unfolding count_of
hears_what_it_is may = let count : 1 ≡ 0 = ap count_of may.damage_is in absurd (omega (arith, count))

-- An entry is handed in once, of a write that has its place; those of its address are done, nothing at its address has a later
-- place, a block of the journal is left for it, which has room, and it says what its address was mapped to.
enters : May (Enters (Remaps of_second)) set
enters = record {
  is_open = record { is_begun = omega arith; unanswered = refl };
  is_write = record { asks = asks.Write; bytes = y; asked = refl; maps = tt; placed = refl };
  once = refl;
  quiet = record { all_committed = refl; all_done = refl };
  below = record { writes = ((λ same. omega arith), tt); reads = tt };
  left = omega arith;
  room = omega arith;
  new_data = record { slab = 0; offset = 6; inside = (omega arith, omega arith); stands = refl };
  unused = λ fair. absurd (omega (arith, fair.opened.room));
  leaf = inr refl;
  old_data = record { slab = 0; offset = 5; inside = (omega arith, omega arith); stands = refl };
  old_is = λ fair. absurd (omega (arith, fair.opened.room));
}

-- IsLeafy: the image links the leaf, or an entry of the session that is set
opened_leafy : IsLeafy roomy [] 0
opened_leafy = inr refl

made_leafy : IsLeafy bare (Sets made ∷ []) 0
made_leafy = inr refl

no_leaf : (t : Trace) → page_in (λ page. None) (applied t) (leaf_of 0) ≡ None → IsLeafy bare t 0 → ⊥
no_leaf t none (inl level) = absurd (omega (arith, level))
no_leaf t none (inr some) = absurd (let is = some_of _ some in let both = sym is.1 ∙ none in cc)

enters_below_its_leaf : MayFollow bare (Enters (Remaps of_second)) set → ⊥
enters_below_its_leaf may = no_leaf set refl may.leaf

-- where the session is fair, to a block that nobody maps: no address, no entry that isn't committed, and no page
enters_a_block_that_nobody_maps : (s : Session) → IsFair s set → MayFollow s (Enters (Remaps (record of_second { new = At (block 85) }))) set → ⊥
enters_a_block_that_nobody_maps s fair may = (may.unused fair).unmapped 0 refl

unused : (s : Session) → ((a : ℕ) → OnBlock (λ y. 86 ≢ y.0) (opened_at s a)) → ((page : PageId) (y : Pbn) → page.level + 1 < s.sizes.geometry.height → s.links page ≡ Some y → 86 ≢ y.0) → IsUnused s took (block 86)
unused s apart no_page = record { newer = []; parts = refl; unmapped = apart; unnamed = tt; no_page = no_page; no_new_page = λ p has. let below = has.1 in absurd (omega (arith, below)) }

unused-not_of_an_entry : (s : Session) → IsUnused s handed_in (block 85) → ⊥
unused-not_of_an_entry s is = by is.newer is.parts is.unnamed
  where
    by : (newer : List Logged) → Remaps of_first ∷ [] ≡ newer ++ [] → AreElsewhere 85 newer → ⊥
    by [] parts apart = absurd (let all = ap length parts in omega (arith, all))
    by (Remaps e ∷ newer) parts apart = let same : of_first.new ≡ e.new = ap (λ (es : List Logged). first_new es) parts in subst (OnBlock (λ y. 85 ≢ y.0)) (sym same) apart.0 refl
    by (Makes p ∷ newer) parts apart = let same : At (block 85) ≡ At p.at = ap (λ (es : List Logged). first_new es) parts in subst (OnBlock (λ y. 85 ≢ y.0)) (sym same) apart.0 refl

unused-not_with_a_page : (s : Session) (page : PageId) → page.level + 1 < s.sizes.geometry.height → s.links page ≡ Some (block 86) → IsUnused s took (block 86) → ⊥
unused-not_with_a_page s page low linked is = is.no_page page (block 86) low linked refl

unused-not_with_a_new_page : (s : Session) (p : NewPage) → IsUnused s (Commits (Makes p) ∷ Enters (Makes p) ∷ []) p.at → ⊥
unused-not_with_a_new_page s p is = is.no_new_page p (0, omega arith, refl) refl

enters_while_open : May (Enters (Remaps of_second)) (Says (Answer second Stopped) ∷ set) → ⊥
enters_while_open may = let no = may.is_open.unanswered in absurd cc

enters_as_asked : May (Enters (Remaps (entry first 812 0 Unmapped 85))) took → ⊥
enters_as_asked may = at_its_address may.is_write.asks may.is_write.bytes may.is_write.asked
  where
    at_its_address : (what : Asks) (bytes : List ℕ) → Some (request.Write (address 0) x false) ≡ Some (asked what (address 812) bytes) → ⊥
    at_its_address asks.Write bytes is = let same = ap address_in (same_Some _ _ is) in absurd (omega (arith, same))
    at_its_address asks.Read bytes is = absurd cc
    at_its_address asks.Discard bytes is = absurd cc
    at_its_address asks.Flush bytes is = absurd cc

-- It maps its address to a block, or to zeros where the bytes are; that of a discard to nothing.
enters_zeros : MayFollow (session_of (request.Write (address 0) zero_block false)) (Enters (Remaps (record of_first { new = Zero }))) drawn
enters_zeros = record {
  is_open = record { is_begun = omega arith; unanswered = refl };
  is_write = record { asks = asks.Write; bytes = zero_block; asked = refl; maps = refl; placed = refl };
  once = refl;
  quiet = record { all_committed = refl; all_done = refl };
  below = record { writes = tt; reads = tt };
  left = omega arith;
  room = omega arith;
  new_data = tt;
  unused = λ fair. tt;
  leaf = inr refl;
  old_data = tt;
  old_is = λ fair. absurd (omega (arith, fair.opened.room));
}

enters_a_discard : MayFollow (session_of (request.Discard (address 0))) (Enters (Remaps (record of_first { new = Unmapped }))) drawn
enters_a_discard = record {
  is_open = record { is_begun = omega arith; unanswered = refl };
  is_write = record { asks = asks.Discard; bytes = zero_block; asked = refl; maps = tt; placed = refl };
  once = refl;
  quiet = record { all_committed = refl; all_done = refl };
  below = record { writes = tt; reads = tt };
  left = omega arith;
  room = omega arith;
  new_data = tt;
  unused = λ fair. tt;
  leaf = inr refl;
  old_data = tt;
  old_is = λ fair. absurd (omega (arith, fair.opened.room));
}

-- no write of other bytes maps to zeros, no write to nothing, no discard to a block or to zeros, and a read to nothing at all
maps_of_zeros_alone : MapsTo asks.Write x Zero → ⊥
maps_of_zeros_alone may = one_not_zeros may

maps_a_write : MapsTo asks.Write x Unmapped → ⊥
maps_a_write may = may

maps_a_discard : (MapsTo asks.Discard x (At (block 85)) → ⊥) × (MapsTo asks.Discard zero_block Zero → ⊥)
maps_a_discard = (λ may. may, λ may. may)

maps_no_read : (new : Mapping) → MapsTo asks.Read x new → ⊥
maps_no_read Unmapped may = may
maps_no_read Zero may = may
maps_no_read (At b) may = may

enters_at_its_place : May (Enters (Remaps (entry second 0 5 (At (block 85)) 86))) set → ⊥
enters_at_its_place may = let placed : 1 ≡ 5 = ap (λ p. p.place) (same_Some _ _ may.is_write.placed) in absurd (omega (arith, placed))

enters_once : May (Enters (Remaps of_first)) set → ⊥
enters_once may = let no = may.once in absurd cc

enters_beside_another : May (Enters (Remaps of_other)) handed_in
enters_beside_another = record {
  is_open = record { is_begun = omega arith; unanswered = refl };
  is_write = record { asks = asks.Write; bytes = y; asked = refl; maps = tt; placed = refl };
  once = refl;
  quiet = record { all_committed = refl; all_done = refl };
  below = record { writes = tt; reads = tt };
  left = omega arith;
  room = omega arith;
  new_data = record { slab = 0; offset = 6; inside = (omega arith, omega arith); stands = refl };
  unused = λ fair. absurd (omega (arith, fair.opened.room));
  leaf = inr refl;
  old_data = tt;
  old_is = λ fair. absurd (omega (arith, fair.opened.room));
}

-- a trace with so many entries in the block being filled
abbrev filling : ℕ → Trace
filling zero = set
filling (suc n) = Enters (Remaps of_other) ∷ filling n

filled_with : (n : ℕ) → length (filled (filling n)) ≡ n
filled_with zero = refl
filled_with (suc n) = ap suc (filled_with n)

enters_where_there_is_room : May (Enters (Remaps of_second)) (filling 192) → ⊥
enters_where_there_is_room may = let room = may.room in absurd (omega (arith, room, filled_with 192))

enters_behind_a_slot : May (Enters (Remaps of_second)) lasting → ⊥
enters_behind_a_slot may = let quiet = ap length may.quiet.all_done in absurd (omega (arith, quiet))

enters_behind_a_write : May (Enters (Remaps (entry first 0 0 (At (block 86)) 85))) (Sets (Remaps of_second) ∷ Commits (Remaps of_second) ∷ Enters (Remaps of_second) ∷ took) → ⊥
enters_behind_a_write may = let below = may.below.writes.0 refl in absurd (omega (arith, below))

enters_behind_a_read : May (Enters (Remaps of_first)) (Gives (given 2) ∷ took) → ⊥
enters_behind_a_read may = let below = may.below.reads.0 refl in absurd (omega (arith, below))

enters_while_a_block_is_left : May (Enters (Remaps of_other)) (Sets (Remaps of_second) ∷ Commits (Remaps of_second) ∷ Seals ∷ Enters (Remaps of_second) ∷ set) → ⊥
enters_while_a_block_is_left may = let left = may.left in absurd (omega (arith, left))

enters_of_a_data_block : May (Enters (Remaps (record of_second { new = At (block 78) }))) set → ⊥
enters_of_a_data_block may = let stands = may.new_data.stands in absurd (omega (arith, stands))

enters_from_a_data_block : May (Enters (Remaps (entry second 0 1 (At (block 78)) 86))) set → ⊥
enters_from_a_data_block may = let stands = may.old_data.stands in absurd (omega (arith, stands))

-- where the session is fair, from what its address is mapped to
enters_with_the_mapping : (s : Session) → IsFair s set → MayFollow s (Enters (Remaps (entry second 0 1 Unmapped 86))) set → ⊥
enters_with_the_mapping s fair may = let old = may.old_is fair in absurd cc

-- The block being filled is sealed where it has an entry, all those of the others are committed, and a block of the journal is
-- left for it.
seals : May Seals handed_in
seals = record { some = omega arith; all_committed = refl; left = omega arith }

seals_no_empty_one : May Seals took → ⊥
seals_no_empty_one may = let some = may.some in absurd (omega (arith, some))

seals_behind_a_committed_one : May Seals (Enters (Remaps of_other) ∷ in_block) → ⊥
seals_behind_a_committed_one may = let all = ap length may.all_committed in absurd (omega (arith, all))

seals_while_a_block_is_left : May Seals (Enters (Remaps of_other) ∷ Sets (Remaps of_second) ∷ Commits (Remaps of_second) ∷ Seals ∷ Enters (Remaps of_second) ∷ set) → ⊥
seals_while_a_block_is_left may = let left = may.left in absurd (omega (arith, left))

-- An entry is committed once, in a sealed block, and in their order.
commits : May (Commits (Remaps of_first)) in_block
commits = record { is_open = record { is_begun = omega arith; unanswered = refl }; rest = []; next = refl }

commits_while_open : May (Commits (Remaps of_first)) (Says (Answer first Stopped) ∷ in_block) → ⊥
commits_while_open may = let no = may.is_open.unanswered in absurd cc

commits_what_is_sealed : May (Commits (Remaps of_first)) handed_in → ⊥
commits_what_is_sealed may = let all = ap length may.next in let parts = length-append may.rest (Remaps of_first ∷ []) in absurd (omega (arith, all, parts))

commits_once : May (Commits (Remaps of_first)) lasting → ⊥
commits_once may = let all = ap length may.next in let parts = length-append may.rest (Remaps of_first ∷ Remaps of_first ∷ []) in absurd (omega (arith, all, parts))

abbrev the_second : List Logged → ℕ
the_second (e ∷ Remaps f ∷ []) = f.at.0
the_second es = 0

commits_in_order : May (Commits (Remaps of_other)) (Seals ∷ Enters (Remaps of_other) ∷ handed_in) → ⊥
commits_in_order may = by may.rest may.next
  where
    by : (rest : List Logged) → Remaps of_other ∷ Remaps of_first ∷ [] ≡ rest ++ Remaps of_other ∷ [] → ⊥
    by [] is = let all = ap length is in absurd (omega (arith, all))
    by (e ∷ []) is = let all : 0 ≡ 812 = ap the_second is in absurd (omega (arith, all))
    by (e ∷ f ∷ rest) is = let all = ap length is in let parts = length-append rest (Remaps of_other ∷ []) in absurd (omega (arith, all, parts))

-- A slot is set once, when its entry is committed and none of its address is under way, behind whatever its address had, and not
-- once it is aborted.
sets : May (Sets (Remaps of_first)) counted
sets = record {
  is_open = record { is_begun = omega arith; unanswered = refl };
  is_committed = record { all_committed = refl; last = refl };
  below = record { writes = tt; reads = tt };
  unaborted = refl;
  leaf = inr refl;
  counted = (0, omega arith, refl);
  reported = tt;
}

-- once its increment is taken, and where it replaces a block, its decrement, or that found 0
sets_what_is_counted : May (Sets (Remaps of_first)) lasting → ⊥
sets_what_is_counted may = omega (arith, may.counted.1)

sets_once_removed : May (Sets (Remaps of_second)) (Removes of_second None ∷ both)
sets_once_removed = record {
  is_open = record { is_begun = omega arith; unanswered = refl };
  is_committed = record { all_committed = refl; last = refl };
  below = record { writes = ((λ same. omega arith), tt); reads = tt };
  unaborted = refl;
  leaf = inr refl;
  counted = (0, omega arith, refl);
  reported = inl (0, omega arith, refl);
}

sets_what_is_reported : May (Sets (Remaps of_second)) both → ⊥
sets_what_is_reported may = elim may.reported [ inl removed ↦ omega (arith, removed.1) | inr strayed ↦ omega (arith, strayed.1) ]

sets_below_its_leaf : MayFollow bare (Sets (Remaps of_first)) lasting → ⊥
sets_below_its_leaf may = no_leaf lasting refl may.leaf

sets_while_open : May (Sets (Remaps of_first)) (Says (Answer first Stopped) ∷ lasting) → ⊥
sets_while_open may = let no = may.is_open.unanswered in absurd cc

sets_what_is_committed : May (Sets (Remaps of_first)) handed_in → ⊥
sets_what_is_committed may = let all = ap length may.is_committed.all_committed in absurd (omega (arith, all))

sets_once : May (Sets (Remaps of_first)) set → ⊥
sets_once may = let last = ap length may.is_committed.last in absurd (omega (arith, last))

sets_behind_a_write : May (Sets (Remaps of_first)) (Commits (Remaps of_first) ∷ Enters (Remaps of_first) ∷ Sets (Remaps of_second) ∷ Commits (Remaps of_second) ∷ Enters (Remaps of_second) ∷ took) → ⊥
sets_behind_a_write may = let below = may.below.writes.0 refl in absurd (omega (arith, below))

sets_behind_a_read : May (Sets (Remaps of_first)) (Gives (given 2) ∷ lasting) → ⊥
sets_behind_a_read may = let below = may.below.reads.0 refl in absurd (omega (arith, below))

sets_unless_aborted : May (Sets (Remaps of_first)) (Aborts (Remaps of_first) ∷ stopped lasting) → ⊥
sets_unless_aborted may = let no = may.unaborted in absurd cc

-- A read is given its bytes at its place, when the entries of its address are done.
gives : May (Gives (given 2)) set
gives = record {
  is_open = record { is_begun = omega arith; unanswered = refl };
  asked = refl;
  placed = refl;
  quiet = record { all_committed = refl; all_done = refl };
  below = record { writes = ((λ same. omega arith), tt); reads = tt };
}

gives_while_open : May (Gives (given 2)) (Says (Answer reader Stopped) ∷ set) → ⊥
gives_while_open may = let no = may.is_open.unanswered in absurd cc

gives_to_a_read : May (Gives (record { request = second; at = address 0; place = 1; bytes = x })) set → ⊥
gives_to_a_read may = let asked = may.asked in absurd cc

gives_at_its_place : May (Gives (given 3)) set → ⊥
gives_at_its_place may = let placed : 2 ≡ 3 = ap (λ p. p.place) (same_Some _ _ may.placed) in absurd (omega (arith, placed))

gives_what_is_committed : May (Gives (given 2)) handed_in → ⊥
gives_what_is_committed may = let quiet = ap length may.quiet.all_committed in absurd (omega (arith, quiet))

gives_what_is_done : May (Gives (given 2)) lasting → ⊥
gives_what_is_done may = let quiet = ap length may.quiet.all_done in absurd (omega (arith, quiet))

gives_behind_a_write : May (Gives (given 2)) (Sets (Remaps (entry second 0 3 Unmapped 85)) ∷ Commits (Remaps (entry second 0 3 Unmapped 85)) ∷ Enters (Remaps (entry second 0 3 Unmapped 85)) ∷ took) → ⊥
gives_behind_a_write may = let below = may.below.writes.0 refl in absurd (omega (arith, below))

gives_behind_a_read : May (Gives (given 2)) (Gives (given 3) ∷ set) → ⊥
gives_behind_a_read may = let below = may.below.reads.0 refl in absurd (omega (arith, below))

-- A write is aborted that was handed in and isn't set, once the roomy is stopped.
aborts : May (Aborts (Remaps of_first)) (stopped handed_in)
aborts = record { is_open = record { is_begun = omega arith; unanswered = refl }; handed_in = refl; unset = refl; stopped = refl }

aborts_while_open : May (Aborts (Remaps of_first)) (Says (Answer first Stopped) ∷ stopped handed_in) → ⊥
aborts_while_open may = let no = may.is_open.unanswered in absurd cc

aborts_what_is_handed_in : May (Aborts (Remaps of_first)) (stopped took) → ⊥
aborts_what_is_handed_in may = let handed = may.handed_in in absurd cc

aborts_what_is_unset : May (Aborts (Remaps of_first)) (stopped set) → ⊥
aborts_what_is_unset may = let no = may.unset in absurd cc

aborts_after_a_stop : May (Aborts (Remaps of_first)) handed_in → ⊥
aborts_after_a_stop may = let stopped = may.stopped in absurd cc

-- the session's superblock is written, and durable
abbrev pub superblock : Happening
superblock = Calls (Write (block 0) (superblock_bytes roomy.sizes) true)

abbrev pub announced : Trace → Trace
announced t = Calls (Flush true) ∷ superblock ∷ t

-- A call succeeds; after a write or flush that failed only reads do.
calls : May (Calls (Flush true)) []
calls = record { succeeds = refl; goes_on = λ is. refl; in_order = tt }

calls_a_read_after_a_stop : May (Calls (Read (block 85) x true)) (stopped set)
calls_a_read_after_a_stop = record { succeeds = refl; goes_on = λ is. absurd cc; in_order = tt }

calls_that_succeed : May (Calls (Flush false)) [] → ⊥
calls_that_succeed may = let succeeds = may.succeeds in absurd cc

calls_no_flush_after_a_stop : May (Calls (Flush true)) (stopped set) → ⊥
calls_no_flush_after_a_stop may = let goes_on = may.goes_on refl in absurd cc

calls_no_write_after_a_stop : May (Calls (Write (block 85) x true)) (stopped (announced set)) → ⊥
calls_no_write_after_a_stop may = let goes_on = may.goes_on refl in absurd cc

-- The first write is that of the session's superblock, once; and no other comes before that was flushed.
calls_the_superblock : May superblock took
calls_the_superblock = record { succeeds = refl; goes_on = λ is. refl; in_order = inl (refl, record { first = refl; says = refl }) }

calls_a_write_then : May (Calls (Write (block 85) x true)) (announced took)
calls_a_write_then = record { succeeds = refl; goes_on = λ is. refl; in_order = inr (refl, λ is. absurd cc) }

calls_the_superblock_once : May superblock (announced took) → ⊥
calls_the_superblock_once may = elim may.in_order [ inl before ↦ let no = before.0 in absurd cc | inr behind ↦ behind.1 refl ]

calls_no_write_before_it : May (Calls (Write (block 85) x true)) took → ⊥
calls_no_write_before_it may = elim may.in_order [ inl first ↦ let at = first.1.first in absurd (omega (arith, at)) | inr behind ↦ let no = behind.0 in absurd cc ]

calls_it_at_its_block : May (Calls (Write (block 85) (superblock_bytes roomy.sizes) true)) took → ⊥
calls_it_at_its_block may = elim may.in_order [ inl first ↦ let at = first.1.first in absurd (omega (arith, at)) | inr behind ↦ let no = behind.0 in absurd cc ]

calls_no_write_before_its_flush : May (Calls (Write (block 85) x true)) (superblock ∷ took) → ⊥
calls_no_write_before_its_flush may = elim may.in_order [ inl first ↦ let no = first.0 in absurd cc | inr behind ↦ let no = behind.0 in absurd cc ]

pub no_superblock : [] ≡ superblock_bytes roomy.sizes → ⊥
unfolding super_block
no_superblock is =
    let none : 0 ≡ length (superblock_bytes roomy.sizes) = ap length is in
    let all = length-append (super_bytes (session_super roomy.sizes)) (replicate 3584 0) in
    absurd (omega (arith, none, all, length-replicate {A = ℕ} 3584 0))

calls_what_it_says : May (Calls (Write (block 0) [] true)) took → ⊥
calls_what_it_says may = elim may.in_order [ inl first ↦ no_superblock first.1.says | inr behind ↦ let no = behind.0 in absurd cc ]

-- A call fails that was made for an open request; a read is made for one of an address that is mapped to its block.
fails : May (Fails first (Write (block 85) x false) true) (announced took)
fails = record { is_open = record { is_begun = omega arith; unanswered = refl }; fails = refl; goes_on = λ is. refl; made_for = tt; in_order = inr (refl, λ is. absurd cc) }

fails_to_read : May (Fails reader (Read (block 85) y false) false) set
fails_to_read = record { is_open = record { is_begun = omega arith; unanswered = refl }; fails = refl; goes_on = λ is. absurd cc; made_for = inr (address 0, refl, λ fair. absurd (omega (arith, fair.opened.room))); in_order = tt }

fails_in_order : May (Fails first (Write (block 85) x false) true) took → ⊥
fails_in_order may = elim may.in_order [ inl before ↦ let at = before.1.first in absurd (omega (arith, at)) | inr behind ↦ let no = behind.0 in absurd cc ]

fails_while_open : May (Fails first (Write (block 85) x false) true) (Says (Answer first Stopped) ∷ announced took) → ⊥
fails_while_open may = let no = may.is_open.unanswered in absurd cc

fails_if_it_fails : May (Fails first (Write (block 85) x true) true) (announced took) → ⊥
fails_if_it_fails may = let fails = may.fails in absurd cc

fails_once : May (Fails second (Write (block 86) y false) true) (stopped (announced took)) → ⊥
fails_once may = let goes_on = may.goes_on refl in absurd cc

-- for a write its leaf alone is read, which stands at block 79
pub its_address : (what : Asks) (at : Lba) (bytes : List ℕ) → Some (request.Write (address 0) y false) ≡ Some (asked what at bytes) → at.0 ≡ 0
its_address asks.Write at bytes is = sym (ap address_in (same_Some _ _ is))
its_address asks.Read at bytes is = absurd cc
its_address asks.Discard at bytes is = absurd cc
its_address asks.Flush at bytes is = absurd cc

not_its_leaf : IsLeafFor roomy took second (block 85) → ⊥
not_its_leaf leaf =
    let at = its_address leaf.asks leaf.at leaf.bytes leaf.asked in
    by (subst (λ (a : ℕ). IsLinkedAt roomy took (leaf_of a) (block 85)) at leaf.stands)
  where
    by : IsLinkedAt roomy took (leaf_of 0) (block 85) → ⊥
    by (inl linked) = let same : 79 ≡ 85 = ap (λ (b : Pbn). b.0) (same_Some _ _ linked) in absurd (omega (arith, same))
    by (inr made) = omega (arith, made.1.1)

fails_to_read_for_a_read : May (Fails second (Read (block 85) x false) true) took → ⊥
fails_to_read_for_a_read may = elim may.made_for [
  | inl leaf ↦ not_its_leaf leaf
  | inr mapped ↦ let asked = mapped.1 in absurd cc
]

fails_to_read_a_leaf : May (Fails second (Read (block 79) x false) true) took
fails_to_read_a_leaf = record {
  is_open = record { is_begun = omega arith; unanswered = refl };
  fails = refl;
  goes_on = λ is. absurd cc;
  made_for = inl (record { asks = asks.Write; at = address 0; bytes = y; asked = refl; stands = inl refl; unset = refl });
  in_order = tt;
}

-- No write or flush follows one that failed, one that isn't in the log either.
stops : StopsAtFailure (Calls (Read (block 85) x true) ∷ stopped took)
stops = ((λ is. absurd cc), ((λ is. refl), tt))

stops_unkept : StopsAtFailure (Calls (Flush true) ∷ Fails first (Flush false) false ∷ []) → ⊥
stops_unkept may = let goes_on = may.0 refl in absurd cc
