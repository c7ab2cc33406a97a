-- A zone that weighs nothing for what a happening is about keeps all its facts. Paid once for all kinds of zone and item.
use Rattle.std.proofs.Common.{◌≡◌, ◌≢◌, ◌⊎◌, ℕ, ◌≤◌, ◌==◌, Bool, true, false, Option, None, Some, is_some, nat_eq, List, [], ◌∷◌, ◌++◌, slice_get, refl, ap, sym, ◌∙◌, subst, inl, inr, arith, ◌<◌}
use Rattle.core_model.specs.CountUpdates.{replaced_in}
use Rattle.core_model.specs.Facts.{IsSound}
use Rattle.core_model.specs.LogicalFacts.{ReportOk}
use Rattle.core_model.specs.Tokens.{leads_to}
use Rattle.data_vio.specs.Zones.{counts_in, physical_zone_of}
use Rattle.core_model.specs.PageLinks.{block_in}
use Rattle.core_model.specs.Uses.{given_at, issued, ticket_at}
use Rattle.blk_base.specs.declared.place.Mapping.TheVariants.{Unmapped, Zero, At}
use Rattle.zone_counts.specs.Zone.{IsOfZone}
use Rattle.core_laws.proofs.lists.CountedIn.{counting_number, leads_elsewhere, not_counted, zone_is}
use Rattle.core_model.specs.Trace.{Adds, Asks, Drops, Hears, Removes, Strays, Withdraws, added, claimed, passed_on, damage_in, removed, strayed, unclaimed, receipts}
use Rattle.core_laws.proofs.Common.{all_of, AllBelow, AllByRecursion, Answers, bit, calls, Calls, Commits, durable, desk_number, device_number, drawn, Draws, Each, journaled, Enters, eq-eqb, eqb_tells, every-front, Fails, fair_before, filled, Flushes, Gives, Happening, has_stopped, HasLists, is_block, is_entry, is_old, Item, ItemOk, journal_number, kept_by, KeptEach, KeptOk, lines, logical_number, Mapping, marks, name_of, new_of, of_address, Pbn, Phase, physical_number, places, RestsAt, Says, sealed, Seals, Session, Remaps, Sets, Sizes, Takes, Token, total, total-append, total-get, Trace, Vio, WasTold, weight, Zone, zone_number, zone_of, ZoneData, ZoneOk, Passes, applied, passed, remappings, Remapping, superblock_stage, Harms}
use Rattle.core_laws.proofs.lists.Between.{every_between}
use Rattle.vdo_model.specs.FlushMarks.{successes}
use Rattle.vdo_model.specs.ZoneOrder.{places_in}
use Rattle.data_vio.specs.declared.items.Item.TheVariants.{Request}
use Rattle.data_vio.specs.declared.items.Phase.TheVariants as phase
use Rattle.core_model.specs.declared.zones.ZoneData.TheVariants as at
use Rattle.core_laws.proofs.journal.LogLaws.{log_over}
use Rattle.core_laws.proofs.kept.Carried.{kept_kept, item_kept, report_kept}
use Rattle.core_laws.proofs.kept.Keys.{Key, OfAddress, OfJournal, OfPage, token_of, Spares, happens_in, Clears, mine_or_spared, free_one, unmade_one}
use Rattle.core_laws.proofs.logical.PageFacts.{tree_home, tree_over}
use Rattle.core_laws.proofs.kept.Spared.{issued_kept, of_other, put_same, quiet_kept, stop_kept, abort_kept}
use Rattle.core_laws.proofs.kept.StandsOn.{resting_spared, rests_kept}
use Rattle.core_laws.proofs.tokens.Lift.{items_total}

-- What its own lists are parts of stays over what happens in another zone.
module _ (sizes : Sizes) where
  lines_same : (h : Happening) (t : Trace) → desk_number ≢ happens_in sizes h → lines (h ∷ t) ≡ lines t
  lines_same (Says line) t off = absurd (off refl)
  lines_same (Flushes m) t off = absurd (off refl)
  lines_same (Fails w c true) t off = refl
  lines_same other t off = refl

  marks_same : (h : Happening) (t : Trace) → desk_number ≢ happens_in sizes h → marks (h ∷ t) ≡ marks t
  marks_same (Flushes m) t off = absurd (off refl)
  marks_same other t off = refl

  receipts_same : (h : Happening) (t : Trace) → desk_number ≢ happens_in sizes h → receipts (h ∷ t) ≡ receipts t
  receipts_same (Says line) t off = absurd (off refl)
  receipts_same other t off = refl

  zone_apart : (a b : ℕ) → logical_number b ≢ logical_number a → (a == b) ≡ false
  zone_apart a b off = elim (eqb_tells a b) [ inl same ↦ absurd (off (ap logical_number (sym same.1))) | inr other ↦ other.0 ]

  places_same : (h : Happening) (t : Trace) (zone : ℕ) → logical_number zone ≢ happens_in sizes h → (places_in zone (places (h ∷ t)) ≡ places_in zone (places t)) × (drawn zone (places (h ∷ t)) ≡ drawn zone (places t))
  places_same (Draws p) t zone off = rw (zone_apart p.zone zone off) (refl, refl)
  places_same other t zone off = (refl, refl)

  slot_apart : (b a : ℕ) → logical_number (zone_of sizes.zones a) ≢ logical_number (zone_of sizes.zones b) → b ≢ a
  slot_apart b a off same = off (ap (λ c. logical_number (zone_of sizes.zones c)) (sym same))

  slots_same : (h : Happening) (t : Trace) (a : ℕ) → logical_number (zone_of sizes.zones a) ≢ happens_in sizes h → of_address a (remappings (applied (h ∷ t))) ≡ of_address a (remappings (applied t))
  slots_same (Sets (Remaps e)) t a off = of_other e (remappings (applied t)) a (slot_apart e.at.0 a off)
  slots_same other t a off = refl

  still_below : (h : Happening) (t : Trace) (a place : ℕ) → logical_number (zone_of sizes.zones a) ≢ happens_in sizes h → AllBelow t a place → AllBelow (h ∷ t) a place
  still_below (Sets (Remaps e)) t a place off b = record { writes = ((λ same. absurd (slot_apart e.at.0 a off same)), b.writes); reads = b.reads }
  still_below (Passes e) t a place off b =
      record { writes = every_between (λ (f : Remapping). f.at.0 ≡ a → f.place < place) (remappings (applied t)) (passed t) e (λ same. absurd (slot_apart e.at.0 a off same)) b.writes; reads = b.reads }
  still_below (Gives g) t a place off b = record { writes = b.writes; reads = ((λ same. absurd (slot_apart g.at.0 a off same)), b.reads) }
  still_below other t a place off b = record { writes = b.writes; reads = b.reads }

  -- what passes from another block to a ticket is no claim on this one
  passed_off : (m : Mapping) (to : Option ℕ) (xs : List Pbn) (y : Pbn) → leads_to y m ≡ 0 → total (is_block y) (passed_on (block_in m) to ++ xs) ≡ total (is_block y) xs
  passed_off (At x) (Some k) xs y none = omega (arith, none)
  passed_off (At x) None xs y none = refl
  passed_off Unmapped to xs y none = refl
  passed_off Zero to xs y none = refl

  -- of a block what was claimed, let go, added and removed stays over what happens where another block is counted
  uses_same : (h : Happening) (t : Trace) (y : Pbn) → zone_number sizes (counts_in sizes y) ≢ happens_in sizes h
      → (total (is_block y) (claimed (h ∷ t)) ≡ total (is_block y) (claimed t)) × (total (is_block y) (unclaimed (h ∷ t)) ≡ total (is_block y) (unclaimed t))
      × (total (is_entry y) (added (h ∷ t)) ≡ total (is_entry y) (added t)) × (total (is_old y) (removed (h ∷ t)) ≡ total (is_old y) (removed t))
  uses_same (Takes w page x) t y off = let none : leads_to y (At x) ≡ 0 = leads_elsewhere sizes (At x) y off in (omega (arith, none), refl, refl, refl)
  uses_same (Drops w x to) t y off =
      let none : leads_to y (At x) ≡ 0 = leads_elsewhere sizes (At x) y off in (passed_off (At x) to (claimed t) y none, omega (arith, none), refl, refl)
  uses_same (Adds e) t y off = let none = leads_elsewhere sizes (new_of e) y off in (refl, refl, omega (arith, none), refl)
  uses_same (Removes e to) t y off = let none = leads_elsewhere sizes e.old y off in (passed_off e.old to (claimed t) y none, refl, refl, omega (arith, none))
  uses_same other t y off = (refl, refl, refl, refl)

  -- what is known of a zone's tickets stays over what happens in another zone
  ticket_apart : (a b : ℕ) → physical_number sizes b ≢ physical_number sizes a → nat_eq a b ≡ false
  ticket_apart a b off = elim (eqb_tells a b) [ inl same ↦ absurd (off (ap (physical_number sizes) (sym same.1))) | inr other ↦ other.0 ]

  given_same : (m : Mapping) (to : Option ℕ) (zone number : ℕ) (earlier : Option (Option Pbn)) → physical_number sizes zone ≢ counting_number sizes m → given_at sizes (block_in m) to zone number earlier ≡ earlier
  given_same (At x) (Some k) zone number earlier off = rw (ticket_apart (physical_zone_of sizes x) zone off) refl
  given_same (At x) None zone number earlier off = refl
  given_same Unmapped to zone number earlier off = refl
  given_same Zero to zone number earlier off = refl

  tickets_same : (h : Happening) (t : Trace) (zone number : ℕ) → physical_number sizes zone ≢ happens_in sizes h → ticket_at sizes (h ∷ t) zone number ≡ ticket_at sizes t zone number
  tickets_same (Asks w k) t zone number off = rw (ticket_apart k.zone zone off) refl
  tickets_same (Withdraws w k got) t zone number off = rw (ticket_apart k.zone zone off) refl
  tickets_same (Drops w x to) t zone number off = given_same (At x) to zone number (ticket_at sizes t zone number) off
  tickets_same (Removes e to) t zone number off = given_same e.old to zone number (ticket_at sizes t zone number) off
  tickets_same other t zone number off = refl

  issued_same : (h : Happening) (t : Trace) (zone : ℕ) → physical_number sizes zone ≢ happens_in sizes h → issued (h ∷ t) zone ≡ issued t zone
  issued_same (Asks w k) t zone off = let none = ap bit (ticket_apart k.zone zone off) in omega (arith, none)
  issued_same other t zone off = refl

  strays_same : (h : Happening) (t : Trace) (zone : ℕ) → physical_number sizes zone ≢ happens_in sizes h → replaced_in sizes zone (strayed (h ∷ t)) ≡ replaced_in sizes zone (strayed t)
  strays_same (Strays e) t zone off = rw (not_counted sizes zone e.old off) refl
  strays_same other t zone off = refl

  entries_same : (h : Happening) (t : Trace) → journal_number sizes ≢ happens_in sizes h
      → (journaled (h ∷ t) ≡ journaled t) × (durable (h ∷ t) ≡ durable t) × (filled (h ∷ t) ≡ filled t) × (sealed (h ∷ t) ≡ sealed t)
  entries_same (Enters e) t off = absurd (off refl)
  entries_same (Commits e) t off = absurd (off refl)
  entries_same Seals t off = absurd (off refl)
  entries_same other t off = (refl, refl, refl, refl)

  device_same : (h : Happening) (t : Trace) → device_number sizes ≢ happens_in sizes h → (calls (h ∷ t) ≡ calls t) × (has_stopped (h ∷ t) ≡ has_stopped t) × (superblock_stage (h ∷ t) ≡ superblock_stage t) × (damage_in (h ∷ t) ≡ damage_in t)
  device_same (Calls c) t off = absurd (off refl)
  device_same (Fails w c kept) t off = absurd (off refl)
  device_same (Harms w x bytes fault) t off = absurd (off refl)
  device_same (Hears damage) t off = absurd (off refl)
  device_same other t off = (refl, refl, refl, refl)

module _ (s : Session) (h : Happening) (t : Trace) where
  pub reports_on : (zone : ℕ) (es : List Remapping) → AllByRecursion (ReportOk s t zone) es → AllByRecursion (ReportOk s (h ∷ t) zone) es
  reports_on zone [] k = tt
  reports_on zone (e ∷ es) k = (report_kept s h t e zone k.0, reports_on zone es k.1)

  lists_kept : (d : ZoneData) → zone_number s.sizes (name_of d) ≢ happens_in s.sizes h → IsSound s d → HasLists s t d → HasLists s (h ∷ t) d
  lists_kept (at.Desk desk) off sound k = record { log_is = k.log_is ∙ sym (lines_same s.sizes h t off); marks_is = k.marks_is ∙ sym (marks_same s.sizes h t off); receipts_is = k.receipts_is ∙ sym (receipts_same s.sizes h t off) }
  lists_kept (at.Logical l) off sound k = record {
    places_is = k.places_is ∙ sym (places_same s.sizes h t l.zone off).0;
    next_is = k.next_is ∙ sym (places_same s.sizes h t l.zone off).1;
    slots_are = λ a zone. k.slots_are a zone ∙ sym (slots_same s.sizes h t a (at_home a zone));
    below = λ a zone. still_below s.sizes h t a l.next (at_home a zone) (k.below a zone);
    tree_is = tree_over s l.zone l.tree h t off k.tree_is;
    reports_are = reports_on l.zone l.reported k.reports_are;
  }
    where
      at_home : (a : ℕ) → zone_of s.sizes.zones a ≡ l.zone → logical_number (zone_of s.sizes.zones a) ≢ happens_in s.sizes h
      at_home a zone is = off (ap logical_number (sym zone) ∙ is)
  lists_kept (at.Physical p) off sound k = record {
    counters = λ x mine. let same = stays x mine in let before = k.counters x mine in omega (arith, before, same.2, same.3);
    uses = λ x mine. let same = stays x mine in let before = k.uses x mine in omega (arith, before, same.0, same.1, same.3);
    strays_are = k.strays_are ∙ sym (strays_same s.sizes h t p.counts.zone off);
    tickets_are = λ number. k.tickets_are number ∙ sym (tickets_same s.sizes h t p.counts.zone number off);
    issued_is = k.issued_is ∙ sym (issued_same s.sizes h t p.counts.zone off);
    out_are = issued_kept h t p.counts.zone p.counts.desk.out k.out_are;
  }
    where
      stays : (x : Pbn) → IsOfZone p.counts x
          → (total (is_block x) (claimed (h ∷ t)) ≡ total (is_block x) (claimed t)) × (total (is_block x) (unclaimed (h ∷ t)) ≡ total (is_block x) (unclaimed t))
          × (total (is_entry x) (added (h ∷ t)) ≡ total (is_entry x) (added t)) × (total (is_old x) (removed (h ∷ t)) ≡ total (is_old x) (removed t))
      stays x mine = uses_same s.sizes h t x (λ is. off (ap (physical_number s.sizes) (sym (zone_is s p sound x mine)) ∙ is))
  lists_kept (at.Journal j) off sound k = let same = entries_same s.sizes h t off in record {
    entered_is = k.entered_is ∙ sym same.0;
    committed_is = k.committed_is ∙ sym same.1;
    filled_is = λ whole. k.filled_is whole ∙ sym same.2;
    filling_few = k.filling_few;
    log_is = log_over s t (h ∷ t) j.log same.2 same.3 same.1 k.log_is;
  }
  lists_kept (at.Device d) off sound k = let same = device_same s.sizes h t off in record { calls_is = k.calls_is ∙ ap successes (sym same.0); stopped_is = k.stopped_is ∙ sym same.1; superblock_is = k.superblock_is ∙ sym same.2; damage_is = k.damage_is ∙ sym same.3 }

  -- What it was told stays over everything.
  pub told_kept : (d : ZoneData) → WasTold t d → WasTold (h ∷ t) d
  told_kept (at.Desk desk) k = λ heard. stop_kept h t (k heard)
  told_kept (at.Logical l) k = ((λ a retired. (stop_kept h t (k.0 a retired).0, abort_kept h t a l.next (k.0 a retired).1)), λ some. stop_kept h t (k.1 some))
  told_kept (at.Journal j) k = λ closed. stop_kept h t (k closed)
  told_kept other k = tt

  -- What it answers for stays where the happening spares what it weighs for.
  rests_on : (busy broken : Bool) → (busy ≡ false → Spares s t h OfJournal) → RestsAt s t busy broken → RestsAt s (h ∷ t) busy broken
  rests_on true broken spares k = k
  rests_on false false spares k =
      let same = spares refl in (
        ap all_of same.0.sealed_same ∙ k.0 ∙ sym same.0.committed_same,
        λ fair. let before = fair_before s h t fair in rw same.0.sealed_same (rests_kept s h t (sealed t) same.1 (resting_spared s h t k.0 (same.2 before)) (k.1 before)),
      )
  rests_on false true spares k = tt

  pub answers_kept : (d : ZoneData) → HasLists s t d → ((k : Key) → 1 ≤ (token_of s.sizes k).own d → Spares s t h k) → Answers s t d → Answers s (h ∷ t) d
  answers_kept (at.Logical l) lists spares k = (
    λ a zone free alive. quiet_kept h t a (spares (OfAddress a) (free_one _ _ _ (eq-eqb _ _ zone) free alive)) (k.0 a zone free alive),
    λ page linkable unlinked unmade linkable_yet. put_same s.sizes.geometry.height s.links h t page
        (spares (OfPage page) (unmade_one _ _ _ _ (eq-eqb _ _ (tree_home s l.zone l.tree t page lists.tree_is linkable)) (ap is_some unlinked) unmade linkable_yet)) ∙ k.1 page linkable unlinked unmade linkable_yet,
  )
  answers_kept (at.Journal j) lists spares k = rests_on j.busy j.broken (λ idle. spares OfJournal (rw idle (omega arith))) k
  answers_kept other lists spares k = tt

  -- Of things with a weight each: where they weigh nothing for a key, or it is spared, each has its fact as before.
  abbrev pub Weighs : (Key → ℕ) → Type 0
  Weighs weigh = (k : Key) → (weigh k ≡ 0) ⊎ Spares s t h k

  pub each_on : {X : Type 0} (P Q : X → Type 0) (weigh : Key → X → ℕ) → ((x : X) → ((k : Key) → 1 ≤ weigh k x → Spares s t h k) → P x → Q x) → (xs : List X) → Weighs (λ k. total (weigh k) xs)
      → AllByRecursion P xs → AllByRecursion Q xs
  each_on P Q weigh on [] spares has = tt
  each_on P Q weigh on (x ∷ xs) spares has = (
    on x (λ k some. elim (spares k) [ inl none ↦ absurd (omega (arith, none, some)) | inr spared ↦ spared ]) has.0,
    each_on P Q weigh on xs (λ k. elim (spares k) [ inl none ↦ inl (omega (arith, none)) | inr spared ↦ inr spared ]) has.1,
  )

  pub items_on : (to : ℕ) (items : List Item) → Weighs (λ k. total (token_of s.sizes k).item items) → AllByRecursion (ItemOk s t to) items → AllByRecursion (ItemOk s (h ∷ t) to) items
  items_on to items spares has = each_on (ItemOk s t to) (ItemOk s (h ∷ t) to) (λ k. (token_of s.sizes k).item) (item_kept s h t to) items spares has

  pub kept_on : (q : Phase) (vs : List Vio) → Weighs (λ k. total (λ v. (token_of s.sizes k).item (Request v)) vs) → AllByRecursion (KeptOk s t q) vs → AllByRecursion (KeptOk s (h ∷ t) q) vs
  kept_on q vs spares has = each_on (KeptOk s t q) (KeptOk s (h ∷ t) q) (λ k v. (token_of s.sizes k).item (Request v)) (kept_kept s h t q) vs spares has

  -- those of two lists
  weighs_both : (vs ws : List Vio) → Weighs (λ k. total (λ v. (token_of s.sizes k).item (Request v)) (vs ++ ws))
      → Weighs (λ k. total (λ v. (token_of s.sizes k).item (Request v)) vs) × Weighs (λ k. total (λ v. (token_of s.sizes k).item (Request v)) ws)
  weighs_both vs ws spares = (
    λ k. elim (spares k) [ inl none ↦ let both = total-append (λ v. (token_of s.sizes k).item (Request v)) vs ws in inl (omega (arith, none, both)) | inr spared ↦ inr spared ],
    λ k. elim (spares k) [ inl none ↦ let both = total-append (λ v. (token_of s.sizes k).item (Request v)) vs ws in inl (omega (arith, none, both)) | inr spared ↦ inr spared ],
  )

  -- the requests that a zone keeps
  pub kept_each : (d : ZoneData) → Weighs (λ k. total (λ v. (token_of s.sizes k).item (Request v)) (kept_by d)) → KeptEach (KeptOk s t) d → KeptEach (KeptOk s (h ∷ t)) d
  kept_each (at.Desk desk) spares has = kept_on phase.Reply desk.parked spares has
  kept_each (at.Logical l) spares has =
      let first = weighs_both l.waiting (l.lacking ++ l.settling) spares in
      let rest = weighs_both l.lacking l.settling first.1 in
      (kept_on phase.Wait l.waiting first.0 has.0, kept_on phase.Look l.lacking rest.0 has.1, kept_on phase.Settle l.settling rest.1 has.2)
  kept_each (at.Journal j) spares has = let both = weighs_both j.filling j.waiting spares in (kept_on phase.Pending j.filling both.0 has.0, kept_on phase.Enter j.waiting both.1 has.1)
  kept_each (at.Physical p) spares has = tt
  kept_each (at.Device d) spares has = tt

  pub lanes_on : (lanes : List (List Item)) → Weighs (λ k. total (total (token_of s.sizes k).item) lanes) → Each (λ to. AllByRecursion (ItemOk s t to)) lanes → Each (λ to. AllByRecursion (ItemOk s (h ∷ t) to)) lanes
  lanes_on lanes spares has to lane there = items_on to lane (λ k. elim (spares k) [
    | inl none ↦ let part = total-get (total (token_of s.sizes k).item) lanes to lane there in inl (omega (arith, none, part))
    | inr spared ↦ inr spared
  ]) (has to lane there)

  -- A zone where it doesn't happen, and that weighs nothing for what it is about, keeps all its facts.
  pub zone_on : (n : ℕ) (z : Zone) → n ≢ happens_in s.sizes h → Weighs (λ k. weight (token_of s.sizes k) z) → ZoneOk s t n z → ZoneOk s (h ∷ t) n z
  zone_on n z off spares ok = record {
    number_is = ok.number_is;
    lanes = ok.lanes;
    inbox = items_on n z.ports.inbox (part (λ k. total (token_of s.sizes k).item z.ports.inbox) (λ k. omega arith)) ok.inbox;
    outboxes = lanes_on z.ports.outboxes (part (λ k. total (total (token_of s.sizes k).item) z.ports.outboxes) (λ k. omega arith)) ok.outboxes;
    to_itself = ok.to_itself;
    own = record {
      number_is = ok.own.number_is;
      lists = lists_kept z.keeps (λ is. off (ok.own.number_is ∙ is)) ok.own.sound ok.own.lists;
      sound = ok.own.sound;
      kept = kept_each z.keeps (part (λ k. total (λ v. (token_of s.sizes k).item (Request v)) (kept_by z.keeps)) (λ k. omega (arith, items_total (token_of s.sizes k).item (kept_by z.keeps)))) ok.own.kept;
      answers = answers_kept z.keeps ok.own.lists (λ k some. elim (spares k) [ inl none ↦ absurd (omega (arith, none, some)) | inr spared ↦ spared ]) ok.own.answers;
      told = told_kept z.keeps ok.own.told;
    };
    counted = ok.counted;
  }
    where
      part : (weigh : Key → ℕ) → ((k : Key) → weigh k ≤ weight (token_of s.sizes k) z) → Weighs weigh
      part weigh less k = elim (spares k) [ inl none ↦ let most = less k in inl (omega (arith, none, most)) | inr spared ↦ inr spared ]

-- Beside what a zone serves: the other zones, and the rest of its own lanes.
pub record Sides (s : Session) (t : Trace) (zones : List Zone) (n : ℕ) (z : Zone) : Type 0 where
  pub others : Each (λ j y. (j ≡ n → ⊥) → ZoneOk s t j y) zones
  pub inbox : AllByRecursion (ItemOk s t n) z.ports.inbox
  pub outboxes : Each (λ to. AllByRecursion (ItemOk s t to)) z.ports.outboxes

-- before anything happens
pub sides_before : (s : Session) (t : Trace) (zones : List Zone) (n : ℕ) (z : Zone) (front rest : List Item) → Each (ZoneOk s t) zones → slice_get zones n ≡ Some z → z.ports.inbox ≡ front ++ rest
    → Sides s t zones n (record z { ports = record z.ports { inbox = rest } })
sides_before s t zones n z front rest each had taken =
    let ok = each n z had in
    record {
      others = λ j y there ne. each j y there;
      inbox = (every-front (ItemOk s t n) front rest (subst (λ (items : List Item). AllByRecursion (ItemOk s t n) items) taken ok.inbox)).1;
      outboxes = ok.outboxes;
    }

-- nobody beside has any of a token
pub record HasNoneBeside (zones : List Zone) (n : ℕ) (z : Zone) (token : Token) : Type 0 where
  pub others : Each (λ j y. (j ≡ n → ⊥) → weight token y ≡ 0) zones
  pub inbox : total token.item z.ports.inbox ≡ 0
  pub outboxes : total (total token.item) z.ports.outboxes ≡ 0

-- One more happening, of which nobody beside has what it is about.
pub sides_after : (s : Session) (t : Trace) (zones : List Zone) (n : ℕ) (z : Zone) (h : Happening) → Clears s n (λ k. HasNoneBeside zones n z (token_of s.sizes k)) h t → Sides s t zones n z → Sides s (h ∷ t) zones n z
sides_after s t zones n z h clears sides = record {
  others = λ j y there ne. zone_on s h t j y (λ is. ne (is ∙ sym clears.zone)) (λ k. elim (mine_or_spared clears k) [ inl none ↦ inl (none.others j y there ne) | inr spared ↦ inr spared ]) (sides.others j y there ne);
  inbox = items_on s h t n z.ports.inbox (λ k. elim (mine_or_spared clears k) [ inl none ↦ inl none.inbox | inr spared ↦ inr spared ]) sides.inbox;
  outboxes = lanes_on s h t z.ports.outboxes (λ k. elim (mine_or_spared clears k) [ inl none ↦ inl none.outboxes | inr spared ↦ inr spared ]) sides.outboxes;
}
