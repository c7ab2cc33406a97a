-- How long the lists of a legal core get: its locks by the requests that are under way, its slots and retired addresses by the
-- entries of the journal, and those by the journal's blocks.
use Rattle.std.proofs.Common.{ℕ, ◌^◌, ◌≡◌, ◌<◌, ◌≤◌, Some, List, [], ◌∷◌, IsNone, length, slice_get, refl, ap, ◌∙◌, subst, inl, inr, arith}
use Rattle.plain_laws.proofs.ListLaws.{bit_most}
use Rattle.core_laws.proofs.Common.{bit, journaled, Logged, remappings, DataOk, DeviceZone, ended_at, entered, entered_at, entry_token, every-map, given, held_at, holder_token, holds, IsSession, IsWrite, Item, journal_number, JournalZone, Remapping, logged_of, LogicalZone, made_by, RightTrace, room_token, same_tells, Token, new_pages, sealed, Seals, Session, some_is, total, total-get, total_alone, Trace, Vio, weight, Writer, Zone, ZoneData}
use Rattle.data_vio.specs.declared.items.Item.TheVariants as item
use Rattle.core_model.specs.declared.zones.ZoneData.TheVariants as at
use Rattle.core_model.specs.Legal.{Legal, share}
use Rattle.core_model.specs.SessionLimits.{most_entries, most_requests, requests_in}
use Rattle.core_model.specs.Steps.{Core}
use Rattle.core_model.specs.Tokens.{kept_items, page_entry_token, pages_entered_at, unlinkable_at}
use Rattle.core_laws.proofs.kept.FirstState.{total_at_most}
use Rattle.core_laws.proofs.kept.ZoneKinds.{journal_sits}
use Rattle.core_limits.proofs.Rooms.{all_requests, carried}
use Rattle.core_laws.proofs.trace.DeskOfTrace.{AreApart, entered_apart, entered_writes}
use Rattle.core_limits.proofs.DeskLimits.{asked_inside, requests_of}
use Rattle.core_limits.proofs.StrayLimits.{strays_few}
use Rattle.core_laws.proofs.Common.{PhysicalZone}
use Rattle.core_limits.proofs.PageLimits.{durable_few, kinds_of, pages_few, remappings_few}
use Rattle.core_limits.proofs.StreamSums.{Apart, Inside, named, names_few, over_script}

-- who handed in an entry
abbrev enterer : Remapping → Writer
enterer e = e.request

-- a request without an entry handed in none of these
none_entered : (es : List Remapping) (w : Writer) → IsNone (logged_of es w) → named enterer w es ≡ 0
none_entered [] w none = refl
none_entered (e ∷ es) w none = elim (same_tells e.request w) [
  | inl same ↦ let one : IsNone (Some e) = rw same.0 at none in absurd cc
  | inr other ↦ let rest = none_entered es w (rw other.0 at none) in rw other.0 (omega (arith, rest))
]

apart_entries : (es : List Remapping) → AreApart es → Apart enterer es
apart_entries [] apart = tt
apart_entries (e ∷ es) apart = (none_entered es e.request apart.0, apart_entries es apart.1)

-- each request of the script hands in one entry at most
entries_few : (s : Session) (t : Trace) → RightTrace s t → length (entered t) ≤ requests_in s.script
entries_few s t right =
    let inside = every-map {P = IsWrite s t} {Q = λ e. Inside (length s.script) (requests_of s.script) (enterer e)} (λ e write. asked_inside s.script e.request (some_is _ _ write.asked)) (entered t) (entered_writes s t right) in
    let names = names_few enterer (length s.script) (requests_of s.script) (entered t) (apart_entries (entered t) (entered_apart s t right)) inside in
    omega (arith, names, over_script s.script)

-- no more blocks are sealed than the journal has
pub blocks_few : (s : Session) (t : Trace) → RightTrace s t → length (sealed t) ≤ s.sizes.geometry.journal
blocks_few s [] right = omega arith
blocks_few s (Seals ∷ t) right = let left = right.0.left in omega (arith, left)
blocks_few s (other ∷ t) right = blocks_few s t right.2

-- an item that holds a lock is a request that is under way
holders_in : (vs : List Vio) → total (λ v. bit (holds v.phase)) vs ≤ total (λ v. 1) vs
holders_in [] = omega arith
holders_in (v ∷ vs) = omega (arith, bit_most (holds v.phase), holders_in vs)

holder_most : (it : Item) → holder_token.item it ≤ room_token.item it
holder_most (item.Request v) = bit_most (holds v.phase)
holder_most (item.Block b) = holders_in b.vios
holder_most other = omega arith

holders_most : (items : List Item) → total holder_token.item items ≤ total room_token.item items
holders_most items = total_at_most holder_token.item room_token.item items (λ i it e. holder_most it)

zone_most : (z : Zone) → weight holder_token z ≤ carried room_token z
zone_most z =
    let inbox = holders_most z.ports.inbox in
    let lanes = total_at_most (total holder_token.item) (total room_token.item) z.ports.outboxes (λ i lane e. holders_most lane) in
    let kept = holders_most (kept_items z.keeps) in
    omega (arith, inbox, lanes, kept)

module _ (s : Session) (core : Core) (legal : Legal s core) (n : ℕ) (z : Zone) (had : slice_get core.zones n ≡ Some z) where
  own_ok : (d : ZoneData) → z.keeps ≡ d → DataOk s core.trace n d
  own_ok d is = subst (λ (e : ZoneData). DataOk s core.trace n e) is (legal.each n z had).own

  pub next_within : (l : LogicalZone) → z.keeps ≡ at.Logical l → l.next ≤ z.steps
  next_within l keeps = let made = (legal.each n z had).counted in let same = ap made_by keeps in omega (arith, made, same)

  pub calls_within : (d : DeviceZone) → z.keeps ≡ at.Device d → d.calls ≤ z.steps
  calls_within d keeps = let made = (legal.each n z had).counted in let same = ap made_by keeps in omega (arith, made, same)

  pub held_within : (l : LogicalZone) → z.keeps ≡ at.Logical l → length l.held ≤ share s
  held_within l keeps =
      let here = total-get (given holder_token) core.zones n z had in
      let same = ap held_at keeps in
      let most = total_at_most (weight holder_token) (carried room_token) core.zones (λ i y e. zone_most y) in
      let balance = legal.holders in
      omega (arith, here, same, most, balance, all_requests s core legal)

  module _ (session : IsSession s) where
    trace_few : length (entered core.trace) ≤ most_requests
    trace_few = omega (arith, entries_few s core.trace legal.right, session.limits.requests)

    pub sequence_within : (j : JournalZone) → z.keeps ≡ at.Journal j → j.log.sequence < 2 ^ 55
    sequence_within j keeps =
        let sequence = (own_ok (at.Journal j) keeps).lists.log_is.sequence_is in
        omega (arith, sequence, session.start.1, session.used, blocks_few s core.trace legal.right, session.sizes.journal.1)

    pub filling_within : (j : JournalZone) → z.keeps ≡ at.Journal j → length j.filling ≤ 192
    filling_within j keeps = (own_ok (at.Journal j) keeps).sound.0

    journal_few : length (journaled core.trace) ≤ most_entries
    journal_few = omega (arith, kinds_of core.trace, trace_few, remappings_few core.trace, pages_few s core.trace session legal.right, session.limits.requests)

    pub entered_within : (j : JournalZone) → z.keeps ≡ at.Journal j → length j.entered ≤ most_entries
    entered_within j keeps = let same = ap length (own_ok (at.Journal j) keeps).lists.entered_is in omega (arith, same, journal_few)

    pub strays_within : (p : PhysicalZone) → z.keeps ≡ at.Physical p → length p.strays ≤ most_requests
    strays_within p keeps =
        let same = ap (λ (es : List Remapping). length es) (own_ok (at.Physical p) keeps).lists.strays_are in
        omega (arith, same, strays_few s p.counts.zone core.trace legal.right, trace_few)

    pub committed_within : (j : JournalZone) → z.keeps ≡ at.Journal j → length j.committed ≤ most_entries
    committed_within j keeps =
        let same = ap length (own_ok (at.Journal j) keeps).lists.committed_is in
        let less = durable_few s core.trace legal.right in
        omega (arith, same, less, journal_few)

    -- the journal alone gives out entries
    journal_gives : (t : Token) (f : List Logged → ℕ) → ((j : JournalZone) → t.gave (at.Journal j) ≡ f j.entered)
        → ((j : ℕ) (d : ZoneData) → (j ≡ journal_number s.sizes → ⊥) → DataOk s core.trace j d → t.gave d ≡ 0) → total (given t) core.zones ≡ f (journaled core.trace)
    journal_gives t f gives none =
        let journal = journal_sits s core.trace core.zones legal.each legal.count in
        let k = subst (λ (d : ZoneData). DataOk s core.trace (journal_number s.sizes) d) journal.keeps (legal.each (journal_number s.sizes) journal.zone journal.had).own in
        total_alone (given t) core.zones (journal_number s.sizes) journal.zone journal.had (λ j y there ne. none j y.keeps ne (legal.each j y there).own)
        ∙ ap t.gave journal.keeps ∙ gives journal.it ∙ ap f k.lists.entered_is

    all_entries : total (given entry_token) core.zones ≡ length (remappings (journaled core.trace))
    all_entries = journal_gives entry_token (λ es. length (remappings es)) (λ j. refl) none
      where
        none : (j : ℕ) (d : ZoneData) → (j ≡ journal_number s.sizes → ⊥) → DataOk s core.trace j d → entered_at d ≡ 0
        none j (at.Journal x) ne k = absurd (ne k.number_is)
        none j other ne k = refl

    all_page_entries : total (given page_entry_token) core.zones ≡ length (new_pages (journaled core.trace))
    all_page_entries = journal_gives page_entry_token (λ es. length (new_pages es)) (λ j. refl) none
      where
        none : (j : ℕ) (d : ZoneData) → (j ≡ journal_number s.sizes → ⊥) → DataOk s core.trace j d → pages_entered_at d ≡ 0
        none j (at.Journal x) ne k = absurd (ne k.number_is)
        none j other ne k = refl

    pub unlinkable_within : (l : LogicalZone) → z.keeps ≡ at.Logical l → length l.unlinkable ≤ most_entries
    unlinkable_within l keeps =
        let here = total-get (weight page_entry_token) core.zones n z had in
        let same = ap unlinkable_at keeps in
        let most = legal.dropped in
        omega (arith, here, same, most, all_page_entries, pages_few s core.trace session legal.right, session.limits.requests)

    ended_within : ended_at z.keeps ≤ most_requests
    ended_within =
        let here = total-get (weight entry_token) core.zones n z had in
        let balance = legal.entries in
        omega (arith, here, balance, all_entries, trace_few, remappings_few core.trace)

    pub slots_within : (l : LogicalZone) → z.keeps ≡ at.Logical l → length l.slots ≤ most_requests
    slots_within l keeps = let same = ap ended_at keeps in omega (arith, same, ended_within)

    pub retired_within : (l : LogicalZone) → z.keeps ≡ at.Logical l → length l.retired ≤ most_requests
    retired_within l keeps = let same = ap ended_at keeps in omega (arith, same, ended_within)
