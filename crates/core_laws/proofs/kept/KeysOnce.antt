-- Of each key at most one is held in a legal core; so whoever has it in hand has it alone.
use Rattle.std.proofs.Common.{◌≡◌, ℕ, zero, suc, ◌+◌, ◌≤◌, ◌==◌, ◌%◌, ◌&&◌, ◌++◌, Bool, true, false, not, is_some, List, [], ◌∷◌, Some, slice_get, refl, ap, inl, inr, arith}
use Rattle.core_laws.proofs.Common.{Balanced, DataOk, Each, Item, Session, Trace, Writer, Zone, ZoneData, ZoneOk, begins_of, begun, bit, cases_Bool, eqb_tells, given, in_log, kept_by, lease_token, lines, lock_weight, locks_at, nobody_else, request_token, Sizes, total, total-append, total-get, total_zero, weight, zone_of}
use Rattle.core_model.specs.declared.zones.ZoneData.TheVariants as at
use Rattle.core_model.specs.Legal.{Legal}
use Rattle.blk_base.specs.declared.place.PageId.{PageId}
use Rattle.core_model.specs.LogicalRules.{is_among, is_held}
use Rattle.core_model.specs.PageTrees.{is_listed, link_at}
use Rattle.core_model.specs.Tokens.{making_at, making_token}
use Rattle.core_model.specs.Steps.{Core}
use Rattle.core_laws.proofs.kept.ActKept.{weighed, unborn, Reached, in_hand, in_line, line_of}
use Rattle.core_laws.proofs.kept.Frame.{HasNoneBeside}
use Rattle.core_laws.proofs.kept.Keys.{Key, OfRequest, OfAddress, OfBlock, OfPage, OfJournal, any, token_of, slot_token, free_at, page_token, unmade_at}
use Rattle.core_laws.proofs.kept.ZoneKinds.{journal_once, total_once}
use Rattle.core_laws.proofs.lists.CoreLists.{counts_held}
use Rattle.core_laws.proofs.tokens.Owners.{home_of, locks_elsewhere, not_begun, request_once}
use Rattle.core_laws.proofs.tokens.PageOwners.{none_elsewhere, page_home}
use Rattle.core_laws.proofs.tokens.PageTokens.{times_listed}
use Rattle.core_laws.proofs.tokens.Lift.{items_total}
use Rattle.core_laws.proofs.trace.DeskOfTrace.{desk_log_right}
use Rattle.core_laws.proofs.kept.SoleWriter.{claim_once}

-- An address weighs where its lock is, or at its home.
slots_split : (s : Session) (a : ℕ) (zones : List Zone) → total (weight (slot_token s.sizes a)) zones ≡ total (weight (lease_token a any)) zones + total (λ z. free_at s.sizes a z.keeps) zones
slots_split s a [] = refl
slots_split s a (z ∷ zones) = omega (arith, slots_split s a zones)

slots_given : (s : Session) (a : ℕ) (zones : List Zone) → total (λ z. locks_at a any z.keeps + free_at s.sizes a z.keeps) zones ≡ total (given (lease_token a any)) zones + total (λ z. free_at s.sizes a z.keeps) zones
slots_given s a [] = refl
slots_given s a (z ∷ zones) = omega (arith, slots_given s a zones)

one_slot : (zone held : Bool) (more : Bool) (locks : ℕ) → locks ≤ 1 → (1 ≤ locks → held ≡ true) → locks + bit (zone && (not held && more)) ≤ 1
one_slot zone true more locks once counts = elim (cases_Bool zone) [ inl at_home ↦ rw at_home (omega (arith, once)) | inr elsewhere ↦ rw elsewhere (omega (arith, once)) ]
one_slot zone false more locks once counts = none locks counts
  where
    at_most : (b : Bool) → bit b ≤ 1
    at_most true = omega arith
    at_most false = omega arith

    none : (locks : ℕ) → (1 ≤ locks → false ≡ true) → locks + bit (zone && (true && more)) ≤ 1
    none zero counts = omega (arith, at_most (zone && (true && more)))
    none (suc n) counts = absurd (let bad = counts (omega arith) in cc)

module _ (s : Session) (t : Trace) (a : ℕ) where
  one_slot_at : (n : ℕ) (d : ZoneData) → DataOk s t n d → (locks_at a any d + free_at s.sizes a d ≤ 1) × ((n ≡ home_of s a → ⊥) → locks_at a any d + free_at s.sizes a d ≡ 0)
  one_slot_at n (at.Logical l) ok = (
    one_slot (zone_of s.sizes.zones a == l.zone) (is_held a l.held) (not (is_among a l.retired)) (total (lock_weight a any) l.held) (ok.sound.locks.once a) (counts_held a l.held),
    λ ne. elim (eqb_tells (zone_of s.sizes.zones a) l.zone) [
      | inl same ↦ absurd (ne (let number = ok.number_is in let zone = same.1 in omega (arith, number, zone)))
      | inr other ↦ rw other.0 (omega (arith, locks_elsewhere s t a any n (at.Logical l) ok ne))
    ],
  )
  one_slot_at n other ok = (omega arith, λ ne. refl)

-- A page weighs with its maker, or at its home.
pages_split : (sizes : Sizes) (page : PageId) (zones : List Zone) → total (weight (page_token sizes page)) zones ≡ total (weight (making_token page)) zones + total (λ z. unmade_at sizes page z.keeps) zones
pages_split sizes page [] = refl
pages_split sizes page (z ∷ zones) = omega (arith, pages_split sizes page zones)

pages_given : (sizes : Sizes) (page : PageId) (zones : List Zone) → total (λ z. making_at page z.keeps + unmade_at sizes page z.keeps) zones ≡ total (given (making_token page)) zones + total (λ z. unmade_at sizes page z.keeps) zones
pages_given sizes page [] = refl
pages_given sizes page (z ∷ zones) = omega (arith, pages_given sizes page zones)

one_page : (zone linked listed never : Bool) (made : ℕ) → made ≤ 1 → (1 ≤ made → listed ≡ true) → made + bit (zone && (not linked && (not listed && not never))) ≤ 1
one_page zone linked true never made once lists = let off : (zone && (not linked && false)) ≡ false = none zone linked in rw off (omega (arith, once))
  where
    none : (b c : Bool) → (b && (not c && false)) ≡ false
    none true true = refl
    none true false = refl
    none false c = refl
one_page zone linked false never made once lists = by made lists (zone && (not linked && (true && not never)))
  where
    by : (n : ℕ) → (1 ≤ n → false ≡ true) → (b : Bool) → n + bit b ≤ 1
    by zero lists true = omega arith
    by zero lists false = omega arith
    by (suc n) lists b = absurd (let bad = lists (omega arith) in cc)

module _ (s : Session) (t : Trace) (page : PageId) where
  one_page_at : (n : ℕ) (d : ZoneData) → DataOk s t n d → (making_at page d + unmade_at s.sizes page d ≤ 1) × ((n ≡ page_home s.sizes page → ⊥) → making_at page d + unmade_at s.sizes page d ≡ 0)
  one_page_at n (at.Logical l) ok = (
    one_page (page.tree % s.sizes.zones == l.zone) (is_some (link_at l.tree page)) (is_listed page l.making) (is_listed page l.unlinkable) (making_at page (at.Logical l)) (ok.sound.pages.once page) (times_listed page l.making),
    λ ne. elim (eqb_tells (page.tree % s.sizes.zones) l.zone) [
      | inl same ↦ absurd (ne (let number = ok.number_is in let zone = same.1 in omega (arith, number, zone)))
      | inr other ↦ rw other.0 (omega (arith, none_elsewhere s t page n (at.Logical l) ok ne))
    ],
  )
  one_page_at n other ok = (omega arith, λ ne. refl)

  pub page_once : (zones : List Zone) → Each (ZoneOk s t) zones → Balanced (making_token page) zones → total (weight (page_token s.sizes page)) zones ≤ 1
  page_once zones each balance =
      let once = total_once (λ z. making_at page z.keeps + unmade_at s.sizes page z.keeps) zones (page_home s.sizes page) (λ n z had. one_page_at n z.keeps (each n z had).own) in
      omega (arith, once, pages_given s.sizes page zones, pages_split s.sizes page zones, balance)

module _ (s : Session) (core : Core) (legal : Legal s core) where
  pub key_once : (k : Key) → total (weight (token_of s.sizes k)) core.zones ≤ 1
  key_once (OfRequest w) = let once = request_once s core.trace legal.right core.zones legal.each w in let balance = legal.requests w in omega (arith, once, balance)
  key_once (OfAddress a) =
      let once = total_once (λ z. locks_at a any z.keeps + free_at s.sizes a z.keeps) core.zones (home_of s a) (λ n z had. one_slot_at s core.trace a n z.keeps (legal.each n z had).own) in
      let balance = legal.leases a any in
      omega (arith, once, slots_given s a core.zones, slots_split s a core.zones, balance)
  key_once (OfBlock x) = claim_once s core legal x
  key_once (OfPage page) = page_once s core.trace page core.zones legal.each (legal.making page)
  key_once OfJournal = let once = journal_once s core.trace core.zones legal.each in let balance = legal.journal in omega (arith, once, balance)

  -- nobody has a request that isn't begun
  nobody : (w : Writer) → begun w.stream (lines core.trace) ≤ w.number → total (weight (request_token w)) core.zones ≡ 0
  nobody w late =
      let nothing = total_zero (given (request_token w)) core.zones (λ j y there. none_given j y.keeps (legal.each j y there).own) in
      let balance = legal.requests w in
      omega (arith, nothing, balance)
    where
      none_given : (j : ℕ) (d : ZoneData) → DataOk s core.trace j d → in_log (begins_of w) d ≡ 0
      none_given j (at.Desk desk) k = rw k.lists.log_is (not_begun s.sizes.depth s.script (lines core.trace) w (desk_log_right s core.trace legal.right) late)
      none_given j other k = refl

  -- at a zone, with what its act takes from its inbox
  module _ (n : ℕ) (z : Zone) (had : slice_get core.zones n ≡ Some z) (front rest : List Item) (taken : z.ports.inbox ≡ front ++ rest) where
    parts : (k : Key) → weight (token_of s.sizes k) z
        ≡ total (token_of s.sizes k).item front + (line_of s k (kept_by z.keeps) + (token_of s.sizes k).own z.keeps) + (total (token_of s.sizes k).item rest + total (total (token_of s.sizes k).item) z.ports.outboxes)
    parts k =
        let inbox = ap (total (token_of s.sizes k).item) taken in
        omega (arith, inbox, total-append (token_of s.sizes k).item front rest, items_total (token_of s.sizes k).item (kept_by z.keeps))

    pub most_here : (k : Key) → total (token_of s.sizes k).item front + (line_of s k (kept_by z.keeps) + (token_of s.sizes k).own z.keeps) ≤ 1
    most_here k = let here = total-get (weight (token_of s.sizes k)) core.zones n z had in omega (arith, key_once k, here, parts k)

    pub unborn_here : (w : Writer) → begun w.stream (lines core.trace) ≤ w.number → line_of s (OfRequest w) (kept_by z.keeps) ≡ 0
    unborn_here w late = let here = total-get (weight (request_token w)) core.zones n z had in omega (arith, nobody w late, here, parts (OfRequest w))

    -- who has all of a key that there is at the front or beside its lanes
    beside : (k : Key) → total (weight (token_of s.sizes k)) core.zones ≤ total (token_of s.sizes k).item front + (line_of s k (kept_by z.keeps) + (token_of s.sizes k).own z.keeps) → HasNoneBeside core.zones n (record z { ports = record z.ports { inbox = rest } }) (token_of s.sizes k)
    beside k all =
        let here = total-get (weight (token_of s.sizes k)) core.zones n z had in
        record { others = nobody_else (weight (token_of s.sizes k)) core.zones n z had (omega (arith, all, parts k)); inbox = omega (arith, all, here, parts k); outboxes = omega (arith, all, here, parts k) }

    pub none_beside : (k : Key) → Reached s core.trace z.keeps front k → HasNoneBeside core.zones n (record z { ports = record z.ports { inbox = rest } }) (token_of s.sizes k)
    none_beside k (in_hand (weighed some)) = beside k (omega (arith, some, key_once k))
    none_beside k (in_line some) = beside k (omega (arith, some, key_once k))
    none_beside k (in_hand (unborn {w = w} late)) = beside (OfRequest w) (omega (arith, nobody w late))
