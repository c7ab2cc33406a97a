-- No more decrements and reports are anywhere than requests are under way: each has its request.
use Rattle.std.proofs.Common.{◌≡◌, ℕ, zero, suc, ◌+◌, ◌<◌, ◌≤◌, ◌==◌, ◌&&◌, ◌⊎◌, Bool, true, false, not, is_some, if◌then◌else◌, IsSome, List, [], ◌∷◌, length, refl, ap, inl, inr, arith}
use Rattle.core_laws.proofs.Common.{AllByRecursion, DataOk, Each, Item, ItemOk, IsWrite, Remapping, Session, Token, Vio, Writer, Zone, ZoneData, as_items, bit, durable, eqb_tells, every-front, given, kept_by, physical_number, queued, remappings, request_at, room_token, same_writer, some_is, total, weight}
use Rattle.core_laws.proofs.kept.ZoneKinds.{physical_below}
use Rattle.core_laws.proofs.logical.ReportFacts.{each_logged}
use Rattle.core_laws.proofs.tokens.Known.{Replaces}
use Rattle.core_laws.proofs.trace.DeskOfTrace.{committed_writes}
use Rattle.core_limits.proofs.StreamSums.{Inside, all_named, asked_inside, requests_of, named, over, over_le, over_none}
use Rattle.core_model.specs.PhysicalFacts.{IsDecrement}
use Rattle.core_model.specs.Legal.{Legal}
use Rattle.core_model.specs.PageLinks.{block_in}
use Rattle.core_model.specs.Steps.{Core}
use Rattle.core_model.specs.Tokens.{damage_token, decrement_weight, has_old, is_committed, report_token, reported_at, settled_at, some_stray, strayed_at, waiter_token, waiter_weight}
use Rattle.core_model.specs.Trace.{passed}
use Rattle.core_model.specs.declared.zones.ZoneData.TheVariants as kind
use Rattle.blk_base.specs.declared.place.Mapping.{Mapping}
use Rattle.blk_base.specs.Forms.{writer}
use Rattle.data_vio.specs.declared.items.Item.TheVariants as item

-- what a zone's lanes and lists weigh, apart from its own part
abbrev pub carried : Token → Zone → ℕ
carried t z = total t.item z.ports.inbox + total (total t.item) z.ports.outboxes + queued t.item z.keeps

pub split_sum : (t : Token) (zones : List Zone) → total (weight t) zones ≡ total (carried t) zones + total (λ z. t.own z.keeps) zones
split_sum t [] = refl
split_sum t (z ∷ zones) = omega (arith, split_sum t zones)

-- a sum where only so many in a row have any, each 1 at most
few_within : {X : Type 0} (f : X → ℕ) (xs : List X) (from count : ℕ) → Each (λ i x. (f x ≤ 1) × ((i < from) ⊎ (from + count ≤ i) → f x ≡ 0)) xs → total f xs ≤ count
few_within f [] from count each = omega arith
few_within f (x ∷ xs) zero zero each =
    let here = (each 0 x refl).1 (inr (omega arith)) in
    let rest = few_within f xs zero zero (λ i y e. let k = each (suc i) y e in (k.0, λ out. k.1 (inr (omega arith)))) in
    omega (arith, here, rest)
few_within f (x ∷ xs) zero (suc count) each =
    let here = (each 0 x refl).0 in
    let rest = few_within f xs zero count (λ i y e. let k = each (suc i) y e in (k.0, λ out. k.1 (elim out [ inl before ↦ absurd (omega (arith, before)) | inr behind ↦ inr (omega (arith, behind)) ]))) in
    omega (arith, here, rest)
few_within f (x ∷ xs) (suc from) count each =
    let here = (each 0 x refl).1 (inl (omega arith)) in
    let rest = few_within f xs from count (λ i y e. let k = each (suc i) y e in (k.0, λ out. k.1 (elim out [ inl before ↦ inl (omega (arith, before)) | inr behind ↦ inr (omega (arith, behind)) ]))) in
    omega (arith, here, rest)

-- Sums over all names of a script.
over_plus : (k : ℕ) (f g : ℕ → ℕ) → over k (λ i. f i + g i) ≡ over k f + over k g
over_plus zero f g = refl
over_plus (suc k) f g = omega (arith, over_plus k f g)

ones : (m n : ℕ) → (over n (λ j. bit (m == j)) ≤ 1) × (n ≤ m → over n (λ j. bit (m == j)) ≡ 0)
ones m zero = (omega arith, λ few. refl)
ones m (suc n) =
    let rest = ones m n in
    elim (eqb_tells m n) [
      | inl same ↦ (rw same.0 (let none = rest.1 (omega (arith, same.1)) in omega (arith, none)), λ few. absurd (omega (arith, few, same.1)))
      | inr other ↦ (rw other.0 (omega (arith, rest.0)), λ few. rw other.0 (let none = rest.1 (omega (arith, few)) in omega (arith, none)))
    ]

of_one : (b : Bool) (m n : ℕ) → over n (λ j. bit (b && (m == j))) ≤ bit b
of_one true m n = (ones m n).0
of_one false m n = over_none n (λ j. 0) (λ j. omega arith)

module _ (k : ℕ) (bound : ℕ → ℕ) where
  abbrev sum : (Writer → ℕ) → ℕ
  sum f = over k (λ i. over (bound i) (λ n. f (writer i n)))

  sum_le : (f g : Writer → ℕ) → ((u : Writer) → f u ≤ g u) → sum f ≤ sum g
  sum_le f g le = over_le k (λ i. over (bound i) (λ n. f (writer i n))) (λ i. over (bound i) (λ n. g (writer i n))) (λ i. over_le (bound i) (λ n. f (writer i n)) (λ n. g (writer i n)) (λ n. le (writer i n)))

  sum_plus : (f g : Writer → ℕ) → sum (λ u. f u + g u) ≤ sum f + sum g
  sum_plus f g =
      let each = over_le k (λ i. over (bound i) (λ n. f (writer i n) + g (writer i n))) (λ i. over (bound i) (λ n. f (writer i n)) + over (bound i) (λ n. g (writer i n)))
      (λ i. let both = over_plus (bound i) (λ n. f (writer i n)) (λ n. g (writer i n)) in omega (arith, both)) in
      let all = over_plus k (λ i. over (bound i) (λ n. f (writer i n))) (λ i. over (bound i) (λ n. g (writer i n))) in
      omega (arith, each, all)

  sum_none : sum (λ u. 0) ≤ 0
  sum_none = over_none k (λ i. over (bound i) (λ n. 0)) (λ i. over_none (bound i) (λ n. 0) (λ n. omega arith))

  name_one : (w : Writer) → sum (λ u. bit (same_writer w u)) ≤ 1
  name_one w =
      let each = over_le k (λ i. over (bound i) (λ n. bit (same_writer w (writer i n)))) (λ i. bit (w.stream == i)) (λ i. of_one (w.stream == i) w.number (bound i)) in
      let all = (ones w.stream k).0 in
      omega (arith, each, all)

  lists : {X : Type 0} (f : Writer → X → ℕ) (g : X → ℕ) → ((x : X) → sum (λ u. f u x) ≤ g x) → (xs : List X) → sum (λ u. total (f u) xs) ≤ total g xs
  lists f g less [] = sum_none
  lists f g less (x ∷ xs) =
      let both = sum_plus (λ u. f u x) (λ u. total (f u) xs) in
      omega (arith, both, less x, lists f g less xs)

  -- a request waits for its own entry
  less : (a b c : Bool) → (if a then bit (b && c) else 0) ≤ bit b
  less false b c = omega arith
  less true true true = omega arith
  less true true false = omega arith
  less true false c = omega arith

  one_vio : (v : Vio) → sum (λ u. waiter_weight u v) ≤ 1
  one_vio v =
      let own = sum_le (λ u. waiter_weight u v) (λ u. bit (same_writer v.request u)) (λ u. less (is_committed v.phase && not (is_some v.page)) (same_writer v.request u) (is_some (block_in v.old))) in
      let one = name_one v.request in
      omega (arith, own, one)

  one_item : (it : Item) → sum (λ u. (waiter_token u).item it) ≤ room_token.item it
  one_item (item.Request v) = one_vio v
  one_item (item.Block b) = lists waiter_weight (λ v. 1) one_vio b.vios
  one_item other = sum_none

  one_zone : (z : Zone) → sum (λ u. carried (waiter_token u) z) ≤ carried room_token z
  one_zone z =
      let items = lists (λ u. (waiter_token u).item) room_token.item one_item in
      let first = sum_plus (λ u. total (waiter_token u).item z.ports.inbox + total (total (waiter_token u).item) z.ports.outboxes) (λ u. queued (waiter_token u).item z.keeps) in
      let second = sum_plus (λ u. total (waiter_token u).item z.ports.inbox) (λ u. total (total (waiter_token u).item) z.ports.outboxes) in
      let lanes = lists (λ u. total (waiter_token u).item) (total room_token.item) items z.ports.outboxes in
      omega (arith, first, second, items z.ports.inbox, lanes, items (as_items (kept_by z.keeps)))

  waiters_few : (zones : List Zone) → sum (λ u. total (carried (waiter_token u)) zones) ≤ total (carried room_token) zones
  waiters_few zones = lists (λ u. carried (waiter_token u)) (carried room_token) one_zone zones

-- the reports that a zone keeps, for a request
abbrev pub kept_reports : Writer → ZoneData → ℕ
kept_reports u (kind.Logical l) = total (has_old u) l.reported
kept_reports u other = 0

-- the entries of decrements and reports
abbrev pub updates_in : List Item → List Remapping
updates_in [] = []
updates_in (item.Decrement e ∷ items) = e ∷ updates_in items
updates_in (item.Report e ∷ items) = e ∷ updates_in items
updates_in (other ∷ items) = updates_in items

pub updates_weigh : (u : Writer) (items : List Item) → total (decrement_weight u) items ≡ total (has_old u) (updates_in items)
updates_weigh u [] = refl
updates_weigh u (item.Decrement e ∷ items) = omega (arith, updates_weigh u items)
updates_weigh u (item.Report e ∷ items) = omega (arith, updates_weigh u items)
updates_weigh u (other ∷ items) = omega (arith, updates_weigh u items)

module _ (s : Session) (core : Core) (legal : Legal s core) where
  -- an entry that replaces a block, of a request of the script
  abbrev pub IsKnown : Remapping → Type 0
  IsKnown e = Replaces e × IsSome (request_at s.script e.request)

  pub known_by : (e : Remapping) → IsDecrement s core.trace e → IsKnown e
  known_by e is =
      let t = core.trace in
      let write = each_logged (IsWrite s t) (durable t) e (every-front (IsWrite s t) (remappings (durable t)) (passed t) (committed_writes s t legal.right)).0 is.committed in
      (ap (λ (m : Mapping). is_some (block_in m)) is.old_is, some_is _ _ write.asked)

  pub all_known : (n : ℕ) (items : List Item) → AllByRecursion (ItemOk s core.trace n) items → AllByRecursion IsKnown (updates_in items)
  all_known n [] all = tt
  all_known n (item.Decrement e ∷ items) all = (known_by e all.0.0, all_known n items all.1)
  all_known n (item.Report e ∷ items) all = (known_by e all.0.0.decrement, all_known n items all.1)
  all_known n (other ∷ items) all = all_known n items all.1

  -- what is carried of the entries of a request, and kept as reports, waits
  pub reports_wait : (u : Writer) → total (carried (report_token u)) core.zones + total (λ z. kept_reports u z.keeps) core.zones ≡ total (carried (waiter_token u)) core.zones
  reports_wait u =
      let one = split_sum (report_token u) core.zones in
      let two = split_sum (waiter_token u) core.zones in
      let reports = legal.reports u in
      let waiters = legal.waiters u in
      let own = parts core.zones in
      omega (arith, one, two, reports, waiters, own)
    where
      at_zone : (d : ZoneData) → reported_at u d ≡ settled_at u d + kept_reports u d
      at_zone (kind.Logical l) = refl
      at_zone other = refl

      parts : (zones : List Zone) → total (λ z. reported_at u z.keeps) zones ≡ total (λ z. settled_at u z.keeps) zones + total (λ z. kept_reports u z.keeps) zones
      parts [] = refl
      parts (z ∷ zones) = omega (arith, at_zone z.keeps, parts zones)

  -- So entries of which each request has no more than wait are no more than the requests under way.
  pub entries_few : (xs : List Remapping) → AllByRecursion IsKnown xs → ((u : Writer) → total (has_old u) xs ≤ total (carried (waiter_token u)) core.zones) → length xs ≤ total (carried room_token) core.zones
  entries_few xs known less =
      let name : Remapping → Writer = λ e. e.request in
      let k = length s.script in
      let bound = requests_of s.script in
      let all = all_named name k bound xs (inside xs known) in
      let each = sum_le k bound (λ u. named name u xs) (λ u. total (carried (waiter_token u)) core.zones) (λ u. let same = weigh xs known u in let few = less u in omega (arith, same, few)) in
      let few = waiters_few k bound core.zones in
      omega (arith, all, each, few)
    where
      inside : (xs : List Remapping) → AllByRecursion IsKnown xs → AllByRecursion (λ (e : Remapping). Inside (length s.script) (requests_of s.script) e.request) xs
      inside [] known = tt
      inside (e ∷ xs) known = (asked_inside s.script e.request known.0.1, inside xs known.1)

      one : (b c : Bool) → c ≡ true → bit (b && c) ≡ bit b
      one true c is = ap bit is
      one false c is = refl

      weigh : (xs : List Remapping) → AllByRecursion IsKnown xs → (u : Writer) → named (λ (e : Remapping). e.request) u xs ≡ total (has_old u) xs
      weigh [] known u = refl
      weigh (e ∷ xs) known u = omega (arith, one (same_writer e.request u) (is_some (block_in e.old)) known.0.0, weigh xs known.1 u)

  -- damage is told once by each physical zone
  pub damages_few : total (weight damage_token) core.zones ≤ s.sizes.physical
  damages_few =
      let few = few_within (given damage_token) core.zones (physical_number s.sizes 0) s.sizes.physical (λ n z had. one_at n z.keeps (legal.each n z had).own) in
      omega (arith, few, legal.damage)
    where
      at_most : (es : List Remapping) → some_stray es ≤ 1
      at_most [] = omega arith
      at_most (e ∷ es) = omega arith

      one_at : (n : ℕ) (d : ZoneData) → DataOk s core.trace n d → (strayed_at d ≤ 1) × ((n < physical_number s.sizes 0) ⊎ (physical_number s.sizes 0 + s.sizes.physical ≤ n) → strayed_at d ≡ 0)
      one_at n (kind.Physical p) ok = (
        at_most p.strays,
        λ outside. absurd (
            let number = ok.number_is in
            let below = physical_below s core.trace n p ok in
            elim outside [ inl before ↦ omega (arith, number, before) | inr behind ↦ omega (arith, number, below, behind) ]
            ),
      )
      one_at n other ok = (omega arith, λ outside. refl)
