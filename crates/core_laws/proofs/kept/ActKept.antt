-- What each act may use and what it owes.
use Rattle.std.proofs.Common.{◌≡◌, ℕ, ◌+◌, ◌<◌, ◌≤◌, Bool, true, Option, None, Some, IsNone, List, [], ◌∷◌, ◌++◌, refl, ap, sym, ◌∙◌, subst, inl, inr, arith, false}
use Rattle.core_laws.proofs.Common.{AllByRecursion, begun, Calls, Carries, Commits, DataOk, done, entered, Enters, Fails, fair_before, filled, GivesRight, Happening, holds, IsFair, IsSession, IsWrite, Item, ItemOk, kept_by, KeptEach, KeptOk, lines, logged_of, LogicalZone, none_is, not_both, OnBlock, option_cases, Pbn, Phase, place_of, Placed, places, Post, RightTrace, same_Some, same_tells, Seals, Session, Shown, total, of_vio, Trace, Vio, VioOk, Writer, zone_count, zone_number, ZoneData, cases_Bool, has_taken, Harms, Says, Flushes, Takes, durable, superblock_stage}
use Rattle.blk_base.specs.declared.place.Mapping.TheVariants.{At}
use Rattle.data_vio.specs.declared.items.Item.TheVariants as item
use Rattle.data_vio.specs.declared.items.Phase.TheVariants as phase
use Rattle.core_model.specs.declared.zones.ZoneData.TheVariants as at
use Rattle.blk_base.specs.declared.place.PageId.{PageId}
use Rattle.blk_base.specs.Regions.{IsDataBlock}
use Rattle.data_vio.specs.Phases.{phase_rule}
use Rattle.core_model.specs.Facts.{CarriesFor, CarriesOwn, CarriesPage}
use Rattle.core_model.specs.LogicalFacts.{TookNone}
use Rattle.core_model.specs.RequestFacts.{ClaimFor, ClaimOk, claim_of}
use Rattle.core_model.specs.Legal.{ComesAfter}
use Rattle.core_model.specs.Sessions.{SuperblockStands}
use Rattle.core_laws.proofs.trace.DeskOfTrace.{logged_has, entered_writes, done_is_entered}
use Rattle.core_laws.proofs.trace.PlacesOfTrace.{IsBegun, places_begun}
use Rattle.core_laws.proofs.trace.Growth.{begun_stays}
use Rattle.core_laws.proofs.kept.Frame.{kept_each}
use Rattle.core_laws.proofs.kept.Keys.{Key, OfRequest, OfAddress, OfBlock, OfJournal, OfPage, claim_one, token_of, Spares, happens_in, IfAny, Clears, clears_with, mine_or_spared, own_name, holder_one, maker_one}
use Rattle.core_laws.proofs.kept.Spared.{about, or_other}
use Rattle.core_laws.proofs.tokens.Known.{LeasedIn, SettlingLeased}
use Rattle.core_laws.proofs.kept.StandsOn.{SparesBlock, SparesJournal, SparesJournaled, SparesSealed, filling_spared, journal_kept, kept_spared, left_kept, mapped_all, new_reads_kept, superblock_kept}
use Rattle.core_model.specs.CountUpdates.{CountUpdate, updates_in, updates_of, updates_taken}
use Rattle.core_model.specs.RightTraces.{IsUnused}
use Rattle.core_model.specs.Streams.{counted}
use Rattle.core_model.specs.UpdateStream.{updating}
use Rattle.core_model.specs.declared.zones.PhysicalZone.{PhysicalZone}
use Rattle.core_model.specs.Tokens.{owes, unowed_weight}
use Rattle.core_model.specs.Trace.{is_for}

-- In the hands of an act is what the front of the inbox weighs for, and what the zone's own data does. A request that isn't
-- begun is in nobody's.
pub data Mine (s : Session) (t : Trace) (d : ZoneData) (front : List Item) : Key → Type 0 where
  weighed : {k : Key} → 1 ≤ total (token_of s.sizes k).item front + (token_of s.sizes k).own d → Mine s t d front k
  unborn : {w : Writer} → begun w.stream (lines t) ≤ w.number → Mine s t d front (OfRequest w)

-- what the requests that a zone keeps weigh
abbrev pub line_of : Session → Key → List Vio → ℕ
line_of s k vs = total (λ v. (token_of s.sizes k).item (item.Request v)) vs

-- Besides, what those that the zone keeps weigh for.
pub data Reached (s : Session) (t : Trace) (d : ZoneData) (front : List Item) : Key → Type 0 where
  in_hand : {k : Key} → Mine s t d front k → Reached s t d front k
  in_line : {k : Key} → 1 ≤ line_of s k (kept_by d) → Reached s t d front k

-- What an act may use: the zone is as it must be, and so is the item in front; of each key one is held at most.
pub record Known (s : Session) (t : Trace) (n : ℕ) (d : ZoneData) (front : List Item) : Type 0 where
  pub session : IsSession s
  pub right : RightTrace s t
  pub own : DataOk s t n d
  pub front_ok : AllByRecursion (ItemOk s t n) front
  pub most : (k : Key) → total (token_of s.sizes k).item front + (line_of s k (kept_by d) + (token_of s.sizes k).own d) ≤ 1
  pub none_unborn : (w : Writer) → begun w.stream (lines t) ≤ w.number → line_of s (OfRequest w) (kept_by d) ≡ 0
  -- the holder of a lock in front of its home has the lock's place; an arrival comes in turn
  pub leased : LeasedIn d front
  pub settling_leased : SettlingLeased d front
  pub in_turn : (l : LogicalZone) (v : Vio) → d ≡ at.Logical l → front ≡ item.Request v ∷ [] → v.phase ≡ phase.Arrive → AllByRecursion (ComesAfter l.zone v.request) (places t)
  -- what is in front of a physical zone has the next of its updates of the committed entries
  pub next_updates : (p : PhysicalZone) → d ≡ at.Physical p
      → (rest : List CountUpdate) × (updates_in s.sizes p.counts.zone (updates_of (durable t)) ≡ updates_in s.sizes p.counts.zone (updates_taken t) ++ (updates_in s.sizes p.counts.zone (counted updating front) ++ rest))
  -- a block on which there is a claim, whose entry isn't handed in, is mapped by nobody
  pub unused : (x : Pbn) → 1 ≤ total (of_vio (unowed_weight x)) front + total (unowed_weight x) (kept_by d) → IsFair s t → IsUnused s t x

-- what happens is about what it has in its hands
abbrev pub Owns : Session → Trace → ℕ → ZoneData → List Item → Trace → Type 0
Owns s t n d front [] = Unit {0}
Owns s t n d front (h ∷ made) = Clears s n (Reached s t d front) h (made ++ t) × Owns s t n d front made

-- a post to one of the zones, with what it must carry
abbrev pub PostOk : Session → Trace → Post → Type 0
PostOk s t post = (zone_number s.sizes post.0 < zone_count s.sizes) × ItemOk s t (zone_number s.sizes post.0) post.1

-- What an act owes: the trace stays right, what happens is its own, the zone is as it must be, and each post carries what
-- it must.
pub record ActKept (s : Session) (t : Trace) (n : ℕ) (d : ZoneData) (front : List Item) (new : ZoneData) (made : Trace) (posts : List Post) : Type 0 where
  pub right : RightTrace s (made ++ t)
  pub gives : (IsFair s t → GivesRight s t) → IsFair s (made ++ t) → GivesRight s (made ++ t)
  pub owns : Owns s t n d front made
  pub own : DataOk s (made ++ t) n new
  pub posts_ok : AllByRecursion (PostOk s (made ++ t)) posts

-- a happening that is neither a call nor about the journal spares the journal
abbrev pub IsPlain : Happening → Type 0
IsPlain (Enters e) = ⊥
IsPlain (Commits e) = ⊥
IsPlain Seals = ⊥
IsPlain (Calls c) = ⊥
IsPlain (Fails w c kept) = ⊥
IsPlain (Harms w x bytes fault) = ⊥
IsPlain other = Unit {0}

pub plain_journal : (s : Session) (t : Trace) (h : Happening) → IsPlain h → Spares s t h OfJournal
plain_journal s t (Enters e) is = absurd is
plain_journal s t (Commits e) is = absurd is
plain_journal s t Seals is = absurd is
plain_journal s t (Calls c) is = absurd is
plain_journal s t (Fails w c kept) is = absurd is
plain_journal s t (Harms w x bytes fault) is = absurd is
plain_journal s t other is = (record { sealed_same = refl; committed_same = refl }, tt, λ fair newer parts. mapped_all s other (λ x. tt) newer (durable t))

-- What stands where the session is fair stands after a happening that writes no block of it, and adds nothing to the journal.
pub shown_with : (s : Session) (h : Happening) (t : Trace) → SparesSealed s h t → filled (h ∷ t) ≡ filled t → SparesJournal s h → (IsFair s t → SparesJournaled s h t)
    → (SuperblockStands s t (superblock_stage t) → SuperblockStands s (h ∷ t) (superblock_stage (h ∷ t))) → (IsFair s t → Shown s t) → IsFair s (h ∷ t) → Shown s (h ∷ t)
shown_with s h t same filling journal blocks superblock before fair =
    let fair_then = fair_before s h t fair in
    let k = before fair_then in
    let spares = blocks fair_then in
    record {
      superblock = superblock k.superblock;
      kept = left_kept s h t (kept_spared s h t spares k.journal) k.kept;
      journal = journal_kept s h t same journal spares k.journal;
      filling = rw filling (new_reads_kept s h t (filled t) (filling_spared s h t spares k.journal) k.filling);
    }

pub shown_kept : (s : Session) (h : Happening) (t : Trace) → SparesSealed s h t → filled (h ∷ t) ≡ filled t → SparesJournal s h → (IsFair s t → SparesJournaled s h t) → SparesBlock h 0 → (IsFair s t → Shown s t)
    → IsFair s (h ∷ t) → Shown s (h ∷ t)
shown_kept s h t same filling journal blocks first = shown_with s h t same filling journal blocks (superblock_kept s h t first)

pub shown_plain : (s : Session) (t : Trace) (h : Happening) → IsPlain h → (IsFair s t → Shown s t) → IsFair s (h ∷ t) → Shown s (h ∷ t)
shown_plain s t (Enters e) is k = absurd is
shown_plain s t (Commits e) is k = absurd is
shown_plain s t Seals is k = absurd is
shown_plain s t (Calls c) is k = absurd is
shown_plain s t (Fails w c kept) is k = absurd is
shown_plain s t (Harms w x bytes fault) is k = absurd is
shown_plain s t other is k = let same = plain_journal s t other tt in shown_kept s other t same.0 refl same.1 same.2 tt k

-- a request whose line of the desk log is none of these is the same one
pub vio_over : (s : Session) (h : Happening) (t : Trace) (v : Vio) → lines (h ∷ t) ≡ lines t → VioOk s t v → VioOk s (h ∷ t) v
vio_over s h t v same ok = record { asked = ok.asked; is_open = record { is_begun = rw same ok.is_open.is_begun; unanswered = rw same ok.is_open.unanswered }; address = ok.address; home = ok.home }

-- What its phase says that it carries.
pub carries_at : (s : Session) (t : Trace) (v : Vio) (q : Phase) → v.phase ≡ q → Carries s t v v.phase → Carries s t v q
carries_at s t v q is k = subst (λ (p : Phase). Carries s t v p) is k

-- what its phase says of its claim
pub claim_at : (s : Session) (v : Vio) (q : Phase) → v.phase ≡ q → ClaimOk s v → ClaimFor s v q
claim_at s v q is k = subst (λ (p : Phase). ClaimFor s v p) is k

-- In a phase where none makes a page it makes none; and what it carries of its own, or of its page, it carries.
pub bare_of : (s : Session) (t : Trace) (v : Vio) (q : Phase) → ((page : PageId) → CarriesPage s t v page q → ⊥) → Carries s t v q → (v.page ≡ None) × CarriesOwn s t v q
bare_of s t v q none k = by v.page refl k
  where
    by : (o : Option PageId) → v.page ≡ o → CarriesFor s t v q o → (v.page ≡ None) × CarriesOwn s t v q
    by None is own = (is, own)
    by (Some page) is made = absurd (none page made)

pub carries_own : (s : Session) (t : Trace) (v : Vio) (q : Phase) → v.page ≡ None → CarriesOwn s t v q → Carries s t v q
carries_own s t v q bare k = subst (CarriesFor s t v q) (sym bare) k

pub carries_page : (s : Session) (t : Trace) (v : Vio) (page : PageId) (q : Phase) → v.page ≡ Some page → CarriesPage s t v page q → Carries s t v q
carries_page s t v page q some k = subst (CarriesFor s t v q) (sym some) k

module _ {s : Session} {t : Trace} {n : ℕ} {d : ZoneData} {front : List Item} (known : Known s t n d front) where
  -- what is in its hands, nothing that it keeps weighs for
  pub alone : (k : Key) → Mine s t d front k → line_of s k (kept_by d) ≡ 0
  alone k (weighed some) = let most = known.most k in omega (arith, some, most)
  alone k (unborn {w = w} late) = known.none_unborn w late

  -- over a happening that is its own, those that it keeps have what they had
  pub line_kept : (h : Happening) (u : Trace) → Clears s n (Mine s t d front) h u → KeptEach (KeptOk s u) d → KeptEach (KeptOk s (h ∷ u)) d
  line_kept h u clears has = kept_each s h u d (λ k. elim (mine_or_spared clears k) [ inl own ↦ inl (alone k own) | inr spared ↦ inr spared ]) has

  pub reaches : {h : Happening} {u : Trace} → Clears s n (Mine s t d front) h u → Clears s n (Reached s t d front) h u
  reaches clears = clears_with (λ k. in_hand) clears

  -- an act over which nothing happens
  pub act_none : {new : ZoneData} {posts : List Post} → DataOk s t n new → AllByRecursion (PostOk s t) posts → ActKept s t n d front new [] posts
  act_none own posts = record { right = known.right; gives = λ gives fair. gives fair; owns = tt; own = own; posts_ok = posts }

  -- and one over which one thing happens, that is its own
  pub act_one : (h : Happening) {new : ZoneData} {posts : List Post} → Clears s n (Mine s t d front) h t → ((IsFair s t → GivesRight s t) → IsFair s (h ∷ t) → GivesRight s (h ∷ t)) → RightTrace s (h ∷ t)
      → DataOk s (h ∷ t) n new → AllByRecursion (PostOk s (h ∷ t)) posts → ActKept s t n d front new (h ∷ []) posts
  act_one h clears gives right own posts = record { right = right; gives = gives; owns = (reaches clears, tt); own = own; posts_ok = posts }

  -- a plain happening is its own where the request, the address and the page that it is about are
  pub plain_clears : (h : Happening) (u : Trace) → IsPlain h → n ≡ happens_in s.sizes h → IfAny (λ w. Mine s t d front (OfRequest w)) (about h).request → IfAny (λ a. Mine s t d front (OfAddress a)) (about h).address
      → IfAny (λ p. Mine s t d front (OfPage p)) (about h).page → Clears s n (Mine s t d front) h u
  plain_clears h u plain here request address page = record { zone = here; request = request; address = address; page = page; block = λ x. inr (λ inside. no_block h plain x); journal = inr (plain_journal s u h plain) }
    where
      no_block : (g : Happening) → IsPlain g → (x : Pbn) → SparesBlock g x.0
      no_block (Calls c) is x = absurd is
      no_block (Fails w c logged) is x = absurd is
      no_block (Harms w y bytes fault) is x = absurd is
      no_block other is x = tt

-- the request in front: what it carries, and it is its own
module _ {s : Session} {t : Trace} {n : ℕ} {d : ZoneData} {v : Vio} (known : Known s t n d (item.Request v ∷ [])) where
  pub vio_ok : VioOk s t v
  vio_ok = known.front_ok.0.0

  pub in_phase : (q : Phase) → v.phase ≡ q → Carries s t v q
  in_phase q is = carries_at s t v q is known.front_ok.0.1

  -- its claim, by its phase
  pub claim_in : (q : Phase) → v.phase ≡ q → ClaimFor s v q
  claim_in q is = claim_at s v q is known.front_ok.0.3

  -- where it has one, it is on the data block that its entry names, and it is its own
  module _ (q : Phase) (x : Pbn) (is : v.phase ≡ q) (claims : (phase_rule q).claims ≡ true) (to : v.new ≡ At x) where
    pub claim_is : v.claim ≡ Some x
    claim_is = (claim_in q is).claim_is ∙ ap (λ (b : Bool). claim_of b v.new) claims ∙ ap (claim_of true) to

    pub claim_data : IsDataBlock s.sizes.geometry x.0
    claim_data = subst (OnBlock (λ y. IsDataBlock s.sizes.geometry y.0)) to ((claim_in q is).on_data claims)

    pub own_block : Mine s t d (item.Request v ∷ []) (OfBlock x)
    own_block = weighed (omega (arith, claim_one v x claim_is))

    -- and nobody maps that, while its entry isn't handed in
    pub claim_unused : owes q ≡ false → IsFair s t → IsUnused s t x
    claim_unused free fair = known.unused x (omega (arith, weighs)) fair
      where
        weighs : unowed_weight x v ≡ 1
        weighs = let none : owes v.phase ≡ false = ap owes is ∙ free in rw none (claim_one v x claim_is)

  pub own_request : Mine s t d (item.Request v ∷ []) (OfRequest v.request)
  own_request = weighed (omega (arith, own_name v))

  pub own_address : (q : Phase) → v.phase ≡ q → holds q ≡ true → Mine s t d (item.Request v ∷ []) (OfAddress v.at.0)
  own_address q is holds_it = weighed (omega (arith, holder_one v (rw is holds_it)))

  pub own_page : (page : PageId) → v.page ≡ Some page → Mine s t d (item.Request v ∷ []) (OfPage page)
  own_page page is = weighed (omega (arith, maker_one s.sizes v page is))

  -- while it makes no page, and while it makes one
  pub in_own : (q : Phase) → v.phase ≡ q → v.page ≡ None → CarriesOwn s t v q
  in_own q is bare = subst (CarriesFor s t v q) bare (in_phase q is)

  pub in_page : (q : Phase) (page : PageId) → v.phase ≡ q → v.page ≡ Some page → CarriesPage s t v page q
  in_page q page is some = subst (CarriesFor s t v q) some (in_phase q is)

  -- in a phase where none makes a page
  pub in_bare : (q : Phase) → v.phase ≡ q → ((page : PageId) → CarriesPage s t v page q → ⊥) → (v.page ≡ None) × CarriesOwn s t v q
  in_bare q is none = bare_of s t v q none (in_phase q is)

-- what holds of all places holds of a request's
pub place_has : (P : Placed → Type 0) (ps : List Placed) (w : Writer) (p : Placed) → place_of ps w ≡ Some p → AllByRecursion P ps → P p × (p.request ≡ w)
place_has P [] w p had all = absurd cc
place_has P (q ∷ ps) w p had all = elim (same_tells q.request w) [
  | inl same ↦ let is : q ≡ p = same_Some q p (rw same.0 at had) in (subst P is all.0, subst (λ (x : Placed). x.request ≡ w) is same.1)
  | inr other ↦ place_has P ps w p (rw other.0 at had) all.1
]

-- whoever took a block was begun
taken_begun : (s : Session) (t : Trace) (w : Writer) (page : Option PageId) → RightTrace s t → has_taken t w page ≡ true → w.number < begun w.stream (lines t)
taken_begun s [] w page right some = absurd cc
taken_begun s (Takes v one x ∷ t) w page right some = elim (same_tells v w) [
  | inl same ↦ subst (λ (u : Writer). u.number < begun u.stream (lines t)) same.1 right.0.is_open.is_begun
  | inr other ↦ taken_begun s t w page right.2 (sym (or_other (is_for one page) (has_taken t w page)) ∙ rw other.0 at some)
]
taken_begun s (Says line ∷ t) w page right some = begun_stays s (Says line) t w right.0 (taken_begun s t w page right.2 some)
taken_begun s (Flushes m ∷ t) w page right some = begun_stays s (Flushes m) t w right.0 (taken_begun s t w page right.2 some)
taken_begun s (Calls c ∷ t) w page right some = begun_stays s (Calls c) t w right.0 (taken_begun s t w page right.2 some)
taken_begun s (Fails v c kept ∷ t) w page right some = begun_stays s (Fails v c kept) t w right.0 (taken_begun s t w page right.2 some)
taken_begun s (Harms v x bytes fault ∷ t) w page right some = begun_stays s (Harms v x bytes fault) t w right.0 (taken_begun s t w page right.2 some)
taken_begun s (other ∷ t) w page right some = taken_begun s t w page right.2 some

-- A request that isn't begun has no place, took no block, and its entry wasn't handed in nor done.
module _ (s : Session) (t : Trace) (w : Writer) (right : RightTrace s t) (late : begun w.stream (lines t) ≤ w.number) where
  no_begin : (v : Writer) → v ≡ w → v.number < begun v.stream (lines t) → ⊥
  no_begin v is early = let here = subst (λ (x : Writer). x.number < begun x.stream (lines t)) is early in omega (arith, here, late)

  pub unborn_place : IsNone (place_of (places t) w)
  unborn_place = elim (option_cases (place_of (places t) w)) [
    | inl none ↦ none_is (place_of (places t) w) none
    | inr some ↦ let has = place_has (IsBegun t) (places t) w some.0 some.1 (places_begun s t right) in absurd (no_begin some.0.request has.1 has.0)
  ]

  pub unborn_entry : IsNone (logged_of (entered t) w)
  unborn_entry = elim (option_cases (logged_of (entered t) w)) [
    | inl none ↦ none_is (logged_of (entered t) w) none
    | inr some ↦
        let has = logged_has (IsWrite s t) (entered t) w some.0 some.1 (entered_writes s t right) in
        let place = place_has (IsBegun t) (places t) some.0.request _ has.0.placed (places_begun s t right) in
        absurd (no_begin some.0.request has.1 place.0)
  ]

  pub unborn_take : TookNone t w
  unborn_take page = elim (cases_Bool (has_taken t w page)) [
    | inl some ↦ absurd (no_begin w refl (taken_begun s t w page right some))
    | inr none ↦ none
  ]

  pub unborn_slot : IsNone (logged_of (done t) w)
  unborn_slot = elim (option_cases (logged_of (done t) w)) [
    | inl none ↦ none_is (logged_of (done t) w) none
    | inr some ↦ let has = done_is_entered s t w some.0 right some.1 in absurd (not_both (logged_of (entered t) w) some.0 unborn_entry has)
  ]

-- one whose entry wasn't handed in isn't settled
pub unentered_slot : (s : Session) (t : Trace) (w : Writer) → RightTrace s t → IsNone (logged_of (entered t) w) → IsNone (logged_of (done t) w)
unentered_slot s t w right none_entered = elim (option_cases (logged_of (done t) w)) [
  | inl none ↦ none_is (logged_of (done t) w) none
  | inr some ↦ let has = done_is_entered s t w some.0 right some.1 in absurd (not_both (logged_of (entered t) w) some.0 none_entered has)
]
