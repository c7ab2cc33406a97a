-- The keys that facts are on: a request, an address, a data block, a page of the block map, the journal. Whoever weighs for a key has facts on it,
-- and of each key at most one is held in the whole core. Each happening is about some keys, and spares the others.
use Rattle.std.proofs.Common.{◌≡◌, ◌⊎◌, ℕ, ◌≤◌, ◌==◌, ◌%◌, ◌&&◌, Bool, true, false, not, Option, None, Some, is_some, refl, ap, subst, inl, inr, arith}
use Rattle.core_model.specs.Trace.{Asks, Withdraws}
use Rattle.blk_base.specs.declared.place.ZoneId.TheVariants as id
use Rattle.core_laws.proofs.Common.{Aborts, Adds, Calls, Commits, Draws, Drops, Enters, Fails, Flushes, Gives, Logged, Makes, Happening, Hears, Removes, Says, Seals, Session, Remaps, Sets, Sizes, Strays, Takes, Token, Trace, Vio, Writer, ZoneData, bit, cases_Bool, claim_token, desk_number, device_number, eqb_tells, holder_weight, holds, IsFair, journal_token, journal_number, logical_number, of_vio, new_of, request_token, same_self, same_tells, zone_number, zone_of, Pbn, Passes, Harms}
use Rattle.data_vio.specs.Zones.{counts_in}
use Rattle.core_laws.proofs.lists.CountedIn.{counting_number}
use Rattle.blk_base.specs.Regions.{IsDataBlock}
use Rattle.data_vio.specs.declared.items.Item.TheVariants.{Request}
use Rattle.core_model.specs.declared.zones.ZoneData.TheVariants as at
use Rattle.core_model.specs.LogicalRules.{is_among, is_held}
use Rattle.blk_base.specs.declared.place.PageId.{PageId}
use Rattle.image_model.specs.Pages.{is_page}
use Rattle.core_model.specs.PageTrees.{is_listed, link_at}
use Rattle.core_model.specs.Tokens.{is_same}
use Rattle.core_model.proofs.TreeLinks.{page_is, page_itself}
use Rattle.core_laws.proofs.kept.Spared.{OffRequest, OffNumber, OffPage, about, SparesRequest, SparesAddress, SparesPage}
use Rattle.core_laws.proofs.kept.StandsOn.{SparesBlock, SparesJournal, SparesJournaled, SparesSealed}

pub data Key : Type 0 where
  OfRequest : Writer → Key
  OfAddress : ℕ → Key
  OfBlock : Pbn → Key
  OfPage : PageId → Key
  OfJournal : Key

-- An address whose lock is out weighs with its holder. One that is free, and will be given out, weighs at its home.
abbrev pub any : ℕ → Bool
any place = true

abbrev pub free_at : Sizes → ℕ → ZoneData → ℕ
free_at sizes a (at.Logical l) = bit (zone_of sizes.zones a == l.zone && (not (is_held a l.held) && not (is_among a l.retired)))
free_at sizes a other = 0

abbrev pub home_at : Sizes → ℕ → ZoneData → ℕ
home_at sizes a (at.Logical l) = bit (zone_of sizes.zones a == l.zone)
home_at sizes a other = 0

abbrev pub slot_token : Sizes → ℕ → Token
slot_token sizes a = record { item = of_vio (holder_weight a any); own = free_at sizes a; gave = home_at sizes a }

-- A page that is being made weighs with its maker. One that nobody makes, and that may yet be made, weighs at its home.
abbrev pub unmade_at : Sizes → PageId → ZoneData → ℕ
unmade_at sizes page (at.Logical l) = bit (page.tree % sizes.zones == l.zone && (not (is_some (link_at l.tree page)) && (not (is_listed page l.making) && not (is_listed page l.unlinkable))))
unmade_at sizes page other = 0

abbrev pub page_home_at : Sizes → PageId → ZoneData → ℕ
page_home_at sizes page (at.Logical l) = bit (page.tree % sizes.zones == l.zone)
page_home_at sizes page other = 0

abbrev pub page_token : Sizes → PageId → Token
page_token sizes page = record { item = of_vio (λ v. bit (is_same page v.page)); own = unmade_at sizes page; gave = page_home_at sizes page }

abbrev pub token_of : Sizes → Key → Token
token_of sizes (OfRequest w) = request_token w
token_of sizes (OfAddress a) = slot_token sizes a
token_of sizes (OfBlock x) = claim_token x
token_of sizes (OfPage page) = page_token sizes page
token_of sizes OfJournal = journal_token

-- who weighs: a request for itself, the holder of a lock for its address, who has the claim on a block for that block, and one
-- that makes a page for that page
pub own_name : (v : Vio) → (request_token v.request).item (Request v) ≡ 1
own_name v = ap bit (same_self v.request)

pub holder_one : (v : Vio) → holds v.phase ≡ true → holder_weight v.at.0 any v ≡ 1
holder_one v held = elim (eqb_tells v.at.0 v.at.0) [ inl same ↦ rw (held, same.0) refl | inr other ↦ absurd (other.1 refl) ]

pub claim_one : (v : Vio) (x : Pbn) → v.claim ≡ Some x → (claim_token x).item (Request v) ≡ 1
claim_one v x is = elim (eqb_tells x.0 x.0) [ inl same ↦ rw (is, same.0) refl | inr other ↦ absurd (other.1 refl) ]

pub maker_one : (sizes : Sizes) (v : Vio) (page : PageId) → v.page ≡ Some page → (page_token sizes page).item (Request v) ≡ 1
maker_one sizes v page is = rw is (ap bit (page_itself page))

-- a journal that isn't idle is busy
pub idle_none : (b : Bool) → bit (not b) ≡ 0 → b ≡ true
idle_none true h = refl
idle_none false h = absurd (omega (arith, h))

-- a free address weighs at its home
pub free_one : (b c d : Bool) → b ≡ true → c ≡ false → d ≡ false → 1 ≤ bit (b && (not c && not d))
free_one b c d p q r = rw (p, q, r) (omega arith)

-- and so does a page that nobody makes
pub unmade_one : (b c d e : Bool) → b ≡ true → c ≡ false → d ≡ false → e ≡ false → 1 ≤ bit (b && (not c && (not d && not e)))
unmade_one b c d e p q r o = rw (p, q, r, o) (omega arith)

-- A happening spares a key that it isn't about. About a data block are the calls that write it; about the journal that a
-- block is sealed or an entry committed, and the calls that write a block of the journal, or one that its entries map an address to.
abbrev pub Spares : Session → Trace → Happening → Key → Type 0
Spares s t h (OfRequest w) = SparesRequest h w
Spares s t h (OfAddress a) = SparesAddress h a
Spares s t h (OfBlock x) = IsDataBlock s.sizes.geometry x.0 → SparesBlock h x.0
Spares s t h (OfPage page) = SparesPage h page
Spares s t h OfJournal = SparesSealed s h t × SparesJournal s h × (IsFair s t → SparesJournaled s h t)

-- the logical zone that sets the slot of an entry
abbrev pub zone_in : ℕ → Logged → ℕ
zone_in zones (Remaps e) = zone_of zones e.at.0
zone_in zones (Makes p) = p.page.tree % zones

-- the zone where it happens
abbrev pub happens_in : Sizes → Happening → ℕ
happens_in sizes (Says line) = desk_number
happens_in sizes (Flushes m) = desk_number
happens_in sizes (Draws p) = logical_number p.zone
happens_in sizes (Enters e) = journal_number sizes
happens_in sizes (Commits e) = journal_number sizes
happens_in sizes Seals = journal_number sizes
happens_in sizes (Sets e) = logical_number (zone_in sizes.zones e)
happens_in sizes (Passes e) = logical_number (zone_of sizes.zones e.at.0)
happens_in sizes (Gives g) = logical_number (zone_of sizes.zones g.at.0)
happens_in sizes (Takes w page x) = zone_number sizes (counts_in sizes x)
happens_in sizes (Asks w k) = zone_number sizes (id.Physical k.zone)
happens_in sizes (Withdraws w k got) = zone_number sizes (id.Physical k.zone)
happens_in sizes (Drops w x to) = zone_number sizes (counts_in sizes x)
happens_in sizes (Adds e) = counting_number sizes (new_of e)
happens_in sizes (Removes e to) = counting_number sizes e.old
happens_in sizes (Strays e) = counting_number sizes e.old
happens_in sizes (Hears damage) = device_number sizes
happens_in sizes (Aborts e) = logical_number (zone_in sizes.zones e)
happens_in sizes (Calls c) = device_number sizes
happens_in sizes (Fails w c kept) = device_number sizes
happens_in sizes (Harms w x bytes fault) = device_number sizes

-- What it is about is in the hands of the zone where it happens.
abbrev pub IfAny : {X : Type 0} → (X → Type 0) → Option X → Type 0
IfAny P None = Unit {0}
IfAny P (Some x) = P x

pub record Clears (s : Session) (n : ℕ) (mine : Key → Type 0) (h : Happening) (t : Trace) : Type 0 where
  pub zone : n ≡ happens_in s.sizes h
  pub request : IfAny (λ w. mine (OfRequest w)) (about h).request
  pub address : IfAny (λ a. mine (OfAddress a)) (about h).address
  pub page : IfAny (λ p. mine (OfPage p)) (about h).page
  pub block : (x : Pbn) → mine (OfBlock x) ⊎ Spares s t h (OfBlock x)
  pub journal : mine OfJournal ⊎ Spares s t h OfJournal

if_any : {X : Type 0} {P Q : X → Type 0} → ((x : X) → P x → Q x) → (o : Option X) → IfAny P o → IfAny Q o
if_any f None is = tt
if_any f (Some x) is = f x is

-- in weaker hands
pub clears_with : {s : Session} {n : ℕ} {mine hers : Key → Type 0} {h : Happening} {t : Trace} → ((k : Key) → mine k → hers k) → Clears s n mine h t → Clears s n hers h t
clears_with {mine = mine} {hers = hers} {h = h} f c = record {
  zone = c.zone;
  request = if_any {P = λ w. mine (OfRequest w)} {Q = λ w. hers (OfRequest w)} (λ w. f (OfRequest w)) (about h).request c.request;
  address = if_any {P = λ a. mine (OfAddress a)} {Q = λ a. hers (OfAddress a)} (λ a. f (OfAddress a)) (about h).address c.address;
  page = if_any {P = λ p. mine (OfPage p)} {Q = λ p. hers (OfPage p)} (λ p. f (OfPage p)) (about h).page c.page;
  block = λ x. elim (c.block x) [ inl own ↦ inl (f (OfBlock x) own) | inr spared ↦ inr spared ];
  journal = elim c.journal [ inl own ↦ inl (f OfJournal own) | inr spared ↦ inr spared ];
}

request_or : (P : Writer → Type 0) (o : Option Writer) (w : Writer) → IfAny P o → P w ⊎ OffRequest o w
request_or P None w mine = inr tt
request_or P (Some v) w mine = elim (same_tells v w) [ inl same ↦ inl (subst P same.1 mine) | inr other ↦ inr other.0 ]

number_or : (P : ℕ → Type 0) (o : Option ℕ) (a : ℕ) → IfAny P o → P a ⊎ OffNumber o a
number_or P None a mine = inr tt
number_or P (Some b) a mine = elim (eqb_tells b a) [ inl same ↦ inl (subst P same.1 mine) | inr other ↦ inr other.1 ]

page_or : (P : PageId → Type 0) (o : Option PageId) (page : PageId) → IfAny P o → P page ⊎ OffPage o page
page_or P None page mine = inr tt
page_or P (Some other) page mine = elim (cases_Bool (is_page other page)) [ inl same ↦ inl (subst P (page_is other page same) mine) | inr apart ↦ inr apart ]

-- so of each key: it is in those hands, or spared
pub mine_or_spared : {s : Session} {n : ℕ} {mine : Key → Type 0} {h : Happening} {t : Trace} → Clears s n mine h t → (k : Key) → mine k ⊎ Spares s t h k
mine_or_spared {mine = mine} {h = h} c (OfRequest w) = request_or (λ v. mine (OfRequest v)) (about h).request w c.request
mine_or_spared {mine = mine} {h = h} c (OfAddress a) = number_or (λ b. mine (OfAddress b)) (about h).address a c.address
mine_or_spared c (OfBlock x) = c.block x
mine_or_spared {mine = mine} {h = h} c (OfPage page) = page_or (λ p. mine (OfPage p)) (about h).page page c.page
mine_or_spared c OfJournal = c.journal
