-- What a legal core knows of a zone that acts, beside its tokens: the phases of the requests that it keeps, and, of the item at
-- the front, that its lock is held, its page is being made, and its block is under way.
use Rattle.std.proofs.Common.{◌≡◌, ◌⊎◌, ℕ, Bool, true, false, not, Option, None, Some, is_some, List, [], ◌∷◌, length, refl, ap, ◌∙◌, subst}
use Rattle.core_laws.proofs.Common.{AllByRecursion, Carries, IsToBlock, Item, JournalZone, LogicalZone, Mapping, Phase, PhysicalZone, Remapping, SealedBlock, Vio, ZoneData, KeptEach, KeptOk, Session, Trace, bit, every-map, holds, lock_weight, logged, remapping, remappings, total}
use Rattle.blk_base.specs.declared.place.Mapping.TheVariants.{Unmapped, Zero, At}
use Rattle.blk_base.specs.declared.place.PageId.{PageId}
use Rattle.core_model.specs.Facts.{CarriesFor}
use Rattle.core_model.specs.RequestFacts.{claim_of}
use Rattle.core_model.specs.LogicalRules.{settling_of}
use Rattle.core_model.specs.PageLinks.{block_in}
use Rattle.data_vio.specs.Phases.{phase_rule}
use Rattle.zone_counts.specs.Zone.{IsZone}
use Rattle.slab_counts.specs.declared.tickets.Ticket.{Ticket}
use Rattle.data_vio.specs.Vios.{logged_for}
use Rattle.core_laws.proofs.logical.PageLists.{times}
use Rattle.data_vio.specs.declared.items.Item.TheVariants as item
use Rattle.data_vio.specs.declared.items.Phase.TheVariants as phase
use Rattle.core_model.specs.declared.zones.ZoneData.TheVariants as at

-- a request in this phase
abbrev pub IsIn : Phase → Vio → Type 0
IsIn one v = v.phase ≡ one

-- each of these is, of what a legal core knows of it
pub phases : (s : Session) (t : Trace) (q : Phase) (vs : List Vio) → AllByRecursion (KeptOk s t q) vs → AllByRecursion (IsIn q) vs
phases s t q vs all = every-map {P = KeptOk s t q} {Q = IsIn q} (λ v k. k.2) vs all

-- the requests that a zone keeps are each in its phase
abbrev pub KeptIn : ZoneData → Type 0
KeptIn d = KeptEach IsIn d

pub kept_in : (s : Session) (t : Trace) (d : ZoneData) → KeptEach (KeptOk s t) d → KeptIn d
kept_in s t (at.Desk desk) all = phases s t phase.Reply desk.parked all
kept_in s t (at.Logical l) all = (phases s t phase.Wait l.waiting all.0, phases s t phase.Look l.lacking all.1, phases s t phase.Settle l.settling all.2)
kept_in s t (at.Journal j) all = (phases s t phase.Pending j.filling all.0, phases s t phase.Enter j.waiting all.1)
kept_in s t (at.Physical p) all = tt
kept_in s t (at.Device d) all = tt

-- those of a block are in phase Pending
abbrev pub SealedIn : List Item → Type 0
SealedIn front = (b : SealedBlock) → front ≡ item.Block b ∷ [] → AllByRecursion (IsIn phase.Pending) b.vios

-- where a block is at the front of the journal zone, the journal is busy
abbrev pub IsBusy : ZoneData → List Item → Type 0
IsBusy old front = (b : SealedBlock) (j : JournalZone) → front ≡ item.Block b ∷ [] → old ≡ at.Journal j → j.busy ≡ true

-- the address of a request has its lock, and no other
abbrev pub Leased : LogicalZone → Vio → Type 0
Leased l v = (test : ℕ → Bool) → total (lock_weight v.at.0 test) l.held ≡ bit (test v.place)

-- whoever is served at its home with a lock has it there
abbrev pub LeasedIn : ZoneData → List Item → Type 0
LeasedIn old front = (l : LogicalZone) (v : Vio) → old ≡ at.Logical l → front ≡ item.Request v ∷ [] → holds v.phase ≡ true → Leased l v

-- a page is being made once
abbrev pub MadeIn : LogicalZone → PageId → Type 0
MadeIn l page = times page l.making ≡ 1

-- whoever makes a page, and is served at its home, makes one that is being made there
abbrev pub IsMadeIn : ZoneData → List Item → Type 0
IsMadeIn old front = (l : LogicalZone) (v : Vio) (page : PageId) → old ≡ at.Logical l → front ≡ item.Request v ∷ [] → v.page ≡ Some page → MadeIn l page

-- whoever looks its address up, or is answered, makes no page
abbrev pub MakesNone : List Item → Type 0
MakesNone front = (v : Vio) → front ≡ item.Request v ∷ [] → (v.phase ≡ phase.Look) ⊎ (v.phase ≡ phase.Reply) → v.page ≡ None

-- an entry that is handed in is a remapping where its request makes no page
abbrev pub IsCounted : Vio → Type 0
IsCounted v = length (remappings (logged v ∷ [])) ≡ bit (not (is_some v.page))

abbrev pub CountsIn : List Item → Type 0
CountsIn front = (v : Vio) → front ≡ item.Request v ∷ [] → v.phase ≡ phase.Enter → IsCounted v

pub counts : (s : Session) (t : Trace) (v : Vio) → v.phase ≡ phase.Enter → Carries s t v v.phase → IsCounted v
counts s t v is k = by v.page v.new (λ page made. to_fresh v.page page made (subst (λ (p : Phase). Carries s t v p) is k))
  where
    to_fresh : (o : Option PageId) (page : PageId) → o ≡ Some page → CarriesFor s t v phase.Enter o → IsToBlock v.new
    to_fresh None page made has = absurd cc
    to_fresh (Some p) page made has = has.2

    by : (o : Option PageId) (m : Mapping) → ((page : PageId) → o ≡ Some page → IsToBlock m) → length (remappings (logged_for v o m ∷ [])) ≡ bit (not (is_some o))
    by None m fresh = refl
    by (Some page) (At x) fresh = refl
    by (Some page) Unmapped fresh = absurd (fresh page refl)
    by (Some page) Zero fresh = absurd (fresh page refl)

-- the claim of a request is that of its phase, on its own block, and it has tickets in those alone in which it asks for one
abbrev pub Claims : Vio → Type 0
Claims v = (v.claim ≡ claim_of (phase_rule v.phase).claims v.new) × ((phase_rule v.phase).asks ≡ false → v.tickets ≡ [])

abbrev pub ClaimsIn : List Item → Type 0
ClaimsIn front = (v : Vio) → front ≡ item.Request v ∷ [] → Claims v

-- those of a block have their claims, and each entry is a remapping where its request makes no page
abbrev pub IsReady : Vio → Type 0
IsReady v = (v.claim ≡ block_in v.new) × IsCounted v

abbrev pub ReadyIn : List Item → Type 0
ReadyIn front = (b : SealedBlock) → front ≡ item.Block b ∷ [] → AllByRecursion IsReady b.vios

-- an entry replaces a block; so does each that a logical zone waits for, or has the report of
abbrev pub Replaces : Remapping → Type 0
Replaces e = is_some (block_in e.old) ≡ true

abbrev pub ReplacesIn : List Item → Type 0
ReplacesIn front = (e : Remapping) → front ≡ item.Report e ∷ [] → Replaces e

abbrev pub AreReports : ZoneData → Type 0
AreReports old = (l : LogicalZone) → old ≡ at.Logical l → AllByRecursion Replaces l.reported × AllByRecursion (λ v. (v.page ≡ None) × Replaces (remapping v)) l.settling

-- the counts of a physical zone are as they must be
abbrev pub HasZone : ZoneData → Type 0
HasZone old = (p : PhysicalZone) → old ≡ at.Physical p → IsZone p.counts

-- the oldest ticket of a request that withdraws it is of the zone where it is served
abbrev pub TicketIn : ZoneData → List Item → Type 0
TicketIn old front = (p : PhysicalZone) (v : Vio) (k : Ticket) (others : List Ticket) → old ≡ at.Physical p → front ≡ item.Request v ∷ [] → v.phase ≡ phase.Withdraw → v.tickets ≡ k ∷ others → k.zone ≡ p.counts.zone

-- a request in a phase has the claim that this has
pub claim_in : (v : Vio) (q : Phase) → v.phase ≡ q → Claims v → v.claim ≡ claim_of (phase_rule q).claims v.new
claim_in v q is claims = subst (λ (p : Phase). v.claim ≡ claim_of (phase_rule p).claims v.new) is claims.0

-- and no ticket, where it asks for no block
pub tickets_in : (v : Vio) (q : Phase) → v.phase ≡ q → Claims v → (phase_rule q).asks ≡ false → v.tickets ≡ []
tickets_in v q is claims asks = claims.1 (ap (λ (p : Phase). (phase_rule p).asks) is ∙ asks)

-- who waits for a report has the lock of its address there
abbrev pub SettlingLeased : ZoneData → List Item → Type 0
SettlingLeased old front = (l : LogicalZone) (e : Remapping) → old ≡ at.Logical l → front ≡ item.Report e ∷ [] → (v : Vio) → settling_of e.request l.settling ≡ Some v → Leased l v

pub record Known (old : ZoneData) (front : List Item) : Type 0 where
  pub kept : KeptIn old
  pub sealed : SealedIn front
  pub busy : IsBusy old front
  pub leased : LeasedIn old front
  pub made : IsMadeIn old front
  pub makes_none : MakesNone front
  pub counted : CountsIn front
  pub claims : ClaimsIn front
  pub ready : ReadyIn front
  pub replaces : ReplacesIn front
  pub reports : AreReports old
  pub zone : HasZone old
  pub ticket : TicketIn old front
  pub settling_leased : SettlingLeased old front
