-- What a logical zone does: places, locks, slots.
use Rattle.std.specs.Prelude.{ℕ, ◌+◌, ◌≡◌, ◌==◌, Bool, true, false, not, ◌&&◌, ◌||◌, Option, None, Some, is_some, List, [], ◌∷◌, ◌++◌, if◌then◌else◌}
use Rattle.blk_base.specs.Sectors.{zero_block}
use Rattle.blk_base.specs.declared.place.Lba.{Lba}
use Rattle.blk_base.specs.declared.place.Mapping.{Mapping}
use Rattle.blk_base.specs.declared.place.PageId.{PageId}
use Rattle.blk_base.specs.declared.place.Pbn.{Pbn}
use Rattle.block_map_tree.specs.Tree.{Links}
use Rattle.blk_base.specs.declared.place.Mapping.TheVariants.{Unmapped, Zero, At}
use Rattle.blk_base.specs.declared.place.ZoneId.TheVariants as id
use Rattle.blk_base.specs.declared.request.Answer.TheVariants as reply
use Rattle.blk_base.specs.declared.request.Writer.{Writer}
use Rattle.vdo_model.specs.Scripts.{same_writer}
use Rattle.vdo_model.specs.declared.report.Placed.{Placed}
use Rattle.core_model.specs.PageLinks.{block_in}
use Rattle.plain_laws.specs.Firsts.{but_first}
use Rattle.std.specs.List.{find}
use Rattle.data_vio.specs.declared.items.Asks.{Asks}
use Rattle.data_vio.specs.declared.items.Asks.TheVariants.{Read, Write, Discard, Flush}
use Rattle.data_vio.specs.declared.items.Item.TheVariants as item
use Rattle.data_vio.specs.declared.items.Phase.TheVariants as phase
use Rattle.data_vio.specs.declared.items.Vio.{Vio}
use Rattle.data_vio.specs.declared.sizes.Sizes.{Sizes}
use Rattle.core_model.specs.LogicalData.{Lock, LogicalZone}
use Rattle.data_vio.specs.declared.logged.Remapping.{Remapping}
use Rattle.core_model.specs.PageTrees.{HasPath, MayLink, but_page, is_listed, leaf_at, least_point, missing_at}
use Rattle.core_model.specs.Trace.{Trace, Draws, Passes, Sets, Gives, Aborts, of_address, newest}
use Rattle.data_vio.specs.Vios.{Post, counts_of, turned, ended, makes, reads_leaf, remapping, logged, gift}
use Rattle.data_vio.specs.Vios as vios

-- whether an address is among these
abbrev pub is_among : ℕ → List Lba → Bool
is_among a [] = false
is_among a (at ∷ others) = (at.0 == a) || is_among a others

-- whether its lock is
abbrev pub is_held : ℕ → List Lock → Bool
is_held a [] = false
is_held a (lock ∷ others) = (lock.at.0 == a) || is_held a others

-- the locks but that of this address
abbrev pub without : ℕ → List Lock → List Lock
without a [] = []
without a (lock ∷ others) = if lock.at.0 == a then without a others else lock ∷ without a others

-- the lock that a request holds
abbrev pub lock_of : Vio → Lock
lock_of v = record { at = v.at; place = v.place }

-- the first that waits for an address; those that wait but this first one; those that wait for it, and for others
abbrev pub first_for : ℕ → List Vio → Option Vio
first_for a [] = None
first_for a (v ∷ others) = if v.at.0 == a then Some v else first_for a others

abbrev pub but_first_for : ℕ → List Vio → List Vio
but_first_for a [] = []
but_first_for a (v ∷ others) = if v.at.0 == a then others else v ∷ but_first_for a others

abbrev pub all_for : ℕ → List Vio → List Vio
all_for a [] = []
all_for a (v ∷ others) = if v.at.0 == a then v ∷ all_for a others else all_for a others

abbrev pub none_for : ℕ → List Vio → List Vio
none_for a [] = []
none_for a (v ∷ others) = if v.at.0 == a then none_for a others else v ∷ none_for a others

-- the request with the zone's next place
abbrev pub placed : LogicalZone → Vio → Vio
placed l v = record v { place = l.next }

abbrev pub place_of_vio : LogicalZone → Vio → Placed
place_of_vio l v = record { request = v.request; zone = l.zone; place = l.next }

-- the zone after that place was drawn
abbrev pub drawn_by : LogicalZone → Vio → LogicalZone
drawn_by l v = record l { next = l.next + 1; places = place_of_vio l v ∷ l.places }

-- the last write or discard that set an address in this session
abbrev pub latest_at : LogicalZone → ℕ → Option Remapping
latest_at l a = newest (of_address a l.slots)

-- what is known of where an address is mapped: what the last write set; or nothing there, where it has no leaf; or its leaf says it
abbrev pub known_by : Option Remapping → Option Pbn → Option Mapping
known_by (Some e) leaf = Some e.new
known_by None None = Some Unmapped
known_by None (Some x) = None

abbrev pub known_at : LogicalZone → ℕ → Option Mapping
known_at l a = known_by (latest_at l a) (leaf_at l.tree a)

-- a request that has the lock of its address, and knows what is mapped there
abbrev pub looked : LogicalZone → Mapping → Vio → Vio
looked l mapping v = record v { old = mapping; latest = latest_at l v.at.0 }

-- whether bytes are zeros
abbrev pub are_zeros : List ℕ → Bool
are_zeros [] = true
are_zeros (b ∷ bytes) = (b == 0) && are_zeros bytes

-- one that needs no block hands in its entry
abbrev pub enters_with : Mapping → Vio → Post
enters_with new v = (id.Journal, item.Request (record v { phase = phase.Enter; new = new }))

-- a write takes a block, but for one of zeros
abbrev pub write_next : Sizes → Vio → Post
write_next sizes v = if are_zeros v.bytes then enters_with Zero v else (counts_of sizes v, item.Request (turned phase.Claim v))

-- where it goes that knows: a read reads the mapped block, or is given zeros; a discard needs no block; a flush takes no lock
abbrev pub read_next : Vio → Mapping → Post
read_next v (At x) = (id.Device, item.Request (turned phase.Load v))
read_next v Unmapped = (v.home, item.Request (record v { phase = phase.Loaded; bytes = zero_block }))
read_next v Zero = (v.home, item.Request (record v { phase = phase.Loaded; bytes = zero_block }))

abbrev pub next_for : Sizes → Vio → Asks → Option Post
next_for sizes v Read = Some (read_next v v.old)
next_for sizes v Write = Some (write_next sizes v)
next_for sizes v Discard = Some (enters_with Unmapped v)
next_for sizes v Flush = None

abbrev pub goes_on : Sizes → Vio → Option Post
goes_on sizes v = next_for sizes v v.asks

-- whether a request passes: a discard of an address of which no slot was set, and that lacks a page of its path
abbrev pub is_discard : Asks → Bool
is_discard Discard = true
is_discard other = false

abbrev pub passes_by : LogicalZone → Vio → Bool
passes_by l v = is_discard v.asks && (not (is_some (latest_at l v.at.0)) && is_some (missing_at l.tree v.at.0))

-- what it would have handed in
abbrev pub pass_of : Vio → Remapping
pass_of v = record { request = v.request; at = v.at; place = v.place; old = Unmapped; new = Unmapped }

-- the highest page that a request lacks: nothing but a write needs its leaf
abbrev pub lacks_for : LogicalZone → ℕ → Asks → Option PageId
lacks_for l a Write = missing_at l.tree a
lacks_for l a other = None

abbrev pub lacks : LogicalZone → Vio → Option PageId
lacks l v = lacks_for l v.at.0 v.asks

-- a page is linked, and isn't being made any more
pub record IsLinked (page : PageId) (at : Pbn) (old new : LogicalZone) : Type 0 where
  pub links : Links old.tree new.tree page at least_point
  pub rest : new ≡ record old { tree = new.tree; making = but_page page old.making }

-- The lock of an address goes to the first that waits for it, or is released.
abbrev pub passed_to : ℕ → LogicalZone → Option Vio → LogicalZone
passed_to a l None = record l { held = without a l.held }
passed_to a l (Some v) = record l { held = lock_of v ∷ without a l.held; waiting = but_first_for a l.waiting }

abbrev pub released : ℕ → LogicalZone → LogicalZone
released a l = passed_to a l (first_for a l.waiting)

-- whoever gets the lock of an address looks up what is mapped there
abbrev pub looks_up : Vio → Post
looks_up v = (v.home, item.Request (turned phase.Look v))

-- so does the one that it is passed on to, where somebody waits
abbrev pub passes_on : Option Vio → List Post
passes_on None = []
passes_on (Some v) = looks_up v ∷ []

abbrev pub granted : ℕ → LogicalZone → List Post
granted a l = passes_on (first_for a l.waiting)

-- The lock of an address is never released: nobody waits for it any more.
abbrev pub retire : ℕ → LogicalZone → LogicalZone
retire a l = record l { held = without a l.held; retired = record { 0 = a } ∷ l.retired; waiting = none_for a l.waiting }

abbrev pub all_stopped : List Vio → List Post
all_stopped [] = []
all_stopped (v ∷ vs) = (id.Desk, item.Request (ended phase.Reply reply.Stopped v)) ∷ all_stopped vs

-- those that wait for a page look again
abbrev pub all_again : List Vio → List Post
all_again [] = []
all_again (v ∷ vs) = (v.home, item.Request v) ∷ all_again vs

abbrev pub woken : LogicalZone → LogicalZone
woken l = record l { lacking = [] }

-- a page isn't being made any more; it is never linked
abbrev pub unmade : PageId → LogicalZone → LogicalZone
unmade page l = record l { making = but_page page l.making }

abbrev pub dropped : PageId → LogicalZone → LogicalZone
dropped page l = record (unmade page l) { unlinkable = l.unlinkable ++ page ∷ [] }

-- with the slot that a write sets
abbrev pub with_slot : LogicalZone → Vio → LogicalZone
with_slot l v = record l { slots = remapping v ∷ l.slots }

-- Whether the report of the decrement of a request came before it; the reports without it; the request that waits for its report;
-- and those that wait without it.
abbrev pub is_reported : Writer → List Remapping → Bool
is_reported w reported = is_some (find (λ e. same_writer e.request w) reported)

abbrev pub without_report : Writer → List Remapping → List Remapping
without_report w reported = but_first (λ e. same_writer e.request w) reported

abbrev pub settling_of : Writer → List Vio → Option Vio
settling_of w settling = find (λ v. same_writer v.request w) settling

abbrev pub without_settling : Writer → List Vio → List Vio
without_settling w settling = but_first (λ v. same_writer v.request w) settling

-- a request waits for the report of its decrement: its entry replaces a block, and that report didn't come yet
abbrev pub awaits_report : LogicalZone → Vio → Bool
awaits_report l v = is_some (block_in v.old) && not (is_reported v.request l.reported)

-- the reports that are left once its slot is set: that of its own decrement goes
abbrev pub reports_left : Vio → List Remapping → List Remapping
reports_left v reported = if is_some (block_in v.old) then without_report v.request reported else reported

-- its slot is set, and its lock passed on
abbrev pub settled : LogicalZone → Vio → LogicalZone
settled l v = released v.at.0 (with_slot l v)

abbrev pub settled_posts : LogicalZone → Vio → List Post
settled_posts l v = (id.Desk, item.Request (ended phase.Reply reply.Ok v)) ∷ granted v.at.0 l

pub data LogicalServes (sizes : Sizes) (old : LogicalZone) (v : Vio) (new : LogicalZone) (made : Trace) (posts : List Post) : Type 0 where
  -- it draws its place: its address is never released, or free, or held
  arrives_retired : v.phase ≡ phase.Arrive → is_among v.at.0 old.retired ≡ true
      → new ≡ drawn_by old v → made ≡ Draws (place_of_vio old v) ∷ []
      → posts ≡ (id.Desk, item.Request (ended phase.Reply reply.Stopped (placed old v))) ∷ []
      → LogicalServes sizes old v new made posts
  arrives_free : v.phase ≡ phase.Arrive → is_among v.at.0 old.retired ≡ false → is_held v.at.0 old.held ≡ false
      → new ≡ record (drawn_by old v) { held = lock_of (placed old v) ∷ old.held } → made ≡ Draws (place_of_vio old v) ∷ []
      → posts ≡ looks_up (placed old v) ∷ []
      → LogicalServes sizes old v new made posts
  arrives_held : v.phase ≡ phase.Arrive → is_among v.at.0 old.retired ≡ false → is_held v.at.0 old.held ≡ true
      → new ≡ record (drawn_by old v) { waiting = old.waiting ++ turned phase.Wait (placed old v) ∷ [] } → made ≡ Draws (place_of_vio old v) ∷ []
      → posts ≡ []
      → LogicalServes sizes old v new made posts
  -- it has the lock: what is mapped at its address says where it goes
  looks : (mapping : Mapping) (post : Post) → v.phase ≡ phase.Look → HasPath old.tree v.at.0 → passes_by old v ≡ false → lacks old v ≡ None → known_at old v.at.0 ≡ Some mapping
      → goes_on sizes (looked old mapping v) ≡ Some post
      → new ≡ old → made ≡ [] → posts ≡ post ∷ []
      → LogicalServes sizes old v new made posts
  -- or its leaf is read first, and says it
  needs_leaf : (x : Pbn) → v.phase ≡ phase.Look → HasPath old.tree v.at.0 → passes_by old v ≡ false → lacks old v ≡ None → known_at old v.at.0 ≡ None
      → leaf_at old.tree v.at.0 ≡ Some x
      → new ≡ old → made ≡ [] → posts ≡ (id.Device, item.Request (reads_leaf x v)) ∷ []
      → LogicalServes sizes old v new made posts
  leafed : (post : Post) → v.phase ≡ phase.LoadedLeaf → goes_on sizes v ≡ Some post
      → new ≡ old → made ≡ [] → posts ≡ post ∷ []
      → LogicalServes sizes old v new made posts
  -- or it passes: it is done, and enters nothing
  passes : v.phase ≡ phase.Look → HasPath old.tree v.at.0 → passes_by old v ≡ true
      → new ≡ released v.at.0 old → made ≡ Passes (pass_of v) ∷ []
      → posts ≡ (id.Desk, item.Request (ended phase.Reply reply.Ok v)) ∷ granted v.at.0 old
      → LogicalServes sizes old v new made posts
  -- or it lacks a page: that is never linked, or is being made, or it makes it
  is_dropped : (page : PageId) → v.phase ≡ phase.Look → HasPath old.tree v.at.0 → lacks old v ≡ Some page → is_listed page old.unlinkable ≡ true
      → new ≡ released v.at.0 old → made ≡ []
      → posts ≡ (id.Desk, item.Request (ended phase.Reply reply.Stopped v)) ∷ granted v.at.0 old
      → LogicalServes sizes old v new made posts
  waits : (page : PageId) → v.phase ≡ phase.Look → HasPath old.tree v.at.0 → lacks old v ≡ Some page → is_listed page old.unlinkable ≡ false
      → is_listed page old.making ≡ true
      → new ≡ record old { lacking = old.lacking ++ v ∷ [] } → made ≡ [] → posts ≡ []
      → LogicalServes sizes old v new made posts
  makes_page : (page : PageId) → v.phase ≡ phase.Look → HasPath old.tree v.at.0 → lacks old v ≡ Some page → is_listed page old.unlinkable ≡ false
      → is_listed page old.making ≡ false
      → new ≡ record old { making = old.making ++ page ∷ [] } → made ≡ []
      → posts ≡ (counts_of sizes v, item.Request (makes page v)) ∷ []
      → LogicalServes sizes old v new made posts
  -- its page is linked: it looks again, and so do those that wait for a page
  links : (page : PageId) (x : Pbn) (between : LogicalZone) → v.phase ≡ phase.Settle → v.page ≡ Some page → v.new ≡ At x → MayLink old.tree page x → IsLinked page x old between
      → new ≡ woken between → made ≡ Sets (logged v) ∷ []
      → posts ≡ (v.home, item.Request (vios.made v)) ∷ all_again old.lacking
      → LogicalServes sizes old v new made posts
  -- its slot is set; or it waits for the report of its decrement
  settles : v.phase ≡ phase.Settle → v.page ≡ None → awaits_report old v ≡ false
      → new ≡ settled (record old { reported = reports_left v old.reported }) v → made ≡ Sets (logged v) ∷ [] → posts ≡ settled_posts old v
      → LogicalServes sizes old v new made posts
  awaits : v.phase ≡ phase.Settle → v.page ≡ None → awaits_report old v ≡ true
      → new ≡ record old { settling = old.settling ++ v ∷ [] } → made ≡ [] → posts ≡ []
      → LogicalServes sizes old v new made posts
  -- it is given its bytes
  gives : v.phase ≡ phase.Loaded
      → new ≡ released v.at.0 old → made ≡ Gives (gift v) ∷ []
      → posts ≡ (id.Desk, item.Request (ended phase.Reply (reply.Bytes v.bytes) v)) ∷ granted v.at.0 old
      → LogicalServes sizes old v new made posts
  -- it is aborted
  aborts : v.phase ≡ phase.Abort → v.page ≡ None
      → new ≡ released v.at.0 old → made ≡ []
      → posts ≡ (id.Desk, item.Request (turned phase.Reply v)) ∷ granted v.at.0 old
      → LogicalServes sizes old v new made posts
  -- so is the making of its page, by the next one that lacks it maybe made after all
  unmakes : (page : PageId) → v.phase ≡ phase.Abort → v.page ≡ Some page
      → new ≡ woken (unmade page (released v.at.0 old)) → made ≡ []
      → posts ≡ (id.Desk, item.Request (vios.gives_up v)) ∷ (granted v.at.0 old ++ all_again old.lacking)
      → LogicalServes sizes old v new made posts
  -- the page whose entry was handed in is never linked; its maker's own address is as it was
  drops : (page : PageId) → v.phase ≡ phase.AbortEntered → v.page ≡ Some page
      → new ≡ woken (dropped page (released v.at.0 old)) → made ≡ Aborts (logged v) ∷ []
      → posts ≡ (id.Desk, item.Request (vios.gives_up v)) ∷ (granted v.at.0 old ++ all_again old.lacking)
      → LogicalServes sizes old v new made posts
  -- it is aborted with its entry handed in
  aborts_entered : v.phase ≡ phase.AbortEntered → v.page ≡ None
      → new ≡ retire v.at.0 old → made ≡ Aborts (logged v) ∷ []
      → posts ≡ (id.Desk, item.Request (turned phase.Reply v)) ∷ all_stopped (all_for v.at.0 old.waiting)
      → LogicalServes sizes old v new made posts

-- The report of a decrement comes: the slot of its request is set, which waits for it; or it is kept until that comes.
pub data LogicalHears (sizes : Sizes) (old : LogicalZone) (e : Remapping) (new : LogicalZone) (made : Trace) (posts : List Post) : Type 0 where
  settles : (v : Vio) → settling_of e.request old.settling ≡ Some v
      → new ≡ settled (record old { settling = without_settling e.request old.settling }) v → made ≡ Sets (logged v) ∷ [] → posts ≡ settled_posts old v
      → LogicalHears sizes old e new made posts
  keeps : settling_of e.request old.settling ≡ None
      → new ≡ record old { reported = old.reported ++ e ∷ [] } → made ≡ [] → posts ≡ []
      → LogicalHears sizes old e new made posts
