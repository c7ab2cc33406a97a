-- What a move and a schedule's turns leave.
use Rattle.std.proofs.Common.{ℕ, ◌≡◌, ◌≢◌, ◌<◌, ◌*◌, Bool, true, false, List, [], ◌∷◌, ◌++◌, Some, length, slice_get, slice_set, inl, inr, refl, sym, ◌∙◌, ap, subst, arith}
use Rattle.std.proofs.lemmas.Bool.Decides.{eqb_tells}
use Rattle.std.proofs.lemmas.Option.{same_Some}
use Rattle.plain_laws.proofs.ListLaws.{get-put_same, get-put_other, length-put}
use Rattle.disk_model.specs.Numbers.{next_state}
use Rattle.disk_model.specs.Trust.{Trust}
use Rattle.data_vio.specs.declared.items.Item.{Item}
use Rattle.data_vio.specs.declared.logged.Remapping.{Remapping}
use Rattle.data_vio.specs.declared.sizes.Sizes.{Sizes}
use Rattle.core_model.specs.DeskData.{Desk}
use Rattle.core_model.specs.SessionLimits.{requests_in}
use Rattle.core_model.specs.Steps.{IsIdle, step_limit, with_inbox, with_outboxes}
use Rattle.core_model.specs.Trace.{Trace, newest, of_address}
use Rattle.core_model.specs.ZoneSets.{is_in}
use Rattle.core_model.specs.declared.zones.Zone.{Zone}
use Rattle.core_model.specs.declared.zones.ZoneData.TheVariants as at
use Rattle.schedule.specs.Turns.{Driving, Drives, IsTurn, driving}
use Rattle.vdo_core.specs.Done.{IsDone}
use Rattle.vdo_core.specs.Moves.{has_items}
use Rattle.vdo_core.specs.Notes.{IsSetOfWork}
use Rattle.vdo_core.specs.Plays.{HasNoWork, PlaysOne, Vdo}
use Rattle.vdo_core.specs.declared.events.Event.{Event}
use Rattle.vdo_core.specs.declared.events.Event.TheVariants as event

-- The receiver behind a move has this before the items that moved.
pub record Arrived (old new : List Zone) (from to : ℕ) (target : Zone) (items : List Item) : Type 0 where
  pub source : Zone
  pub moved : new ≡ slice_set (slice_set old from source) to (with_inbox target (target.ports.inbox ++ items))

-- items that were posted are moved
pub arrives : (trust : Trust) (sizes : Sizes) (from to : ℕ) (old new : Vdo) (made : Trace) (source target : Zone) (first : Item) (rest : List Item)
    → PlaysOne trust sizes (event.Move from to) old new made → from ≢ to
    → slice_get old.zones from ≡ Some source → slice_get old.zones to ≡ Some target → slice_get source.ports.outboxes to ≡ Some (first ∷ rest)
    → Arrived old.zones new.zones from to target (first ∷ rest)
arrives trust sizes from to old new made source target first rest (inr idle) apart had_source had_target outbox =
    let none = idle.0 source target apart had_source had_target in
    let some : has_items (slice_get source.ports.outboxes to) ≡ true = ap has_items outbox in
    absurd (cc (none, some))
arrives trust sizes from to old new made source target first rest (inl (all, seen, none)) apart had_source had_target outbox =
    let same_target : all.target ≡ target = same_Some _ _ (sym all.had_target ∙ had_target) in
    let same_source : all.source ≡ source = same_Some _ _ (sym all.had_source ∙ had_source) in
    let lane : slice_get source.ports.outboxes to ≡ Some all.part = subst (λ (z : Zone). slice_get z.ports.outboxes to ≡ Some all.part) same_source all.outbox in
    let same_part : all.part ≡ first ∷ rest = same_Some _ _ (sym lane ∙ outbox) in
    record {
      source = with_outboxes all.source (slice_set all.source.ports.outboxes to []);
      moved = all.has ∙ ap (λ (z : Zone). slice_set (slice_set old.zones from (with_outboxes all.source (slice_set all.source.ports.outboxes to []))) to (with_inbox z (z.ports.inbox ++ all.part))) same_target
          ∙ ap (λ (items : List Item). slice_set (slice_set old.zones from (with_outboxes all.source (slice_set all.source.ports.outboxes to []))) to (with_inbox target (target.ports.inbox ++ items))) same_part;
    }

-- so the receiver stands there with them
pub stands : (old new : List Zone) (from to : ℕ) (target : Zone) (items : List Item) → from ≢ to → slice_get old to ≡ Some target → Arrived old new from to target items
    → slice_get new to ≡ Some (with_inbox target (target.ports.inbox ++ items))
stands old new from to target items apart had moved =
    ap (λ (zones : List Zone). slice_get zones to) moved.moved
    ∙ get-put_same (slice_set old from moved.source) to target (with_inbox target (target.ports.inbox ++ items))
    (get-put_other old from to moved.source (λ (e : to ≡ from). apart (sym e)) ∙ had)

-- a list with an item isn't empty
some_left : (items : List Item) (first : Item) (rest : List Item) → items ++ (first ∷ rest) ≡ [] → ⊥
some_left [] first rest e = cc
some_left (x ∷ items) first rest e = cc

-- and has work, where it has steps left
pub has_work : (sizes : Sizes) (zones : List Zone) (set to : ℕ) (target : Zone) (first : Item) (rest : List Item)
    → IsSetOfWork sizes zones (λ n. event.Step n) set → slice_get zones to ≡ Some (with_inbox target (target.ports.inbox ++ (first ∷ rest)))
    → target.steps < step_limit → is_in set to ≡ true
has_work sizes zones set to target first rest notes there left = at_bit (is_in set to) (notes.no to)
  where
    not_idle : IsIdle sizes (with_inbox target (target.ports.inbox ++ (first ∷ rest))) → ⊥
    not_idle (inl nothing) = some_left target.ports.inbox first rest nothing.inbox
    not_idle (inr no_steps) = omega (arith, no_steps, left)

    at_bit : (b : Bool) → (b ≡ false → HasNoWork sizes zones (event.Step to)) → b ≡ true
    at_bit true none = refl
    at_bit false none = absurd (not_idle (none refl _ there))

-- nothing is left in the outbox
pub nothing_left : (trust : Trust) (sizes : Sizes) (from to : ℕ) (old new : Vdo) (made : Trace) → PlaysOne trust sizes (event.Move from to) old new made
    → HasNoWork sizes new.zones (event.Move from to)
nothing_left trust sizes from to old new made (inr idle) = subst (λ (v : Vdo). HasNoWork sizes v.zones (event.Move from to)) (sym idle.1) idle.0
nothing_left trust sizes from to old new made (inl (all, seen, none)) = λ source target apart had_source had_target.
    let left = with_outboxes all.source (slice_set all.source.ports.outboxes to []) in
    let zones = slice_set old.zones from left in
    let there : slice_get new.zones from ≡ Some left =
    ap (λ (zs : List Zone). slice_get zs from) all.has
    ∙ get-put_other zones to from _ (λ (e : from ≡ to). apart e)
    ∙ get-put_same old.zones from all.source left all.had_source in
    let same : source ≡ left = same_Some _ _ (sym had_source ∙ there) in
    let lane : slice_get left.ports.outboxes to ≡ Some [] = get-put_same all.source.ports.outboxes to all.part [] all.outbox in
    ap (λ (z : Zone). has_items (slice_get z.ports.outboxes to)) same ∙ ap has_items lane

pub no_move : (sizes : Sizes) (zones : List Zone) (set from to : ℕ) → IsSetOfWork sizes zones (λ n. event.Move from n) set
    → HasNoWork sizes zones (event.Move from to) → is_in set to ≡ false
no_move sizes zones set from to notes none = at_bit (is_in set to) (notes.yes to)
  where
    at_bit : (b : Bool) → (b ≡ true → HasNoWork sizes zones (event.Move from to) → ⊥) → b ≡ false
    at_bit false some = refl
    at_bit true some = absurd (some refl none)

-- a move leaves as many zones
pub as_many : (trust : Trust) (sizes : Sizes) (from to : ℕ) (old new : Vdo) (made : Trace) → PlaysOne trust sizes (event.Move from to) old new made
    → length new.zones ≡ length old.zones
as_many trust sizes from to old new made (inr idle) = ap (λ (v : Vdo). length v.zones) idle.1
as_many trust sizes from to old new made (inl (all, seen, none)) = ap (λ (zs : List Zone). length zs) all.has ∙ length-put _ to _ ∙ length-put old.zones from _

-- a line is missing: the core isn't done
pub not_done : (zones : List Zone) (zone : Zone) (desk : Desk) → slice_get zones 0 ≡ Some zone → zone.keeps ≡ at.Desk desk
    → length desk.log < 2 * requests_in desk.requests → IsDone zones → ⊥
not_done zones zone desk had keeps missing done =
    let same : done.zone ≡ zone = same_Some _ _ (sym done.had ∙ had) in
    let both : at.Desk done.desk ≡ at.Desk desk = sym done.keeps ∙ ap (λ (z : Zone). z.keeps) same ∙ keeps in
    let desks : done.desk ≡ desk = cc in
    let full : length desk.log ≡ 2 * requests_in desk.requests = subst (λ (d : Desk). length d.log ≡ 2 * requests_in d.requests) desks done.full in
    omega (arith, full, missing)

-- the first turn of a core that isn't done takes the event that is chosen, and the next one has the next state
pub takes_it : (trust : Trust) (sizes : Sizes) (events : List Event) (old new : Driving) (made : Trace) (e : Event)
    → ((zones : List Zone) (state : ℕ) (a b : Event) → IsTurn sizes zones state a → IsTurn sizes zones state b → a ≡ b)
    → Drives trust sizes events old new made → IsDone new.vdo.zones → (IsDone old.vdo.zones → ⊥) → IsTurn sizes old.vdo.zones old.state e
    → (between : Vdo) × (first later : Trace) × (others : List Event) × PlaysOne trust sizes e old.vdo between first
    × Drives trust sizes others (driving (next_state old.state) between.zones between.seen) new later
takes_it trust sizes [] old new made e one drives done not_yet turn = absurd (not_yet (subst (λ (d : Driving). IsDone d.vdo.zones) drives.0 done))
takes_it trust sizes (e' ∷ events) old new made e one (between, first, later, open_yet, turn', plays, drives, parts) done not_yet turn =
    (between, first, later, events, subst (λ (a : Event). PlaysOne trust sizes a old.vdo between first) (one old.vdo.zones old.state e' e turn' turn) plays, drives)

-- a write is found behind one of another address
pub found_behind : (write other : Remapping) (older : List Remapping) → (write.at.0 ≡ other.at.0 → ⊥) → newest (of_address write.at.0 (other ∷ write ∷ older)) ≡ Some write
found_behind write other older apart = elim (eqb_tells other.at.0 write.at.0) [
  | inl same ↦ absurd (apart (sym same.1))
  | inr others ↦ elim (eqb_tells write.at.0 write.at.0) [
    | inl same ↦ rw (others.0, same.0) refl
    | inr differs ↦ absurd (differs.1 refl)
  ]
]
