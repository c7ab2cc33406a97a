-- A step and a move change the sums of one zone or two: what each kind of token owes is a law on the data of that zone.
use Rattle.std.proofs.Common.{◌≡◌, ℕ, ◌+◌, ◌<◌, ◌≤◌, Bool, true, false, List, [], ◌∷◌, ◌++◌, length, Some, slice_get, slice_set, nat_eq, refl, ap, sym, ◌∙◌, arith}
use Rattle.core_laws.proofs.Common.{AllByRecursion, AtMost, Balanced, Item, Post, Sizes, Token, Vio, Zone, ZoneData, as_items, get-put_other, given, total, total-append, total-set, weight, zone_number}
use Rattle.data_vio.specs.declared.items.Item.TheVariants.{Request}
use Rattle.core_model.specs.Steps.{sent_to, sent, delivered, Core, StepOf, MoveOf}
use Rattle.core_laws.proofs.lists.CoreLists.{total-posted, length-posted}
use Rattle.core_laws.proofs.tokens.ActRules.{Sum}
use Rattle.core_laws.proofs.tokens.ActSums.{IsRule, posts_sum}

-- all posts go to one of so many zones
abbrev pub Within : Sizes → ℕ → List Post → Type 0
Within sizes zones posts = AllByRecursion (λ (p : Post). zone_number sizes p.0 < zones) posts

pub items_total : (weigh : Item → ℕ) (vs : List Vio) → total weigh (as_items vs) ≡ total (λ v. weigh (Request v)) vs
items_total weigh [] = refl
items_total weigh (v ∷ vs) = ap (λ n. weigh (Request v) + n) (items_total weigh vs)

-- posts change neither the number, nor the data, nor how many lanes there are
pub record SameData (z z' : Zone) : Type 0 where
  pub number_is : z'.number ≡ z.number
  pub keeps_is : z'.keeps ≡ z.keeps
  pub lanes : length z'.ports.outboxes ≡ length z.ports.outboxes

pub sent_same : (b : Bool) (to : ℕ) (it : Item) (z : Zone) → SameData z (sent_to b to it z)
sent_same true to it z = record { number_is = refl; keeps_is = refl; lanes = refl }
sent_same false to it z = record { number_is = refl; keeps_is = refl; lanes = length-posted to it z.ports.outboxes }

pub delivered_same : (sizes : Sizes) (ps : List Post) (z : Zone) → SameData z (delivered sizes ps z)
delivered_same sizes [] z = record { number_is = refl; keeps_is = refl; lanes = refl }
delivered_same sizes (p ∷ ps) z =
    let to = zone_number sizes p.0 in
    let a = sent_same (nat_eq to z.number) to p.1 z in
    let b = delivered_same sizes ps (sent sizes p z) in
    record { number_is = b.number_is ∙ a.number_is; keeps_is = b.keeps_is ∙ a.keeps_is; lanes = b.lanes ∙ a.lanes }

sent_weight : (t : Token) (b : Bool) (to : ℕ) (it : Item) (z : Zone) → to < length z.ports.outboxes → weight t (sent_to b to it z) ≡ weight t z + t.item it
sent_weight t true to it z h = omega (arith, total-append t.item z.ports.inbox (it ∷ []))
sent_weight t false to it z h = omega (arith, total-posted t.item to it z.ports.outboxes h)

pub delivered_weight : (t : Token) (sizes : Sizes) (ps : List Post) (z : Zone) → Within sizes (length z.ports.outboxes) ps → weight t (delivered sizes ps z) ≡ weight t z + posts_sum ps t.item
delivered_weight t sizes [] z h = omega arith
delivered_weight t sizes (p ∷ ps) z h =
    let to = zone_number sizes p.0 in
    let a = sent_weight t (nat_eq to z.number) to p.1 z h.0 in
    let s = sent_same (nat_eq to z.number) to p.1 z in
    let w : Within sizes (length (sent sizes p z).ports.outboxes) ps = rw s.lanes h.1 in
    let b = delivered_weight t sizes ps (sent sizes p z) w in
    omega (arith, a, b)

-- What a token owes at an act: what items and data weigh changes with what is given out; or no more than that.
abbrev pub Conserves : Token → ZoneData → ZoneData → Sum → Sum → Type 0
Conserves t old new before after = after t.item + t.own new + t.gave old ≡ before t.item + t.own old + t.gave new

abbrev pub Shrinks : Token → ZoneData → ZoneData → Sum → Sum → Type 0
Shrinks t old new before after = after t.item + t.own new + t.gave old ≤ before t.item + t.own old + t.gave new

-- over a step of the core
module _ (t : Token) (sizes : Sizes) (old new : Core) (s : StepOf sizes old new) (goes : Within sizes (length s.zone.ports.outboxes) s.step.posts)
    (r : IsRule sizes s.zone.keeps s.step.front s.zone'.keeps s.step.posts) where
  abbrev z : Zone
  z = record s.zone { keeps = s.zone'.keeps; ports = record s.zone.ports { inbox = s.step.rest }; steps = s.zone.steps + 1 }

  -- what the zone weighs, by the row
  here : weight t s.zone' + r.before t.item + t.own s.zone.keeps ≡ weight t s.zone + r.after t.item + t.own s.zone'.keeps
  here =
      let a = ap (weight t) s.step.lanes ∙ delivered_weight t sizes s.step.posts z goes in
      let b = ap (total t.item) s.step.taken in
      omega (arith, a, b, total-append t.item s.step.front s.step.rest, r.was t.item, r.is t.item)

  abbrev pub StepLaw : (Token → ZoneData → ZoneData → Sum → Sum → Type 0) → Type 0
  StepLaw Law = Law t s.zone.keeps s.zone'.keeps r.before r.after

  pub balance_step : StepLaw Conserves → Balanced t old.zones → Balanced t new.zones
  balance_step law held =
      let a = total-set (weight t) old.zones s.number s.zone s.zone' s.had in
      let b = total-set (given t) old.zones s.number s.zone s.zone' s.had in
      rw s.has (omega (arith, here, law, a, b, held))

  pub at_most_step : StepLaw Shrinks → AtMost t old.zones → AtMost t new.zones
  at_most_step law held =
      let a = total-set (weight t) old.zones s.number s.zone s.zone' s.had in
      let b = total-set (given t) old.zones s.number s.zone s.zone' s.had in
      rw s.has (omega (arith, here, law, a, b, held))

-- over a move
module _ (t : Token) (old new : Core) (m : MoveOf old new) where
  abbrev source' : Zone
  source' = record m.source { ports = record m.source.ports { outboxes = slice_set m.source.ports.outboxes m.to m.left } }

  abbrev target' : Zone
  target' = record m.target { ports = record m.target.ports { inbox = m.target.ports.inbox ++ m.part } }

  -- a number of each zone, before and after
  both : (f : Zone → ℕ) → total f new.zones + f m.source + f m.target ≡ total f old.zones + f source' + f target'
  both f =
      let still : slice_get (slice_set old.zones m.from source') m.to ≡ Some m.target = get-put_other old.zones m.from m.to source' (λ e. m.apart (sym e)) ∙ m.had_target in
      let a = total-set f old.zones m.from m.source source' m.had_source in
      let b = total-set f (slice_set old.zones m.from source') m.to m.target target' still in
      rw m.has (omega (arith, a, b))

  same_weight : total (weight t) new.zones ≡ total (weight t) old.zones
  same_weight =
      let e = total-set (total t.item) m.source.ports.outboxes m.to (m.part ++ m.left) m.left m.outbox in
      omega (arith, both (weight t), e, total-append t.item m.part m.left, total-append t.item m.target.ports.inbox m.part)

  same_given : total (given t) new.zones ≡ total (given t) old.zones
  same_given = omega (arith, both (given t))

  pub balance_move : Balanced t old.zones → Balanced t new.zones
  balance_move held = same_weight ∙ held ∙ sym same_given

  pub at_most_move : AtMost t old.zones → AtMost t new.zones
  at_most_move held = omega (arith, same_weight, same_given, held)
