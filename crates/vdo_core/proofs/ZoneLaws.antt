-- Items on their way, and what a step of a zone is.
use Rattle.std.proofs.Common.{◌≡◌, ◌<◌, ◌+◌, Bool, List, [], ◌∷◌, ◌++◌, refl, sym, ap, subst, ◌∙◌, arith, inl, inr}
use Rattle.data_vio.specs.declared.items.Item.{Item}
use Rattle.data_vio.specs.declared.sizes.Sizes.{Sizes}
use Rattle.core_model.specs.declared.zones.ZoneData.{ZoneData}
use Rattle.core_model.specs.declared.zones.ZoneData.TheVariants as at
use Rattle.core_model.specs.declared.zones.Zone.{Zone}
use Rattle.core_model.specs.PortsData.{Ports}
use Rattle.core_laws.proofs.tokens.Lift.{delivered_same}
use Rattle.core_model.specs.Steps.{delivered, step_limit, Act, CallsDevice, IsIdle, MayBegin, ZoneStep}
use Rattle.disk_model.specs.Seen.{Seen}
use Rattle.disk_model.specs.Trust.{Trust}
use Rattle.core_model.specs.Trace.{Trace}
use Rattle.data_vio.specs.Vios.{Post}
use Rattle.step_parts.specs.Acts.{Acts, ActsAlone}
use Rattle.vdo_core.specs.Plays.{ComesTo, ZoneSteps}
use Rattle.vdo_core.specs.declared.stepped.Stepped.{Stepped}
use Rattle.vdo_core.specs.declared.stepped.Stepped.TheVariants.{Did}

-- a step from its parts: what an act leaves in the zone, with its posts delivered
pub step_of : (sizes : Sizes) (old new : Zone) (keeps : ZoneData) (front rest : List Item) (made : Trace) (posts : List Post)
    → old.steps < step_limit → old.ports.inbox ≡ front ++ rest → (front ≡ [] → rest ≡ []) → Act sizes old.keeps front keeps made posts
    → new ≡ delivered sizes posts (record old { keeps = keeps; ports = record old.ports { inbox = rest }; steps = old.steps + 1 }) → ZoneStep sizes old new made
step_of sizes old new keeps front rest made posts counts taken in_turn act is =
    let kept : new.keeps ≡ keeps = ap (λ (z : Zone). z.keeps) is ∙ (delivered_same sizes posts (record old { keeps = keeps; ports = record old.ports { inbox = rest }; steps = old.steps + 1 })).keeps_is in
    record {
      front = front;
      rest = rest;
      posts = posts;
      counts = counts;
      taken = taken;
      in_turn = in_turn;
      act = subst (λ (d : ZoneData). Act sizes old.keeps front d made posts) (sym kept) act;
      lanes = is ∙ ap (λ (d : ZoneData). delivered sizes posts (record old { keeps = d; ports = record old.ports { inbox = rest }; steps = old.steps + 1 })) (sym kept);
    }

-- by what is left in its ports
served : (sizes : Sizes) (old new : Zone) (keeps : ZoneData) (ports : Ports) (rest : List Item) (posts : List Post) → ports ≡ record old.ports { inbox = rest }
    → new ≡ delivered sizes posts (record old { keeps = keeps; ports = ports; steps = old.steps + 1 })
    → new ≡ delivered sizes posts (record old { keeps = keeps; ports = record old.ports { inbox = rest }; steps = old.steps + 1 })
served sizes old new keeps ports rest posts left is = is ∙ ap (λ (p : Ports). delivered sizes posts (record old { keeps = keeps; ports = p; steps = old.steps + 1 })) left

-- a zone steps with the item in front of its inbox
pub stepped : (trust : Trust) (sizes : Sizes) (old new : Zone) (keeps : ZoneData) (front : Item) (ports : Ports) (posts : List Post) (before after : Seen)
    → old.steps < step_limit → old.ports ≡ record ports { inbox = front ∷ ports.inbox }
    → new ≡ delivered sizes posts (record old { keeps = keeps; ports = ports; steps = old.steps + 1 }) → Acts trust sizes old.keeps (front ∷ []) keeps posts before after
    → ZoneSteps trust sizes old new before after
stepped trust sizes old new keeps front ports posts before after counts taken is (made, act, log) =
    let in_turn : front ∷ [] ≡ [] → ports.inbox ≡ [] = λ e. cc in
    let left : ports ≡ record old.ports { inbox = ports.inbox } = ap (λ (p : Ports). record p { inbox = ports.inbox }) (sym taken) in
    (made, step_of sizes old new keeps (front ∷ []) ports.inbox made posts counts (ap (λ (p : Ports). p.inbox) taken) in_turn act (served sizes old new keeps ports ports.inbox posts left is), log)

-- a zone that doesn't call the device steps at each
pub stepped_alone : (sizes : Sizes) (old new : Zone) (keeps : ZoneData) (front : Item) (ports : Ports) (posts : List Post)
    → old.steps < step_limit → old.ports ≡ record ports { inbox = front ∷ ports.inbox }
    → new ≡ delivered sizes posts (record old { keeps = keeps; ports = ports; steps = old.steps + 1 }) → ActsAlone sizes old.keeps (front ∷ []) keeps posts
    → (trust : Trust) (seen : Seen) → ZoneSteps trust sizes old new seen seen
stepped_alone sizes old new keeps front ports posts counts taken is (made, act, silent) trust seen =
    stepped trust sizes old new keeps front ports posts seen seen counts taken is (made, act, silent trust seen)

-- a zone steps with no item
pub begun : (sizes : Sizes) (old new : Zone) (keeps : ZoneData) (ports : Ports) (posts : List Post)
    → old.steps < step_limit → old.ports.inbox ≡ [] → ports ≡ old.ports → ActsAlone sizes old.keeps [] keeps posts
    → new ≡ delivered sizes posts (record old { keeps = keeps; ports = ports; steps = old.steps + 1 }) → (trust : Trust) (seen : Seen) → ZoneSteps trust sizes old new seen seen
begun sizes old new keeps ports posts counts none same (made, act, silent) is trust seen =
    let left : ports ≡ record old.ports { inbox = [] } = same ∙ ap (λ (items : List Item). record old.ports { inbox = items }) none in
    (made, step_of sizes old new keeps [] [] made posts counts none (λ e. refl) act (served sizes old new keeps ports [] posts left is), silent trust seen)

-- a zone that counts on has work where it has an item, or may begin a request
pub has_item : (sizes : Sizes) (z : Zone) (front : Item) (rest : List Item) → z.steps < step_limit → z.ports.inbox ≡ front ∷ rest → IsIdle sizes z → ⊥
has_item sizes z front rest counts taken (inl nothing) = let none = nothing.inbox in cc
has_item sizes z front rest counts taken (inr most) = omega (arith, counts, most)

pub has_request : (sizes : Sizes) (z : Zone) → z.steps < step_limit → MayBegin sizes z.keeps → IsIdle sizes z → ⊥
has_request sizes z counts may (inl nothing) = nothing.none_begins may
has_request sizes z counts may (inr most) = omega (arith, counts, most)

-- the device's zone begins no request
pub begins_none : (sizes : Sizes) (keeps : ZoneData) → CallsDevice keeps → MayBegin sizes keeps → ⊥
begins_none sizes (at.Device d) calls may = may
begins_none sizes other calls may = absurd calls

-- it was done, for which there was work
pub has_done : (done none same : Type 0) (stepped : Stepped) → stepped ≡ Did → done → (none → ⊥) → ComesTo done none same stepped
has_done done none same stepped is d some = rw is (d, some)
