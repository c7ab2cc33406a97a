-- What a move needs of the two zones.
use Rattle.std.proofs.Common.{ℕ, ◌≡◌, ◌≢◌, ◌+◌, ◌-◌, ◌<◌, ◌∙◌, zero, suc, true, Some, List, [], ◌∷◌, ◌++◌, length, length-append, take, drop, get_or, slice_get, slice_set, ap, ap₂, sym, subst, arith}
use Rattle.std.proofs.lemmas.List.{append-nil, drop_all, get_or_append_left, get_or-append-add, length-set, set-append_left, set-append_right, take_all}
use Rattle.std.proofs.lemmas.Option.{same_Some, slice_get-get_or}
use Rattle.std.specs.List.{AllByRecursion}
use Rattle.data_vio.specs.declared.items.Item.{Item}
use Rattle.core_model.specs.declared.zones.Zone.{Zone}
use Rattle.core_model.specs.SessionLimits.{IsShort}
use Rattle.core_model.specs.PortsData.{Ports}
use Rattle.core_model.specs.Steps.{with_inbox, with_outboxes}
use Rattle.vdo_core.specs.Moves.{MovesNothing, MovesSome, has_items}
use Rattle.vdo_core.specs.Plays.{MovesAll}

-- an outbox with items is there
pub has_lane : (lanes : List (List Item)) (to : ℕ) → has_items (slice_get lanes to) ≡ true → to < length lanes
has_lane [] to some = absurd cc
has_lane (lane ∷ lanes) zero some = omega arith
has_lane (lane ∷ lanes) (suc to) some = let below = has_lane lanes to some in omega (arith, below)

-- and short, where all are
pub short_lane : (lanes : List (List Item)) (to : ℕ) (lane : List Item) → AllByRecursion (λ lane. IsShort lane) lanes → slice_get lanes to ≡ Some lane → IsShort lane
short_lane [] to lane all got = absurd cc
short_lane (l ∷ lanes) zero lane all got = subst (λ (items : List Item). IsShort items) (same_Some _ _ got) all.0
short_lane (l ∷ lanes) (suc to) lane all got = short_lane lanes to lane all.1 got

-- where there is something to move there isn't nothing
pub moves_something : (zones : List Zone) (from to : ℕ) → MovesSome zones from to → MovesNothing zones from to → ⊥
moves_something zones from to some nothing =
    let none = nothing some.source some.target some.apart some.had_source some.had_target in
    cc (none, some.posted)

-- two zones are put where the zones were parted at the higher of them
put_up : (front back : List Zone) (from to : ℕ) (x y : Zone) → length front ≡ to → from < to → slice_set (slice_set (front ++ back) from x) to y ≡ slice_set front from x ++ slice_set back 0 y
put_up front back from to x y long below =
    let none : to - to ≡ 0 = omega arith in
    let inside : from < length front = omega (arith, long, below) in
    let size : length (slice_set front from x) ≡ to = length-set front from x ∙ long in
    ap (λ (zs : List Zone). slice_set zs to y) (set-append_left front back from x inside) ∙ set-append_right (slice_set front from x) back to to y size (omega arith)
    ∙ ap (λ (k : ℕ). slice_set front from x ++ slice_set back k y) none

put_down : (front back : List Zone) (from to : ℕ) (x y : Zone) → length front ≡ from → to < from → slice_set (slice_set (front ++ back) from x) to y ≡ slice_set front to y ++ slice_set back 0 x
put_down front back from to x y long below =
    let none : from - from ≡ 0 = omega arith in
    let inside : to < length front = omega (arith, long, below) in
    ap (λ (zs : List Zone). slice_set zs to y) (set-append_right front back from from x long (omega arith) ∙ ap (λ (k : ℕ). front ++ slice_set back k x) none)
    ∙ set-append_left front (slice_set back 0 x) to y inside

-- which zone stands at a place before the parting, and behind it
pub front_is : (zones front back : List Zone) (n : ℕ) (z : Zone) → zones ≡ front ++ back → n < length front → z ≡ get_or front n z → slice_get zones n ≡ Some z
front_is zones front back n z parts inside is =
    let within : n < length zones = omega (arith, inside, ap length parts, length-append front back) in
    let there : get_or zones n z ≡ z = ap (λ (zs : List Zone). get_or zs n z) parts ∙ get_or_append_left front back z n inside ∙ sym is in
    slice_get-get_or zones n z within ∙ ap (λ (w : Zone). Some w) there

pub back_is : (zones front back : List Zone) (n : ℕ) (z : Zone) → zones ≡ front ++ back → length front ≡ n → n < length zones → z ≡ get_or back 0 z → slice_get zones n ≡ Some z
back_is zones front back n z parts long within is =
    let first : n ≡ length front + 0 = omega (arith, long) in
    let there : get_or zones n z ≡ z = ap (λ (zs : List Zone). get_or zs n z) parts ∙ ap (λ (k : ℕ). get_or (front ++ back) k z) first ∙ get_or-append-add front back 0 z ∙ sym is in
    slice_get-get_or zones n z within ∙ ap (λ (w : Zone). Some w) there

-- what a move brings is what it leaves of two zones
pub carried : (old new : List Zone) (from to : ℕ) (source target : Zone) → from ≢ to → slice_get old from ≡ Some source → slice_get old to ≡ Some target → to < length source.ports.outboxes
    → new ≡ slice_set (slice_set old from (with_outboxes source (slice_set source.ports.outboxes to []))) to (with_inbox target (target.ports.inbox ++ get_or source.ports.outboxes to []))
    → MovesAll from to old new
carried old new from to source target apart had had' inside is = record {
  source = source;
  target = target;
  part = get_or source.ports.outboxes to [];
  apart = apart;
  had_source = had;
  had_target = had';
  outbox = slice_get-get_or source.ports.outboxes to [] inside;
  has = is;
}

-- what becomes of a list whose parts were written
abbrev joined : ℕ → List Zone → List Zone → List Zone
joined len old new = take len (new ++ drop (length new) old)

joined_whole : (len : ℕ) (old new : List Zone) → length new ≡ length old → length old ≡ len → joined len old new ≡ new
joined_whole len old new size all =
    let none : drop (length new) old ≡ [] = drop_all (length new) old (omega (arith, size)) in
    let same : new ++ drop (length new) old ≡ new = ap (λ (zs : List Zone). new ++ zs) none ∙ append-nil new in
    ap (λ (zs : List Zone). take len zs) same ∙ take_all len new (omega (arith, size, all))

-- The source before the target, where the zones are parted at that, ..
pub carried_up : (old front back : List Zone) (len from to : ℕ) (source target : Zone) (left got : Ports) → old ≡ front ++ back → length front ≡ to → to < length old → length old ≡ len → from < to
    → source ≡ get_or front from source → target ≡ get_or back 0 target → (to < length source.ports.outboxes)
    → left ≡ record source.ports { outboxes = slice_set source.ports.outboxes to [] } → got ≡ record target.ports { inbox = target.ports.inbox ++ get_or source.ports.outboxes to [] }
    → MovesAll from to old (joined len old (slice_set front from (record source { ports = left }) ++ slice_set back 0 (record target { ports = got })))
carried_up old front back len from to source target left got parts long within all below is is' inside sent there =
    let new : List Zone = slice_set front from (record source { ports = left }) ++ slice_set back 0 (record target { ports = got }) in
    let put : slice_set (slice_set old from (record source { ports = left })) to (record target { ports = got }) ≡ new
    = ap (λ (zs : List Zone). slice_set (slice_set zs from (record source { ports = left })) to (record target { ports = got })) parts ∙ put_up front back from to (record source { ports = left }) (record target { ports = got }) long below in
    let size : length new ≡ length old
    = sym (ap length put) ∙ length-set (slice_set old from (record source { ports = left })) to (record target { ports = got }) ∙ length-set old from (record source { ports = left }) in
    let whole : joined len old new ≡ new = joined_whole len old new size all in
    carried old (joined len old new) from to source target (λ (same : from ≡ to). omega (arith, same, below)) (front_is old front back from source parts (omega (arith, long, below)) is)
    (back_is old front back to target parts long within is') inside
    (whole ∙ sym put ∙ ap₂ (λ (p q : Ports). slice_set (slice_set old from (record source { ports = p })) to (record target { ports = q })) sent there)

-- .. and behind it
pub carried_down : (old front back : List Zone) (len from to : ℕ) (source target : Zone) (left got : Ports) → old ≡ front ++ back → length front ≡ from → from < length old → length old ≡ len → to < from
    → source ≡ get_or back 0 source → target ≡ get_or front to target → (to < length source.ports.outboxes)
    → left ≡ record source.ports { outboxes = slice_set source.ports.outboxes to [] } → got ≡ record target.ports { inbox = target.ports.inbox ++ get_or source.ports.outboxes to [] }
    → MovesAll from to old (joined len old (slice_set front to (record target { ports = got }) ++ slice_set back 0 (record source { ports = left })))
carried_down old front back len from to source target left got parts long within all below is is' inside sent there =
    let new : List Zone = slice_set front to (record target { ports = got }) ++ slice_set back 0 (record source { ports = left }) in
    let put : slice_set (slice_set old from (record source { ports = left })) to (record target { ports = got }) ≡ new
    = ap (λ (zs : List Zone). slice_set (slice_set zs from (record source { ports = left })) to (record target { ports = got })) parts ∙ put_down front back from to (record source { ports = left }) (record target { ports = got }) long below in
    let size : length new ≡ length old
    = sym (ap length put) ∙ length-set (slice_set old from (record source { ports = left })) to (record target { ports = got }) ∙ length-set old from (record source { ports = left }) in
    let whole : joined len old new ≡ new = joined_whole len old new size all in
    carried old (joined len old new) from to source target (λ (same : from ≡ to). omega (arith, same, below)) (back_is old front back from source parts long within is)
    (front_is old front back to target parts (omega (arith, long, below)) is') inside
    (whole ∙ sym put ∙ ap₂ (λ (p q : Ports). slice_set (slice_set old from (record source { ports = p })) to (record target { ports = q })) sent there)
