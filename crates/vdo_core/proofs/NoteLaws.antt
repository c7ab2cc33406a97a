-- What is known of the zones' work stays right over each event, and what it tells of moves.
use Rattle.vdo_core.specs.declared.numbers.TheConstants.{MOST_ZONES}
use Rattle.std.proofs.Common.{ℕ, zero, suc, ◌≡◌, ◌≢◌, ◌<◌, ◌≤◌, Bool, true, false, Some, List, [], ◌∷◌, ◌++◌, length, take, slice_get, slice_set, slice_index_or, get_or, inl, inr, refl, sym, ◌∙◌, ap, subst, arith}
use Rattle.std.proofs.lemmas.Bool.{cases_lt}
use Rattle.std.proofs.lemmas.Bool.Decides.{eqb_tells}
use Rattle.std.proofs.lemmas.List.{get_or-set_other, get_or-set_same, length-set}
use Rattle.std.proofs.lemmas.Option.{same_Some, slice_get-get_or, slice_get_within}
use Rattle.disk_model.specs.Trust.{Trust}
use Rattle.data_vio.specs.declared.items.Item.{Item}
use Rattle.data_vio.specs.declared.sizes.Sizes.{Sizes}
use Rattle.core_model.specs.declared.zones.Zone.{Zone}
use Rattle.core_model.specs.declared.zones.ZoneData.{ZoneData}
use Rattle.core_model.specs.PortsData.{IsSetOfPosts}
use Rattle.core_model.specs.Steps.{IsIdle, MayBegin, step_limit}
use Rattle.core_model.specs.Trace.{Trace}
use Rattle.vdo_core.specs.Moves.{MovesSome, has_items}
use Rattle.vdo_core.specs.Notes.{IsSetOfSenders, IsSetOfWork, IsTold, KnowsPosts, KnowsWork, OtherPostsStay, OthersStay, TellsNone, TellsPosts, TellsWork, sender_of, worker_of}
use Rattle.vdo_core.specs.Plays.{MovesAll, PlaysOne, Vdo}
use Rattle.core_model.specs.ZoneSets.{IsBelow, Puts, is_in}
use Rattle.vdo_core.specs.declared.events.Event.{Event}
use Rattle.vdo_core.specs.declared.events.Event.TheVariants as event
use Rattle.vdo_core.proofs.MoveLaws.{moves_something}
use Rattle.core_model.proofs.ZoneSetLaws.{none_inside, both_ways}

-- The zones to which another has posted something are in the set of its posts, without those past the last and itself.
pub tells_posts : (z : Zone) (count number posts low set : ℕ) → IsSetOfPosts z.ports.outboxes posts → ((n : ℕ) → n < count → is_in low n ≡ is_in posts n) → IsBelow count low → Puts low set number false
    → TellsPosts count number set z
tells_posts z count number posts low set told same past puts = record {
  yes = λ to inside. elim (eqb_tells to number) [
    | inl own ↦ absurd (both_ways _ inside (ap (λ (k : ℕ). is_in set k) own.1 ∙ puts.there))
    | inr other ↦ (
        let apart = other.1 in
        let had : is_in low to ≡ true = sym (puts.others to apart) ∙ inside in
        elim (cases_lt to count) [
          | inl below ↦ (λ (own : number ≡ to). apart (sym own), below, sym (told to) ∙ sym (same to below) ∙ had)
          | inr high ↦ absurd (both_ways _ had (past to high))
        ]
        )
  ];
  no = λ to outside apart below. sym (told to) ∙ sym (same to below) ∙ sym (puts.others to (λ (own : to ≡ number). apart (sym own))) ∙ outside;
}

-- a set of receivers without a zone tells that there is none, and the flag that it isn't empty
pub none_posted : (count number set : ℕ) (flag : Bool) (z : Zone) → TellsPosts count number set z → (flag ≡ false → set ≡ 0) → TellsNone count number flag z
none_posted count number set flag z told empty unset to apart below = told.no to (none_inside set (empty unset) to) apart below

module _ {F : Type 0} (P : ℕ → F → Zone → Type 0) where
  -- What is noted is right of all after the zone that isn't as before was looked at.
  pub told_on : (number : ℕ) (z : Zone) (before now : List Zone) (old new : ℕ → F) → slice_get now number ≡ Some z → P number (new number) z
      → ((n : ℕ) → n ≢ number → new n ≡ old n) → OthersStay P number before now → IsTold P old before → IsTold P new now
  told_on number z before now old new had right same stay told n at got = elim (eqb_tells n number) [
    | inl here ↦ (
        let there : slice_get now number ≡ Some at = subst (λ (k : ℕ). slice_get now k ≡ Some at) here.1 got in
        subst (λ (k : ℕ). P k (new k) at) (sym here.1) (subst (λ (w : Zone). P number (new number) w) (same_Some _ _ (sym had ∙ there)) right)
        )
    | inr other ↦ (
        let (was, had', still) = stay n at other.1 got in
        subst (λ (f : F). P n f at) (sym (same n other.1)) (still (old n) (told n was had'))
        )
  ]

  -- And where no zone has the number, each is as before.
  pub told_still : (number : ℕ) (before now : List Zone) (noted : ℕ → F) → length now ≤ number → OthersStay P number before now → IsTold P noted before → IsTold P noted now
  told_still number before now noted past stay told n at got =
      let below = slice_get_within now n at got in
      let (was, had', still) = stay n at (λ (is : n ≡ number). omega (arith, is, below, past)) got in
      still (noted n) (told n was had')

  -- one zone more of those in front
  pub others_taken : (zones : List Zone) (number : ℕ) → OthersStay P number (take number zones) (take (suc number) zones)
  others_taken zones number n at apart got = (at, taken_before zones number n at apart got, λ noted told. told)
    where
      taken_before : (zones : List Zone) (number n : ℕ) (at : Zone) → n ≢ number → slice_get (take (suc number) zones) n ≡ Some at → slice_get (take number zones) n ≡ Some at
      taken_before [] number n at apart got = absurd cc
      taken_before (x ∷ xs) zero zero at apart got = absurd (apart refl)
      taken_before (x ∷ xs) zero (suc n) at apart got = absurd cc
      taken_before (x ∷ xs) (suc number) zero at apart got = got
      taken_before (x ∷ xs) (suc number) (suc n) at apart got = taken_before xs number n at (λ (is : n ≡ number). apart (ap suc is)) got

-- the last of those
pub last_taken : (zones : List Zone) (number : ℕ) (z : Zone) → slice_get zones number ≡ Some z → slice_get (take (suc number) zones) number ≡ Some z
last_taken [] number z got = absurd cc
last_taken (x ∷ xs) zero z got = got
last_taken (x ∷ xs) (suc number) z got = last_taken xs number z got

-- a set stays below a number where one below it is put there
still_below : (count number old new : ℕ) (inside : Bool) → number < count → Puts old new number inside → IsBelow count old → IsBelow count new
still_below count number old new inside low puts few n past = puts.others n (λ (is : n ≡ number). omega (arith, is, low, past)) ∙ few n past

-- what is known of posts after a zone was looked at
pub knows_posts : (count number receivers : ℕ) (flag : Bool) (z : Zone) (before now : List Zone) (posted : List ℕ) (senders senders' : ℕ) → number < count → count ≤ MOST_ZONES
    → slice_get now number ≡ Some z → TellsPosts count number receivers z → (flag ≡ false → receivers ≡ 0) → Puts senders senders' number flag → OtherPostsStay count number before now
    → KnowsPosts count posted senders before → KnowsPosts count (slice_set posted number receivers) senders' now
knows_posts count number receivers flag z before now posted senders senders' low few had told empty puts stay known =
    let long = known.long in
    let none : TellsNone count number flag z = none_posted count number receivers flag z told empty in
    record {
      long = length-set posted number receivers ∙ long;
      posts = told_on (TellsPosts count) number z before now (λ n. slice_index_or posted n 0) (λ n. slice_index_or (slice_set posted number receivers) n 0) had
          (subst (λ (set : ℕ). TellsPosts count number set z) (sym (get_or-set_same posted number receivers 0 (omega (arith, low, few, long)))) told)
          (λ n other. get_or-set_other posted number n receivers 0 other) stay.posts known.posts;
      senders = told_on (TellsNone count) number z before now (is_in senders) (is_in senders') had (subst (λ (f : Bool). TellsNone count number f z) (sym puts.there) none) puts.others stay.senders known.senders;
      few = still_below count number senders senders' flag low puts known.few;
    }

-- and of work
pub knows_work : (count number : ℕ) (sizes : Sizes) (flag : Bool) (z : Zone) (before now : List Zone) (works works' : ℕ) → number < count → slice_get now number ≡ Some z
    → TellsWork sizes number flag z → Puts works works' number flag → OthersStay (TellsWork sizes) number before now → KnowsWork count sizes works before → KnowsWork count sizes works' now
knows_work count number sizes flag z before now works works' low had told puts stay known = record {
  work = told_on (TellsWork sizes) number z before now (is_in works) (is_in works') had (subst (λ (f : Bool). TellsWork sizes number f z) (sym puts.there) told) puts.others stay known.work;
  few = still_below count number works works' flag low puts known.few;
}

-- what is known where no zone has the number
pub posts_still : (count number : ℕ) (before now : List Zone) (posted : List ℕ) (senders : ℕ) → length now ≤ number → OtherPostsStay count number before now
    → KnowsPosts count posted senders before → KnowsPosts count posted senders now
posts_still count number before now posted senders past stay known = record {
  long = known.long;
  posts = told_still (TellsPosts count) number before now (λ n. slice_index_or posted n 0) past stay.posts known.posts;
  senders = told_still (TellsNone count) number before now (is_in senders) past stay.senders known.senders;
  few = known.few;
}

pub work_still : (count number : ℕ) (sizes : Sizes) (before now : List Zone) (works : ℕ) → length now ≤ number → OthersStay (TellsWork sizes) number before now
    → KnowsWork count sizes works before → KnowsWork count sizes works now
work_still count number sizes before now works past stay known =
    record { work = told_still (TellsWork sizes) number before now (is_in works) past stay known.work; few = known.few }

-- what is known of no zone
pub posts_of_none : (count : ℕ) (posted : List ℕ) (senders : ℕ) → length posted ≡ MOST_ZONES → senders ≡ 0 → KnowsPosts count posted senders []
posts_of_none count posted senders long none = record {
  long = long;
  posts = λ n at got. absurd cc;
  senders = λ n at got. absurd cc;
  few = λ n past. none_inside senders none n;
}

pub work_of_none : (count : ℕ) (sizes : Sizes) (works : ℕ) → works ≡ 0 → KnowsWork count sizes works []
work_of_none count sizes works none = record { work = λ n at got. absurd cc; few = λ n past. none_inside works none n }

-- The zones that are noted to have work have it, and no other.
pub known_workers : (sizes : Sizes) (zones : List Zone) (works : ℕ) → KnowsWork (length zones) sizes works zones → IsSetOfWork sizes zones (λ number. event.Step number) works
known_workers sizes zones works known = record {
  yes = λ n inside none. elim (cases_lt n (length zones)) [
    | inl below ↦ some_there zones n below (λ at got. (known.work n at got).yes inside (none at got))
    | inr past ↦ both_ways _ inside (known.few n past)
  ];
  no = λ n outside at got. (known.work n at got).no outside;
}
  where
    some_there : (zones : List Zone) (n : ℕ) → n < length zones → ((at : Zone) → slice_get zones n ≡ Some at → ⊥) → ⊥
    some_there [] n below none = omega (arith, below)
    some_there (x ∷ xs) n below none = none (get_or (x ∷ xs) n x) (slice_get-get_or (x ∷ xs) n x below)

-- so are those from which something moves
pub known_senders : (zones : List Zone) (posted : List ℕ) (senders : ℕ) → KnowsPosts (length zones) posted senders zones → IsSetOfSenders zones senders
known_senders zones posted senders known = record {
  few = known.few;
  no = λ sizes from to outside source target apart had had'. known.senders from source had outside to apart (slice_get_within zones to target had');
}

-- and those to which something moves
pub known_receivers : (sizes : Sizes) (zones : List Zone) (posted : List ℕ) (senders from : ℕ) → from < length zones → KnowsPosts (length zones) posted senders zones
    → IsSetOfWork sizes zones (λ to. event.Move from to) (slice_index_or posted from 0)
known_receivers sizes [] posted senders from below known = absurd (omega (arith, below))
known_receivers sizes (x ∷ xs) posted senders from below known =
    let zones : List Zone = x ∷ xs in
    let source : Zone = get_or zones from x in
    let had : slice_get zones from ≡ Some source = slice_get-get_or zones from x below in
    let told : TellsPosts (length zones) from (slice_index_or posted from 0) source = known.posts from source had in
    record {
      yes = λ to inside. (
          let (apart, low, has) = told.yes to inside in
          let moves : MovesSome zones from to = record { source = source; target = get_or zones to x; apart = apart; had_source = had; had_target = slice_get-get_or zones to x low; posted = has } in
          moves_something zones from to moves
          );
      no = λ to outside other target apart had' at. (
          let same : source ≡ other = same_Some _ _ (sym had ∙ had') in
          subst (λ (z : Zone). has_items (slice_get z.ports.outboxes to) ≡ false) same (told.no to outside apart (slice_get_within zones to target at))
          );
    }

-- what is put somewhere leaves the others
put_elsewhere : (zs : List Zone) (i j : ℕ) (z at : Zone) → j ≢ i → slice_get (slice_set zs i z) j ≡ Some at → slice_get zs j ≡ Some at
put_elsewhere [] i j z at other got = got
put_elsewhere (x ∷ xs) zero zero z at other got = absurd (other refl)
put_elsewhere (x ∷ xs) zero (suc j) z at other got = got
put_elsewhere (x ∷ xs) (suc i) zero z at other got = got
put_elsewhere (x ∷ xs) (suc i) (suc j) z at other got = put_elsewhere xs i j z at (λ is. other (ap suc is)) got

-- a zone that keeps what another keeps, with its inbox and as many steps, is idle where that is
as_idle : (sizes : Sizes) (z other : Zone) → z.keeps ≡ other.keeps → z.steps ≡ other.steps → z.ports.inbox ≡ other.ports.inbox → IsIdle sizes z → IsIdle sizes other
as_idle sizes z other keeps steps inbox (inl none) =
    inl (record { inbox = sym inbox ∙ none.inbox; none_begins = λ may. none.none_begins (subst (λ (data' : ZoneData). MayBegin sizes data') (sym keeps) may) })
as_idle sizes z other keeps steps inbox (inr full) = inr (subst (λ (n : ℕ). step_limit ≤ n) steps full)

-- a zone that was put where one stood is there
put_there : (zs : List Zone) (i : ℕ) (z at : Zone) → slice_get (slice_set zs i z) i ≡ Some at → at ≡ z
put_there [] i z at got = absurd cc
put_there (x ∷ xs) zero z at got = sym (same_Some _ _ got)
put_there (x ∷ xs) (suc i) z at got = put_there xs i z at got

-- what a sender has left when its outbox to a zone was emptied
abbrev emptied : Zone → ℕ → Zone
emptied source to = record source { ports = record source.ports { outboxes = slice_set source.ports.outboxes to [] } }

-- and what a receiver has
abbrev filled : Zone → List Item → Zone
filled target part = record target { ports = record target.ports { inbox = target.ports.inbox ++ part } }

-- what depends on the outboxes alone stays where they do
abbrev OfOutboxes : {F : Type 0} → (ℕ → F → Zone → Type 0) → Type 0
OfOutboxes {F} P = (n : ℕ) (noted : F) (z other : Zone) → z.ports.outboxes ≡ other.ports.outboxes → P n noted z → P n noted other

posts_of_outboxes : (count : ℕ) → OfOutboxes (TellsPosts count)
posts_of_outboxes count n set z other same told = record {
  yes = λ to inside. (let (apart, below, has) = told.yes to inside in (apart, below, subst (λ (lanes : List (List Item)). has_items (slice_get lanes to) ≡ true) same has));
  no = λ to outside apart below. subst (λ (lanes : List (List Item)). has_items (slice_get lanes to) ≡ false) same (told.no to outside apart below);
}

none_of_outboxes : (count : ℕ) → OfOutboxes (TellsNone count)
none_of_outboxes count n flag z other same told unset to apart below = subst (λ (lanes : List (List Item)). has_items (slice_get lanes to) ≡ false) same (told unset to apart below)

module _ {F : Type 0} (P : ℕ → F → Zone → Type 0) where
  put_stays : (zones : List Zone) (number : ℕ) (z : Zone) → OthersStay P number zones (slice_set zones number z)
  put_stays zones number z n at other got = (at, put_elsewhere zones number n z at other got, λ noted told. told)

  -- nothing else changed where nothing did
  same_stays : (number : ℕ) (old new : List Zone) → new ≡ old → OthersStay P number old new
  same_stays number old new same n z other got = (z, subst (λ (zs : List Zone). slice_get zs n ≡ Some z) same got, λ noted told. told)

  -- Of two that were put the one or the other has changed, and it tells what it told.
  two_stay : (zones : List Zone) (i j : ℕ) (x y x' y' : Zone) → i ≢ j → slice_get zones i ≡ Some x → slice_get zones j ≡ Some y
      → (n : ℕ) (z : Zone) → slice_get (slice_set (slice_set zones i x') j y') n ≡ Some z → (n ≡ i → (noted : F) → P n noted x → P n noted x')
      → (n ≡ j → (noted : F) → P n noted y → P n noted y') → (before : Zone) × (slice_get zones n ≡ Some before) × ((noted : F) → P n noted before → P n noted z)
  two_stay zones i j x y x' y' apart had had' n z got first second = elim (eqb_tells n j) [
    | inl same ↦ (
        let here : slice_get (slice_set (slice_set zones i x') j y') j ≡ Some z = subst (λ (k : ℕ). slice_get (slice_set (slice_set zones i x') j y') k ≡ Some z) same.1 got in
        let is : z ≡ y' = put_there (slice_set zones i x') j y' z here in
        (y, subst (λ (k : ℕ). slice_get zones k ≡ Some y) (sym same.1) had', λ noted told. subst (λ (w : Zone). P n noted w) (sym is) (second same.1 noted told))
        )
    | inr away ↦ (
        let still : slice_get (slice_set zones i x') n ≡ Some z = put_elsewhere (slice_set zones i x') j n y' z away.1 got in
        elim (eqb_tells n i) [
          | inl same ↦ (
              let here : slice_get (slice_set zones i x') i ≡ Some z = subst (λ (k : ℕ). slice_get (slice_set zones i x') k ≡ Some z) same.1 still in
              let is : z ≡ x' = put_there zones i x' z here in
              (x, subst (λ (k : ℕ). slice_get zones k ≡ Some x) (sym same.1) had, λ noted told. subst (λ (w : Zone). P n noted w) (sym is) (first same.1 noted told))
              )
          | inr off ↦ (z, put_elsewhere zones i n x' z off.1 still, λ noted told. told)
        ]
        )
  ]

  -- A move changes what its sender posted.
  moved_posts : OfOutboxes P → (from to : ℕ) (old new : List Zone) → MovesAll from to old new → OthersStay P from old new
  moved_posts of from to old new all n z other got =
      let put : slice_get (slice_set (slice_set old from (emptied all.source to)) to (filled all.target all.part)) n ≡ Some z = subst (λ (zs : List Zone). slice_get zs n ≡ Some z) all.has got in
      two_stay old from to all.source all.target (emptied all.source to) (filled all.target all.part) all.apart all.had_source all.had_target n z put
      (λ same. absurd (other same)) (λ same noted told. of n noted all.target (filled all.target all.part) refl told)

  -- so by each event only the zone that steps, or from which something moves, changes what it posted
  posts_stay : OfOutboxes P → (trust : Trust) (sizes : Sizes) (e : Event) (old new : Vdo) (made : Trace)
      → PlaysOne trust sizes e old new made → OthersStay P (sender_of e) old.zones new.zones
  posts_stay of trust sizes (event.Step n) old new made (inl at) =
      subst (λ (zs : List Zone). OthersStay P n old.zones zs) (sym at.has) (put_stays old.zones n at.zone')
  posts_stay of trust sizes (event.Step n) old new made (inr (idle, same, none)) = same_stays n old.zones new.zones (ap (λ (v : Vdo). v.zones) same)
  posts_stay of trust sizes (event.Move from to) old new made (inl (all, silent, none)) = moved_posts of from to old.zones new.zones all
  posts_stay of trust sizes (event.Move from to) old new made (inr (idle, same, none)) =
      same_stays from old.zones new.zones (ap (λ (v : Vdo). v.zones) same)

-- what was posted elsewhere stays
pub played_posts : (count : ℕ) (trust : Trust) (sizes : Sizes) (e : Event) (old new : Vdo) (made : Trace)
    → PlaysOne trust sizes e old new made → OtherPostsStay count (sender_of e) old.zones new.zones
played_posts count trust sizes e old new made played = record {
  posts = posts_stay (TellsPosts count) (posts_of_outboxes count) trust sizes e old new made played;
  senders = posts_stay (TellsNone count) (none_of_outboxes count) trust sizes e old new made played;
}

-- An emptied outbox changes no work
work_emptied : (sizes : Sizes) (source : Zone) (to n : ℕ) (flag : Bool) → TellsWork sizes n flag source → TellsWork sizes n flag (emptied source to)
work_emptied sizes source to n flag told = record { yes = λ set idle. told.yes set (as_idle sizes (emptied source to) source refl refl refl idle); no = λ unset. as_idle sizes source (emptied source to) refl refl refl (told.no unset) }

-- and a move what work its receiver has
moved_work : (sizes : Sizes) (from to : ℕ) (old new : List Zone) → MovesAll from to old new → OthersStay (TellsWork sizes) to old new
moved_work sizes from to old new all n z other got =
    let put : slice_get (slice_set (slice_set old from (emptied all.source to)) to (filled all.target all.part)) n ≡ Some z = subst (λ (zs : List Zone). slice_get zs n ≡ Some z) all.has got in
    two_stay (TellsWork sizes) old from to all.source all.target (emptied all.source to) (filled all.target all.part) all.apart all.had_source all.had_target n z put
    (λ same flag told. work_emptied sizes all.source to n flag told) (λ same. absurd (other same))

-- so only the zone that steps, or to which something moves, has more work or less
pub played_work : (trust : Trust) (sizes : Sizes) (e : Event) (old new : Vdo) (made : Trace)
    → PlaysOne trust sizes e old new made → OthersStay (TellsWork sizes) (worker_of e) old.zones new.zones
played_work trust sizes (event.Step n) old new made (inl at) =
    subst (λ (zs : List Zone). OthersStay (TellsWork sizes) n old.zones zs) (sym at.has) (put_stays (TellsWork sizes) old.zones n at.zone')
played_work trust sizes (event.Step n) old new made (inr (idle, same, none)) =
    same_stays (TellsWork sizes) n old.zones new.zones (ap (λ (v : Vdo). v.zones) same)
played_work trust sizes (event.Move from to) old new made (inl (all, silent, none)) = moved_work sizes from to old.zones new.zones all
played_work trust sizes (event.Move from to) old new made (inr (idle, same, none)) =
    same_stays (TellsWork sizes) to old.zones new.zones (ap (λ (v : Vdo). v.zones) same)

-- there are as many zones after an event
pub played_length : (trust : Trust) (sizes : Sizes) (e : Event) (old new : Vdo) (made : Trace)
    → PlaysOne trust sizes e old new made → length old.zones ≡ length new.zones
played_length trust sizes (event.Step n) old new made (inl at) = sym (ap length at.has ∙ length-set old.zones n at.zone')
played_length trust sizes (event.Step n) old new made (inr (idle, same, none)) = sym (ap (λ (v : Vdo). length v.zones) same)
played_length trust sizes (event.Move from to) old new made (inl (all, silent, none)) =
    let first : List Zone = slice_set old.zones from (emptied all.source to) in
    sym (ap length all.has ∙ length-set first to (filled all.target all.part) ∙ length-set old.zones from (emptied all.source to))
played_length trust sizes (event.Move from to) old new made (inr (idle, same, none)) = sym (ap (λ (v : Vdo). length v.zones) same)
