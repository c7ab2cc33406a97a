-- What the acts of a logical zone on pages owe: a write makes a page that its path lacks, or waits for it, or is stopped; the page
-- is linked, or isn't made any more.
use Rattle.std.proofs.Common.{◌≡◌, ℕ, ◌+◌, ◌<◌, ◌≤◌, ◌%◌, true, false, if◌then◌else◌, Option, None, Some, List, [], ◌∷◌, ◌++◌, Contains, refl, ap, sym, ◌∙◌, subst, inl, inr, arith, ◌⊎◌}
use Rattle.core_laws.proofs.Common.{Aborts, AllByRecursion, Asks, DataOk, Happening, IsInTurn, IsToBlock, KeptOk, Logged, LogicalZone, Makes, MayReply, NewPage, Pbn, RightTrace, Session, Sets, Trace, Vio, applied, asked, bit, cases_Bool, dropped, durable, ended, every-append, every-map, fair_before, has_stopped, has_taken, journaled, logged, logical_number, zone_count, zone_number, Mapping, option_cases, some_is}
use Rattle.blk_base.specs.Pages.{page_above}
use Rattle.blk_base.specs.declared.place.Lba.{Lba}
use Rattle.blk_base.specs.declared.place.Mapping.TheVariants.{At}
use Rattle.blk_base.specs.declared.place.PageId.{PageId}
use Rattle.blk_base.specs.declared.place.ZoneId.TheVariants as id
use Rattle.blk_base.specs.declared.request.Answer.TheVariants as reply
use Rattle.block_map_tree.specs.Pages.{IsOnPath, IsRoot}
use Rattle.block_map_tree.specs.Tree.{IsLinkable, Tree}
use Rattle.block_map_tree.specs.declared.forms.Forest.{Forest}
use Rattle.image_model.specs.Pages.{is_page}
use Rattle.data_vio.specs.declared.items.Asks.TheVariants.{Write}
use Rattle.data_vio.specs.declared.items.Item.TheVariants as item
use Rattle.data_vio.specs.declared.items.Phase.TheVariants as phase
use Rattle.data_vio.specs.Vios as vios
use Rattle.data_vio.specs.Vios.{gives_up, makes}
use Rattle.core_model.specs.declared.zones.ZoneData.TheVariants as at
use Rattle.core_model.specs.JournalFacts.{HasPageEntry}
use Rattle.core_model.specs.LogicalFacts.{Awaits, HasSpent, IsMade, IsUnmade, MakesPage, PagesOk}
use Rattle.core_model.specs.RequestFacts.{HasClaim}
use Rattle.core_model.specs.PageLinks.{page_in}
use Rattle.core_laws.proofs.trace.PagesOfTrace.{put_there}
use Rattle.slab_counts.specs.declared.tickets.Ticket.{Ticket}
use Rattle.core_model.specs.LogicalRules.{IsLinked, all_again, first_for, granted, lacks, lacks_for, passed_to, released, unmade, woken}
use Rattle.core_model.specs.LogicalRules as logical
use Rattle.core_model.specs.PageLinks.{MayLack}
use Rattle.core_model.specs.PageTrees.{HasPath, IsMapTree, MayLink, but_page, is_listed, least_point, link_at, missing_at}
use Rattle.core_model.proofs.TreeLinks.{link_over, page_is}
use Rattle.core_laws.proofs.journal.JournalFacts.{may_stop, writes_change}
use Rattle.core_laws.proofs.journal.LoggedEntries.{logged_makes}
use Rattle.core_laws.proofs.kept.ActKept.{Known, PostOk, Mine, act_none, act_one, carries_own, in_bare, in_page, line_kept, own_page, own_request, shown_plain, unentered_slot, vio_ok, vio_over, claim_in}
use Rattle.core_model.specs.Trace.{added}
use Rattle.core_laws.proofs.kept.Frame.{reports_on}
use Rattle.core_laws.proofs.kept.Carried.{reply_said}
use Rattle.core_laws.proofs.kept.Frame.{told_kept}
use Rattle.core_laws.proofs.kept.Keys.{Clears}
use Rattle.core_laws.proofs.kept.Spared.{asks_none, may_ask}
use Rattle.core_laws.proofs.kept.Spared.{below_kept, quiet_kept}
use Rattle.core_laws.proofs.logical.LogicalFacts.{After, home, home_is, leased, own_clears}
use Rattle.core_laws.proofs.logical.PageFacts.{lacked_path, lacking_page}
use Rattle.core_laws.proofs.logical.PageLists.{listed_cut, listed_more, some_listed, struck_all, struck_cut, struck_times, times, times_more, times_none}
use Rattle.core_laws.proofs.logical.Releases.{below_more, release_ok}
use Rattle.core_laws.proofs.trace.DeskOfTrace.{shown_of}
use Rattle.data_vio.specs.Vios.{counts_of}
use Rattle.core_laws.proofs.lists.CountedIn.{counts_within}

-- a page that a request lacks is one that its write lacks
lacks_write : (l : LogicalZone) (a : ℕ) (q : Asks) (page : PageId) → lacks_for l a q ≡ Some page → (q ≡ Write) × (missing_at l.tree a ≡ Some page)
lacks_write l a Write page is = (refl, is)
lacks_write l a other page is = absurd cc

write_lacks : (height : ℕ) (q : Asks) (at : Lba) (bytes : List ℕ) (page : PageId) → q ≡ Write → page ≡ page_above page.level at.0 → page.level + 1 < height → MayLack height (asked q at bytes) page
write_lacks height q at bytes page is on_path lower = rw is (on_path, lower)

-- a page that may be linked in trees of the same forest
same_forest : (old new : Tree) (page : PageId) → new.forest ≡ old.forest → IsLinkable new page → IsLinkable old page
same_forest old new page same linkable = record {
  path = subst (λ (f : Forest). IsOnPath f page) same linkable.path;
  lower = λ root. linkable.lower (subst (λ (f : Forest). IsRoot f page) (sym same) root);
}

-- whoever has no claim has none, whatever it maps its address to
none_left : {s : Session} {claim : Option Pbn} {new : Mapping} {tickets : List Ticket} → claim ≡ None → tickets ≡ [] → HasClaim s false false claim new tickets
none_left none bare = record { claim_is = none; on_data = λ holds. absurd cc; no_ticket = λ asks. bare }

-- those that waited for a page come again
again_ok : (s : Session) (t : Trace) (zone : ℕ) (vs : List Vio) → zone < s.sizes.zones → AllByRecursion (KeptOk s t phase.Look) vs → AllByRecursion (λ (v : Vio). v.home ≡ id.Logical zone) vs
    → AllByRecursion (PostOk s t) (all_again vs)
again_ok s t zone [] among kept at_home = tt
again_ok s t zone (v ∷ vs) among kept at_home =
    let here = ap (zone_number s.sizes) at_home.0 in
    ((omega (arith, among, here), (kept.0.0, kept.0.1, rw kept.0.2 refl, kept.0.3)), again_ok s t zone vs among kept.1 at_home.1)

-- whether the lock is passed on before or after a page isn't made any more is the same
release_after : (page : PageId) (a : ℕ) (l : LogicalZone) → woken (unmade page (released a l)) ≡ released a (woken (unmade page l))
release_after page a l = by (first_for a l.waiting)
  where
    by : (o : Option Vio) → woken (unmade page (passed_to a l o)) ≡ passed_to a (woken (unmade page l)) o
    by None = refl
    by (Some v) = refl

release_dropped : (page : PageId) (a : ℕ) (l : LogicalZone) → woken (logical.dropped page (released a l)) ≡ released a (woken (logical.dropped page l))
release_dropped page a l = by (first_for a l.waiting)
  where
    by : (o : Option Vio) → woken (logical.dropped page (passed_to a l o)) ≡ passed_to a (woken (logical.dropped page l)) o
    by None = refl
    by (Some v) = refl

-- without a page the others are made as before
struck_ok : (zone : ℕ) (tree : Tree) (making : List PageId) (lacking : List Vio) (page : PageId) → PagesOk zone tree making lacking → PagesOk zone tree (but_page page making) []
struck_ok zone tree making lacking page k = record {
  linkable = struck_all (IsLinkable tree) page making k.linkable;
  once = λ p. (let once = k.once p in omega (arith, struck_times p page making, once));
  waits = tt;
  at_home = tt;
}

module _ {s : Session} {t : Trace} {n : ℕ} {l : LogicalZone} {v : Vio} (known : Known s t n (at.Logical l) (item.Request v ∷ [])) where
  own_number : v.home ≡ id.Logical l.zone → zone_number s.sizes v.home < zone_count s.sizes
  own_number is = let here = ap (zone_number s.sizes) is in let among = known.own.sound.among in omega (arith, here, among)

  -- A write looks, and lacks a page.
  module _ (is : v.phase ≡ phase.Look) (page : PageId) (path : HasPath l.tree v.at.0) (lacks_it : lacks l v ≡ Some page) where
    carries : (v.page ≡ None) × (IsInTurn s t v × HasSpent s t v.request None)
    carries = in_bare known phase.Look is (λ other no. no)

    missing : (v.asks ≡ Write) × (missing_at l.tree v.at.0 ≡ Some page)
    missing = lacks_write l v.at.0 v.asks page lacks_it

    -- it is never linked
    pub dropped_kept : is_listed page l.unlinkable ≡ true → After known (released v.at.0 l) [] ((id.Desk, item.Request (ended phase.Reply reply.Stopped v)) ∷ granted v.at.0 l)
    dropped_kept listed =
        let turn = carries.1.0 in
        let stopped = known.own.told.1 (some_listed page l.unlinkable listed) in
        let both = release_ok s t n l known.session known.right known.own v (leased known phase.Look is refl) (home known) turn.quiet (below_more t v.at.0 v.place (v.place + 1) (omega arith) turn.below) in
        let may = may_stop s t v (writes_change v.asks missing.0) stopped turn.is_placed.placed (unentered_slot s t v.request known.right turn.is_placed.not_entered) in
        act_none known both.0 ((omega arith, (vio_ok known, carries_own s t (ended phase.Reply reply.Stopped v) phase.Reply carries.0 may, refl, claim_in known phase.Look is)), both.1)

    -- it is being made
    pub waits_kept : is_listed page l.making ≡ true → After known (record l { lacking = l.lacking ++ v ∷ [] }) [] []
    waits_kept made =
        let k = known.own in
        let pages = k.sound.pages in
        act_none known (record {
          number_is = k.number_is;
          lists = k.lists;
          sound = record {
            among = k.sound.among;
            map = k.sound.map;
            locks = k.sound.locks;
            pages = record {
              linkable = pages.linkable;
              once = pages.once;
              waits = every-append (Awaits l.tree l.making) l.lacking (v ∷ []) pages.waits (record { page = page; lacked = missing.1; is_made = made }, tt);
              at_home = every-append (λ (u : Vio). u.home ≡ id.Logical l.zone) l.lacking (v ∷ []) pages.at_home (home_is known, tt);
            };
            reports = k.sound.reports;
          };
          kept = (k.kept.0, every-append (KeptOk s t phase.Look) l.lacking (v ∷ []) k.kept.1 ((vio_ok known, known.front_ok.0.1, is, known.front_ok.0.3), tt), k.kept.2);
          answers = k.answers;
          told = k.told;
        }) tt

    -- what isn't made, it claimed no block for
    untaken : (p : PageId) → IsUnmade s t p → has_taken t v.request (Some p) ≡ false
    untaken p unmade_yet = elim (cases_Bool (has_taken t v.request (Some p))) [
      | inl taken ↦ absurd (let made = rw unmade_yet at (carries.1.1.others p refl taken) in cc)
      | inr none ↦ none
    ]

    -- or it makes it
    pub makes_kept : is_listed page l.unlinkable ≡ false → is_listed page l.making ≡ false → After known (record l { making = l.making ++ page ∷ [] }) [] ((counts_of s.sizes v, item.Request (makes page v)) ∷ [])
    makes_kept may_yet unmade_yet =
        let k = known.own in
        let pages = k.sound.pages in
        let lacking = lacking_page s.sizes.geometry l.zone s.sizes.zones s.links (applied t) l.tree v.at.0 k.lists.tree_is path page missing.1 in
        let making : MakesPage s t (makes page v) page = record {
          turn = carries.1.0;
          is_write = missing.0;
          spent = record { none_taken = carries.1.1.none_taken; others = λ p other taken. carries.1.1.others p refl taken };
          lacked = write_lacks s.sizes.geometry.height v.asks v.at v.bytes page missing.0 lacking.on_path lacking.lower;
          up = lacking.up;
        } in
        act_none known (record {
          number_is = k.number_is;
          lists = k.lists;
          sound = record {
            among = k.sound.among;
            map = k.sound.map;
            locks = k.sound.locks;
            pages = record {
              linkable = every-append (IsLinkable l.tree) l.making (page ∷ []) pages.linkable (lacking.linkable, tt);
              once = λ p. one_more p;
              waits = every-map {P = Awaits l.tree l.making} {Q = Awaits l.tree (l.making ++ page ∷ [])} (λ u waits. record { page = waits.page; lacked = waits.lacked; is_made = listed_more waits.page page l.making waits.is_made }) l.lacking pages.waits;
              at_home = pages.at_home;
            };
            reports = k.sound.reports;
          };
          kept = k.kept;
          answers = (k.answers.0, λ p linkable unlinked unmade yet. k.answers.1 p linkable unlinked (listed_cut p page l.making unmade).0 yet);
          told = k.told;
        }) ((counts_within s.sizes v known.session.zones.1, (vio_ok known, (making, k.answers.1 page lacking.linkable lacking.unlinked unmade_yet may_yet, asks_none s t v.request v.place v.tickets known.session.zones.1 ((claim_in known phase.Look is).no_ticket refl), untaken page (k.answers.1 page lacking.linkable lacking.unlinked unmade_yet may_yet)), refl, may_ask (claim_in known phase.Look is))), tt)
      where
        one_more : (p : PageId) → times p (l.making ++ page ∷ []) ≤ 1
        one_more p =
            let once = known.own.sound.pages.once p in
            let more = times_more p page l.making in
            elim (cases_Bool (is_page page p)) [
              | inl same ↦ let none = subst (λ (q : PageId). times q l.making ≡ 0) (page_is page p same) (times_none page l.making unmade_yet) in let one = ap bit same in omega (arith, more, none, one)
              | inr apart ↦ let zero = ap bit apart in omega (arith, more, once, zero)
            ]

  -- Its page is linked.
  module _ (is : v.phase ≡ phase.Settle) (page : PageId) (x : Pbn) (between : LogicalZone) (some : v.page ≡ Some page) (to : v.new ≡ At x) (may : MayLink l.tree page x) (linked : IsLinked page x l between) where
    abbrev made : NewPage
    made = record { request = v.request; page = page; at = x }

    abbrev link : Happening
    link = Sets (Makes made)

    facts : MakesPage s t v page × IsToBlock v.new × HasPageEntry s t (logged v) page × Contains (durable t) (logged v) × Contains (added t) (logged v)
    facts = in_page known phase.Settle page is some

    entry_is : logged v ≡ Makes made
    entry_is = logged_makes v page x some to

    on_path : page ≡ page_above page.level v.at.0
    on_path = (lacked_path s.sizes.geometry.height v.asks v.at v.bytes page facts.0.is_write facts.0.lacked).0

    right_link : RightTrace s (link ∷ t)
    right_link = (
      record {
        is_open = (vio_ok known).is_open;
        is_committed = subst (Contains (durable t)) entry_is facts.3;
        counted = subst (Contains (added t)) entry_is facts.4;
        unlinked = facts.2.unlinked;
        undropped = subst (λ (e : Logged). Contains (dropped t) e → ⊥) entry_is facts.2.undropped;
      },
      shown_plain s t link tt (shown_of s t known.right),
      known.right,
    )

    clears : Clears s n (Mine s t (at.Logical l) (item.Request v ∷ [])) link t
    clears = own_clears known link tt (ap (λ (p : PageId). logical_number (p.tree % s.sizes.zones)) on_path) (own_request known) tt (own_page known page some)

    forest_is : between.tree.forest ≡ l.tree.forest
    forest_is = ap (λ (tree : Tree). tree.forest) linked.links.set

    old_linkable : (p : PageId) → IsLinkable between.tree p → IsLinkable l.tree p
    old_linkable p = same_forest l.tree between.tree p forest_is

    link_now : (p : PageId) → IsLinkable l.tree p → link_at between.tree p ≡ (if is_page page p then Some x else link_at l.tree p)
    link_now p linkable = link_over l.tree between.tree page x least_point p known.own.lists.tree_is.form may.linkable linked.links linkable

    tree_now : IsMapTree s.sizes.geometry l.zone s.sizes.zones s.links (applied (link ∷ t)) between.tree
    tree_now =
        let tree = known.own.lists.tree_is in
        record {
          forest_is = forest_is ∙ tree.forest_is;
          form = linked.links.form;
          linked = λ p linkable. let old = old_linkable p linkable in link_now p old ∙ ap (λ (o : Option Pbn). if is_page page p then Some x else o) (tree.linked p old);
        }

    unmade_now : (p : PageId) → IsLinkable between.tree p → link_at between.tree p ≡ None → is_listed p (but_page page l.making) ≡ false → is_listed p l.unlinkable ≡ false → IsUnmade s t p
    unmade_now p linkable unlinked unmade yet =
        let old = old_linkable p linkable in
        elim (cases_Bool (is_page page p)) [
          | inl same ↦ absurd (let there : None ≡ Some x = rw same at (sym unlinked ∙ link_now p old) in cc)
          | inr apart ↦ known.own.answers.1 p old (rw apart at (sym (link_now p old) ∙ unlinked)) (struck_cut p page l.making apart unmade) yet
        ]

    linked_ok : DataOk s (link ∷ t) n (at.Logical (record l { tree = between.tree; making = but_page page l.making; lacking = [] }))
    linked_ok =
        let k = known.own in
        let struck = struck_ok l.zone l.tree l.making l.lacking page k.sound.pages in
        record {
          number_is = k.number_is;
          lists = record { places_is = k.lists.places_is; next_is = k.lists.next_is; slots_are = k.lists.slots_are; below = λ a zone. below_kept link t a l.next tt (k.lists.below a zone); tree_is = tree_now; reports_are = reports_on s link t l.zone l.reported k.lists.reports_are };
          sound = record {
            among = k.sound.among;
            map = k.sound.map;
            locks = k.sound.locks;
            pages = record {
              linkable = every-map {P = IsLinkable l.tree} {Q = IsLinkable between.tree} (λ p linkable. same_forest between.tree l.tree p (sym forest_is) linkable) (but_page page l.making) struck.linkable;
              once = struck.once;
              waits = tt;
              at_home = tt;
            };
            reports = k.sound.reports;
          };
          kept = let kept = line_kept known link t clears k.kept in (kept.0, tt, kept.2);
          answers = ((λ a zone free alive. quiet_kept link t a tt (k.answers.0 a zone free alive)), unmade_now);
          told = told_kept s link t (at.Logical l) k.told;
        }

    -- its own page is made, and so is each other for which it claimed a block
    own_made : IsMade s t page
    own_made = elim (option_cases (page_in s.links (journaled t) page)) [
      | inl none ↦ absurd (put_there s.sizes.geometry.height s.links (journaled t) made (subst (Contains (journaled t)) entry_is facts.2.handed_in) none)
      | inr some ↦ some_is _ some.0 some.1
    ]

    all_spent : HasSpent s (link ∷ t) v.request None
    all_spent = record { none_taken = facts.0.spent.none_taken; others = λ p other taken. by p (cases_Bool (is_page page p)) taken }
      where
        by : (p : PageId) → (is_page page p ≡ true) ⊎ (is_page page p ≡ false) → has_taken t v.request (Some p) ≡ true → IsMade s t p
        by p (inl same) taken = subst (IsMade s t) (page_is page p same) own_made
        by p (inr apart) taken = facts.0.spent.others p (rw apart refl) taken

    made_post : PostOk s (link ∷ t) (v.home, item.Request (vios.made v))
    made_post =
        let turn = facts.0.turn in (
          own_number (home_is known),
          (
            vio_over s link t v refl (vio_ok known),
            (
              record {
                is_placed = record { for_block = turn.is_placed.for_block; placed = turn.is_placed.placed; not_entered = turn.is_placed.not_entered };
                quiet = quiet_kept link t v.at.0 tt turn.quiet;
                below = below_kept link t v.at.0 v.place tt turn.below;
              },
              all_spent,
            ),
            refl,
            none_left (claim_in known phase.Settle is).claim_is ((claim_in known phase.Settle is).no_ticket refl),
          ),
        )

    pub links_kept : After known (woken between) (link ∷ []) ((v.home, item.Request (vios.made v)) ∷ all_again l.lacking)
    links_kept =
        let again = again_ok s (link ∷ t) l.zone l.lacking known.own.sound.among (line_kept known link t clears known.own.kept).1 known.own.sound.pages.at_home in
        act_one known link clears (λ gives fair. gives (fair_before s link t fair)) right_link
        (subst (λ (z : LogicalZone). DataOk s (link ∷ t) n (at.Logical z)) (sym (ap woken linked.rest)) linked_ok) (made_post, again)

  -- It isn't made any more, with no entry handed in ..
  module _ (is : v.phase ≡ phase.Abort) (page : PageId) (some : v.page ≡ Some page) where
    unmaking : MakesPage s t v page × IsUnmade s t page × MayReply s t v v.answer
    unmaking = in_page known phase.Abort page is some

    unmade_still : (p : PageId) → IsLinkable l.tree p → link_at l.tree p ≡ None → is_listed p (but_page page l.making) ≡ false → is_listed p l.unlinkable ≡ false → IsUnmade s t p
    unmade_still p linkable unlinked unmade yet = elim (cases_Bool (is_page page p)) [
      | inl same ↦ subst (IsUnmade s t) (page_is page p same) unmaking.1
      | inr apart ↦ known.own.answers.1 p linkable unlinked (struck_cut p page l.making apart unmade) yet
    ]

    unmade_ok : DataOk s t n (at.Logical (woken (unmade page l)))
    unmade_ok =
        let k = known.own in
        record {
          number_is = k.number_is;
          lists = k.lists;
          sound = record { among = k.sound.among; map = k.sound.map; locks = k.sound.locks; pages = struck_ok l.zone l.tree l.making l.lacking page k.sound.pages; reports = k.sound.reports };
          kept = (k.kept.0, tt, k.kept.2);
          answers = (k.answers.0, unmade_still);
          told = k.told;
        }

    pub unmakes_kept : After known (woken (unmade page (released v.at.0 l))) [] ((id.Desk, item.Request (gives_up v)) ∷ (granted v.at.0 l ++ all_again l.lacking))
    unmakes_kept =
        let turn = unmaking.0.turn in
        let both = release_ok s t n (woken (unmade page l)) known.session known.right unmade_ok v (leased known phase.Abort is refl) (home known) turn.quiet (below_more t v.at.0 v.place (v.place + 1) (omega arith) turn.below) in
        act_none known (subst (λ (z : LogicalZone). DataOk s t n (at.Logical z)) (sym (release_after page v.at.0 l)) both.0)
        ((omega arith, (vio_ok known, unmaking.2, refl, none_left (claim_in known phase.Abort is).claim_is ((claim_in known phase.Abort is).no_ticket refl))), every-append (PostOk s t) (granted v.at.0 l) (all_again l.lacking) both.1 (again_ok s t l.zone l.lacking known.own.sound.among known.own.kept.1 known.own.sound.pages.at_home))

  -- .. or with its entry handed in: it is never linked.
  module _ (is : v.phase ≡ phase.AbortEntered) (page : PageId) (x : Pbn) (some : v.page ≡ Some page) (to : v.new ≡ At x) where
    abbrev drop : Happening
    drop = Aborts (Makes (record { request = v.request; page = page; at = x }))

    dropping : MakesPage s t v page × IsToBlock v.new × HasPageEntry s t (logged v) page × MayReply s t v v.answer × (has_stopped t ≡ true)
    dropping = in_page known phase.AbortEntered page is some

    right_drop : RightTrace s (drop ∷ t)
    right_drop = (
      record { is_open = (vio_ok known).is_open; handed_in = subst (Contains (journaled t)) (logged_makes v page x some to) dropping.2.handed_in; unlinked = dropping.2.unlinked; stopped = dropping.4 },
      shown_plain s t drop tt (shown_of s t known.right),
      known.right,
    )

    clears_drop : Clears s n (Mine s t (at.Logical l) (item.Request v ∷ [])) drop t
    clears_drop =
        let path = lacked_path s.sizes.geometry.height v.asks v.at v.bytes page dropping.0.is_write dropping.0.lacked in
        own_clears known drop tt (ap (λ (p : PageId). logical_number (p.tree % s.sizes.zones)) path.0) (own_request known) tt (own_page known page some)

    unmade_but : (p : PageId) → IsLinkable l.tree p → link_at l.tree p ≡ None → is_listed p (but_page page l.making) ≡ false → is_listed p (l.unlinkable ++ page ∷ []) ≡ false → IsUnmade s t p
    unmade_but p linkable unlinked unmade yet =
        let cut = listed_cut p page l.unlinkable yet in
        known.own.answers.1 p linkable unlinked (struck_cut p page l.making cut.1 unmade) cut.0

    dropped_ok : DataOk s (drop ∷ t) n (at.Logical (woken (logical.dropped page l)))
    dropped_ok =
        let k = known.own in
        record {
          number_is = k.number_is;
          lists = record { places_is = k.lists.places_is; next_is = k.lists.next_is; slots_are = k.lists.slots_are; below = λ a zone. below_kept drop t a l.next tt (k.lists.below a zone); tree_is = k.lists.tree_is; reports_are = reports_on s drop t l.zone l.reported k.lists.reports_are };
          sound = record { among = k.sound.among; map = k.sound.map; locks = k.sound.locks; pages = struck_ok l.zone l.tree l.making l.lacking page k.sound.pages; reports = k.sound.reports };
          kept = let kept = line_kept known drop t clears_drop k.kept in (kept.0, tt, kept.2);
          answers = ((λ a zone free alive. quiet_kept drop t a tt (k.answers.0 a zone free alive)), unmade_but);
          told = ((told_kept s drop t (at.Logical l) k.told).0, λ any. dropping.4);
        }

    pub drops_kept : After known (woken (logical.dropped page (released v.at.0 l))) (drop ∷ []) ((id.Desk, item.Request (gives_up v)) ∷ (granted v.at.0 l ++ all_again l.lacking))
    drops_kept =
        let turn = dropping.0.turn in
        let both = release_ok s (drop ∷ t) n (woken (logical.dropped page l)) known.session right_drop dropped_ok v (leased known phase.AbortEntered is refl) (home known)
        (quiet_kept drop t v.at.0 tt turn.quiet) (below_more (drop ∷ t) v.at.0 v.place (v.place + 1) (omega arith) (below_kept drop t v.at.0 v.place tt turn.below)) in
        let again = again_ok s (drop ∷ t) l.zone l.lacking known.own.sound.among (line_kept known drop t clears_drop known.own.kept).1 known.own.sound.pages.at_home in
        act_one known drop clears_drop (λ gives fair. gives (fair_before s drop t fair)) right_drop
        (subst (λ (z : LogicalZone). DataOk s (drop ∷ t) n (at.Logical z)) (sym (release_dropped page v.at.0 l)) both.0) (
          (omega arith, (vio_over s drop t v refl (vio_ok known), reply_said s drop t v v.answer (record { of_place = refl; of_entry = refl; of_slot = refl; of_gift = refl; of_take = refl; of_ask = refl }) dropping.3, refl, none_left (claim_in known phase.AbortEntered is).claim_is ((claim_in known phase.AbortEntered is).no_ticket refl))),
          every-append (PostOk s (drop ∷ t)) (granted v.at.0 l) (all_again l.lacking) both.1 again,
        )
