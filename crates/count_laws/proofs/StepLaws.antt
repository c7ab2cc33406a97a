-- What one entry that comes in turn does to the map and to the number of a block's mappings.
use Rattle.std.proofs.Common.{ℕ, ◌≡◌, ◌≢◌, ◌⊎◌, ◌+◌, ◌-◌, ◌%◌, ◌<◌, ◌≤◌, ◌==◌, Bool, true, false, List, [], ◌∷◌, ◌++◌, Some, None, Result, Ok, refl, sym, ◌∙◌, ap, subst, inl, inr, arith}
use Rattle.std.proofs.lemmas.Bool.{cases_Bool}
use Rattle.std.proofs.lemmas.Bool.Decides.{eqb_tells}
use Rattle.blk_base.specs.Counters.{limit_of}
use Rattle.blk_base.specs.declared.journal_entry.CommittedEntry.{CommittedEntry}
use Rattle.blk_base.specs.declared.journal_entry.Entry.{Entry}
use Rattle.blk_base.specs.declared.journal_entry.Entry.TheVariants.{Remap, NewPage}
use Rattle.blk_base.specs.declared.place.Lba.{Lba}
use Rattle.blk_base.specs.declared.place.Mapping.{Mapping}
use Rattle.blk_base.specs.declared.place.Mapping.TheVariants.{At}
use Rattle.blk_base.specs.declared.place.PageId.{PageId}
use Rattle.blk_base.specs.declared.place.Pbn.{Pbn}
use Rattle.blk_base.specs.declared.point.Point.{Point}
use Rattle.blk_base.specs.Pages.{above, leaf_of}
use Rattle.image_model.specs.Counts.{count_after, leads_to, mapped_below}
use Rattle.image_model.specs.Maps.{Image}
use Rattle.image_model.specs.Pages.{address_count, is_page}
use Rattle.journal_stops.specs.Mapped.{AreRooted, mapping_after, newest_for, newest_page, page_after, page_of}
use Rattle.journal_stops.proofs.GrowLaws.{mapping_new, page_new, page_stays}
use Rattle.journal_stops.proofs.NewestLaws.{page_equal}
use Rattle.journal_stops.proofs.OpenedLaws.{rooted_old, rooted_old_page}
use Rattle.plain_laws.specs.Sums.{bit}
use Rattle.count_laws.specs.Points.{adds_to, one_if, points_by, takes_from}
use Rattle.count_laws.specs.Turns.{AreInTurn, ComesInTurn, HasMappingsAfter, IsLinkedAfter, IsPageAfter, MayLeadTo}
use Rattle.count_laws.proofs.BelowLaws.{block_of_eq, counts_none, counts_one, eq_is, leads_is, one_place, same_up_to}
use Rattle.count_laws.proofs.PointLaws.{count_adds, count_takes}

-- Entries in turn are for pages that are linked by then.

turn_linked : (opened : Image) (older : List CommittedEntry) (entry : Entry) → ComesInTurn opened older entry → IsLinkedAfter opened older (page_of entry)
turn_linked opened older (Remap at old new) turn = turn.1
turn_linked opened older (NewPage page at) turn = turn.1

pub in_turn_rooted : (opened : Image) (entries : List CommittedEntry) → AreInTurn opened entries → AreRooted opened entries
in_turn_rooted opened [] turns = tt
in_turn_rooted opened (c ∷ older) turns = (turn_linked opened older c.entry turns.0, in_turn_rooted opened older turns.1)

itself : (p : PageId) → is_page p p ≡ true
itself p = rw (eq_is p.tree p.tree refl, eq_is p.level p.level refl, eq_is p.index p.index refl) refl

-- a tree page of a list of entries is one of another where each of its pages is
pub number_of_pages : (P Q : Type 0) (n : ℕ) → (P → Q) → (Q → P) → ((n ≡ 1) × P) ⊎ ((n ≡ 0) × (P → ⊥)) → ((n ≡ 1) × Q) ⊎ ((n ≡ 0) × (Q → ⊥))
number_of_pages P Q n to from (inl one) = inl (one.0, to one.1)
number_of_pages P Q n to from (inr none) = inr (none.0, λ (q : Q). none.1 (from q))

-- what a step of the count comes to
pub record CountStep (opened : Image) (older : List CommittedEntry) (entry : Entry) (point : Point) (block : Pbn) (count : ℕ) : Type 0 where
  pub now : ℕ
  pub sum : now + bit (takes_from entry block) ≡ count + bit (adds_to entry block)
  pub room : adds_to entry block ≡ true → count < limit_of opened.geometry
  pub some : takes_from entry block ≡ true → 1 ≤ count
  pub has : HasMappingsAfter opened (record { entry = entry; point = point } ∷ older) block now

module _ (opened : Image) (older : List CommittedEntry) (rooted : AreRooted opened older) (point : Point) where
  abbrev with_entry : Entry → List CommittedEntry
  with_entry entry = record { entry = entry; point = point } ∷ older

  abbrev alone : Entry → List CommittedEntry
  alone entry = record { entry = entry; point = point } ∷ []

  -- A remapping changes its address alone, and no page.

  module _ (at : Lba) (old new : Mapping) (turn : ComesInTurn opened older (Remap at old new)) where
    abbrev remap : Entry
    remap = Remap at old new

    pub remap_page : (page : PageId) → page_after opened (with_entry remap) page ≡ page_after opened older page
    remap_page page = rooted_old_page opened (alone remap) older page rooted refl

    none_for : (a : ℕ) → a ≢ at.0 → newest_for (alone remap) a ≡ None
    none_for a apart = elim (eqb_tells at.0 a) [ inl same ↦ absurd (apart (sym same.1)) | inr other ↦ rw other.0 refl ]

    pub remap_other : (a : ℕ) → a ≢ at.0 → mapping_after opened (with_entry remap) a ≡ mapping_after opened older a
    remap_other a apart = rooted_old opened (alone remap) older a rooted (none_for a apart)

    newest_here : newest_for (alone remap) at.0 ≡ Some new
    newest_here = elim (eqb_tells at.0 at.0) [ inl same ↦ rw same.0 refl | inr other ↦ absurd (other.1 refl) ]

    pub remap_here : mapping_after opened (with_entry remap) at.0 ≡ new
    remap_here =
        let leaf = turn.1 in
        mapping_new opened (alone remap) older at.0 leaf.0 new (remap_page (leaf_of at.0) ∙ leaf.1) newest_here

    remap_trees : (block : Pbn) → IsPageAfter opened older block → IsPageAfter opened (with_entry remap) block
    remap_trees block (page, below, there) = (page, below, remap_page page ∙ there)

    pub remap_trees_back : (block : Pbn) → IsPageAfter opened (with_entry remap) block → IsPageAfter opened older block
    remap_trees_back block (page, below, there) = (page, below, sym (remap_page page) ∙ there)

    may_lead : (block : Pbn) (count : ℕ) → leads_to block new ≡ true → HasMappingsAfter opened older block count → count < limit_of opened.geometry
    may_lead block count leads has =
        let may : MayLeadTo opened older (At block) = subst (MayLeadTo opened older) (leads_is block new leads) turn.3 in
        may.2 count has

    pub remap_step : (block : Pbn) (count : ℕ) → opened.geometry.logical ≤ address_count opened.geometry → HasMappingsAfter opened older block count
        → CountStep opened older remap point block count
    remap_step block count fits has =
        let bound : ℕ = address_count opened.geometry in
        let was : ℕ = mapped_below (mapping_after opened older) block bound in
        let now : ℕ = mapped_below (mapping_after opened (with_entry remap)) block bound in
        let at_in : at.0 < bound = (let inside = turn.0 in omega (arith, inside, fits)) in
        let place = one_place (mapping_after opened older) (mapping_after opened (with_entry remap)) block at.0 bound at_in remap_other in
        let old_is : bit (leads_to block (mapping_after opened older at.0)) ≡ bit (leads_to block old) = ap (λ (m : Mapping). bit (leads_to block m)) (sym turn.2) in
        let new_is : bit (leads_to block (mapping_after opened (with_entry remap) at.0)) ≡ bit (leads_to block new) = ap (λ (m : Mapping). bit (leads_to block m)) remap_here in
        let one = counts_one (mapping_after opened older) block at.0 bound at_in in
        let sum = has.sum in
        record {
          now = now + has.pages;
          sum = omega (arith, place, old_is, new_is, sum);
          room = λ leads. may_lead block count leads has;
          some = λ leads. let is : bit (leads_to block old) ≡ 1 = ap (λ (b : Bool). bit b) leads in omega (arith, is, one, old_is, sum);
          has = record {
            pages = has.pages;
            one_page = number_of_pages (IsPageAfter opened older block) (IsPageAfter opened (with_entry remap) block) has.pages (remap_trees block) (remap_trees_back block) has.one_page;
            sum = refl;
          };
        }

  -- A new page is one page more, and changes no mapping.

  module _ (made : PageId) (at : Pbn) (turn : ComesInTurn opened older (NewPage made at)) where
    abbrev new_page : Entry
    new_page = NewPage made at

    pub new_mapping : (a : ℕ) → mapping_after opened (with_entry new_page) a ≡ mapping_after opened older a
    new_mapping a = rooted_old opened (alone new_page) older a rooted refl

    pub new_other : (page : PageId) → is_page page made ≡ false → page_after opened (with_entry new_page) page ≡ page_after opened older page
    new_other page apart = rooted_old_page opened (alone new_page) older page rooted none
      where
        none : newest_page (alone new_page) page ≡ None
        none = rw apart refl

    pub new_there : page_after opened (with_entry new_page) made ≡ Some at
    new_there =
        let up = turn.1 in
        let is : is_page made made ≡ true = itself made in
        let newest : newest_page (alone new_page) made ≡ Some (At at) = rw is refl in
        let linked = page_stays opened (alone new_page) older (above made) up.0 up.1 in
        page_new opened (alone new_page) older made linked.0 at turn.0.level linked.1 newest

    apart_from : (page : PageId) (x : Pbn) → page_after opened older page ≡ Some x → is_page page made ≡ false
    apart_from page x there = elim (cases_Bool (is_page page made)) [
      | inl same ↦
          let gone : page_after opened older page ≡ None = subst (λ (p : PageId). page_after opened older p ≡ None) (sym (page_equal page made same)) turn.2 in
          absurd (cc (gone, there))
      | inr other ↦ other
    ]

    pub new_trees : (block : Pbn) → IsPageAfter opened older block → IsPageAfter opened (with_entry new_page) block
    new_trees block (page, below, there) = (page, below, new_other page (apart_from page block there) ∙ there)

    same_block : (x y : Pbn) → Some x ≡ Some y → x ≡ y
    same_block x y is = cc is

    pub new_trees_back : (block : Pbn) → IsPageAfter opened (with_entry new_page) block → (block ≡ at) ⊎ IsPageAfter opened older block
    new_trees_back block (page, below, there) = elim (cases_Bool (is_page page made)) [
      | inl same ↦
          let here : page_after opened (with_entry new_page) made ≡ Some block =
          subst (λ (p : PageId). page_after opened (with_entry new_page) p ≡ Some block) (page_equal page made same) there in
          inl (same_block block at (sym here ∙ new_there))
      | inr other ↦ inr (page, below, sym (new_other page other) ∙ there)
    ]

    pub new_tree : IsPageAfter opened (with_entry new_page) at
    new_tree = (made, turn.0.level, new_there)

    new_sum : (block : Pbn) → mapped_below (mapping_after opened (with_entry new_page)) block (address_count opened.geometry)
        ≡ mapped_below (mapping_after opened older) block (address_count opened.geometry)
    new_sum block = same_up_to (mapping_after opened older) (mapping_after opened (with_entry new_page)) block (address_count opened.geometry) (λ a below. new_mapping a)

    no_page_at : (n : ℕ) → ((n ≡ 1) × IsPageAfter opened older at) ⊎ ((n ≡ 0) × (IsPageAfter opened older at → ⊥)) → n ≡ 0
    no_page_at n (inl one) = absurd (turn.4.no_page one.1)
    no_page_at n (inr none) = none.0

    unused_none : (count : ℕ) → HasMappingsAfter opened older at count → count ≡ 0
    unused_none count has =
        let none = counts_none (mapping_after opened older) at (address_count opened.geometry) turn.4.unmapped in
        let pages = no_page_at has.pages has.one_page in
        let sum = has.sum in
        omega (arith, none, pages, sum)

    step_there : (count : ℕ) → HasMappingsAfter opened older at count → CountStep opened older new_page point at count
    step_there count has =
        let none = unused_none count has in
        let is : (at.0 == at.0) ≡ true = eq_is at.0 at.0 refl in
        let sums = new_sum at in
        let was = counts_none (mapping_after opened older) at (address_count opened.geometry) turn.4.unmapped in
        record {
          now = 1;
          sum = rw is (omega (arith, none));
          room = λ leads. omega (arith, none);
          some = λ leads. absurd (cc leads);
          has = record {
            pages = 1;
            one_page = inl (refl, new_tree);
            sum = omega (arith, sums, was);
          };
        }

    pub new_step : (block : Pbn) (count : ℕ) → HasMappingsAfter opened older block count → CountStep opened older new_page point block count
    new_step block count has = elim (eqb_tells at.0 block.0) [
      | inl same ↦
          let is = block_of_eq at block same.1 in
          subst (λ (x : Pbn). CountStep opened older new_page point x count) is
          (step_there count (subst (λ (x : Pbn). HasMappingsAfter opened older x count) (sym is) has))
      | inr other ↦
          let sums = new_sum block in
          let sum = has.sum in
          record {
            now = count;
            sum = rw other.0 (omega arith);
            room = λ leads. absurd (let is = other.0 in cc (leads, is));
            some = λ leads. absurd (cc leads);
            has = record {
              pages = has.pages;
              one_page = number_of_pages (IsPageAfter opened older block) (IsPageAfter opened (with_entry new_page) block) has.pages (new_trees block)
                  (λ there. elim (new_trees_back block there) [
                    | inl is ↦ absurd (other.1 (ap (λ (x : Pbn). x.0) (sym is)))
                    | inr before ↦ before
                  ]) has.one_page;
              sum = omega (arith, sums, sum);
            };
          }
    ]

-- Each entry.

pub turn_step : (opened : Image) (older : List CommittedEntry) (entry : Entry) (point : Point) (block : Pbn) (count : ℕ) → AreRooted opened older
    → opened.geometry.logical ≤ address_count opened.geometry → ComesInTurn opened older entry → HasMappingsAfter opened older block count
    → CountStep opened older entry point block count
turn_step opened older (Remap at old new) point block count rooted fits turn has = remap_step opened older rooted point at old new turn block count fits has
turn_step opened older (NewPage made at) point block count rooted fits turn has = new_step opened older rooted point made at turn block count has

-- The running count of one entry.

by_points : (limit count now p : ℕ) (adds takes : Bool) → p % 2 ≡ 0 → now + bit takes ≡ count + bit adds → (adds ≡ true → count < limit) → (takes ≡ true → 1 ≤ count)
    → count_after limit count (one_if adds p ++ one_if takes (p + 1)) ≡ Ok now
by_points limit count now p true true even sum room some =
    let less = room refl in
    let same : count + 1 - 1 ≡ now = omega (arith, sum) in
    count_adds limit count p ((p + 1) ∷ []) even less ∙ count_takes limit (count + 1) (p + 1) [] (omega (arith, even)) (omega arith)
    ∙ ap (λ (n : ℕ). let it : Result ℕ ℕ = Ok n in it) same
by_points limit count now p true false even sum room some =
    let less = room refl in
    let same : count + 1 ≡ now = omega (arith, sum) in
    count_adds limit count p [] even less ∙ ap (λ (n : ℕ). let it : Result ℕ ℕ = Ok n in it) same
by_points limit count now p false true even sum room some =
    let more = some refl in
    let same : count - 1 ≡ now = omega (arith, sum, more) in
    count_takes limit count (p + 1) [] (omega (arith, even)) more ∙ ap (λ (n : ℕ). let it : Result ℕ ℕ = Ok n in it) same
by_points limit count now p false false even sum room some =
    let same : count ≡ now = omega (arith, sum) in
    ap (λ (n : ℕ). let it : Result ℕ ℕ = Ok n in it) same

pub step_counts : (opened : Image) (older : List CommittedEntry) (entry : Entry) (point : Point) (block : Pbn) (count : ℕ) (s : CountStep opened older entry point block count)
    → point.0 % 2 ≡ 0 → count_after (limit_of opened.geometry) count (points_by entry point.0 block) ≡ Ok s.now
step_counts opened older entry point block count s even =
    by_points (limit_of opened.geometry) count s.now point.0 (adds_to entry block) (takes_from entry block) even s.sum s.room s.some
