-- Which happening may follow that is about tickets: for each one a trace that it may follow, and for each of its conditions one that breaks it.
use Rattle.std.proofs.Common.{Option, None, ℕ, ◌≡◌, ◌+◌, [], ◌∷◌, Some, refl, ap, sym, subst, inl, inr, arith, replicate}
use Rattle.std.proofs.lemmas.Bool.Decides.{eqb_tells}
use Rattle.std.proofs.lemmas.Option.{same_Some}
use Rattle.blk_base.specs.Regions.{IsDataBlock, first_slab_of, slab_stride_of}
use Rattle.blk_base.specs.declared.request.Answer.TheVariants.{Stopped}
use Rattle.vdo_model.specs.declared.report.DeskLine.TheVariants.{Answer}
use Rattle.blk_base.specs.declared.place.Pbn.{Pbn}
use Rattle.core_model.specs.RightTraces.{MayFollow, NeedsFor, PassesOn}
use Rattle.core_model.specs.PageLinks.{MayLack}
use Rattle.blk_base.specs.declared.place.PageId.{PageId}
use Rattle.blk_base.specs.declared.request.Request.{Request}
use Rattle.blk_base.specs.declared.request.Request.TheVariants as request
use Rattle.blk_base.proofs.PageIdLaws.{same_block}
use Rattle.blk_base.specs.Forms.{lba as address, pbn as block}
use Rattle.core_model.specs.Sessions.{Session}
use Rattle.core_model.specs.Uses.{Waits}
use Rattle.core_model.specs.Trace.{Says, Takes, Asks as AsksIn, Withdraws, Drops, Removes, Trace}
use Rattle.model_rows.proofs.sessions.TicketTraces.{crowded, each_is_mapped, half_full, has_asked, none_is_free, none_of_first, one_asked, one_has, ticket, two, two_asked}
use Rattle.core_model.proofs.WorkedTraces.{first, reader, second, session, other, begun, drawn, took, two_not_zeros, of_second, y}
use Rattle.model_rows.proofs.sessions.FollowRows.{May, both, roomy}

-- One that has its place asks a physical zone in which no data block is free, and is given the next ticket there.
asks_where_none_is_free : MayFollow crowded (AsksIn second (ticket 0 0)) drawn
asks_where_none_is_free = record {
  is_open = record { is_begun = omega arith; unanswered = refl };
  placed = refl;
  page = None;
  asked = (address 0, y, refl, record { not_zeros = two_not_zeros; none_taken = refl });
  inside = omega arith;
  number = refl;
  none_free = λ x is_data here free. none_is_free crowded drawn each_is_mapped refl refl x is_data free;
}

asks_behind_another : MayFollow crowded (AsksIn other (ticket 0 1)) (one_asked drawn)
asks_behind_another = record {
  is_open = record { is_begun = omega arith; unanswered = refl };
  placed = refl;
  page = None;
  asked = (address 812, y, refl, record { not_zeros = two_not_zeros; none_taken = refl });
  inside = omega arith;
  number = refl;
  none_free = λ x is_data here free. none_is_free crowded (one_asked drawn) each_is_mapped refl refl x is_data free;
}

asks_one_zone_of_two : MayFollow half_full (AsksIn other (ticket 0 1)) (one_asked drawn)
asks_one_zone_of_two = record {
  is_open = record { is_begun = omega arith; unanswered = refl };
  placed = refl;
  page = None;
  asked = (address 812, y, refl, record { not_zeros = two_not_zeros; none_taken = refl });
  inside = omega arith;
  number = refl;
  none_free = none_of_first (one_asked drawn) refl refl;
}

asks_while_open : MayFollow crowded (AsksIn second (ticket 0 0)) (Says (Answer second Stopped) ∷ drawn) → ⊥
asks_while_open may = let no = may.is_open.unanswered in absurd cc

asks_with_its_place : MayFollow crowded (AsksIn second (ticket 0 0)) begun → ⊥
asks_with_its_place may = let no = may.placed in absurd cc

-- a block that it needs: no read asks, nor a write that took its block
asks_as_a_write : MayFollow crowded (AsksIn reader (ticket 0 0)) drawn → ⊥
asks_as_a_write may = by may.page may.asked
  where
    by : (page : Option PageId) → NeedsFor crowded drawn reader page → ⊥
    by None needs = let asked = needs.2 in absurd cc
    by (Some page) needs =
        let asked : request.Read (address 0) ≡ needs.lacked.0 = same_Some _ _ needs.lacked.1 in
        let lacked = subst (λ (r : Request). MayLack 2 r page) (sym asked) needs.lacked.2 in lacked

asks_for_one_block : NeedsFor session took first None → ⊥
asks_for_one_block needs = let no = needs.3.none_taken in absurd cc

asks_a_zone_that_is_there : MayFollow crowded (AsksIn second (ticket 1 0)) drawn → ⊥
asks_a_zone_that_is_there may = omega (arith, may.inside)

asks_for_the_next_ticket : MayFollow crowded (AsksIn other (ticket 0 2)) (one_asked drawn) → ⊥
asks_for_the_next_ticket may = omega (arith, may.number)

asks_for_no_ticket_twice : MayFollow crowded (AsksIn other (ticket 0 0)) (Withdraws second (ticket 0 0) None ∷ one_asked drawn) → ⊥
asks_for_no_ticket_twice may = omega (arith, may.number)

asks_where_one_is_free : MayFollow half_full (AsksIn second (ticket 1 0)) drawn → ⊥
asks_where_one_is_free may = may.none_free (block (first_slab_of two.geometry + slab_stride_of two.geometry)) (record { slab = 1; offset = 0; inside = (omega arith, omega arith); stands = refl }) refl refl

asks_while_one_is_free : May (AsksIn second (ticket 0 0)) drawn → ⊥
asks_while_one_is_free may = may.none_free (block 90) (record { slab = 0; offset = 10; inside = (omega arith, omega arith); stands = refl }) refl refl

-- Whoever was given a ticket withdraws it once, with what went to it.
withdraws : May (Withdraws second (ticket 0 0) None) (one_asked took)
withdraws = record { is_open = record { is_begun = omega arith; unanswered = refl }; asked = (0, omega arith, refl); out = refl }

withdraws_the_next : May (Withdraws other (ticket 0 1) None) (one_has (two_asked took))
withdraws_the_next = record { is_open = record { is_begun = omega arith; unanswered = refl }; asked = (1, omega arith, refl); out = refl }

withdraws_its_block : May (Withdraws second (ticket 0 0) (Some (block 85))) (one_has (one_asked took))
withdraws_its_block = record { is_open = record { is_begun = omega arith; unanswered = refl }; asked = (1, omega arith, refl); out = refl }

withdraws_while_open : May (Withdraws second (ticket 0 0) None) (Says (Answer second Stopped) ∷ one_asked took) → ⊥
withdraws_while_open may = let no = may.is_open.unanswered in absurd cc

withdraws_its_own : May (Withdraws other (ticket 0 0) None) (one_asked took) → ⊥
withdraws_its_own may = let found = has_asked other 0 (one_asked took) (ticket 0 0) refl may.asked in omega (arith, found)

withdraws_once : May (Withdraws second (ticket 0 0) None) (Withdraws second (ticket 0 0) None ∷ one_asked took) → ⊥
withdraws_once may = let no = may.out in absurd cc

withdraws_no_other_block : May (Withdraws second (ticket 0 0) (Some (block 86))) (one_has (one_asked took)) → ⊥
withdraws_no_other_block may = let same : 85 ≡ 86 = ap (λ (b : Pbn). b.0) (same_Some _ _ (same_Some _ _ may.out)) in absurd (omega (arith, same))

withdraws_no_block_of_none : May (Withdraws second (ticket 0 0) (Some (block 85))) (one_asked took) → ⊥
withdraws_no_block_of_none may = let no = may.out in absurd cc

withdraws_what_went_to_it : May (Withdraws second (ticket 0 0) None) (one_has (one_asked took)) → ⊥
withdraws_what_went_to_it may = let no = may.out in absurd cc

-- A block that becomes free goes to the oldest ticket of its zone that waits.
at_85 : IsDataBlock roomy.sizes.geometry 85
at_85 = record { slab = 0; offset = 5; inside = (omega arith, omega arith); stands = refl }

abbrev first_drops : Trace → Option ℕ → Type 0
first_drops t to = May (Drops first (block 85) to) t

drops_to_the_oldest : first_drops (two_asked took) (Some 0)
drops_to_the_oldest = (
  record { is_begun = omega arith; unanswered = refl },
  record { is_data = at_85; some = omega arith; passes = (refl, refl, λ number below. absurd (omega (arith, below))) },
)

drops_to_the_newest : first_drops (two_asked took) (Some 1) → ⊥
drops_to_the_newest may = may.1.passes.2 0 (omega arith) refl

drops_past_who_waits : first_drops (one_asked took) None → ⊥
drops_past_who_waits may = may.1.passes refl 0 refl

drops_to_no_ticket : first_drops (one_asked took) (Some 7) → ⊥
drops_to_no_ticket may = let no = may.1.passes.1 in absurd cc

drops_to_a_withdrawn_one : first_drops (Withdraws second (ticket 0 0) None ∷ one_asked took) (Some 0) → ⊥
drops_to_a_withdrawn_one may = let no = may.1.passes.1 in absurd cc

-- so the next one gets the next block, and none has more than one
abbrev both_claimed : Trace
both_claimed = Takes other None (block 86) ∷ took

drops_to_the_next : May (Drops other (block 86) (Some 1)) (one_has (two_asked both_claimed))
drops_to_the_next = (
  record { is_begun = omega arith; unanswered = refl },
  record {
    is_data = record { slab = 0; offset = 6; inside = (omega arith, omega arith); stands = refl };
    some = omega arith;
    passes = (
      refl,
      refl,
      λ number below waits.
          let has = subst (λ (n : ℕ). Waits roomy.sizes (one_has (two_asked both_claimed)) 0 n) (let is : number ≡ 0 = omega (arith, below) in is) waits in
          absurd cc,
    );
  },
)

drops_to_who_has_one : May (Drops other (block 86) (Some 0)) (one_has (one_asked both_claimed)) → ⊥
drops_to_who_has_one may = let no = may.1.passes.1 in absurd cc

drops_where_each_has_one : May (Drops other (block 86) None) (one_has (one_asked both_claimed))
drops_where_each_has_one = (
  record { is_begun = omega arith; unanswered = refl },
  record {
    is_data = record { slab = 0; offset = 6; inside = (omega arith, omega arith); stands = refl };
    some = omega arith;
    passes = λ free number waits. none_waits number waits;
  },
)
  where
    none_waits : (number : ℕ) → Waits roomy.sizes (one_has (one_asked both_claimed)) 0 number → ⊥
    none_waits number waits = elim (eqb_tells 0 number) [ inl same ↦ let has = rw same.0 at waits in absurd cc | inr differs ↦ let none = rw differs.0 at waits in absurd cc ]

-- one that doesn't become free goes to none: here it is mapped too
drops_one_use_of_two : MayFollow (record roomy { counters = replicate 64 1 }) (Drops first (block 85) None) (one_asked took)
drops_one_use_of_two = (
  record { is_begun = omega arith; unanswered = refl },
  record { is_data = at_85; some = omega arith; passes = λ free number waits. omega (arith, free) },
)

drops_to_a_ticket_once_it_is_free : MayFollow (record roomy { counters = replicate 64 1 }) (Drops first (block 85) (Some 0)) (one_asked took) → ⊥
drops_to_a_ticket_once_it_is_free may = omega (arith, may.1.passes.0)

-- and one goes to no ticket of another zone
abbrev of_two_zones : Session
of_two_zones = record roomy { sizes = record roomy.sizes { physical = 2 } }

drops_past_another_zone : MayFollow of_two_zones (Drops first (block 85) None) (AsksIn second (ticket 1 0) ∷ took)
drops_past_another_zone = (
  record { is_begun = omega arith; unanswered = refl },
  record { is_data = at_85; some = omega arith; passes = λ free number waits. absurd cc },
)

drops_into_another_zone : MayFollow of_two_zones (Drops first (block 85) (Some 0)) (AsksIn second (ticket 1 0) ∷ took) → ⊥
drops_into_another_zone may = let no = may.1.passes.1 in absurd cc

-- What becomes free by a decrement goes to a ticket too.
removes_to_the_oldest : May (Removes of_second (Some 0)) (two_asked both)
removes_to_the_oldest = record {
  next = record { zone = 0; own = refl; rest = []; next = refl };
  block = block 85;
  old_is = refl;
  loss = record { is_data = at_85; some = omega arith; passes = (refl, refl, λ number below. absurd (omega (arith, below))) };
}

removes_to_the_newest : May (Removes of_second (Some 1)) (two_asked both) → ⊥
removes_to_the_newest may =
    let passes = subst (λ (b : Pbn). PassesOn roomy b (Some 1) (two_asked both)) (sym (same_block (block 85) may.block may.old_is)) may.loss.passes in
    passes.2 0 (omega arith) refl

removes_past_who_waits : May (Removes of_second None) (one_asked both) → ⊥
removes_past_who_waits may =
    let passes = subst (λ (b : Pbn). PassesOn roomy b None (one_asked both)) (sym (same_block (block 85) may.block may.old_is)) may.loss.passes in
    passes refl 0 refl
