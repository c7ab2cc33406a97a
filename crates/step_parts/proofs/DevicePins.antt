-- Rows that pin what a step leaves of the device (`HasCalled`): for each clause some that it accepts, and some that break it
-- alone.
use Rattle.std.proofs.Common.{ℕ, ◌≡◌, ◌≢◌, ◌-◌, ◌^◌, true, false, None, List, [], ◌∷◌, length, refl, ap, inl, inr, arith}
use Rattle.blk_base.specs.declared.request.Writer.{Writer}
use Rattle.blk_base.specs.Sectors.{sector}
use Rattle.disk_model.specs.declared.call.Call.{Call}
use Rattle.disk_model.specs.declared.call.Call.TheVariants.{Flush, Read}
use Rattle.disk_model.specs.Seen.{Seen}
use Rattle.disk_model.specs.Trust.{trust_of}
use Rattle.core_model.specs.Trace.{Trace, Calls, Fails, Harms, Takes}
use Rattle.page_codec.specs.declared.fault.PageFault.TheVariants.{Header}
use Rattle.step_parts.specs.DeviceLog.{failed_calls, lost_calls, has_calls, RoseBy, HasCalled}

abbrev seen : List Call → ℕ → ℕ → Seen
seen log faults unkept = record { opening = []; size = 0; log = log; faults = faults; unkept = unkept }

-- RoseBy: by as many or more, or up to the last value of the type
rose_by-more : RoseBy 2 3 6
rose_by-more = omega arith

rose_by-not_fewer : RoseBy 2 3 4 → ⊥
rose_by-not_fewer rose = omega (arith, rose)

rose_by-to_the_last : RoseBy 2 (2 ^ 64 - 2) (2 ^ 64 - 1)
rose_by-to_the_last = omega arith

rose_by-not_below_the_last : RoseBy 2 (2 ^ 64 - 2) (2 ^ 64 - 2) → ⊥
rose_by-not_below_the_last rose = omega (arith, rose)

module _ (w : Writer) where
  -- failed_calls, lost_calls: of these three two failed, and one of them isn't in the log
  abbrev three : Trace
  three = Fails w (Flush false) true ∷ Calls (Flush true) ∷ Fails w (Flush false) false ∷ []

  two_failed : failed_calls three ≡ 2
  two_failed = refl

  one_lost : lost_calls three ≡ 1
  one_lost = refl

  -- log: it has the calls, and no other; of a device that doesn't tell it says nothing
  called : HasCalled (trust_of true true) (seen [] 3 3) (seen (Flush true ∷ []) 3 3) (Calls (Flush true) ∷ [])
  called = record { stays = record { opening = refl; size = refl }; given = λ told honest. tt; log = λ told. refl; faults = omega arith; unkept = omega arith; idle = λ none. absurd cc }

  called-not_unmade : HasCalled (trust_of true true) (seen [] 3 3) (seen [] 3 3) (Calls (Flush true) ∷ []) → ⊥
  called-not_unmade has = let size = ap length (has.log refl) in omega (arith, size)

  called-not_unsaid : HasCalled (trust_of true true) (seen [] 3 3) (seen (Flush true ∷ Flush true ∷ []) 3 3) (Calls (Flush true) ∷ []) → ⊥
  called-not_unsaid has = let size = ap length (has.log refl) in omega (arith, size)

  called-untold : HasCalled (trust_of false true) (seen [] 3 3) (seen [] 3 3) (Calls (Flush true) ∷ [])
  called-untold = record { stays = record { opening = refl; size = refl }; given = λ told honest. tt; log = λ told. absurd cc; faults = omega arith; unkept = omega arith; idle = λ none. absurd cc }

  -- faults: no failure is made up, kept in the log or not
  failed : HasCalled (trust_of true true) (seen [] 3 3) (seen (Flush false ∷ []) 4 3) (Fails w (Flush false) true ∷ [])
  failed = record { stays = record { opening = refl; size = refl }; given = λ told honest. tt; log = λ told. refl; faults = omega arith; unkept = omega arith; idle = λ none. absurd cc }

  failed-not_made_up : HasCalled (trust_of true true) (seen [] 3 3) (seen (Flush false ∷ []) 3 3) (Fails w (Flush false) true ∷ []) → ⊥
  failed-not_made_up has = omega (arith, has.faults)

  failed-not_unlogged : HasCalled (trust_of true true) (seen [] 3 3) (seen [] 4 3) (Fails w (Flush false) true ∷ []) → ⊥
  failed-not_unlogged has = let size = ap length (has.log refl) in omega (arith, size)

  failed-not_fewer : HasCalled (trust_of true true) (seen [] 3 3) (seen (Flush true ∷ []) 2 3) (Calls (Flush true) ∷ []) → ⊥
  failed-not_fewer has = omega (arith, has.faults)

  -- unkept: none is lost from the log for no reason
  lost : HasCalled (trust_of true true) (seen [] 3 3) (seen [] 4 4) (Fails w (Flush false) false ∷ [])
  lost = record { stays = record { opening = refl; size = refl }; given = λ told honest. tt; log = λ told. refl; faults = omega arith; unkept = omega arith; idle = λ none. absurd cc }

  lost-not_made_up : HasCalled (trust_of true true) (seen [] 3 3) (seen [] 3 4) (Fails w (Flush false) false ∷ []) → ⊥
  lost-not_made_up has = omega (arith, has.faults)

  lost-not_without_rise : HasCalled (trust_of true true) (seen [] 3 3) (seen [] 4 3) (Fails w (Flush false) false ∷ []) → ⊥
  lost-not_without_rise has = omega (arith, has.unkept)

  -- idle: a device that isn't called is as it was, whether it tells or not
  abbrev silent : Trace
  silent = Takes w None (record { 0 = 90 }) ∷ []

  none_called : has_calls silent ≡ false
  none_called = refl

  some_called : has_calls (Takes w None (record { 0 = 90 }) ∷ three) ≡ true
  some_called = refl

  idle : HasCalled (trust_of false true) (seen [] 3 3) (seen [] 3 3) silent
  idle = record { stays = record { opening = refl; size = refl }; given = λ told honest. tt; log = λ told. absurd cc; faults = omega arith; unkept = omega arith; idle = λ none. refl }

  idle-not_more_faults : HasCalled (trust_of false true) (seen [] 3 3) (seen [] 4 3) silent → ⊥
  idle-not_more_faults has = let same = ap (λ (s : Seen). s.faults) (has.idle refl) in omega (arith, same)

  -- stays: the opening blocks and the size
  stays-not_another_size : HasCalled (trust_of false true) (seen [] 3 3) (record { opening = []; size = 1; log = []; faults = 3; unkept = 3 }) (Calls (Flush true) ∷ []) → ⊥
  stays-not_another_size has = omega (arith, has.stays.size)

  -- given: of an honest device a read gives the whole block that stands there, and no other bytes
  module _ (bytes other : List ℕ) where
    abbrev holds : List Call → Seen
    holds log = record { opening = bytes ∷ []; size = 1; log = log; faults = 3; unkept = 3 }

    abbrev read : List ℕ → Call
    read content = Read (record { 0 = 0 }) content true

    given : length bytes ≡ 4096 → HasCalled (trust_of true true) (holds []) (holds (read bytes ∷ [])) (Calls (read bytes) ∷ [])
    given whole = record {
      stays = record { opening = refl; size = refl };
      log = λ told. refl;
      given = λ told honest. (whole, (λ i below. inl refl), tt);
      faults = omega arith;
      unkept = omega arith;
      idle = λ none. absurd cc;
    }

    given-not_other_bytes : sector 0 other ≢ sector 0 bytes → HasCalled (trust_of true true) (holds []) (holds (read other ∷ [])) (Calls (read other) ∷ []) → ⊥
    given-not_other_bytes differ has = elim ((has.given refl refl).1 0 (omega arith)) [ inl same ↦ differ same | inr none ↦ none ]

    given-not_a_part : length other ≢ 4096 → HasCalled (trust_of true true) (holds []) (holds (read other ∷ [])) (Calls (read other) ∷ []) → ⊥
    given-not_a_part short has = short (has.given refl refl).0

    -- so one that was found not to decode, which is a call too
    abbrev harmed : List ℕ → Trace
    harmed content = Harms w (record { 0 = 0 }) content Header ∷ []

    given_damaged : length bytes ≡ 4096 → HasCalled (trust_of true true) (holds []) (holds (read bytes ∷ [])) (harmed bytes)
    given_damaged whole = record {
      stays = record { opening = refl; size = refl };
      log = λ told. refl;
      given = λ told honest. (whole, (λ i below. inl refl), tt);
      faults = omega arith;
      unkept = omega arith;
      idle = λ none. absurd cc;
    }

    given-not_other_damage : sector 0 other ≢ sector 0 bytes → HasCalled (trust_of true true) (holds []) (holds (read other ∷ [])) (harmed other) → ⊥
    given-not_other_damage differ has = elim ((has.given refl refl).1 0 (omega arith)) [ inl same ↦ differ same | inr none ↦ none ]

    given-not_unsaid : HasCalled (trust_of true true) (holds []) (holds []) (harmed bytes) → ⊥
    given-not_unsaid has = let size = ap length (has.log refl) in omega (arith, size)

    -- one that lies may give any
    given-of_a_liar : HasCalled (trust_of true false) (holds []) (holds (read other ∷ [])) (Calls (read other) ∷ [])
    given-of_a_liar = record {
      stays = record { opening = refl; size = refl };
      log = λ told. refl;
      given = λ told honest. absurd cc;
      faults = omega arith;
      unkept = omega arith;
      idle = λ none. absurd cc;
    }
