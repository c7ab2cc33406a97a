-- Rows that pin why a call may fail: for each clause one that it accepts, and one that breaks it alone.
use Rattle.std.proofs.Common.{ℕ, ◌-◌, ◌^◌, Result, Ok, Err, arith}
use Rattle.disk_model.specs.Causes.{Rose, HasCause}

-- a call that worked, and one that failed
abbrev worked : Result (Unit {0}) ℕ
worked = Ok tt

abbrev failed : Result (Unit {0}) ℕ
failed = Err 0

-- A count rose where it is greater by one or more,
rose-by_one : Rose 3 4
rose-by_one = omega arith

rose-by_more : Rose 3 9
rose-by_more = omega arith

rose-not_same : Rose 3 3 → ⊥
rose-not_same rose = omega (arith, rose)

rose-not_less : Rose 3 2 → ⊥
rose-not_less rose = omega (arith, rose)

rose-not_from_none : Rose 0 0 → ⊥
rose-not_from_none rose = omega (arith, rose)

-- or stands at the last value of its type, and nowhere below that.
rose-at_the_last : Rose (2 ^ 64 - 1) (2 ^ 64 - 1)
rose-at_the_last = omega arith

rose-to_the_last : Rose (2 ^ 64 - 2) (2 ^ 64 - 1)
rose-to_the_last = omega arith

rose-not_below_the_last : Rose (2 ^ 64 - 2) (2 ^ 64 - 2) → ⊥
rose-not_below_the_last rose = omega (arith, rose)

rose-not_back : Rose (2 ^ 64 - 1) (2 ^ 64 - 2) → ⊥
rose-not_back rose = omega (arith, rose)

-- later: the count of a call that worked never falls
later-same : HasCause 3 3 worked
later-same = record { later = omega arith; failed = tt }

later-not_less : HasCause 4 3 worked → ⊥
later-not_less cause = omega (arith, cause.later)

-- failed: that of a call that failed rose
failed-rose : HasCause 3 4 failed
failed-rose = record { later = omega arith; failed = omega arith }

failed-not_same : HasCause 3 3 failed → ⊥
failed-not_same cause = omega (arith, cause.failed)

-- at the last value it can't rise, and needn't
failed-at_the_last : HasCause (2 ^ 64 - 1) (2 ^ 64 - 1) failed
failed-at_the_last = record { later = omega arith; failed = omega arith }
