-- Some numbers as they are printed.
use Rattle.std.specs.Prelude.{◌≡◌, codes, decimal}
use Rattle.std.proofs.Common.{arith}
use Rattle.std.proofs.lemmas.Fmt.{decimal_digit, decimal-digits_of}

pub printed_0 : decimal 0 ≡ codes "0"
printed_0 = decimal_digit 0 (omega arith)

pub printed_1 : decimal 1 ≡ codes "1"
printed_1 = decimal_digit 1 (omega arith)

pub printed_2 : decimal 2 ≡ codes "2"
printed_2 = decimal_digit 2 (omega arith)

pub printed_5 : decimal 5 ≡ codes "5"
printed_5 = decimal_digit 5 (omega arith)

pub printed_6 : decimal 6 ≡ codes "6"
printed_6 = decimal_digit 6 (omega arith)

pub printed_7 : decimal 7 ≡ codes "7"
printed_7 = decimal_digit 7 (omega arith)

pub printed_10 : decimal 10 ≡ codes "10"
printed_10 = decimal-digits_of 10 (omega arith) (omega arith)

pub printed_15 : decimal 15 ≡ codes "15"
printed_15 = decimal-digits_of 15 (omega arith) (omega arith)

pub printed_30 : decimal 30 ≡ codes "30"
printed_30 = decimal-digits_of 30 (omega arith) (omega arith)

pub printed_64 : decimal 64 ≡ codes "64"
printed_64 = decimal-digits_of 64 (omega arith) (omega arith)

pub printed_70 : decimal 70 ≡ codes "70"
printed_70 = decimal-digits_of 70 (omega arith) (omega arith)

pub printed_85 : decimal 85 ≡ codes "85"
printed_85 = decimal-digits_of 85 (omega arith) (omega arith)

pub printed_86 : decimal 86 ≡ codes "86"
printed_86 = decimal-digits_of 86 (omega arith) (omega arith)

pub printed_87 : decimal 87 ≡ codes "87"
printed_87 = decimal-digits_of 87 (omega arith) (omega arith)

pub printed_154 : decimal 154 ≡ codes "154"
printed_154 = decimal-digits_of 154 (omega arith) (omega arith)

pub printed_223 : decimal 223 ≡ codes "223"
printed_223 = decimal-digits_of 223 (omega arith) (omega arith)

pub printed_300 : decimal 300 ≡ codes "300"
printed_300 = decimal-digits_of 300 (omega arith) (omega arith)

pub printed_900 : decimal 900 ≡ codes "900"
printed_900 = decimal-digits_of 900 (omega arith) (omega arith)

pub printed_990 : decimal 990 ≡ codes "990"
printed_990 = decimal-digits_of 990 (omega arith) (omega arith)

pub printed_1000 : decimal 1000 ≡ codes "1000"
printed_1000 = decimal-digits_of 1000 (omega arith) (omega arith)

pub printed_2000 : decimal 2000 ≡ codes "2000"
printed_2000 = decimal-digits_of 2000 (omega arith) (omega arith)

pub printed_4096 : decimal 4096 ≡ codes "4096"
printed_4096 = decimal-digits_of 4096 (omega arith) (omega arith)

pub ruleset numerals = (printed_0, printed_1, printed_2, printed_5, printed_6, printed_7, printed_10, printed_15, printed_30, printed_64, printed_70, printed_85, printed_86, printed_87, printed_154, printed_223, printed_300, printed_900, printed_990, printed_1000, printed_2000, printed_4096)
