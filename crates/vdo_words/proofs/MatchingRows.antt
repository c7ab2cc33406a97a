-- Rows that pin what clap is told of options: what it then takes, and what it finds.
use Rattle.std.specs.Prelude.{◌≡◌, true, false, List, [], ◌∷◌, codes, Option, Some, None, refl}
use Rattle.clap.proofs.OnLiterals.{clap_on_literals}
use Rattle.clap.specs.Words.{Text, first_of, matches_of, takes}
use Rattle.vdo_words.specs.Given.{given, find}
use Rattle.vdo_words.specs.OptionMatches.{app, long, text_in}
use Rattle.vdo_words.specs.declared.option_names.OptionName.{OptionName}
use Rattle.vdo_words.specs.declared.option_names.OptionName.TheVariants.{Depth, SlabBlocks, Threads}

abbrev names : List OptionName
names = Depth ∷ Threads ∷ []

abbrev depth : List Text → Option Text
depth words = first_of (codes "depth") (matches_of (app names) words)

-- an option's name in clap
without-hyphens : long SlabBlocks ≡ codes "slab-blocks"
without-hyphens = refl

-- a value in the same word or the next one, and a flag without one, at any place
same-word : depth (codes "--threads" ∷ codes "--depth=2" ∷ []) ≡ Some (codes "2")
unfolding clap_on_literals
same-word = refl

next-word : depth (codes "--depth" ∷ codes "2" ∷ codes "--threads" ∷ []) ≡ Some (codes "2")
unfolding clap_on_literals
next-word = refl

not-there : depth (codes "--threads" ∷ []) ≡ None
unfolding clap_on_literals
not-there = refl

-- what clap takes, and what it would refuse
taken : takes (app names) (codes "--depth" ∷ codes "2" ∷ codes "--threads" ∷ []) ≡ true
unfolding clap_on_literals
taken = refl

no-value : takes (app names) (codes "--depth" ∷ []) ≡ false
unfolding clap_on_literals
no-value = refl

flag-with-value : takes (app names) (codes "--threads=1" ∷ []) ≡ false
unfolding clap_on_literals
flag-with-value = refl

option-of-others : takes (app (Threads ∷ [])) (codes "--depth=2" ∷ []) ≡ false
unfolding clap_on_literals
option-of-others = refl

-- the value in an option of words
value-there : text_in (find (codes "--depth") (given (codes "--depth" ∷ codes "2" ∷ []))) ≡ Some (codes "2")
value-there = refl

value-not-there : text_in (find (codes "--depth") (given (codes "--threads" ∷ []))) ≡ None
value-not-there = refl
