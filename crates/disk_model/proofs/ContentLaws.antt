-- What a block may have in it: always something, and what was written or what it had before.
use Rattle.std.proofs.Common.{ℕ, ◌≡◌, ◌==◌, Bool, true, false, if◌then◌else◌, List, [], ◌∷◌, inl, inr}
use Rattle.std.specs.List.{AllByRecursion}
use Rattle.std.proofs.lemmas.Bool.Decides.{eqb_tells}
use Rattle.blk_base.specs.declared.place.Pbn.{Pbn}
use Rattle.disk_model.specs.declared.call.Call.{Call}
use Rattle.disk_model.specs.declared.call.Call.TheVariants.{Read, Write, Flush}
use Rattle.disk_model.specs.Images.{OneOf}
use Rattle.disk_model.specs.Log.{Blocks, contents, settled}

-- A block always has a content.

first_of : (P : List ℕ → Type 0) (here : Bool) (bytes : List ℕ) (xs ys : List (List ℕ)) → (AllByRecursion P ys → OneOf P ys)
    → AllByRecursion P (if here then bytes ∷ xs else ys) → OneOf P (if here then bytes ∷ xs else ys)
first_of P true bytes xs ys f all = inl all.0
first_of P false bytes xs ys f all = f all

settled_some : (P : List ℕ → Type 0) (opening : Blocks) (log : List Call) (b : ℕ) → AllByRecursion P (settled opening log b) → OneOf P (settled opening log b)
settled_some P opening [] b all = inl all.0
settled_some P opening (Read at bytes ok ∷ log) b all = settled_some P opening log b all
settled_some P opening (Flush ok ∷ log) b all = settled_some P opening log b all
settled_some P opening (Write at bytes true ∷ log) b all = first_of P (at.0 == b) bytes [] _ (settled_some P opening log b) all
settled_some P opening (Write at bytes false ∷ log) b all = first_of P (at.0 == b) bytes _ _ (settled_some P opening log b) all

pub contents_some : (P : List ℕ → Type 0) (opening : Blocks) (log : List Call) (b : ℕ) → AllByRecursion P (contents opening log b) → OneOf P (contents opening log b)
contents_some P opening [] b all = inl all.0
contents_some P opening (Read at bytes ok ∷ log) b all = contents_some P opening log b all
contents_some P opening (Flush true ∷ log) b all = settled_some P opening log b all
contents_some P opening (Flush false ∷ log) b all = contents_some P opening log b all
contents_some P opening (Write at bytes ok ∷ log) b all = first_of P (at.0 == b) bytes _ _ (contents_some P opening log b) all

of_one : (P : List ℕ → Type 0) (options : List (List ℕ)) → OneOf P options → (content : List ℕ) × P content
of_one P [] one = absurd one
of_one P (content ∷ others) (inl here) = (content, here)
of_one P (content ∷ others) (inr later) = of_one P others later

pub some_content : (P : List ℕ → Type 0) (opening : Blocks) (log : List Call) (b : ℕ) → AllByRecursion P (contents opening log b) → (content : List ℕ) × P content
some_content P opening log b all = of_one P (contents opening log b) (contents_some P opening log b all)

-- One of some is one of others, all of both have both.

pub one_of_weaker : (P Q : List ℕ → Type 0) (options : List (List ℕ)) → ((content : List ℕ) → P content → Q content) → OneOf P options → OneOf Q options
one_of_weaker P Q [] f one = absurd one
one_of_weaker P Q (content ∷ others) f (inl here) = inl (f content here)
one_of_weaker P Q (content ∷ others) f (inr later) = inr (one_of_weaker P Q others f later)

pub both_of : (P Q : List ℕ → Type 0) (options : List (List ℕ)) → AllByRecursion P options → AllByRecursion Q options → AllByRecursion (λ content. P content × Q content) options
both_of P Q [] first second = tt
both_of P Q (content ∷ others) first second = ((first.0, second.0), both_of P Q others first.1 second.1)

-- A write adds what it writes, if it is to this block.

pub after_write : (P : List ℕ → Type 0) (opening : Blocks) (log : List Call) (at : Pbn) (bytes : List ℕ) (ok : Bool) (b : ℕ) → (at.0 ≡ b → P bytes)
    → AllByRecursion P (contents opening log b) → AllByRecursion P (contents opening (Write at bytes ok ∷ log) b)
after_write P opening log at bytes ok b new old = elim (eqb_tells at.0 b) [
  | inl same ↦ rw same.0 (new same.1, old)
  | inr other ↦ rw other.0 old
]
