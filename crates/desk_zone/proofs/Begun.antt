-- A request that is begun is served, and has its own name.
use Rattle.std.proofs.Common.{ℕ, zero, suc, ◌≡◌, Some, None, [], ◌∷◌, true, false, ap, sym}
use Rattle.std.specs.List.{AllByRecursion}
use Rattle.plain_laws.proofs.ListLaws.{every-get}
use Rattle.vdo_model.specs.Scripts.{Script, request_at, stream_of, IsServed}
use Rattle.std.proofs.lemmas.Option.{same_Some}
use Rattle.blk_base.specs.declared.request.Request.{Request}
use Rattle.blk_base.specs.declared.request.Request.TheVariants as request
use Rattle.blk_base.specs.declared.request.Writer.{Writer}
use Rattle.core_model.specs.DeskRules.{vio_of}
use Rattle.data_vio.specs.declared.items.Vio.{Vio}
use Rattle.data_vio.specs.declared.sizes.Sizes.{Sizes}

pub named : (sizes : Sizes) (w : Writer) (r : Request) (v : Vio) → vio_of sizes w r ≡ Some v → v.request ≡ w
named sizes w (request.Read at) v is = sym (ap (λ (u : Vio). u.request) (same_Some _ _ is))
named sizes w (request.Write at bytes false) v is = sym (ap (λ (u : Vio). u.request) (same_Some _ _ is))
named sizes w (request.Write at bytes true) v is = absurd cc
named sizes w (request.Discard at) v is = sym (ap (λ (u : Vio). u.request) (same_Some _ _ is))
named sizes w request.Flush v is = sym (ap (λ (u : Vio). u.request) (same_Some _ _ is))

-- a request of a script that is served
stream_served : (script : Script) (k : ℕ) → AllByRecursion (AllByRecursion IsServed) script → AllByRecursion IsServed (stream_of script k)
stream_served [] k served = tt
stream_served (rs ∷ script) zero served = served.0
stream_served (rs ∷ script) (suc k) served = stream_served script k served.1

request_served : (script : Script) (w : Writer) (r : Request) → AllByRecursion (AllByRecursion IsServed) script → request_at script w ≡ Some r → IsServed r
request_served script w r served asks = every-get IsServed (stream_of script w.stream) w.number r (stream_served script w.stream served) asks

begun_some : (sizes : Sizes) (w : Writer) (r : Request) → IsServed r → vio_of sizes w r ≡ None → ⊥
begun_some sizes w (request.Read at) served none = cc
begun_some sizes w (request.Write at bytes true) served none = let forced = served.1 in cc
begun_some sizes w (request.Write at bytes false) served none = cc
begun_some sizes w (request.Discard at) served none = cc
begun_some sizes w request.Flush served none = cc

-- is under way once it is begun
pub never_unserved : (sizes : Sizes) (script : Script) (w : Writer) (r : Request) → AllByRecursion (AllByRecursion IsServed) script → request_at script w ≡ Some r → vio_of sizes w r ≡ None → ⊥
never_unserved sizes script w r served asks none = begun_some sizes w r (request_served script w r served asks) none
