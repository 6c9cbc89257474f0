-- What it tells that a request is, or isn't, refused without the poller being asked.
use Rattle.std.proofs.Common.{◌≡◌, ℕ, Some, None, arith}
use Rattle.std.proofs.lemmas.Bool.Decides.{nat_tests}
use Rattle.event_loop.specs.Prelude.{Event, Registrations, Owns, IsFree, addition_refusal, refusal_of}
use Rattle.vmm_sys.specs.declared.errno.TheConstants.Errno.{ENOENT}
use Rattle.event_loop.specs.declared.error.Error.TheVariants.{Epoll}
use Rattle.event_loop.specs.declared.events.Request.TheVariants.{Remove}

-- an addition that isn't refused is of a free descriptor, and not of the endpoint's
pub is_vacant : (registrations : Registrations) (fd : ℕ) → addition_refusal registrations fd ≡ None → IsFree registrations fd × ¬ (fd ≡ registrations.endpoint)
is_vacant registrations fd h = grind (arith, nat_tests)

-- a Remove, or a Modify, is not refused just where the descriptor is i's own
module _ (i : ℕ) (registrations : Registrations) (e : Event) where
  pub is_own : refusal_of i registrations (Remove e) ≡ None → Owns i registrations e.fd
  is_own h = grind (arith, nat_tests)

  pub own_is_agreed : Owns i registrations e.fd → refusal_of i registrations (Remove e) ≡ None
  own_is_agreed h = grind (arith, nat_tests)

  pub other_is_refused : ¬ Owns i registrations e.fd → refusal_of i registrations (Remove e) ≡ Some (Epoll ENOENT)
  other_is_refused h = grind (arith, nat_tests)
