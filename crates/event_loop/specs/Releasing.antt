-- How the descriptors of an id are freed when it leaves.
use Rattle.std.specs.Prelude.{◌≡◌, ℕ, if◌then◌else◌, List, None, nat_lt}
use Rattle.std.specs.FinMap as map
use Rattle.event_loop.specs.PollerCall.{PollerCall, Controls, Waits, Leads}
use Rattle.event_loop.specs.Registry.{AreOwnedBy, AreDeletes}
use Rattle.event_loop.specs.RegistrationState.{registrations_of, left_in}
use Rattle.dispatch_tables.specs.WatchLists.{times_in}
use Rattle.dispatch_tables.specs.Ownership.{OwnerMap}
use Rattle.event_loop.specs.declared.epoll.EpollWrapper.{EpollWrapper}

-- no descriptor in the list has an owner any more, and the others have the same
abbrev pub AreWithout : List ℕ → OwnerMap → OwnerMap → Type 0
AreWithout fds before after = (q : ℕ) → map.get after q ≡ if nat_lt 0 (times_in fds q) then None else map.get before q

module _ {P : Type 0} (controls : Controls P) (waits : Waits P) where
  -- the descriptors of id i are free, after one Delete for each, whatever it answered; all else is as before
  pub record HasReleased (before after : EpollWrapper P) (i : ℕ) : Type 0 where
    pub fds : List ℕ
    pub calls : List PollerCall
    pub owned : AreOwnedBy i (registrations_of before.registrations) fds
    pub deletes : AreDeletes fds calls
    pub led : Leads controls waits before.poller calls after.poller
    pub freed : after.registrations ≡ left_in i before.registrations
