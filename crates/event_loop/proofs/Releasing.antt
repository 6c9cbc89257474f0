-- One Delete after another.
use Rattle.std.proofs.Common.{◌≡◌, ℕ, ◌+◌, ◌<◌, ◌≤◌, refl, sym, subst, ◌∙◌, List, [], ◌∷◌, ◌++◌, Result, length, get_or, take}
use Rattle.std.proofs.lemmas.List.{take_more, take_all}
use Rattle.vmm_sys.specs.declared.errno.Errno.{Errno}
use Rattle.vmm_sys.specs.declared.entries.ControlOperation.TheVariants as operation
use Rattle.event_loop.specs.Prelude.{PollerCall, Control, Controls, Waits, Leads, AreDeletes, AreOwnedBy, Event}
use Rattle.event_loop.specs.RegistrationState.{registrations_of, left_in}
use Rattle.event_loop.specs.Releasing.{HasReleased}
use Rattle.event_loop.specs.declared.epoll.EpollWrapper.{EpollWrapper}
use Rattle.event_loop.proofs.ExchangeLemmas.{leads_join}

-- the event that a Delete is asked with
abbrev pub empty_event : Event
empty_event = record { fd = 0; payload = 0; set = 0 }

abbrev delete : ℕ → Result (Unit {0}) Errno → PollerCall
delete fd answer = Control operation.Delete fd empty_event answer

deletes_push : (fds : List ℕ) (calls : List PollerCall) (fd : ℕ) (answer : Result (Unit {0}) Errno) → AreDeletes fds calls → AreDeletes (fds ++ fd ∷ []) (calls ++ delete fd answer ∷ [])
deletes_push [] [] fd answer h = ((answer, refl), tt)
deletes_push [] (call ∷ calls) fd answer h = absurd h
deletes_push (x ∷ fds) [] fd answer h = absurd h
deletes_push (x ∷ fds) (call ∷ calls) fd answer h = (h.0, deletes_push fds calls fd answer h.1)

-- what was asked for the first k descriptors
pub record DeletedSoFar {P : Type 0} (controls : Controls P) (waits : Waits P) (fds : List ℕ) (k : ℕ) (before after : P) : Type 0 where
  pub calls : List PollerCall
  pub deletes : AreDeletes (take k fds) calls
  pub led : Leads controls waits before calls after

module _ {P : Type 0} (controls : Controls P) (waits : Waits P) (fds : List ℕ) where
  pub deleted_none : (poller : P) → DeletedSoFar controls waits fds 0 poller poller
  deleted_none poller = record { calls = []; deletes = tt; led = refl }

  pub deleted_more : (k : ℕ) (before now after : P) (answer : Result (Unit {0}) Errno) → k < length fds → controls now operation.Delete (get_or fds k 0) empty_event answer after
      → DeletedSoFar controls waits fds k before now → DeletedSoFar controls waits fds (k + 1) before after
  deleted_more k before now after answer below asked so_far =
      let fd = get_or fds k 0 in
      record {
        calls = so_far.calls ++ delete fd answer ∷ [];
        deletes = subst (λ l. AreDeletes l (so_far.calls ++ delete fd answer ∷ [])) (sym (take_more fds k 0 below)) (deletes_push (take k fds) so_far.calls fd answer so_far.deletes);
        led = leads_join controls waits before now after so_far.calls (delete fd answer ∷ []) so_far.led (after, asked, refl);
      }

  -- the descriptors were freed, and then one Delete was asked for each
  pub released : (i k : ℕ) (before now after : EpollWrapper P) → AreOwnedBy i (registrations_of before.registrations) fds → now.registrations ≡ left_in i before.registrations → after.registrations ≡ now.registrations
      → length fds ≤ k → DeletedSoFar controls waits fds k before.poller after.poller → HasReleased controls waits before after i
  released i k before now after owned freed same all so_far = record {
    fds = fds;
    calls = so_far.calls;
    owned = owned;
    deletes = subst (λ l. AreDeletes l so_far.calls) (take_all k fds all) so_far.deletes;
    led = so_far.led;
    freed = same ∙ freed;
  }
