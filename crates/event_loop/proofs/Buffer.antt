-- The positions of a buffer.
use Rattle.std.proofs.Common.{◌≡◌, ℕ, suc, ◌+◌, ◌<◌, ◌≤◌, ◌==◌, ◌||◌, refl, sym, ap, subst, ◌∙◌, List, [], ◌∷◌, Bool, false, length, get_or, take, drop, add-one, arith, length-take, get_or-take, drop-cons, map, ℤ, Result, Ok, Err, IfOk}
use Rattle.std.proofs.lemmas.List.{length-take-le}
use Rattle.dispatch_tables.specs.Event.{Event, event_of_entry}
use Rattle.dispatch_tables.specs.Cancelled.{HasEntered}
use base.Stored.{Gv}
use Rattle.vmm_sys.specs.declared.poller.Poller.{Ghosts}
use Rattle.vmm_sys.specs.Poller.{reported}
use Rattle.event_loop.specs.PollerRelations.{waits}
use Rattle.event_loop.specs.RegistrationState.{all_pending, cancel_on}
use Rattle.vmm_sys.specs.declared.entries.EpollEvent.{EpollEvent}
use Rattle.vmm_sys.specs.declared.errno.Errno.{Errno}
use Rattle.event_loop.specs.ReadyList.{is_cancelled, ready_of, report_of}

-- one more position: the entry with its mark, and then the others
pub ready_more : (buffer : List EpollEvent) (cancelled : List ℕ) (i n : ℕ) (e : EpollEvent) → i < n → n ≤ length buffer → e ≡ get_or buffer i e → ready_of buffer cancelled i n ≡ (event_of_entry e, is_cancelled cancelled e) ∷ ready_of buffer cancelled (i + 1) n
ready_more buffer cancelled i n e below fits is =
    let long : i < length (take n buffer) = omega (arith, length-take n buffer) in
    let marked : EpollEvent → Event × Bool = λ x. (event_of_entry x, is_cancelled cancelled x) in
    ap (map marked) (drop-cons (take n buffer) i e long)
    ∙ ap (λ x. marked x ∷ map marked (drop (suc i) (take n buffer))) (get_or-take n buffer i e below ∙ sym is)
    ∙ ap (λ k. marked e ∷ map marked (drop k (take n buffer))) (sym (add-one i))

none_cancelled : (es : List EpollEvent) → map (λ e. (event_of_entry e, is_cancelled [] e)) es ≡ all_pending (map event_of_entry es)
none_cancelled [] = refl
none_cancelled (e ∷ es) = ap (λ r. (event_of_entry e, false) ∷ r) (none_cancelled es)

-- a new batch of n entries, with no descriptor cancelled
pub ready_all_pending : (buffer : List EpollEvent) (n : ℕ) → ready_of buffer [] 0 n ≡ all_pending (map event_of_entry (take n buffer))
ready_all_pending buffer n = none_cancelled (take n buffer)

-- one more descriptor is cancelled
entered_each : (before after : List ℕ) (fd : ℕ) → HasEntered before fd after → (es : List EpollEvent)
    → map (λ e. (event_of_entry e, is_cancelled after e)) es ≡ cancel_on fd (map (λ e. (event_of_entry e, is_cancelled before e)) es)
entered_each before after fd has [] = refl
entered_each before after fd has (e ∷ es) =
    ap (λ b. (event_of_entry e, b) ∷ map (λ x. (event_of_entry x, is_cancelled after x)) es) (has (event_of_entry e).fd)
    ∙ ap (λ r. (event_of_entry e, is_cancelled before e || (fd == (event_of_entry e).fd)) ∷ r) (entered_each before after fd has es)

pub ready_cancelled : (buffer : List EpollEvent) (before after : List ℕ) (fd i n : ℕ) → HasEntered before fd after → ready_of buffer after i n ≡ cancel_on fd (ready_of buffer before i n)
ready_cancelled buffer before after fd i n has = entered_each before after fd has (drop i (take n buffer))

same_length : (es : List EpollEvent) → length (map event_of_entry es) ≡ length es
same_length [] = refl
same_length (e ∷ es) = ap suc (same_length es)

pub length_events : (buffer : List EpollEvent) (n : ℕ) → n ≤ length buffer → length (map event_of_entry (take n buffer)) ≡ n
length_events buffer n fits = same_length (take n buffer) ∙ length-take-le n buffer fits

module _ {P : Type 0} (poller : Ghosts P) where
  -- what a poller answers to a wait, as a loop sees it
  pub waits_by : (before after : Gv) (ms : ℤ) (capacity : ℕ) (buffer : List EpollEvent) (r : Result ℕ Errno) → IfOk r (λ n. n ≤ length buffer) → poller.may_wait before ms capacity r (reported r buffer) after
      → waits poller before ms capacity (report_of r buffer) after
  waits_by before after ms capacity buffer (Ok n) fits h = (take n buffer, refl, subst (λ k. poller.may_wait before ms capacity (Ok k) (take n buffer) after) (sym (length-take-le n buffer fits)) h)
  waits_by before after ms capacity buffer (Err errno) fits h = h
