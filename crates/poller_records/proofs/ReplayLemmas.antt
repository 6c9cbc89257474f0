-- What the first entries of a record say of a call.
use Rattle.std.proofs.Common.{ℕ, ℤ, ◌≡◌, ◌≤◌, true, false, List, [], ◌∷◌, ◌++◌, length, map, take, drop, Some, refl, sym, ◌∙◌, ap, ap₂, subst, arith}
use Rattle.std.specs.Prelude.{Result, Ok, Err, ◌&&◌}
use Rattle.std.specs.List.{slice_get, list_all}
use Rattle.std.proofs.Math.Dec.{eqb}
use Rattle.std.proofs.Math.Seq.{take-append_seam}
use Rattle.std.proofs.lemmas.Bool.{both_ways}
use Rattle.std.proofs.lemmas.List.{take-append-drop, length-map, length-take-le}
use Rattle.std.proofs.lemmas.Grind.{common_steps}
use Rattle.vmm_sys.specs.declared.entries.EpollEvent.{EpollEvent}
use Rattle.vmm_sys.specs.declared.errno.Errno.{Errno}
use Rattle.poller_records.specs.declared.record.RecordEntry.{RecordEntry}
use Rattle.poller_records.specs.declared.record.RecordEntry.TheVariants.{Wait, Reported}
use Rattle.vmm_sys.specs.Poller.{reported}
use Rattle.poller_records.specs.Record.{entries_of_wait, IsReport, is_reported}

-- where there is a first entry, the list begins with it
pub first-entry : {A : Type 0} (l : List A) {x : A} → Some x ≡ slice_get l 0 → l ≡ x ∷ drop 1 l
first-entry [] e = cc
first-entry (y ∷ l) {x} e = let same : x ≡ y = cc in ap (λ z. z ∷ l) (sym same)

-- two events of equal sets and words are one
pub same-event : (a b : EpollEvent) → true ≡ (eqb a.set.0 b.set.0 && eqb a.word b.word) → a ≡ b
same-event a b e =
    let set : a.set.0 ≡ b.set.0 = grind (arith, common_steps) in
    let word : a.word ≡ b.word = grind (arith, common_steps) in
    let of : ℕ → ℕ → EpollEvent = λ s w. record { set = record { 0 = s }; word = w } in
    ap₂ of set word

-- each event of a report is one
pub all-reported : (events : List EpollEvent) → list_all is_reported (map Reported events) ≡ true
all-reported [] = refl
all-reported (e ∷ events) = all-reported events

-- the first entry is that of this wait
module _ {ahead behind : List RecordEntry} {entry : RecordEntry} {z ms : ℤ} {r room : ℕ} {answer : Result ℕ Errno} (first : ahead ≡ entry ∷ behind)
    (is : entry ≡ Wait z r answer) (limit : z ≡ ms) (length_is : r ≡ room) where
  -- the record begins with the call's own entry
  pub wait-first : ahead ≡ Wait ms room answer ∷ behind
  wait-first = cc

  -- a refused wait is found, whatever the buffer holds
  pub refused-found : {errno : Errno} (buffer : List EpollEvent) → answer ≡ Err errno
      → IsReport room answer (reported answer buffer) × ((rest : List RecordEntry) × (ahead ≡ entries_of_wait ms room answer (reported answer buffer) ++ rest))
  refused-found {errno} buffer e =
      let P : Result ℕ Errno → Type 0 = λ a. IsReport room a (reported a buffer)
      × ((rest : List RecordEntry) × (ahead ≡ entries_of_wait ms room a (reported a buffer) ++ rest)) in
      let at : ahead ≡ Wait ms room (Err errno) ∷ behind = cc wait-first in
      subst P (sym e) (refl, (behind, at))

  -- a report is found, once it is copied
  pub report-found : {count : ℕ} (places later : List EpollEvent) → answer ≡ Ok count → count ≤ room → count ≤ length behind
      → take count behind ≡ map Reported places
      → IsReport room answer (reported answer (places ++ later))
      × ((rest : List RecordEntry) × (ahead ≡ entries_of_wait ms room answer (reported answer (places ++ later)) ++ rest))
  report-found {count} places later e fits within copied =
      let all : length places ≡ count = sym (length-map places Reported) ∙ ap length (sym copied) ∙ length-take-le count behind within in
      let P : Result ℕ Errno → Type 0 = λ a. IsReport room a (reported a (places ++ later))
      × ((rest : List RecordEntry) × (ahead ≡ entries_of_wait ms room a (reported a (places ++ later)) ++ rest)) in
      let front : take count (places ++ later) ≡ places = subst (λ n. take n (places ++ later) ≡ places) all (take-append_seam places later) in
      let split : map Reported places ++ drop count behind ≡ behind = subst (λ l. l ++ drop count behind ≡ behind) copied (take-append-drop count behind) in
      let at : ahead ≡ Wait ms room (Ok count) ∷ (map Reported places ++ drop count behind) = cc (wait-first, split) in
      subst P (sym e) (subst (λ l. IsReport room (Ok count) l × ((rest : List RecordEntry) × (ahead ≡ entries_of_wait ms room (Ok count) l ++ rest)))
      (sym front) ((all, fits), (drop count behind, at)))

  -- no report is found where an entry behind is none of one
  pub report-missing : {count : ℕ} → answer ≡ Ok count → false ≡ list_all is_reported (take count behind)
      → (other : Result ℕ Errno) (events : List EpollEvent) (rest : List RecordEntry) → IsReport room other events
      → ahead ≡ entries_of_wait ms room other events ++ rest → ⊥
  report-missing e none (Err errno) events rest h next = cc wait-first
  report-missing {count} e none (Ok n) events rest h next =
      let at = wait-first in
      let number : n ≡ count = cc in
      let behind_is : behind ≡ map Reported events ++ rest = cc in
      let whole : length (map Reported events) ≡ count = length-map events Reported ∙ h.0 ∙ number in
      let front : take count behind ≡ map Reported events = ap (take count) behind_is
      ∙ subst (λ k. take k (map Reported events ++ rest) ≡ map Reported events) whole (take-append_seam (map Reported events) rest) in
      both_ways (list_all is_reported (take count behind)) (sym none) (ap (list_all is_reported) front ∙ all-reported events)
