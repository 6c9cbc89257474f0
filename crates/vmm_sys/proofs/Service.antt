-- No step of a table moves an interest back, and a wait moves a ready one forward or reports it.
use Rattle.vmm_sys.proofs.Prelude.{◌≡◌, ◌≢◌, ℕ, ℤ, pos, negsuc, zero, suc, ◌+◌, ◌*◌, ◌/◌, ◌<◌, ◌≤◌, Bool, true, false, inl, inr, List, [], ◌∷◌, ◌++◌, length, get_or, eqb, refl, sym, ap, ◌∙◌, subst, arith, Option, Some, None, Result, Ok, Err, position, remove, slice_get, if◌then◌else◌, ◌==◌, nat_lt, nat_le, map, eqb-true, false≢true, without_first}
use Rattle.std.proofs.Math.Nat.{lt-mul-div-succ, mul-le-mul_right, mul_comm, zero-mul, suc-mul}
use Rattle.vmm_sys.specs.declared.errno.TheConstants.Errno.{EINVAL, EAGAIN, EMFILE}
use Rattle.vmm_sys.specs.declared.entries.EpollEvent.{EpollEvent}
use Rattle.vmm_sys.specs.declared.entries.ControlOperation.{ControlOperation}
use Rattle.vmm_sys.specs.declared.entries.ControlOperation.TheVariants.{Add, Modify, Delete}
use Rattle.vmm_sys.specs.declared.event_set.EventSet.{EventSet}
use Rattle.vmm_sys.specs.declared.errno.Errno.{Errno}
use Rattle.vmm_sys.specs.declared.table.source.Source.{Source}
use Rattle.vmm_sys.specs.declared.table.source.Source.TheVariants.{Counter, Line, Closed}
use Rattle.vmm_sys.specs.declared.table.interests.Interest.{Interest}
use Rattle.vmm_sys.specs.EventSet.{with_bits}
use Rattle.vmm_sys.specs.EpollEvent.{event}
use Rattle.vmm_sys.specs.Table.{TableState, is_ready, is_of, place_of, chosen, has_mode, changed, ctl_at, opened, is_open, write_to, read_from, set_at, with_source, open_at, open_of, first_closed, close_at, close_of, without, source_of, entry_of, Answers, ctl_of, moved_back}
use Rattle.vmm_sys.specs.ServiceBound.{TableStep, Ctl, Wait, Write, Read, SetLine, AddCounter, AddLine, Close, WithoutMemory, left_by, after, rooms, waits, Keeps, EachWaitHas, MovesForward, EachStepMovesForward, ReportedWithinRooms, ReportedWithinWaits}
use Rattle.vmm_sys.proofs.Places.{At, At-from_position, position-from_At, At-append, At-set, At-remove, Here-from_find, without_first-At}

-- a test that refuses leaves the interests, and so does what comes after it
interests-if : {A : Type 0} (t : TableState) (b : Bool) (e : Errno) (r : Result (A × TableState) Errno) → (left_by t r).interests ≡ t.interests → (left_by t (if b then Err e else r)).interests ≡ t.interests
interests-if t true e r q = refl
interests-if t false e r q = q

-- a call that no test refuses leaves what it says
interests-ok : {A : Type 0} (t u : TableState) (a : A) (b : Bool) (e : Errno) → b ≡ false → (left_by t (if b then Err e else Ok (a, u))).interests ≡ u.interests
interests-ok t u a true e h = absurd (false≢true (sym h))
interests-ok t u a false e h = refl

-- writes, reads, settings and openings leave the interests
interests-with_source : (t : TableState) (fd : ℤ) (s : Source) → (with_source t fd s).interests ≡ t.interests
interests-with_source t (pos n) s = refl
interests-with_source t (negsuc n) s = refl

interests-write : (t : TableState) (fd : ℤ) (v : ℕ) (o : Option Source) → (left_by t (write_to t fd v o)).interests ≡ t.interests
interests-write t fd v None = refl
interests-write t fd v (Some (Line s)) = refl
interests-write t fd v (Some Closed) = refl
interests-write t fd v (Some (Counter x)) =
    interests-if {A = Unit {0}} t (v == 18446744073709551615) EINVAL (if nat_lt 18446744073709551614 (x + v) then Err EAGAIN else Ok (tt, with_source t fd (Counter (x + v))))
    (interests-if {A = Unit {0}} t (nat_lt 18446744073709551614 (x + v)) EAGAIN (Ok (tt, with_source t fd (Counter (x + v)))) (interests-with_source t fd (Counter (x + v))))

interests-read : (t : TableState) (fd : ℤ) (o : Option Source) → (left_by t (read_from t fd o)).interests ≡ t.interests
interests-read t fd None = refl
interests-read t fd (Some (Line s)) = refl
interests-read t fd (Some Closed) = refl
interests-read t fd (Some (Counter x)) = interests-if {A = ℕ} t (x == 0) EAGAIN (Ok (x, with_source t fd (Counter 0))) (interests-with_source t fd (Counter 0))

interests-set : (t : TableState) (fd : ℤ) (s : EventSet) (o : Option Source) → (left_by t (set_at t fd s o)).interests ≡ t.interests
interests-set t fd s None = refl
interests-set t fd s (Some (Line old)) = interests-with_source t fd (Line s)
interests-set t fd s (Some (Counter x)) = refl
interests-set t fd s (Some Closed) = refl

interests-open_at : (t : TableState) (s : Source) (o : Option ℕ) → (left_by t (open_at t s o)).interests ≡ t.interests
interests-open_at t s (Some n) = refl
interests-open_at t s None = interests-if {A = ℤ} t (nat_le t.limit (length t.sources)) EMFILE (Ok (pos (length t.sources), record t { sources = t.sources ++ s ∷ [] })) refl

interests-open : (t : TableState) (s : Source) → (left_by t (open_of t s)).interests ≡ t.interests
interests-open t s = interests-open_at t s (first_closed t)

-- the interest of n, at place a of t, has no later place in u
abbrev NoLater : ℕ → ℕ → TableState → TableState → Type 0
NoLater n a t u = (b : ℕ) × (place_of u n ≡ Some b) × (b ≤ a)

-- equal interests have equal places
stays : (n a : ℕ) (t u : TableState) → place_of t n ≡ Some a → u.interests ≡ t.interests → NoLater n a t u
stays n a t u e q = (a, ap (position (is_of n)) q ∙ e, omega arith)

-- the interest at the place of m is of m
descriptor_at : (m k : ℕ) (xs : List Interest) (d : Interest) → At (is_of m) xs k → (get_or xs k d).descriptor ≡ m
descriptor_at m k [] d h = absurd h
descriptor_at m zero (x ∷ xs) d h = eqb-true x.descriptor m h
descriptor_at m (suc k) (x ∷ xs) d h = descriptor_at m k xs d h.1

-- a place is in the list
at_length : (m k : ℕ) (xs : List Interest) → At (is_of m) xs k → k < length xs
at_length m k [] h = absurd h
at_length m zero (x ∷ xs) h = omega arith
at_length m (suc k) (x ∷ xs) h = let l = at_length m k xs h.1 in omega arith

eqb-not_by : (b : Bool) (m n : ℕ) → eqb m n ≡ b → m ≢ n → b ≡ false
eqb-not_by true m n e h = absurd (h (eqb-true m n e))
eqb-not_by false m n e h = refl

-- different numbers are told apart
eqb-not : (m n : ℕ) → m ≢ n → eqb m n ≡ false
eqb-not m n h = eqb-not_by (eqb m n) m n refl h

-- an interest less, of another descriptor
no_later-remove : (n a m j : ℕ) (t u : TableState) → place_of t n ≡ Some a → place_of t m ≡ Some j → m ≢ n → u.interests ≡ remove t.interests j → NoLater n a t u
no_later-remove n a m j t u e f other is =
    let i : Interest = record { descriptor = m; event = event (with_bits 0) 0 } in
    let h = At-from_position (is_of m) t.interests j f in
    let g = descriptor_at m j t.interests i h in
    let r = At-remove (is_of n) t.interests j a i (at_length m j t.interests h) (ap (λ x. eqb x n) g ∙ eqb-not m n other) (At-from_position (is_of n) t.interests a e) in
    (r.0, ap (position (is_of n)) is ∙ position-from_At (is_of n) (remove t.interests j) r.0 r.1, r.2)

-- a change with an interest of m, but for the Delete of n, gives n no later place
no_later-changed : (n a m : ℕ) (t : TableState) (op : ControlOperation) (event : EpollEvent) (o : Option ℕ) → place_of t n ≡ Some a → place_of t m ≡ o → (op ≡ Delete → m ≢ n) → NoLater n a t (left_by t (changed t op (record { descriptor = m; event = event }) o))
no_later-changed n a m t Add event None e f k = (a, position-from_At (is_of n) _ a (At-append (is_of n) t.interests _ a (At-from_position (is_of n) t.interests a e)), omega arith)
no_later-changed n a m t Add event (Some j) e f k = stays n a t t e refl
no_later-changed n a m t Modify event None e f k = stays n a t t e refl
no_later-changed n a m t Modify event (Some j) e f k =
    let i : Interest = record { descriptor = m; event = event } in
    let g = descriptor_at m j t.interests i (At-from_position (is_of m) t.interests j f) in
    (a, position-from_At (is_of n) _ a (At-set (is_of n) t.interests j a i i (ap (λ x. eqb x n) (sym g)) (At-from_position (is_of n) t.interests a e)), omega arith)
no_later-changed n a m t Delete event None e f k = stays n a t t e refl
no_later-changed n a m t Delete event (Some j) e f k = no_later-remove n a m j t (left_by t (changed t Delete (record { descriptor = m; event = event }) (Some j))) e f (k refl) refl

if_some : (b : Bool) (x m : ℕ) → (if b then Some x else None) ≡ Some m → x ≡ m
if_some true x m e = cc
if_some false x m e = cc

-- an open descriptor is its number
opened-is : (t : TableState) (fd : ℤ) (m : ℕ) → opened t fd ≡ Some m → fd ≡ pos m
opened-is t (pos x) m e = ap pos (if_some (is_open (slice_get t.sources x)) x m e)
opened-is t (negsuc x) m e = cc

-- a Delete that keeps the interest of n is of another descriptor
deletes_other : (n m : ℕ) (op : ControlOperation) (fd : ℤ) (event : EpollEvent) → Keeps n (Ctl op fd event) → fd ≡ pos m → op ≡ Delete → m ≢ n
deletes_other n m Add fd event k e d = cc
deletes_other n m Modify fd event k e d = cc
deletes_other n m Delete fd event k e d = λ h. k (e ∙ ap pos h)

no_later-if : (n a : ℕ) (t : TableState) (b : Bool) (e : Errno) (r : Result (Unit {0} × TableState) Errno) → place_of t n ≡ Some a → NoLater n a t (left_by t r) → NoLater n a t (left_by t (if b then Err e else r))
no_later-if n a t true e r p m = stays n a t t p refl
no_later-if n a t false e r p m = m

no_later-ctl : (n a : ℕ) (t : TableState) (op : ControlOperation) (fd : ℤ) (event : EpollEvent) (o : Option ℕ) → opened t fd ≡ o → place_of t n ≡ Some a → Keeps n (Ctl op fd event) → NoLater n a t (left_by t (ctl_at t op o event))
no_later-ctl n a t op fd event None f e k = stays n a t t e refl
no_later-ctl n a t op fd event (Some m) f e k =
    no_later-if n a t (has_mode op event) _ _ e (no_later-changed n a m t op event (place_of t m) e refl (deletes_other n m op fd event k (opened-is t fd m f)))

-- a close of another descriptor gives n no later place
no_later-without : (n a m : ℕ) (t u : TableState) (o : Option ℕ) → place_of t n ≡ Some a → place_of t m ≡ o → m ≢ n → u.interests ≡ without t.interests o → NoLater n a t u
no_later-without n a m t u None e f other is = stays n a t u e is
no_later-without n a m t u (Some j) e f other is = no_later-remove n a m j t u e f other is

no_later-close : (n a : ℕ) (t : TableState) (fd : ℤ) (o : Option ℕ) → opened t fd ≡ o → place_of t n ≡ Some a → fd ≢ pos n → NoLater n a t (left_by t (close_at t o))
no_later-close n a t fd None f e other = stays n a t t e refl
no_later-close n a t fd (Some m) f e other = no_later-without n a m t (left_by t (close_at t (Some m))) (place_of t m) e refl (λ d. other (opened-is t fd m f ∙ ap pos d)) refl

-- what has to hold of a step that is no wait
without_room : (n a : ℕ) (t u : TableState) → NoLater n a t u → (b : ℕ) × (place_of u n ≡ Some b) × (b ≤ a) × (Unit {0} → b + 0 ≤ a)
without_room n a t u m = (m.0, m.1, m.2, (λ _. let le = m.2 in omega arith))

pub each_step_moves_forward : EachStepMovesForward
each_step_moves_forward t (Ctl op fd event) n a e k = inr (without_room n a t (after t (Ctl op fd event)) (no_later-ctl n a t op fd event (opened t fd) refl e k))
each_step_moves_forward t (Wait zero) n a e k = inr (a, e, omega arith, (λ _. omega arith))
each_step_moves_forward t (Wait (suc c)) n a e k =
    let h = At-from_position (is_of n) t.interests a e in
    let some : (suc c == 0) ≡ false = eqb-not (suc c) 0 (λ z. absurd (omega (arith, z))) in
    let list : (after t (Wait (suc c))).interests ≡ without_first (is_ready t.sources) t.interests (suc c) ++ chosen t (suc c) =
    interests-ok t (record t { interests = without_first (is_ready t.sources) t.interests (suc c) ++ chosen t (suc c) }) (map (entry_of t.sources) (chosen t (suc c))) (suc c == 0) EINVAL some in
    elim (without_first-At (is_of n) (is_ready t.sources) t.interests a (suc c) h) [
      | inl r ↦ inl r
      | inr r ↦ inr (r.0, ap (position (is_of n)) list ∙ position-from_At (is_of n) (without_first (is_ready t.sources) t.interests (suc c) ++ chosen t (suc c)) r.0 (At-append (is_of n) (without_first (is_ready t.sources) t.interests (suc c)) (chosen t (suc c)) r.0 r.1), r.2, (λ w. r.3 (Here-from_find (is_of n) (is_ready t.sources) t.interests a w.0 h w.1 w.2)))
    ]
each_step_moves_forward t (Write fd v) n a e k = inr (without_room n a t (after t (Write fd v)) (stays n a t (after t (Write fd v)) e (interests-write t fd v (source_of t fd))))
each_step_moves_forward t (Read fd) n a e k = inr (without_room n a t (after t (Read fd)) (stays n a t (after t (Read fd)) e (interests-read t fd (source_of t fd))))
each_step_moves_forward t (SetLine fd s) n a e k = inr (without_room n a t (after t (SetLine fd s)) (stays n a t (after t (SetLine fd s)) e (interests-set t fd s (source_of t fd))))
each_step_moves_forward t (AddCounter v) n a e k = inr (without_room n a t (after t (AddCounter v)) (stays n a t (after t (AddCounter v)) e (interests-if {A = ℤ} t (v == 18446744073709551615) EINVAL (open_of t (Counter v)) (interests-open t (Counter v)))))
each_step_moves_forward t AddLine n a e k = inr (without_room n a t (after t AddLine) (stays n a t (after t AddLine) e (interests-open t (Line (with_bits 0)))))
each_step_moves_forward t (Close fd) n a e k = inr (without_room n a t (after t (Close fd)) (no_later-close n a t fd (opened t fd) refl e k))
each_step_moves_forward t WithoutMemory n a e k = inr (without_room n a t t (stays n a t t e refl))

-- a call leaves what its definition says
after-answers : {A : Type 0} (r : Result (A × TableState) Errno) (t u : TableState) (result : Result A Errno) → Answers r t result u → u ≡ left_by t r
after-answers (Ok (a, v)) t u result h = h.1
after-answers (Err e) t u result h = h.1

-- so `ctl` moves nothing back
pub moves_forward-ctl : (t u : TableState) (op : ControlOperation) (fd : ℤ) (event : EpollEvent) (result : Result (Unit {0}) Errno) → Answers (ctl_of t op fd event) t result u → MovesForward t (Ctl op fd event) u
moves_forward-ctl t u op fd event result h = subst (MovesForward t (Ctl op fd event)) (sym (after-answers (ctl_of t op fd event) t u result h)) (each_step_moves_forward t (Ctl op fd event))

-- nor does `close`
pub moves_forward-close : (t u : TableState) (fd : ℤ) (result : Result (Unit {0}) Errno) → Answers (close_of t fd) t result u → MovesForward t (Close fd) u
moves_forward-close t u fd result h = subst (MovesForward t (Close fd)) (sym (after-answers (close_of t fd) t u result h)) (each_step_moves_forward t (Close fd))

left_by-ok : {A : Type 0} (t u : TableState) (x : A) (b : Bool) (e : Errno) → b ≡ false → left_by t (if b then Err e else Ok (x, u)) ≡ u
left_by-ok t u x true e h = absurd (false≢true (sym h))
left_by-ok t u x false e h = refl

-- and a wait that has room moves what it doesn't report forward
pub moves_forward-wait : (t : TableState) (c : ℕ) → 0 < c → MovesForward t (Wait c) (moved_back t c)
moves_forward-wait t c some =
    let room_is : (c == 0) ≡ false = eqb-not c 0 (λ none. absurd (omega arith)) in
    subst (MovesForward t (Wait c)) (left_by-ok t (moved_back t c) (map (entry_of t.sources) (chosen t c)) (c == 0) EINVAL room_is) (each_step_moves_forward t (Wait c))

pub reported_within_rooms : ReportedWithinRooms
reported_within_rooms n a t [] e k lt = absurd (omega (arith, lt))
reported_within_rooms n a t (s ∷ steps) e k lt =
    elim (each_step_moves_forward t s n a e k.0) [
      | inl r ↦ inl r
      | inr r ↦ inr (reported_within_rooms n r.0 (after t s) steps r.1 k.2 (let le = r.3 k.1 in omega arith))
    ]

-- waits of one room add up to their number times the room
rooms-each : (c : ℕ) (steps : List TableStep) → EachWaitHas c steps → rooms steps ≡ waits steps * c
rooms-each c [] h = omega (arith, zero-mul c)
rooms-each c (Wait d ∷ steps) h = let r = rooms-each c steps h.1 in rw (h.0, r) (omega (arith, suc-mul (waits steps) c))
rooms-each c (Ctl op fd event ∷ steps) h = let r = rooms-each c steps h in omega arith
rooms-each c (Write fd v ∷ steps) h = let r = rooms-each c steps h in omega arith
rooms-each c (Read fd ∷ steps) h = let r = rooms-each c steps h in omega arith
rooms-each c (SetLine fd s ∷ steps) h = let r = rooms-each c steps h in omega arith
rooms-each c (AddCounter v ∷ steps) h = let r = rooms-each c steps h in omega arith
rooms-each c (AddLine ∷ steps) h = let r = rooms-each c steps h in omega arith
rooms-each c (Close fd ∷ steps) h = let r = rooms-each c steps h in omega arith
rooms-each c (WithoutMemory ∷ steps) h = let r = rooms-each c steps h in omega arith

-- this many waits have room for more than a
below_rooms : (a c w : ℕ) → 0 < c → a / c + 1 ≤ w → a < w * c
below_rooms a c w some h =
    let fits : a < (a / c + 1) * c = subst (λ n. a < n) (mul_comm c (a / c + 1)) (lt-mul-div-succ a some) in
    let more : (a / c + 1) * c ≤ w * c = mul-le-mul_right c h in
    omega arith

pub reported_within_waits : ReportedWithinWaits
reported_within_waits n a c t steps e k some same h = reported_within_rooms n a t steps e k (rw (rooms-each c steps same) (below_rooms a c (waits steps) some h))
