-- Two lists of exchanges that ask alike, from the same registrations and with poller calls of the same answers, are the same.
use Rattle.std.proofs.Common.{◌≡◌, ◌≢◌, ℕ, ℤ, refl, sym, ap, subst, ◌∙◌, List, [], ◌∷◌, ◌++◌, map, append_assoc, arith, Some, None, Ok, Err}
use Rattle.std.proofs.lemmas.List.{append_cancel_left, map-append}
use Rattle.std.proofs.lemmas.List.Elements.{Contains-append_left, Contains-append_right}
use Rattle.event_loop.specs.Prelude.{PollerCall, Control, Wait, Registrations, Exchanges, Answer, epoll_error, requests_of, answers_of, call_for, refusal_of, Fits, by_manager, without_memory, by_poller, by_agreement, ExchangesFit}
use Rattle.event_loop.specs.declared.events.Request.{Request}
use Rattle.event_loop.specs.declared.error.Error.{Error}
use Rattle.event_loop.specs.declared.error.Error.TheVariants.{OutOfMemory}
use Rattle.dispatch_tables.proofs.MapEntries.{some_is}
use Rattle.vmm_sys.specs.declared.errno.Errno.{Errno}
use Rattle.recorded_runs.specs.Determinism.{AskAlike, HaveMemory}
use Rattle.event_loop.proofs.Releasing.{empty_event}

-- memory of a part
pub memory_first : (xs ys : List Answer) → HaveMemory (xs ++ ys) → HaveMemory xs
memory_first xs ys m c = m (Contains-append_left xs ys (Err OutOfMemory) c)

pub memory_then : (xs ys : List Answer) → HaveMemory (xs ++ ys) → HaveMemory ys
memory_then xs ys m c = m (Contains-append_right xs ys (Err OutOfMemory) c)

pub memory_at : (answer : Answer) (answers : List Answer) → HaveMemory (answer ∷ answers) → answer ≢ Err OutOfMemory
memory_at answer answers m e = m (0, omega arith, e)

-- a call of the poller without the event of a `ctl`, which who asks for it decides
abbrev pub eventless : PollerCall → PollerCall
eventless (Control operation fd event answer) = Control operation fd empty_event answer
eventless (Wait ms capacity answer) = Wait ms capacity answer

-- the same calls with the same answers, but for such events
abbrev pub AreSameCalls : List PollerCall → List PollerCall → Type 0
AreSameCalls calls others = map eventless calls ≡ map eventless others

-- two lists in two parts each, with what follows
pub in_parts : (first rest other others xs ys more behind : List PollerCall) → xs ≡ first ++ rest → ys ≡ other ++ others
    → AreSameCalls (xs ++ more) (ys ++ behind) → AreSameCalls (first ++ (rest ++ more)) (other ++ (others ++ behind))
in_parts first rest other others xs ys more behind e f same =
    ap (map eventless) (sym (append_assoc first rest more) ∙ ap (λ l. l ++ more) (sym e)) ∙ same
    ∙ ap (map eventless) (ap (λ l. l ++ behind) f ∙ append_assoc other others behind)

-- what follows the same
pub behind_same : (xs ys more behind : List PollerCall) → xs ≡ ys → AreSameCalls (xs ++ more) (ys ++ behind) → AreSameCalls more behind
behind_same xs ys more behind e same =
    append_cancel_left (map eventless ys) (map eventless more) (map eventless behind)
    (sym (map-append eventless ys more) ∙ ap (λ l. map eventless (l ++ more)) (sym e) ∙ same ∙ map-append eventless ys behind)

-- the same calls under other names for their fronts
with_same_front : (xs ys calls made rest more : List PollerCall) → xs ≡ calls → ys ≡ made
    → AreSameCalls (xs ++ rest) (ys ++ more) → AreSameCalls (calls ++ rest) (made ++ more)
with_same_front xs ys calls made rest more e f same = ap (λ l. map eventless (l ++ rest)) (sym e) ∙ same ∙ ap (λ l. map eventless (l ++ more)) f

-- lists of the same requests ask alike
pub asks_of_requests : (exchanges others : Exchanges) → requests_of exchanges ≡ requests_of others → AskAlike exchanges others
asks_of_requests [] [] e = tt
asks_of_requests [] (y ∷ ys) e = cc
asks_of_requests (x ∷ xs) [] e = cc
asks_of_requests (x ∷ xs) (y ∷ ys) e = (cc, λ same. asks_of_requests xs ys cc)

-- the call for a request that the poller refuses with a number
abbrev refusing : Request → ℤ → PollerCall
refusing request x = call_for request (Err (record { 0 = x }))

same_number : (request : Request) (x y : ℤ) (rest more : List PollerCall) → AreSameCalls (refusing request x ∷ rest) (refusing request y ∷ more) → x ≡ y
same_number request x y rest more e = let one : ◌≡◌ {A = Errno} (record { 0 = x }) (record { 0 = y }) = cc in ap (λ (errno : Errno). errno.0) one

not_agreed : (request : Request) (x : ℤ) (rest more : List PollerCall)
    → AreSameCalls (refusing request x ∷ rest) (call_for request (Ok tt) ∷ more) → ⊥
not_agreed request x rest more e = cc

module _ (i : ℕ) (registrations : Registrations) where
  -- what the manager refuses, the poller isn't asked
  unasked : (request : Request) (x : Error) → refusal_of i registrations request ≡ Some x → refusal_of i registrations request ≡ None → ⊥
  unasked request x h k = let both : None ≡ Some x = sym k ∙ h in cc

  -- one request, with any calls behind its own
  request_alike : (request : Request) (a b : Answer) (calls made rest more : List PollerCall) (after onto : Registrations)
      → a ≢ Err OutOfMemory → b ≢ Err OutOfMemory → AreSameCalls (calls ++ rest) (made ++ more)
      → Fits i registrations request a calls after → Fits i registrations request b made onto → (a ≡ b) × (calls ≡ made) × (after ≡ onto)
  request_alike request a b calls made rest more after onto m n same (without_memory adds h c r e) fits = absurd (m r)
  request_alike request a b calls made rest more after onto m n same fits (without_memory adds k d s f) = absurd (n s)
  request_alike request a b calls made rest more after onto m n same (by_manager x h c r e) (by_manager y k d s f) =
      (r ∙ ap Err (some_is x y (sym h ∙ k)) ∙ sym s, c ∙ sym d, e ∙ sym f)
  request_alike request a b calls made rest more after onto m n same (by_manager x h c r e) (by_poller y k d s f) = absurd (unasked request x h k)
  request_alike request a b calls made rest more after onto m n same (by_manager x h c r e) (by_agreement k d s f) = absurd (unasked request x h k)
  request_alike request a b calls made rest more after onto m n same (by_poller x h c r e) (by_manager y k d s f) = absurd (unasked request y k h)
  request_alike request a b calls made rest more after onto m n same (by_agreement h c r e) (by_manager y k d s f) = absurd (unasked request y k h)
  request_alike request a b calls made rest more after onto m n same (by_poller x h c r e) (by_poller y k d s f) =
      let one = same_number request x y rest more (with_same_front _ _ _ _ rest more c d same) in
      (r ∙ ap epoll_error one ∙ sym s, c ∙ ap (λ z. refusing request z ∷ []) one ∙ sym d, e ∙ sym f)
  request_alike request a b calls made rest more after onto m n same (by_poller x h c r e) (by_agreement k d s f) =
      absurd (not_agreed request x rest more (with_same_front _ _ _ _ rest more c d same))
  request_alike request a b calls made rest more after onto m n same (by_agreement h c r e) (by_poller y k d s f) =
      absurd (not_agreed request y more rest (with_same_front _ _ _ _ more rest d c (sym same)))
  request_alike request a b calls made rest more after onto m n same (by_agreement h c r e) (by_agreement k d s f) = (r ∙ sym s, c ∙ sym d, e ∙ sym f)

pub exchanges_alike : (i : ℕ) (before : Registrations) (xs ys : Exchanges) (calls made rest more : List PollerCall) (after onto : Registrations)
    → AskAlike xs ys → HaveMemory (answers_of xs) → HaveMemory (answers_of ys) → AreSameCalls (calls ++ rest) (made ++ more)
    → ExchangesFit i before xs calls after → ExchangesFit i before ys made onto → (xs ≡ ys) × (calls ≡ made) × (after ≡ onto)
exchanges_alike i before [] [] calls made rest more after onto alike m n same h k = (refl, h.0 ∙ sym k.0, h.1 ∙ sym k.1)
exchanges_alike i before [] (y ∷ ys) calls made rest more after onto alike m n same h k = absurd alike
exchanges_alike i before (x ∷ xs) [] calls made rest more after onto alike m n same h k = absurd alike
exchanges_alike i before (x ∷ xs) (y ∷ ys) calls made rest more after onto alike m n same
    (first, tail, mid, joined, fits, others) (front, end, between, split, fit, further) =
    let parts = in_parts first tail front end calls made rest more joined split same in
    let fit_here = subst (λ r. Fits i before r y.1 front between) (sym alike.0) fit in
    let one = request_alike i before x.0 x.1 y.1 first front (tail ++ rest) (end ++ more) mid between
    (memory_at x.1 (answers_of xs) m) (memory_at y.1 (answers_of ys) n) parts fits fit_here in
    let further_here = subst (λ r. ExchangesFit i r ys end onto) (sym one.2) further in
    let all = exchanges_alike i mid xs ys tail end rest more after onto (alike.1 one.0)
    (memory_then (x.1 ∷ []) (answers_of xs) m) (memory_then (y.1 ∷ []) (answers_of ys) n)
    (behind_same first front (tail ++ rest) (end ++ more) one.1 parts) others further_here in
    ((λ j. (alike.0 j, one.0 j) ∷ all.0 j), joined ∙ (λ j. one.1 j ++ all.1 j) ∙ sym split, all.2)
