-- The queue after the steps so far stands as the account says.
use Rattle.std.proofs.Common.{◌≡◌, ℕ, suc, ◌+◌, ◌<◌, ◌≤◌, Bool, true, false, List, [], ◌∷◌, ◌++◌, length, take, None, Result, Ok, Err, refl, sym, ap, ◌∙◌, subst, arith, append_assoc, append-nil, length-append, length-take}
use Rattle.std.proofs.Math.Seq.{take_all}
use Rattle.std.proofs.lemmas.List.{take-append-le}
use Rattle.std.proofs.lemmas.Bool.{lt-ltb}
use Rattle.vmm_sys.specs.declared.errno.Errno.{Errno}
use Rattle.event_loop.specs.declared.error.Error.{Error}
use Rattle.event_loop.specs.declared.error.Error.TheVariants.{ChannelSend, ChannelRecv, EventFd, Epoll, FdAlreadyRegistered, InvalidId, InvalidCapacity, OutOfMemory, IdsUsedUp, TicketsUsedUp}
use Rattle.event_manager.specs.declared.jobs.queue.Entry.{Entry}
use Rattle.event_manager.specs.declared.jobs.account.Step.{Step}
use Rattle.event_manager.specs.declared.jobs.account.Step.TheVariants.{Send, Take, Close}
use Rattle.event_manager.specs.JobQueue.{QueueState, IsSend, after_take, after_close, most, with_job, tickets_and_jobs}
use Rattle.event_manager.specs.Account.{has_close, has_take, open_part, jobs_offered, before_last_take, with_tickets, jobs_accepted, jobs_handed_out, answer_of_bell, answer, answers_after, answers_to_sends, IsReplayed}

module _ {J : Type 0} where
  abbrev one : Step J → List (Step J)
  one s = s ∷ []

  has_close-append : (ss ts : List (Step J)) → has_close ss ≡ false → has_close (ss ++ ts) ≡ has_close ts
  has_close-append [] ts open' = refl
  has_close-append (Send job bell ∷ ss) ts open' = has_close-append ss ts open'
  has_close-append (Take ∷ ss) ts open' = has_close-append ss ts open'
  has_close-append (Close ∷ ss) ts open' = cc

  open_part-append : (ss ts : List (Step J)) → has_close ss ≡ false → open_part (ss ++ ts) ≡ ss ++ open_part ts
  open_part-append [] ts open' = refl
  open_part-append (Send job bell ∷ ss) ts open' = ap (λ xs. Send job bell ∷ xs) (open_part-append ss ts open')
  open_part-append (Take ∷ ss) ts open' = ap (λ xs. Take ∷ xs) (open_part-append ss ts open')
  open_part-append (Close ∷ ss) ts open' = cc

  open_part-open : (ss : List (Step J)) → has_close ss ≡ false → open_part ss ≡ ss
  open_part-open [] open' = refl
  open_part-open (Send job bell ∷ ss) open' = ap (λ xs. Send job bell ∷ xs) (open_part-open ss open')
  open_part-open (Take ∷ ss) open' = ap (λ xs. Take ∷ xs) (open_part-open ss open')
  open_part-open (Close ∷ ss) open' = cc

  has_close-closed : (ss ts : List (Step J)) → has_close ss ≡ true → has_close (ss ++ ts) ≡ true
  has_close-closed [] ts closed = cc
  has_close-closed (Send job bell ∷ ss) ts closed = has_close-closed ss ts closed
  has_close-closed (Take ∷ ss) ts closed = has_close-closed ss ts closed
  has_close-closed (Close ∷ ss) ts closed = refl

  open_part-closed : (ss ts : List (Step J)) → has_close ss ≡ true → open_part (ss ++ ts) ≡ open_part ss
  open_part-closed [] ts closed = cc
  open_part-closed (Send job bell ∷ ss) ts closed = ap (λ xs. Send job bell ∷ xs) (open_part-closed ss ts closed)
  open_part-closed (Take ∷ ss) ts closed = ap (λ xs. Take ∷ xs) (open_part-closed ss ts closed)
  open_part-closed (Close ∷ ss) ts closed = refl

  jobs_offered-append : (ss ts : List (Step J)) → jobs_offered (ss ++ ts) ≡ jobs_offered ss ++ jobs_offered ts
  jobs_offered-append [] ts = refl
  jobs_offered-append (Send job (Ok u) ∷ ss) ts = ap (λ xs. job ∷ xs) (jobs_offered-append ss ts)
  jobs_offered-append (Send job (Err e) ∷ ss) ts = jobs_offered-append ss ts
  jobs_offered-append (Take ∷ ss) ts = jobs_offered-append ss ts
  jobs_offered-append (Close ∷ ss) ts = jobs_offered-append ss ts

  has_take-send : (ss : List (Step J)) (job : J) (bell : Result (Unit {0}) Errno) → has_take (ss ++ one (Send job bell)) ≡ has_take ss
  has_take-send [] job bell = refl
  has_take-send (Send j b ∷ ss) job bell = has_take-send ss job bell
  has_take-send (Take ∷ ss) job bell = refl
  has_take-send (Close ∷ ss) job bell = has_take-send ss job bell

  has_take-take : (ss : List (Step J)) → has_take (ss ++ one Take) ≡ true
  has_take-take [] = refl
  has_take-take (Send j b ∷ ss) = has_take-take ss
  has_take-take (Take ∷ ss) = refl
  has_take-take (Close ∷ ss) = has_take-take ss

  before-send : (ss : List (Step J)) (job : J) (bell : Result (Unit {0}) Errno) → before_last_take (ss ++ one (Send job bell)) ≡ before_last_take ss
  before-send [] job bell = refl
  before-send (s ∷ ss) job bell = rw (has_take-send ss job bell, before-send ss job bell) refl

  before-take : (ss : List (Step J)) → before_last_take (ss ++ one Take) ≡ ss
  before-take [] = refl
  before-take (s ∷ ss) = rw (has_take-take ss, before-take ss) refl

  with_tickets-push : (n : ℕ) (jobs : List J) (job : J) → with_tickets n (jobs ++ (job ∷ [])) ≡ with_tickets n jobs ++ ((n + length jobs + 1, job) ∷ [])
  with_tickets-push n [] job = ap (λ (k : ℕ). (k, job) ∷ []) (omega arith)
  with_tickets-push n (x ∷ xs) job =
      let len : n + 1 + length xs + 1 ≡ n + suc (length xs) + 1 = omega arith in
      ap (λ ys. (n + 1, x) ∷ ys) (with_tickets-push (n + 1) xs job ∙ ap (λ (k : ℕ). with_tickets (n + 1) xs ++ ((k, job) ∷ [])) len)

  answers-push : (before ss : List (Step J)) (s : Step J) → answers_after before (ss ++ one s) ≡ answers_after before ss ++ answers_after (before ++ ss) (one s)
  answers-push before [] s = rw (append-nil before) refl
  answers-push before (Send j b ∷ ss) s = ap (λ xs. answer before b ∷ xs) (answers-push (before ++ one (Send j b)) ss s ∙ ap (λ bs. answers_after (before ++ one (Send j b)) ss ++ answers_after bs (one s)) (append_assoc before (one (Send j b)) ss))
  answers-push before (Take ∷ ss) s = answers-push (before ++ one Take) ss s ∙ ap (λ bs. answers_after (before ++ one Take) ss ++ answers_after bs (one s)) (append_assoc before (one Take) ss)
  answers-push before (Close ∷ ss) s = answers-push (before ++ one Close) ss s ∙ ap (λ bs. answers_after (before ++ one Close) ss ++ answers_after bs (one s)) (append_assoc before (one Close) ss)

  -- how the queue stands after these steps
  pub record Kept (ss : List (Step J)) (q : QueueState J (Unit {0})) (xs : List (Result ℕ Error)) (ts : List (ℕ × J)) : Type 0 where
    pub closed : q.closed ≡ has_close ss
    pub issued : q.issued ≡ length (jobs_accepted ss)
    pub line : q.closed ≡ false → ts ++ tickets_and_jobs q.waiting ≡ with_tickets 0 (jobs_accepted ss)
    pub taken : ts ≡ jobs_handed_out ss
    pub answers : xs ≡ answers_to_sends ss

  -- of an open account
  jobs_accepted-open : (ss : List (Step J)) → has_close ss ≡ false → jobs_accepted ss ≡ take most (jobs_offered ss)
  jobs_accepted-open ss open' = ap (λ xs. take most (jobs_offered xs)) (open_part-open ss open')

  jobs_accepted-send : (ss : List (Step J)) (job : J) (bell : Result (Unit {0}) Errno) → has_close ss ≡ false → jobs_accepted (ss ++ one (Send job bell)) ≡ take most (jobs_offered ss ++ jobs_offered (one (Send job bell)))
  jobs_accepted-send ss job bell open' = ap (λ xs. take most (jobs_offered xs)) (open_part-append ss (one (Send job bell)) open') ∙ ap (take most) (jobs_offered-append ss (one (Send job bell)))

  -- a job that is refused, or comes too late
  jobs_accepted-full : (ss : List (Step J)) (job : J) (bell : Result (Unit {0}) Errno) → has_close ss ≡ false → length (jobs_accepted ss) ≡ most → jobs_accepted (ss ++ one (Send job bell)) ≡ jobs_accepted ss
  jobs_accepted-full ss job bell open' full =
      let here = jobs_accepted-open ss open' in
      let len : length (take most (jobs_offered ss)) ≡ most = ap length (sym here) ∙ full in
      let enough : most ≤ length (jobs_offered ss) = omega (arith, length-take most (jobs_offered ss)) in
      jobs_accepted-send ss job bell open' ∙ (take-append-le most (jobs_offered ss) (jobs_offered (one (Send job bell))) enough ∙ sym here)

  jobs_accepted-refused : (ss : List (Step J)) (job : J) (e : Errno) → has_close ss ≡ false → jobs_accepted (ss ++ one (Send job (Err e))) ≡ jobs_accepted ss
  jobs_accepted-refused ss job e open' = jobs_accepted-send ss job (Err e) open' ∙ (ap (take most) (append-nil (jobs_offered ss)) ∙ sym (jobs_accepted-open ss open'))

  jobs_accepted-more : (ss : List (Step J)) (job : J) (u : Unit {0}) → has_close ss ≡ false → length (jobs_accepted ss) < most → jobs_accepted (ss ++ one (Send job (Ok u))) ≡ jobs_accepted ss ++ (job ∷ [])
  jobs_accepted-more ss job u open' room =
      let here = jobs_accepted-open ss open' in
      let len : length (take most (jobs_offered ss)) ≡ length (jobs_accepted ss) = ap length (sym here) in
      let few : length (jobs_offered ss) < most = omega (arith, length-take most (jobs_offered ss)) in
      let all : take most (jobs_offered ss) ≡ jobs_offered ss = take_all most (jobs_offered ss) (omega arith) in
      let more : take most (jobs_offered ss ++ (job ∷ [])) ≡ jobs_offered ss ++ (job ∷ []) = take_all most (jobs_offered ss ++ (job ∷ [])) (omega (arith, length-append (jobs_offered ss) (job ∷ []))) in
      jobs_accepted-send ss job (Ok u) open' ∙ (more ∙ ap (λ xs. xs ++ (job ∷ [])) (sym (here ∙ all)))

  handed-send : (ss : List (Step J)) (job : J) (bell : Result (Unit {0}) Errno) → has_close ss ≡ false → jobs_handed_out (ss ++ one (Send job bell)) ≡ jobs_handed_out ss
  handed-send ss job bell open' =
      let F : List (Step J) → List (ℕ × J) = λ xs. with_tickets 0 (take most (jobs_offered (before_last_take xs))) in
      ap F (open_part-append ss (one (Send job bell)) open') ∙ (ap (λ xs. with_tickets 0 (take most (jobs_offered xs))) (before-send ss job bell) ∙ ap F (sym (open_part-open ss open')))

  handed-take : (ss : List (Step J)) → has_close ss ≡ false → jobs_handed_out (ss ++ one Take) ≡ with_tickets 0 (jobs_accepted ss)
  handed-take ss open' =
      let F : List (Step J) → List (ℕ × J) = λ xs. with_tickets 0 (take most (jobs_offered (before_last_take xs))) in
      ap F (open_part-append ss (one Take) open') ∙ (ap (λ xs. with_tickets 0 (take most (jobs_offered xs))) (before-take ss) ∙ ap (with_tickets 0) (sym (jobs_accepted-open ss open')))

  jobs_accepted-take : (ss : List (Step J)) → has_close ss ≡ false → jobs_accepted (ss ++ one Take) ≡ jobs_accepted ss
  jobs_accepted-take ss open' = ap (λ xs. take most (jobs_offered xs)) (open_part-append ss (one Take) open') ∙ (ap (take most) (jobs_offered-append ss (one Take) ∙ append-nil (jobs_offered ss)) ∙ sym (jobs_accepted-open ss open'))

  -- after a close nothing counts
  jobs_accepted-closed : (ss ts : List (Step J)) → has_close ss ≡ true → jobs_accepted (ss ++ ts) ≡ jobs_accepted ss
  jobs_accepted-closed ss ts closed = ap (λ xs. take most (jobs_offered xs)) (open_part-closed ss ts closed)

  handed-closed : (ss ts : List (Step J)) → has_close ss ≡ true → jobs_handed_out (ss ++ ts) ≡ jobs_handed_out ss
  handed-closed ss ts closed = ap (λ xs. with_tickets 0 (take most (jobs_offered (before_last_take xs)))) (open_part-closed ss ts closed)

  -- the close itself
  jobs_accepted-close : (ss : List (Step J)) → has_close ss ≡ false → jobs_accepted (ss ++ one Close) ≡ jobs_accepted ss
  jobs_accepted-close ss open' = ap (λ xs. take most (jobs_offered xs)) (open_part-append ss (one Close) open' ∙ (append-nil ss ∙ sym (open_part-open ss open')))

  handed-close : (ss : List (Step J)) → has_close ss ≡ false → jobs_handed_out (ss ++ one Close) ≡ jobs_handed_out ss
  handed-close ss open' = ap (λ xs. with_tickets 0 (take most (jobs_offered (before_last_take xs)))) (open_part-append ss (one Close) open' ∙ (append-nil ss ∙ sym (open_part-open ss open')))

  -- a step that changes neither queue nor account
  stays : (ss : List (Step J)) (s : Step J) (q : QueueState J (Unit {0})) (xs ys : List (Result ℕ Error)) (ts : List (ℕ × J)) → Kept ss q xs ts
      → has_close (ss ++ one s) ≡ has_close ss → jobs_accepted (ss ++ one s) ≡ jobs_accepted ss → jobs_handed_out (ss ++ one s) ≡ jobs_handed_out ss → ys ≡ answers_to_sends (ss ++ one s) → Kept (ss ++ one s) q ys ts
  stays ss s q xs ys ts kept same-close same-jobs_accepted same-handed answers =
      record {
        closed = kept.closed ∙ sym same-close;
        issued = kept.issued ∙ ap length (sym same-jobs_accepted);
        line = λ open'. kept.line open' ∙ ap (with_tickets 0) (sym same-jobs_accepted);
        taken = kept.taken ∙ sym same-handed;
        answers = answers;
      }

  -- what the answer of a send is
  answer-closed : (ss : List (Step J)) (bell : Result (Unit {0}) Errno) → has_close ss ≡ true → answer ss bell ≡ Err ChannelSend
  answer-closed ss bell closed = rw closed refl

  answer-full : (ss : List (Step J)) (bell : Result (Unit {0}) Errno) → has_close ss ≡ false → length (jobs_accepted ss) ≡ most → answer ss bell ≡ Err TicketsUsedUp
  answer-full ss bell open' full = rw (open', full) refl

  answer-answer_of_bell : (ss : List (Step J)) (bell : Result (Unit {0}) Errno) → has_close ss ≡ false → length (jobs_accepted ss) < most → answer ss bell ≡ answer_of_bell (length (jobs_accepted ss)) bell
  answer-answer_of_bell ss bell open' room = rw (open', lt-ltb (length (jobs_accepted ss)) most room) refl

  answers-send : (ss : List (Step J)) (job : J) (bell : Result (Unit {0}) Errno) (a : Result ℕ Error) (xs ys : List (Result ℕ Error)) → xs ≡ answers_to_sends ss → ys ≡ xs ++ (a ∷ []) → answer ss bell ≡ a → ys ≡ answers_to_sends (ss ++ one (Send job bell))
  answers-send ss job bell a xs ys was is gave = is ∙ (ap (λ zs. zs ++ (a ∷ [])) was ∙ (ap (λ b. answers_to_sends ss ++ (b ∷ [])) (sym gave) ∙ sym (answers-push [] ss (Send job bell))))

  tickets_and_jobs-push : (es : List (Entry J (Unit {0}))) (e : Entry J (Unit {0})) → tickets_and_jobs (es ++ (e ∷ [])) ≡ tickets_and_jobs es ++ ((e.ticket, e.job) ∷ [])
  tickets_and_jobs-push [] e = refl
  tickets_and_jobs-push (x ∷ es) e = ap (λ ys. (x.ticket, x.job) ∷ ys) (tickets_and_jobs-push es e)

  -- the n-th accepted job stands last in the queue
  joins : (ss : List (Step J)) (job : J) (u : Unit {0}) (q : QueueState J (Unit {0})) (xs ys : List (Result ℕ Error)) (ts : List (ℕ × J)) → Kept ss q xs ts
      → has_close ss ≡ false → q.issued < most → ys ≡ answers_to_sends (ss ++ one (Send job (Ok u))) → Kept (ss ++ one (Send job (Ok u))) (with_job q job None) ys ts
  joins ss job u q xs ys ts kept open' room answers =
      let issued = kept.issued in
      let more = jobs_accepted-more ss job u open' (omega arith) in
      let place : q.issued + 1 ≡ 0 + length (jobs_accepted ss) + 1 = omega arith in
      let entry : Entry J (Unit {0}) = record { ticket = q.issued + 1; job = job; slot = None } in
      record {
        closed = kept.closed ∙ (open' ∙ sym (has_close-append ss (one (Send job (Ok u))) open'));
        issued = omega (arith, ap length more, length-append (jobs_accepted ss) (job ∷ []));
        line = λ still. ap (λ zs. ts ++ zs) (tickets_and_jobs-push q.waiting entry) ∙ (sym (append_assoc ts (tickets_and_jobs q.waiting) ((q.issued + 1, job) ∷ [])) ∙ (ap (λ zs. zs ++ ((q.issued + 1, job) ∷ [])) (kept.line still) ∙ (ap (λ (k : ℕ). with_tickets 0 (jobs_accepted ss) ++ ((k, job) ∷ [])) place ∙ (sym (with_tickets-push 0 (jobs_accepted ss) job) ∙ ap (with_tickets 0) (sym more)))));
        taken = kept.taken ∙ sym (handed-send ss job (Ok u) open');
        answers = answers;
      }

  sends : (ss : List (Step J)) (job : J) (bell : Result (Unit {0}) Errno) (q r : QueueState J (Unit {0})) (xs ys : List (Result ℕ Error)) (ts : List (ℕ × J)) (a : Result ℕ Error) → Kept ss q xs ts
      → IsSend (λ (b : Result (Unit {0}) Errno). b ≡ bell) q job None a r → (a ≡ Err OutOfMemory → ⊥) → ys ≡ xs ++ (a ∷ []) → Kept (ss ++ one (Send job bell)) r ys ts
  sends ss job (Ok u) q r xs ys ts (Ok n) kept t sure is =
      let open' : has_close ss ≡ false = sym kept.closed ∙ t.0.0 in
      let room : length (jobs_accepted ss) < most = omega (arith, kept.issued, t.0.1) in
      let number : length (jobs_accepted ss) + 1 ≡ n = omega (arith, kept.issued, t.2) in
      let answers = answers-send ss job (Ok u) (Ok n) xs ys kept.answers is (answer-answer_of_bell ss (Ok u) open' room ∙ ap Ok number) in
      subst (λ (p : QueueState J (Unit {0})). Kept (ss ++ one (Send job (Ok u))) p ys ts) (sym t.3) (joins ss job u q xs ys ts kept open' t.0.1 answers)
  sends ss job (Err e) q r xs ys ts (Ok n) kept t sure is = let no = t.1 in cc
  sends ss job bell q r xs ys ts (Err ChannelSend) kept t sure is =
      let closed : has_close ss ≡ true = sym kept.closed ∙ t.0 in
      let same = stays ss (Send job bell) q xs ys ts kept (has_close-closed ss (one (Send job bell)) closed ∙ sym closed) (jobs_accepted-closed ss (one (Send job bell)) closed) (handed-closed ss (one (Send job bell)) closed) (answers-send ss job bell (Err ChannelSend) xs ys kept.answers is (answer-closed ss bell closed)) in
      subst (λ (p : QueueState J (Unit {0})). Kept (ss ++ one (Send job bell)) p ys ts) (sym t.1) same
  sends ss job bell q r xs ys ts (Err TicketsUsedUp) kept t sure is =
      let open' : has_close ss ≡ false = sym kept.closed ∙ t.0 in
      let full : length (jobs_accepted ss) ≡ most = sym kept.issued ∙ t.1 in
      let same = stays ss (Send job bell) q xs ys ts kept (has_close-append ss (one (Send job bell)) open' ∙ sym open') (jobs_accepted-full ss job bell open' full) (handed-send ss job bell open') (answers-send ss job bell (Err TicketsUsedUp) xs ys kept.answers is (answer-full ss bell open' full)) in
      subst (λ (p : QueueState J (Unit {0})). Kept (ss ++ one (Send job bell)) p ys ts) (sym t.2) same
  sends ss job bell q r xs ys ts (Err OutOfMemory) kept t sure is = absurd (sure refl)
  sends ss job (Err e) q r xs ys ts (Err (EventFd f)) kept t sure is =
      let open' : has_close ss ≡ false = sym kept.closed ∙ t.0.0 in
      let room : length (jobs_accepted ss) < most = omega (arith, kept.issued, t.0.1) in
      let told = t.1 in
      let number : e ≡ f = cc in
      let same = stays ss (Send job (Err e)) q xs ys ts kept (has_close-append ss (one (Send job (Err e))) open' ∙ sym open') (jobs_accepted-refused ss job e open') (handed-send ss job (Err e) open') (answers-send ss job (Err e) (Err (EventFd f)) xs ys kept.answers is (answer-answer_of_bell ss (Err e) open' room ∙ ap (λ (k : Errno). Err (EventFd k)) number)) in
      subst (λ (p : QueueState J (Unit {0})). Kept (ss ++ one (Send job (Err e))) p ys ts) (sym t.2) same
  sends ss job (Ok u) q r xs ys ts (Err (EventFd f)) kept t sure is = let no = t.1 in cc
  sends ss job bell q r xs ys ts (Err ChannelRecv) kept t sure is = absurd t
  sends ss job bell q r xs ys ts (Err (Epoll e)) kept t sure is = absurd t
  sends ss job bell q r xs ys ts (Err FdAlreadyRegistered) kept t sure is = absurd t
  sends ss job bell q r xs ys ts (Err InvalidId) kept t sure is = absurd t
  sends ss job bell q r xs ys ts (Err InvalidCapacity) kept t sure is = absurd t
  sends ss job bell q r xs ys ts (Err IdsUsedUp) kept t sure is = absurd t

  answers-other : (ss : List (Step J)) (s : Step J) (xs ys : List (Result ℕ Error)) → xs ≡ answers_to_sends ss → ys ≡ xs → answers_after ss (one s) ≡ [] → ys ≡ answers_to_sends (ss ++ one s)
  answers-other ss s xs ys was is none = is ∙ (was ∙ (sym (append-nil (answers_to_sends ss)) ∙ (ap (λ zs. answers_to_sends ss ++ zs) (sym none) ∙ sym (answers-push [] ss s))))

  takes : (ss : List (Step J)) (q : QueueState J (Unit {0})) (xs ys : List (Result ℕ Error)) (ts us : List (ℕ × J)) → (q.closed ≡ true → q.waiting ≡ []) → Kept ss q xs ts → ys ≡ xs → us ≡ ts ++ tickets_and_jobs q.waiting
      → (b : Bool) → has_close ss ≡ b → Kept (ss ++ one Take) (after_take q) ys us
  takes ss q xs ys ts us none_left kept is out true closed =
      let nothing : us ≡ ts = out ∙ (ap (λ es. ts ++ tickets_and_jobs es) (none_left (kept.closed ∙ closed)) ∙ append-nil ts) in
      record {
        closed = kept.closed ∙ (closed ∙ sym (has_close-closed ss (one Take) closed));
        issued = kept.issued ∙ ap length (sym (jobs_accepted-closed ss (one Take) closed));
        line = λ no. let bad = kept.closed in cc;
        taken = nothing ∙ (kept.taken ∙ sym (handed-closed ss (one Take) closed));
        answers = answers-other ss Take xs ys kept.answers is refl;
      }
  takes ss q xs ys ts us none_left kept is out false open' =
      let all : us ≡ with_tickets 0 (jobs_accepted ss) = out ∙ kept.line (kept.closed ∙ open') in
      record {
        closed = kept.closed ∙ (open' ∙ sym (has_close-append ss (one Take) open'));
        issued = kept.issued ∙ ap length (sym (jobs_accepted-take ss open'));
        line = λ _. append-nil us ∙ (all ∙ ap (with_tickets 0) (sym (jobs_accepted-take ss open')));
        taken = all ∙ sym (handed-take ss open');
        answers = answers-other ss Take xs ys kept.answers is refl;
      }

  closes : (ss : List (Step J)) (q : QueueState J (Unit {0})) (xs ys : List (Result ℕ Error)) (ts : List (ℕ × J)) → Kept ss q xs ts → ys ≡ xs
      → (b : Bool) → has_close ss ≡ b → Kept (ss ++ one Close) (after_close q) ys ts
  closes ss q xs ys ts kept is true closed =
      record {
        closed = sym (has_close-closed ss (one Close) closed);
        issued = kept.issued ∙ ap length (sym (jobs_accepted-closed ss (one Close) closed));
        line = λ no. cc;
        taken = kept.taken ∙ sym (handed-closed ss (one Close) closed);
        answers = answers-other ss Close xs ys kept.answers is refl;
      }
  closes ss q xs ys ts kept is false open' =
      record {
        closed = sym (has_close-append ss (one Close) open');
        issued = kept.issued ∙ ap length (sym (jobs_accepted-close ss open'));
        line = λ no. cc;
        taken = kept.taken ∙ sym (handed-close ss open');
        answers = answers-other ss Close xs ys kept.answers is refl;
      }

  pub more : (ss : List (Step J)) (s : Step J) (q r : QueueState J (Unit {0})) (xs ys : List (Result ℕ Error)) (ts us : List (ℕ × J)) → Kept ss q xs ts → IsReplayed s q xs ts r ys us → Kept (ss ++ one s) r ys us
  more ss (Send job bell) q r xs ys ts us kept t =
      subst (λ (vs : List (ℕ × J)). Kept (ss ++ one (Send job bell)) r ys vs) (sym t.4) (sends ss job bell q r xs ys ts t.0 kept t.1 t.2 t.3)
  more ss Take q r xs ys ts us kept t =
      subst (λ (p : QueueState J (Unit {0})). Kept (ss ++ one Take) p ys us) (sym t.0) (takes ss q xs ys ts us t.3 kept t.1 t.2 (has_close ss) refl)
  more ss Close q r xs ys ts us kept t =
      subst (λ (vs : List (ℕ × J)). Kept (ss ++ one Close) r ys vs) (sym t.2) (subst (λ (p : QueueState J (Unit {0})). Kept (ss ++ one Close) p ys ts) (sym t.0) (closes ss q xs ys ts kept t.1 (has_close ss) refl))
