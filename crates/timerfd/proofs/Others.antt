-- Entries of a buffer, but for that of the timers' own counter: those that a loop has passed stand in front.
use Rattle.std.proofs.Common.{◌≡◌, ℕ, ◌+◌, ◌<◌, ◌≤◌, true, false, not, List, [], ◌∷◌, ◌++◌, length, take, drop, get_or, set, refl, ap, sym, ◌∙◌, subst, arith}
use Rattle.std.proofs.lemmas.List.{take_more, take_more_set, get_or-drop, drop-drop, drop-set-lt, length-set, length-append, append-nil}
use Rattle.std.proofs.lemmas.List.Elements.{filter-append}
use Rattle.vmm_sys.specs.declared.entries.EpollEvent.{EpollEvent}
use Rattle.timerfd.specs.TimedPoller.{is_alarm, others_of}

-- the first `at` entries have been passed: the others among them stand in front, and the entries behind are as they were
pub record Passed (before now : List EpollEvent) (at kept : ℕ) : Type 0 where
  pub room : length now ≡ length before
  pub behind : kept ≤ at
  pub count : kept ≡ length (others_of (take at before))
  pub front : take kept now ≡ others_of (take at before)
  pub rest : drop at now ≡ drop at before

pub passed_none : (before : List EpollEvent) → Passed before before 0 0
passed_none before = record { room = refl; behind = omega arith; count = refl; front = refl; rest = refl }

module _ (before now : List EpollEvent) (at kept : ℕ) (h : Passed before now at kept) (within : at < length before) (d : EpollEvent) where
  -- the next entry is that of the buffer before
  pub next : get_or now at d ≡ get_or before at d
  next =
      let at_it : at + 0 ≡ at = omega arith in
      let first : get_or now (at + 0) d ≡ get_or before (at + 0) d = sym (get_or-drop at now 0 d) ∙ ap (λ l. get_or l 0 d) h.rest ∙ get_or-drop at before 0 d in
      subst (λ n. get_or now n d ≡ get_or before n d) at_it first

  rest_more : drop (at + 1) now ≡ drop (at + 1) before
  rest_more = sym (drop-drop 1 at now) ∙ ap (drop 1) h.rest ∙ drop-drop 1 at before

  more : others_of (take (at + 1) before) ≡ others_of (take at before) ++ others_of (get_or before at d ∷ [])
  more = ap others_of (take_more before at d within) ∙ filter-append (λ e. not (is_alarm e)) (take at before) (get_or before at d ∷ [])

  -- the counter's own entry is left out
  pub passed_alarm : is_alarm (get_or now at d) ≡ true → Passed before now (at + 1) kept
  passed_alarm is =
      let is' : is_alarm (get_or before at d) ≡ true = rw next at is in
      let same : others_of (take (at + 1) before) ≡ others_of (take at before) = more ∙ simp (is', append-nil) refl in
      record { room = h.room; behind = omega (arith, h.behind); count = h.count ∙ ap length (sym same); front = h.front ∙ sym same; rest = rest_more }

  -- another entry stands behind those in front
  pub passed_other : is_alarm (get_or now at d) ≡ false → Passed before (set now kept (get_or now at d)) (at + 1) (kept + 1)
  passed_other is =
      let e = get_or now at d in
      let is' : is_alarm (get_or before at d) ≡ false = rw next at is in
      let longer : others_of (take (at + 1) before) ≡ others_of (take at before) ++ e ∷ [] = more ∙ simp is' (ap (λ x. others_of (take at before) ++ x ∷ []) (sym next)) in
      let room : kept < length now = omega (arith, h.behind, h.room, within) in
      record {
        room = length-set now kept e ∙ h.room;
        behind = omega (arith, h.behind);
        count = rw longer (omega (arith, h.count, length-append (others_of (take at before)) (e ∷ [])));
        front = take_more_set now kept e room ∙ ap (λ l. l ++ e ∷ []) h.front ∙ sym longer;
        rest = drop-set-lt (at + 1) now kept e (omega (arith, h.behind)) ∙ rest_more;
      }
