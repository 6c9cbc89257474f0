-- Whether an interest passes, by the first marked slot.
use Rattle.vmm_sys.proofs.Prelude.{◌≡◌, ℕ, zero, suc, ◌<◌, ◌≤◌, Bool, true, false, List, [], ◌∷◌, length, Option, Some, None, refl, ap, sym, ◌∙◌, arith, inl, inr, ltb, find, is_some, cases_lt, false≢true, lt-ltb, le-ltb, get_or_past, held, InterestsState, slot_at, passes, AreMarked, NoneFrom, IsFirstFrom, get_or_from_slice_get}
use Rattle.vmm_sys.specs.declared.table.interests.Interest.{Interest}
use Rattle.vmm_sys.proofs.Walked.{NoneIn, none_find, bare_fails}

found_by : (b : Bool) (p : Interest → Bool) (i : Interest) (slots : List (Option Interest)) → p i ≡ b → is_some (find p (held slots)) ≡ true → is_some (find p (held (Some i ∷ slots))) ≡ true
found_by true p i slots e h = simp e refl
found_by false p i slots e h = simp e h

-- where a slot's interest passes, one is found
found_at : (p : Interest → Bool) (slots : List (Option Interest)) (s : ℕ) → passes p (slot_at slots s) ≡ true → is_some (find p (held slots)) ≡ true
found_at p [] s e = absurd (false≢true e)
found_at p (None ∷ slots) zero e = absurd (false≢true e)
found_at p (Some i ∷ slots) zero e = simp e refl
found_at p (None ∷ slots) (suc s) e = found_at p slots s e
found_at p (Some i ∷ slots) (suc s) e = found_by (p i) p i slots refl (found_at p slots s e)

module _ (p : Interest → Bool) (now : InterestsState) (marked : AreMarked p now) where
  -- the first marked slot is in use: its interest passes
  pub some_passes : (s : ℕ) → IsFirstFrom now.marks 0 s → s < length now.slots → is_some (find p (held now.slots)) ≡ true
  some_passes s first used = found_at p now.slots s (sym (marked s used) ∙ get_or_from_slice_get now.marks s true false first.marked)

  -- no slot is marked: none passes
  pub none_passes : NoneFrom now.marks 0 → is_some (find p (held now.slots)) ≡ false
  none_passes none = ap is_some (none_find p now.slots (λ s. bare_fails p now marked s (none s (omega arith))))

  past_fails : (s : ℕ) → IsFirstFrom now.marks 0 s → length now.slots ≤ s → NoneIn p now.slots
  past_fails s first past t = elim (cases_lt t s) [
    | inl before ↦ bare_fails p now marked t (first.first t (omega arith) before)
    | inr behind ↦ ap (passes p) (get_or_past now.slots t None (omega (arith, past, behind)))
  ]

  -- the first marked slot is behind those in use: none passes
  pub past_passes : (s : ℕ) → IsFirstFrom now.marks 0 s → length now.slots ≤ s → is_some (find p (held now.slots)) ≡ false
  past_passes s first past = ap is_some (none_find p now.slots (past_fails s first past))

  pub passes_by : (s : ℕ) → IsFirstFrom now.marks 0 s → ltb s (length now.slots) ≡ is_some (find p (held now.slots))
  passes_by s first = elim (cases_lt s (length now.slots)) [
    | inl used ↦ lt-ltb s (length now.slots) used ∙ sym (some_passes s first used)
    | inr past ↦ le-ltb s (length now.slots) past ∙ sym (past_passes s first past)
  ]
