-- Marks at slots: which tests they stand for, and what a change keeps of that.
use Rattle.vmm_sys.proofs.Prelude.{◌≡◌, ◌≢◌, ℕ, ◌+◌, ◌<◌, ◌≤◌, Bool, true, false, inl, inr, List, [], ◌∷◌, ◌++◌, length, get_or, set, refl, ap, ◌∙◌, sym, subst, arith, Option, Some, None, cases_eq, cases_Bool, get_or-set_same, get_or-set_other, length-set, length_push, set_at, none-some, slot_at, NoneHolds, AloneHolds, passes, AgreeBut}
use Rattle.vmm_sys.specs.declared.table.interests.Interest.{Interest}
use Rattle.vmm_sys.proofs.Held.{slot-within, slot-grown}
use Rattle.vmm_sys.proofs.Slots.{holds-by}

-- the marked ones of the slots in use are those whose interest passes
abbrev pub Fit : (Interest → Bool) → List Bool → List (Option Interest) → Type 0
Fit p marks slots = (s : ℕ) → s < length slots → get_or marks s false ≡ passes p (slot_at slots s)

-- or of all but slot n
abbrev pub FitBut : ℕ → (Interest → Bool) → List Bool → List (Option Interest) → Type 0
FitBut n p marks slots = (s : ℕ) → s < length slots → s ≢ n → get_or marks s false ≡ passes p (slot_at slots s)

-- what is changed of a slot changes no length
in-use : (slots : List (Option Interest)) (s t : ℕ) (o : Option Interest) → t < length (set slots s o) → t < length slots
in-use slots s t o lt = subst (λ n. t < n) (length-set slots s o) lt

-- slots with the same at each number, and no more of them
pub fit-same : (p : Interest → Bool) (marks : List Bool) (slots rows : List (Option Interest)) → length rows ≤ length slots → ((s : ℕ) → slot_at rows s ≡ slot_at slots s) → Fit p marks slots → Fit p marks rows
fit-same p marks slots rows le e h s lt = h s (omega (arith, le, lt)) ∙ ap (passes p) (sym (e s))

-- marks that are the same at each number
pub fit-marks : (p : Interest → Bool) (marks ms : List Bool) (slots : List (Option Interest)) → ((s : ℕ) → get_or ms s false ≡ get_or marks s false) → Fit p marks slots → Fit p ms slots
fit-marks p marks ms slots e h s lt = e s ∙ h s lt

-- a slot is marked by what it holds from now on
pub fit-put : (p : Interest → Bool) (marks : List Bool) (slots : List (Option Interest)) (s : ℕ) (o : Option Interest) (b : Bool) → FitBut s p marks slots → s < length marks → s < length slots → passes p o ≡ b → Fit p (set marks s b) (set slots s o)
fit-put p marks slots s o b h lt le e t tl =
    elim (cases_eq t s) [
      | inl d ↦ ap (λ u. get_or (set marks s b) u false) d ∙ get_or-set_same marks s b false lt ∙ sym e ∙ ap (passes p) (sym (ap (slot_at (set slots s o)) d ∙ get_or-set_same slots s o None le))
      | inr d ↦ get_or-set_other marks s t b false d ∙ h t (in-use slots s t o tl) d ∙ ap (passes p) (sym (get_or-set_other slots s t o None d))
    ]

-- and then still is, of all but slot n
pub fit-put-but : (n : ℕ) (p : Interest → Bool) (marks : List Bool) (slots : List (Option Interest)) (s : ℕ) (o : Option Interest) (b : Bool) → FitBut n p marks slots → s < length marks → s < length slots → passes p o ≡ b → FitBut n p (set marks s b) (set slots s o)
fit-put-but n p marks slots s o b h lt le e t tl but =
    elim (cases_eq t s) [
      | inl d ↦ ap (λ u. get_or (set marks s b) u false) d ∙ get_or-set_same marks s b false lt ∙ sym e ∙ ap (passes p) (sym (ap (slot_at (set slots s o)) d ∙ get_or-set_same slots s o None le))
      | inr d ↦ get_or-set_other marks s t b false d ∙ h t (in-use slots s t o tl) but ∙ ap (passes p) (sym (get_or-set_other slots s t o None d))
    ]

-- and needs no other mark where it has that one
pub fit-keep : (n : ℕ) (p : Interest → Bool) (marks : List Bool) (slots : List (Option Interest)) (s : ℕ) (o : Option Interest) → FitBut n p marks slots → s < length slots → get_or marks s false ≡ passes p o → FitBut n p marks (set slots s o)
fit-keep n p marks slots s o h le e t tl but =
    elim (cases_eq t s) [
      | inl d ↦ ap (λ u. get_or marks u false) d ∙ e ∙ ap (passes p) (sym (ap (slot_at (set slots s o)) d ∙ get_or-set_same slots s o None le))
      | inr d ↦ h t (in-use slots s t o tl) but ∙ ap (passes p) (sym (get_or-set_other slots s t o None d))
    ]

-- tests that agree on what a slot holds
agree : (p q : Interest → Bool) (o : Option Interest) → ((i : Interest) → o ≡ Some i → p i ≡ q i) → passes p o ≡ passes q o
agree p q None h = refl
agree p q (Some i) h = h i refl

-- another test that says the same of all that is held
pub fit-agree : (p q : Interest → Bool) (marks : List Bool) (slots : List (Option Interest)) → Fit p marks slots → ((s : ℕ) (i : Interest) → slot_at slots s ≡ Some i → p i ≡ q i) → Fit q marks slots
fit-agree p q marks slots h e s lt = h s lt ∙ agree p q (slot_at slots s) (e s)

-- or of all but the interest of n, which isn't there
pub fit-none : (n : ℕ) (p q : Interest → Bool) (marks : List Bool) (slots : List (Option Interest)) → Fit p marks slots → AgreeBut n p q → NoneHolds slots n → Fit q marks slots
fit-none n p q marks slots h e none = fit-agree p q marks slots h (λ s i at. e i (λ d. none s (holds-by slots s n i at d)))

-- or is marked anew
pub fit-renew : (n s : ℕ) (i : Interest) (p q : Interest → Bool) (marks : List Bool) (slots : List (Option Interest)) → Fit p marks slots → AgreeBut n p q → AloneHolds slots s n → slot_at slots s ≡ Some i → s < length marks → Fit q (set marks s (q i)) slots
fit-renew n s i p q marks slots h e only at lt t tl =
    elim (cases_eq t s) [
      | inl d ↦ ap (λ u. get_or (set marks s (q i)) u false) d ∙ get_or-set_same marks s (q i) false lt ∙ ap (passes q) (sym (ap (slot_at slots) d ∙ at))
      | inr d ↦ get_or-set_other marks s t (q i) false d ∙ h t tl ∙ agree p q (slot_at slots t) (λ j is. e j (λ m. d (only.alone t (holds-by slots t n j is m))))
    ]

-- one more slot, which is empty and may be marked
pub fit-grown : (p : Interest → Bool) (marks : List Bool) (slots : List (Option Interest)) → Fit p marks slots → FitBut (length slots) p marks (slots ++ None ∷ [])
fit-grown p marks slots h s lt but =
    let more : length (slots ++ None ∷ []) ≡ length slots + 1 = length_push slots None in
    h s (omega (arith, lt, but)) ∙ ap (passes p) (sym (slot-grown slots s))

-- the mark goes with the interest that is moved to an empty slot, whatever mark that has
pub fit-shift : (p : Interest → Bool) (marks ms : List Bool) (slots : List (Option Interest)) (from to : ℕ) (i : Interest) → FitBut to p marks slots → slot_at slots from ≡ Some i → slot_at slots to ≡ None → from < length marks → to < length marks → to < length slots →
    (get_or marks from false ≡ true → ms ≡ set (set marks from false) to true) → (get_or marks from false ≡ false → ms ≡ set marks to false) → Fit p ms (set (set slots from None) to (Some i))
fit-shift p marks ms slots from to i h at empty lf lt ls on off =
    let within = slot-within slots from i at in
    let apart : from ≢ to = λ e. none-some i (sym empty ∙ ap (slot_at slots) (sym e) ∙ at) in
    let is : get_or marks from false ≡ p i = h from within apart ∙ ap (passes p) at in
    let le : to < length (set slots from None) = rw (length-set slots from None) ls in
    elim (cases_Bool (p i)) [
      | inl b ↦
          let bare = fit-put-but to p marks slots from None false h lf within refl in
          subst (λ m. Fit p m (set (set slots from None) to (Some i))) (sym (on (is ∙ b))) (fit-put p (set marks from false) (set slots from None) to (Some i) true bare (rw (length-set marks from false) lt) le b)
      | inr b ↦
          let bare = fit-keep to p marks slots from None h within (is ∙ b) in
          subst (λ m. Fit p m (set (set slots from None) to (Some i))) (sym (off (is ∙ b))) (fit-put p marks (set slots from None) to (Some i) false bare lt le b)
    ]

-- an interest that is put last is marked after that
pub fit-push : (p : Interest → Bool) (marks : List Bool) (slots : List (Option Interest)) (i : Interest) (b : Bool) → Fit p marks slots → length slots < length marks → p i ≡ b → Fit p (set marks (length slots) b) (slots ++ Some i ∷ [])
fit-push p marks slots i b h lt e =
    let rows : List (Option Interest) = slots ++ None ∷ [] in
    let more = length_push slots None in
    let r = fit-put p marks rows (length slots) (Some i) b (fit-grown p marks slots h) lt (omega arith) e in
    subst (Fit p (set marks (length slots) b)) (set_at slots None [] (Some i) (length slots) refl) r
