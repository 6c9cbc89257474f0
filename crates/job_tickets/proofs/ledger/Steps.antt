-- The ghost steps of a ledger. Each opens the invariant round updates of rows. Assumes `Logic`.
use mathlib.Core.Path.{◌≡◌, subst}
use mathlib.Core.List.{List, [], ◌∷◌}
use Prim.Native.Nat.{ℕ, suc, ◌+◌, ◌≤◌}
use native.Mathlib.Omega.{arith}
use seplogic.Ra.Ura.{Ura}
use lib.ListN.{set}
use base.Logic.{SProp, ent, sep, emp, guard, upd, upd_i}
use base.Fml.{Fml, ftrue, finv}
use types.Logic.{Logic, sem}
use types.Kit.{‵, raw, ◌⊛◌, given, later, ◌$◌, ◌∵◌, !, qed, by, move, drop, split, join, fsplit, fjoin, fpick, fpack, learn, suffices, done, use1, use2, settle, frame, check, assume, await, updating, now}
use denote.Steps.{nothing}
use Rattle.std.specs.Sync.Ledger.{chain, row, IsBalanced, state, Rule, book_owns, share_owns}
use Rattle.job_tickets.proofs.ledger.Sums.{HasRow, Backed, Audited, parts_of_set, amount_of_set, backed_set, backed_row, audited_row}
use Rattle.job_tickets.proofs.ledger.Rows.{row_set}

module _ {M : Type 1} {𝓤 : Ura M} (𝓛 : Logic 𝓤) where
  open 𝓛 use {H, A}

  abbrev ⟦◌⟧ : Fml → SProp 𝓤
  ⟦ P ⟧ = sem 𝓛 P

  abbrev ◌∗◌ : SProp 𝓤 → SProp 𝓤 → SProp 𝓤
  P ∗ Q = sep 𝓤 P Q

  abbrev ◌⊢◌ : SProp 𝓤 → SProp 𝓤 → Type 1
  P ⊢ Q = ent 𝓤 P Q

  infix 26 ◌⊢◌
  infixr 35 ◌∗◌
  basic : (Q : SProp 𝓤) → upd 𝓤 Q ⊢ H.⇛ Q
  basic Q = qed 𝓛 (raw (upd 𝓤 Q) ∷ []) ∵ updating ! $ nothing ! $ use1 𝓛 (later (‵ (finv ftrue))) (𝓛.invs.inv_new ftrue) $ await ! tt $
      by ! (qed 𝓛 (‵ (finv ftrue) ∷ raw (upd 𝓤 Q) ∷ []) ∵ suffices ! _ (𝓛.invs.inv_acc ftrue Q) $ frame ! $ assume ! (‵ ftrue) $ move ! (1 ∷ []) $ settle 𝓛 (emp 𝓤 ∗ Q) (raw Q) $ suffices ! _ (upd_i 𝓤 (emp 𝓤 ∗ Q)) $ move ! (1 ∷ 0 ∷ []) $ done !)

  module _ (γ parts : ℕ) where
    abbrev I : Fml
    I = Rule γ parts

    abbrev rows : ℕ → List (ℕ × ℕ) → Fml
    rows t xs = chain ((0, t) ∷ xs) γ

    kept : (t : ℕ) (xs : List (ℕ × ℕ)) → IsBalanced parts (t, xs) → ⟦ rows t xs ⟧ ⊢ ⟦ I ⟧
    kept t xs ok = qed 𝓛 (‵ (rows t xs) ∷ []) ∵ nothing ! $ fpack ! (IsBalanced parts (t, xs)) (λ _. ftrue) ok $ move ! (1 ∷ 0 ∷ []) $ fjoin ! $ fpack ! (ℕ × List (ℕ × ℕ)) (state γ parts) (t, xs) $ done !

    inside : (X Q : SProp 𝓤) → ((t : ℕ) (xs : List (ℕ × ℕ)) → IsBalanced parts (t, xs) → ⟦ rows t xs ⟧ ∗ X ⊢ upd 𝓤 (⟦ I ⟧ ∗ Q)) → A.inv I ∗ X ⊢ H.⇛ Q
    inside X Q k = qed 𝓛 (‵ (finv I) ∷ raw X ∷ []) ∵ suffices ! _ (𝓛.invs.inv_acc I Q) $ frame ! $ assume ! (‵ I) $ fpick ! (λ s. fsplit ! $ move ! (1 ∷ []) $ fpick ! (λ ok. drop ! $ by ! (k s.0 s.1 ok)))

    -- the share's row i goes from x to y, before the rest
    sets : (t : ℕ) (xs : List (ℕ × ℕ)) (i : ℕ) (x y : ℕ × ℕ) (R Z : SProp 𝓤) → (HasRow xs i x → ⟦ rows t (set xs i y) ⟧ ∗ ⟦ row (suc i) y γ ⟧ ∗ R ⊢ upd 𝓤 Z) → ⟦ rows t xs ⟧ ∗ ⟦ row (suc i) x γ ⟧ ∗ R ⊢ upd 𝓤 Z
    sets t xs i x y R Z k = qed 𝓛 (‵ (rows t xs) ∷ ‵ (row (suc i) x γ) ∷ raw R ∷ []) ∵ use2 𝓛 (raw (upd 𝓤 (guard 𝓤 (HasRow xs i x) (⟦ rows t (set xs i y) ⟧ ∗ ⟦ row (suc i) y γ ⟧)))) (row_set 𝓛 ((0, t) ∷ xs) (suc i) x y γ) $
        settle 𝓛 Z (given (HasRow xs i x) (‵ (rows t (set xs i y)) ⊛ ‵ (row (suc i) y γ))) $ learn ! (λ has. split ! $ by ! (k has))

    shared : (i : ℕ) (x : ℕ × ℕ) → A.inv I ∗ ⟦ row (suc i) x γ ⟧ ⊢ ⟦ share_owns γ parts x.0 x.1 ⟧
    unfolding share_owns
    shared i x = qed 𝓛 (‵ (finv I) ∷ ‵ (row (suc i) x γ) ∷ []) ∵ move ! (1 ∷ []) $ fpack ! ℕ (λ j. row (suc j) x γ) i $ move ! (1 ∷ 0 ∷ []) $ done !

    abbrev twice : A.inv I ⊢ A.inv I ∗ A.inv I
    twice = 𝓛.invs.inv_dup I

    -- the book and a share change by the same amount
    pub records : (total total' : ℕ) (x y : ℕ × ℕ) → y.0 ≡ x.0 → (Backed x → Backed y) → (x.1 ≤ total → total' + x.1 ≡ total + y.1)
        → ⟦ book_owns γ parts total ⟧ ∗ ⟦ share_owns γ parts x.0 x.1 ⟧ ⊢ H.⇛ (guard 𝓤 (Audited parts total x) (⟦ book_owns γ parts total' ⟧ ∗ ⟦ share_owns γ parts y.0 y.1 ⟧))
    unfolding book_owns share_owns
    records total total' x y same backed moved = qed 𝓛 (‵ (book_owns γ parts total) ∷ ‵ (share_owns γ parts x.0 x.1) ∷ []) ∵ updating ! $ fsplit ! $ move ! (2 ∷ []) $ fsplit ! $ move ! (1 ∷ []) $ fpick ! (λ i.
        let b : Fml = row 0 (0, total) γ in let b' : Fml = row 0 (0, total') γ in let Q : SProp 𝓤 = guard 𝓤 (Audited parts total x) (⟦ b' ⟧ ∗ ⟦ row (suc i) y γ ⟧) in
        move ! (0 ∷ 3 ∷ []) $ join ! $ move ! (1 ∷ []) $ use1 𝓛 (‵ (finv I) ⊛ ‵ (finv I)) twice $ split ! $ move ! (0 ∷ 2 ∷ []) $
        use2 𝓛 (later (given (Audited parts total x) (‵ b' ⊛ ‵ (row (suc i) y γ)))) (inside (⟦ row (suc i) x γ ⟧ ∗ ⟦ b ⟧) Q (λ t xs ok. sets t xs i x y ⟦ b ⟧ (⟦ I ⟧ ∗ Q) (λ has.
        qed 𝓛 (‵ (rows t (set xs i y)) ∷ ‵ (row (suc i) y γ) ∷ ‵ b ∷ []) ∵ move ! (0 ∷ 2 ∷ []) $
        use2 𝓛 (raw (upd 𝓤 (guard 𝓤 ((0, t) ≡ (0, total)) (⟦ rows total' (set xs i y) ⟧ ∗ ⟦ b' ⟧)))) (row_set 𝓛 ((0, t) ∷ set xs i y) 0 (0, total) (0, total') γ) $
        settle 𝓛 (⟦ I ⟧ ∗ Q) (given ((0, t) ≡ (0, total)) (‵ (rows total' (set xs i y)) ⊛ ‵ b')) $ learn ! (λ e. split ! $
        let is : t ≡ total = λ j. (e j).1 in let seen = subst (λ (u : ℕ). Audited parts u x) is (audited_row parts t xs i x has ok) in
        let p = parts_of_set xs i x y has in let a = amount_of_set xs i x y has in let all = ok.0 in let sum = ok.1 in let by-as-much = moved seen.0 in
        use1 𝓛 (‵ I) (kept total' (set xs i y) (omega arith, omega arith, backed_set xs i y (backed (backed_row xs i x has ok.2)) ok.2)) $ suffices ! _ (upd_i 𝓤 (⟦ I ⟧ ∗ Q)) $ frame ! $ check ! seen $ done !)))) $
        await ! tt $ learn ! (λ seen. split ! $ now ! $ check ! seen $ move ! (2 ∷ 0 ∷ []) $ fjoin ! $ frame ! $ move ! (1 ∷ 0 ∷ []) $ by ! (shared i y)))
