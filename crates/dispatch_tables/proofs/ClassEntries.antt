-- The entries of one class, as they are written one after another, and those of all classes.
use Rattle.std.proofs.Common.{◌≡◌, ℕ, zero, suc, ◌+◌, ◌<◌, ◌≤◌, ◌==◌, refl, sym, ap, subst, ◌∙◌, List, [], ◌∷◌, ◌++◌, Bool, true, false, cond, arith, length, get_or, set, take, map, filter, append_assoc}
use Rattle.std.proofs.lemmas.List.{map-append, take_more_set, append-nil, length-append}
use Rattle.std.proofs.lemmas.List.Elements.{filter_more}
use Rattle.vmm_sys.specs.declared.entries.EpollEvent.{EpollEvent}
use Rattle.dispatch_tables.specs.Priority.{number_of}
use Rattle.dispatch_tables.specs.Event.{event_of_entry}
use Rattle.dispatch_tables.specs.Ownership.{OwnerMap, class_in}
use Rattle.dispatch_tables.specs.Classes.{numbered, classed_by, entries_of_class, AreAllLowest}
use Rattle.dispatch_tables.specs.ClassOrder.{of_class, IsOrdered}
use Rattle.dispatch_tables.specs.declared.dispatch_order.ClassedEntry.{ClassedEntry}
use Rattle.dispatch_tables.specs.declared.priority.Priority.{Priority}
use Rattle.dispatch_tables.specs.declared.priority.Priority.TheVariants.{Lowest, Low, High, Highest}
use Rattle.dispatch_tables.proofs.DispatchOrders.{nil_cons, head_is, tail_is, AreAtMost, lowest_descends, ordered_already, ordered_by_passes}

-- class: the number of the class of an item; entry: its entry
module _ {C E : Type 0} (class : C → ℕ) (entry : C → E) (n : ℕ) where
  abbrev those : List C → List E
  those items = map entry (filter (λ one. class one == n) items)

  one : (b : Bool) (x : C) → map entry (cond b (x ∷ []) []) ≡ cond b (entry x ∷ []) []
  one true x = refl
  one false x = refl

  those_more : (items : List C) (k : ℕ) (d : C) → k < length items → those (take (k + 1) items) ≡ those (take k items) ++ cond (class (get_or items k d) == n) (entry (get_or items k d) ∷ []) []
  those_more items k d below =
      ap (map entry) (filter_more (λ x. class x == n) items k d below) ∙ map-append entry (filter (λ x. class x == n) (take k items)) (cond (class (get_or items k d) == n) (get_or items k d ∷ []) [])
      ∙ ap (λ l. those (take k items) ++ l) (one (class (get_or items k d) == n) (get_or items k d))

  part : (items : List C) (k : ℕ) → length (those (take k items)) ≤ length (those items)
  part [] zero = omega arith
  part [] (suc k) = omega arith
  part (x ∷ items) zero = omega arith
  part (x ∷ items) (suc k) =
      elim (class x == n) as (λ b. length (map entry (cond b (x ∷ filter (λ y. class y == n) (take k items)) (filter (λ y. class y == n) (take k items)))) ≤ length (map entry (cond b (x ∷ filter (λ y. class y == n) items) (filter (λ y. class y == n) items)))) [
        | true ↦ omega (arith, part items k)
        | false ↦ part items k
      ]

  -- at an item of the class
  module _ (items : List C) (k : ℕ) (d : C) (below : k < length items) where
    pub other_is : (class (get_or items k d) == n) ≡ false → those (take (k + 1) items) ≡ those (take k items)
    other_is e = those_more items k d below ∙ ap (λ b. those (take k items) ++ cond b (entry (get_or items k d) ∷ []) []) e ∙ append-nil (those (take k items))

    module _ (e : (class (get_or items k d) == n) ≡ true) where
      pub one_is : those (take (k + 1) items) ≡ those (take k items) ++ entry (get_or items k d) ∷ []
      one_is = those_more items k d below ∙ ap (λ b. those (take k items) ++ cond b (entry (get_or items k d) ∷ []) []) e

      pub one_longer : length (those (take (k + 1) items)) ≡ length (those (take k items)) + 1
      one_longer = ap length one_is ∙ length-append (those (take k items)) (entry (get_or items k d) ∷ [])

      pub has_room : length (those (take k items)) < length (those items)
      has_room = omega (arith, one_longer, part items (k + 1))

      pub written : (buffer now : List E) (from to : ℕ) → to < length now → take to now ≡ take from buffer ++ those (take k items) → take (to + 1) (set now to (entry (get_or items k d))) ≡ take from buffer ++ those (take (k + 1) items)
      written buffer now from to room so_far =
          take_more_set now to (entry (get_or items k d)) room ∙ ap (λ l. l ++ entry (get_or items k d) ∷ []) so_far ∙ append_assoc (take from buffer) (those (take k items)) (entry (get_or items k d) ∷ [])
          ∙ ap (λ l. take from buffer ++ l) (sym one_is)

-- each entry is of one of the four classes
one_of_class : (n : ℕ) (one : ClassedEntry) (classed : List ClassedEntry) → length (entries_of_class n (one ∷ classed)) ≡ cond (number_of one.class == n) 1 0 + length (entries_of_class n classed)
one_of_class n one classed =
    elim (number_of one.class == n) as (λ b. length (map (λ x. x.entry) (cond b (one ∷ filter (λ x. number_of x.class == n) classed) (filter (λ x. number_of x.class == n) classed))) ≡ cond b 1 0 + length (entries_of_class n classed)) [
      | true ↦ omega arith
      | false ↦ omega arith
    ]

abbrev is_class : Priority → ℕ → ℕ
is_class class n = cond (number_of class == n) 1 0

one_class : (class : Priority) → is_class class 3 + (is_class class 2 + (is_class class 1 + is_class class 0)) ≡ 1
one_class Lowest = refl
one_class Low = refl
one_class High = refl
one_class Highest = refl

pub all_classes : (classed : List ClassedEntry) → length (entries_of_class 3 classed) + (length (entries_of_class 2 classed) + (length (entries_of_class 1 classed) + length (entries_of_class 0 classed))) ≡ length classed
all_classes [] = refl
all_classes (one ∷ classed) = omega (arith, one_of_class 3 one classed, one_of_class 2 one classed, one_of_class 1 one classed, one_of_class 0 one classed, one_class one.class, all_classes classed)

-- a priority's number is at most 3
pub at_most_3 : (class : Priority) → number_of class ≤ 3
at_most_3 Lowest = omega arith
at_most_3 Low = omega arith
at_most_3 High = omega arith
at_most_3 Highest = omega arith

-- what the list says of the events of a report
module _ (owners : OwnerMap) where
  abbrev class : ℕ → ℕ
  class fd = class_in owners fd

  one_event : (b : Bool) (one : ClassedEntry) (rest : List ClassedEntry) → map event_of_entry (map (λ x. x.entry) (cond b (one ∷ rest) rest)) ≡ cond b (event_of_entry one.entry ∷ map event_of_entry (map (λ x. x.entry) rest)) (map event_of_entry (map (λ x. x.entry) rest))
  one_event true one rest = refl
  one_event false one rest = refl

  events_as : (n : ℕ) (classed : List ClassedEntry) (es : List EpollEvent) → map numbered classed ≡ map (classed_by owners) es → map event_of_entry (entries_of_class n classed) ≡ of_class class n (map event_of_entry es)
  events_as n [] [] h = refl
  events_as n [] (e ∷ es) h = absurd (nil_cons _ _ h)
  events_as n (one ∷ classed) [] h = absurd (nil_cons _ _ (sym h))
  events_as n (one ∷ classed) (e ∷ es) h =
      let same = head_is _ _ _ _ h in
      let rest = events_as n classed es (tail_is _ _ _ _ h) in
      one_event (number_of one.class == n) one (filter (λ x. number_of x.class == n) classed)
      ∙ (λ k. cond ((same k).0 == n) (event_of_entry (same k).1 ∷ rest k) (rest k))

  events_at_most_3 : (classed : List ClassedEntry) (es : List EpollEvent) → map numbered classed ≡ map (classed_by owners) es → AreAtMost class 3 (map event_of_entry es)
  events_at_most_3 [] [] h = tt
  events_at_most_3 [] (e ∷ es) h = absurd (nil_cons _ _ h)
  events_at_most_3 (one ∷ classed) [] h = absurd (nil_cons _ _ (sym h))
  events_at_most_3 (one ∷ classed) (e ∷ es) h =
      let same = head_is _ _ _ _ h in
      (subst (λ n. n ≤ 3) (ap (λ (p : ℕ × EpollEvent). p.0) same) (at_most_3 one.class), events_at_most_3 classed es (tail_is _ _ _ _ h))

  pub same_length : (classed : List ClassedEntry) (es : List EpollEvent) → map numbered classed ≡ map (classed_by owners) es → length classed ≡ length es
  same_length [] [] h = refl
  same_length [] (e ∷ es) h = absurd (nil_cons _ _ h)
  same_length (one ∷ classed) [] h = absurd (nil_cons _ _ (sym h))
  same_length (one ∷ classed) (e ∷ es) h = ap suc (same_length classed es (tail_is _ _ _ _ h))

  lowest_events : (classed : List ClassedEntry) (es : List EpollEvent) → map numbered classed ≡ map (classed_by owners) es → AreAllLowest classed → AreAtMost class 0 (map event_of_entry es)
  lowest_events [] [] h low = tt
  lowest_events [] (e ∷ es) h low = absurd (nil_cons _ _ h)
  lowest_events (one ∷ classed) [] h low = absurd (nil_cons _ _ (sym h))
  lowest_events (one ∷ classed) (e ∷ es) h low =
      let same = ap (λ (p : ℕ × EpollEvent). p.0) (head_is _ _ _ _ h) in
      (omega (arith, same, low 0 one (omega arith)), lowest_events classed es (tail_is _ _ _ _ h) (λ k d l. low (suc k) d (omega (arith, l))))

  -- where all are of the lowest class, the report is in order
  pub lowest_in_order : (classed : List ClassedEntry) (es : List EpollEvent) → map numbered classed ≡ map (classed_by owners) es → AreAllLowest classed → IsOrdered class (map event_of_entry es) (map event_of_entry es)
  lowest_in_order classed es h low = ordered_already class (map event_of_entry es) (lowest_descends class (map event_of_entry es) (lowest_events classed es h low))

  -- and otherwise once the classes are written one after another
  pub written_in_order : (classed : List ClassedEntry) (es now : List EpollEvent) → map numbered classed ≡ map (classed_by owners) es → now ≡ entries_of_class 3 classed ++ (entries_of_class 2 classed ++ (entries_of_class 1 classed ++ entries_of_class 0 classed)) → IsOrdered class (map event_of_entry es) (map event_of_entry now)
  written_in_order classed es now h is =
      let joined = ap (map event_of_entry) is
      ∙ map-append event_of_entry (entries_of_class 3 classed) (entries_of_class 2 classed ++ (entries_of_class 1 classed ++ entries_of_class 0 classed))
      ∙ ap (λ l. map event_of_entry (entries_of_class 3 classed) ++ l) (map-append event_of_entry (entries_of_class 2 classed) (entries_of_class 1 classed ++ entries_of_class 0 classed))
      ∙ ap (λ l. map event_of_entry (entries_of_class 3 classed) ++ (map event_of_entry (entries_of_class 2 classed) ++ l)) (map-append event_of_entry (entries_of_class 1 classed) (entries_of_class 0 classed))
      ∙ (λ k. events_as 3 classed es h k ++ (events_as 2 classed es h k ++ (events_as 1 classed es h k ++ events_as 0 classed es h k)))
      in
      subst (λ l. IsOrdered class (map event_of_entry es) l) (sym joined) (ordered_by_passes class (map event_of_entry es) (events_at_most_3 classed es h))
